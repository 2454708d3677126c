-- The steps of a pass keep its state, and its end is settled.
use Rattle.std.proofs.Common.{◌≡◌, ℕ, ◌<◌, Bool, true, false, ◌⊎◌, sym, refl, ap, ◌∙◌, subst, inl, inr, ⊎_elim, arith}
use Rattle.std.proofs.lemmas.Bool.{cases_Bool, cases_eq, both_ways}
use Rattle.planner.specs.Pass.{Stage, turn_stage, Kept, State, Chosen, Renamed, Settled}

-- who is free is ranked, and numbers start at 1
pub record Ranked (S : Stage) : Type 0 where
  pub total : (a b : ℕ) → S.members a ≡ true → S.members b ≡ true → S.reaches a b ≡ false → S.reaches b a ≡ true
  pub transitive : (a b c : ℕ) → S.reaches a b ≡ true → S.reaches b c ≡ true → S.reaches a c ≡ true
  pub member : (a : ℕ) → S.members a ≡ true → 0 < a
  pub number : (s : ℕ) → S.slots s ≡ true → 0 < s

-- slot_of has the slot of each member, member_in the member in each slot: 0 is none
pub record Paired (slot_of member_in : ℕ → ℕ) : Type 0 where
  pub there : (x s : ℕ) → 0 < x → 0 < s → slot_of x ≡ s → member_in s ≡ x
  pub back : (x s : ℕ) → 0 < x → 0 < s → member_in s ≡ x → slot_of x ≡ s

-- the root is done, and others as before
pub record Done (done done' : ℕ → Bool) (root : ℕ) : Type 0 where
  pub here : done' root ≡ true
  pub others : (x : ℕ) → (x ≡ root → ⊥) → done' x ≡ done x

-- a search ran dry: `reached` is whom it came to
pub record Dry (S : Stage) (slot_of member_in names : ℕ → ℕ) (root : ℕ) (reached : ℕ → Bool) : Type 0 where
  pub start : reached root ≡ true
  pub free : (x : ℕ) → reached x ≡ true → S.members x ≡ true
  pub high : (x : ℕ) → reached x ≡ true → S.reaches x root ≡ true
  pub placed : (x : ℕ) → reached x ≡ true → slot_of x ≡ 0 → x ≡ root
  pub closed : (x s : ℕ) → reached x ≡ true → S.slots s ≡ true → S.allowed x s ≡ true → (0 < member_in s) × ((reached (member_in s) ≡ true) ⊎ (0 < names (member_in s)))

-- a path was found, and applied
pub record Flipped (S : Stage) (slot_of member_in names : ℕ → ℕ) (root : ℕ) (slot_of' member_in' : ℕ → ℕ) : Type 0 where
  pub paired : Paired slot_of' member_in'
  pub gains : 0 < slot_of' root
  pub slot : ℕ
  pub slot_open : S.slots slot ≡ true
  pub lower : 0 < member_in slot → S.reaches (member_in slot) root ≡ false
  pub stays : (x : ℕ) → (x ≡ member_in slot → ⊥) → 0 < slot_of x → 0 < slot_of' x
  pub none : (x : ℕ) → (x ≡ root → ⊥) → slot_of x ≡ 0 → slot_of' x ≡ 0
  pub named : (x : ℕ) → 0 < names x → slot_of' x ≡ slot_of x
  pub filled : (u : ℕ) → 0 < member_in u → 0 < member_in' u
  pub only : (u : ℕ) → (u ≡ slot → ⊥) → member_in u ≡ 0 → member_in' u ≡ 0
  -- what no path from the root comes to is as it was
  pub far : (marks : ℕ → ℕ) → ((p : ℕ) → S.slots p ≡ true → S.allowed root p ≡ true → marks p ≡ 0)
      → ((x p : ℕ) → S.members x ≡ true → 0 < slot_of x → marks (slot_of x) ≡ 0 → S.slots p ≡ true → S.allowed x p ≡ true → marks p ≡ 0)
      → (marks slot ≡ 0) × ((p : ℕ) → 0 < marks p → member_in' p ≡ member_in p)

pub cases_zero : (n : ℕ) → (0 < n) ⊎ (n ≡ 0)
cases_zero n = ⊎_elim (λ e. inr e) (λ e. inl (omega arith)) (cases_eq n 0)

-- nobody is named or done
pub begin : (S : Stage) (slot_of member_in names : ℕ → ℕ) (done : ℕ → Bool) → ((x : ℕ) → names x ≡ 0) → ((x : ℕ) → done x ≡ false) → State S slot_of member_in names done
begin S slot_of member_in names done no_name no_done = record {
  named = λ x h. absurd (let e = no_name x in let z : ⊥ = omega arith in z);
  named_done = λ x h. absurd (let e = no_name x in let z : ⊥ = omega arith in z);
  out_done = λ x h. absurd (let e = no_name x in let z : ⊥ = omega arith in z);
  itself = λ x f o d. absurd (both_ways (done x) (no_done x) d);
  order = λ x y d. absurd (both_ways (done x) (no_done x) d);
}

-- all free members that are out are done
pub finish : (S : Stage) (slot_of member_in names : ℕ → ℕ) (done : ℕ → Bool) → State S slot_of member_in names done → ((x : ℕ) → S.members x ≡ true → slot_of x ≡ 0 → done x ≡ true) → Settled S slot_of member_in names
finish S slot_of member_in names done st all = record { itself = λ x f o. st.itself x f o (all x f o); named = st.named }

module _ (S : Stage) (slot_of member_in names : ℕ → ℕ) (done done' : ℕ → Bool) (root : ℕ) (st : State S slot_of member_in names done) (ch : Chosen S slot_of done root) (dn : Done done done' root) where
  grown : (x : ℕ) → done x ≡ true → done' x ≡ true
  grown x d = ⊎_elim (λ e. ap done' e ∙ dn.here) (λ n. dn.others x n ∙ d) (cases_eq x root)

  was_done : (x : ℕ) → (x ≡ root → ⊥) → done' x ≡ true → done x ≡ true
  was_done x n d = sym (dn.others x n) ∙ d

  -- one that is not done now is not the root, and was not done
  not_root : (y : ℕ) → done' y ≡ false → y ≡ root → ⊥
  not_root y d e = both_ways (done' root) (ap done' (sym e) ∙ d) dn.here

  was_new : (y : ℕ) → done' y ≡ false → done y ≡ false
  was_new y d = sym (dn.others y (not_root y d)) ∙ d

  -- the root has no name
  pub unnamed : 0 < names root → ⊥
  unnamed h = both_ways (done root) ch.new (st.out_done root h ch.out)

  -- who is done is at least as high as the root
  above_root : (x : ℕ) → done x ≡ true → S.reaches x root ≡ true
  above_root x d = st.order x root d ch.free ch.out ch.new

  module _ (names' : ℕ → ℕ) (reached : ℕ → Bool) (dry : Dry S slot_of member_in names root reached) (re : Renamed names names' root reached) where
    -- who had a name, or was reached, names one at least as high as the root
    Names : ℕ → Type 0
    Names y = (0 < names' y) × (S.reaches (names' y) root ≡ true)

    root_number : (ranked : Ranked S) → 0 < root
    root_number ranked = ranked.member root ch.free

    names_old : (y : ℕ) → 0 < names y → Names y
    unfolding Names
    names_old y h = let e = re.before y h in (omega arith, ap (λ w. S.reaches w root) e ∙ above_root (names y) (st.named_done y h))

    names_new : Ranked S → (y : ℕ) → names y ≡ 0 → reached y ≡ true → Names y
    unfolding Names
    names_new ranked y z r = let e = re.now y z r in let p = root_number ranked in (omega arith, ap (λ w. S.reaches w root) e ∙ ch.highest root ch.free ch.out ch.new)

    names_reached : Ranked S → (y : ℕ) → (reached y ≡ true) ⊎ (0 < names y) → Names y
    names_reached ranked y (inr h) = names_old y h
    names_reached ranked y (inl r) = ⊎_elim (λ h. names_old y h) (λ z. names_new ranked y z r) (cases_zero (names y))

    kept_old : (x : ℕ) → Kept S slot_of member_in names x (names x) → Kept S slot_of member_in names' x (names x)
    kept_old x k = record {
      free = k.free;
      root_free = k.root_free;
      root_out = k.root_out;
      high = k.high;
      blocked = λ s p o. let b = k.blocked s p o in let e = re.before (member_in s) b.1 in (b.0, omega (arith, b.1), ap (λ w. S.reaches w (names x)) e ∙ b.2);
    }

    kept_new : Ranked S → (x : ℕ) → reached x ≡ true → Kept S slot_of member_in names' x root
    unfolding Names
    kept_new ranked x r = record {
      free = dry.free x r;
      root_free = ch.free;
      root_out = ch.out;
      high = dry.high x r;
      blocked = λ s p o. let c = dry.closed x s r p o in let n = names_reached ranked (member_in s) c.1 in (c.0, n.0, n.1);
    }

    -- how x came to its name
    Came : ℕ → Type 0
    Came x = ((0 < names x) × (names' x ≡ names x)) ⊎ ((names x ≡ 0) × (reached x ≡ true) × (names' x ≡ root))

    came : (x : ℕ) → 0 < names' x → Came x
    unfolding Came
    came x h = ⊎_elim (λ p. inl (p, re.before x p))
        (λ z. ⊎_elim (λ r. inr (z, r, re.now x z r)) (λ r. absurd (let e = re.never x z r in let w : ⊥ = omega arith in w)) (cases_Bool (reached x)))
        (cases_zero (names x))

    -- a failed search keeps the state
    pub failed : Ranked S → State S slot_of member_in names' done'
    unfolding Came
    failed ranked = record {
      named = λ x h. elim (came x h) [
        | inl c ↦ subst (λ (w : ℕ). Kept S slot_of member_in names' x w) (sym c.1) (kept_old x (st.named x c.0))
        | inr c ↦ subst (λ (w : ℕ). Kept S slot_of member_in names' x w) (sym c.2) (kept_new ranked x c.1)
      ];
      named_done = λ x h. elim (came x h) [
        | inl c ↦ ap done' c.1 ∙ grown (names x) (st.named_done x c.0)
        | inr c ↦ ap done' c.2 ∙ dn.here
      ];
      out_done = λ x h o. elim (came x h) [
        | inl c ↦ grown x (st.out_done x c.0 o)
        | inr c ↦ ap done' (dry.placed x c.1 o) ∙ dn.here
      ];
      itself = λ x f o d. ⊎_elim
          (λ e. re.now x (⊎_elim (λ p. absurd (unnamed (subst (λ (y : ℕ). 0 < names y) e p))) (λ z. z) (cases_zero (names x))) (ap reached e ∙ dry.start) ∙ sym e)
          (λ n. let i = st.itself x f o (was_done x n d) in let p = ranked.member x f in re.before x (omega arith) ∙ i)
          (cases_eq x root);
      order = λ x y d f o d_y. ⊎_elim
          (λ e. ap (λ z. S.reaches z y) e ∙ ch.highest y f o (was_new y d_y))
          (λ n. st.order x y (was_done x n d) f o (was_new y d_y))
          (cases_eq x root);
    }

  module _ (slot_of' member_in' : ℕ → ℕ) (paired : Paired slot_of member_in) (fl : Flipped S slot_of member_in names root slot_of' member_in') where
    -- one that is out now was out, or is the loser
    Out : ℕ → Type 0
    Out y = (slot_of y ≡ 0) ⊎ ((0 < slot_of y) × (y ≡ member_in fl.slot))

    was_out : (y : ℕ) → slot_of' y ≡ 0 → Out y
    unfolding Out
    was_out y o = ⊎_elim
        (λ p. ⊎_elim (λ e. inr (p, e)) (λ n. absurd (let q = fl.stays y n p in let z : ⊥ = omega arith in z)) (cases_eq y (member_in fl.slot)))
        (λ z. inl z) (cases_zero (slot_of y))

    some_loser : Ranked S → (y : ℕ) → S.members y ≡ true → y ≡ member_in fl.slot → 0 < member_in fl.slot
    some_loser ranked y f e = let p = ranked.member y f in omega arith

    loser_lower : Ranked S → (y : ℕ) → S.members y ≡ true → y ≡ member_in fl.slot → S.reaches y root ≡ false
    loser_lower ranked y f e = ap (λ z. S.reaches z root) e ∙ fl.lower (some_loser ranked y f e)

    kept_flip : Ranked S → (x : ℕ) → 0 < names x → Kept S slot_of member_in names x (names x) → Kept S slot_of' member_in' names x (names x)
    kept_flip ranked x h k = record {
      free = k.free;
      root_free = k.root_free;
      root_out = fl.none (names x) (λ e. both_ways (done root) ch.new (ap done (sym e) ∙ st.named_done x h)) k.root_out;
      high = k.high;
      blocked = λ s p o.
          let b = k.blocked s p o in
          let s0 = ranked.number s p in
          let same : member_in' s ≡ member_in s = fl.paired.there (member_in s) s b.0 s0 (fl.named (member_in s) b.1 ∙ paired.back (member_in s) s b.0 s0 refl) in
          subst (λ (y : ℕ). (0 < y) × (0 < names y) × (S.reaches (names y) (names x) ≡ true)) (sym same) b;
    }

    -- a flip keeps the state
    pub flipped : Ranked S → State S slot_of' member_in' names done'
    unfolding Out
    flipped ranked = record {
      named = λ x h. kept_flip ranked x h (st.named x h);
      named_done = λ x h. grown (names x) (st.named_done x h);
      out_done = λ x h o. grown x (st.out_done x h (sym (fl.named x h) ∙ o));
      itself = λ x f o d.
          let n : x ≡ root → ⊥ = λ e. let q = fl.gains in let a : slot_of' x ≡ slot_of' root = ap slot_of' e in omega arith in
          let was = was_done x n d in
          elim (was_out x o) [
            | inl z ↦ st.itself x f z was
            | inr c ↦ absurd (both_ways (S.reaches x root) (loser_lower ranked x f c.1) (above_root x was))
          ];
      order = λ x y d f o d_y.
          let under : S.reaches root y ≡ true = elim (was_out y o) [
            | inl z ↦ ch.highest y f z (was_new y d_y)
            | inr c ↦ ranked.total y root f ch.free (loser_lower ranked y f c.1)
          ] in
          ⊎_elim (λ e. ap (λ z. S.reaches z y) e ∙ under) (λ n. ranked.transitive x root y (above_root x (was_done x n d)) under) (cases_eq x root);
    }

-- a flip of one side's pass keeps what the other side's pass settled
module _ (S : Stage) (slot_of member_in names : ℕ → ℕ) (root : ℕ) (slot_of' member_in' : ℕ → ℕ) (order : ℕ → ℕ → Bool) (other : ℕ → ℕ) (ranked : Ranked S) (free : S.members root ≡ true) (out : slot_of root ≡ 0)
    (paired : Paired slot_of member_in) (set : Settled (turn_stage S order) member_in slot_of other) (fl : Flipped S slot_of member_in names root slot_of' member_in') where
  first_far : (p : ℕ) → S.slots p ≡ true → S.allowed root p ≡ true → other p ≡ 0
  first_far p pl o = ⊎_elim (λ h. absurd (let b = (set.named p h).blocked root free o in let z : ⊥ = omega (arith, b.0) in z)) (λ z. z) (cases_zero (other p))

  next_far : (x p : ℕ) → S.members x ≡ true → 0 < slot_of x → other (slot_of x) ≡ 0 → S.slots p ≡ true → S.allowed x p ≡ true → other p ≡ 0
  next_far x p f h z pl o = ⊎_elim (λ q. absurd (let b = (set.named p q).blocked x f o in let w : ⊥ = omega (arith, b.1) in w)) (λ e. e) (cases_zero (other p))

  slot_far : other fl.slot ≡ 0
  slot_far = (fl.far other first_far next_far).0

  same : (p : ℕ) → 0 < other p → member_in' p ≡ member_in p
  same = (fl.far other first_far next_far).1

  -- the path ends at a place that is filled
  slot_filled : 0 < member_in fl.slot
  slot_filled = ⊎_elim (λ h. h) (λ z. let e = set.itself fl.slot fl.slot_open z in let n = ranked.number fl.slot fl.slot_open in let f = slot_far in omega arith) (cases_zero (member_in fl.slot))

  kept_other : (p : ℕ) → Kept (turn_stage S order) member_in slot_of other p (other p) → Kept (turn_stage S order) member_in' slot_of' other p (other p)
  kept_other p k = record {
    free = k.free;
    root_free = k.root_free;
    root_out = fl.only (other p) (λ e. let a = ap member_in e in let b = slot_filled in let c = k.root_out in let z : ⊥ = omega arith in z) k.root_out;
    high = k.high;
    blocked = λ x f o.
        let b = k.blocked x f o in
        let x0 = ranked.member x f in
        let still : slot_of' x ≡ slot_of x = fl.paired.back x (slot_of x) x0 b.0 (same (slot_of x) b.1 ∙ paired.there x (slot_of x) x0 b.0 refl) in
        subst (λ (q : ℕ). (0 < q) × (0 < other q) × (order (other q) (other p) ≡ true)) (sym still) b;
  }

  pub survives : Settled (turn_stage S order) member_in' slot_of' other
  survives = record {
    itself = λ p f o. set.itself p f (⊎_elim (λ h. absurd (let a = fl.filled p h in let z : ⊥ = omega arith in z)) (λ z. z) (cases_zero (member_in p)));
    named = λ p h. kept_other p (set.named p h);
  }
