use Rattle.std.proofs.Common.{◌≡◌, ◌⊎◌, false, inl, inr, [], ◌∷◌, vec_items, sym, refl, ◌∙◌, length-append, arith}
use Rattle.std.proofs.lemmas.Slice.Zip.{zip_turn, zip_end}
use Rattle.plan.proofs.Counted.{counted_more, counted_on, counted_all}
use Rattle.plan.proofs.side.Side.count_placed.Goals as goal
use Rattle.plan.proofs.side.Side.count_placed.Goals.{else-place-ne0-via-then-place-ne0+else-asked, else-place-ne0-via-else-place-ne0}

pub loop-own-preserved-then-asked : goal.loop-own-preserved-then-asked
loop-own-preserved-then-asked g c =
    let xs = c.args.priorities.now in
    let places = vec_items c.args.self.now.places in
    let turn = zip_turn xs places c.loop-own.yielded c.into_iter-own-iterator.result c.loop-own.own-iterator c.next.new.self c.next.result (cc) (cc (c.zip-own-items.ensures.second.0)) c.loop-own.yielded_by (c.in-Some.own, c.in-Some.place) c.in-Some.is c.next.ensures.steps in
    let long = length-append c.loop-own.yielded ((c.in-Some.own, c.in-Some.place) ∷ []) in
    let before = c.loop-own.invariant in
    record {
      most = omega (arith, before.most, long);
      within = omega (arith, turn.0, long);
      exact = λ question other h.
          let yes = h c.in-Some.own.now c.asked.result (record { shown = c.in-Some.own; shows = refl; says = record { met = c.asked.ensures } }) in
          counted_more xs places question other c.loop-own.yielded (c.in-Some.own, c.in-Some.place) c.in-Some.own.now c.in-Some.place.now turn c.loop-own.counted (before.exact question other h) c.if-place-ne0.true (sym c.if-asked.true ∙ yes);
    }

pub loop-own-preserved : goal.loop-own-preserved
loop-own-preserved g c =
    let xs = c.args.priorities.now in
    let places = vec_items c.args.self.now.places in
    let turn = zip_turn xs places c.loop-own.yielded c.into_iter-own-iterator.result c.loop-own.own-iterator c.next.new.self c.next.result (cc) (cc (c.zip-own-items.ensures.second.0)) c.loop-own.yielded_by (c.in-Some.own, c.in-Some.place) c.in-Some.is c.next.ensures.steps in
    let long = length-append c.loop-own.yielded ((c.in-Some.own, c.in-Some.place) ∷ []) in
    let before = c.loop-own.invariant in
    record {
      most = omega (arith, before.most, long);
      within = omega (arith, turn.0, long);
      exact = λ question other h.
          let no : (c.in-Some.place.now ≡ 0) ⊎ (false ≡ question c.in-Some.own.now other) = elim c.else-place-ne0.branch [
            | else-place-ne0-via-then-place-ne0+else-asked w ↦ inr (sym w.if-asked.false ∙ h c.in-Some.own.now w.asked.result (record { shown = c.in-Some.own; shows = refl; says = record { met = w.asked.ensures } }))
            | else-place-ne0-via-else-place-ne0 w ↦ inl (omega (arith, w.if-place-ne0.false))
          ] in
          counted_on xs places question other c.loop-own.yielded (c.in-Some.own, c.in-Some.place) c.in-Some.own.now c.in-Some.place.now turn c.loop-own.counted (before.exact question other h) no;
    }

pub returns-clause-exact : goal.returns-clause-exact
returns-clause-exact g c =
    let xs = c.args.priorities.now in
    let places = vec_items c.args.self.now.places in
    let end = zip_end xs places c.loop-own.yielded c.into_iter-own-iterator.result c.loop-own.own-iterator c.next.new.self c.next.result (cc) (cc (c.zip-own-items.ensures.second.0)) c.loop-own.yielded_by c.in-None.is c.next.ensures.steps in
    λ question other h. counted_all xs places question other _ c.loop-own.counted end (c.loop-own.invariant.exact question other h)
