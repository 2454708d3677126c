use Rattle.std.proofs.Common.{sym, arith}
use Rattle.refusal.proofs.First.{first_some}
use Rattle.source.specs.Pairs.{holds}
use Rattle.judge.proofs.Turns.{start, ask, unnamed, ask_next, asked_all, all_kept, ill_named, not_blocked}
use Rattle.judge.proofs.view.View.keeps_rules.Goals as goal

pub rules-init : goal.rules-init
rules-init g c = start _ _ _

pub rules-preserved-then-name-eq0 : goal.rules-preserved-then-name-eq0
rules-preserved-then-name-eq0 g c = unnamed c.rules.invariant c.if-not-names_well.ensures c.entry-name.ensures c.if-name-eq0.true

pub loop-slot-init : goal.loop-slot-init
loop-slot-init g c = ask c.rules.invariant c.if-not-names_well.ensures c.entry-name.ensures c.if-name-eq0.false

pub loop-slot-smaller : goal.loop-slot-smaller
loop-slot-smaller g c =
    let p = g.S.PairSource.pairs c.args.self.now.source.now in
    let r = first_some (λ s. holds p c.rules.programme s) p.slots c.loop-slot.from c.in-Some.slot (sym c.in-Some.ensures) in
    omega (arith, r.0, r.1)

pub loop-slot-preserved : goal.loop-slot-preserved
loop-slot-preserved g c = ask_next c.loop-slot.invariant c.in-Some.ensures c.if-not-is_blocked.ensures

pub rules-preserved : goal.rules-preserved
rules-preserved g c = asked_all c.requires c.loop-slot.invariant c.in_default.ensures

pub returns : goal.returns
returns g c = all_kept c.requires c.rules.invariant (omega arith)

pub returns-then-not-names_well : goal.returns-then-not-names_well
returns-then-not-names_well g c = ill_named c.requires c.rules.invariant (omega arith) c.if-not-names_well.ensures

pub returns-then-name-eq0 : goal.returns-then-name-eq0
returns-then-name-eq0 g c = all_kept c.requires (unnamed c.rules.invariant c.if-not-names_well.ensures c.entry-name.ensures c.if-name-eq0.true) (omega arith)

pub returns-then-not-is_blocked : goal.returns-then-not-is_blocked
returns-then-not-is_blocked g c = not_blocked c.requires c.loop-slot.invariant (omega arith) c.in-Some.ensures c.if-not-is_blocked.ensures

pub returns-in_default : goal.returns-in_default
returns-in_default g c = all_kept c.requires (asked_all c.requires c.loop-slot.invariant c.in_default.ensures) (omega arith)
