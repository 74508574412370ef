-- The name has a slot, or gets the next one.
use Rattle.std.proofs.Common.{◌≡◌, ◌∙◌, sym, ap, None, is_some, arith, length, length-append, ◌∷◌, []}
use Rattle.bas_mean.specs.World.{OfName}
use Rattle.bas_carry.specs.Slots.{index_of}
use Rattle.bas_genexpr.specs.Numbering.{variables}
use Rattle.bas_genexpr.proofs.SlotLemmas.{present, is_absent, one_more, grown, keeps}
use Rattle.bas_genexpr.proofs.slots.Slots.add.Goals as goal

pub returns-then-is_some : goal.returns-then-is_some
returns-then-is_some c = present c.args.self.now c.args.name (ap is_some (sym c.number.ensures) ∙ sym c.is_some.ensures ∙ c.if-is_some.true)

pub returns-then-count : goal.returns-then-count
returns-then-count c =
    let e : index_of (variables c.args.self.now) (OfName c.args.name) ≡ None = is_absent _ (ap is_some (sym c.number.ensures) ∙ sym c.is_some.ensures ∙ c.if-is_some.false) in
    let l = one_more c.args.self.now c.args.name e in
    let v = ap length c.self.view_is in
    let w = c.self.inside.names.ok.0 in
    (omega arith, omega arith, c.from-then-count.ensures)

pub invariant_of-self-in-Ok : goal.invariant_of-self-in-Ok
invariant_of-self-in-Ok c =
    let e : index_of (variables c.args.self.now) (OfName c.args.name) ≡ None = is_absent _ (ap is_some (sym c.number.ensures) ∙ sym c.is_some.ensures ∙ c.if-is_some.false) in
    let w = c.self.inside.names.ok.0 in
    let l = ap length c.in_ok-push.ensures.items ∙ length-append c.self.inside.names.items (c.args.name ∷ []) in
    (omega arith, keeps c.args.self.now c.self.inside.names.items _ c.args.name c.self.inside.numbers c.insert.new.self _ c.self.view_is e c.in_ok-push.ensures.items (c.len-count.ensures ∙ w) c.self.invariant.1 c.in-Ok.ensures.updates)

pub returns-in-Ok : goal.returns-in-Ok
returns-in-Ok c =
    let e : index_of (variables c.args.self.now) (OfName c.args.name) ≡ None = is_absent _ (ap is_some (sym c.number.ensures) ∙ sym c.is_some.ensures ∙ c.if-is_some.false) in
    grown c.args.self.now c.self.inside.names.items _ c.args.name c.self.view_is e c.in_ok-push.ensures.items
