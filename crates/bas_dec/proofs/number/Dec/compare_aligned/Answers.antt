use Rattle.std.proofs.Common.{arith, ap, ◌∙◌, ◌≤◌, sym, rules, FitsSigned}
use Rattle.std.proofs.lemmas.Int.{to_z-of_z}
use Rattle.std.specs.Int.{w128}
use Rattle.bas_dec.specs.Number.{Number}
use Rattle.bas_dec.proofs.Order.{order_aligned, order_far}
use Rattle.bas_dec.proofs.number.Dec.compare_aligned.Goals as goal

pub returns-in-Ok : goal.returns-in-Ok
returns-in-Ok c =
    let fits : FitsSigned w128 c.in-Ok.coefficient = search rules in
    let fewer : c.args.self.scale ≤ c.y.inside.scale = omega (arith, c.requires, ap (λ (y : Number). y.scale) c.y.view_is) in
    rw (← c.y.view_is) ((simp to_z-of_z at c.cmp.ensures) ∙ sym (order_aligned c.args.self (record { coefficient = c.y.inside.coefficient; scale = c.y.inside.scale }) c.in-Ok.coefficient fewer c.in-Ok.ensures.value))

pub returns-in-Err : goal.returns-in-Err
returns-in-Err c =
    let fewer : c.args.self.scale ≤ c.y.inside.scale = omega (arith, c.requires, ap (λ (y : Number). y.scale) c.y.view_is) in
    rw (← c.y.view_is, order_far c.args.self (record { coefficient = c.y.inside.coefficient; scale = c.y.inside.scale }) c.in-Err.field-0 fewer c.y.invariant.small c.in-Err.ensures.value, ← c.self.view_is) c.cmp-in-Err.ensures
