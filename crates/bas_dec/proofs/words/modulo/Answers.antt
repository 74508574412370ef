use Rattle.std.proofs.Common.{◌≡◌, rules, FitsSigned, pos, ◌-ℤ◌, true}
use Rattle.std.proofs.lemmas.Int.{to_z-of_z}
use Rattle.std.specs.Int.{w128}
use Rattle.std.specs.Prelude.{int_lt}
use Rattle.bas_dec.proofs.Remainders.{modulo_below}
use Rattle.bas_dec.proofs.words.modulo.Goals as goal

pub returns-then-b-lt0 : goal.returns-then-b-lt0
returns-then-b-lt0 c =
    let divisor : FitsSigned w128 c.args.b = c.ranges.b in
    let dividend : FitsSigned w128 c.args.a = c.ranges.a in
    let opposite_divisor : FitsSigned w128 (pos 0 -ℤ c.args.b) = search rules in
    let opposite_dividend : FitsSigned w128 (pos 0 -ℤ c.args.a) = search rules in
    let rest : FitsSigned w128 c.rem_euclid.result = search rules in
    let opposite_rest : FitsSigned w128 (pos 0 -ℤ c.rem_euclid.result) = search rules in
    let below : int_lt c.args.b (pos 0) ≡ true = simp to_z-of_z at c.if-b-lt0.true in
    simp to_z-of_z (rw c.rem_euclid.ensures.value (simp to_z-of_z (modulo_below c.args.a c.args.b below)))
