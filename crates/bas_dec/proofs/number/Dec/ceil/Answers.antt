use Rattle.std.proofs.Common.{◌≡◌, arith, rules, FitsSigned, pos, ◌-ℤ◌, to_z}
use Rattle.std.proofs.lemmas.Int.{to_z-of_z, to_z_pos}
use Rattle.std.specs.Int.{w128}
use Rattle.bas_dec.proofs.Rounding.{ceiling_is}
use Rattle.bas_dec.proofs.number.Dec.ceil.Goals as goal

pub returns : goal.returns
returns c =
    let coefficient : FitsSigned w128 c.self.inside.coefficient = search rules in
    let opposite : FitsSigned w128 (pos 0 -ℤ c.self.inside.coefficient) = search rules in
    let below : FitsSigned w128 c.div_euclid.result = search rules in
    let result : FitsSigned w128 (pos 0 -ℤ c.div_euclid.result) = search rules in
    let power : to_z w128 c.ten_to.result ≡ pos c.ten_to.result = to_z_pos w128 c.ten_to.result (omega (arith, c.ten_to.ensures.bound)) in
    rw (← c.self.view_is, ceiling_is c.self.inside.coefficient c.self.inside.scale c.self.invariant.small) (simp to_z-of_z (rw (c.div_euclid.ensures, power, c.ten_to.ensures.value) (simp to_z-of_z)))
