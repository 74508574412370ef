use Rattle.std.proofs.Common.{◌≡◌, arith, rules, FitsSigned, pos, false, to_z}
use Rattle.std.specs.Prelude.{int_lt}
use Rattle.std.proofs.lemmas.Int.{to_z-of_z, to_z_pos}
use Rattle.std.specs.Int.{w128}
use Rattle.bas_dec.proofs.Root.{root_found}
use Rattle.bas_dec.proofs.number.Dec.sqr.Goals as goal

pub returns : goal.returns
returns c =
    let coefficient : FitsSigned w128 c.self.inside.coefficient = search rules in
    let above : int_lt c.self.inside.coefficient (pos 0) ≡ false = simp to_z-of_z at c.if-self-lt0.false in
    let root : to_z w128 c.isqrt.result ≡ pos c.isqrt.result = to_z_pos w128 c.isqrt.result (omega (arith, c.isqrt.ensures.bound)) in
    let found = root_found c.self.inside.coefficient c.self.inside.scale c.isqrt.result c.in_ok-square.square above (rw (← c.self.view_is) at c.in_ok-square.ensures) c.isqrt.ensures.square_le c.isqrt.ensures.next_square_gt in
    rw (← c.self.view_is, found, ← root) c.number.ensures
