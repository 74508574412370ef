use Rattle.std.proofs.Common.{◌≡◌, ◌≤◌, ◌∙◌, sym, rules, arith, FitsSigned}
use Rattle.std.specs.Prelude.{unsigned_abs}
use Rattle.std.proofs.lemmas.Int.{to_z-of_z}
use Rattle.std.specs.Int.{w128}
use Rattle.bas_dec.proofs.Products.{unit_power}
use Rattle.bas_dec.proofs.number.Dec.natural_power.Goals as goal

pub returns-then-unsigned_abs-le1 : goal.returns-then-unsigned_abs-le1
returns-then-unsigned_abs-le1 c =
    let fits : FitsSigned w128 c.self.inside.coefficient = search rules in
    let size : c.unsigned_abs.result ≡ unsigned_abs c.self.inside.coefficient = simp to_z-of_z at c.unsigned_abs.ensures.value in
    let small : unsigned_abs c.self.inside.coefficient ≤ 1 = omega (arith, size, c.if-unsigned_abs-le1.true) in
    c.left_product-then-unsigned_abs-le1.ensures ∙ rw (← c.self.view_is) (sym (unit_power c.self.inside.coefficient c.self.inside.scale c.args.n c.if-self-eq0.true small (omega arith)))
