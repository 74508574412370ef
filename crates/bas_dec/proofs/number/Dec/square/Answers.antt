use Rattle.std.proofs.Common.{◌≡◌, ◌∙◌, sym, ap, rules, FitsSigned, Ok}
use Rattle.std.specs.Prelude.{unsigned_abs}
use Rattle.std.proofs.lemmas.Int.{to_z-of_z}
use Rattle.std.specs.Int.{w128}
use Rattle.bas_dec.proofs.Root.{square_found}
use Rattle.bas_dec.proofs.number.Dec.square.Goals as goal

pub returns-in_ok-square : goal.returns-in_ok-square
returns-in_ok-square c =
    let coefficient : FitsSigned w128 c.self.inside.coefficient = search rules in
    let fits : FitsSigned w128 c.in_ok-square.square = search rules in
    let size : c.unsigned_abs.result ≡ unsigned_abs c.in_ok-square.square = simp to_z-of_z at c.unsigned_abs.ensures.value in
    rw (← c.self.view_is) (ap Ok size ∙ sym (square_found c.self.inside.coefficient c.in_ok-square.square c.self.inside.scale c.if-self-le-SHORT.true (simp to_z-of_z at c.in_ok-square.ensures.value)))
