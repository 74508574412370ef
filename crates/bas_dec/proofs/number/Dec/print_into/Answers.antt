use Rattle.std.proofs.Common.{◌≡◌, ◌∙◌, ap, refl, rules, length, FitsSigned}
use Rattle.std.specs.Int.{w128}
use Rattle.std.proofs.lemmas.Int.{to_z-of_z}
use Rattle.bas_dec.specs.Text.{text_of}
use Rattle.bas_dec.proofs.TextLemmas.{text_of_is}
use Rattle.bas_dec.proofs.number.Dec.print_into.Goals as goal
use Rattle.bas_dec.proofs.number.Dec.print_into.Goals.{After-copy_to}

pub of_size-text-requires-clause-few : goal.of_size-text-requires-clause-few
of_size-text-requires-clause-few c =
    let fits : FitsSigned w128 c.parts-coefficient.result.0 = search rules in
    rw (c.unsigned_abs.ensures.value, to_z-of_z, c.parts-coefficient.ensures.coefficient) c.parts-coefficient.ensures.number.small

made : (c : After-copy_to) → c.put.new.self ≡ text_of c.args.self
made c =
    let fits : FitsSigned w128 c.parts-coefficient.result.0 = search rules in
    rw (text_of_is, c.put.ensures, c.sign.ensures, c.of_size-text.ensures.text, c.unsigned_abs.ensures.value, to_z-of_z, c.parts-coefficient.ensures.coefficient, c.parts-coefficient.ensures.scale) refl

pub returns-clause-length : goal.returns-clause-length
returns-clause-length c = c.copy_to.ensures.length ∙ ap length (made c)

pub returns-clause-text : goal.returns-clause-text
returns-clause-text c = rw (c.copy_to.ensures.text, c.copy_to.ensures.length, made c) refl
