use Rattle.bas_dec.proofs.Low.{number_unique}
use Rattle.bas_dec.proofs.laws.numbers_have_one_form.Goals as goal

pub returns : goal.returns
returns c = number_unique
