use Rattle.bas_dec.proofs.AnswerLemmas.{not_numeral}
use Rattle.bas_dec.proofs.numeral.laws.not_numeral_without_form.Goals as goal

pub returns : goal.returns
returns c = not_numeral
