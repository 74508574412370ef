use Rattle.bas_dec.proofs.AnswerLemmas.{one_reading}
use Rattle.bas_dec.proofs.numeral.laws.form_has_one_reading.Goals as goal

pub returns : goal.returns
returns c = one_reading
