use Rattle.bas_dec.proofs.AnswerLemmas.{answer_is}
use Rattle.bas_dec.proofs.numeral.laws.form_gives_answer.Goals as goal

pub returns : goal.returns
returns c = answer_is
