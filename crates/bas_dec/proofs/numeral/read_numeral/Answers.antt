use Rattle.bas_dec.proofs.AnswerLemmas.{is_answer}
use Rattle.bas_dec.proofs.numeral.read_numeral.Goals as goal

pub returns-clause-form : goal.returns-clause-form
returns-clause-form c = rw c.answer_to.ensures (is_answer c.args.text.now)
