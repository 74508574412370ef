use Rattle.bas_form.proofs.WorkedLaws.{worked_grammar}
use Rattle.bas_form.proofs.law.worked_grammar.Goals as goal

pub returns : goal.returns
returns c = worked_grammar
