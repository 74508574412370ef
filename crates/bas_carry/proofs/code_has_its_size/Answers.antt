-- The lemma on expressions, at each list of variables.
use Rattle.bas_carry.proofs.Lengths.{expr_length}
use Rattle.bas_carry.proofs.code_has_its_size.Goals as goal

pub returns-clause-expressions : goal.returns-clause-expressions
returns-clause-expressions c = λ order e. expr_length order e
