use Rattle.bas_token.proofs.CutLaws.{tokens_in_order as in_order, tokens_count}
use Rattle.bas_token.proofs.law.tokens_in_order.Goals as goal

pub returns-clause-order : goal.returns-clause-order
returns-clause-order c = in_order

pub returns-clause-count : goal.returns-clause-count
returns-clause-count c = tokens_count
