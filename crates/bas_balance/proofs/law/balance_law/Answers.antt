-- The clauses are the laws.
use Rattle.bas_balance.proofs.BalanceLaws.{colon_ends}
use Rattle.bas_balance.proofs.law.balance_law.Goals as goal

pub returns-clause-colon : goal.returns-clause-colon
returns-clause-colon c = colon_ends
