use Rattle.bas_list.proofs.EndLaws.{list_ends}
use Rattle.bas_list.proofs.PrintLaws.{print_ends}
use Rattle.bas_list.proofs.law.ends_law.Goals as goal

pub returns-clause-lists : goal.returns-clause-lists
returns-clause-lists c = list_ends

pub returns-clause-prints : goal.returns-clause-prints
returns-clause-prints c = print_ends
