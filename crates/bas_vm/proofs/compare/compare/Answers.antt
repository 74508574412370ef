use Rattle.bas_vm.proofs.Arithmetic.{compare-is}
use Rattle.bas_vm.proofs.compare.compare.Goals as goal

pub returns-clause-leads : goal.returns-clause-leads
returns-clause-leads c = let e = compare-is c.args.i in rw e.1 (rw e.1 at c.compare_numbers.ensures.leads)
