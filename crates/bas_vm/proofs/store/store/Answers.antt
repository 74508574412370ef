use Rattle.bas_vm.proofs.Storing.{store-is}
use Rattle.bas_vm.proofs.store.store.Goals as goal

pub returns-clause-leads : goal.returns-clause-leads
returns-clause-leads c = let e = store-is c.args.i in rw e.1 (rw e.1 at c.store_through.ensures.leads)
