-- They are all that is put.
use Rattle.bas_scope.specs.Scope.{InModule}
use Rattle.bas_names.proofs.Putting.{puts_has}
use Rattle.bas_names.proofs.unit_names.procedures_of.Goals as goal

pub returns : goal.returns
returns c = puts_has c.new-table.result c.put_procedures.new.table _ c.new-table.ensures (c.in_ok-put_procedures.ensures InModule)
