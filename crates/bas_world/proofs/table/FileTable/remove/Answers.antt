use Rattle.std.proofs.Common.{ap, ◌∙◌}
use Rattle.std.specs.FinMap.{remove}
use Rattle.bas_world.proofs.Tables.{remove-table}
use Rattle.bas_world.proofs.table.FileTable.remove.Goals as goal

pub returns : goal.returns
returns c =
    remove-table c.self.inside.table.entries _ _ c.remove.ensures.updates.0
    ∙ ap (λ files. remove files c.args.name) c.self.view_is
