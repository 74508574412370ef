use Rattle.std.proofs.Common.{ap, ◌∙◌, []}
use Rattle.std.specs.FinMap.{insert, from_entries}
use Rattle.bas_world.proofs.Tables.{insert-table}
use Rattle.bas_world.proofs.table.FileTable.create.Goals as goal

pub returns-clause-ok : goal.returns-clause-ok
returns-clause-ok c =
    insert-table c.self.inside.table.entries _ _ _ c.in_ok-insert.ensures.updates.0
    ∙ ap (insert (from_entries c.self.inside.table.entries) c.args.name) c.empty-file.ensures
    ∙ ap (λ files. insert files c.args.name []) c.self.view_is
