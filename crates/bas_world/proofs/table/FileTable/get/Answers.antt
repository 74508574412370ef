use Rattle.std.proofs.Common.{Some, ap, sym, ◌∙◌}
use Rattle.std.specs.FinMap.{get}
use Rattle.bas_world.proofs.Tables.{get-table}
use Rattle.bas_world.proofs.table.FileTable.get.Goals as goal

pub returns-in-Some : goal.returns-in-Some
returns-in-Some c =
    ap Some c.bytes.ensures ∙ c.in-Some.ensures.value
    ∙ sym (get-table c.self.inside.table.entries c.args.name) ∙ ap (λ files. get files c.args.name) c.self.view_is

pub returns-in-None : goal.returns-in-None
returns-in-None c =
    c.in-None.ensures.value ∙ sym (get-table c.self.inside.table.entries c.args.name) ∙ ap (λ files. get files c.args.name) c.self.view_is
