use Rattle.std.proofs.Common.{take, rules}
use Rattle.bas_world.proofs.Tables.{there-table, changed-table}
use Rattle.bas_world.proofs.table.FileTable.cut.Goals as goal

pub unreachable-requires : goal.unreachable-requires
unreachable-requires c = there-table c.self.inside.table.entries c.args.name _ c.self.view_is c.requires c.in-None.ensures.value

pub returns : goal.returns
returns c =
    changed-table (take c.args.len) c.self.inside.table.entries _ c.args.name c.in-Some.file.now c.cut.new.self _ c.self.view_is
    c.in-Some.ensures.value (((c.get_mut.follows.holds c.cut.new.self).3 (search rules)).0) c.cut.ensures
