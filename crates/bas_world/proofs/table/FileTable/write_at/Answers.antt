use Rattle.std.proofs.Common.{rules}
use Rattle.bas_world.specs.Files.{overwritten}
use Rattle.bas_world.proofs.Tables.{there-table, changed-table, unchanged-table, OnErr-always}
use Rattle.bas_world.proofs.table.FileTable.write_at.Goals as goal

pub unreachable-requires : goal.unreachable-requires
unreachable-requires c = there-table c.self.inside.table.entries c.args.name _ c.self.view_is c.requires c.in-None.ensures.value

pub returns-clause-ok : goal.returns-clause-ok
returns-clause-ok c =
    changed-table (λ file. overwritten file c.args.at c.args.bytes.now) c.self.inside.table.entries _ c.args.name c.in-Some.file.now c.write_at.new.self _
    c.self.view_is c.in-Some.ensures.value (((c.get_mut.follows.holds c.write_at.new.self).3 (search rules)).0) c.in_ok-write_at-in-Some.ensures.ok

pub returns-in_err-write_at-in-Some-clause-err : goal.returns-in_err-write_at-in-Some-clause-err
returns-in_err-write_at-in-Some-clause-err c =
    OnErr-always _ (
    unchanged-table c.self.inside.table.entries _ c.args.name c.in-Some.file.now c.write_at.new.self _
    c.self.view_is c.in-Some.ensures.value ((c.get_mut.follows.holds c.write_at.new.self).0) c.in_err-write_at-in-Some.ensures.err)
