-- The mark, and the statement behind it.
use Rattle.std.proofs.Common.{refl}
use Rattle.std.proofs.lemmas.Result.{on_ok_weaker}
use Rattle.bas_ast.specs.StatementTree.{plain_tree}
use Rattle.bas_genexpr.specs.Numbering.{variables}
use Rattle.bas_gen.specs.Addresses.{address_at}
use Rattle.bas_gen.specs.Emitting.{around_of}
use Rattle.bas_gen.proofs.MakingLines.{alone_emits}
use Rattle.bas_gen.proofs.emit.emit_alone.Goals as goal

pub returns : goal.returns
returns c =
    on_ok_weaker c.enter.result
    (alone_emits (variables c.args.slots.now) (address_at c.args.targets.now) (around_of c.args.do_line) c.args.line (plain_tree c.args.plain.now) c.args.output.now (record { code = c.put_plain.new.code; lines = c.args.output.now.lines; sizes = c.args.output.now.sizes }) c.enter.new.output c.push.new.self c.put_plain.new.code c.len-start.result c.len-end.result c.len-start.ensures c.in_ok-push.ensures c.in_ok-put_plain.ensures refl refl refl c.len-end.ensures)
    c.enter.ensures
