-- The mark alone.
use Rattle.std.proofs.Common.{refl}
use Rattle.std.proofs.lemmas.Result.{on_ok_weaker}
use Rattle.bas_gen.proofs.MakingLines.{mark_emits}
use Rattle.bas_gen.proofs.emit.emit_remark.Goals as goal

pub returns : goal.returns
returns c =
    on_ok_weaker c.enter.result
    (mark_emits c.args.line c.args.output.now (record { code = c.push.new.self; lines = c.args.output.now.lines; sizes = c.args.output.now.sizes }) c.enter.new.output c.push.new.self c.len-start.result c.len-end.result c.len-start.ensures c.in_ok-push.ensures refl refl refl c.len-end.ensures)
    c.enter.ensures
