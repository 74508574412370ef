use Rattle.std.proofs.Common.{◌∙◌, sym}
use Rattle.bas_vm.proofs.Tables.{entry-found, entry-next, entry-none}
use Rattle.bas_vm.proofs.stop.entry_at.Goals as goal

pub returns-then-covers : goal.returns-then-covers
returns-then-covers c =
    entry-found c.args.lines.now c.loop-entry.entry-index c.args.pc c.entry-item.result c.loop-entry-test.true c.entry-item.is (sym c.covers.ensures ∙ c.if-covers.true) ∙ c.loop-entry.invariant

pub loop-entry-preserved : goal.loop-entry-preserved
loop-entry-preserved c =
    entry-next c.args.lines.now c.loop-entry.entry-index c.args.pc c.entry-item.result c.loop-entry-test.true c.entry-item.is (sym c.covers.ensures ∙ c.if-covers.false) ∙ c.loop-entry.invariant

pub returns : goal.returns
returns c = entry-none c.args.lines.now c.loop-entry.entry-index c.args.pc c.loop-entry-test.false ∙ c.loop-entry.invariant
