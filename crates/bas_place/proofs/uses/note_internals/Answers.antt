-- One more statement is noted.
use Rattle.std.proofs.Common.{arith}
use Rattle.bas_place.proofs.Inners.{gains_next, gains_all}
use Rattle.bas_place.proofs.uses.note_internals.Goals as goal

pub loop-stmt-preserved : goal.loop-stmt-preserved
loop-stmt-preserved c = λ outer entries s.
    gains_next outer entries c.args.stmts.now c.loop-stmt.stmt-index c.stmt-item.result c.args.uses.now c.loop-stmt.uses c.note_internal.new.uses
    c.stmt-item.is (omega arith) (c.loop-stmt.invariant outer entries s) (c.in_ok-note_internal.ensures outer entries s)

pub returns : goal.returns
returns c = λ outer entries s.
    gains_all outer entries c.args.stmts.now c.loop-stmt.stmt-index c.args.uses.now c.loop-stmt.uses (omega arith) (c.loop-stmt.invariant outer entries s)
