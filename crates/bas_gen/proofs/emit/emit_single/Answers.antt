-- A statement or a remark; other lines have no code.
use Rattle.std.proofs.lemmas.Result.{on_ok_weaker}
use Rattle.bas_genexpr.specs.Numbering.{variables}
use Rattle.bas_gen.specs.Addresses.{address_at}
use Rattle.bas_gen.specs.Emitting.{around_of}
use Rattle.bas_gen.proofs.MakingSections.{nothing_emits, remark_single, other_single}
use Rattle.bas_gen.proofs.emit.emit_single.Goals as goal

pub returns-in-Alone : goal.returns-in-Alone
returns-in-Alone c = rw c.in-Alone.ensures c.emit_alone.ensures

pub returns-in-Remark : goal.returns-in-Remark
returns-in-Remark c = on_ok_weaker c.emit_remark.result (remark_single _ (variables c.args.slots.now) (address_at c.args.targets.now) (around_of c.args.do_line) _ c.args.output.now c.emit_remark.new.output c.in-Remark.ensures) c.emit_remark.ensures

pub returns-in-If : goal.returns-in-If
returns-in-If c = rw c.in-If.ensures (nothing_emits c.args.output.now)

pub returns-in-Elseif : goal.returns-in-Elseif
returns-in-Elseif c = rw c.in-Elseif.ensures (nothing_emits c.args.output.now)

pub returns-in-Else : goal.returns-in-Else
returns-in-Else c = rw c.in-Else.ensures (nothing_emits c.args.output.now)

pub returns-in-Do : goal.returns-in-Do
returns-in-Do c = rw c.in-Do.ensures (nothing_emits c.args.output.now)

pub returns-in-Loop : goal.returns-in-Loop
returns-in-Loop c = rw c.in-Loop.ensures (nothing_emits c.args.output.now)

pub returns-in-End : goal.returns-in-End
returns-in-End c = rw c.in-End.ensures (nothing_emits c.args.output.now)

pub returns-in-Other : goal.returns-in-Other
returns-in-Other c = other_single _ (variables c.args.slots.now) (address_at c.args.targets.now) (around_of c.args.do_line) _ c.args.output.now c.in-Other.ensures
