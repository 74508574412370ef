-- At the end no argument is left.
use Rattle.std.proofs.Common.{◌∙◌, arith}
use Rattle.bas_names.specs.Names.{senses_in}
use Rattle.bas_operands.specs.Passing.{passed_to}
use Rattle.bas_operands.proofs.Arguments.{all_passed}
use Rattle.bas_operands.proofs.passing.all_fit.Goals as goal

pub returns : goal.returns
returns c =
    all_passed (passed_to c.args.callee (senses_in c.args.names.now)) c.args.actuals.now c.args.formals.now c.loop-i.i (omega arith) (omega arith)
    ∙ c.loop-i.invariant
