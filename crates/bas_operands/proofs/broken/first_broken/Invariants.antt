-- The whole answers as what is left.
use Rattle.std.proofs.Common.{◌≡◌, drop}
use Rattle.bas_operands.specs.Operands.{first_broken}
use Rattle.bas_operands.proofs.broken.first_broken.Given as goal

abbrev pub invariant-loop-rule : goal.invariant-loop-rule
invariant-loop-rule l = first_broken (drop l.rule-index l.rules) ≡ first_broken l.rules
