use Rattle.std.proofs.Common.{◌≡◌, drop}
use Rattle.bas_vm.specs.Fit.{go_right}
use Rattle.bas_vm.proofs.fitness.go_right.Given as goal

-- the instructions that are left decide
abbrev pub invariant-loop-at : goal.invariant-loop-at
invariant-loop-at l = go_right l.code (drop l.at l.code) l.at ≡ go_right l.code l.code 0
