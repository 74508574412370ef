use Rattle.std.proofs.Common.{◌≡◌, ◌≤◌, take}
use Rattle.bas_declaration.specs.Digits.{held}
use Rattle.bas_declaration.proofs.digits.held.Given as goal

abbrev pub invariant-loop-digit : goal.invariant-loop-digit
invariant-loop-digit l = (l.value ≡ held (take l.digit-index l.text)) × (l.value ≤ 4294967295)
