use Rattle.std.proofs.Common.{◌≡◌, ◌/◌, ◌^◌, ◌-◌}
use Rattle.bas_dec.proofs.wide.Wide.round.Given as goal

-- all digits but the last of those to be taken off are gone
abbrev pub invariant-loop : goal.invariant-loop
invariant-loop l = l.self ≡ l.initial.self / 10 ^ (l.counter - 1)
