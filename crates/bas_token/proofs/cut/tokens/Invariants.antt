use Rattle.std.proofs.Common.{◌≤◌, ◌-◌, length}
use Rattle.bas_token.proofs.CutLaws.{HasRead}
use Rattle.bas_token.proofs.cut.tokens.Given as goal

abbrev pub invariant-loop-token : goal.invariant-loop-token
invariant-loop-token l = record { within : l.at ≤ length l.line; read : HasRead l.line l.found.items l.at }

abbrev pub decreases-loop-token : goal.decreases-loop-token
decreases-loop-token l = length l.line - l.at
