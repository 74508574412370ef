-- The names of the claims that are taken.
use Rattle.std.proofs.Common.{◌≡◌, map, take}
use Rattle.bas_rules.specs.Naming.{claimed_name}
use Rattle.bas_claim.proofs.tables.names_of.Given as goal

abbrev pub invariant-loop-claim : goal.invariant-loop-claim
invariant-loop-claim l = l.names.items ≡ map claimed_name (take l.claim-index l.claims)
