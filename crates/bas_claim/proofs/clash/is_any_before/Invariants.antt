-- The whole answers as what is left.
use Rattle.std.proofs.Common.{◌≡◌, drop}
use Rattle.std.specs.List.{list_any}
use Rattle.bas_rules.specs.Naming.{claimed_name}
use Rattle.bas_claim.specs.First.{stands_before}
use Rattle.bas_claim.proofs.clash.is_any_before.Given as goal

abbrev pub invariant-loop-claim : goal.invariant-loop-claim
invariant-loop-claim l =
    list_any (λ claim. stands_before l.first (claimed_name claim) l.line) (drop l.claim-index l.claims)
    ≡ list_any (λ claim. stands_before l.first (claimed_name claim) l.line) l.claims
