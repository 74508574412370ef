-- The whole answers as what is left.
use Rattle.std.proofs.Common.{◌≡◌, drop}
use Rattle.std.specs.List.{list_any}
use Rattle.bas_claim.specs.Headings.{is_refused}
use Rattle.bas_claim.proofs.clash.is_any_refused.Given as goal

abbrev pub invariant-loop-claim : goal.invariant-loop-claim
invariant-loop-claim l =
    list_any (is_refused l.kind l.heading l.first l.line) (drop l.claim-index l.claims)
    ≡ list_any (is_refused l.kind l.heading l.first l.line) l.claims
