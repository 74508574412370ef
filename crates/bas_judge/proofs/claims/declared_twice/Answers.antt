-- Five ways to declare a name a second time.
use Rattle.std.proofs.Common.{map, ap, ◌∙◌}
use Rattle.std.specs.List.{list_any}
use Rattle.bas_rules.specs.Naming.{claimed_name, has_twice}
use Rattle.bas_claim.specs.First.{stands_before}
use Rattle.bas_claim.specs.Headings.{is_refused}
use Rattle.bas_judge.proofs.Claiming.{joined}
use Rattle.bas_judge.proofs.claims.declared_twice.Goals as goal

pub returns : goal.returns
returns c =
    let place = c.args.place.now in
    let l = c.args.line.now.line in
    joined place c.args.line.now c.in_ok-claims.claims.items _ _ _ _ _ c.claims_are_refused.ensures c.in_ok-claims.ensures
    (c.is_any_refused-is_refused.ensures ∙ ap (list_any (is_refused place.body.now.kind place.body.now.heading place.body.now.claims l)) c.as_slice.ensures.value)
    (c.in_ok-is_repeated.ensures ∙ ap (λ cs. has_twice (map claimed_name cs)) c.as_slice-2.ensures.value)
    c.in_ok-is_headed.ensures
    c.in_ok-uses_sub.ensures
    (c.is_any_before-is_used.ensures ∙ ap (list_any (λ claim. stands_before place.uses.now (claimed_name claim) l)) c.as_slice-3.ensures.value)
