-- Claims are refused as the rule says.
use Rattle.std.proofs.Common.{◌≡◌, ℕ, not, ◌||◌, List, [], ◌∷◌, refl, ap, ◌∙◌}
use Rattle.std.specs.List.{list_any}
use Rattle.bas_ast.specs.Tree.{LineItem}
use Rattle.bas_scope.specs.declared.body.BodyKind.{BodyKind}
use Rattle.bas_scope.specs.declared.body.BodyKind.TheVariants.{Main, External, Internal, Initial}
use Rattle.bas_rules.specs.declared.claims.Claim.{Claim}
use Rattle.bas_rules.specs.declared.claims.Claim.TheVariants.{Types, Imports, Makes}
use Rattle.bas_rules.specs.Naming.{is_among, function_name, formal_names, claimed_name, may_not_claim, is_refused as is_refused_by_rule}
use Rattle.bas_claim.specs.declared.heading.Heading.{Heading}
use Rattle.bas_claim.specs.declared.first.FirstLines.{FirstLines}
use Rattle.bas_claim.specs.First.{stands_before}
use Rattle.bas_claim.specs.Headings.{has_formal, is_function, refuses, is_refused, Describes, AreRefused}

module _ (heading : Heading) (head : LineItem) (d : Describes heading head) where
  function_same : (name : List ℕ) → is_function heading name ≡ is_among name (function_name head)
  function_same name = ap (is_among name) d.function

  both_same : (name : List ℕ) → (has_formal heading name || is_function heading name) ≡ (is_among name (formal_names head) || is_among name (function_name head))
  both_same name = ap (λ b. b || is_function heading name) (d.formals name) ∙ ap (λ b. is_among name (formal_names head) || b) (function_same name)

  refuses_same : (kind : BodyKind) (claim : Claim) → refuses kind heading claim ≡ may_not_claim kind head claim
  refuses_same Internal (Types name) = ap not (d.formals name)
  refuses_same Internal (Imports name) = refl
  refuses_same Internal (Makes name) = refl
  refuses_same Main (Types name) = function_same name
  refuses_same Main (Imports name) = d.formals name
  refuses_same Main (Makes name) = both_same name
  refuses_same External (Types name) = function_same name
  refuses_same External (Imports name) = d.formals name
  refuses_same External (Makes name) = both_same name
  refuses_same Initial (Types name) = function_same name
  refuses_same Initial (Imports name) = d.formals name
  refuses_same Initial (Makes name) = both_same name

  any_same : (kind : BodyKind) (first : FirstLines) (l : ℕ) (before : List (List ℕ)) → ((name : List ℕ) → stands_before first name l ≡ is_among name before) → (claims : List Claim)
      → list_any (is_refused kind heading first l) claims ≡ list_any (is_refused_by_rule kind head before) claims
  any_same kind first l before h [] = refl
  any_same kind first l before h (claim ∷ claims) =
      ap (λ b. (b || refuses kind heading claim) || list_any (is_refused kind heading first l) claims) (h (claimed_name claim))
      ∙ (ap (λ b. (is_among (claimed_name claim) before || b) || list_any (is_refused kind heading first l) claims) (refuses_same kind claim)
      ∙ ap (λ b. is_refused_by_rule kind head before claim || b) (any_same kind first l before h claims))

pub are_refused : AreRefused
are_refused = record { refused = λ kind heading head first l before d h claims. any_same heading head d kind first l before h claims }
