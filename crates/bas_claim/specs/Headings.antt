-- What the first line of a body has declared, and which claims the body does not take.
use Rattle.std.specs.Prelude.{◌≡◌, ℕ, Bool, true, not, ◌||◌, List}
use Rattle.std.specs.Option.{option_to_list}
use Rattle.std.specs.List.{list_any}
use Rattle.std.specs.Ordering.{nat_cmp}
use Rattle.std.specs.Cmp.Lexicographic.{slice_cmp}
use Rattle.std.specs.BTreeSet.{contains}
use Rattle.bas_ast.specs.Tree.{LineItem}
use Rattle.bas_scope.specs.declared.body.BodyKind.{BodyKind}
use Rattle.bas_scope.specs.declared.body.BodyKind.TheVariants.{Internal}
use Rattle.bas_rules.specs.declared.claims.Claim.{Claim}
use Rattle.bas_rules.specs.declared.claims.Claim.TheVariants.{Types, Imports, Makes}
use Rattle.bas_rules.specs.Naming.{is_among, function_name, formal_names, claimed_name, is_refused as is_refused_by_rule}
use Rattle.bas_claim.specs.declared.heading.Heading.{Heading}
use Rattle.bas_claim.specs.declared.first.FirstLines.{FirstLines}
use Rattle.bas_claim.specs.First.{stands_before}

-- a name is that of a formal
abbrev pub has_formal : Heading → List ℕ → Bool
has_formal heading name = contains (slice_cmp nat_cmp) heading.formals name

-- a name is that of the function
abbrev pub is_function : Heading → List ℕ → Bool
is_function heading name = is_among name (option_to_list heading.function)

-- a claim that a body of a kind does not take, whatever came before
abbrev pub refuses : BodyKind → Heading → Claim → Bool
refuses Internal heading (Types name) = not (has_formal heading name)
refuses Internal heading _ = true
refuses _ heading (Types name) = is_function heading name
refuses _ heading (Imports name) = has_formal heading name
refuses _ heading (Makes name) = has_formal heading name || is_function heading name

-- a claim that is not taken at a line
abbrev pub is_refused : BodyKind → Heading → FirstLines → ℕ → Claim → Bool
is_refused kind heading first l claim = stands_before first (claimed_name claim) l || refuses kind heading claim

-- the formals and the function are those of a first line
pub record Describes (heading : Heading) (head : LineItem) : Type 0 where
  pub formals : (name : List ℕ) → has_formal heading name ≡ is_among name (formal_names head)
  pub function : option_to_list heading.function ≡ function_name head

-- claims are refused as the rule says, whatever lines the names are taken from
pub record AreRefused : Type 0 where
  pub refused : (kind : BodyKind) (heading : Heading) (head : LineItem) (first : FirstLines) (l : ℕ) (before : List (List ℕ)) → Describes heading head
      → ((name : List ℕ) → stands_before first name l ≡ is_among name before) → (claims : List Claim)
      → list_any (is_refused kind heading first l) claims ≡ list_any (is_refused_by_rule kind head before) claims
