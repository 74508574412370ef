-- The clashes of a line's names, told by the tables of its place.
use Rattle.std.proofs.Common.{◌≡◌, ℕ, Bool, true, false, ◌&&◌, ◌||◌, if◌then◌else◌, List, [], ◌∷◌, ◌++◌, map, refl, sym, ap, ◌∙◌}
use Rattle.std.specs.List.{list_any, filter}
use Rattle.bas_ast.specs.Tree as t
use Rattle.bas_ast.specs.BlockTree.{item_tree}
use Rattle.bas_ast.specs.declared.block.NumLine.{NumLine}
use Rattle.bas_scope.specs.Bodies.{head_item, names_on}
use Rattle.bas_scope.specs.Senses.{senses_of}
use Rattle.bas_rules.specs.declared.claims.Claim.{Claim}
use Rattle.bas_rules.specs.Sites.{Ground}
use Rattle.bas_rules.specs.Naming.{is_among, claimed_name, claims_on, claimed_before, function_name, formal_names, has_twice, is_sub_sense, sub_names_used, is_refused, used_before, declared_twice}
use Rattle.bas_names.specs.Names.{senses_in}
use Rattle.bas_claim.specs.First.{stands_before}
use Rattle.bas_claim.specs.Headings.{AreRefused, is_refused as is_refused_at}
use Rattle.bas_place.specs.Standing.{StandsOn}
use Rattle.bas_place.specs.declared.place.Place.{Place}
use Rattle.bas_judge.specs.Answers.{IsOf}
use Rattle.bas_judge.specs.Clashes.{is_sub_before, uses_sub}

grouped : (a r h u c : Bool) → ((((a || r) || h) || u) || c) ≡ (a || (r || (h || (u || c))))
grouped true r h u c = refl
grouped false true h u c = refl
grouped false false true u c = refl
grouped false false false true c = refl
grouped false false false false c = refl

any_filtered : {X : Type 0} (p q : X → Bool) (xs : List X) → list_any (λ x. p x && q x) xs ≡ list_any q (filter p xs)
any_filtered p q [] = refl
any_filtered p q (x ∷ xs) = by (p x) (any_filtered p q xs)
  where
    by : (b : Bool) → list_any (λ y. p y && q y) xs ≡ list_any q (filter p xs)
        → ((b && q x) || list_any (λ y. p y && q y) xs) ≡ list_any q (if b then x ∷ filter p xs else filter p xs)
    by true ih = ap (λ r. q x || r) ih
    by false ih = ih

-- a name of a SUB before a line that is used as a variable
pub used_sub : (place : Place) (ground : Ground) → StandsOn place ground → (l : ℕ) (item : t.LineItem) (u : Bool)
    → u ≡ uses_sub (senses_in place.names) place.container.now l item
    → u ≡ list_any (λ name. is_among name (claimed_before ground.family.container l)) (sub_names_used (senses_of ground.body.scope) item)
used_sub place ground stands l item u e =
    e
    ∙ (ap (λ s. list_any (is_sub_before s place.container.now l) (names_on item)) stands.names
    ∙ ((λ i. list_any (λ name. is_sub_sense ((senses_of ground.body.scope).named name) && stands.family.claimed.before name l i) (names_on item))
    ∙ any_filtered (λ name. is_sub_sense ((senses_of ground.body.scope).named name)) (λ name. is_among name (claimed_before ground.family.container l)) (names_on item)))

module _ (place : Place) (line : NumLine) (ground : Ground) (stands : StandsOn place ground) where
  -- a claim that is refused
  refused : (claims : List Claim) (a : Bool) → AreRefused → claims ≡ claims_on (item_tree line.item)
      → a ≡ list_any (is_refused_at place.body.now.kind place.body.now.heading place.body.now.claims line.line) claims
      → a ≡ list_any (is_refused ground.body.kind (head_item ground.body.head) (claimed_before ground.body line.line)) (claims_on (item_tree line.item))
  refused claims a law is e =
      e
      ∙ (law.refused place.body.now.kind place.body.now.heading (head_item ground.body.head) place.body.now.claims line.line (claimed_before ground.body line.line)
      stands.body.heading (λ name. stands.body.claims.before name line.line) claims
      ∙ (ap (λ kind. list_any (is_refused kind (head_item ground.body.head) (claimed_before ground.body line.line)) claims) (sym stands.body.kind)
      ∙ ap (list_any (is_refused ground.body.kind (head_item ground.body.head) (claimed_before ground.body line.line))) is))

pub joined : (place : Place) (line : NumLine) (claims : List Claim) (a r h u c : Bool) → AreRefused
    → claims ≡ claims_on (item_tree line.item)
    → a ≡ list_any (is_refused_at place.body.now.kind place.body.now.heading place.body.now.claims line.line) claims
    → r ≡ has_twice (map claimed_name claims)
    → h ≡ has_twice (function_name (item_tree line.item) ++ formal_names (item_tree line.item))
    → u ≡ uses_sub (senses_in place.names) place.container.now line.line (item_tree line.item)
    → c ≡ list_any (λ claim. stands_before place.uses.now (claimed_name claim) line.line) claims
    → (opener : t.LineItem) → IsOf place opener line declared_twice ((((a || r) || h) || u) || c)
joined place line claims a r h u c law is ea er eh eu ec opener ground stands =
    let refusal = refused place line ground stands claims a law is ea in
    let repeat = er ∙ ap (λ cs. has_twice (map claimed_name cs)) is in
    let use_of_sub = used_sub place ground stands line.line (item_tree line.item) u eu in
    let claim_of_used =
    ec
    ∙ ((λ i. list_any (λ claim. stands.family.used (claimed_name claim) line.line i) claims)
    ∙ ap (list_any (λ claim. is_among (claimed_name claim) (used_before ground.family line.line))) is) in
    grouped a r h u c ∙ (λ i. refusal i || (repeat i || (eh i || (use_of_sub i || claim_of_used i))))
