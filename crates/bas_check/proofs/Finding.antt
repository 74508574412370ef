-- What is found among lines in a row.
use Rattle.std.proofs.Common.{◌≡◌, ℕ, suc, ◌+◌, ◌<◌, ◌≤◌, true, false, length, get_or, drop, List, [], ◌∷◌, ◌++◌, Option, Some, None, is_some, refl, sym, ap, ◌∙◌, add-one, drop-cons}
use Rattle.std.specs.Option.{option_map, option_or}
use Rattle.std.proofs.lemmas.List.{at_drop_all}
use Rattle.bas_ast.specs.Tree as t
use Rattle.bas_scope.specs.Scope.{definition_block, definition_on}
use Rattle.bas_rules.specs.Sites.{Ground, Site, definition_sites, internal_ground, site_at, stmt_sites}
use Rattle.bas_rules.specs.Well as rule
use Rattle.bas_operands.specs.Operands.{least}
use Rattle.bas_judge.specs.Definitions.{definition_line}
use Rattle.bas_judge.specs.Rows.{FaultsOfPlaces}
use Rattle.bas_check.specs.declared.fault.Fault.{Fault}
use Rattle.bas_check.specs.Faults.{Finds, broken_at, fault_told}
use Rattle.bas_check.specs.Walks.{definition_of}

pub or_none : {X : Type 0} (o : Option X) → option_or o None ≡ o
or_none None = refl
or_none (Some x) = refl

or_joined : {X : Type 0} (a b c : Option X) → option_or (option_or a b) c ≡ option_or a (option_or b c)
or_joined None b c = refl
or_joined (Some x) b c = refl

pub among_joined : (xs ys : List (List Site)) → rule.fault_among (xs ++ ys) ≡ option_or (rule.fault_among xs) (rule.fault_among ys)
among_joined [] ys = refl
among_joined (x ∷ xs) ys =
    ap (option_or (rule.fault_of_line x)) (among_joined xs ys) ∙ sym (or_joined (rule.fault_of_line x) (rule.fault_among xs) (rule.fault_among ys))

-- what some lines break is broken in the whole
pub found_first : (found : Option Fault) (xs ys : List (List Site)) → is_some found ≡ true → Finds found xs → Finds found (xs ++ ys)
found_first None xs ys e h = let bad : false ≡ true = e in absurd cc
found_first (Some f) xs ys e h = sym (among_joined xs ys ∙ ap (λ o. option_or o (rule.fault_among ys)) (sym h))

-- where they break nothing, the others tell
pub passed : (found : Option Fault) (xs ys : List (List Site)) → is_some found ≡ false → Finds found xs → rule.fault_among (xs ++ ys) ≡ rule.fault_among ys
passed None xs ys e h = among_joined xs ys ∙ ap (λ o. option_or o (rule.fault_among ys)) (sym h)
passed (Some f) xs ys e h = let bad : true ≡ false = e in absurd cc

pub found_next : (found next : Option Fault) (xs ys : List (List Site)) → is_some found ≡ false → Finds found xs → Finds next ys → Finds next (xs ++ ys)
found_next found next xs ys e h k = k ∙ sym (passed found xs ys e h)

-- a line with one place
pub line_found : (found : Option Fault) (broken : Option ℕ) (g : Ground) (opener : t.LineItem) (line : t.NumLine)
    → option_map fault_told found ≡ broken_at line.line broken → broken ≡ rule.first_failed 1 rule.rules (site_at g opener line ∷ [])
    → Finds found ((site_at g opener line ∷ []) ∷ [])
line_found found broken g opener line e f = e ∙ ap (broken_at line.line) f ∙ sym (or_none (rule.fault_of_line (site_at g opener line ∷ [])))

pub next_of : {X : Type 0} (xs : List X) (i : ℕ) (x : X) → x ≡ get_or xs i x → i < length xs → drop i xs ≡ x ∷ drop (i + 1) xs
next_of xs i x e h = rw (add-one, drop-cons xs i x) (ap (λ y. y ∷ drop (suc i) xs) (sym e))

-- a row of parts, of which each has its lines
module _ {X : Type 0} (lines : List X → List (List Site)) (part : X → List (List Site)) (split : (x : X) (xs : List X) → lines (x ∷ xs) ≡ part x ++ lines xs) where
  left_of : (xs : List X) (i : ℕ) (x : X) → x ≡ get_or xs i x → i < length xs → lines (drop i xs) ≡ part x ++ lines (drop (i + 1) xs)
  left_of xs i x e h = ap lines (next_of xs i x e h) ∙ split x (drop (i + 1) xs)

  pub row_found : (xs : List X) (i : ℕ) (x : X) (found : Option Fault) → x ≡ get_or xs i x → i < length xs → is_some found ≡ true → Finds found (part x)
      → rule.fault_among (lines (drop i xs)) ≡ rule.fault_among (lines xs) → Finds found (lines xs)
  row_found xs i x found e h s p left =
      found_first found (part x) (lines (drop (i + 1) xs)) s p ∙ ap rule.fault_among (sym (left_of xs i x e h)) ∙ left

  pub row_next : (xs : List X) (i : ℕ) (x : X) (found : Option Fault) → x ≡ get_or xs i x → i < length xs → is_some found ≡ false → Finds found (part x)
      → rule.fault_among (lines (drop i xs)) ≡ rule.fault_among (lines xs) → rule.fault_among (lines (drop (i + 1) xs)) ≡ rule.fault_among (lines xs)
  row_next xs i x found e h s p left =
      sym (ap rule.fault_among (left_of xs i x e h) ∙ passed found (part x) (lines (drop (i + 1) xs)) s p) ∙ left

  pub row_end : (xs : List X) (i : ℕ) → lines [] ≡ [] → length xs ≤ i → rule.fault_among (lines (drop i xs)) ≡ rule.fault_among (lines xs) → Finds None (lines xs)
  row_end xs i none h left = sym (ap rule.fault_among (at_drop_all lines xs i h ∙ none)) ∙ left

-- a line with a second place, in the body of the definition on it
pub definition_found : (found : Option Fault) (broken inner_broken : Option ℕ) (g : Ground) (head : t.NumLine) (name : List ℕ) (value : t.Expr) → FaultsOfPlaces
    → definition_on head head.item ≡ (head, definition_block head.line name value) ∷ []
    → option_map fault_told found ≡ broken_at head.line (least broken inner_broken)
    → broken ≡ rule.first_failed 1 rule.rules (site_at g t.Nothing head ∷ [])
    → inner_broken ≡ rule.first_failed 1 rule.rules (definition_sites g ((head, definition_block head.line name value) ∷ []))
    → Finds found (stmt_sites g (t.Single head))
definition_found found broken inner_broken g head name value law is e a b =
    rw is
    (e
    ∙ ap (broken_at head.line) ((λ i. least (a i) (b i)) ∙ sym (law.two (site_at g t.Nothing head) (site_at (internal_ground g (definition_of head name value)) t.Nothing (definition_line head.line name value))))
    ∙ sym (or_none (rule.fault_of_line (site_at g t.Nothing head ∷ definition_sites g ((head, definition_block head.line name value) ∷ [])))))
