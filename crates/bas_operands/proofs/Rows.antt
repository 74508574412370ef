-- The faults of nodes in a row.
use Rattle.std.proofs.Common.{◌≡◌, ℕ, suc, ◌+◌, ◌<◌, ◌≤◌, length, get_or, drop, drop-cons, add-one, Bool, true, false, ◌&&◌, List, [], ◌∷◌, ◌++◌, map, Option, Some, None, refl, sym, ap, ◌∙◌, min, arith}
use Rattle.std.specs.Prelude.{◌||◌, nat_le, if◌then◌else◌}
use Rattle.std.specs.List.{list_any}
use Rattle.std.proofs.lemmas.Bool.Decides.{nat_tests}
use Rattle.std.proofs.lemmas.List.{at_drop_all}
use Rattle.bas_scope.specs.Nodes.{Node}
use Rattle.bas_scope.specs.Senses.{Senses}
use Rattle.bas_operands.specs.Operands.{NodeRule, node_rules, first_broken, node_fault, nodes_fault, least, FaultsOfRows}

-- what is left at a turn of a loop
turn : {A : Type 0} → (xs : List A) (i : ℕ) (x : A) → i < length xs → x ≡ get_or xs i x → drop i xs ≡ x ∷ drop (i + 1) xs
turn xs i x h e = rw (add-one, drop-cons xs i x, h) (ap (λ y. y ∷ drop (suc i) xs) (sym e))

pub least_none : (a : Option ℕ) → least a None ≡ a
least_none None = refl
least_none (Some m) = refl

pub least_grouped : (a b c : Option ℕ) → least (least a b) c ≡ least a (least b c)
least_grouped None b c = refl
least_grouped (Some l) None c = refl
least_grouped (Some l) (Some m) None = refl
least_grouped (Some l) (Some m) (Some n) = ap Some (omega arith)

-- no rule in a row is below a number
abbrev above : ℕ → List NodeRule → Bool
above n [] = true
above n (rule ∷ rules) = nat_le n rule.0 && above n rules

-- the numbers of rules do not fall
abbrev ascend : List NodeRule → Bool
ascend [] = true
ascend (rule ∷ rules) = above rule.0 rules && ascend rules

-- a rule that is found is not below a number
abbrev not_below : ℕ → Option ℕ → Bool
not_below n None = true
not_below n (Some m) = nat_le n m

and_first : (a b : Bool) → (a && b) ≡ true → a ≡ true
and_first true b e = refl
and_first false b e = let bad : false ≡ true = e in absurd cc

and_second : (a b : Bool) → (a && b) ≡ true → b ≡ true
and_second true b e = e
and_second false b e = let bad : false ≡ true = e in absurd cc

least_lower : (n : ℕ) (o : Option ℕ) → not_below n o ≡ true → least (Some n) o ≡ Some n
least_lower n None e = refl
least_lower n (Some m) e = let low : n ≤ m = grind (arith, nat_tests) in ap Some (omega arith)

least_upper : (n : ℕ) (o : Option ℕ) → not_below n o ≡ true → least o (Some n) ≡ Some n
least_upper n None e = refl
least_upper n (Some m) e = let low : n ≤ m = grind (arith, nat_tests) in ap Some (omega arith)

-- the first of the rules that a test tells as broken
abbrev first_by : (NodeRule → Bool) → List NodeRule → Option ℕ
first_by breaks rules = first_broken (map (λ rule. (rule.0, breaks rule)) rules)

first_above : (breaks : NodeRule → Bool) (n : ℕ) (rules : List NodeRule) → above n rules ≡ true → not_below n (first_by breaks rules) ≡ true
first_above breaks n [] e = refl
first_above breaks n (rule ∷ rules) e = by_test (breaks rule) (first_above breaks n rules (and_second (nat_le n rule.0) (above n rules) e))
  where
    by_test : (t : Bool) → not_below n (first_by breaks rules) ≡ true → not_below n (if t then Some rule.0 else first_by breaks rules) ≡ true
    by_test true ih = and_first (nat_le n rule.0) (above n rules) e
    by_test false ih = ih

min_same : (n : ℕ) → n ≡ min n n
min_same n = omega arith

-- what one of two tests tells is the lesser of what both tell
first_either : (f g : NodeRule → Bool) (rules : List NodeRule) → ascend rules ≡ true
    → first_by (λ rule. f rule || g rule) rules ≡ least (first_by f rules) (first_by g rules)
first_either f g [] e = refl
first_either f g (rule ∷ rules) e =
    by_tests (f rule) (g rule) (first_above f rule.0 rules (and_first (above rule.0 rules) (ascend rules) e))
    (first_above g rule.0 rules (and_first (above rule.0 rules) (ascend rules) e))
    (first_either f g rules (and_second (above rule.0 rules) (ascend rules) e))
  where
    by_tests : (t u : Bool) → not_below rule.0 (first_by f rules) ≡ true → not_below rule.0 (first_by g rules) ≡ true
        → first_by (λ r. f r || g r) rules ≡ least (first_by f rules) (first_by g rules)
        → (if t || u then Some rule.0 else first_by (λ r. f r || g r) rules)
        ≡ least (if t then Some rule.0 else first_by f rules) (if u then Some rule.0 else first_by g rules)
    by_tests true true low high ih = ap Some (min_same rule.0)
    by_tests true false low high ih = sym (least_lower rule.0 (first_by g rules) high)
    by_tests false true low high ih = sym (least_upper rule.0 (first_by f rules) low)
    by_tests false false low high ih = ih

pub fault_first : (s : Senses) (node : Node) (nodes : List Node) → nodes_fault s (node ∷ nodes) ≡ least (node_fault s node) (nodes_fault s nodes)
unfolding node_fault nodes_fault
fault_first s node nodes = first_either (λ rule. rule.1 s node) (λ rule. list_any (rule.1 s) nodes) node_rules refl

-- no nodes
pub fault_none : (s : Senses) → nodes_fault s [] ≡ None
unfolding nodes_fault
fault_none s = refl

pub fault_both : (s : Senses) (xs ys : List Node) → nodes_fault s (xs ++ ys) ≡ least (nodes_fault s xs) (nodes_fault s ys)
fault_both s [] ys = rw (fault_none s) refl
fault_both s (x ∷ xs) ys =
    fault_first s x (xs ++ ys)
    ∙ ap (least (node_fault s x)) (fault_both s xs ys)
    ∙ sym (least_grouped (node_fault s x) (nodes_fault s xs) (nodes_fault s ys))
    ∙ ap (λ o. least o (nodes_fault s ys)) (sym (fault_first s x xs))

-- one node alone
pub fault_alone : (s : Senses) (node : Node) → nodes_fault s (node ∷ []) ≡ node_fault s node
fault_alone s node = rw (fault_first s node [], fault_none s) (least_none (node_fault s node))

-- a node, its first part and what follows
pub fault_parts : (s : Senses) (node : Node) (xs ys : List Node)
    → nodes_fault s (node ∷ (xs ++ ys)) ≡ least (node_fault s node) (least (nodes_fault s xs) (nodes_fault s ys))
fault_parts s node xs ys = fault_first s node (xs ++ ys) ∙ ap (least (node_fault s node)) (fault_both s xs ys)

-- a turn of a loop that finds the least fault
pub fault_turn : {X : Type 0} (s : Senses) (nodes : X → List Node) (row : List X → List Node)
    → ((x : X) (xs : List X) → row (x ∷ xs) ≡ nodes x ++ row xs) → (xs : List X) (i : ℕ) (x : X) (before fault after : Option ℕ)
    → i < length xs → x ≡ get_or xs i x → fault ≡ nodes_fault s (nodes x) → after ≡ least before fault
    → least before (nodes_fault s (row (drop i xs))) ≡ nodes_fault s (row xs)
    → least after (nodes_fault s (row (drop (i + 1) xs))) ≡ nodes_fault s (row xs)
fault_turn s nodes row opens xs i x before fault after a e f g whole =
    ap (λ o. least o (nodes_fault s (row (drop (i + 1) xs)))) (g ∙ ap (least before) f)
    ∙ least_grouped before (nodes_fault s (nodes x)) (nodes_fault s (row (drop (i + 1) xs)))
    ∙ ap (least before) (sym (fault_both s (nodes x) (row (drop (i + 1) xs)))
    ∙ ap (nodes_fault s) (sym (opens x (drop (i + 1) xs)))
    ∙ ap (λ l. nodes_fault s (row l)) (sym (turn xs i x a e)))
    ∙ whole

-- the end of such a loop
pub fault_end : {X : Type 0} (s : Senses) (row : List X → List Node) → row [] ≡ [] → (xs : List X) (i : ℕ) (found : Option ℕ)
    → length xs ≤ i → least found (nodes_fault s (row (drop i xs))) ≡ nodes_fault s (row xs) → found ≡ nodes_fault s (row xs)
fault_end s row none xs i found over whole =
    sym (least_none found)
    ∙ ap (least found) (sym (fault_none s))
    ∙ ap (λ l. least found (nodes_fault s l)) (sym none)
    ∙ sym (at_drop_all (λ l. least found (nodes_fault s (row l))) xs i over)
    ∙ whole

pub rows_hold : FaultsOfRows
rows_hold = record { none = fault_none; first = fault_first; both = fault_both }
