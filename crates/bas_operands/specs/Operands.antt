-- The rules that every expression, operand, target, relation and CALL on a line is held to, and the least one
-- that some of them break.
use Rattle.std.specs.Prelude.{◌≡◌, ℕ, Bool, not, min, if◌then◌else◌, List, [], ◌∷◌, ◌++◌, map, Option, Some, None}
use Rattle.std.specs.List.{list_any}
use Rattle.bas_scope.specs.Nodes.{Node}
use Rattle.bas_scope.specs.Senses.{Senses}
use Rattle.bas_rules.specs.Kinds.{node_agrees}
use Rattle.bas_rules.specs.Naming.{array_misused, sets_function, applies_nothing}
use Rattle.bas_rules.specs.Calling.{misfits_at, miscounts_at, has_too_many_args}

-- the number of a rule, and whether a node breaks it
abbrev pub NodeRule : Type 0
NodeRule = ℕ × (Senses → Node → Bool)

-- the rules of nodes, in the order of their numbers
abbrev pub node_rules : List NodeRule
node_rules =
    (2, array_misused)
    ∷ (3, λ s node. not (node_agrees s node))
    ∷ (11, misfits_at)
    ∷ (12, miscounts_at)
    ∷ (16, sets_function)
    ∷ (20, λ s node. has_too_many_args node)
    ∷ (23, applies_nothing)
    ∷ []

-- the number of the first rule that is broken
abbrev pub first_broken : List (ℕ × Bool) → Option ℕ
first_broken [] = None
first_broken ((rule, is_broken) ∷ rules) = if is_broken then Some rule else first_broken rules

-- the least rule that a node breaks
unfoldable pub node_fault : Senses → Node → Option ℕ
node_fault s node = first_broken (map (λ rule. (rule.0, rule.1 s node)) node_rules)

-- the least rule that one of some nodes breaks
unfoldable pub nodes_fault : Senses → List Node → Option ℕ
nodes_fault s nodes = first_broken (map (λ rule. (rule.0, list_any (rule.1 s) nodes)) node_rules)

-- the lesser of two rules, where there are any
abbrev pub least : Option ℕ → Option ℕ → Option ℕ
least None b = b
least (Some m) None = Some m
least (Some m) (Some n) = Some (min m n)

-- of nodes in a row the lesser fault counts
pub record FaultsOfRows : Type 0 where
  pub none : (s : Senses) → nodes_fault s [] ≡ None
  pub first : (s : Senses) (node : Node) (nodes : List Node) → nodes_fault s (node ∷ nodes) ≡ least (node_fault s node) (nodes_fault s nodes)
  pub both : (s : Senses) (xs ys : List Node) → nodes_fault s (xs ++ ys) ≡ least (nodes_fault s xs) (nodes_fault s ys)
