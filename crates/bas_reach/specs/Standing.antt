-- What is around a line, as a walk over a body keeps it: each block with what is around it.
use Rattle.std.specs.Prelude.{◌≡◌, ℕ, List, [], ◌++◌}
use Rattle.std.specs.Option.{option_map_or, option_to_list}
use Rattle.bas_ast.specs.Tree as t
use Rattle.bas_rules.specs.Jumping.{is_listed}
use Rattle.bas_rules.specs.Naming.{is_among}
use Rattle.bas_rules.specs.Sites as rule
use Rattle.bas_reach.specs.declared.around.Around.{Around, Around-F, fold-Around}

-- what is around the lines of a block, with what is around the block
abbrev pub around_block : Around-F rule.Around → rule.Around
around_block x = record {
  reach = x.lines.keys ++ option_map_or (λ outer. outer.now.reach) x.outer [];
  in_do = x.in_do;
  in_for = x.in_for;
  in_handler = x.in_handler;
  counters = option_to_list x.counter ++ option_map_or (λ outer. outer.now.counters) x.outer [];
}

-- what is around a line
unfoldable pub around_of : Around → rule.Around
around_of = fold-Around rule.Around around_block

-- the same lines are reached, the same constructs are around, and the same variables count
pub record IsSame (x a : rule.Around) : Type 0 where
  pub reach : (l : ℕ) → is_listed x.reach l ≡ is_listed a.reach l
  pub in_do : x.in_do ≡ a.in_do
  pub in_for : x.in_for ≡ a.in_for
  pub in_handler : x.in_handler ≡ a.in_handler
  pub counters : (name : List ℕ) → is_among name x.counters ≡ is_among name a.counters

-- what is kept tells what is around a line
abbrev pub Tells : Around → rule.Around → Type 0
Tells x a = IsSame (around_of x) a

-- what is kept inside of a block, by what is kept outside of it
abbrev pub Enters : (outer inner : Around) → t.LineItem → t.Block → (close : ℕ) → Type 0
Enters outer inner head block close = (a : rule.Around) → Tells outer a → Tells inner (rule.inside head block close a)
