-- The set and the statements that are left have all numbers.
use Rattle.std.proofs.Common.{◌≡◌, ℕ, ◌||◌, drop}
use Rattle.std.specs.Ordering.{nat_cmp}
use Rattle.std.specs.BTreeSet.{contains}
use Rattle.bas_ast.specs.BlockTree.{stmts_tree}
use Rattle.bas_rules.specs.Jumping.{is_listed}
use Rattle.bas_rules.specs.Sites.{counted_lines}
use Rattle.bas_reach.proofs.lines.insert_lines.Given as goal

abbrev pub invariant-loop-stmt : goal.invariant-loop-stmt
invariant-loop-stmt l =
    (q : ℕ) → (is_listed (counted_lines (stmts_tree (drop l.stmt-index l.stmts))) q || contains nat_cmp l.set q) ≡ (is_listed (counted_lines (stmts_tree l.stmts)) q || contains nat_cmp l.initial.set q)
