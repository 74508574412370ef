-- The names of each layer of a condition, by those of its parts.
use Rattle.std.proofs.Common.{◌≡◌, ℕ, List, ◌++◌}
use Rattle.bas_ast.specs.Tree as t
use Rattle.bas_ast.specs.ConditionTree.{cond_tree, conj_tree, test_tree, conjs_tree, tests_tree}
use Rattle.bas_ast.specs.declared.condition.Cond.{Cond, out-Cond}
use Rattle.bas_ast.specs.declared.condition.Conj.{Conj, out-Conj}
use Rattle.bas_ast.specs.declared.condition.Test.{Test}
use Rattle.bas_ast.proofs.ConditionTrees.{cond_out, conj_out}
use Rattle.bas_scope.specs.Nodes.{cond_nodes, conj_nodes, conjs_nodes, test_nodes, tests_nodes, expr_nodes}
use Rattle.bas_uses.specs.Uses.{bare_names}
use Rattle.bas_uses.proofs.Appending.{two}

pub cond_uses : (x : Cond) (rest : List Conj) (a b c : List (List ℕ)) → rest ≡ (out-Cond x).rest
    → b ≡ a ++ bare_names (conj_nodes (conj_tree (out-Cond x).first)) → c ≡ b ++ bare_names (conjs_nodes (conjs_tree rest))
    → c ≡ a ++ bare_names (cond_nodes (cond_tree x))
cond_uses x rest a b c er p q = rw (cond_out x, ← er) (two a b c (conj_nodes (conj_tree (out-Cond x).first)) (conjs_nodes (conjs_tree rest)) p q)

pub conj_uses : (x : Conj) (rest : List Test) (a b c : List (List ℕ)) → rest ≡ (out-Conj x).rest
    → b ≡ a ++ bare_names (test_nodes (test_tree (out-Conj x).first)) → c ≡ b ++ bare_names (tests_nodes (tests_tree rest))
    → c ≡ a ++ bare_names (conj_nodes (conj_tree x))
conj_uses x rest a b c er p q = rw (conj_out x, ← er) (two a b c (test_nodes (test_tree (out-Conj x).first)) (tests_nodes (tests_tree rest)) p q)

pub compare_uses : (left : t.Expr) (rel : t.Rel) (right : t.Expr) (a b c : List (List ℕ)) → b ≡ a ++ bare_names (expr_nodes left)
    → c ≡ b ++ bare_names (expr_nodes right) → c ≡ a ++ bare_names (test_nodes (t.Compare left rel right))
unfolding bare_names
compare_uses left rel right a b c p q = two a b c (expr_nodes left) (expr_nodes right) p q
