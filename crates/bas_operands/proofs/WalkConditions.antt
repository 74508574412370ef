-- The faults of each layer of a condition, by the faults of its parts.
use Rattle.std.proofs.Common.{◌≡◌, ℕ, List, Option, sym}
use Rattle.bas_ast.specs.ExpressionTree.{expr_tree}
use Rattle.bas_ast.specs.ConditionTree.{cond_tree, conj_tree, test_tree, conjs_tree, tests_tree}
use Rattle.bas_ast.specs.declared.expression.Expr.{Expr}
use Rattle.bas_ast.specs.declared.condition.Rel.{Rel}
use Rattle.bas_ast.specs.declared.condition.Cond.{Cond, out-Cond}
use Rattle.bas_ast.specs.declared.condition.Conj.{Conj, out-Conj}
use Rattle.bas_ast.specs.declared.condition.Test.{Test}
use Rattle.bas_ast.specs.declared.condition.Test as form
use Rattle.bas_ast.proofs.ConditionTrees.{cond_out, conj_out, test_compare}
use Rattle.bas_scope.specs.Nodes.{OfTest, expr_nodes, cond_nodes, conj_nodes, conjs_nodes, test_nodes, tests_nodes}
use Rattle.bas_scope.specs.Senses.{Senses}
use Rattle.bas_operands.specs.Operands.{node_fault, nodes_fault, least}
use Rattle.bas_operands.proofs.Rows.{fault_both, fault_parts}

pub cond_is : (s : Senses) (x : Cond) (rest : List Conj) (a b : Option ℕ) → rest ≡ (out-Cond x).rest
    → a ≡ nodes_fault s (conj_nodes (conj_tree (out-Cond x).first)) → b ≡ nodes_fault s (conjs_nodes (conjs_tree rest))
    → least a b ≡ nodes_fault s (cond_nodes (cond_tree x))
cond_is s x rest a b er ea eb = rw (ea, eb, er, cond_out x) (sym (fault_both s _ _))

pub conj_is : (s : Senses) (x : Conj) (rest : List Test) (a b : Option ℕ) → rest ≡ (out-Conj x).rest
    → a ≡ nodes_fault s (test_nodes (test_tree (out-Conj x).first)) → b ≡ nodes_fault s (tests_nodes (tests_tree rest))
    → least a b ≡ nodes_fault s (conj_nodes (conj_tree x))
conj_is s x rest a b er ea eb = rw (ea, eb, er, conj_out x) (sym (fault_both s _ _))

pub compare_is : (s : Senses) (x : Test) (left : Expr) (rel : Rel) (right : Expr) (a b c : Option ℕ) → x ≡ form.Compare left rel right
    → a ≡ node_fault s (OfTest (test_tree x)) → b ≡ nodes_fault s (expr_nodes (expr_tree left)) → c ≡ nodes_fault s (expr_nodes (expr_tree right))
    → least a (least b c) ≡ nodes_fault s (test_nodes (test_tree x))
compare_is s x left rel right a b c is ea eb ec = rw (ea, eb, ec, is, test_compare left rel right) (sym (fault_parts s _ _ _))
