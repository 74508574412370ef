-- The whole agrees where what is left does.
use Rattle.std.proofs.Common.{◌≡◌, map, drop}
use Rattle.std.specs.List.{list_all}
use Rattle.bas_ast.specs.ExpressionTree.{target_tree}
use Rattle.bas_kind.specs.Truths.{kind_of}
use Rattle.bas_rules.specs.Kinds.{same_kind, target_kind}
use Rattle.bas_kind.proofs.statement.have_kind.Given as goal

abbrev pub invariant-loop-target : goal.invariant-loop-target
invariant-loop-target l = list_all (λ target. same_kind (target_kind target) (kind_of l.numeric)) (map target_tree (drop l.target-index l.targets)) ≡ list_all (λ target. same_kind (target_kind target) (kind_of l.numeric)) (map target_tree l.targets)
