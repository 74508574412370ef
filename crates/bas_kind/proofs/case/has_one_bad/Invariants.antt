-- The whole answers as what is left.
use Rattle.std.proofs.Common.{◌≡◌, map, drop}
use Rattle.std.specs.List.{list_any}
use Rattle.bas_ast.specs.PartTree.{case_tree}
use Rattle.bas_kind.specs.Truths.{kind_of}
use Rattle.bas_rules.specs.Recording.{is_bad_case}
use Rattle.bas_kind.proofs.case.has_one_bad.Given as goal

abbrev pub invariant-loop-case : goal.invariant-loop-case
invariant-loop-case l = list_any (is_bad_case (kind_of l.numeric)) (map case_tree (drop l.case-index l.cases)) ≡ list_any (is_bad_case (kind_of l.numeric)) (map case_tree l.cases)
