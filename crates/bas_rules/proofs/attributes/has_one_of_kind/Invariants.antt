-- The whole answers as what is left.
use Rattle.std.proofs.Common.{◌≡◌, map, drop}
use Rattle.std.specs.List.{list_any}
use Rattle.bas_ast.specs.RecordTree.{attr_tree}
use Rattle.bas_rules.specs.Recording.{same_attribute}
use Rattle.bas_rules.proofs.attributes.has_one_of_kind.Given as goal

abbrev pub invariant-loop-other : goal.invariant-loop-other
invariant-loop-other l = list_any (same_attribute (attr_tree l.attr)) (map attr_tree (drop l.other-index l.attrs)) ≡ list_any (same_attribute (attr_tree l.attr)) (map attr_tree l.attrs)
