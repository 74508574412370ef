-- The whole answers as what is left.
use Rattle.std.proofs.Common.{◌≡◌, map, drop}
use Rattle.bas_ast.specs.RecordTree.{attr_tree}
use Rattle.bas_rules.specs.Recording.{has_attribute_twice}
use Rattle.bas_rules.proofs.attributes.has_attribute_twice.Given as goal

abbrev pub invariant-loop-i : goal.invariant-loop-i
invariant-loop-i l = has_attribute_twice (map attr_tree (drop l.i l.attrs)) ≡ has_attribute_twice (map attr_tree l.attrs)
