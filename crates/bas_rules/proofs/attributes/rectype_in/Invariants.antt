-- The whole answers as what is left.
use Rattle.std.proofs.Common.{◌≡◌, map, drop}
use Rattle.std.specs.List.{list_any}
use Rattle.bas_ast.specs.RecordTree.{attr_tree}
use Rattle.bas_rules.specs.Recording.{has_bad_size, organization_in, rectype_in}
use Rattle.bas_rules.proofs.attributes.rectype_in.Given as goal

abbrev pub invariant-loop-attr : goal.invariant-loop-attr
invariant-loop-attr l = rectype_in (map attr_tree (drop l.attr-index l.attrs)) ≡ rectype_in (map attr_tree l.attrs)
