-- The names of the formals that are taken are put behind.
use Rattle.std.proofs.Common.{◌≡◌, ◌++◌, map, take}
use Rattle.std.specs.List.{filter_map}
use Rattle.bas_ast.specs.PartTree.{formal_tree}
use Rattle.bas_rules.specs.Naming.{name_of_formal}
use Rattle.bas_claim.proofs.heading.push_formals.Given as goal

abbrev pub invariant-loop-formal : goal.invariant-loop-formal
invariant-loop-formal l = l.names.items ≡ l.initial.names.items ++ filter_map name_of_formal (map formal_tree (take l.formal-index l.formals))
