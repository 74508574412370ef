-- The variables that are left.
use Rattle.std.proofs.Common.{map, drop}
use Rattle.bas_ast.specs.DeclarationTree.{declared_tree}
use Rattle.bas_scope.specs.Scope.{Home, variables}
use Rattle.bas_names.specs.Tables.{options_told}
use Rattle.bas_names.proofs.Putting.{Leaves}
use Rattle.bas_names.proofs.variables.put_variables.Given as goal

abbrev pub invariant-loop-item : goal.invariant-loop-item
invariant-loop-item l = (home : Home)
    → Leaves l.initial.table l.table (variables (options_told l.options) home (map declared_tree l.items)) (variables (options_told l.options) home (map declared_tree (drop l.item-index l.items)))
