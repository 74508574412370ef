-- One more variable is put.
use Rattle.std.proofs.Common.{[], ◌∷◌, map, refl, arith}
use Rattle.bas_ast.specs.DeclarationTree.{declared_tree}
use Rattle.bas_scope.specs.Scope.{variables}
use Rattle.bas_names.specs.Tables.{options_told}
use Rattle.bas_names.proofs.Putting.{leaves_more}
use Rattle.bas_names.proofs.variables.put_variables.Goals as goal

pub loop-item-preserved : goal.loop-item-preserved
loop-item-preserved c = λ home.
    let entries = variables (options_told c.args.options) home in
    leaves_more (λ xs. entries (map declared_tree xs)) (λ x. entries (map declared_tree (x ∷ []))) (λ x xs. refl) c.args.items.now c.loop-item.item-index c.item-item.result c.args.table.now c.loop-item.table c.put_variable.new.table _
    c.item-item.is (omega arith) (c.loop-item.invariant home) (c.in_ok-put_variable.ensures home)
