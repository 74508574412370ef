-- What the body is of, and what its module has.
use Rattle.std.proofs.Common.{not, ◌&&◌, ◌||◌, sym, ap, ◌∙◌}
use Rattle.std.specs.List.{list_any}
use Rattle.std.specs.Option.{is_some}
use Rattle.bas_ast.specs.BlockTree.{item_tree}
use Rattle.bas_scope.specs.Scope.{entry_of}
use Rattle.bas_scope.specs.Bodies.{outer_of}
use Rattle.bas_rules.specs.Jumping.{is_initial}
use Rattle.bas_rules.specs.Declaring.{is_of_module, private_names}
use Rattle.bas_judge.proofs.Found.{same_missing}
use Rattle.bas_judge.proofs.names.is_out_of_module.Goals as goal

pub returns : goal.returns
returns c = λ opener ground stands.
    let item = item_tree c.args.line.now.item in
    let placed = c.is_misplaced.ensures ∙ ap (λ kind. is_of_module item && not (is_initial kind)) (sym stands.body.kind) in
    let known =
    c.lacks_procedure.ensures
    ∙ (same_missing (outer_of ground.unit).procedures stands.unit.names.procedures (private_names item)
    ∙ ap (λ outer. list_any (λ name. not (is_some (entry_of name outer.procedures))) (private_names item)) (sym stands.outer)) in
    λ i. placed i || known i
