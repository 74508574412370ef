-- The type is that of the declaration, where there is one.
use Rattle.std.proofs.Common.{ap, ◌∙◌}
use Rattle.bas_ast.proofs.PartTrees.{formal_name}
use Rattle.bas_scope.specs.Shapes.{shape_of}
use Rattle.bas_names.specs.Tables.{options_told}
use Rattle.bas_names.proofs.formals.formal_shape.Goals as goal

pub returns-in-Name : goal.returns-in-Name
returns-in-Name c = λ lines d.
    rw (c.in-Name.is, formal_name)
    (c.shape_of.ensures ∙ ap (λ x. shape_of (options_told c.args.options) c.in-Name.name x c.in-Name.dimensions) (c.find.ensures ∙ d.found c.in-Name.name))
