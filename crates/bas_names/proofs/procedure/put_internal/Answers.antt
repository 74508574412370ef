-- A statement is a line alone or a construct.
use Rattle.bas_ast.specs.BlockTree.{line_tree}
use Rattle.bas_ast.proofs.BlockTrees.{stmt_single, stmt_nest}
use Rattle.bas_names.proofs.Putting.{if_ok}
use Rattle.bas_names.proofs.procedure.put_internal.Goals as goal

pub returns-in-Single : goal.returns-in-Single
returns-in-Single c = rw (c.in-Single.is, stmt_single) c.put_definition.ensures

pub returns-in-Nest : goal.returns-in-Nest
returns-in-Nest c = rw (c.in-Nest.is, stmt_nest, ← c.as_slice.ensures) (if_ok c.put_first.result (λ x h home. h home (line_tree c.in-Nest.end)) c.put_first.ensures)
