-- A statement is a line alone or a construct.
use Rattle.bas_ast.specs.BlockTree.{line_tree}
use Rattle.bas_ast.proofs.BlockTrees.{stmt_single, stmt_nest}
use Rattle.bas_names.proofs.Putting.{if_ok}
use Rattle.bas_place.proofs.uses.note_internal.Goals as goal

pub returns-in-Single : goal.returns-in-Single
returns-in-Single c = rw (c.in-Single.is, stmt_single) c.note_definition.ensures

pub returns-in-Nest : goal.returns-in-Nest
returns-in-Nest c = rw (c.in-Nest.is, stmt_nest, ← c.as_slice.ensures) (if_ok c.note_first.result (λ x h outer entries. h outer entries (line_tree c.in-Nest.end)) c.note_first.ensures)
