use Rattle.std.proofs.Common.{◌≡◌, ◌++◌, map}
use Rattle.bas_ast.specs.BlockTree.{line_tree, stmt_tree}
use Rattle.bas_nest.specs.Reading.{waited}
use Rattle.bas_nest.proofs.reader.waited.Given as goal

-- the statements so far and those of the remarks that are left are all of them
abbrev pub invariant-loop-line : goal.invariant-loop-line
invariant-loop-line l = map stmt_tree l.stmts ++ waited (map line_tree l.line-iterator.rest.items) ≡ waited (map line_tree l.fn.waiting)
