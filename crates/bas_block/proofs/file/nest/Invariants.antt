use Rattle.std.proofs.Common.{◌≡◌, map}
use Rattle.bas_ast.specs.BlockTree.{line_tree}
use Rattle.bas_nest.specs.Reading.{read, nothing_read}
use Rattle.bas_nest.specs.States.{reading_tree}
use Rattle.bas_block.proofs.file.nest.Given as goal

-- the lines that are left are read behind those that were read
abbrev pub invariant-loop-line : goal.invariant-loop-line
invariant-loop-line l = read (reading_tree l.read) (map line_tree l.line-iterator.rest.items) ≡ read nothing_read (map line_tree l.fn.lines)
