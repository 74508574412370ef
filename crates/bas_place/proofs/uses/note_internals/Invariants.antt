-- What the internal procedures so far use is noted.
use Rattle.std.proofs.Common.{take, map}
use Rattle.bas_ast.specs.BlockTree.{stmts_tree}
use Rattle.bas_scope.specs.Bodies.{internal_body}
use Rattle.bas_scope.specs.Scope.{Outer, Table, internals_of}
use Rattle.bas_place.specs.Uses.{Gains, Sees, used_in}
use Rattle.bas_place.proofs.uses.note_internals.Given as goal

abbrev pub invariant-loop-stmt : goal.invariant-loop-stmt
invariant-loop-stmt l = (outer : Outer) (entries : Table)
    → Sees l.seen outer entries → Gains l.initial.uses l.uses (used_in (map (internal_body outer entries) (internals_of (stmts_tree (take l.stmt-index l.stmts)))))
