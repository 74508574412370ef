-- One procedure after the other.
use Rattle.std.proofs.Common.{map, refl, sym, ◌∙◌, arith}
use Rattle.bas_ast.specs.UnitTree.{procedure_tree}
use Rattle.bas_scope.specs.Bodies.{outer_of}
use Rattle.bas_scope.specs.Lines.{gathered}
use Rattle.bas_rules.specs.Sites.{procedure_sites}
use Rattle.bas_check.proofs.Finding.{row_found, row_next, row_end}
use Rattle.bas_check.proofs.unit.procedures_fault.Goals as goal

pub returns-then-is_some : goal.returns-then-is_some
returns-then-is_some c = λ tree unit nothing.
    row_found (λ xs. gathered (procedure_sites tree (outer_of tree)) (map procedure_tree xs)) (λ x. procedure_sites tree (outer_of tree) (procedure_tree x)) (λ x xs. refl)
    c.args.procedures.now c.loop-procedure.procedure-index c.procedure-item.result c.in_ok-found.found c.procedure-item.is (omega arith) (sym c.is_some.ensures ∙ c.if-is_some.true)
    (c.in_ok-found.ensures tree unit nothing) (c.loop-procedure.invariant tree unit nothing)

pub loop-procedure-preserved : goal.loop-procedure-preserved
loop-procedure-preserved c = λ tree unit nothing.
    row_next (λ xs. gathered (procedure_sites tree (outer_of tree)) (map procedure_tree xs)) (λ x. procedure_sites tree (outer_of tree) (procedure_tree x)) (λ x xs. refl)
    c.args.procedures.now c.loop-procedure.procedure-index c.procedure-item.result c.in_ok-found.found c.procedure-item.is (omega arith) (sym c.is_some.ensures ∙ c.if-is_some.false)
    (c.in_ok-found.ensures tree unit nothing) (c.loop-procedure.invariant tree unit nothing)

pub returns : goal.returns
returns c = λ tree unit nothing.
    row_end (λ xs. gathered (procedure_sites tree (outer_of tree)) (map procedure_tree xs)) (λ x. procedure_sites tree (outer_of tree) (procedure_tree x)) (λ x xs. refl)
    c.args.procedures.now c.loop-procedure.procedure-index refl (omega arith) (c.loop-procedure.invariant tree unit nothing)
