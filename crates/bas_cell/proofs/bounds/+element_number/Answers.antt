use Rattle.std.proofs.Common.{sym}
use Rattle.bas_cell.proofs.Elements.{row_inside, next_inside}
use Rattle.bas_cell.proofs.bounds.+element_number.Goals as goal

pub returns-clause-inside : goal.returns-clause-inside
returns-clause-inside t c =
    next_inside c.args.bounds.now c.in-Some.bound.now c.in-Some.bounds.now c.in_ok-row.row c.in_ok-element.element c.elements.result c.in-Some.ensures.cases.0
    (row_inside c.in-Some.bound.now _ c.in_ok-row.row (sym c.in_ok-row.ensures))
    c.in_ok-element.ensures.inside c.elements.ensures.same
