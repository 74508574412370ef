use Rattle.std.proofs.Common.{◌≡◌, ◌<◌, Some, None, sym, ◌∙◌, arith}
use Rattle.bas_expr.specs.Marks.{at_mark, comma}
use Rattle.bas_declaration.proofs.PartLaws.{row_count, row_rest, row_none, row_stays, comma_smaller}
use Rattle.bas_declaration.proofs.formal.count_commas.Goals as goal

pub more-smaller : goal.more-smaller
more-smaller c =
    let e : at_mark comma c.args.line.now c.more.at ≡ Some c.in-Some.field-0 = sym c.comma.ensures.value ∙ c.in-Some.is in
    comma_smaller c.args.line.now c.more.at _ e

pub more-preserved : goal.more-preserved
more-preserved c =
    let e : at_mark comma c.args.line.now c.more.at ≡ Some c.in-Some.field-0 = sym c.comma.ensures.value ∙ c.in-Some.is in
    let n = row_count c.args.line.now c.more.at _ e in
    let i = c.more.invariant.0 in
    let few = c.more.invariant.2 in
    let w : c.more.at < 4096 = c.in-Some.ensures.within in
    (omega arith, c.more.invariant.1 ∙ row_rest c.args.line.now c.more.at _ e, omega arith, omega arith)

pub returns-clause-count : goal.returns-clause-count
returns-clause-count c =
    let e : at_mark comma c.args.line.now c.more.at ≡ None = sym c.comma.ensures.value ∙ c.in_default.is in
    let n = row_none c.args.line.now c.more.at e in
    let i = c.more.invariant.0 in
    omega arith

pub returns-clause-end : goal.returns-clause-end
returns-clause-end c =
    let e : at_mark comma c.args.line.now c.more.at ≡ None = sym c.comma.ensures.value ∙ c.in_default.is in
    sym (c.more.invariant.1 ∙ row_stays c.args.line.now c.more.at e)
