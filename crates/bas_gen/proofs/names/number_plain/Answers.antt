-- Each part gets its slots behind the parts before it.
use Rattle.std.proofs.Common.{sym, ap}
use Rattle.std.proofs.lemmas.Result.{err_from_is_err_and}
use Rattle.bas_carry.specs.Slots.{in_plain}
use Rattle.bas_genexpr.proofs.NumberLemmas.{refused_first, numbers_both, numbers_none}
use Rattle.bas_gen.proofs.TextNames.{other_plain_has_none, let_parts}
use Rattle.bas_gen.proofs.names.number_plain.Goals as goal

pub returns-in_err-number_targets-in-Let : goal.returns-in_err-number_targets-in-Let
returns-in_err-number_targets-in-Let c =
    let p = err_from_is_err_and c.from_residual.result c.from_residual.ensures.1 in
    rw (p.1, p.2) (refused_first _ c.args.slots.now _ _ _ (let_parts _ _ c.items.result.now _ c.in-Let.ensures c.items.ensures) c.in_err-number_targets-in-Let.ensures)

pub returns-in_ok-number_targets-in-Let : goal.returns-in_ok-number_targets-in-Let
returns-in_ok-number_targets-in-Let c = numbers_both c.number_expression.result c.args.slots.now c.number_targets.new.slots c.number_expression.new.slots _ _ _ (let_parts _ _ c.items.result.now _ c.in-Let.ensures c.items.ensures) c.in_ok-number_targets-in-Let.ensures c.number_expression.ensures

pub returns-in-Print : goal.returns-in-Print
returns-in-Print c = rw c.in-Print.ensures c.number_item.ensures

pub returns-in-Goto : goal.returns-in-Goto
returns-in-Goto c = numbers_none c.args.slots.now _ (ap in_plain (sym c.in-Goto.ensures))

pub returns-in-ExitDo : goal.returns-in-ExitDo
returns-in-ExitDo c = numbers_none c.args.slots.now _ (ap in_plain (sym c.in-ExitDo.ensures))

pub returns-in-Other : goal.returns-in-Other
returns-in-Other c = numbers_none c.args.slots.now _ (other_plain_has_none _ c.in-Other.ensures)
