-- Each part gets its slots behind the parts before it.
use Rattle.std.proofs.Common.{ap, drop, map}
use Rattle.std.proofs.lemmas.List.{drop_all}
use Rattle.std.proofs.lemmas.Result.{err_from_is_err_and}
use Rattle.bas_ast.specs.ExpressionTree.{target_tree}
use Rattle.bas_carry.specs.Slots.{in_targets}
use Rattle.bas_genexpr.proofs.Pieces.{turn}
use Rattle.bas_genexpr.proofs.NumberLemmas.{numbers_turn, refused_turn, numbers_end}
use Rattle.bas_gen.proofs.TextNames.{targets_left}
use Rattle.bas_gen.proofs.names.number_targets.Goals as goal

pub returns-in_err-add : goal.returns-in_err-add
returns-in_err-add c =
    let p = err_from_is_err_and c.from_residual.result c.from_residual.ensures.1 in
    rw (p.1, p.2) (refused_turn _ c.loop-target.slots _ _ _ _ (targets_left (drop c.loop-target.target-index c.args.targets.now) _ c.target-item.result (turn c.args.targets.now c.loop-target.target-index c.target-item.result c.loop-target-test.true c.target-item.is)) c.loop-target.invariant c.in_err-add.ensures)

pub loop-target-preserved : goal.loop-target-preserved
loop-target-preserved c = numbers_turn c.loop-target.slots c.add.new.self _ _ _ _ (targets_left (drop c.loop-target.target-index c.args.targets.now) _ c.target-item.result (turn c.args.targets.now c.loop-target.target-index c.target-item.result c.loop-target-test.true c.target-item.is)) c.in_ok-add.ensures c.loop-target.invariant

pub returns : goal.returns
returns c = numbers_end c.loop-target.slots _ _ (ap (λ l. in_targets (map target_tree l)) (drop_all c.loop-target.target-index c.args.targets.now c.loop-target-test.false)) c.loop-target.invariant
