use Rattle.std.proofs.Common.{◌∙◌, sym}
use Rattle.bas_vm.proofs.Tables.{right-wrong, right-next, right-end}
use Rattle.bas_vm.proofs.fitness.go_right.Goals as goal

pub returns-then-not-goes_right : goal.returns-then-not-goes_right
returns-then-not-goes_right c =
    right-wrong c.args.code.now c.loop-at.at c.index-code-at.result c.loop-at-test.true c.index-code-at.is (sym c.goes_right.ensures ∙ c.if-not-goes_right.true) ∙ c.loop-at.invariant

pub loop-at-preserved : goal.loop-at-preserved
loop-at-preserved c =
    right-next c.args.code.now c.loop-at.at c.index-code-at.result c.loop-at-test.true c.index-code-at.is (sym c.goes_right.ensures ∙ c.if-not-goes_right.false) ∙ c.loop-at.invariant

pub returns : goal.returns
returns c = right-end c.args.code.now c.loop-at.at c.loop-at-test.false ∙ c.loop-at.invariant
