use Rattle.std.proofs.Common.{sym, ◌∙◌, arith}
use Rattle.bas_form.proofs.ByteLaws.{past_on, past_other, past_outside}
use Rattle.bas_form.proofs.scan.past.Goals as goal

pub loop-at-preserved : goal.loop-at-preserved
loop-at-preserved c =
    record {
      within = λ h. let test = c.loop-at-test.true in omega arith;
      grows = omega arith;
      same = past_on c.args.text.now c.args.class c.loop-at.at c.loop-at-test.true (sym c.has.ensures ∙ c.if-has.true) ∙ c.loop-at.invariant.same;
    }

pub returns-else-has-clause-value : goal.returns-else-has-clause-value
returns-else-has-clause-value c =
    sym (past_other c.args.text.now c.args.class c.loop-at.at c.loop-at-test.true (sym c.has.ensures ∙ c.if-has.false)) ∙ c.loop-at.invariant.same

pub returns-after-loop-at-clause-value : goal.returns-after-loop-at-clause-value
returns-after-loop-at-clause-value c = sym (past_outside c.args.text.now c.args.class c.loop-at.at c.loop-at-test.false) ∙ c.loop-at.invariant.same
