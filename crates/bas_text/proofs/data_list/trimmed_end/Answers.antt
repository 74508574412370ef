use Rattle.std.proofs.Common.{◌≡◌, map, sym, ap, ◌∙◌, arith}
use Rattle.bas_text.specs.Trim.{as_space, trim_right, between}
use Rattle.bas_text.proofs.TrimLaws.{between_none, trim_on, trim_stops}
use Rattle.bas_text.proofs.data_list.trimmed_end.Goals as goal

pub loop-end-preserved : goal.loop-end-preserved
loop-end-preserved c =
    record {
      low = omega arith;
      high = omega arith;
      same = c.loop-end.invariant.same ∙ trim_on c.args.text.now c.args.from c.loop-end.end c.loop-end-test.true (sym c.has.ensures ∙ c.if-has.true);
    }

pub returns-else-has-clause-trimmed : goal.returns-else-has-clause-trimmed
returns-else-has-clause-trimmed c =
    c.loop-end.invariant.same ∙ trim_stops c.args.text.now c.args.from c.loop-end.end c.loop-end-test.true (sym c.has.ensures ∙ c.if-has.false)

pub returns-after-loop-end-clause-trimmed : goal.returns-after-loop-end-clause-trimmed
returns-after-loop-end-clause-trimmed c =
    let same : c.loop-end.end ≡ c.args.from = omega arith in
    c.loop-end.invariant.same
    ∙ ap (λ n. trim_right (map as_space (between c.args.text.now c.args.from n))) same
    ∙ ap (λ bytes. trim_right (map as_space bytes)) (between_none c.args.text.now c.args.from)
    ∙ sym (ap (λ bytes. map as_space bytes) (between_none c.args.text.now c.args.from))
    ∙ ap (λ n. map as_space (between c.args.text.now c.args.from n)) (sym same)
