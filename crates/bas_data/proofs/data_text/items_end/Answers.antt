use Rattle.std.proofs.Common.{inl, inr, refl, sym, ◌∙◌, arith, ap, not}
use Rattle.bas_data.proofs.DataLaws.{none_passed, ends_here, ends_not, quote_at, no_quote_at, end_on, end_at, never_ends}
use Rattle.bas_data.proofs.data_text.items_end.Goals as goal
use Rattle.bas_data.proofs.data_text.items_end.Goals.{then-text-at-eq34, else-text-at-eq34}

pub loop-at-init : goal.loop-at-init
loop-at-init c = record { within = omega arith; passed = none_passed c.args.text.now; quotes = refl }

pub returns-then-not-quoted-clause-value : goal.returns-then-not-quoted-clause-value
returns-then-not-quoted-clause-value c =
    let here = ends_here c.args.text.now c.loop-at.at c.if-text-at-eq33.true (sym c.loop-at.invariant.quotes ∙ c.if-not-quoted.true) in
    sym (end_at c.args.text.now c.loop-at.at _ c.loop-at.invariant.passed here c.loop-at-test.true)

pub loop-at-preserved : goal.loop-at-preserved
loop-at-preserved c =
    let inside = c.loop-at-test.true in
    record {
      within = omega arith;
      passed = end_on c.args.text.now c.loop-at.at c.loop-at.invariant.passed (ends_not c.args.text.now c.loop-at.at (elim c.else-text-at-eq33.either [
        | inl h ↦ inl (h.0, sym c.loop-at.invariant.quotes ∙ h.1)
        | inr h ↦ inr h
      ]));
      quotes = elim c.if-text-at-eq34.branch [
        | then-text-at-eq34 w ↦ w.quoted-is ∙ ap not c.loop-at.invariant.quotes ∙ sym (quote_at c.args.text.now c.loop-at.at w.if-text-at-eq34.true)
        | else-text-at-eq34 w ↦ w.quoted-is ∙ c.loop-at.invariant.quotes ∙ sym (no_quote_at c.args.text.now c.loop-at.at w.if-text-at-eq34.false)
      ];
    }

pub returns-clause-value : goal.returns-clause-value
returns-clause-value c = never_ends c.args.text.now c.loop-at.at _ c.loop-at.invariant.within c.loop-at-test.false c.loop-at.invariant.passed
