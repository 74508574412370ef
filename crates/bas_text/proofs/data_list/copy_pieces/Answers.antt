use Rattle.std.proofs.Common.{◌-◌, ◌++◌, map, sym, ap, ◌∙◌, append_assoc, append-nil}
use Rattle.bas_text.specs.Trim.{as_space, between}
use Rattle.bas_text.specs.Reading as reading
use Rattle.bas_text.proofs.PieceLaws.{more_on, more_end, past_on, past_end}
use Rattle.bas_text.proofs.data_list.copy_pieces.Goals as goal

pub loop-end-preserved : goal.loop-end-preserved
loop-end-preserved c =
    let read = sym c.in-Some.ensures.value in
    record {
      within = c.in-Some.ensures.within;
      copied =
          ap (λ items. items ++ reading.more_bytes c.args.text.now c.in-Some.end) c.in_ok-copy_bytes.ensures.copied
          ∙ append_assoc c.loop-end.out.items (map as_space (between c.args.text.now c.loop-end.at (c.in-Some.end - 1))) (reading.more_bytes c.args.text.now c.in-Some.end)
          ∙ ap (λ bytes. c.loop-end.out.items ++ bytes) (sym (more_on c.args.text.now c.loop-end.at c.in-Some.end read))
          ∙ c.loop-end.invariant.copied;
      past = sym (past_on c.args.text.now c.loop-end.at c.in-Some.end read) ∙ c.loop-end.invariant.past;
    }

pub returns-clause-copied : goal.returns-clause-copied
returns-clause-copied c =
    sym (append-nil c.loop-end.out.items)
    ∙ ap (λ bytes. c.loop-end.out.items ++ bytes) (sym (more_end c.args.text.now c.loop-end.at (sym c.piece_end.ensures.value ∙ c.in_default.is)))
    ∙ c.loop-end.invariant.copied

pub returns-clause-value : goal.returns-clause-value
returns-clause-value c = sym (past_end c.args.text.now c.loop-end.at (sym c.piece_end.ensures.value ∙ c.in_default.is)) ∙ c.loop-end.invariant.past
