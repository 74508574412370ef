use Rattle.std.proofs.Common.{◌∷◌, [], ◌++◌, ◌∙◌, List, ap, sym, ℕ}
use Rattle.std.specs.List.{filter}
use Rattle.bas_source.specs.Lines.{is_written, lines_of}
use Rattle.bas_source.proofs.LineLaws.{written_more, written_end, some_left, none_left}
use Rattle.bas_source.proofs.lines.written_lines.Goals as goal

pub loop-rest-preserved-in_ok-push : goal.loop-rest-preserved-in_ok-push
loop-rest-preserved-in_ok-push c =
    let rest = c.loop-rest.rest.now in
    let split = c.split_at_byte in
    ap (λ (xs : List (List ℕ)). xs ++ filter is_written (lines_of split.result.1.now)) c.in_ok-push.ensures.items
    ∙ written_more c.loop-rest.lines.items rest c.in_ok-copied.field-0 split.result.1.now (some_left rest (sym c.is_empty.ensures ∙ c.loop-rest-test.true)) (c.in_ok-copied.ensures ∙ split.ensures.front) split.ensures.behind (ap is_written c.in_ok-copied.ensures ∙ sym c.is_written.ensures ∙ c.if-is_written.true)
    ∙ c.loop-rest.invariant

pub returns : goal.returns
returns c =
    let rest = c.loop-rest.rest.now in
    written_end c.loop-rest.lines.items rest (none_left rest (sym c.is_empty.ensures ∙ c.loop-rest-test.false)) ∙ c.loop-rest.invariant
