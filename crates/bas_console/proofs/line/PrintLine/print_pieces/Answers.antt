use Rattle.std.proofs.Common.{ap, ◌∙◌, rules, min, length}
use Rattle.std.specs.Slice.Iter.{chunks_rest}
use Rattle.bas_console.proofs.Pieces.{left-piece, left-none}
use Rattle.bas_console.proofs.line.PrintLine.print_pieces.Goals as goal

pub loop-piece-preserved : goal.loop-piece-preserved
loop-piece-preserved c =
    let steps = c.in-Some.ensures.steps in
    let size = c.loop-piece.invariant.2 in (
      search rules,
      tt,
      steps.0 ∙ size,
      left-piece _ _ _ _ steps.1.0 (steps.1.1 ∙ ap (λ k. min k (length (chunks_rest c.loop-piece.piece-iterator))) size) c.loop-piece.invariant.3 c.in_ok-print_piece.ensures.printed,
    )

pub returns-clause-printed : goal.returns-clause-printed
returns-clause-printed c = left-none _ _ c.in-None.ensures.steps.1.0 c.loop-piece.invariant.3
