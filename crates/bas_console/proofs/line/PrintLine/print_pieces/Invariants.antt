use Rattle.std.proofs.Common.{◌≡◌}
use Rattle.std.specs.Slice.Iter.{chunks_rest, chunks_size}
use Rattle.bas_console.proofs.Pieces.{Left}
use Rattle.bas_console.proofs.line.PrintLine.print_pieces.Given as goal

abbrev pub invariant-loop-piece : goal.invariant-loop-piece
invariant-loop-piece l =
    (goal.iterator-loop-piece).can_next l.piece-iterator
    × (goal.iterator-loop-piece).is_finite l.piece-iterator
    × (chunks_size l.piece-iterator ≡ l.fn.self.margin)
    × Left l.fn.text (chunks_rest l.piece-iterator) l.fn.self l.self l.fn.out.items l.out.items
