use Rattle.std.proofs.Common.{◌≡◌, ◌≤◌, ◌-◌, ◌++◌, length}
use Rattle.bas_text.specs.Reading as reading
use Rattle.bas_text.proofs.data_list.copy_pieces.Given as goal

abbrev pub invariant-loop-end : goal.invariant-loop-end
invariant-loop-end l =
    record {
      within : l.at ≤ length l.text;
      copied : l.out.items ++ reading.more_bytes l.text l.at ≡ l.initial.out.items ++ reading.more_bytes l.text l.initial.at;
      past : reading.pieces_past l.text l.at ≡ reading.pieces_past l.text l.initial.at;
    }

abbrev pub decreases-loop-end : goal.decreases-loop-end
decreases-loop-end l = length l.text - l.at
