use Rattle.std.proofs.Common.{◌≡◌, ◌≤◌, ◌-◌, ◌++◌, length, List, All}
use Rattle.bas_form.specs.Reader.{IsAsFar}
use Rattle.bas_text.specs.declared.data_list.Datum.{Datum}
use Rattle.bas_text.specs.declared.byte_string.TheConstants.{MAX_STRING_LEN}
use Rattle.bas_text.specs.DataItems.{next_item}
use Rattle.bas_text.proofs.data_list.more_items.Given as goal

abbrev pub invariant-loop-start : goal.invariant-loop-start
invariant-loop-start l =
    record {
      within : l.at ≤ length l.text;
      front : List Datum;
      read : IsAsFar (next_item l.text) (length l.text) l.initial.at front l.at;
      items : l.items.items ≡ l.initial.items.items ++ front;
      short : All (λ d. length d.text ≤ MAX_STRING_LEN) front;
    }

abbrev pub decreases-loop-start : goal.decreases-loop-start
decreases-loop-start l = length l.text - l.at
