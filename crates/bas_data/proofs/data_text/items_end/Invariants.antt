use Rattle.std.proofs.Common.{◌≡◌, ◌≤◌, length}
use Rattle.bas_data.specs.Data.{in_quotes}
use Rattle.bas_data.specs.Reading.{first_end}
use Rattle.bas_data.proofs.data_text.items_end.Given as goal

abbrev pub invariant-loop-at : goal.invariant-loop-at
invariant-loop-at l = record { within : l.at ≤ length l.text; passed : first_end l.text l.at ≡ l.at; quotes : l.quoted ≡ in_quotes l.text l.at }
