-- What a table lacks is what its entries lack.
use Rattle.std.proofs.Common.{◌≡◌, ℕ, not, List, Option, Some, None, refl, ap, ◌∙◌}
use Rattle.std.specs.List.{list_any}
use Rattle.std.specs.Option.{is_some, option_map}
use Rattle.bas_scope.specs.Scope.{Table as Entries, Meaning, entry_of}
use Rattle.bas_scope.specs.Senses.{sense}
use Rattle.bas_names.specs.Names.{found_in}
use Rattle.bas_names.specs.Tables.{Has}
use Rattle.bas_names.specs.declared.entry.Table.{Table}

some_same : (o : Option Meaning) → is_some (option_map sense o) ≡ is_some o
some_same None = refl
some_same (Some meaning) = refl

pub same_missing : {table : Table} (entries : Entries) → Has table entries → (names : List (List ℕ))
    → list_any (λ name. not (is_some (found_in table name))) names ≡ list_any (λ name. not (is_some (entry_of name entries))) names
same_missing {table} entries has names = λ i. list_any (λ name. not ((ap is_some (has.found name) ∙ some_same (entry_of name entries)) i)) names
