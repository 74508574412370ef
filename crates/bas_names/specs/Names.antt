-- What a name is in the tables of a body.
use Rattle.std.specs.Prelude.{ℕ, List, map, Option, Some, None}
use Rattle.std.specs.Option.{option_map, option_or}
use Rattle.std.specs.Ordering.{nat_cmp}
use Rattle.std.specs.Cmp.Lexicographic.{slice_cmp}
use Rattle.std.specs.BTreeMap.{get}
use Rattle.std.specs.Borrow.{Bor}
use Rattle.bas_scope.specs.Senses.{Sense, Shaped, SubWith, FunctionWith, Senses, Lookup, senses_by, shape_written, type_written}
use Rattle.bas_names.specs.declared.entry.Entry.{Entry}
use Rattle.bas_names.specs.declared.entry.Entry.TheVariants as entry
use Rattle.bas_names.specs.declared.entry.Table.{Table}
use Rattle.bas_names.specs.declared.names.Names.{Names}

-- what an entry says of its name
abbrev pub entry_sense : Entry → Sense
entry_sense (entry.Variable shape) = Shaped (shape_written shape)
entry_sense (entry.Sub formals) = SubWith (option_map (map shape_written) formals)
entry_sense (entry.Function formals set_here) = FunctionWith (option_map (map shape_written) formals) set_here

-- what a table has of a name
abbrev pub found_in : Table → List ℕ → Option Sense
found_in table name = option_map entry_sense (get (slice_cmp nat_cmp) table.entries name)

-- what the table of an internal procedure has of a name, where there is one
abbrev pub found_inside : Option (Bor Table) → List ℕ → Option Sense
found_inside None name = None
found_inside (Some table) name = found_in table.now name

-- what there is to look up: the inner table goes before that of the container, and that before the
-- variables of the module
abbrev pub lookup_in : Names → Lookup
lookup_in n = record {
  names = λ name. option_or (found_inside n.inner name) (option_or (found_in n.container.now name) (found_in n.variables.now name));
  procedures = found_in n.procedures.now;
  numbers = type_written n.numbers;
}

-- what each name is
abbrev pub senses_in : Names → Senses
senses_in n = senses_by (lookup_in n)
