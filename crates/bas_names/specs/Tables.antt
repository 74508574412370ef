-- Tables of names, and the lists of entries of which they have the first of each name.
use Rattle.std.specs.Prelude.{◌≡◌, ℕ, List, Option}
use Rattle.std.specs.Option.{option_map, option_or}
use Rattle.std.specs.Ordering.{nat_cmp}
use Rattle.std.specs.Cmp.Lexicographic.{slice_cmp}
use Rattle.std.specs.BTreeMap.{get}
use Rattle.bas_ast.specs.Tree as t
use Rattle.bas_ast.specs.DeclarationTree.{declared_tree}
use Rattle.bas_scope.specs.Shapes.{Options}
use Rattle.bas_scope.specs.Scope.{Table as Entries, entry_of, declaration_of, Outer}
use Rattle.bas_scope.specs.Senses.{sense, type_written}
use Rattle.bas_names.specs.Names.{found_in}
use Rattle.bas_names.specs.declared.entry.Table.{Table}
use Rattle.bas_names.specs.declared.declared.Declared.{Declared}
use Rattle.bas_names.specs.declared.options.UnitOptions.{UnitOptions}
use Rattle.bas_names.specs.declared.unit_names.UnitNames.{UnitNames}

-- the options that an answer tells
abbrev pub options_told : UnitOptions → Options
options_told o = record { base = o.base; numbers = type_written o.numbers }

-- a table has of each name what the entries have
pub record Has (table : Table) (entries : Entries) : Type 0 where
  pub found : (name : List ℕ) → found_in table name ≡ option_map sense (entry_of name entries)

-- two tables have of each name what the entries have, the first before the second
pub record HasBefore (first second : Table) (entries : Entries) : Type 0 where
  pub found : (name : List ℕ) → option_or (found_in first name) (found_in second name) ≡ option_map sense (entry_of name entries)

-- the entries are put behind those that a table had
pub record Puts (old new : Table) (entries : Entries) : Type 0 where
  pub found : (name : List ℕ) → found_in new name ≡ option_or (found_in old name) (option_map sense (entry_of name entries))

-- the item that declares a name
abbrev pub item_in : Declared → List ℕ → Option t.DeclaredItem
item_in declared name = option_map (λ item. declared_tree item.now) (get (slice_cmp nat_cmp) declared.items name)

-- the items are those that DECLARE declares among lines
pub record Declares (declared : Declared) (lines : List t.NumLine) : Type 0 where
  pub found : (name : List ℕ) → item_in declared name ≡ declaration_of name lines

-- the options, variables and procedures are those that the bodies of a unit see
pub record HasOuter (unit : UnitNames) (outer : Outer) : Type 0 where
  pub options : options_told unit.options ≡ outer.options
  pub variables : Has unit.variables outer.variables
  pub procedures : Has unit.procedures outer.procedures
