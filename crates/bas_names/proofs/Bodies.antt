-- The tables of a container and of an internal procedure.
use Rattle.std.proofs.Common.{◌≡◌, ℕ, Bool, true, false, cond, List, [], ◌∷◌, ◌++◌, map, Option, Some, None, refl, sym, ap, ◌∙◌, append_assoc}
use Rattle.std.specs.Borrow.{Bor}
use Rattle.std.specs.Prelude.{bytes_eq}
use Rattle.std.specs.Option.{option_map, option_or}
use Rattle.std.proofs.lemmas.List.{append-nil}
use Rattle.bas_ast.specs.Tree as t
use Rattle.bas_scope.specs.Lines.{gathered, own_lines}
use Rattle.bas_scope.specs.Shapes.{Options}
use Rattle.bas_scope.specs.Scope.{Here, Container, Home, Meaning, Variable, SubOf, FunctionOf, Supplied, seen_inside, Table as Entries, entry_of, Outer, Inner, formal_entry, formal_entries, formals_on, own_function, declared_on, procedure_entry, internals_of, outer_names, inner_names, within, definition_block, definition_on}
use Rattle.bas_scope.specs.Senses.{Sense, sense, senses_of}
use Rattle.bas_scope.proofs.Tables.{lookup_joined, option_map-or}
use Rattle.bas_names.specs.declared.entry.Table.{Table}
use Rattle.bas_names.specs.declared.names.Names.{Names}
use Rattle.bas_names.specs.declared.unit_names.UnitNames.{UnitNames}
use Rattle.bas_names.specs.Names.{found_in, senses_in}
use Rattle.bas_names.specs.declared.declared.Declared.{Declared}
use Rattle.bas_names.specs.Tables.{Declares, Has, HasBefore, HasOuter, Puts, item_in}
use Rattle.bas_names.proofs.Lookups.{are_looked_up}
use Rattle.bas_names.proofs.Internals.{inner_entry}
use Rattle.bas_names.proofs.Putting.{or_none, or_joined, puts_none, puts_both, puts_has, same_entries}

-- what the rules see of a name in a list of entries
abbrev seen_of : List ℕ → Entries → Option Sense
seen_of name entries = option_map sense (entry_of name entries)

seen_joined : (name : List ℕ) (es fs : Entries) → seen_of name (es ++ fs) ≡ option_or (seen_of name es) (seen_of name fs)
seen_joined name es fs = ap (option_map sense) (lookup_joined (bytes_eq name) es fs) ∙ option_map-or sense (entry_of name es) (entry_of name fs)

-- two lists of entries
has_before : {t u : Table} {es fs : Entries} → Has t es → Has u fs → HasBefore t u (es ++ fs)
has_before {t} {u} {es} {fs} h k = record {
  found = λ name.
      ap (λ o. option_or o (found_in u name)) (h.found name)
      ∙ ap (option_or (seen_of name es)) (k.found name)
      ∙ sym (seen_joined name es fs);
}

same_before : {t u : Table} {es fs : Entries} → es ≡ fs → HasBefore t u es → HasBefore t u fs
same_before e h = record { found = λ name. h.found name ∙ ap (seen_of name) e }

five : (a b c d e : Entries) → ((a ++ b) ++ (c ++ d)) ++ e ≡ a ++ (b ++ (c ++ (d ++ e)))
five a b c d e =
    append_assoc (a ++ b) (c ++ d) e
    ∙ append_assoc a b ((c ++ d) ++ e)
    ∙ ap (λ l. a ++ (b ++ l)) (append_assoc c d e)

same_has : {t : Table} {es fs : Entries} → es ≡ fs → Has t es → Has t fs
same_has e h = record { found = λ name. h.found name ∙ ap (seen_of name) e }

-- the names of a container are put in the order in which they count
pub container_has : (outer : Outer) (item : t.LineItem) (block : t.Block) (options : Options) (lines : List t.NumLine) (empty first second third variables : Table)
    → ((name : List ℕ) → found_in empty name ≡ None) → options ≡ outer.options → lines ≡ own_lines block
    → Puts empty first (formal_entries outer.options item block ++ own_function outer item)
    → Puts first second (gathered (λ line. declared_on outer line.item) lines)
    → Puts second third (gathered (inner_entry options Here) (internals_of block))
    → Has variables outer.variables
    → HasBefore third variables (outer_names outer item block)
container_has outer item block options lines empty first second third variables none o l p q r v =
    same_before
    (five (formal_entries outer.options item block) (own_function outer item) (gathered (λ (line : t.NumLine). declared_on outer line.item) (own_lines block)) (gathered (inner_entry outer.options Here) (internals_of block)) outer.variables)
    (has_before
    (puts_has empty third _ none
    (puts_both p
    (puts_both (same_entries (ap (gathered (λ (line : t.NumLine). declared_on outer line.item)) l) q)
    (same_entries (ap (λ x. gathered (inner_entry x Here) (internals_of block)) o) r))))
    v)

-- the names of an internal procedure alone
pub inner_has : (options : Options) (inner : Inner) (item : t.LineItem) (formals : List t.Formal) (empty first second : Table)
    → ((name : List ℕ) → found_in empty name ≡ None) → inner.0.item ≡ item → formals ≡ formals_on item
    → Puts empty first (gathered (formal_entry options (own_lines inner.1)) formals)
    → Puts first second (map (λ x. (x.0, within x.1)) (procedure_entry options Container item inner.1))
    → Has second (inner_names options inner [])
inner_has options inner item formals empty first second none e f p q =
    puts_has empty second _ none
    (puts_both
    (same_entries (ap (gathered (formal_entry options (own_lines inner.1))) (f ∙ ap formals_on (sym e))) p)
    (puts_both (same_entries (ap (λ x. inside (procedure_entry options Container x inner.1)) (sym e)) q) (puts_none second)))
  where
    inside : Entries → Entries
    inside = map (λ x. (x.0, within x.1))

-- where a name belongs is not seen
sense_inside : (m : Meaning) → sense (seen_inside m) ≡ sense m
sense_inside (Variable home cell) = refl
sense_inside (SubOf home formals) = refl
sense_inside (FunctionOf home formals None) = refl
sense_inside (FunctionOf home formals (Some value)) = refl
sense_inside (Supplied forms) = refl

seen_from_inside : (name : List ℕ) (es : Entries) → seen_of name (map (λ x. (x.0, seen_inside x.1)) es) ≡ seen_of name es
seen_from_inside name [] = refl
seen_from_inside name (e ∷ es) = by (bytes_eq name e.0) (seen_from_inside name es)
  where
    by : (b : Bool) → seen_of name (map (λ x. (x.0, seen_inside x.1)) es) ≡ seen_of name es
        → option_map sense (cond b (Some (seen_inside e.1)) (entry_of name (map (λ x. (x.0, seen_inside x.1)) es))) ≡ option_map sense (cond b (Some e.1) (entry_of name es))
    by true ih = ap Some (sense_inside e.1)
    by false ih = ih

-- the names of an internal procedure go before those of its container
inner_split : (options : Options) (inner : Inner) (container : Entries) (name : List ℕ)
    → option_or (seen_of name (inner_names options inner [])) (seen_of name container) ≡ seen_of name (inner_names options inner container)
inner_split options inner container name =
    ap (λ o. option_or o (seen_of name container)) (seen_joined name formals (own ++ []) ∙ ap (option_or (seen_of name formals)) (seen_joined name own [] ∙ or_none (seen_of name own)))
    ∙ or_joined (seen_of name formals) (seen_of name own) (seen_of name container)
    ∙ ap (λ o. option_or (seen_of name formals) (option_or (seen_of name own) o)) (sym (seen_from_inside name container))
    ∙ sym (seen_joined name formals (own ++ outer) ∙ ap (option_or (seen_of name formals)) (seen_joined name own outer))
  where
    formals : Entries
    formals = formal_entries options inner.0.item inner.1

    own : Entries
    own = map (λ x. (x.0, within x.1)) (procedure_entry options Container inner.0.item inner.1)

    outer : Entries
    outer = map (λ x. (x.0, seen_inside x.1)) container

-- the tables in which the names of a body are looked up
abbrev body_names : Bor UnitNames → Option (Bor Table) → Bor Table → Names
body_names unit inner container = record {
  inner = inner;
  container = container;
  variables = record { ref_ptr = unit.ref_ptr; now = unit.now.variables };
  procedures = record { ref_ptr = unit.ref_ptr; now = unit.now.procedures };
  numbers = unit.now.options.numbers;
}

-- the rules see of a container's scope what its tables give
pub container_senses : (unit : Bor UnitNames) (container : Bor Table) (outer : Outer) (entries : Entries) (home : Home)
    → HasOuter unit.now outer → HasBefore container.now unit.now.variables entries
    → senses_in (body_names unit None container) ≡ senses_of (record { outer = outer; names = entries; home = home })
container_senses unit container outer entries home has before =
    are_looked_up.in_tables (body_names unit None container) (record { outer = outer; names = entries; home = home })
    (record { names = before.found; procedures = has.procedures.found; numbers = ap (λ o. o.numbers) has.options })

-- the same of an internal procedure
pub internal_senses : (unit : Bor UnitNames) (container inner : Bor Table) (outer : Outer) (entries : Entries) (procedure : Inner) (home : Home)
    → HasOuter unit.now outer → HasBefore container.now unit.now.variables entries → Has inner.now (inner_names outer.options procedure [])
    → senses_in (body_names unit (Some inner) container) ≡ senses_of (record { outer = outer; names = inner_names outer.options procedure entries; home = home })
internal_senses unit container inner outer entries procedure home has before inside =
    are_looked_up.in_tables (body_names unit (Some inner) container) (record { outer = outer; names = inner_names outer.options procedure entries; home = home })
    (record {
      names = λ name.
          ap (option_or (found_in inner.now name)) (before.found name)
          ∙ ap (λ o. option_or o (seen_of name entries)) (inside.found name)
          ∙ inner_split outer.options procedure entries name;
      procedures = has.procedures.found;
      numbers = ap (λ o. o.numbers) has.options;
    })

-- the body of a definition declares nothing
pub definition_has : (options : Options) (line : t.NumLine) (name : List ℕ) (formals : List t.Formal) (value : t.Expr) (declared : Declared) (table : Table)
    → line.item ≡ t.OfPart (t.Def name formals value) → ((other : List ℕ) → item_in declared other ≡ None)
    → ((inner : Inner) → inner.0.item ≡ line.item → Declares declared (own_lines inner.1) → Has table (inner_names options inner []))
    → Has table (gathered (λ inner. inner_names options inner []) (definition_on line line.item))
definition_has options line name formals value declared table e none h =
    let inner : Inner = (line, definition_block line.line name value) in
    same_has
    (sym (ap (λ item. gathered (λ (i : Inner). inner_names options i []) (definition_on line item)) e ∙ append-nil (inner_names options inner [])))
    (h inner refl (record { found = none }))
