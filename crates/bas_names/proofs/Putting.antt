-- What is put into a table stands behind what is there.
use Rattle.std.proofs.Common.{◌≡◌, ℕ, suc, ◌+◌, ◌<◌, ◌≤◌, Bool, true, false, List, [], ◌∷◌, ◌++◌, length, get_or, drop, Option, Some, None, Result, Ok, Err, IfOk, cond, is_some, refl, sym, ap, ◌∙◌, add-one, drop-cons, append_assoc}
use Rattle.std.specs.Prelude.{bytes_eq}
use Rattle.std.specs.Option.{option_map, option_or}
use Rattle.std.specs.Ordering.{nat_cmp}
use Rattle.std.specs.Cmp.Lexicographic.{slice_cmp, same_text, other_text}
use Rattle.std.proofs.lemmas.Map.Text.{is_eq-slice_cmp}
use Rattle.std.specs.BTreeMap.{BTreeMap, get, Updates}
use Rattle.std.proofs.lemmas.List.{at_drop_all}
use Rattle.bas_ast.specs.Tree as t
use Rattle.bas_scope.specs.Lines.{gathered}
use Rattle.bas_scope.specs.Scope.{Meaning, Table as Entries, entry_of, declaration_of}
use Rattle.bas_scope.specs.Senses.{sense}
use Rattle.bas_scope.proofs.Tables.{lookup_joined, option_map-or}
use Rattle.bas_names.specs.declared.entry.Entry.{Entry}
use Rattle.bas_names.specs.declared.entry.Table.{Table}
use Rattle.bas_names.specs.Names.{entry_sense, found_in}
use Rattle.bas_names.specs.declared.declared.Declared.{Declared}
use Rattle.bas_names.specs.Tables.{Declares, Has, Puts}

pub or_none : {X : Type 0} (o : Option X) → option_or o None ≡ o
or_none None = refl
or_none (Some x) = refl

is_absent : {X : Type 0} (o : Option X) → is_some o ≡ false → o ≡ None
is_absent None e = refl
is_absent (Some x) e = let bad : true ≡ false = e in absurd cc

pub turned : (x y : List ℕ) → bytes_eq x y ≡ bytes_eq y x
turned x y = by (bytes_eq x y) (bytes_eq y x) refl refl
  where
    by : (a b : Bool) → bytes_eq x y ≡ a → bytes_eq y x ≡ b → a ≡ b
    by true true p q = refl
    by false false p q = refl
    by true false p q = absurd (other_text y x (sym q) (sym (same_text x y (sym p))))
    by false true p q = absurd (other_text x y (sym p) (sym (same_text y x (sym q))))

behind : {X : Type 0} (b : Bool) (old new : Option X) (value : X) → (b ≡ true → old ≡ None) → new ≡ cond b (Some value) old → new ≡ option_or old (cond b (Some value) None)
behind true old new value absent e = e ∙ ap (λ o. option_or o (Some value)) (sym (absent refl))
behind false old new value absent e = e ∙ sym (or_none old)

-- what the map answers after the insertion of a name that it had not
pub put_behind : {X : Type 0} (old new : BTreeMap (List ℕ) X) (name : List ℕ) (value : X)
    → is_some (get (slice_cmp nat_cmp) old name) ≡ false → Updates (slice_cmp nat_cmp) old new name (Some value) → (other : List ℕ)
    → get (slice_cmp nat_cmp) new other ≡ option_or (get (slice_cmp nat_cmp) old other) (cond (bytes_eq other name) (Some value) None)
put_behind old new name value absent u other =
    behind (bytes_eq other name) (get (slice_cmp nat_cmp) old other) (get (slice_cmp nat_cmp) new other) value
    (λ same. ap (get (slice_cmp nat_cmp) old) (same_text other name (sym same)) ∙ is_absent (get (slice_cmp nat_cmp) old name) absent)
    (u.0 other ∙ ap (λ b. cond b (Some value) (get (slice_cmp nat_cmp) old other)) (is_eq-slice_cmp name other ∙ turned name other))

pub or_joined : {X : Type 0} (a b c : Option X) → option_or (option_or a b) c ≡ option_or a (option_or b c)
or_joined None b c = refl
or_joined (Some x) b c = refl

-- the same of a table, by what the rules see
pub put_one : (old new : Table) (name : List ℕ) (entry : Entry) (meaning : Meaning)
    → ((other : List ℕ) → get (slice_cmp nat_cmp) new.entries other ≡ option_or (get (slice_cmp nat_cmp) old.entries other) (cond (bytes_eq other name) (Some entry) None))
    → entry_sense entry ≡ sense meaning → Puts old new ((name, meaning) ∷ [])
put_one old new name entry meaning h e = record {
  found = λ other.
      ap (option_map entry_sense) (h other)
      ∙ option_map-or entry_sense (get (slice_cmp nat_cmp) old.entries other) (cond (bytes_eq other name) (Some entry) None)
      ∙ ap (option_or (found_in old other)) (by (bytes_eq other name));
}
  where
    by : (b : Bool) → option_map entry_sense (cond b (Some entry) None) ≡ option_map sense (cond b (Some meaning) None)
    by true = ap Some e
    by false = refl

pub puts_none : (t : Table) → Puts t t []
puts_none t = record { found = λ name. sym (or_none (found_in t name)) }

-- some entries, and then others
pub puts_both : {a b c : Table} {es fs : Entries} → Puts a b es → Puts b c fs → Puts a c (es ++ fs)
puts_both {a} {b} {c} {es} {fs} p q = record {
  found = λ name.
      q.found name
      ∙ ap (λ o. option_or o (option_map sense (entry_of name fs))) (p.found name)
      ∙ or_joined (found_in a name) (option_map sense (entry_of name es)) (option_map sense (entry_of name fs))
      ∙ ap (option_or (found_in a name)) (sym (option_map-or sense (entry_of name es) (entry_of name fs)) ∙ ap (option_map sense) (sym (lookup_joined (bytes_eq name) es fs)));
}

-- what is put into a table without entries
pub puts_has : (t u : Table) (es : Entries) → ((name : List ℕ) → found_in t name ≡ None) → Puts t u es → Has u es
puts_has t u es none p = record { found = λ name. p.found name ∙ ap (λ o. option_or o (option_map sense (entry_of name es))) (none name) }

-- some entries are put, and the rest is left of all
pub record Leaves (old now : Table) (all rest : Entries) : Type 0 where
  pub found : (name : List ℕ) → option_or (found_in now name) (option_map sense (entry_of name rest)) ≡ option_or (found_in old name) (option_map sense (entry_of name all))

-- the first of the rest is put
leaves_rest : {old now new : Table} {all es rest : Entries} → Leaves old now all (es ++ rest) → Puts now new es → Leaves old new all rest
leaves_rest {old} {now} {new} {all} {es} {rest} l p = record {
  found = λ name.
      ap (λ o. option_or o (option_map sense (entry_of name rest))) (p.found name)
      ∙ or_joined (found_in now name) (option_map sense (entry_of name es)) (option_map sense (entry_of name rest))
      ∙ ap (option_or (found_in now name)) (sym (option_map-or sense (entry_of name es) (entry_of name rest)) ∙ ap (option_map sense) (sym (lookup_joined (bytes_eq name) es rest)))
      ∙ l.found name;
}

leaves_none : {old now : Table} {all : Entries} → Leaves old now all [] → Puts old now all
leaves_none {old} {now} {all} l = record { found = λ name. sym (or_none (found_in now name)) ∙ l.found name }

next_of : {X : Type 0} (xs : List X) (i : ℕ) (x : X) → x ≡ get_or xs i x → i < length xs → drop i xs ≡ x ∷ drop (i + 1) xs
next_of xs i x e h = rw (add-one, drop-cons xs i x) (ap (λ y. y ∷ drop (suc i) xs) (sym e))

-- one more part is put
pub leaves_more : {X : Type 0} (all_of : List X → Entries) (part : X → Entries) → ((x : X) (xs : List X) → all_of (x ∷ xs) ≡ part x ++ all_of xs)
    → (xs : List X) (i : ℕ) (x : X) (old now new : Table) (all : Entries)
    → x ≡ get_or xs i x → i < length xs → Leaves old now all (all_of (drop i xs)) → Puts now new (part x) → Leaves old new all (all_of (drop (i + 1) xs))
leaves_more all_of part split xs i x old now new all e h l p = leaves_rest (rw (next_of xs i x e h, split x (drop (i + 1) xs)) at l) p

-- nothing is left
pub leaves_end : {X : Type 0} (all_of : List X → Entries) → all_of [] ≡ [] → (xs : List X) (i : ℕ) (old now : Table) (all : Entries) → length xs ≤ i → Leaves old now all (all_of (drop i xs)) → Puts old now all
leaves_end all_of none xs i old now all h l = leaves_none (rw (at_drop_all all_of xs i h, none) at l)

pub same_entries : {t u : Table} {es fs : Entries} → es ≡ fs → Puts t u es → Puts t u fs
same_entries {t} {u} e p = record { found = λ name. p.found name ∙ ap (λ es. option_or (found_in t name) (option_map sense (entry_of name es))) e }

pub gathered-append : {X Y : Type 0} (f : X → List Y) (xs ys : List X) → gathered f (xs ++ ys) ≡ gathered f xs ++ gathered f ys
gathered-append f [] ys = refl
gathered-append f (x ∷ xs) ys = ap (λ l. f x ++ l) (gathered-append f xs ys) ∙ sym (append_assoc (f x) (gathered f xs) (gathered f ys))

pub same_lines : {d : Declared} {a b : List t.NumLine} → a ≡ b → Declares d a → Declares d b
same_lines e h = record { found = λ name. h.found name ∙ ap (declaration_of name) e }

pub if_ok : {T E : Type 0} {P Q : T → Type 0} (r : Result T E) → ((x : T) → P x → Q x) → IfOk r P → IfOk r Q
if_ok (Ok x) go h = go x h
if_ok (Err e) go h = h
