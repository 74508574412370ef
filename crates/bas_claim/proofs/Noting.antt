-- Noting names at lines.
use Rattle.std.proofs.Common.{◌≡◌, ◌≤◌, ◌<◌, ℕ, Bool, true, false, ◌&&◌, ◌||◌, nat_lt, List, [], ◌∷◌, ◌++◌, Option, Some, None, is_some, refl, sym, ap, ◌∙◌, arith}
use Rattle.std.proofs.lemmas.Bool.Decides.{nat_tests}
use Rattle.std.specs.Option.{option_map_or}
use Rattle.std.specs.Prelude.{bytes_eq, ⊤}
use Rattle.std.proofs.lemmas.Bool.{leb-true, leb-false}
use Rattle.std.specs.Ordering.{nat_cmp}
use Rattle.std.specs.Cmp.Lexicographic.{slice_cmp, same_text}
use Rattle.std.specs.BTreeMap.{Updates}
use Rattle.bas_rules.specs.Naming.{is_among}
use Rattle.bas_claim.proofs.Keys.{put_at}
use Rattle.bas_claim.specs.First.{line_of, stands_before, is_noted_at, Notes}
use Rattle.bas_claim.specs.declared.first.FirstLines.{FirstLines}

or_false : (a : Bool) → a ≡ (a || false)
or_false true = refl
or_false false = refl

or_true : (a : Bool) → true ≡ (a || true)
or_true true = refl
or_true false = refl

earlier : (m n l : ℕ) → m ≤ n → nat_lt m l ≡ (nat_lt m l || nat_lt n l)
earlier m n l h = grind (arith, nat_tests)

-- a name that stands before
kept_at : (first : FirstLines) (name : List ℕ) (m line : ℕ) → line_of first name ≡ Some m → m ≤ line → Notes first first (name ∷ []) line
kept_at first name m line at h = record { stands = λ other. stands other (bytes_eq other name) refl; before = λ other l. before other l (bytes_eq other name) refl }
  where
    stands : (other : List ℕ) (b : Bool) → bytes_eq other name ≡ b → is_some (line_of first other) ≡ (is_some (line_of first other) || (bytes_eq other name || false))
    stands other true e = rw (ap (line_of first) (same_text other name (sym e)), at) refl
    stands other false e = rw e (or_false (is_some (line_of first other)))

    before : (other : List ℕ) (l : ℕ) (b : Bool) → bytes_eq other name ≡ b → stands_before first other l ≡ (stands_before first other l || ((bytes_eq other name || false) && nat_lt line l))
    before other l true e = rw (e, ap (line_of first) (same_text other name (sym e)), at) (earlier m line l h)
    before other l false e = rw e (or_false (stands_before first other l))

later : (m n l : ℕ) → n < m → nat_lt n l ≡ (nat_lt m l || (true && nat_lt n l))
later m n l h = grind (arith, nat_tests)

-- a name that stands nowhere, or further down
abbrev pub IsLater : Option ℕ → ℕ → Type 0
IsLater None line = ⊤
IsLater (Some m) line = line < m

is_later : (o : Option ℕ) (line : ℕ) → is_noted_at o line ≡ false → IsLater o line
is_later None line e = tt
is_later (Some m) line e = leb-false m line e

-- it is put at its line
put_later : (old new : FirstLines) (name : List ℕ) (line : ℕ) → IsLater (line_of old name) line → Updates (slice_cmp nat_cmp) old.lines new.lines name (Some line) → Notes old new (name ∷ []) line
put_later old new name line h u = record { stands = λ other. stands other (bytes_eq other name) refl; before = λ other l. before other l (bytes_eq other name) refl }
  where
    stands : (other : List ℕ) (b : Bool) → bytes_eq other name ≡ b → is_some (line_of new other) ≡ (is_some (line_of old other) || (bytes_eq other name || false))
    stands other true e = rw (put_at old.lines new.lines name line u other, e) (or_true (is_some (line_of old other)))
    stands other false e = rw (put_at old.lines new.lines name line u other, e) (or_false (is_some (line_of old other)))

    at_name : (o : Option ℕ) → IsLater o line → (l : ℕ) → nat_lt line l ≡ (option_map_or (λ m. nat_lt m l) o false || (true && nat_lt line l))
    at_name None k l = refl
    at_name (Some m) k l = later m line l k

    before : (other : List ℕ) (l : ℕ) (b : Bool) → bytes_eq other name ≡ b → stands_before new other l ≡ (stands_before old other l || ((bytes_eq other name || false) && nat_lt line l))
    before other l true e = rw (put_at old.lines new.lines name line u other, e, same_text other name (sym e)) (at_name (line_of old name) h l)
    before other l false e = rw (put_at old.lines new.lines name line u other, e) (or_false (stands_before old other l))

pub put : (old new : FirstLines) (name : List ℕ) (line : ℕ) → is_noted_at (line_of old name) line ≡ false → Updates (slice_cmp nat_cmp) old.lines new.lines name (Some line) → Notes old new (name ∷ []) line
put old new name line e u = put_later old new name line (is_later (line_of old name) line e) u

-- a name that stands before is noted already
pub kept : (first : FirstLines) (name : List ℕ) (line : ℕ) → is_noted_at (line_of first name) line ≡ true → Notes first first (name ∷ []) line
kept first name line e = by (line_of first name) refl e
  where
    by : (o : Option ℕ) → line_of first name ≡ o → is_noted_at o line ≡ true → Notes first first (name ∷ []) line
    by None at h = let bad : false ≡ true = h in absurd cc
    by (Some m) at h = kept_at first name m line at (leb-true m line h)

-- nothing is noted
pub noted_none : (first : FirstLines) (line : ℕ) → Notes first first [] line
noted_none first line = record { stands = λ name. or_false (is_some (line_of first name)); before = λ name l. or_false (stands_before first name l) }

among_more : (name : List ℕ) (xs : List (List ℕ)) (x : List ℕ) → is_among name (xs ++ x ∷ []) ≡ (is_among name xs || (bytes_eq name x || false))
among_more name [] x = refl
among_more name (y ∷ ys) x = by (bytes_eq name y) (among_more name ys x)
  where
    by : (b : Bool) → is_among name (ys ++ x ∷ []) ≡ (is_among name ys || (bytes_eq name x || false))
        → (b || is_among name (ys ++ x ∷ [])) ≡ ((b || is_among name ys) || (bytes_eq name x || false))
    by true ih = refl
    by false ih = ih

joined : (a b c d : Bool) → ((a || b && d) || c && d) ≡ (a || (b || c) && d)
joined true b c d = refl
joined false true true true = refl
joined false true true false = refl
joined false true false true = refl
joined false true false false = refl
joined false false c d = refl

associated : (a b c : Bool) → ((a || b) || c) ≡ (a || (b || c))
associated true b c = refl
associated false b c = refl

-- one more name is noted
pub noted_more : (old mid new : FirstLines) (names : List (List ℕ)) (name : List ℕ) (line : ℕ) → Notes old mid names line → Notes mid new (name ∷ []) line → Notes old new (names ++ name ∷ []) line
noted_more old mid new names name line p q = record {
  stands = λ other. q.stands other ∙ rw (p.stands other, among_more other names name) (associated (is_some (line_of old other)) (is_among other names) (bytes_eq other name || false));
  before = λ other l. q.before other l ∙ rw (p.before other l, among_more other names name) (joined (stands_before old other l) (is_among other names) (bytes_eq other name || false) (nat_lt line l));
}
