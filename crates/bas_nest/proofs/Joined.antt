-- The laws of reading.
use Rattle.std.proofs.Common.{◌≡◌, ℕ, List, [], ◌∷◌, ◌++◌, Option, Some, None, Result, Ok, Err, refl, ap, sym, ◌∙◌, subst, append_assoc}
use Rattle.bas_ast.specs.Tree.{NumLine, SourceUnit}
use Rattle.bas_nest.specs.Units.{AreUnits}
use Rattle.bas_nest.specs.Reading.{Open, Outside, Within, Between, Reading, reading, nothing_read, read, read_on, line_read, unclosed}
use Rattle.bas_nest.specs.Laws.{ReadsUnits, OneReading, RefusedForEver, CanBeClosed, CanGoOn, FirstRefused, NoneUnclosed}
use Rattle.bas_nest.proofs.CompleteUnits.{units_read}
use Rattle.bas_nest.proofs.SoundUnits.{read_is}
use Rattle.bas_nest.proofs.Closing.{can_be_closed}

pub reads_units : ReadsUnits
reads_units = record { sound = read_is; complete = λ units lines h. units_read [] units lines h }

-- the units of what is read
abbrev units_in : Result Reading ℕ → List SourceUnit
units_in (Ok r) = r.units
units_in (Err n) = []

pub one_reading : OneReading
one_reading a b lines one other =
    let first = units_read [] a lines one in
    let second = units_read [] b lines other in
    ap units_in (sym first.1 ∙ second.1)

-- what is read on, where something was
abbrev on_reading : Result Reading ℕ → List NumLine → Result Reading ℕ
on_reading (Ok r) lines = read r lines
on_reading (Err n) lines = Err n

behind_line : (o : Option Reading) (n : ℕ) (before behind : List NumLine) (r : Reading) → read_on o n (λ (r1 : Reading). read r1 before) ≡ Ok r →
    ((r1 : Reading) → read r1 before ≡ Ok r → read r1 (before ++ behind) ≡ read r behind) → read_on o n (λ (r1 : Reading). read r1 (before ++ behind)) ≡ read r behind
behind_line None n before behind r h go = absurd (cc)
behind_line (Some r1) n before behind r h go = go r1 h

-- what is read behind some lines, by what is read of them
read_behind : (before behind : List NumLine) (start r : Reading) → read start before ≡ Ok r → read start (before ++ behind) ≡ read r behind
unfolding read
read_behind [] behind start r e = ap (λ (x : Result Reading ℕ). on_reading x behind) e
read_behind (line ∷ before) behind start r e = behind_line (line_read start line) line.line before behind r e (λ r1 h. read_behind before behind r1 r h)

refused_line : (r : Reading) (line : NumLine) (behind : List NumLine) → line_read r line ≡ None → read r (line ∷ behind) ≡ Err line.line
unfolding read
refused_line r line behind e = ap (λ (o : Option Reading). read_on o line.line (λ (r1 : Reading). read r1 behind)) e

pub refused_for_ever : RefusedForEver
refused_for_ever before behind line r units e none h =
    let all = units_read [] units (before ++ line ∷ behind) h in
    let refused : read nothing_read (before ++ line ∷ behind) ≡ Err line.line = read_behind before (line ∷ behind) nothing_read r e ∙ refused_line r line behind none in
    let bad = sym refused ∙ all.1 in
    absurd (cc)

pub closes_all : CanBeClosed
closes_all = can_be_closed

-- the first line that is refused, between those before it and those behind it
abbrev Refused : List NumLine → Reading → ℕ → Type 0
Refused lines start number =
    (before : List NumLine) × (line : NumLine) × (behind : List NumLine) × (r : Reading) × (lines ≡ before ++ line ∷ behind)
    × (line.line ≡ number) × (read start before ≡ Ok r) × (line_read r line ≡ None)

refused_behind : (o : Option Reading) (line : NumLine) (lines : List NumLine) (start : Reading) (number : ℕ) → line_read start line ≡ o →
    read_on o line.line (λ (r1 : Reading). read r1 lines) ≡ Err number → ((r1 : Reading) → read r1 lines ≡ Err number → Refused lines r1 number) → Refused (line ∷ lines) start number
unfolding read
refused_behind None line lines start number is e go = let same : line.line ≡ number = cc in ([], line, lines, start, refl, same, refl, is)
refused_behind (Some r1) line lines start number is e go =
    let h = go r1 e in
    let first : read start (line ∷ h.0) ≡ Ok h.3 = ap (λ (o : Option Reading). read_on o line.line (λ (r2 : Reading). read r2 h.0)) is ∙ h.6 in
    (line ∷ h.0, h.1, h.2, h.3, ap (λ (ls : List NumLine). line ∷ ls) h.4, h.5, first, h.7)

refused_in : (lines : List NumLine) (start : Reading) (number : ℕ) → read start lines ≡ Err number → Refused lines start number
unfolding read
refused_in [] start number e = absurd (cc)
refused_in (line ∷ lines) start number e = refused_behind (line_read start line) line lines start number refl e (λ r1 h. refused_in lines r1 number h)

pub first_refused : FirstRefused
first_refused lines number e =
    let f = refused_in lines nothing_read number e in
    let none : CanGoOn (f.0 ++ f.1 ∷ []) → ⊥ =
    λ h. refused_for_ever f.0 h.0 f.1 f.3 h.1 f.6 f.7 (subst (λ (ls : List NumLine). AreUnits h.1 ls) (append_assoc f.0 (f.1 ∷ []) h.0) h.2) in
    (f.0, f.1, f.2, f.4, f.5, can_be_closed f.0 f.3 f.6, none)

pub none_unclosed : NoneUnclosed
none_unclosed lines r number units e some h =
    let all = units_read [] units lines h in
    let same = sym e ∙ all.1 in
    let none : unclosed r.opened ≡ None = ap (λ (x : Result Reading ℕ). unclosed_in x) same in
    let bad = sym some ∙ none in
    absurd (cc)
  where
    unclosed_in : Result Reading ℕ → Option ℕ
    unclosed_in (Ok r) = unclosed r.opened
    unclosed_in (Err n) = None
