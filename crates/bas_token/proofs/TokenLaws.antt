-- The token that is read at a place is the one token that is the longest there.
use Rattle.std.proofs.Common.{◌≡◌, ℕ, ◌<◌, ◌≤◌, ◌⊎◌, inl, inr, ◌==◌, ◌||◌, ◌&&◌, not, Bool, true, false, cond, List, [], ◌∷◌, length, Option, Some, None, slice_get, codes, refl, sym, ap, ◌∙◌, subst, arith, eqb-true}
use Rattle.std.specs.List.{list_any, list_all}
use Rattle.std.proofs.lemmas.Bool.Decides.{nat_tests}
use Rattle.bas_form.specs.Form.{Form, ◌or◌}
use Rattle.bas_form.specs.Reader.{Reader, end_of, ReadsLongest}
use Rattle.bas_form.proofs.ReaderLaws.{last, none, same_some}
use Rattle.bas_form.proofs.EndLaws.{read_to, read_none}
use Rattle.bas_token.specs.declared.token.TokenKind.{TokenKind}
use Rattle.bas_token.specs.declared.token.TokenKind.TheVariants as kind
use Rattle.bas_form.specs.declared.byte_class.ByteClass.TheVariants.{Space, Letter, Digit, Point, Quote, PlainSign, Less, Equal, Greater, EqualOrGreater, LessOrGreater, LessOrEqual, ExclamationMark, LetterR}
use Rattle.bas_form.specs.Bytes.{is_of_class, Byte}
use Rattle.bas_token.specs.Lexical.{Shape, FirstRem, Mantissa, Sign}
use Rattle.bas_token.specs.Tokens.{Stands, StandsAs}
use Rattle.bas_token.specs.Reading as reading
use Rattle.bas_form.proofs.ByteLaws.{at_byte}
use Rattle.bas_form.proofs.QuotedLaws.{quoted_longest}
use Rattle.bas_token.proofs.ShapeLaws.{at_plain, at_pair, word_longest, numeral_longest, sign_longest}
use Rattle.bas_token.proofs.RemarkLaws.{remark_longest, at_rem, slice_get_none}
use Rattle.bas_token.proofs.EndsOfShapes.{word_ends, numeral_ends, quoted_ends, sign_ends, remark_ends}

-- the place is the last at which the form ends
pub record EndsLongest (len : ℕ) (S : ℕ → ℕ → Type 0) (ends : ℕ → Option ℕ) : Type 0 where
  pub sound : (at to : ℕ) → ends at ≡ Some to → S at to
  pub latest : (at to next : ℕ) → ends at ≡ Some to → S at next → next ≤ to
  pub nowhere : (at next : ℕ) → ends at ≡ None → S at next → ⊥
  pub grows : (at next : ℕ) → S at next → (at < next) × (next ≤ len)

ends_longest : {A : Type 0} {len : ℕ} {F : Form A} {GoesOn : ℕ → Type 0} {f : Reader A} (ends : ℕ → Option ℕ) → ReadsLongest len 1 F GoesOn f → ((at : ℕ) → ends at ≡ end_of (f at)) →
    EndsLongest len (Stands F) ends
ends_longest {f = f} ends is same = record {
  sound = λ at to e. let read = read_to (f at) to (sym (same at) ∙ e) in (read.0, is.sound at read.0 to read.1);
  latest = λ at to next e h. let read = read_to (f at) to (sym (same at) ∙ e) in last is at (read.0, to) read.1 h.0 next h.1;
  nowhere = λ at next e h. none is at (read_none (f at) (sym (same at) ∙ e)) h.0 next h.1;
  grows = λ at next h. (let g = is.grows at h.0 next h.1 in let later : at < next = omega arith in (later, is.within at h.0 next h.1 later));
}

-- the place by kind
abbrev pub pick : TokenKind → Option ℕ → Option ℕ → Option ℕ → Option ℕ → Option ℕ → Option ℕ
pick kind.Remark r w n q s = r
pick kind.Word r w n q s = w
pick kind.Numeral r w n q s = n
pick kind.Quoted r w n q s = q
pick kind.Sign r w n q s = s

-- ---- which bytes begin which kinds

abbrev pub rank : ℕ → ℕ
rank b =
    cond (is_of_class Letter b) 1 (cond (is_of_class Digit b || is_of_class Point b) 2 (cond (is_of_class Quote b) 3 (cond (is_of_class ExclamationMark b) 4 (cond (is_of_class Space b) 6 5))))

abbrev pub Ranks : TokenKind → ℕ → Type 0
Ranks kind.Word r = r ≡ 1
Ranks kind.Numeral r = r ≡ 2
Ranks kind.Quoted r = r ≡ 3
Ranks kind.Sign r = r ≡ 5
Ranks kind.Remark r = (r ≡ 1) ⊎ (r ≡ 4)

letter_rank : (b : ℕ) → is_of_class Letter b ≡ true → rank b ≡ 1
letter_rank b e = rw e refl

digit_rank : (b : ℕ) → is_of_class Digit b ≡ true → rank b ≡ 2
digit_rank b e = let other : is_of_class Letter b ≡ false = grind (arith, nat_tests) in rw (other, e) refl

pub known_rank : (known b : ℕ) → (b == known) ≡ true → rank b ≡ rank known
known_rank known b e = ap rank (eqb-true b known e)

r_rank : (b : ℕ) → is_of_class LetterR b ≡ true → rank b ≡ 1
r_rank b e = letter_rank b (let letter : is_of_class Letter b ≡ true = grind (arith, nat_tests) in letter)

-- what fails at each of some bytes fails at one of them
fails_at : (bytes : List ℕ) (b : ℕ) (p : ℕ → Bool) → list_all (λ s. not (p s)) bytes ≡ true → list_any (λ s. s == b) bytes ≡ true → p b ≡ false
fails_at [] b p all any = absurd (cc)
fails_at (x ∷ bytes) b p all any = by_tests (p x) (x == b) refl refl all any (fails_at bytes b p)
  where
    by_tests : (t u : Bool) → p x ≡ t → (x == b) ≡ u → (not (p x) && list_all (λ s. not (p s)) bytes) ≡ true → ((x == b) || list_any (λ s. s == b) bytes) ≡ true →
        (list_all (λ s. not (p s)) bytes ≡ true → list_any (λ s. s == b) bytes ≡ true → p b ≡ false) → p b ≡ false
    by_tests true u ep eu all any ih = let f = rw ep at all in absurd (cc)
    by_tests false true ep eu all any ih = ap p (sym (eqb-true x b eu)) ∙ ep
    by_tests false false ep eu all any ih = ih (let f = rw ep at all in f) (let f = rw eu at any in f)

plain_rank : (b : ℕ) → is_of_class PlainSign b ≡ true → rank b ≡ 5
plain_rank b e =
    let other = fails_at (codes "+-*/^&(),;:#") b (λ s. not (rank s == 5)) refl e in
    by_test (rank b == 5) refl other
  where
    by_test : (t : Bool) → (rank b == 5) ≡ t → not (rank b == 5) ≡ false → rank b ≡ 5
    by_test true et e = eqb-true (rank b) 5 et
    by_test false et e = let f = rw et at e in absurd (cc)

module _ (line : List ℕ) where
  abbrev pub kind_end : TokenKind → ℕ → Option ℕ
  kind_end k at = pick k (reading.remark_end line at) (reading.word_end line at) (reading.numeral_end line at) (reading.quoted_end line at) (reading.sign_end line at)

  pub kind_longest : (k : TokenKind) → EndsLongest (length line) (StandsAs line k) (kind_end k)
  kind_longest kind.Word = ends_longest (reading.word_end line) (word_longest line) (word_ends line)
  kind_longest kind.Numeral = ends_longest (reading.numeral_end line) (numeral_longest line) (numeral_ends line)
  kind_longest kind.Quoted = ends_longest (reading.quoted_end line) (quoted_longest line) (quoted_ends line)
  kind_longest kind.Sign = ends_longest (reading.sign_end line) (sign_longest line) (sign_ends line)
  kind_longest kind.Remark = ends_longest (reading.remark_end line) (remark_longest line) (remark_ends line)

  mantissa_rank : (at : ℕ) (u : Unit {0}) (next : ℕ) → Mantissa line at u next → (b : ℕ) × (slice_get line at ≡ Some b) × (rank b ≡ 2)
  mantissa_rank at u next (inl h) = let x = at_byte line Digit at h.0.0.0 h.2.1.0 h.2.1.1 in (x.0, x.1, digit_rank x.0 x.2)
  mantissa_rank at u next (inr h) = let x = at_byte line Point at h.0.0 h.2.0 h.2.1 in (x.0, x.1, known_rank 46 x.0 x.2)

  sign_rank : (at : ℕ) (u : Unit {0}) (next : ℕ) → Sign line at u next → (b : ℕ) × (slice_get line at ≡ Some b) × (rank b ≡ 5)
  sign_rank at u next (inl h) = let x = at_plain line at u next h in (x.0, x.1, plain_rank x.0 x.2)
  sign_rank at u next (inr (inl h)) = let x = at_pair line Less EqualOrGreater at u next h in (x.0, x.1, known_rank 60 x.0 x.2)
  sign_rank at u next (inr (inr (inl h))) = let x = at_pair line Equal LessOrGreater at u next h in (x.0, x.1, known_rank 61 x.0 x.2)
  sign_rank at u next (inr (inr (inr h))) = let x = at_pair line Greater LessOrEqual at u next h in (x.0, x.1, known_rank 62 x.0 x.2)

  opening_rank : (at : ℕ) (u : Unit {0}) (next : ℕ) → (Shape (Byte line ExclamationMark) or FirstRem line) at u next → (b : ℕ) × (slice_get line at ≡ Some b) × ((rank b ≡ 1) ⊎ (rank b ≡ 4))
  opening_rank at u next (inl h) = let x = at_byte line ExclamationMark at h.0 next h.2 in (x.0, x.1, inr (known_rank 33 x.0 x.2))
  opening_rank at u next (inr h) = let x = at_rem line at u next h in (x.0, x.1, inl (r_rank x.0 x.2))

  pub ranked : (k : TokenKind) (at next : ℕ) → StandsAs line k at next → (b : ℕ) × (slice_get line at ≡ Some b) × Ranks k (rank b)
  ranked kind.Word at next h = let x = at_byte line Letter at h.0.0 h.1.0 h.1.1 in (x.0, x.1, letter_rank x.0 x.2)
  ranked kind.Numeral at next h = mantissa_rank at h.0.0 h.1.0 h.1.1
  ranked kind.Quoted at next h = let x = at_byte line Quote at h.0.0.0 h.1.1.0 h.1.1.1 in (x.0, x.1, known_rank 34 x.0 x.2)
  ranked kind.Sign at next h = sign_rank at h.0 next h.1
  ranked kind.Remark at next h = opening_rank at h.0.0 h.1.0 h.1.1

  -- two kinds begin at one place only as a word and a remark
  pub together : (k m : TokenKind) (at x y : ℕ) → StandsAs line k at x → StandsAs line m at y → ((r : ℕ) → Ranks k r → Ranks m r → ⊥) → ⊥
  together k m at x y h g never =
      let a = ranked k at x h in
      let b = ranked m at y g in
      let same : a.0 ≡ b.0 = same_some (sym a.1 ∙ b.1) in
      never (rank b.0) (subst (λ (n : ℕ). Ranks k (rank n)) same a.2) b.2

  -- a remark ends where the line does
  pub remark_whole : (at next : ℕ) → StandsAs line kind.Remark at next → length line ≤ next
  remark_whole at next h = let end = h.1.2.2 in let outside = slice_get_none line h.1.2.0 end.0 in let same = end.1 in omega arith
