-- The reader of remarks takes the longest of their form.
use Rattle.std.proofs.Common.{◌≡◌, ℕ, ◌+◌, ◌<◌, ◌≤◌, ◌⊎◌, inl, inr, ◌==◌, Bool, true, false, nat_le, List, [], ◌∷◌, length, get_or, Option, Some, None, slice_get, refl, sym, ap, ◌∙◌, subst, arith, eqb-true}
use Rattle.std.proofs.lemmas.Bool.Decides.{nat_tests}
use Rattle.std.proofs.lemmas.Option.{get_or_from_slice_get, slice_get_cases}
use Rattle.std.proofs.lemmas.List.{get_or_past}
use Rattle.bas_form.specs.Form.{Repeated, ◌or◌, NotAhead}
use Rattle.bas_form.specs.Reader.{either, all_from, ReadsLongest, Begins}
use Rattle.bas_form.specs.Element.{element_at}
use Rattle.bas_form.proofs.ReaderLaws.{same_some, begun, weaker, either_longest, built_longest, not_ahead_longest}
use Rattle.bas_form.proofs.SequenceLaws.{then_longest}
use Rattle.bas_form.proofs.RepetitionLaws.{repeated_longest, all_sound, all_stops}
use Rattle.bas_form.specs.declared.byte_class.ByteClass.TheVariants.{Space, WordPart, Dollar, LetterE, ExclamationMark, LetterR, LetterM, InRemark}
use Rattle.bas_form.specs.Bytes.{is_of_class, of_class, Byte, byte}
use Rattle.bas_token.specs.Lexical.{Shape, OnlySpacesBefore, FirstPlace, FirstRem, Remark}
use Rattle.bas_token.specs.Readers.{shape, first_place, first_rem, remark}
use Rattle.bas_form.proofs.ByteLaws.{byte_longest, byte_found}
use Rattle.bas_form.proofs.ByteLaws.{at_byte, apart}

pub slice_get_none : (xs : List ℕ) (i : ℕ) → slice_get xs i ≡ None → length xs ≤ i
slice_get_none xs i e = elim (slice_get_cases xs i).1 as (λ _. length xs ≤ i) [ inl h ↦ absurd (let both : Some h.0 ≡ None = sym h.2 ∙ e in cc) | inr h ↦ h.0 ]

module _ (line : List ℕ) where
  -- the spaces at the front of the line end here
  abbrev front_end : ℕ
  front_end = (all_from (byte line Space) (length line) 0).1

  space_here : (at k : ℕ) → (x : (b : ℕ) × (slice_get line at ≡ Some b) × (is_of_class Space b ≡ true)) → k ≡ at → is_of_class Space (get_or line k 0) ≡ true
  space_here at k x e = subst (λ (b : ℕ). is_of_class Space b ≡ true) (sym (get_or_from_slice_get line at x.0 0 x.1) ∙ ap (λ n. get_or line n 0) (sym e)) x.2

  space_by : (at k : ℕ) → at ≤ k → (t : Bool) → (k == at) ≡ t → (k ≡ at → is_of_class Space (get_or line k 0) ≡ true) → (at + 1 ≤ k → is_of_class Space (get_or line k 0) ≡ true) →
      is_of_class Space (get_or line k 0) ≡ true
  space_by at k low true e here behind = here (eqb-true k at e)
  space_by at k low false e here behind = behind (let later : at < k = grind (arith, nat_tests) in omega arith)

  pub spaces_hold : (spaces : List ℕ) (at next : ℕ) → Repeated (Byte line Space) at spaces next → (k : ℕ) → at ≤ k → k < next → is_of_class Space (get_or line k 0) ≡ true
  spaces_hold [] at next h k low high = absurd (omega arith)
  spaces_hold (b ∷ more) at next h k low high =
      let step = h.1.1 in
      space_by at k low (k == at) refl (space_here at k (at_byte line Space at b h.0 h.1)) (λ l. spaces_hold more h.0 next h.2 k (omega arith) high)

  front_sound : (at : ℕ) → at ≤ front_end → OnlySpacesBefore line at
  front_sound at l k h = spaces_hold (all_from (byte line Space) (length line) 0).0 0 front_end (all_sound (byte_longest line Space) (omega arith) 0) k (omega arith) (omega arith)

  no_space_at_front_end : is_of_class Space (get_or line front_end 0) ≡ true → ⊥
  no_space_at_front_end h = by_byte (slice_get line front_end) refl
    where
      by_byte : (o : Option ℕ) → slice_get line front_end ≡ o → ⊥
      by_byte None e =
          let outside : length line ≤ front_end = slice_get_none line front_end e in
          let zero : get_or line front_end 0 ≡ 0 = get_or_past line front_end 0 outside in
          let space : is_of_class Space 0 ≡ true = subst (λ (b : ℕ). is_of_class Space b ≡ true) zero h in
          absurd (cc)
      by_byte (Some b) e =
          let read = byte_found line Space front_end b e (subst (λ (b : ℕ). is_of_class Space b ≡ true) (get_or_from_slice_get line front_end b 0 e) h) in
          let stops = all_stops (byte_longest line Space) (omega arith) 0 in
          absurd (let both : Some (b, front_end + 1) ≡ None = sym read ∙ stops in cc)

  front_whole : (at : ℕ) → OnlySpacesBefore line at → (t : Bool) → nat_le at front_end ≡ t → nat_le at front_end ≡ true
  front_whole at only true e = e
  front_whole at only false e = absurd (no_space_at_front_end (only front_end (let later : front_end < at = grind (arith, nat_tests) in later)))

  place_sound : (at : ℕ) (t : Bool) (u : Unit {0}) (next : ℕ) → nat_le at front_end ≡ t → first_place line at ≡ Some (u, next) → FirstPlace line at u next
  unfolding first_place
  place_sound at true u next et e = (front_sound at (let l : at ≤ front_end = grind (arith, nat_tests) in l), (let same = rw et at e in sym (ap (λ t. t.1) (same_some same))))
  place_sound at false u next et e = let same = rw et at e in absurd (cc)

  place_of : (at : ℕ) → nat_le at front_end ≡ true → first_place line at ≡ Some (tt, at)
  unfolding first_place
  place_of at e = rw e refl

  first_place_longest : ReadsLongest (length line) 0 (FirstPlace line) (λ _. ⊥) (first_place line)
  first_place_longest = record {
    sound = λ at u next e. place_sound at (nat_le at front_end) u next refl e;
    grows = λ at u next h. let n = h.1 in omega arith;
    within = λ at u next h later. let n = h.1 in absurd (omega arith);
    longest = λ at u next h. inl (place_of at (front_whole at h.0 (nat_le at front_end) refl) ∙ ap (λ n. Some (tt, n)) (sym h.1));
  }

  first_rem_longest : ReadsLongest (length line) 1 (FirstRem line) (λ _. ⊥) (first_rem line)
  first_rem_longest = weaker
      (built_longest _ (then_longest first_place_longest
      (then_longest (byte_longest line LetterR) (then_longest (byte_longest line LetterE) (then_longest (byte_longest line LetterM)
      (then_longest (not_ahead_longest (length line) (element_at (of_class WordPart) line)) (not_ahead_longest (length line) (element_at (of_class Dollar) line)) (λ n h b m k. h))
      (λ n h b m k. h)) (λ n h b m k. h)) (λ n h b m k. h))
      (λ n h b m k. h))) _ 1 (λ n h. h) (omega arith)

  -- the byte R stands where the word REM does
  pub at_rem : (n : ℕ) (u : Unit {0}) (next : ℕ) → FirstRem line n u next → (b : ℕ) × (slice_get line n ≡ Some b) × (is_of_class LetterR b ≡ true)
  at_rem n u next h =
      let r = at_byte line LetterR h.2.0 h.0.1.0 h.2.2.0 h.2.2.1 in
      let same : slice_get line n ≡ slice_get line h.2.0 = ap (λ k. slice_get line k) (sym h.2.1.1) in
      (r.0, same ∙ r.1, r.2)

  mark_or_r : (b : ℕ) → is_of_class ExclamationMark b ≡ true → is_of_class LetterR b ≡ true → ⊥
  mark_or_r b h k = grind (arith, nat_tests)

  pub opening_longest : ReadsLongest (length line) 1 (Shape (Byte line ExclamationMark) or FirstRem line) (λ _. ⊥) (either (shape (byte line ExclamationMark)) (first_rem line))
  opening_longest = weaker
      (either_longest (built_longest _ (byte_longest line ExclamationMark)) first_rem_longest
      (λ n a k h b m g. apart line ExclamationMark LetterR mark_or_r n (at_byte line ExclamationMark n h.0 k h.2) (at_rem n b m g))) _ 1 never_open (omega arith)
    where
      never_open : (n : ℕ) → ⊥ ⊎ ⊥ → ⊥
      never_open n (inl h) = h
      never_open n (inr h) = h

  pub remark_longest : ReadsLongest (length line) 1 (Remark line) (λ _. ⊥) (remark line)
  remark_longest = weaker
      (then_longest opening_longest
      (then_longest (repeated_longest (byte_longest line InRemark) (omega arith) (λ n h a m k. h)) (not_ahead_longest (length line) (slice_get line)) no_end)
      (λ n h b m k. h)) _ 1 (λ n h. h) (omega arith)
    where
      no_end : (n : ℕ) → ⊥ ⊎ Begins (byte line InRemark) n → (b : Unit {0}) (m : ℕ) → NotAhead (slice_get line) n b m → ⊥
      no_end n (inl h) b m k = h
      no_end n (inr h) b m k =
          let x = begun (byte_longest line InRemark) n h in
          let y = at_byte line InRemark n x.0 x.1 x.2 in
          absurd (let both : Some y.0 ≡ None = sym y.1 ∙ k.0 in cc)
