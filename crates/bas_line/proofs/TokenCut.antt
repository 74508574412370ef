-- The tokens that are read are the only ones of the line.
use Rattle.std.proofs.Common.{◌≡◌, ℕ, zero, suc, ◌-◌, ◌≤◌, ◌<◌, ◌==◌, inl, Bool, true, false, List, [], length, Option, Some, None, refl, sym, ap, ◌∙◌, subst, arith, eqb-true, eq-eqb, append-nil}
use Rattle.bas_form.specs.Reader.{Reader, repeated_on, repeated_by, all_from, ReadsLongest}
use Rattle.bas_form.proofs.ReaderLaws.{same_some, bound}
use Rattle.bas_form.proofs.RepetitionLaws.{all_stops, all_end, all_sound, repeated_longest}
use Rattle.bas_form.proofs.ByteLaws.{byte_longest}
use Rattle.bas_form.specs.declared.byte_class.ByteClass.TheVariants.{Space}
use Rattle.bas_form.specs.Bytes as bytes
use Rattle.bas_token.specs.declared.token.Token.{Token}
use Rattle.bas_token.specs.Tokens.{AreTokens}
use Rattle.bas_token.specs.Reading as reading
use Rattle.bas_token.proofs.TokenLaws.{kind_longest}
use Rattle.bas_token.proofs.CutLaws.{spaced_token, spaced_is, token_sound, HasRead, whole_found, whole_only}
use Rattle.bas_line.specs.Cut.{one_token, all_tokens, tokens_of}

-- readers that read the same at each place repeat the same
same_turn : {A : Type 0} (f g : Reader A) (turns at : ℕ) → ((n : ℕ) → repeated_by f turns n ≡ repeated_by g turns n) → (o : Option (A × ℕ)) →
    repeated_on (repeated_by f turns) at o ≡ repeated_on (repeated_by g turns) at o
same_turn f g turns at ih None = refl
same_turn f g turns at ih (Some found) = rw (ih found.1) refl

same_turns : {A : Type 0} (f g : Reader A) → ((n : ℕ) → f n ≡ g n) → (turns at : ℕ) → repeated_by f turns at ≡ repeated_by g turns at
unfolding repeated_by
same_turns f g same zero at = refl
same_turns f g same (suc turns) at = rw (same at) (same_turn f g turns at (same_turns f g same turns) (g at))

module _ (line : List ℕ) where
  one_is : (n : ℕ) → one_token line n ≡ spaced_token line n
  unfolding one_token
  one_is n = sym (spaced_is line n)

  all_is : (at : ℕ) → all_from (one_token line) (length line) at ≡ all_from (spaced_token line) (length line) at
  all_is at = same_turns (one_token line) (spaced_token line) one_is (length line - at) at

  past_grows : (at : ℕ) → at ≤ bytes.past line Space at
  unfolding bytes.past
  past_grows at =
      let longest = repeated_longest (byte_longest line Space) (omega arith) (λ n h a m k. h) in
      let read = all_from (bytes.byte line Space) (length line) at in
      let g = longest.grows at read.0 read.1 (all_sound (byte_longest line Space) (omega arith) at) in
      omega arith

  -- a token takes a byte at least, of the line
  token_takes : (at : ℕ) (t : Token) (next : ℕ) → one_token line at ≡ Some (t, next) → (at < next) × (next ≤ length line)
  unfolding one_token reading.next_token
  token_takes at t next e =
      let b = bound (reading.token_at line (bytes.past line Space at)) _ _ e in
      let s = token_sound line (bytes.past line Space at) b.0 b.1 in
      let g = (kind_longest line b.0.kind).grows b.0.from b.0.to s.1.stands in
      let p = past_grows at in
      let n = ap (λ (r : Token × ℕ). r.1) (same_some b.2) in
      let from = s.0 in
      let later = g.0 in
      let inside = g.1 in
      (omega arith, omega arith)

  one_longest : ReadsLongest (length line) 1 (λ at (t : Token) next. one_token line at ≡ Some (t, next)) (λ _. ⊥) (one_token line)
  one_longest = record {
    sound = λ at t next e. e;
    grows = λ at t next e. let p = (token_takes at t next e).0 in omega arith;
    within = λ at t next e later. (token_takes at t next e).1;
    longest = λ at t next e. inl e;
  }

  takes : 1 ≤ 1
  takes = omega arith

  end_stops : one_token line (all_tokens line).1 ≡ None
  end_stops = all_stops one_longest takes 0

  nothing_more : all_from (one_token line) (length line) (all_tokens line).1 ≡ ([], (all_tokens line).1)
  nothing_more = all_end one_longest takes (all_tokens line).1 end_stops

  far : HasRead line (all_tokens line).0 (all_tokens line).1
  far = sym (all_is 0) ∙ rw (sym (all_is (all_tokens line).1) ∙ nothing_more, append-nil) refl

  none_by : (at : ℕ) (o : Option Token) → reading.next_token line at ≡ o → one_token line at ≡ None → reading.next_token line at ≡ None
  unfolding one_token
  none_by at None eo e = eo
  none_by at (Some t) eo e = let f = rw eo at e in absurd (cc)

  last : reading.next_token line (all_tokens line).1 ≡ None
  last = none_by (all_tokens line).1 (reading.next_token line (all_tokens line).1) refl end_stops

  sound_by : (tokens : List Token) (t : Bool) → (bytes.past line Space (all_tokens line).1 == length line) ≡ t → tokens_of line ≡ Some tokens → AreTokens line tokens
  unfolding tokens_of
  sound_by tokens true et e =
      let same : (all_tokens line).0 ≡ tokens = same_some (let f = rw et at e in f) in
      subst (AreTokens line) same (whole_found line (all_tokens line).0 (all_tokens line).1 far last (eqb-true (bytes.past line Space (all_tokens line).1) (length line) et))
  sound_by tokens false et e = let f = rw et at e in absurd (cc)

  pub tokens_sound : (tokens : List Token) → tokens_of line ≡ Some tokens → AreTokens line tokens
  tokens_sound tokens e = sound_by tokens _ refl e

  pub tokens_whole : (tokens : List Token) → AreTokens line tokens → tokens_of line ≡ Some tokens
  unfolding tokens_of
  tokens_whole tokens are =
      let only = whole_only line (all_tokens line).0 (all_tokens line).1 far last tokens are in
      let whole = eq-eqb (bytes.past line Space (all_tokens line).1) (length line) only.1 in
      rw whole (ap (λ ts. Some ts) only.0)
