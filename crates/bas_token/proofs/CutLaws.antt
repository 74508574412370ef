-- The tokens of a line are the one list in which each is the longest at its place.
use Rattle.std.proofs.Common.{◌≡◌, ℕ, ◌+◌, ◌<◌, ◌≤◌, ◌⊎◌, inl, inr, ◌==◌, Bool, true, false, List, [], ◌∷◌, ◌++◌, length, get_or, nat_lt, Option, Some, None, refl, sym, ap, ◌∙◌, subst, arith}
use Rattle.std.proofs.lemmas.Bool.Decides.{nat_tests}
use Rattle.std.proofs.lemmas.Option.{get_or_from_slice_get, slice_get-get_or}
use Rattle.std.proofs.lemmas.List.{get_or_past}
use Rattle.bas_form.specs.Form.{Form, ◌then◌, Built}
use Rattle.bas_form.specs.Reader.{Reader, ◌>>=◌, first_of, both, ◌followed_by◌, repeated, built, all_from, IsAsFar, ReadsLongest, Begins}
use Rattle.bas_form.proofs.ReaderLaws.{same_some, begun, built_longest, none}
use Rattle.bas_form.proofs.SequenceLaws.{then_longest}
use Rattle.bas_form.proofs.RepetitionLaws.{repeated_longest, all_sound, all_stops, as_far_on, as_far_ends}
use Rattle.bas_token.specs.declared.token.TokenKind.{TokenKind}
use Rattle.bas_token.specs.declared.token.TokenKind.TheVariants as kind
use Rattle.bas_token.specs.declared.token.Token.{Token}
use Rattle.bas_form.specs.declared.byte_class.ByteClass.TheVariants.{Space}
use Rattle.bas_form.specs.Bytes.{is_of_class, Byte, byte}
use Rattle.bas_token.specs.Tokens.{Stands, StandsAs, IsToken, OneToken, Spaces, SpacedTokens, AreTokens, BeginsNoToken, IsBadByte, AreInOrder}
use Rattle.bas_token.specs.Readers.{all_of}
use Rattle.bas_form.specs.Bytes as bytes
use Rattle.bas_token.specs.Reading as reading
use Rattle.bas_form.proofs.ByteLaws.{byte_longest, byte_found}
use Rattle.bas_form.proofs.ByteLaws.{at_byte}
use Rattle.bas_token.proofs.RemarkLaws.{spaces_hold}
use Rattle.bas_token.proofs.TokenLaws.{pick, Ranks, rank, known_rank, kind_end, kind_longest, ranked, together, remark_whole}

-- which kind was taken, and that no remark stood before a word
record IsPicked (at : ℕ) (r w n q s : Option ℕ) (t : Token) : Type 0 where
  from : t.from ≡ at
  to : pick t.kind r w n q s ≡ Some t.to
  remark : (t.kind ≡ kind.Remark) ⊎ (r ≡ None)

abbrev chosen : ℕ → Option ℕ → Option ℕ → Option ℕ → Option ℕ → Option ℕ → Option Token
chosen at r w n q s =
    first_of (reading.token_to kind.Remark at r)
    (first_of (reading.token_to kind.Word at w)
    (first_of (reading.token_to kind.Numeral at n) (first_of (reading.token_to kind.Quoted at q) (reading.token_to kind.Sign at s))))

picked_as : (at : ℕ) (r w n q s : Option ℕ) (k : TokenKind) (to : ℕ) (t : Token) → pick k r w n q s ≡ Some to → (k ≡ kind.Remark) ⊎ (r ≡ None) →
    Some (let token : Token = record { kind = k; from = at; to = to } in token) ≡ Some t → IsPicked at r w n q s t
picked_as at r w n q s k to t e no_remark same = subst (IsPicked at r w n q s) (same_some same) (record { from = refl; to = e; remark = no_remark })

picked : (at : ℕ) (r w n q s : Option ℕ) (t : Token) → chosen at r w n q s ≡ Some t → IsPicked at r w n q s t
picked at (Some x) w n q s t e = picked_as at (Some x) w n q s kind.Remark x t refl (inl refl) e
picked at None (Some x) n q s t e = picked_as at None (Some x) n q s kind.Word x t refl (inr refl) e
picked at None None (Some x) q s t e = picked_as at None None (Some x) q s kind.Numeral x t refl (inr refl) e
picked at None None None (Some x) s t e = picked_as at None None None (Some x) s kind.Quoted x t refl (inr refl) e
picked at None None None None (Some x) t e = picked_as at None None None None (Some x) kind.Sign x t refl (inr refl) e
picked at None None None None None t e = absurd (cc)

unpicked : (at : ℕ) (r w n q s : Option ℕ) → chosen at r w n q s ≡ None → (k : TokenKind) → pick k r w n q s ≡ None
unpicked at (Some x) w n q s e k = absurd (cc)
unpicked at None (Some x) n q s e k = absurd (cc)
unpicked at None None (Some x) q s e k = absurd (cc)
unpicked at None None None (Some x) s e k = absurd (cc)
unpicked at None None None None (Some x) e k = absurd (cc)
unpicked at None None None None None e kind.Word = refl
unpicked at None None None None None e kind.Numeral = refl
unpicked at None None None None None e kind.Quoted = refl
unpicked at None None None None None e kind.Sign = refl
unpicked at None None None None None e kind.Remark = refl

module _ (line : List ℕ) where
  token_picked : (at : ℕ) (t : Token) → reading.token_at line at ≡ Some t →
      IsPicked at (reading.remark_end line at) (reading.word_end line at) (reading.numeral_end line at) (reading.quoted_end line at) (reading.sign_end line at) t
  unfolding reading.token_at
  token_picked at t e = picked at _ _ _ _ _ t e

  stands_as : (k : TokenKind) (at to : ℕ) → kind_end line k at ≡ Some to → StandsAs line k at to
  stands_as k at to e = (kind_longest line k).sound at to e

  -- no kind stands longer than the one that was picked
  no_longer : (k other : TokenKind) (at x y : ℕ) → StandsAs line k at x → kind_end line k at ≡ Some x → ((k ≡ kind.Remark) ⊎ (reading.remark_end line at ≡ None)) → StandsAs line other at y → y ≤ x
  no_longer kind.Word kind.Word at x y h e p g = (kind_longest line kind.Word).latest at x y e g
  no_longer kind.Numeral kind.Numeral at x y h e p g = (kind_longest line kind.Numeral).latest at x y e g
  no_longer kind.Quoted kind.Quoted at x y h e p g = (kind_longest line kind.Quoted).latest at x y e g
  no_longer kind.Sign kind.Sign at x y h e p g = (kind_longest line kind.Sign).latest at x y e g
  no_longer kind.Remark kind.Remark at x y h e p g = (kind_longest line kind.Remark).latest at x y e g
  no_longer kind.Remark kind.Word at x y h e p g = let whole = remark_whole line at x h in let inside = (kind_longest line kind.Word).grows at y g in omega arith
  no_longer kind.Word kind.Remark at x y h e (inl same) g = absurd (cc)
  no_longer kind.Word kind.Remark at x y h e (inr nothing) g = absurd ((kind_longest line kind.Remark).nowhere at y nothing g)
  no_longer kind.Word kind.Numeral at x y h e p g = absurd (together line kind.Word kind.Numeral at x y h g (λ r a b. omega arith))
  no_longer kind.Word kind.Quoted at x y h e p g = absurd (together line kind.Word kind.Quoted at x y h g (λ r a b. omega arith))
  no_longer kind.Word kind.Sign at x y h e p g = absurd (together line kind.Word kind.Sign at x y h g (λ r a b. omega arith))
  no_longer kind.Numeral kind.Word at x y h e p g = absurd (together line kind.Numeral kind.Word at x y h g (λ r a b. omega arith))
  no_longer kind.Numeral kind.Quoted at x y h e p g = absurd (together line kind.Numeral kind.Quoted at x y h g (λ r a b. omega arith))
  no_longer kind.Numeral kind.Sign at x y h e p g = absurd (together line kind.Numeral kind.Sign at x y h g (λ r a b. omega arith))
  no_longer kind.Numeral kind.Remark at x y h e p g = absurd (together line kind.Numeral kind.Remark at x y h g (λ r a b. grind arith))
  no_longer kind.Quoted kind.Word at x y h e p g = absurd (together line kind.Quoted kind.Word at x y h g (λ r a b. omega arith))
  no_longer kind.Quoted kind.Numeral at x y h e p g = absurd (together line kind.Quoted kind.Numeral at x y h g (λ r a b. omega arith))
  no_longer kind.Quoted kind.Sign at x y h e p g = absurd (together line kind.Quoted kind.Sign at x y h g (λ r a b. omega arith))
  no_longer kind.Quoted kind.Remark at x y h e p g = absurd (together line kind.Quoted kind.Remark at x y h g (λ r a b. grind arith))
  no_longer kind.Sign kind.Word at x y h e p g = absurd (together line kind.Sign kind.Word at x y h g (λ r a b. omega arith))
  no_longer kind.Sign kind.Numeral at x y h e p g = absurd (together line kind.Sign kind.Numeral at x y h g (λ r a b. omega arith))
  no_longer kind.Sign kind.Quoted at x y h e p g = absurd (together line kind.Sign kind.Quoted at x y h g (λ r a b. omega arith))
  no_longer kind.Sign kind.Remark at x y h e p g = absurd (together line kind.Sign kind.Remark at x y h g (λ r a b. grind arith))
  no_longer kind.Remark kind.Numeral at x y h e p g = absurd (together line kind.Remark kind.Numeral at x y h g (λ r a b. grind arith))
  no_longer kind.Remark kind.Quoted at x y h e p g = absurd (together line kind.Remark kind.Quoted at x y h g (λ r a b. grind arith))
  no_longer kind.Remark kind.Sign at x y h e p g = absurd (together line kind.Remark kind.Sign at x y h g (λ r a b. grind arith))

  remark_wins : (at y : ℕ) (k : TokenKind) → (k ≡ kind.Remark) ⊎ (reading.remark_end line at ≡ None) → StandsAs line kind.Remark at y → k ≡ kind.Remark
  remark_wins at y k (inl same) g = same
  remark_wins at y k (inr nothing) g = absurd ((kind_longest line kind.Remark).nowhere at y nothing g)

  -- what is read is a token
  pub token_sound : (at : ℕ) (t : Token) → reading.token_at line at ≡ Some t → (t.from ≡ at) × IsToken line t
  token_sound at t e =
      let p = token_picked at t e in
      let stands = stands_as t.kind at t.to p.to in
      let goal : ℕ → Type 0 = λ n. StandsAs line t.kind n t.to in (
        p.from,
        record {
          stands = subst goal (sym p.from) stands;
          longest = λ other to g. (let here : ℕ → Type 0 = λ n. StandsAs line other n to in no_longer t.kind other at t.to to stands p.to p.remark (subst here p.from g));
          remark = λ g. (let here : ℕ → Type 0 = λ n. StandsAs line kind.Remark n t.to in remark_wins at t.to t.kind p.remark (subst here p.from g));
        },
      )

  -- where nothing is read no token begins
  pub token_nowhere : (at : ℕ) → reading.token_at line at ≡ None → BeginsNoToken line at
  unfolding reading.token_at
  token_nowhere at e k to h = (kind_longest line k).nowhere at to (unpicked at _ _ _ _ _ e k) h

  -- what is read where a kind stands
  token_there : (k : TokenKind) (at to : ℕ) → StandsAs line k at to → (t : Token) × (reading.token_at line at ≡ Some t)
  token_there k at to h = by_token (reading.token_at line at) refl
    where
      by_token : (o : Option Token) → reading.token_at line at ≡ o → (t : Token) × (reading.token_at line at ≡ Some t)
      by_token None e = absurd (token_nowhere at e k to h)
      by_token (Some t) e = (t, e)

alike : (k m : TokenKind) → (k ≡ kind.Remark) ⊎ ((m ≡ kind.Remark) ⊎ ((k ≡ m) ⊎ ((r : ℕ) → Ranks k r → Ranks m r → ⊥)))
alike kind.Remark m = inl refl
alike k kind.Remark = inr (inl refl)
alike kind.Word kind.Word = inr (inr (inl refl))
alike kind.Numeral kind.Numeral = inr (inr (inl refl))
alike kind.Quoted kind.Quoted = inr (inr (inl refl))
alike kind.Sign kind.Sign = inr (inr (inl refl))
alike kind.Word kind.Numeral = inr (inr (inr (λ r a b. omega arith)))
alike kind.Word kind.Quoted = inr (inr (inr (λ r a b. omega arith)))
alike kind.Word kind.Sign = inr (inr (inr (λ r a b. omega arith)))
alike kind.Numeral kind.Word = inr (inr (inr (λ r a b. omega arith)))
alike kind.Numeral kind.Quoted = inr (inr (inr (λ r a b. omega arith)))
alike kind.Numeral kind.Sign = inr (inr (inr (λ r a b. omega arith)))
alike kind.Quoted kind.Word = inr (inr (inr (λ r a b. omega arith)))
alike kind.Quoted kind.Numeral = inr (inr (inr (λ r a b. omega arith)))
alike kind.Quoted kind.Sign = inr (inr (inr (λ r a b. omega arith)))
alike kind.Sign kind.Word = inr (inr (inr (λ r a b. omega arith)))
alike kind.Sign kind.Numeral = inr (inr (inr (λ r a b. omega arith)))
alike kind.Sign kind.Quoted = inr (inr (inr (λ r a b. omega arith)))

token_of_parts : (t u : Token) → t.kind ≡ u.kind → t.from ≡ u.from → t.to ≡ u.to → t ≡ u
token_of_parts t u ek ef et =
    ap (λ k. let token : Token = record { kind = k; from = t.from; to = t.to } in token) ek
    ∙ ap (λ n. let token : Token = record { kind = u.kind; from = n; to = t.to } in token) ef
    ∙ ap (λ n. let token : Token = record { kind = u.kind; from = u.from; to = n } in token) et

module _ (line : List ℕ) where
  stands_from : (k : TokenKind) (at from to : ℕ) → at ≡ from → StandsAs line k at to → StandsAs line k from to
  stands_from k at from to e h = let goal : ℕ → Type 0 = λ n. StandsAs line k n to in subst goal e h

  stands_to : (k : TokenKind) (at to end : ℕ) → to ≡ end → StandsAs line k at to → StandsAs line k at end
  stands_to k at to end e h = let goal : ℕ → Type 0 = λ n. StandsAs line k at n in subst goal e h

  stands_kind : (k m : TokenKind) (at to : ℕ) → k ≡ m → StandsAs line k at to → StandsAs line m at to
  stands_kind k m at to e h = let goal : TokenKind → Type 0 = λ n. StandsAs line n at to in subst goal e h

  -- two tokens that begin at one place are one
  one_token : (t u : Token) → IsToken line t → IsToken line u → t.from ≡ u.from → t ≡ u
  one_token t u it iu ef =
      let forth = iu.longest t.kind t.to (stands_from t.kind t.from u.from t.to ef it.stands) in
      let back = it.longest u.kind u.to (stands_from u.kind u.from t.from u.to (sym ef) iu.stands) in
      let et : t.to ≡ u.to = omega arith in
      token_of_parts t u (same_kind et (alike t.kind u.kind)) ef et
    where
      same_kind : t.to ≡ u.to → (t.kind ≡ kind.Remark) ⊎ ((u.kind ≡ kind.Remark) ⊎ ((t.kind ≡ u.kind) ⊎ ((r : ℕ) → Ranks t.kind r → Ranks u.kind r → ⊥))) → t.kind ≡ u.kind
      same_kind et (inl e) =
          let there = stands_to kind.Remark u.from t.to u.to et (stands_from kind.Remark t.from u.from t.to ef (stands_kind t.kind kind.Remark t.from t.to e it.stands)) in
          e ∙ sym (iu.remark there)
      same_kind et (inr (inl e)) =
          let there = stands_to kind.Remark t.from u.to t.to (sym et) (stands_from kind.Remark u.from t.from u.to (sym ef) (stands_kind u.kind kind.Remark u.from u.to e iu.stands)) in
          it.remark there ∙ sym e
      same_kind et (inr (inr (inl e))) = e
      same_kind et (inr (inr (inr never))) =
          absurd (together line t.kind u.kind u.from t.to u.to (stands_from t.kind t.from u.from t.to ef it.stands) iu.stands never)

  -- a token that stands there is what is read
  token_whole : (t : Token) → IsToken line t → reading.token_at line t.from ≡ Some t
  token_whole t is =
      let read = token_there line t.kind t.from t.to is.stands in
      let s = token_sound line t.from read.0 read.1 in
      read.1 ∙ ap (λ u. Some u) (one_token read.0 t s.1 is s.0)

  -- ---- the reader of one token, and of one behind spaces

  token_read : Reader Token
  token_read at = reading.token_at line at >>= λ t. Some (t, t.to)

  read_by : (at : ℕ) (o : Option Token) (t : Token) (next : ℕ) → reading.token_at line at ≡ o → (let read : Option (Token × ℕ) = o >>= (λ t. Some (t, t.to)) in read) ≡ Some (t, next) → (reading.token_at line at ≡ Some t) × (t.to ≡ next)
  read_by at None t next eo e = absurd (cc)
  read_by at (Some u) t next eo e =
      let same : (u, u.to) ≡ (t, next) = same_some e in
      (eo ∙ ap (λ p. Some p.0) same, sym (ap (λ p. p.0.to) same) ∙ ap (λ p. p.1) same)

  token_longest : ReadsLongest (length line) 1 (OneToken line) (λ _. ⊥) token_read
  unfolding token_read
  token_longest = record {
    sound = λ at t next e. (let r = read_by at (reading.token_at line at) t next refl e in let s = token_sound line at t r.0 in (s.0, r.1, s.1));
    grows = λ at t next h. (let g = (kind_longest line t.kind).grows t.from t.to h.2.stands in let a = h.0 in let b = h.1 in let later = g.0 in omega arith);
    within = λ at t next h later. (let g = (kind_longest line t.kind).grows t.from t.to h.2.stands in let b = h.1 in let inside = g.1 in omega arith);
    longest = λ at t next h. inl (read_there at t next h);
  }
    where
      read_there : (at : ℕ) (t : Token) (next : ℕ) → OneToken line at t next → token_read at ≡ Some (t, next)
      read_there at t next h =
          let here : reading.token_at line at ≡ Some t = ap (reading.token_at line) (sym h.0) ∙ token_whole t h.2 in
          rw here (ap (λ n. Some (t, n)) h.1)

  pub spaced_token : Reader Token
  spaced_token = built (λ (spaced : List ℕ × Token). spaced.1) (all_of line (byte line Space) followed_by token_read)

  OneSpaced : Form Token
  OneSpaced = Built (λ (spaced : List ℕ × Token). spaced.1) (Spaces line then OneToken line)

  space_rank : (b : ℕ) → is_of_class Space b ≡ true → rank b ≡ 6
  space_rank b e = by_test (b == 32) refl e
    where
      by_test : (u : Bool) → (b == 32) ≡ u → is_of_class Space b ≡ true → rank b ≡ 6
      by_test true eu e = known_rank 32 b eu
      by_test false eu e = known_rank 9 b (let f = rw eu at e in f)

  no_rank : (k : TokenKind) (r : ℕ) → r ≡ 6 → Ranks k r → ⊥
  no_rank kind.Word r e h = omega arith
  no_rank kind.Numeral r e h = omega arith
  no_rank kind.Quoted r e h = omega arith
  no_rank kind.Sign r e h = omega arith
  no_rank kind.Remark r e (inl h) = omega arith
  no_rank kind.Remark r e (inr h) = omega arith

  -- no token begins with a space
  no_kind_at_space : (k : TokenKind) (n to : ℕ) → StandsAs line k n to → is_of_class Space (get_or line n 0) ≡ true → ⊥
  no_kind_at_space k n to h space =
      let token = ranked line k n to h in
      let same : get_or line n 0 ≡ token.0 = get_or_from_slice_get line n token.0 0 token.1 in
      no_rank k (rank token.0) (space_rank token.0 (subst (λ (b : ℕ). is_of_class Space b ≡ true) same space)) token.2

  no_token_at_space : (n : ℕ) → ⊥ ⊎ Begins (byte line Space) n → (t : Token) (m : ℕ) → OneToken line n t m → ⊥
  no_token_at_space n (inl h) t m k = h
  no_token_at_space n (inr h) t m k =
      let x = begun (byte_longest line Space) n h in
      let space = at_byte line Space n x.0 x.1 x.2 in
      let token = ranked line t.kind n t.to (stands_from t.kind t.from n t.to k.0 k.2.stands) in
      let same : space.0 ≡ token.0 = same_some (sym space.1 ∙ token.1) in
      absurd (no_rank t.kind (rank token.0) (ap rank (sym same) ∙ space_rank space.0 space.2) token.2)

  spaced_longest : ReadsLongest (length line) 1 (Built (λ (spaced : List ℕ × Token). spaced.1) (Spaces line then OneToken line)) (λ _. ⊥) spaced_token
  unfolding spaced_token
  spaced_longest = built_longest _ (then_longest (repeated_longest (byte_longest line Space) (omega arith) (λ n h a m k. h)) token_longest no_token_at_space)

  abbrev with_end : Token → Option (Token × ℕ)
  with_end t = Some (t, t.to)

  abbrev behind : List ℕ → Token × ℕ → Option ((List ℕ × Token) × ℕ)
  behind spaces b = Some ((spaces, b.0), b.1)

  abbrev second : (List ℕ × Token) × ℕ → Option (Token × ℕ)
  second p = Some (p.0.1, p.1)

  spaced_by : (spaces : List ℕ) (o : Option Token) → (((o >>= with_end) >>= behind spaces) >>= second) ≡ (o >>= with_end)
  spaced_by spaces None = refl
  spaced_by spaces (Some t) = refl

  -- the code reads the token behind spaces
  pub spaced_is : (at : ℕ) → spaced_token at ≡ (reading.next_token line at >>= λ t. Some (t, t.to))
  unfolding spaced_token built both repeated token_read reading.next_token bytes.past
  spaced_is at = spaced_by (all_from (byte line Space) (length line) at).0 (reading.token_at line (all_from (byte line Space) (length line) at).1)

  pub spaced_some : (at : ℕ) (t : Token) → reading.next_token line at ≡ Some t → spaced_token at ≡ Some (t, t.to)
  spaced_some at t e = spaced_is at ∙ rw e refl

  pub spaced_none : (at : ℕ) → reading.next_token line at ≡ None → spaced_token at ≡ None
  spaced_none at e = spaced_is at ∙ rw e refl

  takes_one : 1 ≤ 1
  takes_one = omega arith

  never_apart : (n : ℕ) → ⊥ → (t : Token) (m : ℕ) → Built (λ (spaced : List ℕ × Token). spaced.1) (Spaces line then OneToken line) n t m → ⊥
  never_apart n h t m k = h

  all_longest : ReadsLongest (length line) 0 (SpacedTokens line) (λ n. ⊥ ⊎ Begins spaced_token n) (repeated spaced_token (length line))
  all_longest = repeated_longest spaced_longest takes_one never_apart

  abbrev pub HasRead : List Token → ℕ → Type 0
  HasRead = IsAsFar spaced_token (length line) 0

  pub read_on : (front : List Token) (at : ℕ) (t : Token) → HasRead front at → reading.next_token line at ≡ Some t → HasRead (front ++ t ∷ []) t.to
  read_on front at t far e = as_far_on spaced_longest takes_one 0 at front t t.to far (spaced_some at t e)

  -- what the loop has read where no token follows
  read_all : (front : List Token) (at : ℕ) → HasRead front at → reading.next_token line at ≡ None → all_from spaced_token (length line) 0 ≡ (front, at)
  read_all front at far e = as_far_ends spaced_longest takes_one 0 at front far (spaced_none at e)

  pub read_sound : (front : List Token) (at : ℕ) → HasRead front at → reading.next_token line at ≡ None → SpacedTokens line 0 front at
  read_sound front at far e =
      let goal : List Token × ℕ → Type 0 = λ read. SpacedTokens line 0 read.0 read.1 in
      subst goal (read_all front at far e) (all_sound spaced_longest takes_one 0)

  -- the spaces behind the tokens
  pub spaces_behind : (at : ℕ) → Stands (Spaces line) at (bytes.past line Space at)
  unfolding bytes.past
  spaces_behind at = ((all_from (byte line Space) (length line) at).0, all_sound (byte_longest line Space) takes_one at)

  -- ---- what the answers of the cut say

  -- where a token behind spaces begins inside a stretch of spaces, there is none
  space_at : (end from k : ℕ) → Stands (Spaces line) end from → end ≤ k → k < from → is_of_class Space (get_or line k 0) ≡ true
  space_at end from k h low high = spaces_hold line h.0 end from h.1 k low high

  begun_token : (end : ℕ) → Begins spaced_token end → (m : ℕ) × (t : Token) × Stands (Spaces line) end m × OneToken line m t t.to
  begun_token end h =
      let x = begun spaced_longest end h in
      let parts = x.2.2 in
      (parts.0, x.0, (x.2.0.0, parts.1), (let token = parts.2 in let goal : Token → Type 0 = λ t. OneToken line parts.0 t t.to in subst goal (sym x.2.1) (token.0, refl, token.2)))

  -- nothing follows tokens behind which spaces lead to a place that begins nothing
  read_only : (tokens : List Token) (end stop : ℕ) → SpacedTokens line 0 tokens end → Stands (Spaces line) end stop →
      (is_of_class Space (get_or line stop 0) ≡ true → ⊥) → BeginsNoToken line stop → all_from spaced_token (length line) 0 ≡ (tokens, end)
  unfolding repeated
  read_only tokens end stop h spaces no_space no_token =
      elim (all_longest.longest 0 tokens end h) as (λ _. all_from spaced_token (length line) 0 ≡ (tokens, end)) [
        | inl e ↦ same_some e
        | inr d ↦ absurd (elim d.0 as (λ _. ⊥) [ inl n ↦ n | inr b ↦ clash (begun_token end b) ])
      ]
    where
      grown : (m : ℕ) → Stands (Spaces line) end m → end ≤ m
      grown m s = let g = (repeated_longest (byte_longest line Space) takes_one (λ n h a m k. h)).grows end s.0 m s.1 in omega arith

      by_order : (m : ℕ) (t : Token) → Stands (Spaces line) end m → OneToken line m t t.to → (x y : Bool) → nat_lt m stop ≡ x → nat_lt stop m ≡ y → ⊥
      by_order m t s token true y ex ey =
          no_kind_at_space t.kind m t.to (stands_from t.kind t.from m t.to token.0 token.2.stands)
          (space_at end stop m spaces (grown m s) (let l : m < stop = grind (arith, nat_tests) in l))
      by_order m t s token false true ex ey = no_space (space_at end m stop s (grown stop spaces) (let l : stop < m = grind (arith, nat_tests) in l))
      by_order m t s token false false ex ey =
          let same : m ≡ stop = grind (arith, nat_tests) in
          no_token t.kind t.to (stands_from t.kind t.from stop t.to (token.0 ∙ same) token.2.stands)

      clash : ((m : ℕ) × (t : Token) × Stands (Spaces line) end m × OneToken line m t t.to) → ⊥
      clash x = by_order x.0 x.1 x.2 x.3 (nat_lt x.0 stop) (nat_lt stop x.0) refl refl

  stop_is : (end stop : ℕ) → Stands (Spaces line) end stop → (is_of_class Space (get_or line stop 0) ≡ true → ⊥) → bytes.past line Space end ≡ stop
  unfolding bytes.past repeated
  stop_is end stop spaces no_space =
      elim ((repeated_longest (byte_longest line Space) takes_one (λ n h a m k. h)).longest end spaces.0 stop spaces.1) as (λ _. (all_from (byte line Space) (length line) end).1 ≡ stop) [
        | inl e ↦ ap (λ read. read.1) (same_some e)
        | inr d ↦ absurd (elim d.0 as (λ _. ⊥) [ inl n ↦ n | inr b ↦ no_space (space_begins stop b) ])
      ]
    where
      space_begins : (n : ℕ) → Begins (byte line Space) n → is_of_class Space (get_or line n 0) ≡ true
      space_begins n b =
          let x = begun (byte_longest line Space) n b in
          let y = at_byte line Space n x.0 x.1 x.2 in
          subst (λ (b : ℕ). is_of_class Space b ≡ true) (sym (get_or_from_slice_get line n y.0 0 y.1)) y.2

  no_space_at_end : is_of_class Space (get_or line (length line) 0) ≡ true → ⊥
  no_space_at_end h =
      let zero : get_or line (length line) 0 ≡ 0 = get_or_past line (length line) 0 (omega arith) in
      let space : is_of_class Space 0 ≡ true = subst (λ (b : ℕ). is_of_class Space b ≡ true) zero h in
      absurd (cc)

  no_token_at_end : BeginsNoToken line (length line)
  no_token_at_end k to h = let g = (kind_longest line k).grows (length line) to h in absurd (omega arith)

  -- the space that is read is none where the byte is none
  no_space_there : (n : ℕ) → n < length line → (Stands (Byte line Space) n (n + 1) → ⊥) → is_of_class Space (get_or line n 0) ≡ true → ⊥
  no_space_there n l never h = never (get_or line n 0, (byte_longest line Space).sound n (get_or line n 0) (n + 1) (byte_found line Space n (get_or line n 0) (slice_get-get_or line n 0 l) h))

  -- behind all spaces stands no space
  no_space_after : (at : ℕ) → Stands (Byte line Space) (bytes.past line Space at) (bytes.past line Space at + 1) → ⊥
  unfolding bytes.past
  no_space_after at h = none (byte_longest line Space) (bytes.past line Space at) (all_stops (byte_longest line Space) takes_one at) h.0 (bytes.past line Space at + 1) h.1

  module _ (front : List Token) (at : ℕ) (far : HasRead front at) (end : reading.next_token line at ≡ None) where
    -- spaces lead to the end: these are the tokens
    pub whole_found : bytes.past line Space at ≡ length line → AreTokens line front
    whole_found e = (at, read_sound front at far end, (let goal : ℕ → Type 0 = λ n. Stands (Spaces line) at n in subst goal e (spaces_behind at)))

    same_reading : (tokens : List Token) (stop : ℕ) → all_from spaced_token (length line) 0 ≡ (tokens, stop) → (front ≡ tokens) × (at ≡ stop)
    same_reading tokens stop e = let same = sym (read_all front at far end) ∙ e in (ap (λ p. p.0) same, ap (λ p. p.1) same)

    -- no other list is, and where one is, spaces lead to the end
    pub whole_only : (tokens : List Token) → AreTokens line tokens → (front ≡ tokens) × (bytes.past line Space at ≡ length line)
    whole_only tokens are =
        let read = same_reading tokens are.0 (read_only tokens are.0 (length line) are.1 are.2 no_space_at_end no_token_at_end) in
        (read.0, ap (bytes.past line Space) read.1 ∙ stop_is are.0 (length line) are.2 no_space_at_end)

    -- spaces lead to a byte: it is a bad one
    pub bad_found : bytes.past line Space at < length line → IsBadByte line (bytes.past line Space at)
    unfolding reading.next_token
    bad_found inside =
        record {
          tokens = front;
          end = at;
          before = read_sound front at far end;
          spaces = spaces_behind at;
          inside = inside;
          no_space = λ h. no_space_after at h;
          no_token = token_nowhere line (bytes.past line Space at) end;
        }

    pub bad_only : (stop : ℕ) → IsBadByte line stop → bytes.past line Space at ≡ stop
    bad_only stop bad =
        let read = same_reading bad.tokens bad.end (read_only bad.tokens bad.end stop bad.before bad.spaces (no_space_there stop bad.inside bad.no_space) bad.no_token) in
        ap (bytes.past line Space) read.1 ∙ stop_is bad.end stop bad.spaces (no_space_there stop bad.inside bad.no_space)

module _ (line : List ℕ) where
  spaces_grow : (at next : ℕ) → Stands (Spaces line) at next → (at ≤ next) × (at < next → next ≤ length line)
  spaces_grow at next h =
      let longest = repeated_longest (byte_longest line Space) (takes_one line) (λ n h a m k. h) in
      let g = longest.grows at h.0 next h.1 in
      (omega arith, longest.within at h.0 next h.1)

  in_order : (tokens : List Token) (at end : ℕ) → SpacedTokens line at tokens end → end ≤ length line → AreInOrder (length line) at tokens
  in_order [] at end h l = let same = h in omega arith
  in_order (t ∷ ts) at end h l =
      let parts = h.1.2 in
      let goal : Token → Type 0 = λ u. OneToken line parts.0 u h.0 in
      let token = subst goal (sym h.1.1) parts.2 in
      let spaces = spaces_grow at parts.0 (h.1.0.0, parts.1) in
      let grown = (kind_longest line t.kind).grows t.from t.to token.2.stands in
      let from = token.0 in
      let later = spaces.0 in
      (omega arith, grown.0, subst (λ (n : ℕ). AreInOrder (length line) n ts) (sym token.1) (in_order ts h.0 end h.2 l))

  pub tokens_in_order : (tokens : List Token) → AreTokens line tokens → AreInOrder (length line) 0 tokens
  tokens_in_order tokens are = in_order tokens 0 are.0 are.1 (spaces_grow are.0 (length line) are.2).0

-- so many tokens take so many bytes
few : (len at : ℕ) (tokens : List Token) → AreInOrder len at tokens → at + length tokens ≤ len
few len at [] h = omega arith
few len at (t ∷ ts) h = let rest = few len t.to ts h.2 in let low = h.0 in let step = h.1 in omega arith

pub tokens_count : (line : List ℕ) (tokens : List Token) → AreTokens line tokens → length tokens ≤ length line
tokens_count line tokens are = let n = few (length line) 0 tokens (tokens_in_order line tokens are) in omega arith
