-- Balanced stretches, one behind the other, and the forms of a grammar that stand on them.
use Rattle.std.proofs.Common.{◌≡◌, ℕ, zero, suc, ◌+◌, ◌-◌, ◌<◌, ◌≤◌, ◌⊎◌, inl, inr, Bool, true, false, List, [], ◌∷◌, Option, Some, None, IsSome, slice_get, refl, sym, ap, ◌∙◌, subst, arith}
use Rattle.bas_form.specs.Form.{Form, Terminal, ◌then◌, Optional, Repeated, ◌or◌, Built, ◌perhaps◌}
use Rattle.bas_form.specs.Reader.{◌>>=◌}
use Rattle.bas_form.proofs.ElementLaws.{element_from}
use Rattle.bas_form.proofs.ReaderLaws.{bound, some_is, value_of}
use Rattle.bas_token.specs.declared.token.TokenKind.TheVariants as kind
use Rattle.bas_expr.specs.declared.mark.Mark.{Mark}
use Rattle.bas_expr.specs.declared.mark.Mark.TheVariants as m
use Rattle.bas_expr.specs.Lexemes.{Lexeme}
use Rattle.bas_expr.specs.Marks.{mark_of, mark, at_mark, opening, closing, comma, colon, hash, caret, sign_of, term_sign_of, factor_sign_of, rel_of}
use Rattle.bas_expr.specs.Separated.{Behind, Separated}
use Rattle.bas_expr.specs.Grammar.{Parenthesized}
use Rattle.bas_expr.proofs.SeparatedLaws.{opened}
use Rattle.bas_balance.specs.Balance.{is_end, open_behind, open_after, open_past, BalancedIn, Balanced, Balances, GoesOn, ColonEnds}

-- ---- so many tokens

module _ (tokens : List Lexeme) where
  none_past : (at level : ℕ) → open_past tokens 0 at level ≡ Some level
  unfolding open_past
  none_past at level = refl

  one_past : (count at level : ℕ) (token : Lexeme) (o : Option ℕ) → slice_get tokens at ≡ Some token → open_after token level ≡ o → open_past tokens (suc count) at level ≡ (o >>= open_past tokens count (at + 1))
  unfolding open_past
  one_past count at level token o et eo = rw (et, eo) refl

  lost : (count at level : ℕ) → slice_get tokens at ≡ None → open_past tokens (suc count) at level ≡ None
  unfolding open_past
  lost count at level et = rw et refl

  -- first so many, and then the others
  on_past : (n more at level : ℕ) (o : Option Lexeme) → slice_get tokens at ≡ o →
      ((next : ℕ) → open_past tokens (n + more) (at + 1) next ≡ (open_past tokens n (at + 1) next >>= open_past tokens more (at + 1 + n))) →
      open_past tokens (suc n + more) at level ≡ (open_past tokens (suc n) at level >>= open_past tokens more (at + suc n))
  on_past n more at level None eo ih =
      let turns : suc n + more ≡ suc (n + more) = omega arith in
      rw (turns, lost (n + more) at level eo, lost n at level eo) refl
  on_past n more at level (Some token) eo ih = by_value (open_after token level) refl
    where
      by_value : (o : Option ℕ) → open_after token level ≡ o → open_past tokens (suc n + more) at level ≡ (open_past tokens (suc n) at level >>= open_past tokens more (at + suc n))
      by_value None ea =
          let turns : suc n + more ≡ suc (n + more) = omega arith in
          rw (turns, one_past (n + more) at level token None eo ea, one_past n at level token None eo ea) refl
      by_value (Some next) ea =
          let turns : suc n + more ≡ suc (n + more) = omega arith in
          let place : at + suc n ≡ at + 1 + n = omega arith in
          rw (turns, place, one_past (n + more) at level token (Some next) eo ea, one_past n at level token (Some next) eo ea) (ih next)

  past_past : (n more at level : ℕ) → open_past tokens (n + more) at level ≡ (open_past tokens n at level >>= open_past tokens more (at + n))
  past_past zero more at level =
      let same : 0 + more ≡ more = omega arith in
      let place : at + 0 ≡ at = omega arith in
      rw (same, place, none_past at level) refl
  past_past (suc n) more at level = on_past n more at level (slice_get tokens at) refl (λ next. past_past n more (at + 1) next)

  -- ---- stretches

  pub nothing_balanced : (least at : ℕ) → BalancedIn least tokens at at
  nothing_balanced least at = (0, (omega arith), λ level l. none_past at level)

  pub token_balanced : (least at : ℕ) (token : Lexeme) → slice_get tokens at ≡ Some token → ((level : ℕ) → least ≤ level → open_after token level ≡ Some level) → BalancedIn least tokens at (at + 1)
  token_balanced least at token e keeps = (1, refl, λ level l. one_past 0 at level token (Some level) e (keeps level l) ∙ none_past (at + 1) level)

  pub joined : (least at middle next : ℕ) → BalancedIn least tokens at middle → BalancedIn least tokens middle next → BalancedIn least tokens at next
  joined least at middle next a b =
      let ea = a.1 in
      let eb = b.1 in
      (a.0 + b.0, (omega arith), λ level l. past_past a.0 b.0 at level ∙ rw (a.2 level l) (ap (λ n. open_past tokens b.0 n level) (sym ea) ∙ b.2 level l))

  pub deeper : (least more at next : ℕ) → least ≤ more → BalancedIn least tokens at next → BalancedIn more tokens at next
  deeper least more at next h b = (b.0, b.1, λ level l. b.2 level (omega arith))

  at_token : {A : Type 0} (f : Mark → Option A) (at : ℕ) (a : A) → at_mark f tokens at ≡ Some a → (token : Lexeme) × (slice_get tokens at ≡ Some token) × ((x : Mark) × (mark_of token ≡ Some x) × (f x ≡ Some a))
  unfolding mark
  at_token f at a e =
      let b = bound (mark tokens at) f a e in
      let t = element_from mark_of tokens at b.0 b.1 in
      (t.0, t.1, (b.0, t.2, b.2))

sign_goes : (token : Lexeme) (x : Mark) → mark_of token ≡ Some x → is_end token ≡ false
sign_goes (kind.Word, t) x e = absurd (cc)
sign_goes (kind.Numeral, t) x e = absurd (cc)
sign_goes (kind.Quoted, t) x e = absurd (cc)
sign_goes (kind.Sign, t) x e = refl
sign_goes (kind.Remark, t) x e = absurd (cc)

after_sign : (token : Lexeme) (x : Mark) (level : ℕ) → mark_of token ≡ Some x → open_after token level ≡ open_behind (Some x) level
after_sign token x level e = rw (sign_goes token x e, e) refl

opens : (x : Mark) (u : Unit {0}) (level : ℕ) → opening x ≡ Some u → open_behind (Some x) level ≡ Some (suc level)
opens m.Opening u level e = refl
opens _ u level e = absurd (cc)

closes : (x : Mark) (u : Unit {0}) (level : ℕ) → closing x ≡ Some u → open_behind (Some x) (suc level) ≡ Some level
closes m.Closing u level e = refl
closes _ u level e = absurd (cc)

colon_inside : (x : Mark) (u : Unit {0}) (level : ℕ) → colon x ≡ Some u → open_behind (Some x) (suc level) ≡ Some (suc level)
colon_inside m.Colon u level e = refl
colon_inside _ u level e = absurd (cc)

colon_outside : (x : Mark) (u : Unit {0}) → colon x ≡ Some u → open_behind (Some x) 0 ≡ None
colon_outside m.Colon u e = refl
colon_outside _ u e = absurd (cc)

-- a mark that is no parenthesis and no `:`
abbrev pub IsPlain : Mark → Type 0
IsPlain x = (level : ℕ) → open_behind (Some x) level ≡ Some level

-- a class of marks that has no parenthesis and no `:`
abbrev pub ArePlain : {A : Type 0} → (Mark → Option A) → Type 0
ArePlain {A = A} f = (x : Mark) (a : A) → f x ≡ Some a → IsPlain x

pub comma_plain : ArePlain comma
comma_plain m.Comma a e level = refl
comma_plain _ a e level = absurd (cc)

pub hash_plain : ArePlain hash
hash_plain m.Hash a e level = refl
hash_plain _ a e level = absurd (cc)

pub caret_plain : ArePlain caret
caret_plain m.Caret a e level = refl
caret_plain _ a e level = absurd (cc)

pub sign_plain : ArePlain sign_of
sign_plain m.Plus a e level = refl
sign_plain m.Minus a e level = refl
sign_plain _ a e level = absurd (cc)

pub term_sign_plain : ArePlain term_sign_of
term_sign_plain m.Plus a e level = refl
term_sign_plain m.Minus a e level = refl
term_sign_plain m.Ampersand a e level = refl
term_sign_plain _ a e level = absurd (cc)

pub factor_sign_plain : ArePlain factor_sign_of
factor_sign_plain m.Asterisk a e level = refl
factor_sign_plain m.Slash a e level = refl
factor_sign_plain _ a e level = absurd (cc)

pub rel_plain : ArePlain rel_of
rel_plain m.Equal a e level = refl
rel_plain m.NotEqual a e level = refl
rel_plain m.Less a e level = refl
rel_plain m.Greater a e level = refl
rel_plain m.AtMost a e level = refl
rel_plain m.AtLeast a e level = refl
rel_plain _ a e level = absurd (cc)

-- ---- by the kind

-- a token that is no mark and ends no statement
pub unmarked : (token : Lexeme) → is_end token ≡ false → mark_of token ≡ None → (level : ℕ) → open_after token level ≡ Some level
unmarked token e none level = rw (e, none) refl

module _ (tokens : List Lexeme) where
  -- ---- the forms

  pub mark_balances : {A : Type 0} (least : ℕ) (f : Mark → Option A) → ArePlain f → Balances least tokens (Terminal (at_mark f tokens))
  mark_balances least f plain at a next h =
      let t = at_token tokens f at a h.0 in
      let x = t.2 in
      let b = token_balanced tokens least at t.0 t.1 (λ level l. after_sign t.0 x.0 level x.1 ∙ plain x.0 a x.2 level) in
      subst (λ (n : ℕ). BalancedIn least tokens at n) (sym h.1) b

  -- a `:` inside parentheses
  pub colon_balances : Balances 1 tokens (Terminal (at_mark colon tokens))
  colon_balances at a next h =
      let t = at_token tokens colon at a h.0 in
      let x = t.2 in
      let b = token_balanced tokens 1 at t.0 t.1 (λ level l. after_sign t.0 x.0 level x.1 ∙ by_level x.0 x.2 level l) in
      subst (λ (n : ℕ). BalancedIn 1 tokens at n) (sym h.1) b
    where
      by_level : (y : Mark) → colon y ≡ Some a → (level : ℕ) → 1 ≤ level → open_behind (Some y) level ≡ Some level
      by_level y e zero l = absurd (omega arith)
      by_level y e (suc level) l = colon_inside y a level e

  pub parenthesized_balances : {A : Type 0} (F : Form A) → Balances 1 tokens F → Balances 0 tokens (Parenthesized tokens F)
  parenthesized_balances F inside at a next h =
      let o = opened tokens F at a next h in
      let close = o.2 in
      let first = at_token tokens opening at o.0 o.3 in
      let last = at_token tokens closing close o.1 o.5 in
      let x = first.2 in
      let y = last.2 in
      let b = inside (at + 1) a close o.4 in
      let count = b.0 in
      let en = o.6 in
      let ec = b.1 in (
        suc count + 1,
        (omega arith),
        λ level l.
            past_past tokens (suc count) 1 at level ∙
            rw (one_past tokens count at level first.0 (Some (suc level)) first.1 (after_sign first.0 x.0 level x.1 ∙ opens x.0 o.0 level x.2), b.2 (suc level) (omega arith))
            (ap (λ n. open_past tokens 1 n (suc level)) (let same : at + suc count ≡ close = omega arith in same) ∙
            one_past tokens 0 close (suc level) last.0 (Some level) last.1 (after_sign last.0 y.0 (suc level) y.1 ∙ closes y.0 o.1 level y.2) ∙ none_past tokens (close + 1) level),
      )

module _ (least : ℕ) (tokens : List Lexeme) where
  pub then_balances : {A B : Type 0} (F : Form A) (G : Form B) → Balances least tokens F → Balances least tokens G → Balances least tokens (F then G)
  then_balances F G f g at p next h = joined tokens least at h.0 next (f at p.0 h.0 h.1) (g h.0 p.1 next h.2)

  pub optional_balances : {A : Type 0} (F : Form A) → Balances least tokens F → Balances least tokens (Optional F)
  optional_balances F f at None next h = subst (λ (n : ℕ). BalancedIn least tokens at n) (sym h) (nothing_balanced tokens least at)
  optional_balances F f at (Some a) next h = f at a next h

  pub repeated_balances : {A : Type 0} (F : Form A) → Balances least tokens F → Balances least tokens (Repeated F)
  repeated_balances F f at [] next h = subst (λ (n : ℕ). BalancedIn least tokens at n) (sym h) (nothing_balanced tokens least at)
  repeated_balances F f at (a ∷ more) next h = joined tokens least at h.0 next (f at a h.0 h.1) (repeated_balances F f h.0 more next h.2)

  pub or_balances : {A : Type 0} (F G : Form A) → Balances least tokens F → Balances least tokens G → Balances least tokens (F or G)
  or_balances F G f g at a next (inl h) = f at a next h
  or_balances F G f g at a next (inr h) = g at a next h

  pub built_balances : {A B : Type 0} (make : A → B) (F : Form A) → Balances least tokens F → Balances least tokens (Built make F)
  built_balances make F f at b next h = f at h.0 next h.2

  pub perhaps_balances : {A B : Type 0} (F : Form A) (G : Form B) → Balances least tokens F → Balances least tokens G → Balances least tokens (F perhaps G)
  perhaps_balances F G f g = then_balances F (Optional G) f (optional_balances G g)

  module _ {A O : Type 0} (separator : ℕ → Option O) (mark : Balances least tokens (Terminal separator)) (F : Form A) (f : Balances least tokens F) where
    pub behind_balances : Balances least tokens (Behind separator F)
    behind_balances = built_balances (λ (parts : O × A). parts.1) (Terminal separator then F) (then_balances (Terminal separator) F mark f)

    pub separated_balances : Balances least tokens (Separated separator F)
    separated_balances = then_balances F (Repeated (Behind separator F)) f (repeated_balances (Behind separator F) behind_balances)

  pub deeper_balances : {A : Type 0} (F : Form A) → Balances 0 tokens F → Balances least tokens F
  deeper_balances F f at a next h = deeper tokens 0 least at next (omega arith) (f at a next h)

-- ---- where the stretches end

module _ (tokens : List Lexeme) where
  -- each token of a balanced stretch ends no statement
  goes_token : (token : Lexeme) (at level : ℕ) → slice_get tokens at ≡ Some token → (b : Bool) → is_end token ≡ b → IsSome (open_after token level) → GoesOn tokens at
  goes_token token at level et false eb h = (token, et, eb)
  goes_token token at level et true eb h = let f = rw eb at h in absurd (cc)

  goes_by : (at level more : ℕ) (o : Option Lexeme) → slice_get tokens at ≡ o → IsSome (open_past tokens (suc more) at level) → GoesOn tokens at
  goes_by at level more None eo h = let f = rw (lost tokens more at level eo) at h in absurd (cc)
  goes_by at level more (Some token) eo h = by_value (open_after token level) refl
    where
      by_value : (o : Option ℕ) → open_after token level ≡ o → GoesOn tokens at
      by_value None ea = let f = rw (one_past tokens more at level token None eo ea) at h in absurd (cc)
      by_value (Some next) ea = goes_token token at level eo (is_end token) refl (some_is ea)

  -- a statement may go on at each place inside
  pub goes_inside : (least at next n : ℕ) → BalancedIn least tokens at next → at ≤ n → n < next → GoesOn tokens n
  goes_inside least at next n b early late = by_place (b.2 least (omega arith))
    where
      by_place : open_past tokens b.0 at least ≡ Some least → GoesOn tokens n
      by_place e =
          let count = b.1 in
          let turns : b.0 ≡ (n - at) + suc (next - n - 1) = omega arith in
          let place : at + (n - at) ≡ n = omega arith in
          let parts = sym (past_past tokens (n - at) (suc (next - n - 1)) at least) ∙ ap (λ k. open_past tokens k at least) (sym turns) ∙ e in
          let two = bound (open_past tokens (n - at) at least) _ _ parts in
          goes_by n two.0 (next - n - 1) (slice_get tokens n) refl (subst (λ (k : ℕ). IsSome (open_past tokens (suc (next - n - 1)) k two.0)) place (some_is two.2))

  -- nothing balanced goes past a `:` outside parentheses
  pub before_colon : (at colon_at next : ℕ) → Balanced tokens at colon_at → IsSome (at_mark colon tokens colon_at) → Balanced tokens at next → colon_at < next → ⊥
  before_colon at colon_at next a h b late =
      let ea = a.1 in
      let eb = b.1 in
      let v = value_of (at_mark colon tokens colon_at) h in
      let t = at_token tokens colon colon_at v.0 v.1 in
      let x = t.2 in
      let more : ℕ = b.0 - a.0 - 1 in
      let turns : b.0 ≡ a.0 + suc more = omega arith in
      let stuck : open_past tokens (suc more) colon_at 0 ≡ None = one_past tokens more colon_at 0 t.0 None t.1 (after_sign t.0 x.0 0 x.1 ∙ colon_outside x.0 v.0 x.2) in
      let whole : open_past tokens b.0 at 0 ≡ None =
      ap (λ n. open_past tokens n at 0) turns ∙ past_past tokens a.0 (suc more) at 0 ∙ rw (a.2 0 (omega arith)) (ap (λ n. open_past tokens (suc more) n 0) (sym ea) ∙ stuck) in
      let some = b.2 0 (omega arith) in
      absurd (cc)

  -- a statement may go on at a mark
  pub goes_mark : {A : Type 0} (f : Mark → Option A) (at : ℕ) → IsSome (at_mark f tokens at) → GoesOn tokens at
  goes_mark f at h =
      let v = value_of (at_mark f tokens at) h in
      let t = at_token tokens f at v.0 v.1 in
      (t.0, t.1, sign_goes t.0 t.2.0 t.2.1)

  order : (n k : ℕ) → (n < k) ⊎ ((n ≡ k) ⊎ (k < n))
  order n k = grind arith

  ends_by : (at colon_at next : ℕ) → Balanced tokens at colon_at → IsSome (at_mark colon tokens colon_at) → Balanced tokens at next → (next < colon_at) ⊎ ((next ≡ colon_at) ⊎ (colon_at < next)) →
      (next ≤ colon_at) × GoesOn tokens next
  ends_by at colon_at next a h b (inl l) = let e = b.1 in (omega arith, goes_inside 0 at colon_at next a (omega arith) l)
  ends_by at colon_at next a h b (inr (inl e)) = (omega arith, subst (GoesOn tokens) (sym e) (goes_mark colon colon_at h))
  ends_by at colon_at next a h b (inr (inr l)) = absurd (before_colon at colon_at next a h b l)

pub colon_ends : ColonEnds
colon_ends tokens at colon_at next a h b = ends_by tokens at colon_at next a h b (order tokens next colon_at)
