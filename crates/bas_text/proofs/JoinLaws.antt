-- Strings joined, and repeated.
use Rattle.std.proofs.Common.{◌≡◌, ℕ, zero, suc, ◌+◌, ◌*◌, ◌/◌, ◌<◌, ◌≤◌, List, [], ◌++◌, length, sym, ap, subst, ◌∙◌, arith, length-append, append_assoc, zero-mul, suc-mul, add-one}
use Rattle.std.proofs.Math.Nat.{div-lt_iff_lt-mul, le-div_iff_mul-le}
use Rattle.std.proofs.lemmas.List.{append-nil, nil_from_length}
use Rattle.bas_text.specs.Strings.{repeat}

pub joined_empty : (a b : List ℕ) → a ++ b ≡ [] → length a + length b ≡ 0
joined_empty a b e = sym (length-append a b) ∙ ap length e

pub length-repeat : (n : ℕ) (text : List ℕ) → length (repeat n text) ≡ n * length text
length-repeat zero text = sym (zero-mul (length text))
length-repeat (suc n) text = length-append text (repeat n text) ∙ ap (λ k. length text + k) (length-repeat n text) ∙ (let step : length text + n * length text ≡ suc n * length text = omega (arith, suc-mul n (length text)) in step)

pub repeat_more : (n : ℕ) (text : List ℕ) → repeat n text ++ text ≡ repeat (n + 1) text
repeat_more n text = on n ∙ ap (λ k. repeat k text) (sym (add-one n))
  where
    on : (n : ℕ) → repeat n text ++ text ≡ repeat (suc n) text
    on zero = sym (append-nil text)
    on (suc n) = append_assoc text (repeat n text) text ∙ ap (λ more. text ++ more) (on n)

pub repeat_empty : (n : ℕ) (text : List ℕ) → length text ≡ 0 → repeat n text ≡ []
repeat_empty n text e = nil_from_length _ (length-repeat n text ∙ (let none : n * length text ≡ 0 = rw e (omega arith) in none))

module _ (n most : ℕ) (text : List ℕ) (some : 0 < length text) where
  pub repeat_past : most / length text < n → most < length (repeat n text)
  repeat_past more = subst (λ k. most < k) (sym (length-repeat n text)) ((div-lt_iff_lt-mul some).0 more)

  pub repeat_within : n ≤ most / length text → length (repeat n text) ≤ most
  repeat_within few = subst (λ k. k ≤ most) (sym (length-repeat n text)) ((le-div_iff_mul-le some).0 few)
