-- Digits: which bytes they are, and the number that they write.
use Rattle.std.proofs.Common.{◌≡◌, ℕ, ◌+◌, ◌-◌, ◌*◌, ◌^◌, ◌<◌, ◌≤◌, arith, refl, true, List, length, take, get_or, get_or-take, length-take}
use Rattle.std.proofs.lemmas.Bool.Decides.{nat_tests}
use Rattle.std.proofs.lemmas.List.Sums.{prefix_len_passes, fold_more}
use Rattle.std.proofs.lemmas.Grind.{pow_more}
use Rattle.std.specs.Char.{is_ascii_digit}
use Rattle.std.specs.List.{prefix_len}
use Rattle.bas_dec.specs.NumeralForm.{AreDigits}
use Rattle.bas_dec.specs.Numeral.{written_behind, is_digits}

pub digit_range : (c : ℕ) → is_ascii_digit c ≡ true → (48 ≤ c) × (c ≤ 57)
digit_range c h = grind (arith, nat_tests)

pub digit_at : (text : List ℕ) (i : ℕ) → AreDigits text → i < length text → (get_or text i 0 ≡ get_or text i 0) × (48 ≤ get_or text i 0) × (get_or text i 0 ≤ 57)
digit_at text i h l = let r : (48 ≤ get_or text i 0) × (get_or text i 0 ≤ 57) = digit_range (get_or text i 0) (h i 0 l) in (refl, r.0, r.1)

pub leading_digits : (text : List ℕ) (n : ℕ) → n ≡ prefix_len is_ascii_digit text → AreDigits (take n text)
leading_digits text n e = λ k d l.
    let low : k < n = omega (arith, length-take n text) in
    rw get_or-take (prefix_len_passes is_ascii_digit text k d (omega (arith, e)))

pub all_digits : (text : List ℕ) → is_digits text ≡ true → AreDigits text
all_digits text h = λ k d l.
    let all : prefix_len is_ascii_digit text ≡ length text = grind (arith, nat_tests) in
    prefix_len_passes is_ascii_digit text k d (omega arith)

-- the number after one more digit
pub written_more : (n : ℕ) (text : List ℕ) (i m b : ℕ) → i < length text → b ≡ get_or text i 0 → m ≡ written_behind n (take i text) → m * 10 + (b - 48) ≡ written_behind n (take (i + 1) text)
written_more n text i m b l e h = rw (fold_more (λ m digit. m * 10 + (digit - 48)) n text i 0 l, ← h, ← e) refl

pub size_more : (m b k : ℕ) → m < 10 ^ k → b < 10 → m * 10 + b < 10 ^ (k + 1)
size_more m b k h g = rw pow_more (omega arith)
