-- The answer to a text, by the form of the text alone.
use Rattle.std.proofs.Common.{◌≡◌, ◌↔◌, ℕ, refl, ap, ◌∙◌, sym, Bool, true, false, List, Option, Some, None, if◌then◌else◌}
use Rattle.bas_dec.specs.Number.{Number}
use Rattle.bas_dec.specs.NumeralForm.{Parts, IsNumeral}
use Rattle.bas_dec.specs.Numeral.{is_too_long, nearest_number, numerator, places, value_or_too_large, answer_of, answer_or_none, parts_of, numeral_of, IsAnswer}
use Rattle.bas_dec.specs.declared.numeral.Numeral.{Numeral}
use Rattle.bas_dec.specs.declared.numeral.Numeral.TheVariants.{Value, TooLarge, NotNumeral}
use Rattle.bas_dec.proofs.NumeralLemmas.{reads_numeral, numeral_found}

chosen : (long : Bool) (x : Option Number) → (if long then TooLarge else value_or_too_large x) ≡ NotNumeral → ⊥
chosen true x e = cc
chosen false None e = cc
chosen false (Some x) e = cc

answered : (text : List ℕ) (p : Parts) (a : Numeral) → IsNumeral text p → answer_of p ≡ a → IsAnswer text a
answered text p (Value x) h e = (p, h, e)
answered text p TooLarge h e = (p, h, e)
answered text p NotNumeral h e = absurd (chosen (is_too_long p) (nearest_number (numerator p) (places p)) e)

read_answer : (text : List ℕ) (o : Option Parts) → parts_of text ≡ o → IsAnswer text (answer_or_none o)
read_answer text None e = λ p h. let some : Some p ≡ None = sym (reads_numeral text p h) ∙ e in cc
read_answer text (Some p) e = answered text p (answer_of p) (numeral_found text p e) refl

pub is_answer : (text : List ℕ) → IsAnswer text (numeral_of text)
unfolding numeral_of
is_answer text = read_answer text (parts_of text) refl

pub answer_is : (text : List ℕ) (p : Parts) → IsNumeral text p → numeral_of text ≡ answer_of p
unfolding numeral_of
answer_is text p h = ap answer_or_none (reads_numeral text p h)

pub one_reading : (text : List ℕ) (p q : Parts) → IsNumeral text p → IsNumeral text q → p ≡ q
one_reading text p q h g = let same : Some p ≡ Some q = sym (reads_numeral text p h) ∙ reads_numeral text q g in cc

no_numeral : (text : List ℕ) (a : Numeral) → IsAnswer text a → ((p : Parts) → IsNumeral text p → ⊥) → a ≡ NotNumeral
no_numeral text (Value x) h none = absurd (none h.0 h.1)
no_numeral text TooLarge h none = absurd (none h.0 h.1)
no_numeral text NotNumeral h none = refl

pub not_numeral : (text : List ℕ) → (numeral_of text ≡ NotNumeral) ↔ ((p : Parts) → IsNumeral text p → ⊥)
not_numeral text = (λ e p h. chosen (is_too_long p) (nearest_number (numerator p) (places p)) (sym (answer_is text p h) ∙ e), no_numeral text (numeral_of text) (is_answer text))
