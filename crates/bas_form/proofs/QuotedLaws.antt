-- The readers of text in quotes take the longest.
use Rattle.std.proofs.Common.{◌≡◌, ℕ, ◌⊎◌, inl, inr, true, List, length, sym, ◌∙◌, arith}
use Rattle.std.proofs.lemmas.Bool.Decides.{nat_tests}
use Rattle.bas_form.specs.Reader.{◌followed_by◌, repeated, end_of, ReadsLongest, Begins}
use Rattle.bas_form.specs.declared.byte_class.ByteClass.TheVariants.{Quote, InQuotes}
use Rattle.bas_form.specs.Bytes.{is_of_class, Byte, byte, byte_end, past}
use Rattle.bas_form.specs.Quoted.{Piece, Quoted, piece, quoted, piece_end}
use Rattle.bas_form.proofs.ReaderLaws.{weaker}
use Rattle.bas_form.proofs.SequenceLaws.{then_longest}
use Rattle.bas_form.proofs.RepetitionLaws.{repeated_longest, repeating_longest}
use Rattle.bas_form.proofs.EndLaws.{end_both, end_all_then, same_steps}
use Rattle.bas_form.proofs.ByteLaws.{byte_longest, never_both}

module _ (text : List ℕ) where
  quotes_or_quote : (b : ℕ) → is_of_class InQuotes b ≡ true → is_of_class Quote b ≡ true → ⊥
  quotes_or_quote b h k = grind (arith, nat_tests)

  pub piece_longest : ReadsLongest (length text) 1 (Piece text) (λ _. ⊥) (piece text)
  piece_longest = weaker
      (then_longest (byte_longest text Quote)
      (then_longest (repeated_longest (byte_longest text InQuotes) (omega arith) (λ n h a m k. h)) (byte_longest text Quote) no_quote)
      (λ n h b m k. h)) _ 1 (λ n h. h) (omega arith)
    where
      no_quote : (n : ℕ) → ⊥ ⊎ Begins (byte text InQuotes) n → (a m : ℕ) → Byte text Quote n a m → ⊥
      no_quote n (inl h) a m k = h
      no_quote n (inr h) a m k = never_both text InQuotes Quote quotes_or_quote n h a m k

  pub quoted_longest : ReadsLongest (length text) 1 (Quoted text) (λ n. ⊥ ⊎ (⊥ ⊎ Begins (piece text) n)) (quoted text)
  quoted_longest = repeating_longest piece_longest piece_longest (omega arith) (λ n h b m k. h) (λ n h b m k. h)

module _ (text : List ℕ) (at : ℕ) where
  pub piece_ends : piece_end text at ≡ end_of (piece text at)
  unfolding piece_end byte_end past
  piece_ends =
      same_steps (end_of (byte text Quote at)) _ _ (λ quote. sym (end_all_then (byte text InQuotes) (byte text Quote) (length text) quote))
      ∙ sym (end_both (byte text Quote) (repeated (byte text InQuotes) (length text) followed_by byte text Quote) at)
