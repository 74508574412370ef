-- A line has the item that is read, and no other.
use Rattle.std.proofs.Common.{◌≡◌, ℕ, inl, inr, List, length, drop, Option, Some, None, refl, sym, ap}
use Rattle.bas_form.specs.Form.{Form}
use Rattle.bas_form.specs.Reader.{Reader, ReadsLongest}
use Rattle.bas_form.proofs.ReaderLaws.{same_some, bound}
use Rattle.bas_ast.specs.declared.statement.Plain.{Plain}
use Rattle.bas_ast.specs.declared.block.LineItem.{LineItem}
use Rattle.bas_expr.specs.Lexemes.{Lexeme, lexemes}
use Rattle.bas_data.specs.Data.{BeginsWithData}
use Rattle.bas_data.specs.Reading.{data_word, data_of}
use Rattle.bas_data.proofs.WordLaws.{word_law}
use Rattle.bas_data.proofs.DataLaws.{data_law}
use Rattle.bas_line.specs.Cut.{tokens_of}
use Rattle.bas_line.specs.Items.{IsItemFor}
use Rattle.bas_line.specs.Itemizing.{item_behind, item_for}
use Rattle.bas_line.proofs.SimpleLaws.{GoesPlain, BeginsPlain}
use Rattle.bas_line.proofs.TokenCut.{tokens_sound, tokens_whole}
use Rattle.bas_line.proofs.ItemLaws.{item_sound, item_whole}

module _ (P : List Lexeme → Form Plain) (p : List Lexeme → Reader Plain) (is : (tokens : List Lexeme) → ReadsLongest (length tokens) 1 (P tokens) (GoesPlain tokens) (p tokens))
    (begins : (tokens : List Lexeme) (n : ℕ) (a : Plain) (m : ℕ) → P tokens n a m → BeginsPlain tokens n) (line : List ℕ) where
  no_word : data_word line ≡ None → (behind : ℕ) → BeginsWithData line behind → ⊥
  no_word e behind h = let some = word_law.whole line behind h in absurd (cc)

  sound_by : (o : Option ℕ) (x : LineItem) → data_word line ≡ o → item_behind line p o ≡ Some x → IsItemFor line P x
  sound_by (Some behind) x eo e =
      let b = bound (data_of (drop behind line)) _ _ e in
      inl (behind, word_law.sound line behind eo, b.0, data_law.sound (drop behind line) b.0 b.1, sym (same_some b.2))
  sound_by None x eo e =
      let b = bound (tokens_of line) _ _ e in
      let tokens = lexemes line b.0 in
      inr (no_word eo, b.0, tokens_sound line b.0 b.1, item_sound tokens (P tokens) (p tokens) (is tokens) (begins tokens) x b.2)

  pub line_sound : (x : LineItem) → item_for line p ≡ Some x → IsItemFor line P x
  unfolding item_for
  line_sound x e = sound_by (data_word line) x refl e

  none_by : (o : Option ℕ) → data_word line ≡ o → ((behind : ℕ) → BeginsWithData line behind → ⊥) → data_word line ≡ None
  none_by None e never = e
  none_by (Some behind) e never = absurd (never behind (word_law.sound line behind e))

  pub line_whole : (x : LineItem) → IsItemFor line P x → item_for line p ≡ Some x
  unfolding item_for
  line_whole x (inl h) =
      let word = word_law.whole line h.0 h.1 in
      let read = data_law.whole (drop h.0 line) h.2 h.3 in
      rw (word, read) (ap (λ y. Some y) (sym h.4))
  line_whole x (inr h) =
      let tokens = lexemes line h.1 in
      rw (none_by (data_word line) refl h.0, tokens_whole line h.1 h.2) (item_whole tokens (P tokens) (p tokens) (is tokens) (begins tokens) x h.3)
