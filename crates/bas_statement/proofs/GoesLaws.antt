-- Where statements may go on.
use Rattle.std.proofs.Common.{◌≡◌, ℕ, ◌<◌, inl, inr, Bool, true, false, List, length, Option, Some, None, IsSome, slice_get, codes, refl, arith}
use Rattle.std.specs.Str.{str_eq_ignore_ascii_case}
use Rattle.std.proofs.lemmas.Option.{slice_get_within, slice_get_cases}
use Rattle.bas_form.specs.Element.{element_at}
use Rattle.bas_form.specs.Form.{Terminal}
use Rattle.bas_form.proofs.ElementLaws.{element_inside, element_from}
use Rattle.bas_token.specs.declared.token.TokenKind.TheVariants as kind
use Rattle.bas_expr.specs.Lexemes.{Lexeme}
use Rattle.bas_expr.specs.Reading.{GoesExpr}
use Rattle.bas_balance.specs.Balance.{is_end, Balances}
use Rattle.bas_balance.proofs.ExpressionBalance.{Passes, element_balances}
use Rattle.bas_declaration.specs.Keywords.{same_word, spelling, spells}
use Rattle.bas_declaration.specs.Digits.{of_numeral}
use Rattle.bas_declaration.proofs.WordLaws.{same_word_is}
use Rattle.bas_list.specs.Words.{ending_of, ending, line_number_of_text, line_number, Ends}
use Rattle.bas_list.specs.Reading.{GoesList, GoesPrint}
use Rattle.bas_list.proofs.EndLaws.{other_word, expr_ends, list_ends}
use Rattle.bas_list.proofs.PrintLaws.{print_ends}
use Rattle.bas_statement.specs.Verbs.{verb_of, verb}
use Rattle.bas_statement.specs.Reading.{GoesStatement}

-- ---- an end is the same for both

end_by : (t : List ℕ) (b : Bool) → str_eq_ignore_ascii_case t (codes "ELSE") ≡ b → b ≡ true → same_word (codes "ELSE") t ≡ Some tt
end_by t true eb e = rw eb refl
end_by t false eb e = absurd (cc)

end_is_ending : (x : Lexeme) → is_end x ≡ true → ending_of x ≡ Some tt
end_is_ending (kind.Word, t) e = end_by t (str_eq_ignore_ascii_case t (codes "ELSE")) refl e
end_is_ending (kind.Numeral, t) e = absurd (cc)
end_is_ending (kind.Quoted, t) e = absurd (cc)
end_is_ending (kind.Sign, t) e = absurd (cc)
end_is_ending (kind.Remark, t) e = refl

ending_is_end : (x : Lexeme) (u : Unit {0}) → ending_of x ≡ Some u → is_end x ≡ true
ending_is_end (kind.Word, t) u e = same_word_is (codes "ELSE") t u e
ending_is_end (kind.Numeral, t) u e = absurd (cc)
ending_is_end (kind.Quoted, t) u e = absurd (cc)
ending_is_end (kind.Sign, t) u e = absurd (cc)
ending_is_end (kind.Remark, t) u e = refl

-- ---- one word

spelling_passes : (word : List ℕ) → str_eq_ignore_ascii_case word (codes "ELSE") ≡ false → (x : Lexeme) (u : Unit {0}) → spelling word x ≡ Some u → Passes x
spelling_passes word differs (kind.Word, t) u e = (other_word word (codes "ELSE") t (same_word_is word t u e) differs, refl)
spelling_passes word differs (kind.Numeral, t) u e = absurd (cc)
spelling_passes word differs (kind.Quoted, t) u e = absurd (cc)
spelling_passes word differs (kind.Sign, t) u e = absurd (cc)
spelling_passes word differs (kind.Remark, t) u e = absurd (cc)

number_passes : (x : Lexeme) (n : ℕ) → of_numeral line_number_of_text x ≡ Some n → Passes x
number_passes (kind.Word, t) n e = absurd (cc)
number_passes (kind.Numeral, t) n e = (refl, refl)
number_passes (kind.Quoted, t) n e = absurd (cc)
number_passes (kind.Sign, t) n e = absurd (cc)
number_passes (kind.Remark, t) n e = absurd (cc)

pub spells_balances : (tokens : List Lexeme) (word : List ℕ) → str_eq_ignore_ascii_case word (codes "ELSE") ≡ false → Balances 0 tokens (Terminal (spells word tokens))
unfolding spells
spells_balances tokens word differs = element_balances 0 tokens (spelling word) (spelling_passes word differs)

module _ (tokens : List Lexeme) where
  pub verb_inside : (at : ℕ) (x : _) → verb tokens at ≡ Some x → at < length tokens
  unfolding verb
  verb_inside at x e = element_inside verb_of tokens at x e

  pub number_inside : (at n : ℕ) → line_number tokens at ≡ Some n → at < length tokens
  unfolding line_number
  number_inside at n e = element_inside (of_numeral line_number_of_text) tokens at n e

  pub number_goes : (at n : ℕ) → line_number tokens at ≡ Some n → GoesStatement tokens at
  unfolding line_number
  number_goes at n e = let x = element_from (of_numeral line_number_of_text) tokens at n e in (x.0, x.1, (number_passes x.0 n x.2).0)

  pub spells_goes : (word : List ℕ) → str_eq_ignore_ascii_case word (codes "ELSE") ≡ false → (at : ℕ) (u : Unit {0}) → spells word tokens at ≡ Some u → GoesStatement tokens at
  unfolding spells
  spells_goes word differs at u e = let x = element_from (spelling word) tokens at u e in (x.0, x.1, (spelling_passes word differs x.0 u x.2).0)

  module _ (n : ℕ) where
    ending_here : (x : Lexeme) → slice_get tokens n ≡ Some x → is_end x ≡ true → Ends tokens n
    unfolding ending element_at
    ending_here x ex e = inr (rw (ex, end_is_ending x e) refl)

    past_here : slice_get tokens n ≡ None → Ends tokens n
    past_here e = elim ((slice_get_cases tokens n).1) as (λ _. Ends tokens n) [
      | inl d ↦ (let some = d.2 in absurd (cc))
      | inr d ↦ inl d.0
    ]

    goes_by : (o : Option Lexeme) → slice_get tokens n ≡ o → (Ends tokens n → ⊥) → GoesStatement tokens n
    goes_by None eo goes = absurd (goes (past_here eo))
    goes_by (Some x) eo goes = by_value (is_end x) refl
      where
        by_value : (b : Bool) → is_end x ≡ b → GoesStatement tokens n
        by_value false eb = (x, eo, eb)
        by_value true eb = absurd (goes (ending_here x eo eb))

    -- what goes on where no statement may end is a place where one may go on
    pub unless_ends : (Ends tokens n → ⊥) → GoesStatement tokens n
    unless_ends goes = goes_by (slice_get tokens n) refl goes

    pub expr_goes : GoesExpr tokens n → GoesStatement tokens n
    expr_goes g = unless_ends (λ ends. expr_ends tokens n ends g)

    pub list_goes : GoesList tokens n → GoesStatement tokens n
    list_goes g = unless_ends (λ ends. list_ends tokens n ends g)

    pub print_goes : GoesPrint tokens n → GoesStatement tokens n
    print_goes g = unless_ends (λ ends. print_ends tokens n ends g)

    ends_here : (x : Lexeme) → slice_get tokens n ≡ Some x → is_end x ≡ false → (u : Unit {0}) → ending tokens n ≡ Some u → ⊥
    unfolding ending
    ends_here x ex e u eu =
        let y = element_from ending_of tokens n u eu in
        let same : x ≡ y.0 = (let s = y.1 in cc) in
        let f = ending_is_end y.0 u y.2 in
        let g = rw same at e in
        absurd (cc)

pub statement_ends : (tokens : List Lexeme) (n : ℕ) → Ends tokens n → GoesStatement tokens n → ⊥
statement_ends tokens n (inl past) g = let i = slice_get_within tokens n g.0 g.1 in absurd (omega arith)
statement_ends tokens n (inr h) g = by_value (ending tokens n) refl h
  where
    by_value : (o : Option (Unit {0})) → ending tokens n ≡ o → IsSome o → ⊥
    by_value None e z = absurd (cc)
    by_value (Some u) e z = ends_here tokens n g.0 g.1 g.2 u e
