-- The readers of declarations take the longest.
use Rattle.std.proofs.Common.{◌≡◌, ℕ, ◌+◌, ◌<◌, ◌≤◌, ◌⊎◌, inl, inr, List, length, Option, Some, None, IsSome, refl, arith}
use Rattle.bas_form.specs.Form.{Form, Terminal, ◌then◌, ◌or◌, Built, ◌perhaps◌}
use Rattle.bas_form.specs.Reader.{Reader, ◌>>=◌, terminal, ReadsLongest, Begins}
use Rattle.bas_form.proofs.ElementLaws.{element_inside}
use Rattle.bas_form.proofs.ReaderLaws.{some_is, terminal_longest, optional_longest, built_longest, either_longest, dispatched_longest, no_form_longest, weaker, begun}
use Rattle.bas_form.proofs.SequenceLaws.{then_longest, perhaps_longest}
use Rattle.bas_ast.specs.declared.expression.Sign.{Sign}
use Rattle.bas_ast.specs.declared.expression.FactorSign.{FactorSign}
use Rattle.bas_ast.specs.declared.declaration.TypeSpec.{TypeSpec}
use Rattle.bas_ast.specs.declared.declaration.Items.{Items}
use Rattle.bas_ast.specs.declared.declaration.DeclaredKind.{DeclaredKind}
use Rattle.bas_ast.specs.declared.declaration.ProcedureKind.{ProcedureKind}
use Rattle.bas_ast.specs.declared.declaration.Decl.{Decl}
use Rattle.bas_ast.specs.declared.declaration.Decl.TheVariants as decl
use Rattle.bas_expr.specs.Lexemes.{Lexeme}
use Rattle.bas_expr.specs.Marks.{at_mark, comma, opening, closing, sign_of, factor_sign_of}
use Rattle.bas_expr.specs.Separated.{Behind, behind}
use Rattle.bas_expr.specs.Grammar.{Parenthesized}
use Rattle.bas_expr.specs.Reading.{GoesExpr}
use Rattle.bas_expr.proofs.MarkLaws.{no_factor_sign, mark_inside, at_comma}
use Rattle.bas_expr.proofs.SeparatedLaws.{behind_longest, separator_first}
use Rattle.bas_declaration.specs.declared.keyword.Keyword.{Keyword}
use Rattle.bas_declaration.specs.declared.keyword.Keyword.TheVariants as k
use Rattle.bas_declaration.specs.Keywords.{keyword, at_word, to_word, base_word, arithmetic_word, decimal_word, fixed_word, public_word, external_word, procedure_word, kind_word}
use Rattle.bas_declaration.specs.Digits.{of_numeral, size_of_text, base_of_text, digits, size, base}
use Rattle.bas_declaration.specs.Parts.{Listed, Name, Word}
use Rattle.bas_declaration.specs.Declarations.{only_minus, only_asterisk, minus, asterisk, signed_of, bound_of, declared_of, items_of, IsType, IsSigned, IsBound, IsDeclared, IsItems, IsKinded, IsNames, IsBase, IsArithmetic, IsOption, IsDim, Kinded, IsExternalNames, IsDeclare, IsPrivate, DeclBy, IsDecl}
use Rattle.bas_declaration.specs.Reading.{GoesLine}
use Rattle.bas_declaration.specs.Declaring.{one_type, signed, to_signed, one_bound, next_bound, bound_list, bounds, dimensioned, one_declared, next_declared, declared_list, items, kinded, next_name, names, base_part, fixed, arithmetic, arithmetic_part, option_part, option_line, dim_line, kinded_line, public_part, procedure_names, external_names, public_or_external, declare_part, declare_line, private_line, decl_by, decl_at}
use Rattle.bas_declaration.proofs.WordLaws.{line_expr, line_mark, lead_longest, word_longest, token_stands, word_inside, some_word, word_no_mark, digits_inside, digits_first}
use Rattle.bas_declaration.proofs.PartLaws.{listed_longest, name_longest, no_comma_past, enclosed_longest}

pub two : 1 ≤ 1 + 1
two = omega arith

base_no_arithmetic : (o : Option Keyword) (u v : Unit {0}) → (o >>= base_word) ≡ Some u → (o >>= arithmetic_word) ≡ Some v → ⊥
base_no_arithmetic (Some k.Base) u v a b = absurd (cc)
base_no_arithmetic _ u v a b = absurd (cc)

decimal_no_fixed : (o : Option Keyword) (u v : Unit {0}) → (o >>= decimal_word) ≡ Some u → (o >>= fixed_word) ≡ Some v → ⊥
decimal_no_fixed (Some k.Decimal) u v a b = absurd (cc)
decimal_no_fixed _ u v a b = absurd (cc)

public_no_external : (o : Option Keyword) (u v : Unit {0}) → (o >>= public_word) ≡ Some u → (o >>= external_word) ≡ Some v → ⊥
public_no_external (Some k.Public) u v a b = absurd (cc)
public_no_external _ u v a b = absurd (cc)

kind_alone : (o : Option Keyword) (u : DeclaredKind) → (o >>= kind_word) ≡ Some u → ((o >>= public_word) ≡ None) × ((o >>= external_word) ≡ None)
kind_alone (Some k.Numeric) u e = (refl, refl)
kind_alone (Some k.String) u e = (refl, refl)
kind_alone _ u e = absurd (cc)

module _ (tokens : List Lexeme) where
  minus_by : (n : ℕ) (u : Unit {0}) (o : Option Sign) → at_mark sign_of tokens n ≡ o → (o >>= only_minus) ≡ Some u → IsSome (at_mark sign_of tokens n)
  minus_by n u None eo h = absurd (cc)
  minus_by n u (Some r) eo h = some_is eo

  minus_sign : (n : ℕ) (u : Unit {0}) → minus tokens n ≡ Some u → IsSome (at_mark sign_of tokens n)
  minus_sign n u h = minus_by n u (at_mark sign_of tokens n) refl h

  asterisk_by : (n : ℕ) (u : Unit {0}) (o : Option FactorSign) → at_mark factor_sign_of tokens n ≡ o → (o >>= only_asterisk) ≡ Some u → IsSome (at_mark factor_sign_of tokens n)
  asterisk_by n u None eo h = absurd (cc)
  asterisk_by n u (Some r) eo h = some_is eo

  asterisk_sign : (n : ℕ) (u : Unit {0}) → asterisk tokens n ≡ Some u → IsSome (at_mark factor_sign_of tokens n)
  asterisk_sign n u h = asterisk_by n u (at_mark factor_sign_of tokens n) refl h

  minus_inside : (n : ℕ) (u : Unit {0}) → minus tokens n ≡ Some u → n < length tokens
  minus_inside n u h = inside_by (at_mark sign_of tokens n) refl (minus_sign n u h)
    where
      inside_by : (o : Option Sign) → at_mark sign_of tokens n ≡ o → IsSome o → n < length tokens
      inside_by None e z = absurd (cc)
      inside_by (Some s) e z = mark_inside tokens sign_of n s e

  asterisk_inside : (n : ℕ) (u : Unit {0}) → asterisk tokens n ≡ Some u → n < length tokens
  asterisk_inside n u h = inside_by (at_mark factor_sign_of tokens n) refl (asterisk_sign n u h)
    where
      inside_by : (o : Option FactorSign) → at_mark factor_sign_of tokens n ≡ o → IsSome o → n < length tokens
      inside_by None e z = absurd (cc)
      inside_by (Some s) e z = mark_inside tokens factor_sign_of n s e

  size_inside : (at : ℕ) (x : TypeSpec) → size tokens at ≡ Some x → at < length tokens
  unfolding size
  size_inside at x e = element_inside (of_numeral size_of_text) tokens at x e

  base_inside : (at : ℕ) (x : Decl) → base tokens at ≡ Some x → at < length tokens
  unfolding base
  base_inside at x e = element_inside (of_numeral base_of_text) tokens at x e

  -- ---- types and bounds

  size_longest : ReadsLongest (length tokens) 1 (Terminal (size tokens)) (λ _. ⊥) (terminal (size tokens))
  size_longest = terminal_longest (length tokens) (size tokens) size_inside

  type_longest : ReadsLongest (length tokens) (1 + 1) (IsType tokens) (λ _. ⊥) (one_type tokens)
  unfolding one_type
  type_longest = behind_longest (asterisk tokens) asterisk_inside size_longest (λ n z. absurd z)

  type_first : (n : ℕ) (b : TypeSpec) (m : ℕ) → IsType tokens n b m → IsSome (asterisk tokens n)
  type_first n b m h = separator_first (asterisk tokens) asterisk_inside size_longest (λ n z. absurd z) n b m h

  type_sign : (n : ℕ) → IsSome (asterisk tokens n) → GoesExpr tokens n
  type_sign n h = by_value (asterisk tokens n) refl h
    where
      by_value : (o : Option (Unit {0})) → asterisk tokens n ≡ o → IsSome o → GoesExpr tokens n
      by_value None e z = absurd (cc)
      by_value (Some u) e z = inl (inr (asterisk_sign n u e))

  type_begins : (n : ℕ) → Begins (one_type tokens) n → GoesExpr tokens n
  type_begins n h = let b = begun type_longest n h in type_sign n (type_first n b.0 b.1 b.2)

  before_digits : (n : ℕ) → (⊥ ⊎ Begins (terminal (minus tokens)) n) → (v : ℕ) (m : ℕ) → Terminal (digits tokens) n v m → ⊥
  before_digits n (inl z) v m h = z
  before_digits n (inr d) v m h = by_value (minus tokens n) refl (token_stands (length tokens) (minus tokens) minus_inside n d)
    where
      by_value : (o : Option (Unit {0})) → minus tokens n ≡ o → IsSome o → ⊥
      by_value None e z = absurd (cc)
      by_value (Some u) e z = let s = minus_sign n u e in let f = rw ((digits_first tokens n v h.0).0) at s in absurd (cc)

  signed_longest : ReadsLongest (length tokens) 1 (IsSigned tokens) (λ _. ⊥) (signed tokens)
  unfolding signed
  signed_longest = weaker (built_longest signed_of (then_longest (optional_longest (terminal_longest (length tokens) (minus tokens) minus_inside) (omega arith)) (terminal_longest (length tokens) (digits tokens) (digits_inside tokens)) before_digits))
      (λ _. ⊥) 1 (λ n z. z) (omega arith)

  to_longest : ReadsLongest (length tokens) (1 + 1) (Behind (at_word to_word tokens) (IsSigned tokens)) (λ _. ⊥) (to_signed tokens)
  unfolding to_signed
  to_longest = behind_longest (at_word to_word tokens) (word_inside tokens to_word) signed_longest (λ n z. absurd z)

  to_begins : (n : ℕ) → Begins (to_signed tokens) n → IsSome (keyword tokens n)
  to_begins n h = let b = begun to_longest n h in some_word tokens n to_word (separator_first (at_word to_word tokens) (word_inside tokens to_word) signed_longest (λ n z. absurd z) n b.0 b.1 b.2)

  -- where a bound may go on, at TO
  abbrev GoesBound : ℕ → Type 0
  GoesBound n = IsSome (keyword tokens n)

  bound_longest : ReadsLongest (length tokens) 1 (IsBound tokens) GoesBound (one_bound tokens)
  unfolding one_bound
  bound_longest = weaker (built_longest bound_of (perhaps_longest signed_longest to_longest (omega arith) (λ n z b m h. z)))
      GoesBound 1 (λ n g. elim g as (λ _. GoesBound n) [ inl z ↦ absurd z | inr (inl z) ↦ absurd z | inr (inr d) ↦ to_begins n d ]) (omega arith)

  no_comma : (n : ℕ) → GoesBound n → at_mark comma tokens n ≡ None
  no_comma n h = word_no_mark tokens n comma h

  pub next_bound_longest : ReadsLongest (length tokens) (1 + 1) (Behind (at_mark comma tokens) (IsBound tokens)) GoesBound (next_bound tokens)
  next_bound_longest = behind_longest (at_mark comma tokens) (mark_inside tokens comma) bound_longest no_comma

  bound_list_longest : ReadsLongest (length tokens) (1 + 0) (Listed tokens (IsBound tokens)) (λ n. GoesBound n ⊎ IsSome (at_mark comma tokens n)) (bound_list tokens)
  unfolding bound_list
  bound_list_longest = listed_longest tokens bound_longest no_comma

  not_closed : (n : ℕ) → (GoesBound n ⊎ IsSome (at_mark comma tokens n)) → (u : Unit {0}) → at_mark closing tokens n ≡ Some u → ⊥
  not_closed n (inl g) u h = let f = word_no_mark tokens n closing g in absurd (cc)
  not_closed n (inr g) u h = let f = (at_comma tokens n g).1 in absurd (cc)

  bounds_longest : ReadsLongest (length tokens) (1 + (1 + 0 + 1)) (Parenthesized tokens (Listed tokens (IsBound tokens))) (λ _. ⊥) (bounds tokens)
  unfolding bounds
  bounds_longest = enclosed_longest tokens bound_list_longest not_closed

  bounds_open : (n : ℕ) → Begins (bounds tokens) n → IsSome (at_mark opening tokens n)
  bounds_open n h = let b = begun bounds_longest n h in let body = b.2.2 in some_is body.1.0

  -- ---- what is declared

  abbrev GoesDimensioned : ℕ → Type 0
  GoesDimensioned n = IsSome (at_mark opening tokens n)

  dimensioned_longest : ReadsLongest (length tokens) 1 (Name tokens perhaps Parenthesized tokens (Listed tokens (IsBound tokens))) GoesDimensioned (dimensioned tokens)
  unfolding dimensioned
  dimensioned_longest = weaker (perhaps_longest (name_longest tokens) bounds_longest (omega arith) (λ n z b m h. z))
      GoesDimensioned 1 (λ n g. elim g as (λ _. GoesDimensioned n) [ inl z ↦ absurd z | inr (inl z) ↦ absurd z | inr (inr d) ↦ bounds_open n d ]) (omega arith)

  before_type : (n : ℕ) → GoesDimensioned n → (b : TypeSpec) (m : ℕ) → IsType tokens n b m → ⊥
  before_type n g b m h = by_value (asterisk tokens n) refl (type_first n b m h)
    where
      by_value : (o : Option (Unit {0})) → asterisk tokens n ≡ o → IsSome o → ⊥
      by_value None e z = absurd (cc)
      by_value (Some u) e z = let s = asterisk_sign n u e in let f = rw (no_factor_sign tokens n (inl g)) at s in absurd (cc)

  declared_longest : ReadsLongest (length tokens) 1 (IsDeclared tokens) (GoesExpr tokens) (one_declared tokens)
  unfolding one_declared
  declared_longest = weaker (built_longest declared_of (perhaps_longest dimensioned_longest type_longest (omega arith) before_type))
      (GoesExpr tokens) 1 (λ n g. elim g as (λ _. GoesExpr tokens n) [ inl d ↦ inl (inl (inl d)) | inr (inl z) ↦ absurd z | inr (inr d) ↦ type_begins n d ]) (omega arith)

  pub next_declared_longest : ReadsLongest (length tokens) (1 + 1) (Behind (at_mark comma tokens) (IsDeclared tokens)) (GoesExpr tokens) (next_declared tokens)
  next_declared_longest = behind_longest (at_mark comma tokens) (mark_inside tokens comma) declared_longest (no_comma_past tokens)

  line_list : (n : ℕ) → (GoesExpr tokens n ⊎ IsSome (at_mark comma tokens n)) → GoesLine tokens n
  line_list n (inl g) = line_expr tokens n g
  line_list n (inr h) = line_mark tokens n comma h

  declared_list_longest : ReadsLongest (length tokens) (1 + 0) (Listed tokens (IsDeclared tokens)) (λ n. GoesExpr tokens n ⊎ IsSome (at_mark comma tokens n)) (declared_list tokens)
  unfolding declared_list
  declared_list_longest = listed_longest tokens declared_longest (no_comma_past tokens)

  items_longest : ReadsLongest (length tokens) 1 (IsItems tokens) (GoesLine tokens) (items tokens)
  unfolding items
  items_longest = weaker (built_longest items_of declared_list_longest) (GoesLine tokens) 1 line_list (omega arith)

  kinded_longest : ReadsLongest (length tokens) 1 (IsKinded tokens) (GoesLine tokens) (kinded tokens)
  unfolding kinded
  kinded_longest = weaker (then_longest (word_longest tokens kind_word) items_longest (λ n z b m h. z)) (GoesLine tokens) 1 (λ n g. g) (omega arith)

  pub next_name_longest : ReadsLongest (length tokens) (1 + 1) (Behind (at_mark comma tokens) (Name tokens)) (λ _. ⊥) (next_name tokens)
  next_name_longest = behind_longest (at_mark comma tokens) (mark_inside tokens comma) (name_longest tokens) (λ n z. absurd z)

  names_longest : ReadsLongest (length tokens) 1 (IsNames tokens) (GoesLine tokens) (names tokens)
  unfolding names
  names_longest = weaker (listed_longest tokens (name_longest tokens) (λ n z. absurd z)) (GoesLine tokens) 1 (λ n g. elim g as (λ _. GoesLine tokens n) [ inl z ↦ absurd z | inr h ↦ line_mark tokens n comma h ]) (omega arith)

  -- ---- a word and a form behind it

  module _ {A : Type 0} {F : Form A} {f : Reader A} (test : Keyword → Option (Unit {0})) (is : ReadsLongest (length tokens) 1 F (GoesLine tokens) f) where
    word_then : ReadsLongest (length tokens) 1 (Behind (at_word test tokens) F) (GoesLine tokens) (behind (at_word test tokens) f)
    word_then = weaker (built_longest (λ (parts : Unit {0} × A). parts.1) (then_longest (word_longest tokens test) is (λ n z b m h. z))) (GoesLine tokens) 1 (λ n g. g) (omega arith)

  module _ {A : Type 0} {F : Form A} {f : Reader A} (is : ReadsLongest (length tokens) 1 F (GoesLine tokens) f) where
    lead_then : ReadsLongest (length tokens) 1 (Behind (keyword tokens) F) (GoesLine tokens) (behind (keyword tokens) f)
    lead_then = weaker (built_longest (λ (parts : Keyword × A). parts.1) (then_longest (lead_longest tokens) is (λ n z b m h. z))) (GoesLine tokens) 1 (λ n g. g) (omega arith)

  word_first : {A : Type 0} (F : Form A) (test : Keyword → Option (Unit {0})) (n : ℕ) (b : A) (m : ℕ) → Behind (at_word test tokens) F n b m → (u : Unit {0}) × (at_word test tokens n ≡ Some u)
  word_first F test n b m h = let body = h.2 in (h.0.0, body.1.0)

  -- ---- OPTION

  base_longest : ReadsLongest (length tokens) 1 (IsBase tokens) (GoesLine tokens) (base_part tokens)
  unfolding base_part
  base_longest = word_then base_word (weaker (terminal_longest (length tokens) (base tokens) base_inside) (GoesLine tokens) 1 (λ n z. absurd z) (omega arith))

  line_type : ReadsLongest (length tokens) 1 (IsType tokens) (GoesLine tokens) (one_type tokens)
  line_type = weaker type_longest (GoesLine tokens) 1 (λ n z. absurd z) (omega arith)

  fixed_longest : ReadsLongest (length tokens) 1 (Behind (at_word fixed_word tokens) (IsType tokens)) (GoesLine tokens) (fixed tokens)
  unfolding fixed
  fixed_longest = word_then fixed_word line_type

  fixed_apart : (n : ℕ) (a : Decl) (i : ℕ) → Built (λ (word : Unit {0}). decl.OptionArithmeticDecimal) (Word tokens decimal_word) n a i → (b : Decl) (j : ℕ) → Built decl.OptionArithmeticFixed (Behind (at_word fixed_word tokens) (IsType tokens)) n b j → ⊥
  fixed_apart n a i h b j q = let f = word_first (IsType tokens) fixed_word n q.0 j q.2 in decimal_no_fixed (keyword tokens n) h.0 f.0 h.2.0 f.1

  one_goes : (n : ℕ) → (GoesLine tokens n ⊎ GoesLine tokens n) → GoesLine tokens n
  one_goes n (inl g) = g
  one_goes n (inr g) = g

  arithmetic_longest : ReadsLongest (length tokens) 1 (IsArithmetic tokens) (GoesLine tokens) (arithmetic tokens)
  unfolding arithmetic
  arithmetic_longest = weaker (either_longest (weaker (built_longest (λ (word : Unit {0}). decl.OptionArithmeticDecimal) (word_longest tokens decimal_word)) (GoesLine tokens) 1 (λ n z. absurd z) (omega arith))
      (built_longest decl.OptionArithmeticFixed fixed_longest) fixed_apart) (GoesLine tokens) 1 one_goes (omega arith)

  arithmetic_part_longest : ReadsLongest (length tokens) 1 (Behind (at_word arithmetic_word tokens) (IsArithmetic tokens)) (GoesLine tokens) (arithmetic_part tokens)
  unfolding arithmetic_part
  arithmetic_part_longest = word_then arithmetic_word arithmetic_longest

  option_apart : (n : ℕ) (a : Decl) (i : ℕ) → IsBase tokens n a i → (b : Decl) (j : ℕ) → Behind (at_word arithmetic_word tokens) (IsArithmetic tokens) n b j → ⊥
  option_apart n a i h b j q =
      let e = word_first (Terminal (base tokens)) base_word n a i h in
      let f = word_first (IsArithmetic tokens) arithmetic_word n b j q in
      base_no_arithmetic (keyword tokens n) e.0 f.0 e.1 f.1

  option_part_longest : ReadsLongest (length tokens) 1 (IsBase tokens or Behind (at_word arithmetic_word tokens) (IsArithmetic tokens)) (GoesLine tokens) (option_part tokens)
  unfolding option_part
  option_part_longest = weaker (either_longest base_longest arithmetic_part_longest option_apart) (GoesLine tokens) 1 one_goes (omega arith)

  option_longest : ReadsLongest (length tokens) 1 (IsOption tokens) (GoesLine tokens) (option_line tokens)
  unfolding option_line
  option_longest = lead_then option_part_longest

  -- ---- DIM, PUBLIC, SHARE, PRIVATE and DECLARE

  dim_longest : ReadsLongest (length tokens) 1 (IsDim tokens) (GoesLine tokens) (dim_line tokens)
  unfolding dim_line
  dim_longest = built_longest decl.Dim (lead_then items_longest)

  kinded_line_longest : (make : DeclaredKind → Items → Decl) → ReadsLongest (length tokens) 1 (Kinded tokens make) (GoesLine tokens) (kinded_line tokens make)
  unfolding kinded_line
  kinded_line_longest make = built_longest (λ (p : DeclaredKind × Items). make p.0 p.1) (lead_then kinded_longest)

  private_longest : ReadsLongest (length tokens) 1 (IsPrivate tokens) (GoesLine tokens) (private_line tokens)
  unfolding private_line
  private_longest = built_longest decl.Private (lead_then names_longest)

  public_longest : ReadsLongest (length tokens) 1 (Behind (at_word public_word tokens) (IsKinded tokens)) (GoesLine tokens) (public_part tokens)
  unfolding public_part
  public_longest = word_then public_word kinded_longest

  procedure_names_longest : ReadsLongest (length tokens) 1 (Terminal (at_word procedure_word tokens) then IsNames tokens) (GoesLine tokens) (procedure_names tokens)
  unfolding procedure_names
  procedure_names_longest = weaker (then_longest (word_longest tokens procedure_word) names_longest (λ n z b m h. z)) (GoesLine tokens) 1 (λ n g. g) (omega arith)

  external_longest : ReadsLongest (length tokens) 1 (IsExternalNames tokens) (GoesLine tokens) (external_names tokens)
  unfolding external_names
  external_longest = word_then external_word procedure_names_longest

  abbrev OfPublic : Form Decl
  OfPublic = Built (λ (p : DeclaredKind × Items). decl.DeclarePublic p.0 p.1) (Behind (at_word public_word tokens) (IsKinded tokens))

  abbrev OfExternal : Form Decl
  OfExternal = Built (λ (p : ProcedureKind × List (List ℕ)). decl.DeclareExternal p.0 p.1) (IsExternalNames tokens)

  public_apart : (n : ℕ) (a : Decl) (i : ℕ) → OfPublic n a i → (b : Decl) (j : ℕ) → OfExternal n b j → ⊥
  public_apart n a i h b j q =
      let e = word_first (IsKinded tokens) public_word n h.0 i h.2 in
      let f = word_first (Terminal (at_word procedure_word tokens) then IsNames tokens) external_word n q.0 j q.2 in
      public_no_external (keyword tokens n) e.0 f.0 e.1 f.1

  public_or_external_longest : ReadsLongest (length tokens) 1 (OfPublic or OfExternal) (GoesLine tokens) (public_or_external tokens)
  unfolding public_or_external
  public_or_external_longest = weaker (either_longest (built_longest (λ (p : DeclaredKind × Items). decl.DeclarePublic p.0 p.1) public_longest)
      (built_longest (λ (p : ProcedureKind × List (List ℕ)). decl.DeclareExternal p.0 p.1) external_longest) public_apart) (GoesLine tokens) 1 one_goes (omega arith)

  abbrev OfKind : Form Decl
  OfKind = Built (λ (p : DeclaredKind × Items). decl.Declare p.0 p.1) (IsKinded tokens)

  kind_apart : (n : ℕ) (a : Decl) (i : ℕ) → OfKind n a i → (b : Decl) (j : ℕ) → (OfPublic or OfExternal) n b j → ⊥
  kind_apart n a i h b j (inl q) =
      let body = h.2 in
      let f = word_first (IsKinded tokens) public_word n q.0 j q.2 in
      let absent = (kind_alone (keyword tokens n) h.0.0 body.1.0).0 in
      let some = f.1 in
      absurd (cc)
  kind_apart n a i h b j (inr q) =
      let body = h.2 in
      let f = word_first (Terminal (at_word procedure_word tokens) then IsNames tokens) external_word n q.0 j q.2 in
      let absent = (kind_alone (keyword tokens n) h.0.0 body.1.0).1 in
      let some = f.1 in
      absurd (cc)

  declare_part_longest : ReadsLongest (length tokens) 1 (OfKind or OfPublic or OfExternal) (GoesLine tokens) (declare_part tokens)
  unfolding declare_part
  declare_part_longest = weaker (either_longest (built_longest (λ (p : DeclaredKind × Items). decl.Declare p.0 p.1) kinded_longest) public_or_external_longest kind_apart) (GoesLine tokens) 1 one_goes (omega arith)

  declare_longest : ReadsLongest (length tokens) 1 (IsDeclare tokens) (GoesLine tokens) (declare_line tokens)
  unfolding declare_line
  declare_longest = lead_then declare_part_longest

  -- ---- all alternatives

  by_word : (w : Keyword) → ReadsLongest (length tokens) 1 (DeclBy tokens w) (GoesLine tokens) (decl_by tokens w)
  by_word k.Option = option_longest
  by_word k.Dim = dim_longest
  by_word k.Declare = declare_longest
  by_word k.Public = kinded_line_longest decl.Public
  by_word k.Share = kinded_line_longest decl.Share
  by_word k.Private = private_longest
  by_word _ = no_form_longest (length tokens) 1 (GoesLine tokens)

  pub decl_longest : ReadsLongest (length tokens) 1 (IsDecl tokens) (GoesLine tokens) (decl_at tokens)
  unfolding decl_at
  decl_longest = weaker (dispatched_longest (keyword tokens) by_word) (GoesLine tokens) 1 (λ n g. g.1) (omega arith)
