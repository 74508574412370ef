-- How the declaration that a token begins is read, in one pass from the left.
use Rattle.std.specs.Prelude.{ℕ, ℤ, List, Option, None}
use Rattle.bas_form.specs.Reader.{Reader, terminal, ◌followed_by◌, optional, either, dispatched, built, ◌maybe◌}
use Rattle.bas_ast.specs.declared.declaration.TypeSpec.{TypeSpec}
use Rattle.bas_ast.specs.declared.declaration.Bound.{Bound}
use Rattle.bas_ast.specs.declared.declaration.DeclaredItem.{DeclaredItem}
use Rattle.bas_ast.specs.declared.declaration.Items.{Items}
use Rattle.bas_ast.specs.declared.declaration.DeclaredKind.{DeclaredKind}
use Rattle.bas_ast.specs.declared.declaration.ProcedureKind.{ProcedureKind}
use Rattle.bas_ast.specs.declared.declaration.Decl.{Decl}
use Rattle.bas_ast.specs.declared.declaration.Decl.TheVariants as decl
use Rattle.bas_expr.specs.Lexemes.{Lexeme}
use Rattle.bas_expr.specs.Marks.{at_mark, comma}
use Rattle.bas_expr.specs.Separated.{behind}
use Rattle.bas_expr.specs.Reading.{parenthesized}
use Rattle.bas_declaration.specs.declared.keyword.Keyword.{Keyword}
use Rattle.bas_declaration.specs.declared.keyword.Keyword.TheVariants as k
use Rattle.bas_declaration.specs.Keywords.{keyword, at_word, to_word, base_word, arithmetic_word, decimal_word, fixed_word, public_word, external_word, procedure_word, kind_word}
use Rattle.bas_declaration.specs.Digits.{digits, size, base}
use Rattle.bas_declaration.specs.Reading.{listed, name, word}
use Rattle.bas_declaration.specs.Declarations.{minus, asterisk, signed_of, bound_of, declared_of, items_of}

module _ (tokens : List Lexeme) where
  unfoldable pub one_type : Reader TypeSpec
  one_type = behind (asterisk tokens) (terminal (size tokens))

  unfoldable pub signed : Reader ℤ
  signed = built signed_of (optional (terminal (minus tokens)) followed_by terminal (digits tokens))

  unfoldable pub to_signed : Reader ℤ
  to_signed = behind (at_word to_word tokens) signed

  unfoldable pub one_bound : Reader Bound
  one_bound = built bound_of (signed maybe to_signed)

  abbrev pub next_bound : Reader Bound
  next_bound = behind (at_mark comma tokens) one_bound

  unfoldable pub bound_list : Reader (List Bound)
  bound_list = listed tokens one_bound

  unfoldable pub bounds : Reader (List Bound)
  bounds = parenthesized tokens bound_list

  unfoldable pub dimensioned : Reader (List ℕ × Option (List Bound))
  dimensioned = name tokens maybe bounds

  unfoldable pub one_declared : Reader DeclaredItem
  one_declared = built declared_of (dimensioned maybe one_type)

  abbrev pub next_declared : Reader DeclaredItem
  next_declared = behind (at_mark comma tokens) one_declared

  unfoldable pub declared_list : Reader (List DeclaredItem)
  declared_list = listed tokens one_declared

  unfoldable pub items : Reader Items
  items = built items_of declared_list

  unfoldable pub kinded : Reader (DeclaredKind × Items)
  kinded = terminal (at_word kind_word tokens) followed_by items

  abbrev pub next_name : Reader (List ℕ)
  next_name = behind (at_mark comma tokens) (name tokens)

  unfoldable pub names : Reader (List (List ℕ))
  names = listed tokens (name tokens)

  unfoldable pub base_part : Reader Decl
  base_part = behind (at_word base_word tokens) (terminal (base tokens))

  unfoldable pub fixed : Reader TypeSpec
  fixed = behind (at_word fixed_word tokens) one_type

  unfoldable pub arithmetic : Reader Decl
  arithmetic = either (built (λ (word : Unit {0}). decl.OptionArithmeticDecimal) (word tokens decimal_word)) (built decl.OptionArithmeticFixed fixed)

  unfoldable pub arithmetic_part : Reader Decl
  arithmetic_part = behind (at_word arithmetic_word tokens) arithmetic

  unfoldable pub option_part : Reader Decl
  option_part = either base_part arithmetic_part

  unfoldable pub option_line : Reader Decl
  option_line = behind (keyword tokens) option_part

  unfoldable pub dim_line : Reader Decl
  dim_line = built decl.Dim (behind (keyword tokens) items)

  unfoldable pub kinded_line : (DeclaredKind → Items → Decl) → Reader Decl
  kinded_line make = built (λ (p : DeclaredKind × Items). make p.0 p.1) (behind (keyword tokens) kinded)

  unfoldable pub public_part : Reader (DeclaredKind × Items)
  public_part = behind (at_word public_word tokens) kinded

  unfoldable pub procedure_names : Reader (ProcedureKind × List (List ℕ))
  procedure_names = terminal (at_word procedure_word tokens) followed_by names

  unfoldable pub external_names : Reader (ProcedureKind × List (List ℕ))
  external_names = behind (at_word external_word tokens) procedure_names

  unfoldable pub public_or_external : Reader Decl
  public_or_external =
      either (built (λ (p : DeclaredKind × Items). decl.DeclarePublic p.0 p.1) public_part)
      (built (λ (p : ProcedureKind × List (List ℕ)). decl.DeclareExternal p.0 p.1) external_names)

  unfoldable pub declare_part : Reader Decl
  declare_part = either (built (λ (p : DeclaredKind × Items). decl.Declare p.0 p.1) kinded) public_or_external

  unfoldable pub declare_line : Reader Decl
  declare_line = behind (keyword tokens) declare_part

  unfoldable pub private_line : Reader Decl
  private_line = built decl.Private (behind (keyword tokens) names)

  abbrev pub decl_by : Keyword → Reader Decl
  decl_by k.Option = option_line
  decl_by k.Dim = dim_line
  decl_by k.Declare = declare_line
  decl_by k.Public = kinded_line decl.Public
  decl_by k.Share = kinded_line decl.Share
  decl_by k.Private = private_line
  decl_by _ = λ at. None

  unfoldable pub decl_at : Reader Decl
  decl_at = dispatched (keyword tokens) decl_by
