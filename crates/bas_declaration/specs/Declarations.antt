-- The grammar of declarations, one form for each production. The items of DATA are no tokens, and stand apart.
use Rattle.std.specs.Prelude.{ℕ, ℤ, pos, List, [], Option, Some, None}
use Rattle.std.specs.Prelude.{neg_ℤ}
use Rattle.bas_form.specs.Reader.{◌>>=◌}
use Rattle.bas_form.specs.Form.{Form, Terminal, ◌then◌, Optional, ◌or◌, Dispatched, Built, ◌perhaps◌}
use Rattle.bas_ast.specs.declared.expression.Sign.{Sign}
use Rattle.bas_ast.specs.declared.expression.Sign.TheVariants as sign
use Rattle.bas_ast.specs.declared.expression.FactorSign.{FactorSign}
use Rattle.bas_ast.specs.declared.expression.FactorSign.TheVariants as factor
use Rattle.bas_ast.specs.declared.declaration.TypeSpec.{TypeSpec}
use Rattle.bas_ast.specs.declared.declaration.Bound.{Bound}
use Rattle.bas_ast.specs.declared.declaration.DeclaredItem.{DeclaredItem}
use Rattle.bas_ast.specs.declared.declaration.Items.{Items}
use Rattle.bas_ast.specs.declared.declaration.DeclaredKind.{DeclaredKind}
use Rattle.bas_ast.specs.declared.declaration.ProcedureKind.{ProcedureKind}
use Rattle.bas_ast.specs.declared.declaration.Decl.{Decl}
use Rattle.bas_ast.specs.declared.declaration.Decl.TheVariants as decl
use Rattle.bas_expr.specs.Lexemes.{Lexeme}
use Rattle.bas_expr.specs.Marks.{at_mark, sign_of, factor_sign_of}
use Rattle.bas_expr.specs.Separated.{Behind}
use Rattle.bas_expr.specs.Grammar.{Parenthesized}
use Rattle.bas_declaration.specs.declared.keyword.Keyword.{Keyword}
use Rattle.bas_declaration.specs.declared.keyword.Keyword.TheVariants as k
use Rattle.bas_declaration.specs.Keywords.{keyword, at_word, to_word, base_word, arithmetic_word, decimal_word, fixed_word, public_word, external_word, procedure_word, kind_word}
use Rattle.bas_declaration.specs.Digits.{digits, size, base}
use Rattle.bas_declaration.specs.Parts.{Listed, Word, Name}

abbrev pub only_minus : Sign → Option (Unit {0})
only_minus sign.Minus = Some tt
only_minus sign.Plus = None

abbrev pub only_asterisk : FactorSign → Option (Unit {0})
only_asterisk factor.Multiply = Some tt
only_asterisk factor.Divide = None

-- "-"
abbrev pub minus : List Lexeme → ℕ → Option (Unit {0})
minus tokens at = at_mark sign_of tokens at >>= only_minus

-- "*"
abbrev pub asterisk : List Lexeme → ℕ → Option (Unit {0})
asterisk tokens at = at_mark factor_sign_of tokens at >>= only_asterisk

-- ---- the trees that parts make

abbrev pub signed_of : Option (Unit {0}) × ℕ → ℤ
signed_of (None, n) = pos n
signed_of (Some u, n) = neg_ℤ (pos n)

abbrev pub bound_of : ℤ × Option ℤ → Bound
bound_of (n, None) = record { low = None; high = n }
bound_of (n, Some m) = record { low = Some n; high = m }

-- no bounds stand without parentheses
abbrev pub bounds_of : Option (List Bound) → List Bound
bounds_of None = []
bounds_of (Some bounds) = bounds

abbrev pub declared_of : (List ℕ × Option (List Bound)) × Option TypeSpec → DeclaredItem
declared_of p = record { name = p.0.0; bounds = bounds_of p.0.1; spec = p.1 }

abbrev pub items_of : List DeclaredItem → Items
items_of items = record { items = items }

module _ (tokens : List Lexeme) where
  -- type = "*" digits [ "." digits ], whose digits and point are one token
  abbrev pub IsType : Form TypeSpec
  IsType = Behind (asterisk tokens) (Terminal (size tokens))

  -- [ "-" ] digits
  abbrev pub IsSigned : Form ℤ
  IsSigned = Built signed_of (Optional (Terminal (minus tokens)) then Terminal (digits tokens))

  -- bound = [ [ "-" ] digits "TO" ] [ "-" ] digits
  abbrev pub IsBound : Form Bound
  IsBound = Built bound_of (IsSigned perhaps Behind (at_word to_word tokens) IsSigned)

  -- name [ "(" bound { "," bound } ")" ] [ type ]
  abbrev pub IsDeclared : Form DeclaredItem
  IsDeclared = Built declared_of ((Name tokens perhaps Parenthesized tokens (Listed tokens IsBound)) perhaps IsType)

  -- items, separated by commas
  abbrev pub IsItems : Form Items
  IsItems = Built items_of (Listed tokens IsDeclared)

  -- ( "NUMERIC" | "STRING" ) items
  abbrev pub IsKinded : Form (DeclaredKind × Items)
  IsKinded = Terminal (at_word kind_word tokens) then IsItems

  -- name { "," name }
  abbrev pub IsNames : Form (List (List ℕ))
  IsNames = Listed tokens (Name tokens)

  -- "BASE" ( "0" | "1" )
  abbrev pub IsBase : Form Decl
  IsBase = Behind (at_word base_word tokens) (Terminal (base tokens))

  -- "DECIMAL" | "FIXED" type
  abbrev pub IsArithmetic : Form Decl
  IsArithmetic =
      Built (λ (word : Unit {0}). decl.OptionArithmeticDecimal) (Word tokens decimal_word)
      or Built decl.OptionArithmeticFixed (Behind (at_word fixed_word tokens) IsType)

  -- "OPTION" ( "BASE" ( "0" | "1" ) | "ARITHMETIC" ( "DECIMAL" | "FIXED" type ) )
  abbrev pub IsOption : Form Decl
  IsOption = Behind (keyword tokens) (IsBase or Behind (at_word arithmetic_word tokens) IsArithmetic)

  -- "DIM" items
  abbrev pub IsDim : Form Decl
  IsDim = Built decl.Dim (Behind (keyword tokens) IsItems)

  -- ( "PUBLIC" | "SHARE" ) ( "NUMERIC" | "STRING" ) items
  abbrev pub Kinded : (DeclaredKind → Items → Decl) → Form Decl
  Kinded make = Built (λ (p : DeclaredKind × Items). make p.0 p.1) (Behind (keyword tokens) IsKinded)

  -- "EXTERNAL" ( "SUB" | "FUNCTION" ) name { "," name }
  abbrev pub IsExternalNames : Form (ProcedureKind × List (List ℕ))
  IsExternalNames = Behind (at_word external_word tokens) (Terminal (at_word procedure_word tokens) then IsNames)

  -- "DECLARE" ( [ "PUBLIC" ] ( "NUMERIC" | "STRING" ) items | "EXTERNAL" ( "SUB" | "FUNCTION" ) name { "," name } )
  abbrev pub IsDeclare : Form Decl
  IsDeclare = Behind (keyword tokens) (
      Built (λ (p : DeclaredKind × Items). decl.Declare p.0 p.1) IsKinded
      or Built (λ (p : DeclaredKind × Items). decl.DeclarePublic p.0 p.1) (Behind (at_word public_word tokens) IsKinded)
      or Built (λ (p : ProcedureKind × List (List ℕ)). decl.DeclareExternal p.0 p.1) IsExternalNames)

  -- "PRIVATE" name { "," name }
  abbrev pub IsPrivate : Form Decl
  IsPrivate = Built decl.Private (Behind (keyword tokens) IsNames)

  -- the alternatives, by the word that begins each
  abbrev pub DeclBy : Keyword → Form Decl
  DeclBy k.Option = IsOption
  DeclBy k.Dim = IsDim
  DeclBy k.Declare = IsDeclare
  DeclBy k.Public = Kinded decl.Public
  DeclBy k.Share = Kinded decl.Share
  DeclBy k.Private = IsPrivate
  DeclBy _ = λ at a next. ⊥

  abbrev pub IsDecl : Form Decl
  IsDecl = Dispatched (keyword tokens) DeclBy
