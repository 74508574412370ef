-- How the line of a construct, a procedure or a unit that a token begins is read, in one pass from the left.
use Rattle.std.specs.Prelude.{ℕ, ◌⊎◌, List, ◌∷◌, length, Option, None, IsSome}
use Rattle.bas_form.specs.Reader.{Reader, terminal, ◌followed_by◌, optional, repeated, either, dispatched, built, all_from, ◌maybe◌}
use Rattle.bas_ast.specs.declared.expression.Sign.{Sign}
use Rattle.bas_ast.specs.declared.expression.Numeral.{Numeral}
use Rattle.bas_ast.specs.declared.expression.Expr.{Expr}
use Rattle.bas_ast.specs.declared.condition.Rel.{Rel}
use Rattle.bas_ast.specs.declared.condition.Cond.{Cond}
use Rattle.bas_ast.specs.declared.declaration.ProcedureKind.{ProcedureKind}
use Rattle.bas_ast.specs.declared.part.Const.{Const}
use Rattle.bas_ast.specs.declared.part.Const.TheVariants as constant
use Rattle.bas_ast.specs.declared.part.Case.{Case}
use Rattle.bas_ast.specs.declared.part.Case.TheVariants as case
use Rattle.bas_ast.specs.declared.part.Formal.{Formal}
use Rattle.bas_ast.specs.declared.part.Formal.TheVariants as formal
use Rattle.bas_ast.specs.declared.part.Formals.{Formals}
use Rattle.bas_ast.specs.declared.part.Loopc.{Loopc}
use Rattle.bas_ast.specs.declared.part.Part.{Part}
use Rattle.bas_ast.specs.declared.part.Part.TheVariants as part
use Rattle.bas_expr.specs.Lexemes.{Lexeme}
use Rattle.bas_expr.specs.Marks.{mark, at_mark, comma, hash, sign_of, rel_of}
use Rattle.bas_expr.specs.Words.{own_name, numeral, quoted, connective}
use Rattle.bas_expr.specs.Separated.{behind, separated}
use Rattle.bas_expr.specs.Reading.{parenthesized, expr}
use Rattle.bas_expr.specs.Testing.{cond}
use Rattle.bas_declaration.specs.declared.keyword.Keyword.{Keyword}
use Rattle.bas_declaration.specs.declared.keyword.Keyword.TheVariants as k
use Rattle.bas_expr.specs.declared.TheConstants.{LEVELS}
use Rattle.bas_declaration.specs.Keywords.{keyword, at_word, then_word, to_word, step_word, case_word, else_word, is_word, exception_word, in_word, use_word, turn_word, procedure_word, closed_word}
use Rattle.bas_declaration.specs.Digits.{digits}
use Rattle.bas_declaration.specs.Parts.{listed_of, equals, case_of, name_formal_of, formals_of, loopc_of, for_of, end_of, external_of}

-- where a line may go on behind a part: at a mark or at a word
abbrev pub GoesLine : List Lexeme → ℕ → Type 0
GoesLine tokens n = IsSome (mark tokens n) ⊎ (IsSome (keyword tokens n) ⊎ IsSome (connective tokens n))

abbrev pub listed : {A : Type 0} → List Lexeme → Reader A → Reader (List A)
listed {A = A} tokens item = built (λ (p : A × List A). listed_of p) (separated (at_mark comma tokens) item (length tokens))

-- all items with the first one, and the place behind them
abbrev pub all_with : {A : Type 0} → Reader A → List Lexeme → A → ℕ → List A × ℕ
all_with next tokens first at = (first ∷ (all_from next (length tokens) at).0, (all_from next (length tokens) at).1)

-- how many there are, and the place behind them
abbrev pub counted : List (Unit {0}) × ℕ → ℕ × ℕ
counted p = (length p.0, p.1)

module _ (tokens : List Lexeme) where
  abbrev pub e : Reader Expr
  e = expr tokens LEVELS

  abbrev pub c : Reader Cond
  c = cond tokens LEVELS

  abbrev pub lead : Reader Keyword
  lead = terminal (keyword tokens)

  abbrev pub word : (Keyword → Option (Unit {0})) → Reader (Unit {0})
  word test = terminal (at_word test tokens)

  abbrev pub name : Reader (List ℕ)
  name = terminal (own_name tokens)

  unfoldable pub signed_numeral : Reader Const
  signed_numeral = built (λ (p : Option Sign × Numeral). constant.Numeral p.0 p.1) (optional (terminal (at_mark sign_of tokens)) followed_by terminal (numeral tokens))

  unfoldable pub one_const : Reader Const
  one_const = either signed_numeral (built constant.Quoted (terminal (quoted tokens)))

  unfoldable pub to_const : Reader Const
  to_const = behind (at_word to_word tokens) one_const

  unfoldable pub const_case : Reader Case
  const_case = built case_of (one_const maybe to_const)

  unfoldable pub is_case : Reader Case
  is_case = built (λ (p : Unit {0} × (Rel × Const)). case.Is p.1.0 p.1.1) (word is_word followed_by terminal (at_mark rel_of tokens) followed_by one_const)

  unfoldable pub one_case : Reader Case
  one_case = either const_case is_case

  abbrev pub next_case : Reader Case
  next_case = behind (at_mark comma tokens) one_case

  unfoldable pub cases : Reader (List Case)
  cases = listed tokens one_case

  -- the commas from a place on, and the place behind them
  abbrev pub row : ℕ → List (Unit {0}) × ℕ
  row at = all_from (terminal (at_mark comma tokens)) (length tokens) at

  unfoldable pub commas : Reader (List (Unit {0}))
  commas = parenthesized tokens (repeated (terminal (at_mark comma tokens)) (length tokens))

  unfoldable pub name_formal : Reader Formal
  name_formal = built name_formal_of (name maybe commas)

  unfoldable pub chan_formal : Reader Formal
  chan_formal = built (λ (p : Unit {0} × ℕ). formal.Chan p.1) (terminal (at_mark hash tokens) followed_by terminal (digits tokens))

  unfoldable pub one_formal : Reader Formal
  one_formal = either name_formal chan_formal

  abbrev pub next_formal : Reader Formal
  next_formal = behind (at_mark comma tokens) one_formal

  unfoldable pub formal_list : Reader (List Formal)
  formal_list = listed tokens one_formal

  unfoldable pub formals : Reader (List Formal)
  formals = parenthesized tokens formal_list

  unfoldable pub heading : Reader (List ℕ × Formals)
  heading = built (λ (p : List ℕ × Option (List Formal)). (p.0, formals_of p.1)) (name maybe formals)

  unfoldable pub loop_cond : Reader Loopc
  loop_cond = built loopc_of (terminal (at_word turn_word tokens) followed_by c)

  unfoldable pub alone : Part → Reader Part
  alone x = built (λ (lead : Keyword). x) lead

  unfoldable pub named : (List ℕ → Part) → Reader Part
  named make = built (λ (p : Keyword × List ℕ). make p.1) (lead followed_by name)

  unfoldable pub headed : (List ℕ → Formals → Part) → Reader Part
  headed make = built (λ (p : Keyword × (List ℕ × Formals)). make p.1.0 p.1.1) (lead followed_by heading)

  unfoldable pub tested : (Cond → Part) → Reader Part
  tested make = built (λ (p : Keyword × (Cond × Unit {0})). make p.1.0) (lead followed_by c followed_by word then_word)

  unfoldable pub looping : (Option Loopc → Part) → Reader Part
  looping make = built (λ (p : Keyword × Option Loopc). make p.1) (lead maybe loop_cond)

  unfoldable pub step : Reader Expr
  step = behind (at_word step_word tokens) e

  unfoldable pub for_line : Reader Part
  for_line = built for_of (lead followed_by name followed_by terminal (equals tokens) followed_by e followed_by word to_word followed_by e maybe step)

  unfoldable pub select_line : Reader Part
  select_line = built (λ (p : Keyword × (Unit {0} × Expr)). part.SelectCase p.1.1) (lead followed_by word case_word followed_by e)

  unfoldable pub case_or_else : Reader Part
  case_or_else = either (built part.Case cases) (built (λ (word : Unit {0}). part.CaseElse) (word else_word))

  unfoldable pub case_line : Reader Part
  case_line = built (λ (p : Keyword × Part). p.1) (lead followed_by case_or_else)

  unfoldable pub use_name : Reader (List ℕ)
  use_name = behind (at_word use_word tokens) name

  unfoldable pub in_or_use : Reader Part
  in_or_use = either (built (λ (word : Unit {0}). part.WhenExceptionIn) (word in_word)) (built part.WhenExceptionUse use_name)

  unfoldable pub when_line : Reader Part
  when_line = built (λ (p : Keyword × (Unit {0} × Part)). p.1.1) (lead followed_by word exception_word followed_by in_or_use)

  unfoldable pub external_line : Reader Part
  external_line = built (λ (p : Keyword × (ProcedureKind × (List ℕ × Formals))). external_of p.1.0 p.1.1.0 p.1.1.1) (lead followed_by terminal (at_word procedure_word tokens) followed_by heading)

  unfoldable pub def_line : Reader Part
  def_line = built (λ (p : Keyword × ((List ℕ × Formals) × (Unit {0} × Expr))). part.Def p.1.0.0 p.1.0.1 p.1.1.1) (lead followed_by heading followed_by terminal (equals tokens) followed_by e)

  unfoldable pub end_line : Reader Part
  end_line = built end_of (lead maybe terminal (at_word closed_word tokens))

  abbrev pub part_by : Keyword → Reader Part
  part_by k.If = tested part.If
  part_by k.Elseif = tested part.Elseif
  part_by k.Else = alone part.Else
  part_by k.For = for_line
  part_by k.Next = named part.Next
  part_by k.Do = looping part.Do
  part_by k.Loop = looping part.Loop
  part_by k.Select = select_line
  part_by k.Case = case_line
  part_by k.When = when_line
  part_by k.Use = alone part.Use
  part_by k.Handler = named part.Handler
  part_by k.External = external_line
  part_by k.Sub = headed part.Sub
  part_by k.Function = headed part.Function
  part_by k.Def = def_line
  part_by k.Program = headed part.Program
  part_by k.Module = named part.Module
  part_by k.End = end_line
  part_by _ = λ at. None

  unfoldable pub part_at : Reader Part
  part_at = dispatched (keyword tokens) part_by
