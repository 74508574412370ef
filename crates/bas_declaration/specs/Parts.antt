-- The grammar of the lines that open, divide and close constructs, procedures and units, one form for each production.
use Rattle.std.specs.Prelude.{ℕ, ◌+◌, List, [], ◌∷◌, length, Option, Some, None}
use Rattle.bas_form.specs.Reader.{◌>>=◌}
use Rattle.bas_form.specs.Form.{Form, Terminal, ◌then◌, Optional, Repeated, ◌or◌, Dispatched, Built, ◌perhaps◌}
use Rattle.bas_ast.specs.declared.expression.Sign.{Sign}
use Rattle.bas_ast.specs.declared.expression.Numeral.{Numeral}
use Rattle.bas_ast.specs.declared.expression.Expr.{Expr}
use Rattle.bas_ast.specs.declared.condition.Rel.{Rel}
use Rattle.bas_ast.specs.declared.condition.Rel.TheVariants as rel
use Rattle.bas_ast.specs.declared.condition.Cond.{Cond}
use Rattle.bas_ast.specs.declared.declaration.ProcedureKind.{ProcedureKind}
use Rattle.bas_ast.specs.declared.declaration.ProcedureKind.TheVariants as procedure
use Rattle.bas_ast.specs.declared.part.Const.{Const}
use Rattle.bas_ast.specs.declared.part.Const.TheVariants as constant
use Rattle.bas_ast.specs.declared.part.Case.{Case}
use Rattle.bas_ast.specs.declared.part.Case.TheVariants as case
use Rattle.bas_ast.specs.declared.part.Formal.{Formal}
use Rattle.bas_ast.specs.declared.part.Formal.TheVariants as formal
use Rattle.bas_ast.specs.declared.part.Formals.{Formals}
use Rattle.bas_ast.specs.declared.part.Loopc.{Loopc}
use Rattle.bas_ast.specs.declared.part.Loopc.TheVariants as loopc
use Rattle.bas_ast.specs.declared.part.Part.{Part}
use Rattle.bas_ast.specs.declared.part.Part.TheVariants as part
use Rattle.bas_expr.specs.Lexemes.{Lexeme}
use Rattle.bas_expr.specs.Marks.{at_mark, comma, hash, sign_of, rel_of}
use Rattle.bas_expr.specs.Words.{own_name, numeral, quoted}
use Rattle.bas_expr.specs.Separated.{Behind, Separated}
use Rattle.bas_expr.specs.Grammar.{IsExpr, Parenthesized}
use Rattle.bas_expr.specs.Conditions.{IsCond}
use Rattle.bas_declaration.specs.declared.keyword.Keyword.{Keyword}
use Rattle.bas_declaration.specs.declared.keyword.Keyword.TheVariants as k
use Rattle.bas_declaration.specs.declared.keyword.LoopWord.{LoopWord}
use Rattle.bas_declaration.specs.declared.keyword.LoopWord.TheVariants as turn
use Rattle.bas_expr.specs.declared.TheConstants.{LEVELS}
use Rattle.bas_declaration.specs.Keywords.{keyword, at_word, then_word, to_word, step_word, case_word, else_word, is_word, exception_word, in_word, use_word, turn_word, procedure_word, closed_word}
use Rattle.bas_declaration.specs.Digits.{digits}

-- item { "," item }
abbrev pub listed_of : {A : Type 0} → A × List A → List A
listed_of p = p.0 ∷ p.1

abbrev pub Listed : {A : Type 0} → List Lexeme → Form A → Form (List A)
Listed {A = A} tokens Item = Built (λ (p : A × List A). listed_of p) (Separated (at_mark comma tokens) Item)

abbrev pub only_equal : Rel → Option (Unit {0})
only_equal rel.Equal = Some tt
only_equal _ = None

-- "="
abbrev pub equals : List Lexeme → ℕ → Option (Unit {0})
equals tokens at = at_mark rel_of tokens at >>= only_equal

-- ---- the trees that parts make

abbrev pub case_of : Const × Option Const → Case
case_of (c, None) = case.Const c
case_of (c, Some d) = case.To c d

-- no parentheses are no dimensions
abbrev pub dimensions_of : Option (List (Unit {0})) → ℕ
dimensions_of None = 0
dimensions_of (Some commas) = 1 + length commas

abbrev pub name_formal_of : List ℕ × Option (List (Unit {0})) → Formal
name_formal_of p = formal.Name p.0 (dimensions_of p.1)

-- no formals stand without parentheses
abbrev pub no_formals : Formals
no_formals = record { formals = [] }

abbrev pub formals_of : Option (List Formal) → Formals
formals_of None = no_formals
formals_of (Some formals) = record { formals = formals }

abbrev pub loopc_of : LoopWord × Cond → Loopc
loopc_of (turn.While, c) = loopc.While c
loopc_of (turn.Until, c) = loopc.Until c

abbrev pub for_of : Keyword × (List ℕ × (Unit {0} × (Expr × (Unit {0} × (Expr × Option Expr))))) → Part
for_of p = part.For p.1.0 p.1.1.1.0 p.1.1.1.1.1.0 p.1.1.1.1.1.1

abbrev pub end_of : Keyword × Option Part → Part
end_of (lead, None) = part.End
end_of (lead, Some closed) = closed

abbrev pub external_of : ProcedureKind → List ℕ → Formals → Part
external_of procedure.Sub name formals = part.ExternalSub name formals
external_of procedure.Function name formals = part.ExternalFunction name formals

module _ (tokens : List Lexeme) where
  abbrev pub E : Form Expr
  E = IsExpr tokens LEVELS

  abbrev pub C : Form Cond
  C = IsCond tokens LEVELS

  -- the word that a line begins with
  abbrev pub Lead : Form Keyword
  Lead = Terminal (keyword tokens)

  abbrev pub Word : (Keyword → Option (Unit {0})) → Form (Unit {0})
  Word word = Terminal (at_word word tokens)

  abbrev pub Name : Form (List ℕ)
  Name = Terminal (own_name tokens)

  -- const = [ "+" | "-" ] numeral | quoted
  abbrev pub IsConst : Form Const
  IsConst =
      Built (λ (p : Option Sign × Numeral). constant.Numeral p.0 p.1) (Optional (Terminal (at_mark sign_of tokens)) then Terminal (numeral tokens))
      or Built constant.Quoted (Terminal (quoted tokens))

  -- case = const [ "TO" const ] | "IS" rel const
  abbrev pub IsCase : Form Case
  IsCase =
      Built case_of (IsConst perhaps Behind (at_word to_word tokens) IsConst)
      or Built (λ (p : Unit {0} × (Rel × Const)). case.Is p.1.0 p.1.1) (Word is_word then Terminal (at_mark rel_of tokens) then IsConst)

  -- formal = name [ "(" { "," } ")" ] | "#" digits
  abbrev pub IsFormal : Form Formal
  IsFormal =
      Built name_formal_of (Name perhaps Parenthesized tokens (Repeated (Terminal (at_mark comma tokens))))
      or Built (λ (p : Unit {0} × ℕ). formal.Chan p.1) (Terminal (at_mark hash tokens) then Terminal (digits tokens))

  -- formals = "(" formal { "," formal } ")"
  abbrev pub IsFormals : Form (List Formal)
  IsFormals = Parenthesized tokens (Listed tokens IsFormal)

  -- name [ formals ]
  abbrev pub IsHeading : Form (List ℕ × Formals)
  IsHeading = Built (λ (p : List ℕ × Option (List Formal)). (p.0, formals_of p.1)) (Name perhaps IsFormals)

  -- loopc = ( "WHILE" | "UNTIL" ) cond
  abbrev pub IsLoopc : Form Loopc
  IsLoopc = Built loopc_of (Terminal (at_word turn_word tokens) then C)

  -- a line of one word, of two, of a word and a name
  abbrev pub Alone : Part → Form Part
  Alone x = Built (λ (lead : Keyword). x) Lead

  abbrev pub Pair : Part → (Keyword → Option (Unit {0})) → Form Part
  Pair x word = Built (λ (p : Keyword × Unit {0}). x) (Lead then Word word)

  abbrev pub Named : (List ℕ → Part) → Form Part
  Named make = Built (λ (p : Keyword × List ℕ). make p.1) (Lead then Name)

  -- a word and a heading
  abbrev pub Headed : (List ℕ → Formals → Part) → Form Part
  Headed make = Built (λ (p : Keyword × (List ℕ × Formals)). make p.1.0 p.1.1) (Lead then IsHeading)

  -- a word and a condition, THEN
  abbrev pub Tested : (Cond → Part) → Form Part
  Tested make = Built (λ (p : Keyword × (Cond × Unit {0})). make p.1.0) (Lead then C then Word then_word)

  -- a word and perhaps the condition of a loop
  abbrev pub Looping : (Option Loopc → Part) → Form Part
  Looping make = Built (λ (p : Keyword × Option Loopc). make p.1) (Lead perhaps IsLoopc)

  -- "FOR" name "=" expr "TO" expr [ "STEP" expr ]
  abbrev pub IsFor : Form Part
  IsFor = Built for_of (Lead then Name then Terminal (equals tokens) then E then Word to_word then E perhaps Behind (at_word step_word tokens) E)

  -- "SELECT" "CASE" expr
  abbrev pub IsSelect : Form Part
  IsSelect = Built (λ (p : Keyword × (Unit {0} × Expr)). part.SelectCase p.1.1) (Lead then Word case_word then E)

  -- "CASE" ( case { "," case } | "ELSE" )
  abbrev pub IsCaseLine : Form Part
  IsCaseLine = Built (λ (p : Keyword × Part). p.1) (Lead then (Built part.Case (Listed tokens IsCase) or Built (λ (word : Unit {0}). part.CaseElse) (Word else_word)))

  -- "WHEN" "EXCEPTION" ( "IN" | "USE" name )
  abbrev pub IsWhen : Form Part
  IsWhen = Built (λ (p : Keyword × (Unit {0} × Part)). p.1.1) (Lead then Word exception_word then
      (Built (λ (word : Unit {0}). part.WhenExceptionIn) (Word in_word) or Built part.WhenExceptionUse (Behind (at_word use_word tokens) Name)))

  -- "EXTERNAL" ( "SUB" | "FUNCTION" ) name [ formals ]
  abbrev pub IsExternal : Form Part
  IsExternal = Built (λ (p : Keyword × (ProcedureKind × (List ℕ × Formals))). external_of p.1.0 p.1.1.0 p.1.1.1) (Lead then Terminal (at_word procedure_word tokens) then IsHeading)

  -- "DEF" name [ formals ] "=" expr
  abbrev pub IsDef : Form Part
  IsDef = Built (λ (p : Keyword × ((List ℕ × Formals) × (Unit {0} × Expr))). part.Def p.1.0.0 p.1.0.1 p.1.1.1) (Lead then IsHeading then Terminal (equals tokens) then E)

  -- "END" [ "IF" | "SELECT" | "WHEN" | "HANDLER" | "SUB" | "FUNCTION" | "MODULE" ]
  abbrev pub IsEnd : Form Part
  IsEnd = Built end_of (Lead perhaps Terminal (at_word closed_word tokens))

  -- the alternatives, by the word that begins each
  abbrev pub PartBy : Keyword → Form Part
  PartBy k.If = Tested part.If
  PartBy k.Elseif = Tested part.Elseif
  PartBy k.Else = Alone part.Else
  PartBy k.For = IsFor
  PartBy k.Next = Named part.Next
  PartBy k.Do = Looping part.Do
  PartBy k.Loop = Looping part.Loop
  PartBy k.Select = IsSelect
  PartBy k.Case = IsCaseLine
  PartBy k.When = IsWhen
  PartBy k.Use = Alone part.Use
  PartBy k.Handler = Named part.Handler
  PartBy k.External = IsExternal
  PartBy k.Sub = Headed part.Sub
  PartBy k.Function = Headed part.Function
  PartBy k.Def = IsDef
  PartBy k.Program = Headed part.Program
  PartBy k.Module = Named part.Module
  PartBy k.End = IsEnd
  PartBy _ = λ at a next. ⊥

  abbrev pub IsPart : Form Part
  IsPart = Dispatched (keyword tokens) PartBy
