-- The equations of the plain trees of the lines of constructs and units.
use Rattle.std.specs.Prelude.{◌≡◌, ℕ, List, Option, map}
use Rattle.std.specs.Option.{option_map}
use Rattle.bas_ast.specs.Tree as t
use Rattle.bas_ast.specs.ConditionTree.{cond_tree, rel_tree}
use Rattle.bas_ast.specs.ExpressionTree.{expr_tree, numeral_tree, sign_tree}
use Rattle.bas_ast.specs.PartTree.{case_tree, const_tree, formal_tree, formals_tree, loopc_tree, part_tree}
use Rattle.bas_ast.specs.declared.expression.Expr.{Expr}
use Rattle.bas_ast.specs.declared.expression.Numeral.{Numeral}
use Rattle.bas_ast.specs.declared.expression.Sign.{Sign}
use Rattle.bas_ast.specs.declared.condition.Cond.{Cond}
use Rattle.bas_ast.specs.declared.condition.Rel.{Rel}
use Rattle.bas_ast.specs.declared.part.Const.{Const}
use Rattle.bas_ast.specs.declared.part.Case.{Case}
use Rattle.bas_ast.specs.declared.part.Formals.{Formals}
use Rattle.bas_ast.specs.declared.part.Loopc.{Loopc}
use Rattle.bas_ast.specs.declared.part.Const.TheVariants as constant
use Rattle.bas_ast.specs.declared.part.Case.TheVariants as case
use Rattle.bas_ast.specs.declared.part.Formal.TheVariants as formal
use Rattle.bas_ast.specs.declared.part.Loopc.TheVariants.{While, Until}
use Rattle.bas_ast.specs.declared.part.Part.TheVariants as part

-- the plain tree of each alternative is its own alternative with the plain trees of its parts
pub record PartEquations : Type 0 where
  pub const_numeral : (sign : Option Sign) (numeral : Numeral) → const_tree (constant.Numeral sign numeral) ≡ t.ConstNumeral (option_map sign_tree sign) (numeral_tree numeral)
  pub const_quoted : (text : List ℕ) → const_tree (constant.Quoted text) ≡ t.ConstQuoted text
  pub case_const : (x : Const) → case_tree (case.Const x) ≡ t.OneOf (const_tree x)
  pub case_to : (low : Const) (high : Const) → case_tree (case.To low high) ≡ t.FromTo (const_tree low) (const_tree high)
  pub case_is : (rel : Rel) (x : Const) → case_tree (case.Is rel x) ≡ t.Is (rel_tree rel) (const_tree x)
  pub formal_name : (name : List ℕ) (dimensions : ℕ) → formal_tree (formal.Name name dimensions) ≡ t.FormalName name dimensions
  pub formal_chan : (number : ℕ) → formal_tree (formal.Chan number) ≡ t.FormalChan number
  pub loopc_while : (cond : Cond) → loopc_tree (While cond) ≡ t.While (cond_tree cond)
  pub loopc_until : (cond : Cond) → loopc_tree (Until cond) ≡ t.Until (cond_tree cond)
  pub part_if : (cond : Cond) → part_tree (part.If cond) ≡ t.If (cond_tree cond)
  pub part_elseif : (cond : Cond) → part_tree (part.Elseif cond) ≡ t.Elseif (cond_tree cond)
  pub part_else : part_tree part.Else ≡ t.Else
  pub part_end_if : part_tree part.EndIf ≡ t.EndIf
  pub part_for : (name : List ℕ) (start : Expr) (limit : Expr) (step : Option Expr) → part_tree (part.For name start limit step) ≡ t.For name (expr_tree start) (expr_tree limit) (option_map expr_tree step)
  pub part_next : (name : List ℕ) → part_tree (part.Next name) ≡ t.Next name
  pub part_do : (loopc : Option Loopc) → part_tree (part.Do loopc) ≡ t.Do (option_map loopc_tree loopc)
  pub part_loop : (loopc : Option Loopc) → part_tree (part.Loop loopc) ≡ t.Loop (option_map loopc_tree loopc)
  pub part_select_case : (selector : Expr) → part_tree (part.SelectCase selector) ≡ t.SelectCase (expr_tree selector)
  pub part_case : (cases : List Case) → part_tree (part.Case cases) ≡ t.CaseOf (map case_tree cases)
  pub part_case_else : part_tree part.CaseElse ≡ t.CaseElse
  pub part_end_select : part_tree part.EndSelect ≡ t.EndSelect
  pub part_when_exception_in : part_tree part.WhenExceptionIn ≡ t.WhenExceptionIn
  pub part_use : part_tree part.Use ≡ t.Use
  pub part_when_exception_use : (handler : List ℕ) → part_tree (part.WhenExceptionUse handler) ≡ t.WhenExceptionUse handler
  pub part_end_when : part_tree part.EndWhen ≡ t.EndWhen
  pub part_handler : (name : List ℕ) → part_tree (part.Handler name) ≡ t.Handler name
  pub part_end_handler : part_tree part.EndHandler ≡ t.EndHandler
  pub part_sub : (name : List ℕ) (formals : Formals) → part_tree (part.Sub name formals) ≡ t.Sub name (formals_tree formals)
  pub part_function : (name : List ℕ) (formals : Formals) → part_tree (part.Function name formals) ≡ t.Function name (formals_tree formals)
  pub part_external_sub : (name : List ℕ) (formals : Formals) → part_tree (part.ExternalSub name formals) ≡ t.ExternalSub name (formals_tree formals)
  pub part_external_function : (name : List ℕ) (formals : Formals) → part_tree (part.ExternalFunction name formals) ≡ t.ExternalFunction name (formals_tree formals)
  pub part_end_sub : part_tree part.EndSub ≡ t.EndSub
  pub part_end_function : part_tree part.EndFunction ≡ t.EndFunction
  pub part_def : (name : List ℕ) (formals : Formals) (value : Expr) → part_tree (part.Def name formals value) ≡ t.Def name (formals_tree formals) (expr_tree value)
  pub part_program : (name : List ℕ) (formals : Formals) → part_tree (part.Program name formals) ≡ t.ProgramLine name (formals_tree formals)
  pub part_end : part_tree part.End ≡ t.End
  pub part_module : (name : List ℕ) → part_tree (part.Module name) ≡ t.ModuleLine name
  pub part_end_module : part_tree part.EndModule ≡ t.EndModule
