-- The equations of the plain trees of the lines of constructs and units.
use Rattle.std.proofs.Common.{◌≡◌, ℕ, List, Option, map, refl}
use Rattle.std.specs.Option.{option_map}
use Rattle.bas_ast.specs.Tree as t
use Rattle.bas_ast.specs.ConditionTree.{cond_tree, rel_tree}
use Rattle.bas_ast.specs.ExpressionTree.{expr_tree, numeral_tree, sign_tree}
use Rattle.bas_ast.specs.PartTree.{case_tree, const_tree, formal_tree, formals_tree, loopc_tree, part_tree}
use Rattle.bas_ast.specs.declared.expression.Expr.{Expr}
use Rattle.bas_ast.specs.declared.expression.Numeral.{Numeral}
use Rattle.bas_ast.specs.declared.expression.Sign.{Sign}
use Rattle.bas_ast.specs.declared.condition.Cond.{Cond}
use Rattle.bas_ast.specs.declared.condition.Rel.{Rel}
use Rattle.bas_ast.specs.declared.part.Const.{Const}
use Rattle.bas_ast.specs.declared.part.Case.{Case}
use Rattle.bas_ast.specs.declared.part.Formals.{Formals}
use Rattle.bas_ast.specs.declared.part.Loopc.{Loopc}
use Rattle.bas_ast.specs.declared.part.Const.TheVariants as constant
use Rattle.bas_ast.specs.declared.part.Case.TheVariants as case
use Rattle.bas_ast.specs.declared.part.Formal.TheVariants as formal
use Rattle.bas_ast.specs.declared.part.Loopc.TheVariants.{While, Until}
use Rattle.bas_ast.specs.declared.part.Part.TheVariants as part
use Rattle.bas_ast.specs.PartEquations.{PartEquations}

pub const_numeral : (sign : Option Sign) (numeral : Numeral) → const_tree (constant.Numeral sign numeral) ≡ t.ConstNumeral (option_map sign_tree sign) (numeral_tree numeral)
unfolding const_tree
const_numeral sign numeral = refl

pub const_quoted : (text : List ℕ) → const_tree (constant.Quoted text) ≡ t.ConstQuoted text
unfolding const_tree
const_quoted text = refl

pub case_const : (x : Const) → case_tree (case.Const x) ≡ t.OneOf (const_tree x)
unfolding case_tree
case_const x = refl

pub case_to : (low : Const) (high : Const) → case_tree (case.To low high) ≡ t.FromTo (const_tree low) (const_tree high)
unfolding case_tree
case_to low high = refl

pub case_is : (rel : Rel) (x : Const) → case_tree (case.Is rel x) ≡ t.Is (rel_tree rel) (const_tree x)
unfolding case_tree
case_is rel x = refl

pub formal_name : (name : List ℕ) (dimensions : ℕ) → formal_tree (formal.Name name dimensions) ≡ t.FormalName name dimensions
unfolding formal_tree
formal_name name dimensions = refl

pub formal_chan : (number : ℕ) → formal_tree (formal.Chan number) ≡ t.FormalChan number
unfolding formal_tree
formal_chan number = refl

pub loopc_while : (cond : Cond) → loopc_tree (While cond) ≡ t.While (cond_tree cond)
unfolding loopc_tree
loopc_while cond = refl

pub loopc_until : (cond : Cond) → loopc_tree (Until cond) ≡ t.Until (cond_tree cond)
unfolding loopc_tree
loopc_until cond = refl

pub part_if : (cond : Cond) → part_tree (part.If cond) ≡ t.If (cond_tree cond)
unfolding part_tree
part_if cond = refl

pub part_elseif : (cond : Cond) → part_tree (part.Elseif cond) ≡ t.Elseif (cond_tree cond)
unfolding part_tree
part_elseif cond = refl

pub part_else : part_tree part.Else ≡ t.Else
unfolding part_tree
part_else = refl

pub part_end_if : part_tree part.EndIf ≡ t.EndIf
unfolding part_tree
part_end_if = refl

pub part_for : (name : List ℕ) (start : Expr) (limit : Expr) (step : Option Expr) → part_tree (part.For name start limit step) ≡ t.For name (expr_tree start) (expr_tree limit) (option_map expr_tree step)
unfolding part_tree
part_for name start limit step = refl

pub part_next : (name : List ℕ) → part_tree (part.Next name) ≡ t.Next name
unfolding part_tree
part_next name = refl

pub part_do : (loopc : Option Loopc) → part_tree (part.Do loopc) ≡ t.Do (option_map loopc_tree loopc)
unfolding part_tree
part_do loopc = refl

pub part_loop : (loopc : Option Loopc) → part_tree (part.Loop loopc) ≡ t.Loop (option_map loopc_tree loopc)
unfolding part_tree
part_loop loopc = refl

pub part_select_case : (selector : Expr) → part_tree (part.SelectCase selector) ≡ t.SelectCase (expr_tree selector)
unfolding part_tree
part_select_case selector = refl

pub part_case : (cases : List Case) → part_tree (part.Case cases) ≡ t.CaseOf (map case_tree cases)
unfolding part_tree
part_case cases = refl

pub part_case_else : part_tree part.CaseElse ≡ t.CaseElse
unfolding part_tree
part_case_else = refl

pub part_end_select : part_tree part.EndSelect ≡ t.EndSelect
unfolding part_tree
part_end_select = refl

pub part_when_exception_in : part_tree part.WhenExceptionIn ≡ t.WhenExceptionIn
unfolding part_tree
part_when_exception_in = refl

pub part_use : part_tree part.Use ≡ t.Use
unfolding part_tree
part_use = refl

pub part_when_exception_use : (handler : List ℕ) → part_tree (part.WhenExceptionUse handler) ≡ t.WhenExceptionUse handler
unfolding part_tree
part_when_exception_use handler = refl

pub part_end_when : part_tree part.EndWhen ≡ t.EndWhen
unfolding part_tree
part_end_when = refl

pub part_handler : (name : List ℕ) → part_tree (part.Handler name) ≡ t.Handler name
unfolding part_tree
part_handler name = refl

pub part_end_handler : part_tree part.EndHandler ≡ t.EndHandler
unfolding part_tree
part_end_handler = refl

pub part_sub : (name : List ℕ) (formals : Formals) → part_tree (part.Sub name formals) ≡ t.Sub name (formals_tree formals)
unfolding part_tree
part_sub name formals = refl

pub part_function : (name : List ℕ) (formals : Formals) → part_tree (part.Function name formals) ≡ t.Function name (formals_tree formals)
unfolding part_tree
part_function name formals = refl

pub part_external_sub : (name : List ℕ) (formals : Formals) → part_tree (part.ExternalSub name formals) ≡ t.ExternalSub name (formals_tree formals)
unfolding part_tree
part_external_sub name formals = refl

pub part_external_function : (name : List ℕ) (formals : Formals) → part_tree (part.ExternalFunction name formals) ≡ t.ExternalFunction name (formals_tree formals)
unfolding part_tree
part_external_function name formals = refl

pub part_end_sub : part_tree part.EndSub ≡ t.EndSub
unfolding part_tree
part_end_sub = refl

pub part_end_function : part_tree part.EndFunction ≡ t.EndFunction
unfolding part_tree
part_end_function = refl

pub part_def : (name : List ℕ) (formals : Formals) (value : Expr) → part_tree (part.Def name formals value) ≡ t.Def name (formals_tree formals) (expr_tree value)
unfolding part_tree
part_def name formals value = refl

pub part_program : (name : List ℕ) (formals : Formals) → part_tree (part.Program name formals) ≡ t.ProgramLine name (formals_tree formals)
unfolding part_tree
part_program name formals = refl

pub part_end : part_tree part.End ≡ t.End
unfolding part_tree
part_end = refl

pub part_module : (name : List ℕ) → part_tree (part.Module name) ≡ t.ModuleLine name
unfolding part_tree
part_module name = refl

pub part_end_module : part_tree part.EndModule ≡ t.EndModule
unfolding part_tree
part_end_module = refl

pub ruleset part_trees = (const_numeral, const_quoted, case_const, case_to, case_is, formal_name, formal_chan, loopc_while, loopc_until, part_if, part_elseif, part_else, part_end_if, part_for, part_next, part_do, part_loop, part_select_case, part_case, part_case_else, part_end_select, part_when_exception_in, part_use, part_when_exception_use, part_end_when, part_handler, part_end_handler, part_sub, part_function, part_external_sub, part_external_function, part_end_sub, part_end_function, part_def, part_program, part_end, part_module, part_end_module)

pub part_equations : PartEquations
part_equations = record { const_numeral = const_numeral; const_quoted = const_quoted; case_const = case_const; case_to = case_to; case_is = case_is; formal_name = formal_name; formal_chan = formal_chan; loopc_while = loopc_while; loopc_until = loopc_until; part_if = part_if; part_elseif = part_elseif; part_else = part_else; part_end_if = part_end_if; part_for = part_for; part_next = part_next; part_do = part_do; part_loop = part_loop; part_select_case = part_select_case; part_case = part_case; part_case_else = part_case_else; part_end_select = part_end_select; part_when_exception_in = part_when_exception_in; part_use = part_use; part_when_exception_use = part_when_exception_use; part_end_when = part_end_when; part_handler = part_handler; part_end_handler = part_end_handler; part_sub = part_sub; part_function = part_function; part_external_sub = part_external_sub; part_external_function = part_external_function; part_end_sub = part_end_sub; part_end_function = part_end_function; part_def = part_def; part_program = part_program; part_end = part_end; part_module = part_module; part_end_module = part_end_module }
