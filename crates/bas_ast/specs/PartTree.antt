-- The plain trees of the lines that open, divide and close constructs and units.
use Rattle.std.specs.Prelude.{List, map}
use Rattle.std.specs.Option.{option_map}
use Rattle.bas_ast.specs.Tree as t
use Rattle.bas_ast.specs.ExpressionTree.{expr_tree, numeral_tree, sign_tree}
use Rattle.bas_ast.specs.ConditionTree.{cond_tree, rel_tree}
use Rattle.bas_ast.specs.declared.part.Const.{Const}
use Rattle.bas_ast.specs.declared.part.Const.TheVariants as constant
use Rattle.bas_ast.specs.declared.part.Case.{Case}
use Rattle.bas_ast.specs.declared.part.Case.TheVariants as case
use Rattle.bas_ast.specs.declared.part.Formal.{Formal}
use Rattle.bas_ast.specs.declared.part.Formal.TheVariants as formal
use Rattle.bas_ast.specs.declared.part.Formals.{Formals}
use Rattle.bas_ast.specs.declared.part.Loopc.{Loopc}
use Rattle.bas_ast.specs.declared.part.Loopc.TheVariants.{While, Until}
use Rattle.bas_ast.specs.declared.part.Part.{Part}
use Rattle.bas_ast.specs.declared.part.Part.TheVariants as part

-- the plain tree of a constant
unfoldable pub const_tree : Const → t.Const
const_tree (constant.Numeral sign numeral) = t.ConstNumeral (option_map sign_tree sign) (numeral_tree numeral)
const_tree (constant.Quoted text) = t.ConstQuoted text

-- the plain tree of what a CASE line takes
unfoldable pub case_tree : Case → t.Case
case_tree (case.Const x) = t.OneOf (const_tree x)
case_tree (case.To low high) = t.FromTo (const_tree low) (const_tree high)
case_tree (case.Is rel x) = t.Is (rel_tree rel) (const_tree x)

-- the plain tree of a formal
unfoldable pub formal_tree : Formal → t.Formal
formal_tree (formal.Name name dimensions) = t.FormalName name dimensions
formal_tree (formal.Chan number) = t.FormalChan number

-- the plain trees of formals
abbrev pub formals_tree : Formals → List t.Formal
formals_tree x = map formal_tree x.formals

-- the plain tree of the condition of a loop
unfoldable pub loopc_tree : Loopc → t.Loopc
loopc_tree (While cond) = t.While (cond_tree cond)
loopc_tree (Until cond) = t.Until (cond_tree cond)

-- the plain tree of a line of a construct
unfoldable pub part_tree : Part → t.Part
part_tree (part.If cond) = t.If (cond_tree cond)
part_tree (part.Elseif cond) = t.Elseif (cond_tree cond)
part_tree part.Else = t.Else
part_tree part.EndIf = t.EndIf
part_tree (part.For name start limit step) = t.For name (expr_tree start) (expr_tree limit) (option_map expr_tree step)
part_tree (part.Next name) = t.Next name
part_tree (part.Do loopc) = t.Do (option_map loopc_tree loopc)
part_tree (part.Loop loopc) = t.Loop (option_map loopc_tree loopc)
part_tree (part.SelectCase selector) = t.SelectCase (expr_tree selector)
part_tree (part.Case cases) = t.CaseOf (map case_tree cases)
part_tree part.CaseElse = t.CaseElse
part_tree part.EndSelect = t.EndSelect
part_tree part.WhenExceptionIn = t.WhenExceptionIn
part_tree part.Use = t.Use
part_tree (part.WhenExceptionUse handler) = t.WhenExceptionUse handler
part_tree part.EndWhen = t.EndWhen
part_tree (part.Handler name) = t.Handler name
part_tree part.EndHandler = t.EndHandler
part_tree (part.Sub name formals) = t.Sub name (formals_tree formals)
part_tree (part.Function name formals) = t.Function name (formals_tree formals)
part_tree (part.ExternalSub name formals) = t.ExternalSub name (formals_tree formals)
part_tree (part.ExternalFunction name formals) = t.ExternalFunction name (formals_tree formals)
part_tree part.EndSub = t.EndSub
part_tree part.EndFunction = t.EndFunction
part_tree (part.Def name formals value) = t.Def name (formals_tree formals) (expr_tree value)
part_tree (part.Program name formals) = t.ProgramLine name (formals_tree formals)
part_tree part.End = t.End
part_tree (part.Module name) = t.ModuleLine name
part_tree part.EndModule = t.EndModule
