-- The plain trees of statements.
use Rattle.std.specs.Prelude.{List, Option, map}
use Rattle.std.specs.Option.{option_map}
use Rattle.bas_ast.specs.Tree as t
use Rattle.bas_ast.specs.ExpressionTree.{expr_tree, target_tree, args_tree}
use Rattle.bas_ast.specs.ConditionTree.{cond_tree}
use Rattle.bas_ast.specs.RecordTree.{chan_tree, setter_tree, miss_tree, attr_tree}
use Rattle.bas_ast.specs.declared.expression.Expr.{Expr}
use Rattle.bas_ast.specs.declared.statement.Targets.{Targets}
use Rattle.bas_ast.specs.declared.statement.Sep.{Sep}
use Rattle.bas_ast.specs.declared.statement.Sep.TheVariants.{Comma, Semicolon}
use Rattle.bas_ast.specs.declared.statement.Pitem.{Pitem}
use Rattle.bas_ast.specs.declared.statement.Pitem.TheVariants as pitem
use Rattle.bas_ast.specs.declared.statement.Plist.{Plist}
use Rattle.bas_ast.specs.declared.statement.Plain.{Plain}
use Rattle.bas_ast.specs.declared.statement.Plain.TheVariants as plain
use Rattle.bas_ast.specs.declared.statement.Branch.{Branch}
use Rattle.bas_ast.specs.declared.statement.Branch.TheVariants as branch
use Rattle.bas_ast.specs.declared.statement.Simple.{Simple}
use Rattle.bas_ast.specs.declared.statement.Simple.TheVariants as simple

-- the plain trees of targets
abbrev pub targets_tree : Targets → List t.Target
targets_tree x = map target_tree x.targets

abbrev pub sep_tree : Sep → t.Sep
sep_tree Comma = t.Comma
sep_tree Semicolon = t.Semicolon

-- the plain tree of an item of a print list
unfoldable pub pitem_tree : Pitem → t.Pitem
pitem_tree (pitem.Expr x) = t.Printed (expr_tree x)
pitem_tree (pitem.Tab column) = t.Tab (expr_tree column)

-- the plain trees of separators, each perhaps with an item
abbrev pub spaced_tree : Sep × Option Pitem → t.Sep × Option t.Pitem
spaced_tree x = (sep_tree x.0, option_map pitem_tree x.1)

-- the plain tree of a print list
abbrev pub plist_tree : Plist → t.Plist
plist_tree x = record { first = option_map pitem_tree x.first; rest = map spaced_tree x.rest }

-- the plain trees of separators, each with an expression
abbrev pub value_tree : Sep × Expr → t.Sep × t.Expr
value_tree x = (sep_tree x.0, expr_tree x.1)

-- the plain tree of a statement that may stand in a one-line IF
unfoldable pub plain_tree : Plain → t.Plain
plain_tree (plain.Let targets value) = t.Let (targets_tree targets) (expr_tree value)
plain_tree (plain.Print list) = t.Print (plist_tree list)
plain_tree (plain.PrintChan chan list) = t.PrintChan (chan_tree chan) (option_map plist_tree list)
plain_tree (plain.PrintUsing chan format first rest semicolon) = t.PrintUsing (option_map chan_tree chan) (expr_tree format) (expr_tree first) (map value_tree rest) semicolon
plain_tree (plain.Input prompt targets) = t.Input (option_map expr_tree prompt) (targets_tree targets)
plain_tree (plain.LineInput prompt targets) = t.LineInput (option_map expr_tree prompt) (targets_tree targets)
plain_tree (plain.InputChan chan miss targets) = t.InputChan (chan_tree chan) (option_map miss_tree miss) (targets_tree targets)
plain_tree (plain.LineInputChan chan miss targets) = t.LineInputChan (chan_tree chan) (option_map miss_tree miss) (targets_tree targets)
plain_tree (plain.Read targets) = t.Read (targets_tree targets)
plain_tree (plain.Restore line) = t.Restore line
plain_tree (plain.Goto line) = t.Goto line
plain_tree (plain.Gosub line) = t.Gosub line
plain_tree plain.Return = t.Return
plain_tree plain.Stop = t.Stop
plain_tree plain.ExitDo = t.ExitDo
plain_tree plain.ExitFor = t.ExitFor
plain_tree plain.ExitSub = t.ExitSub
plain_tree plain.ExitFunction = t.ExitFunction
plain_tree plain.ExitHandler = t.ExitHandler
plain_tree (plain.Call name args) = t.Call name (args_tree args)
plain_tree plain.Retry = t.Retry
plain_tree plain.Continue = t.Continue
plain_tree (plain.CauseException number) = t.CauseException (expr_tree number)
plain_tree (plain.Chain program values) = t.Chain (expr_tree program) (map expr_tree values)
plain_tree (plain.Open chan name attrs) = t.Open (chan_tree chan) (expr_tree name) (map attr_tree attrs)
plain_tree (plain.Close chan) = t.Close (chan_tree chan)
plain_tree (plain.SetPointer chan setter) = t.SetPointer (chan_tree chan) (setter_tree setter)
plain_tree (plain.ReadChan chan setter miss targets) = t.ReadChan (chan_tree chan) (option_map setter_tree setter) (option_map miss_tree miss) (targets_tree targets)
plain_tree (plain.Write chan setter miss values) = t.Write (chan_tree chan) (option_map setter_tree setter) (option_map miss_tree miss) (map expr_tree values)
plain_tree (plain.Rewrite chan setter miss values) = t.Rewrite (chan_tree chan) (option_map setter_tree setter) (option_map miss_tree miss) (map expr_tree values)
plain_tree (plain.Delete chan setter miss) = t.Delete (chan_tree chan) (option_map setter_tree setter) (option_map miss_tree miss)

-- the plain tree of a part of a one-line IF
unfoldable pub branch_tree : Branch → t.Branch
branch_tree (branch.Number line) = t.ToLine line
branch_tree (branch.Plain x) = t.Does (plain_tree x)

-- the plain tree of a statement
unfoldable pub simple_tree : Simple → t.Simple
simple_tree (simple.Plain x) = t.Alone (plain_tree x)
simple_tree (simple.If cond then_part else_part) = t.IfThen (cond_tree cond) (branch_tree then_part) (option_map branch_tree else_part)
simple_tree (simple.OnGoto index lines else_part) = t.OnGoto (expr_tree index) lines (option_map plain_tree else_part)
simple_tree (simple.OnGosub index lines else_part) = t.OnGosub (expr_tree index) lines (option_map plain_tree else_part)
