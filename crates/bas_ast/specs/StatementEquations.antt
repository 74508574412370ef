-- The equations of the plain trees of statements.
use Rattle.std.specs.Prelude.{◌≡◌, ℕ, List, Option, Bool, map}
use Rattle.std.specs.Option.{option_map}
use Rattle.bas_ast.specs.Tree as t
use Rattle.bas_ast.specs.ConditionTree.{cond_tree}
use Rattle.bas_ast.specs.ExpressionTree.{args_tree, expr_tree}
use Rattle.bas_ast.specs.RecordTree.{attr_tree, chan_tree, miss_tree, setter_tree}
use Rattle.bas_ast.specs.StatementTree.{branch_tree, pitem_tree, plain_tree, plist_tree, simple_tree, targets_tree, value_tree}
use Rattle.bas_ast.specs.declared.expression.Expr.{Expr}
use Rattle.bas_ast.specs.declared.expression.Args.{Args}
use Rattle.bas_ast.specs.declared.condition.Cond.{Cond}
use Rattle.bas_ast.specs.declared.record_statement.Chan.{Chan}
use Rattle.bas_ast.specs.declared.record_statement.Setter.{Setter}
use Rattle.bas_ast.specs.declared.record_statement.Miss.{Miss}
use Rattle.bas_ast.specs.declared.record_statement.Attr.{Attr}
use Rattle.bas_ast.specs.declared.statement.Targets.{Targets}
use Rattle.bas_ast.specs.declared.statement.Sep.{Sep}
use Rattle.bas_ast.specs.declared.statement.Plist.{Plist}
use Rattle.bas_ast.specs.declared.statement.Plain.{Plain}
use Rattle.bas_ast.specs.declared.statement.Branch.{Branch}
use Rattle.bas_ast.specs.declared.statement.Pitem.TheVariants as pitem
use Rattle.bas_ast.specs.declared.statement.Plain.TheVariants as plain
use Rattle.bas_ast.specs.declared.statement.Branch.TheVariants as branch
use Rattle.bas_ast.specs.declared.statement.Simple.TheVariants as simple

-- the plain tree of each alternative is its own alternative with the plain trees of its parts
pub record StatementEquations : Type 0 where
  pub pitem_expr : (x : Expr) → pitem_tree (pitem.Expr x) ≡ t.Printed (expr_tree x)
  pub pitem_tab : (column : Expr) → pitem_tree (pitem.Tab column) ≡ t.Tab (expr_tree column)
  pub plain_let : (targets : Targets) (value : Expr) → plain_tree (plain.Let targets value) ≡ t.Let (targets_tree targets) (expr_tree value)
  pub plain_print : (list : Plist) → plain_tree (plain.Print list) ≡ t.Print (plist_tree list)
  pub plain_print_chan : (chan : Chan) (list : Option Plist) → plain_tree (plain.PrintChan chan list) ≡ t.PrintChan (chan_tree chan) (option_map plist_tree list)
  pub plain_print_using : (chan : Option Chan) (format : Expr) (first : Expr) (rest : List (Sep × Expr)) (semicolon : Bool) → plain_tree (plain.PrintUsing chan format first rest semicolon) ≡ t.PrintUsing (option_map chan_tree chan) (expr_tree format) (expr_tree first) (map value_tree rest) semicolon
  pub plain_input : (prompt : Option Expr) (targets : Targets) → plain_tree (plain.Input prompt targets) ≡ t.Input (option_map expr_tree prompt) (targets_tree targets)
  pub plain_line_input : (prompt : Option Expr) (targets : Targets) → plain_tree (plain.LineInput prompt targets) ≡ t.LineInput (option_map expr_tree prompt) (targets_tree targets)
  pub plain_input_chan : (chan : Chan) (miss : Option Miss) (targets : Targets) → plain_tree (plain.InputChan chan miss targets) ≡ t.InputChan (chan_tree chan) (option_map miss_tree miss) (targets_tree targets)
  pub plain_line_input_chan : (chan : Chan) (miss : Option Miss) (targets : Targets) → plain_tree (plain.LineInputChan chan miss targets) ≡ t.LineInputChan (chan_tree chan) (option_map miss_tree miss) (targets_tree targets)
  pub plain_read : (targets : Targets) → plain_tree (plain.Read targets) ≡ t.Read (targets_tree targets)
  pub plain_restore : (line : Option ℕ) → plain_tree (plain.Restore line) ≡ t.Restore line
  pub plain_goto : (line : ℕ) → plain_tree (plain.Goto line) ≡ t.Goto line
  pub plain_gosub : (line : ℕ) → plain_tree (plain.Gosub line) ≡ t.Gosub line
  pub plain_return : plain_tree plain.Return ≡ t.Return
  pub plain_stop : plain_tree plain.Stop ≡ t.Stop
  pub plain_exit_do : plain_tree plain.ExitDo ≡ t.ExitDo
  pub plain_exit_for : plain_tree plain.ExitFor ≡ t.ExitFor
  pub plain_exit_sub : plain_tree plain.ExitSub ≡ t.ExitSub
  pub plain_exit_function : plain_tree plain.ExitFunction ≡ t.ExitFunction
  pub plain_exit_handler : plain_tree plain.ExitHandler ≡ t.ExitHandler
  pub plain_call : (name : List ℕ) (args : Args) → plain_tree (plain.Call name args) ≡ t.Call name (args_tree args)
  pub plain_retry : plain_tree plain.Retry ≡ t.Retry
  pub plain_continue : plain_tree plain.Continue ≡ t.Continue
  pub plain_cause_exception : (number : Expr) → plain_tree (plain.CauseException number) ≡ t.CauseException (expr_tree number)
  pub plain_chain : (program : Expr) (values : List Expr) → plain_tree (plain.Chain program values) ≡ t.Chain (expr_tree program) (map expr_tree values)
  pub plain_open : (chan : Chan) (name : Expr) (attrs : List Attr) → plain_tree (plain.Open chan name attrs) ≡ t.Open (chan_tree chan) (expr_tree name) (map attr_tree attrs)
  pub plain_close : (chan : Chan) → plain_tree (plain.Close chan) ≡ t.Close (chan_tree chan)
  pub plain_set_pointer : (chan : Chan) (setter : Setter) → plain_tree (plain.SetPointer chan setter) ≡ t.SetPointer (chan_tree chan) (setter_tree setter)
  pub plain_read_chan : (chan : Chan) (setter : Option Setter) (miss : Option Miss) (targets : Targets) → plain_tree (plain.ReadChan chan setter miss targets) ≡ t.ReadChan (chan_tree chan) (option_map setter_tree setter) (option_map miss_tree miss) (targets_tree targets)
  pub plain_write : (chan : Chan) (setter : Option Setter) (miss : Option Miss) (values : List Expr) → plain_tree (plain.Write chan setter miss values) ≡ t.Write (chan_tree chan) (option_map setter_tree setter) (option_map miss_tree miss) (map expr_tree values)
  pub plain_rewrite : (chan : Chan) (setter : Option Setter) (miss : Option Miss) (values : List Expr) → plain_tree (plain.Rewrite chan setter miss values) ≡ t.Rewrite (chan_tree chan) (option_map setter_tree setter) (option_map miss_tree miss) (map expr_tree values)
  pub plain_delete : (chan : Chan) (setter : Option Setter) (miss : Option Miss) → plain_tree (plain.Delete chan setter miss) ≡ t.Delete (chan_tree chan) (option_map setter_tree setter) (option_map miss_tree miss)
  pub branch_number : (line : ℕ) → branch_tree (branch.Number line) ≡ t.ToLine line
  pub branch_plain : (x : Plain) → branch_tree (branch.Plain x) ≡ t.Does (plain_tree x)
  pub simple_plain : (x : Plain) → simple_tree (simple.Plain x) ≡ t.Alone (plain_tree x)
  pub simple_if : (cond : Cond) (then_part : Branch) (else_part : Option Branch) → simple_tree (simple.If cond then_part else_part) ≡ t.IfThen (cond_tree cond) (branch_tree then_part) (option_map branch_tree else_part)
  pub simple_on_goto : (index : Expr) (lines : List ℕ) (else_part : Option Plain) → simple_tree (simple.OnGoto index lines else_part) ≡ t.OnGoto (expr_tree index) lines (option_map plain_tree else_part)
  pub simple_on_gosub : (index : Expr) (lines : List ℕ) (else_part : Option Plain) → simple_tree (simple.OnGosub index lines else_part) ≡ t.OnGosub (expr_tree index) lines (option_map plain_tree else_part)
