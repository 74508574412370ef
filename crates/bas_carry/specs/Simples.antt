-- The code of the simple lines.
use Rattle.std.specs.Prelude.{ℕ, List, [], ◌∷◌, Option, Some, None}
use Rattle.bas_ast.specs.Tree.{Expr, Target, Variable, NoExprs, MoreExprs, Sep, Pitem, Printed, Plain, Let, Print, Goto, ExitDo, Simple, Alone}
use Rattle.bas_mean.specs.World.{OfName}
use Rattle.bas_mean.specs.Outcome.{LineOf, EndOf}
use Rattle.bas_code.specs.declared.instr.TheConstants.{TERMINAL}
use Rattle.bas_code.specs.declared.instr.Instr.TheVariants as instr
use Rattle.bas_code.specs.declared.instr.PushInstr.TheVariants.{Ref}
use Rattle.bas_code.specs.declared.instr.StoreInstr.TheVariants.{Store}
use Rattle.bas_code.specs.declared.instr.PrintInstr.TheVariants.{PrintNum, PrintEnd}
use Rattle.bas_carry.specs.Text.{Text, Static, OneAt, ThenAt, PlaceAt, NotBuiltAt, JumpAt}
use Rattle.bas_carry.specs.Expressions.{ExprAt}

module _ (text : Text) where
  -- a target's reference
  abbrev pub TargetAt : Target → ℕ → ℕ → Type 0
  TargetAt (Variable name NoExprs) from to = PlaceAt text (λ p. instr.Push (Ref p)) (OfName name) from to
  TargetAt (Variable name (MoreExprs e rest)) from to = NotBuiltAt text from to

  -- LET: the reference, the value, the store
  abbrev pub LetAt : List Target → Expr → ℕ → ℕ → Type 0
  LetAt (t ∷ []) e from to = ThenAt text (TargetAt t) (ThenAt text (ExprAt text e) (OneAt text (instr.Store (Store 1)))) from to
  LetAt _ e from to = NotBuiltAt text from to

  -- PRINT: the item, and the end of the line
  abbrev pub PrintAt : Option Pitem → List (Sep × Option Pitem) → ℕ → ℕ → Type 0
  PrintAt None [] from to = OneAt text (instr.Print (PrintEnd TERMINAL)) from to
  PrintAt (Some (Printed e)) [] from to =
      ThenAt text (ExprAt text e) (ThenAt text (OneAt text (instr.Print (PrintNum TERMINAL))) (OneAt text (instr.Print (PrintEnd TERMINAL)))) from to
  PrintAt _ _ from to = NotBuiltAt text from to

  -- EXIT DO: a jump to the end of the innermost DO
  abbrev pub ExitAt : Static → Option ℕ → ℕ → ℕ → Type 0
  ExitAt st None from to = ⊥
  ExitAt st (Some l) from to = JumpAt text (st.drops (EndOf l)) (EndOf l) from to

  -- one row for each statement
  abbrev pub PlainAt : Static → Plain → ℕ → ℕ → Type 0
  PlainAt st (Let targets e) from to = LetAt targets e from to
  PlainAt st (Print list) from to = PrintAt list.first list.rest from to
  PlainAt st (Goto l) from to = JumpAt text (st.drops (LineOf l)) (LineOf l) from to
  PlainAt st ExitDo from to = ExitAt st st.around.do_line from to
  PlainAt st _ from to = NotBuiltAt text from to

  -- a statement alone
  abbrev pub SimpleAt : Static → Simple → ℕ → ℕ → Type 0
  SimpleAt st (Alone plain) from to = PlainAt st plain from to
  SimpleAt st _ from to = NotBuiltAt text from to
