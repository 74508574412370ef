-- Printing: the terminal of the definition, and what the sink took.
use Rattle.std.proofs.Common.{◌≡◌, ◌≢◌, ℕ, suc, ◌+◌, List, [], ◌∷◌, ◌++◌, length, Bool, true, false, cond, ◌&&◌, nat_eq, refl, sym, ap, ◌∙◌, append_assoc}
use Rattle.std.specs.Prelude.{nat_lt}
use Rattle.std.proofs.lemmas.Bool.{ne_eqb}
use Rattle.bas_dec.specs.Number.{Number as Decimal}
use Rattle.bas_dec.specs.Text.{text_of}
use Rattle.bas_mean.specs.World.{Terminal}
use Rattle.bas_mean.specs.Outcome.{Lost}
use Rattle.bas_mean.specs.Printing.{margin, line_ended, placed, item_placed, with_item, with_line_ended}
use Rattle.bas_code.specs.declared.instr.TheConstants.{TERMINAL}
use Rattle.bas_code.specs.declared.instr.Instr.TheVariants as instr
use Rattle.bas_code.specs.declared.instr.PrintInstr.TheVariants.{PrintNum, PrintEnd}
use Rattle.bas_code.specs.declared.body.Proc.{Proc}
use Rattle.bas_code.specs.State.{Operand as Standing, ANumber, AText, ATruth, ASpot, State, Run, Over}
use Rattle.bas_code.specs.Machine.{on_number, goes}
use Rattle.bas_vm.specs.declared.held.Held.{Held}
use Rattle.bas_world.specs.declared.sink.SinkFail.{SinkFail}
use Rattle.bas_world.specs.declared.sink.SinkFail.TheVariants as sink
use Rattle.bas_vm.specs.declared.turn.Turn.{Turn}
use Rattle.bas_vm.specs.declared.turn.Turn.TheVariants as turn
use Rattle.bas_vm.specs.declared.turn.Step.TheVariants.{Ends}
use Rattle.bas_vm.specs.Shown.{stacked, memory_of, world_of}
use Rattle.bas_vm.specs.Rows.{gives_up, turn_of, item_bytes, item_column}
use Rattle.bas_vm.specs.Steps.{Prints, IsSilent}
use Rattle.bas_vm.proofs.Arithmetic.{PopsNumber, LacksNumber}

-- a terminal on which that much was printed
abbrev terminal_at : (input output : List ℕ) (column : ℕ) → Terminal
terminal_at input output column = record { input = input; output = output; report = []; column = column }

-- an item, where its line is ended first or not
item-if : (b : Bool) (text input output : List ℕ) (column : ℕ) → placed text (cond b (line_ended (terminal_at input output column)) (terminal_at input output column)) ≡ terminal_at input (output ++ (cond b (10 ∷ []) [] ++ text)) (cond b 0 column + length text)
item-if true text input output column = ap (λ o. terminal_at input o (0 + length text)) (append_assoc output (10 ∷ []) text)
item-if false text input output column = refl

-- an item
item-is : (text input output : List ℕ) (column : ℕ) → item_placed text (terminal_at input output column) ≡ terminal_at input (output ++ item_bytes column text) (item_column column text)
item-is text input output column = item-if (nat_lt 0 column && nat_lt margin (column + length text)) text input output column

module _ (proc : Proc) (pc : ℕ) (old new : Held) (x : Decimal) where
  pub number-prints : PopsNumber (stacked old.stack.items) x (stacked new.stack.items) → new.left ≡ old.left → new.cells.items ≡ old.cells.items → new.column ≡ item_column old.column (text_of x) →
      Prints proc pc (instr.Print (PrintNum TERMINAL)) old new (item_bytes old.column (text_of x))
  number-prints pops left cells column image body input output =
      pops (λ y rest. goes (nat_eq TERMINAL TERMINAL) (Run body (suc pc) rest [] [] (with_item (text_of y) (world_of proc.slots input output old))) (Over Lost))
      ∙ ap (λ t. Run body (suc pc) (stacked new.stack.items) [] [] (record { left = old.left; cells = memory_of proc.slots old.cells.items; terminal = t; caught = record { number = 0; line = 0 } }))
      (item-is (text_of x) input output old.column ∙ ap (λ c. terminal_at input (output ++ item_bytes old.column (text_of x)) c) (sym column))
      ∙ ap (λ k. Run body (suc pc) (stacked new.stack.items) [] [] (record { left = k; cells = memory_of proc.slots old.cells.items; terminal = terminal_at input (output ++ item_bytes old.column (text_of x)) new.column; caught = record { number = 0; line = 0 } })) (sym left)
      ∙ ap (λ cs. Run body (suc pc) (stacked new.stack.items) [] [] (record { left = new.left; cells = memory_of proc.slots cs; terminal = terminal_at input (output ++ item_bytes old.column (text_of x)) new.column; caught = record { number = 0; line = 0 } })) (sym cells)

module _ (proc : Proc) (pc : ℕ) (old new : Held) where
  pub number-lost : LacksNumber (stacked old.stack.items) → IsSilent proc pc (instr.Print (PrintNum TERMINAL)) old new (Ends turn.Lost)
  number-lost none image body input output =
      none (λ y rest. goes (nat_eq TERMINAL TERMINAL) (Run body (suc pc) rest [] [] (with_item (text_of y) (world_of proc.slots input output old))) (Over Lost))

  -- no channel but the terminal is there
  nowhere : (stack : List Standing) (f : Decimal → List Standing → State) → on_number stack (λ x rest. goes false (f x rest) (Over Lost)) ≡ Over Lost
  nowhere [] f = refl
  nowhere (ANumber x ∷ stack) f = refl
  nowhere (AText text ∷ stack) f = refl
  nowhere (ATruth b ∷ stack) f = refl
  nowhere (ASpot m ∷ stack) f = refl

  pub number-nowhere : (d : ℕ) → d ≢ TERMINAL → IsSilent proc pc (instr.Print (PrintNum d)) old new (Ends turn.Lost)
  number-nowhere d ne image body input output =
      ap (λ b. on_number (stacked old.stack.items) (λ x rest. goes b (Run body (suc pc) rest [] [] (with_item (text_of x) (world_of proc.slots input output old))) (Over Lost))) (ne_eqb d TERMINAL ne)
      ∙ nowhere (stacked old.stack.items) (λ x rest. Run body (suc pc) rest [] [] (with_item (text_of x) (world_of proc.slots input output old)))

  pub end-nowhere : (d : ℕ) → d ≢ TERMINAL → IsSilent proc pc (instr.Print (PrintEnd d)) old new (Ends turn.Lost)
  end-nowhere d ne image body input output =
      ap (λ b. goes b (Run body (suc pc) (stacked old.stack.items) [] [] (with_line_ended (world_of proc.slots input output old))) (Over Lost)) (ne_eqb d TERMINAL ne)

-- a sink that failed makes the run give up
pub turn-gives-up : (t : Turn) (fail : SinkFail) → t ≡ turn_of fail → gives_up t ≡ true
turn-gives-up t sink.Failed is = ap gives_up is
turn-gives-up t sink.Memory is = ap gives_up is
