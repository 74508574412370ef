-- The output of a run only grows.
use Rattle.std.proofs.Common.{◌≡◌, ℕ, zero, suc, ◌+◌, List, [], ◌∷◌, ◌++◌, length, Option, Some, None, Bool, true, false, cond, ◌&&◌, refl, sym, ap, subst, ◌∙◌, append_assoc, append-nil}
use Rattle.std.specs.Prelude.{nat_eq, nat_lt, slice_get}
use Rattle.bas_dec.specs.Number.{Number as Decimal}
use Rattle.bas_dec.specs.Text.{text_of}
use Rattle.bas_mean.specs.World.{Cell, Terminal, seen}
use Rattle.bas_mean.specs.Outcome.{RunEnd, Ended, Stopped, GoesOn, Lost}
use Rattle.bas_mean.specs.Operators.{Answer, Found, Raises, Operator, Adds, Subtracts, Multiplies, Divides, Powers, apply}
use Rattle.bas_mean.specs.Printing.{margin, line_ended, placed}
use Rattle.bas_code.specs.declared.instr.TheConstants.{TERMINAL}
use Rattle.bas_code.specs.declared.instr.Instr.{Instr}
use Rattle.bas_code.specs.declared.instr.Instr.TheVariants as instr
use Rattle.bas_code.specs.declared.instr.JumpInstr.TheVariants.{Jump, JumpFalse, JumpTrue}
use Rattle.bas_code.specs.declared.instr.RunInstr.TheVariants.{End}
use Rattle.bas_code.specs.declared.instr.PushInstr.TheVariants.{Num, Load, Ref}
use Rattle.bas_code.specs.declared.instr.StoreInstr.TheVariants.{Store}
use Rattle.bas_code.specs.declared.instr.ArithInstr.TheVariants.{Add, Sub, Mul, Div, Power, Negate}
use Rattle.bas_code.specs.declared.instr.CompareInstr.TheVariants.{CompareNum}
use Rattle.bas_code.specs.declared.instr.PrintInstr.TheVariants.{PrintNum, PrintEnd}
use Rattle.bas_code.specs.declared.body.Proc.{Proc}
use Rattle.bas_code.specs.declared.body.Image.{Image}
use Rattle.bas_code.specs.State.{Spot, Operand as Standing, ANumber, AText, ATruth, ASpot, MachineWorld, Activation, Waiting, State, Run, Over, spot_of}
use Rattle.bas_code.specs.Guards.{entry_at, handlers_at}
use Rattle.bas_code.specs.Machine.{act, step, exec, on_number, on_truth, on_spot, on_spots, with_some, cell_of, with_number_at, goes, marked, raised, started, unwound, exception_in, on_answer, stores}

-- a text begins with another
pub record Begins (front whole : List ℕ) : Type 0 where
  pub rest : List ℕ
  pub is : front ++ rest ≡ whole

pub begins-itself : (text : List ℕ) → Begins text text
begins-itself text = record { rest = []; is = append-nil text }

begins-more : (front whole more : List ℕ) → Begins front whole → Begins front (whole ++ more)
begins-more front whole more b = record { rest = b.rest ++ more; is = sym (append_assoc front b.rest more) ∙ ap (λ t. t ++ more) b.is }

-- a state of a run of that body that waits for no other and has no activation, or the end of one,
-- whose output begins with a text
abbrev pub Grows : List ℕ → (body : ℕ) → State → Type 0
Grows out body (Run b pc stack acts callers w) = (b ≡ body) × (acts ≡ []) × (callers ≡ []) × Begins out w.terminal.output
Grows out body (Over (Ended s)) = Begins out s.terminal.output
Grows out body (Over (Stopped x s)) = Begins out s.terminal.output
Grows out body (Over (GoesOn s)) = Begins out s.terminal.output
Grows out body (Over Lost) = Unit {0}

-- an exception in a body without guards ends the run
pub raised-is : (image : Image) (proc : Proc) (x body pc : ℕ) (w : MachineWorld) → proc.guards ≡ [] →
    raised image proc x body pc [] [] w ≡ with_some (entry_at proc.lines pc) (λ entry. Over (Stopped (exception_in proc.unit entry x) (seen w)))
raised-is image proc x body pc w unguarded =
    ap (λ g. with_some (entry_at proc.lines pc) (λ entry. started body (exception_in proc.unit entry x) entry (handlers_at g pc []) [] [] (λ w1. unwound image body (exception_in proc.unit entry x) [] w1) (λ w1. unwound image body (exception_in proc.unit entry 5002) [] w1) w)) unguarded

module _ (out : List ℕ) (body : ℕ) where
  -- a part of a row grows the output where what it goes on with does

  number-grows : (go : Decimal → List Standing → State) → ((x : Decimal) (rest : List Standing) → Grows out body (go x rest)) → (stack : List Standing) → Grows out body (on_number stack go)
  number-grows go h [] = tt
  number-grows go h (ANumber x ∷ stack) = h x stack
  number-grows go h (AText text ∷ stack) = tt
  number-grows go h (ATruth b ∷ stack) = tt
  number-grows go h (ASpot m ∷ stack) = tt

  truth-grows : (go : Bool → List Standing → State) → ((b : Bool) (rest : List Standing) → Grows out body (go b rest)) → (stack : List Standing) → Grows out body (on_truth stack go)
  truth-grows go h [] = tt
  truth-grows go h (ANumber x ∷ stack) = tt
  truth-grows go h (AText text ∷ stack) = tt
  truth-grows go h (ATruth b ∷ stack) = h b stack
  truth-grows go h (ASpot m ∷ stack) = tt

  spot-grows : (go : Spot → List Standing → State) → ((m : Spot) (rest : List Standing) → Grows out body (go m rest)) → (stack : List Standing) → Grows out body (on_spot stack go)
  spot-grows go h [] = tt
  spot-grows go h (ANumber x ∷ stack) = tt
  spot-grows go h (AText text ∷ stack) = tt
  spot-grows go h (ATruth b ∷ stack) = tt
  spot-grows go h (ASpot m ∷ stack) = h m stack

  spots-grows : (go : List Spot → List Standing → State) → ((ms : List Spot) (rest : List Standing) → Grows out body (go ms rest)) → (k : ℕ) (stack : List Standing) (spots : List Spot) → Grows out body (on_spots k stack spots go)
  spots-grows go h zero stack spots = h spots stack
  spots-grows go h (suc k) stack spots = spot-grows (λ m rest. on_spots k rest (m ∷ spots) go) (λ m rest. spots-grows go h k rest (m ∷ spots)) stack

  some-grows : {A : Type 0} (go : A → State) → ((a : A) → Grows out body (go a)) → (o : Option A) → Grows out body (with_some o go)
  some-grows go h None = tt
  some-grows go h (Some a) = h a

  either-grows : (b : Bool) (c d : State) → Grows out body c → Grows out body d → Grows out body (goes b c d)
  either-grows true c d p q = p
  either-grows false c d p q = q

  run-grows : (pc : ℕ) (stack : List Standing) (w : MachineWorld) → Begins out w.terminal.output → Grows out body (Run body pc stack [] [] w)
  run-grows pc stack w h = (refl, refl, refl, h)

  mark-grows : (k pc : ℕ) (stack : List Standing) (w : MachineWorld) → Begins out w.terminal.output → Grows out body (marked k (λ w1. Run body pc stack [] [] w1) w)
  mark-grows zero pc stack w h = h
  mark-grows (suc k) pc stack w h = (refl, refl, refl, h)

  item-begins : (b : Bool) (text : List ℕ) (t : Terminal) → Begins out t.output → Begins out (placed text (cond b (line_ended t) t)).output
  item-begins true text t h = begins-more out (t.output ++ 10 ∷ []) text (begins-more out t.output (10 ∷ []) h)
  item-begins false text t h = begins-more out t.output text h

  module _ (image : Image) (proc : Proc) (unguarded : proc.guards ≡ []) where
    raise-grows : (x pc : ℕ) (w : MachineWorld) → Begins out w.terminal.output → Grows out body (raised image proc x body pc [] [] w)
    raise-grows x pc w h = subst (λ c. Grows out body c) (sym (raised-is image proc x body pc w unguarded)) (some-grows (λ entry. Over (Stopped (exception_in proc.unit entry x) (seen w))) (λ entry. h) (entry_at proc.lines pc))

    answer-grows : (pc : ℕ) (below : List Standing) (w : MachineWorld) → Begins out w.terminal.output → (a : Answer Decimal) → Grows out body (on_answer image proc a body pc [] [] (λ z w1. Run body (suc pc) (ANumber z ∷ below) [] [] w1) w)
    answer-grows pc below w h (Found z) = (refl, refl, refl, h)
    answer-grows pc below w h (Raises x) = raise-grows x pc w h

    stores-grows : (spots : List Spot) (x : Decimal) (pc : ℕ) (below : List Standing) (w : MachineWorld) → Begins out w.terminal.output → Grows out body (stores image proc spots x body pc [] [] (λ w1. Run body (suc pc) below [] [] w1) w)
    stores-grows [] x pc below w h = (refl, refl, refl, h)
    stores-grows (m ∷ spots) x pc below w h =
        some-grows (λ c. stores image proc spots x body pc [] [] (λ w1. Run body (suc pc) below [] [] w1) (with_number_at m c x w)) (λ c. stores-grows spots x pc below (with_number_at m c x w) h) (slice_get w.cells.cells m.cell)

    operator-grows : (op : Operator) (pc : ℕ) (stack : List Standing) (w : MachineWorld) → Begins out w.terminal.output →
        Grows out body (on_number stack (λ y rest. on_number rest (λ x below. on_answer image proc (apply op x y) body pc [] [] (λ z w1. Run body (suc pc) (ANumber z ∷ below) [] [] w1) w)))
    operator-grows op pc stack w h =
        number-grows (λ y rest. on_number rest (λ x below. on_answer image proc (apply op x y) body pc [] [] (λ z w1. Run body (suc pc) (ANumber z ∷ below) [] [] w1) w))
        (λ y rest. number-grows (λ x below. on_answer image proc (apply op x y) body pc [] [] (λ z w1. Run body (suc pc) (ANumber z ∷ below) [] [] w1) w) (λ x below. answer-grows pc below w h (apply op x y)) rest)
        stack

    -- each row
    act-grows : (i : Instr) (pc : ℕ) (stack : List Standing) (w : MachineWorld) → Begins out w.terminal.output → Grows out body (act image proc i body pc stack [] [] w)
    act-grows (instr.Mark l) pc stack w h = mark-grows w.left (suc pc) stack w h
    act-grows (instr.Jump (Jump a)) pc stack w h = (refl, refl, refl, h)
    act-grows (instr.Jump (JumpFalse a)) pc stack w h = truth-grows _ (λ b rest. either-grows b _ _ (run-grows (suc pc) rest w h) (run-grows a rest w h)) stack
    act-grows (instr.Jump (JumpTrue a)) pc stack w h = truth-grows _ (λ b rest. either-grows b _ _ (run-grows a rest w h) (run-grows (suc pc) rest w h)) stack
    act-grows (instr.Run End) pc stack w h = h
    act-grows (instr.Push (Num x)) pc stack w h = (refl, refl, refl, h)
    act-grows (instr.Push (Load p)) pc stack w h =
        some-grows {A = Spot} (λ m. with_some (cell_of m w) (λ c. Run body (suc pc) (ANumber c.number ∷ stack) [] [] w))
        (λ m. some-grows {A = Cell} (λ c. Run body (suc pc) (ANumber c.number ∷ stack) [] [] w) (λ c. run-grows (suc pc) (ANumber c.number ∷ stack) w h) (cell_of m w))
        (spot_of p w.cells.frame)
    act-grows (instr.Push (Ref p)) pc stack w h = some-grows {A = Spot} (λ m. Run body (suc pc) (ASpot m ∷ stack) [] [] w) (λ m. run-grows (suc pc) (ASpot m ∷ stack) w h) (spot_of p w.cells.frame)
    act-grows (instr.Store (Store k)) pc stack w h = number-grows _ (λ x rest. spots-grows _ (λ spots below. stores-grows spots x pc below w h) k rest []) stack
    act-grows (instr.Arith Negate) pc stack w h = number-grows _ (λ x rest. (refl, refl, refl, h)) stack
    act-grows (instr.Arith Add) pc stack w h = operator-grows Adds pc stack w h
    act-grows (instr.Arith Sub) pc stack w h = operator-grows Subtracts pc stack w h
    act-grows (instr.Arith Mul) pc stack w h = operator-grows Multiplies pc stack w h
    act-grows (instr.Arith Div) pc stack w h = operator-grows Divides pc stack w h
    act-grows (instr.Arith Power) pc stack w h = operator-grows Powers pc stack w h
    act-grows (instr.Compare (CompareNum r)) pc stack w h = number-grows _ (λ y rest. number-grows _ (λ x below. (refl, refl, refl, h)) rest) stack
    act-grows (instr.Print (PrintNum d)) pc stack w h =
        number-grows _ (λ x rest. either-grows (nat_eq d TERMINAL) _ _ (refl, refl, refl, item-begins (nat_lt 0 w.terminal.column && nat_lt margin (w.terminal.column + length (text_of x))) (text_of x) w.terminal h) tt) stack
    act-grows (instr.Print (PrintEnd d)) pc stack w h = either-grows (nat_eq d TERMINAL) _ _ (refl, refl, refl, begins-more out w.terminal.output (10 ∷ []) h) tt

  module _ (image : Image) (proc : Proc) (found : slice_get image.procs body ≡ Some proc) (unguarded : proc.guards ≡ []) where
    step-grows : (pc : ℕ) (stack : List Standing) (w : MachineWorld) → Begins out w.terminal.output → Grows out body (step image body pc stack [] [] w)
    step-grows pc stack w h =
        subst (λ o. Grows out body (with_some o (λ p. with_some (slice_get p.code pc) (λ i. act image p i body pc stack [] [] w)))) (sym found)
        (some-grows (λ i. act image proc i body pc stack [] [] w) (λ i. act-grows image proc unguarded i pc stack w h) (slice_get proc.code pc))

    -- a step from a state of such a run
    any-grows : (b pc : ℕ) (stack : List Standing) (acts : List Activation) (callers : List Waiting) (w : MachineWorld) → Grows out body (Run b pc stack acts callers w) → Grows out body (step image b pc stack acts callers w)
    any-grows b pc stack acts callers w h =
        subst (λ k. Grows out body (step image k pc stack acts callers w)) (sym h.0)
        (subst (λ a. Grows out body (step image body pc stack a callers w)) (sym h.1)
        (subst (λ a. Grows out body (step image body pc stack [] a w)) (sym h.2)
        (step-grows pc stack w h.3)))

    -- all steps to the end
    pub exec-grows : (k : ℕ) (c : State) (e : RunEnd) → Grows out body c → exec image k c ≡ Some e → Grows out body (Over e)
    unfolding exec
    exec-grows k (Over f) e h is = let same : f ≡ e = cc in subst (λ x. Grows out body (Over x)) same h
    exec-grows zero (Run b pc stack acts callers w) e h is = let bad : None ≡ Some e = is in absurd cc
    exec-grows (suc k) (Run b pc stack acts callers w) e h is = exec-grows k (step image b pc stack acts callers w) e (any-grows b pc stack acts callers w h) is
