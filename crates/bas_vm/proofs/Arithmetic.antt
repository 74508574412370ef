-- Operators, comparisons, jumps and pushes.
use Rattle.std.proofs.Common.{◌≡◌, ℕ, suc, List, [], ◌∷◌, Some, None, IsSome, Bool, true, false, refl, sym, ap, subst, ◌∙◌}
use Rattle.std.specs.Prelude.{slice_get}
use Rattle.bas_dec.specs.Number.{Number as Decimal}
use Rattle.bas_dec.specs.Arithmetic.{negated}
use Rattle.bas_mean.specs.Outcome.{Lost}
use Rattle.bas_mean.specs.Operators.{Answer, Found, Raises, related}
use Rattle.bas_code.specs.declared.instr.Place.{Place}
use Rattle.bas_code.specs.declared.instr.Relation.{Relation}
use Rattle.bas_code.specs.declared.instr.Instr.TheVariants as instr
use Rattle.bas_code.specs.declared.instr.ArithInstr.{ArithInstr}
use Rattle.bas_code.specs.declared.instr.ArithInstr.TheVariants.{Add, Sub, Mul, Div, Power, Negate}
use Rattle.bas_code.specs.declared.instr.CompareInstr.{CompareInstr}
use Rattle.bas_code.specs.declared.instr.CompareInstr.TheVariants.{CompareNum}
use Rattle.bas_code.specs.declared.instr.PushInstr.TheVariants.{Load, Ref}
use Rattle.bas_code.specs.declared.body.Proc.{Proc}
use Rattle.bas_code.specs.declared.body.Image.{Image}
use Rattle.bas_code.specs.State.{Operand as Standing, ANumber, ATruth, ASpot, Memory, MachineWorld, State, Run, Over, spot_of}
use Rattle.bas_code.specs.Machine.{act, on_number, on_answer, with_some, operator_of, rel_of}
use Rattle.bas_vm.specs.declared.turn.Turn.{Turn}
use Rattle.bas_vm.specs.declared.turn.Turn.TheVariants as turn
use Rattle.bas_vm.specs.declared.turn.Step.{Step}
use Rattle.bas_vm.specs.declared.turn.Step.TheVariants.{Ends}
use Rattle.bas_vm.specs.Shown.{reference, cell_with, cells_of, frame_of, memory_of}
use Rattle.bas_vm.specs.Rows.{EndsAs, IsPushed, Moves, MovesAt, Reads, StopsBy, value_of}
use Rattle.bas_vm.proofs.Stacks.{pushed-leads}

-- popping a number
abbrev pub PopsNumber : List Standing → Decimal → List Standing → Type 0
PopsNumber old x new = (go : Decimal → List Standing → State) → on_number old go ≡ go x new

-- no number stands on top
abbrev pub LacksNumber : List Standing → Type 0
LacksNumber old = (go : Decimal → List Standing → State) → on_number old go ≡ Over Lost

pub negate-pushes : (old mid new : List Standing) (x : Decimal) (step : Step) → PopsNumber old x mid → IsPushed step mid new (ANumber (negated x)) → Moves (instr.Arith Negate) old step new
negate-pushes old mid new x step pops is image proc body pc w =
    pushed-leads _ body pc step mid new (ANumber (negated x)) w (pops (λ y rest. Run body (suc pc) (ANumber (negated y) ∷ rest) [] [] w)) is

-- what an operator does that pops two numbers
abbrev joined : Image → Proc → ArithInstr → (body pc : ℕ) → List Standing → MachineWorld → State
joined image proc i body pc stack w =
    on_number stack (λ y rest. on_number rest (λ x below. on_answer image proc (value_of i x y) body pc [] [] (λ z w1. Run body (suc pc) (ANumber z ∷ below) [] [] w1) w))

join-acts : (image : Image) (proc : Proc) (i : ArithInstr) (body pc : ℕ) (stack : List Standing) (w : MachineWorld) → IsSome (operator_of i) → act image proc (instr.Arith i) body pc stack [] [] w ≡ joined image proc i body pc stack w
join-acts image proc Add body pc stack w is = refl
join-acts image proc Sub body pc stack w is = refl
join-acts image proc Mul body pc stack w is = refl
join-acts image proc Div body pc stack w is = refl
join-acts image proc Power body pc stack w is = refl
join-acts image proc Negate body pc stack w is = let bad : false ≡ true = is in absurd cc

module _ (proc : Proc) (pc : ℕ) (i : ArithInstr) (is : IsSome (operator_of i)) (old : List Standing) where
  pub join-empty : (new : List Standing) → LacksNumber old → MovesAt proc pc (instr.Arith i) old (Ends turn.Lost) new
  join-empty new none image body w =
      join-acts image proc i body pc old w is
      ∙ none (λ y rest. on_number rest (λ x below. on_answer image proc (value_of i x y) body pc [] [] (λ z w1. Run body (suc pc) (ANumber z ∷ below) [] [] w1) w))

  -- the first number is popped
  one : (image : Image) (body : ℕ) (w : MachineWorld) (y : Decimal) (mid : List Standing) → PopsNumber old y mid → act image proc (instr.Arith i) body pc old [] [] w ≡ on_number mid (λ x below. on_answer image proc (value_of i x y) body pc [] [] (λ z w1. Run body (suc pc) (ANumber z ∷ below) [] [] w1) w)
  one image body w y mid pops =
      join-acts image proc i body pc old w is
      ∙ pops (λ y rest. on_number rest (λ x below. on_answer image proc (value_of i x y) body pc [] [] (λ z w1. Run body (suc pc) (ANumber z ∷ below) [] [] w1) w))

  pub join-single : (mid new : List Standing) (y : Decimal) → PopsNumber old y mid → LacksNumber mid → MovesAt proc pc (instr.Arith i) old (Ends turn.Lost) new
  join-single mid new y pops none image body w =
      one image body w y mid pops
      ∙ none (λ x below. on_answer image proc (value_of i x y) body pc [] [] (λ z w1. Run body (suc pc) (ANumber z ∷ below) [] [] w1) w)

  -- both are
  two : (image : Image) (body : ℕ) (w : MachineWorld) (x y : Decimal) (mid below : List Standing) (a : Answer Decimal) → PopsNumber old y mid → PopsNumber mid x below → value_of i x y ≡ a →
      act image proc (instr.Arith i) body pc old [] [] w ≡ on_answer image proc a body pc [] [] (λ z w1. Run body (suc pc) (ANumber z ∷ below) [] [] w1) w
  two image body w x y mid below a first second value =
      one image body w y mid first
      ∙ second (λ x below. on_answer image proc (value_of i x y) body pc [] [] (λ z w1. Run body (suc pc) (ANumber z ∷ below) [] [] w1) w)
      ∙ ap (λ v. on_answer image proc v body pc [] [] (λ z w1. Run body (suc pc) (ANumber z ∷ below) [] [] w1) w) value

  pub join-pushes : (mid below new : List Standing) (x y z : Decimal) (step : Step) → PopsNumber old y mid → PopsNumber mid x below → value_of i x y ≡ Found z → IsPushed step below new (ANumber z) → MovesAt proc pc (instr.Arith i) old step new
  join-pushes mid below new x y z step first second value pushed image body w =
      pushed-leads _ body pc step below new (ANumber z) w (two image body w x y mid below (Found z) first second value) pushed

  pub join-raises : (mid below : List Standing) (x y : Decimal) (number : ℕ) (t : Turn) → PopsNumber old y mid → PopsNumber mid x below → value_of i x y ≡ Raises number → StopsBy proc pc number t → MovesAt proc pc (instr.Arith i) old (Ends t) below
  join-raises mid below x y number t first second value stops image body w =
      subst (λ c. EndsAs c t w) (sym (two image body w x y mid below (Raises number) first second value)) (stops image body w)

module _ (r : Relation) (old : List Standing) where
  pub compare-empty : (new : List Standing) → LacksNumber old → Moves (instr.Compare (CompareNum r)) old (Ends turn.Lost) new
  compare-empty new none image proc body pc w = none (λ y rest. on_number rest (λ x below. Run body (suc pc) (ATruth (related (rel_of r) x y) ∷ below) [] [] w))

  pub compare-single : (mid new : List Standing) (y : Decimal) → PopsNumber old y mid → LacksNumber mid → Moves (instr.Compare (CompareNum r)) old (Ends turn.Lost) new
  compare-single mid new y pops none image proc body pc w =
      pops (λ y rest. on_number rest (λ x below. Run body (suc pc) (ATruth (related (rel_of r) x y) ∷ below) [] [] w))
      ∙ none (λ x below. Run body (suc pc) (ATruth (related (rel_of r) x y) ∷ below) [] [] w)

  pub compare-pushes : (mid below new : List Standing) (x y : Decimal) (b : Bool) (step : Step) → PopsNumber old y mid → PopsNumber mid x below → b ≡ related (rel_of r) x y → IsPushed step below new (ATruth b) → Moves (instr.Compare (CompareNum r)) old step new
  compare-pushes mid below new x y b step first second is pushed image proc body pc w =
      pushed-leads _ body pc step below new (ATruth b) w
      (first (λ y rest. on_number rest (λ x below. Run body (suc pc) (ATruth (related (rel_of r) x y) ∷ below) [] [] w))
      ∙ second (λ x below. Run body (suc pc) (ATruth (related (rel_of r) x y) ∷ below) [] [] w)
      ∙ ap (λ v. Run body (suc pc) (ATruth v ∷ below) [] [] w) (sym is))
      pushed

module _ (p : Place) (slots : ℕ) (cells : List Decimal) (old : List Standing) where
  -- what a load leads to, from the memory
  abbrev loads : (body pc : ℕ) → MachineWorld → Memory → State
  loads body pc w m = with_some (spot_of p m.frame) (λ s. with_some (slice_get m.cells s.cell) (λ c. Run body (suc pc) (ANumber c.number ∷ old) [] [] w))

  pub load-nowhere : (new : List Standing) → None ≡ spot_of p (frame_of slots) → Reads (memory_of slots cells) (instr.Push (Load p)) old (Ends turn.Lost) new
  load-nowhere new is image proc body pc w e =
      ap (λ m. loads body pc w m) e
      ∙ ap (λ o. with_some o (λ s. with_some (slice_get (cells_of cells) s.cell) (λ c. Run body (suc pc) (ANumber c.number ∷ old) [] [] w))) (sym is)

  -- the place has a cell of that number
  placed : (body pc : ℕ) (w : MachineWorld) (n : ℕ) → w.cells ≡ memory_of slots cells → Some (reference n) ≡ spot_of p (frame_of slots) → loads body pc w w.cells ≡ with_some (slice_get (cells_of cells) n) (λ c. Run body (suc pc) (ANumber c.number ∷ old) [] [] w)
  placed body pc w n e is =
      ap (λ m. loads body pc w m) e
      ∙ ap (λ o. with_some o (λ s. with_some (slice_get (cells_of cells) s.cell) (λ c. Run body (suc pc) (ANumber c.number ∷ old) [] [] w))) (sym is)

  pub load-missing : (new : List Standing) (n : ℕ) → Some (reference n) ≡ spot_of p (frame_of slots) → None ≡ slice_get (cells_of cells) n → Reads (memory_of slots cells) (instr.Push (Load p)) old (Ends turn.Lost) new
  load-missing new n is none image proc body pc w e =
      placed body pc w n e is ∙ ap (λ o. with_some o (λ c. Run body (suc pc) (ANumber c.number ∷ old) [] [] w)) (sym none)

  pub load-pushes : (new : List Standing) (n : ℕ) (x : Decimal) (step : Step) → Some (reference n) ≡ spot_of p (frame_of slots) → Some (cell_with x) ≡ slice_get (cells_of cells) n → IsPushed step old new (ANumber x) → Reads (memory_of slots cells) (instr.Push (Load p)) old step new
  load-pushes new n x step is there pushed image proc body pc w e =
      pushed-leads _ body pc step old new (ANumber x) w
      (placed body pc w n e is ∙ ap (λ o. with_some o (λ c. Run body (suc pc) (ANumber c.number ∷ old) [] [] w)) (sym there))
      pushed

  pub refer-nowhere : (new : List Standing) → None ≡ spot_of p (frame_of slots) → Reads (memory_of slots cells) (instr.Push (Ref p)) old (Ends turn.Lost) new
  refer-nowhere new is image proc body pc w e =
      ap (λ m. with_some (spot_of p m.frame) (λ s. Run body (suc pc) (ASpot s ∷ old) [] [] w)) e
      ∙ ap (λ o. with_some o (λ s. Run body (suc pc) (ASpot s ∷ old) [] [] w)) (sym is)

  pub refer-pushes : (new : List Standing) (n : ℕ) (step : Step) → Some (reference n) ≡ spot_of p (frame_of slots) → IsPushed step old new (ASpot (reference n)) → Reads (memory_of slots cells) (instr.Push (Ref p)) old step new
  refer-pushes new n step is pushed image proc body pc w e =
      pushed-leads _ body pc step old new (ASpot (reference n)) w
      (ap (λ m. with_some (spot_of p m.frame) (λ s. Run body (suc pc) (ASpot s ∷ old) [] [] w)) e
      ∙ ap (λ o. with_some o (λ s. Run body (suc pc) (ASpot s ∷ old) [] [] w)) (sym is))
      pushed

-- a comparison has a relation
pub compare-is : (i : CompareInstr) → (r : Relation) × (i ≡ CompareNum r)
compare-is (CompareNum r) = (r, refl)
