-- Storing a number through references.
use Rattle.std.proofs.Common.{◌≡◌, ℕ, suc, ◌-◌, ◌<◌, ◌≤◌, List, [], ◌∷◌, length, Option, Bool, true, false, refl, sym, ap, ◌∙◌, arith}
use Rattle.std.specs.Prelude.{slice_get, slice_set}
use Rattle.bas_dec.specs.Number.{Number as Decimal}
use Rattle.bas_mean.specs.World.{Cell, with_cells}
use Rattle.bas_mean.specs.Outcome.{Lost}
use Rattle.bas_code.specs.declared.instr.Instr.TheVariants as instr
use Rattle.bas_code.specs.declared.instr.StoreInstr.{StoreInstr}
use Rattle.bas_code.specs.declared.instr.StoreInstr.TheVariants.{Store}
use Rattle.bas_code.specs.declared.body.Proc.{Proc}
use Rattle.bas_code.specs.declared.body.Image.{Image}
use Rattle.bas_code.specs.State.{Spot, Operand as Standing, Memory, MachineWorld, State, Run, Over}
use Rattle.bas_code.specs.Machine.{with_some, on_number, on_spot, on_spots, stores}
use Rattle.bas_vm.specs.declared.turn.Turn.TheVariants as turn
use Rattle.bas_vm.specs.declared.turn.Step.TheVariants.{Onward, Ends}
use Rattle.bas_vm.specs.Shown.{reference, cells_of, frame_of, memory_of}
use Rattle.bas_vm.specs.Rows.{Writes, StoresOne, StoresEach}
use Rattle.bas_vm.proofs.Slots.{cells-within, cells-past, cells-set}

-- what is stored in a cell that may be there
module _ (image : Image) (proc : Proc) (body pc slots : ℕ) (later : List Spot) (go : MachineWorld → State) (w : MachineWorld) (n : ℕ) (x : Decimal) where
  -- what follows once the cell was looked up in a memory
  abbrev follows : Memory → Option Cell → State
  follows m o = with_some o (λ c. stores image proc later x body pc [] [] go (with_cells (record { cells = slice_set m.cells n (record c { number = x }); frame = m.frame }) w))

  looked : (was : List Decimal) → w.cells ≡ memory_of slots was → stores image proc (reference n ∷ later) x body pc [] [] go w ≡ follows (memory_of slots was) (slice_get (cells_of was) n)
  looked was e = ap (λ m. follows m (slice_get m.cells n)) e

  there : (was now : List Decimal) → w.cells ≡ memory_of slots was → n < length was → now ≡ slice_set was n x →
      stores image proc (reference n ∷ later) x body pc [] [] go w ≡ stores image proc later x body pc [] [] go (with_cells (memory_of slots now) w)
  there was now e lt is =
      looked was e
      ∙ ap (λ o. follows (memory_of slots was) o) (cells-within was n lt).1
      ∙ ap (λ cs. stores image proc later x body pc [] [] go (with_cells (record { cells = cs; frame = frame_of slots }) w)) (cells-set was n x ∙ ap cells_of (sym is))

  nowhere : (was : List Decimal) → w.cells ≡ memory_of slots was → length was ≤ n → stores image proc (reference n ∷ later) x body pc [] [] go w ≡ Over Lost
  nowhere was e le = looked was e ∙ ap (λ o. follows (memory_of slots was) o) (cells-past was n le)

pub stored-there : (n : ℕ) (x : Decimal) (was now : List Decimal) → n < length was → now ≡ slice_set was n x → StoresOne n x was true now
stored-there n x was now lt is image proc body pc slots later go w e = there image proc body pc slots later go w n x was now e lt is

pub stored-nowhere : (n : ℕ) (x : Decimal) (was : List Decimal) → length was ≤ n → StoresOne n x was false was
stored-nowhere n x was le image proc body pc slots later go w e = nowhere image proc body pc slots later go w n x was e le

-- no reference
pub each-none : (count : ℕ) (x : Decimal) (was : List Decimal) (old : List Standing) → count ≡ 0 → StoresEach count x was old true was old
each-none count x was old is image proc body pc slots later go w e =
    ap (λ k. on_spots k old later (λ ms below. stores image proc ms x body pc [] [] (λ w1. go below w1) w)) is
    ∙ ap (λ m. stores image proc later x body pc [] [] (λ w1. go old w1) (with_cells m w)) e

-- a reference on top, and others under it
each-first : (count : ℕ) (old mid : List Standing) (later : List Spot) (n : ℕ) (go : List Spot → List Standing → State) → 0 < count → ((f : Spot → List Standing → State) → on_spot old f ≡ f (reference n) mid) → on_spots count old later go ≡ on_spots (count - 1) mid (reference n ∷ later) go
each-first count old mid later n go lt top =
    ap (λ k. on_spots k old later go) (let e : count ≡ suc (count - 1) = omega arith in e)
    ∙ top (λ m rest. on_spots (count - 1) rest (m ∷ later) go)

pub each-more : (count : ℕ) (x : Decimal) (was one now : List Decimal) (old mid new : List Standing) (n : ℕ) (done : Bool) → 0 < count → ((f : Spot → List Standing → State) → on_spot old f ≡ f (reference n) mid) →
    StoresEach (count - 1) x was mid true one new → StoresOne n x one done now → StoresEach count x was old done now new
each-more count x was one now old mid new n done lt top rest first image proc body pc slots later go w e =
    each-first count old mid later n (λ ms below. stores image proc ms x body pc [] [] (λ w1. go below w1) w) lt top
    ∙ rest image proc body pc slots (reference n ∷ later) go w e
    ∙ first image proc body pc slots later (λ w1. go new w1) (with_cells (memory_of slots one) w) refl

pub each-lost : (count : ℕ) (x : Decimal) (was one now : List Decimal) (old mid new end : List Standing) (n : ℕ) → 0 < count → ((f : Spot → List Standing → State) → on_spot old f ≡ f (reference n) mid) →
    StoresEach (count - 1) x was mid false one new → StoresEach count x was old false now end
each-lost count x was one now old mid new end n lt top rest image proc body pc slots later go w e =
    each-first count old mid later n (λ ms below. stores image proc ms x body pc [] [] (λ w1. go below w1) w) lt top
    ∙ rest image proc body pc slots (reference n ∷ later) go w e

pub each-empty : (count : ℕ) (x : Decimal) (was now : List Decimal) (old new : List Standing) → 0 < count → ((f : Spot → List Standing → State) → on_spot old f ≡ Over Lost) → StoresEach count x was old false now new
each-empty count x was now old new lt none image proc body pc slots later go w e =
    ap (λ k. on_spots k old later (λ ms below. stores image proc ms x body pc [] [] (λ w1. go below w1) w)) (let e : count ≡ suc (count - 1) = omega arith in e)
    ∙ none (λ m rest. on_spots (count - 1) rest (m ∷ later) (λ ms below. stores image proc ms x body pc [] [] (λ w1. go below w1) w))

-- the whole instruction
pub store-done : (count slots : ℕ) (x : Decimal) (was now : List Decimal) (old mid new : List Standing) → ((f : Decimal → List Standing → State) → on_number old f ≡ f x mid) →
    StoresEach count x was mid true now new → Writes slots was now (instr.Store (Store count)) old Onward new
store-done count slots x was now old mid new top each image proc body pc w e =
    top (λ y rest. on_spots count rest [] (λ spots below. stores image proc spots y body pc [] [] (λ w1. Run body (suc pc) below [] [] w1) w))
    ∙ each image proc body pc slots [] (λ below w1. Run body (suc pc) below [] [] w1) w e

pub store-lost : (count slots : ℕ) (x : Decimal) (was now : List Decimal) (old mid new : List Standing) → ((f : Decimal → List Standing → State) → on_number old f ≡ f x mid) →
    StoresEach count x was mid false now new → Writes slots was now (instr.Store (Store count)) old (Ends turn.Lost) new
store-lost count slots x was now old mid new top each image proc body pc w e =
    top (λ y rest. on_spots count rest [] (λ spots below. stores image proc spots y body pc [] [] (λ w1. Run body (suc pc) below [] [] w1) w))
    ∙ each image proc body pc slots [] (λ below w1. Run body (suc pc) below [] [] w1) w e

pub store-empty : (count slots : ℕ) (was now : List Decimal) (old new : List Standing) → ((f : Decimal → List Standing → State) → on_number old f ≡ Over Lost) → Writes slots was now (instr.Store (Store count)) old (Ends turn.Lost) new
store-empty count slots was now old new none image proc body pc w e =
    none (λ y rest. on_spots count rest [] (λ spots below. stores image proc spots y body pc [] [] (λ w1. Run body (suc pc) below [] [] w1) w))

-- a store has a number of references
pub store-is : (i : StoreInstr) → (count : ℕ) × (i ≡ Store count)
store-is (Store count) = (count, refl)
