-- The states of the machine.
use Rattle.std.specs.Prelude.{ℕ, zero, suc, Bool, List, [], ◌∷◌, ◌++◌, length, replicate, Option, Some, None, slice_get}
use Rattle.bas_dec.specs.Number.{Number}
use Rattle.bas_mean.specs.World.{Cell, fresh_cell, WorldOf}
use Rattle.bas_mean.specs.Outcome.{Exception, RunEnd}
use Rattle.bas_code.specs.declared.instr.Place.{Place}
use Rattle.bas_code.specs.declared.instr.Space.{Space}
use Rattle.bas_code.specs.declared.instr.Space.TheVariants.{Own, Container, Module, Use}
use Rattle.bas_code.specs.declared.body.LineEntry.{LineEntry}
use Rattle.bas_code.specs.declared.body.Guard.{Guard}

-- a reference: the number of a cell
pub record Spot : Type 0 where
  pub cell : ℕ

-- what the present invocation sees: its slots, those of its container, and the first of its own cells
pub record Frame : Type 0 where
  pub own : List Spot
  pub container : List Spot
  pub first : ℕ

-- the live cells, and the frame of the present invocation
pub record Memory : Type 0 where
  pub cells : List Cell
  pub frame : Frame

-- the world of the machine
abbrev pub MachineWorld : Type 0
MachineWorld = WorldOf Memory

-- what stands on the operand stack
pub data Operand : Type 0 where
  ANumber : (x : Number) → Operand
  AText : (text : List ℕ) → Operand
  ATruth : (b : Bool) → Operand
  ASpot : (spot : Spot) → Operand

-- a handler that was started: by what, at which line, and how many activations were live when its
-- WHEN block was entered
pub record Activation : Type 0 where
  pub x : Exception
  pub entry : LineEntry
  pub guard : Guard
  pub base : ℕ

-- a run that waits for the one above it, at a GOSUB or at a call; its activations stand newest first
pub data Waiting : Type 0 where
  AtGosub : (body pc : ℕ) (acts : List Activation) → Waiting
  AtCall : (body pc : ℕ) (stack : List Operand) (acts : List Activation) (frame : Frame) → Waiting

-- the present run at an address of a body, with its operand stack, its activations, and the runs
-- that wait for it; or the end
pub data State : Type 0 where
  Run : (body pc : ℕ) (stack : List Operand) (acts : List Activation) (callers : List Waiting) (w : MachineWorld) → State
  Over : (e : RunEnd) → State

-- the cell of a place
abbrev pub spot_in : Space → ℕ → Frame → Option Spot
spot_in Own n f = slice_get f.own n
spot_in Container n f = slice_get f.container n
spot_in Module n f = Some (record { cell = n })
spot_in Use n f = None

-- the cell of a place
abbrev pub spot_of : Place → Frame → Option Spot
spot_of p f = spot_in p.space p.number f

-- k slots whose cells begin at a number
abbrev pub slots_from : ℕ → ℕ → List Spot
slots_from first zero = []
slots_from first (suc k) = record { cell = first } ∷ slots_from (suc first) k

-- a program's invocation begins with a fresh cell for each slot
abbrev pub entered : (slots : ℕ) → Memory → Memory
entered slots m = record {
  cells = m.cells ++ replicate slots fresh_cell;
  frame = record { own = slots_from (length m.cells) slots; container = []; first = length m.cells };
}

-- no invocation is live, and there are no cells
abbrev pub empty_memory : Memory
empty_memory = record { cells = []; frame = record { own = []; container = []; first = 0 } }

-- the live invocations, GOSUB runs and activations
abbrev pub live_acts : List Activation → ℕ → ℕ
live_acts [] n = n
live_acts (a ∷ acts) n = suc (live_acts acts n)

-- the live runs and their activations, the present run among them
abbrev pub live_runs : List Waiting → ℕ
live_runs [] = 1
live_runs (AtGosub body pc acts ∷ callers) = suc (live_acts acts (live_runs callers))
live_runs (AtCall body pc stack acts frame ∷ callers) = suc (live_acts acts (live_runs callers))

-- the depth of a state
abbrev pub depth_of : List Activation → List Waiting → ℕ
depth_of acts callers = live_acts acts (live_runs callers)
