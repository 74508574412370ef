-- How expressions, lines and blocks end.
use Rattle.std.specs.Prelude.{ℕ, List}
use Rattle.bas_dec.specs.Number.{Number}
use Rattle.bas_mean.specs.World.{World, Seen}

-- an exception: its number, and the line and the unit at which it first arose
pub record Exception : Type 0 where
  pub number : ℕ
  pub line : ℕ
  pub unit : List ℕ

-- the value of an expression
pub data Value : Type 0 where
  OfNumber : (number : Number) → Value
  OfText : (text : List ℕ) → Value

-- what passes through all blocks: an unhandled exception, STOP, the end of the invocation's body, a
-- CHAIN, and the end of the lines left; Undefined is for what breaks a rule or is not built
pub data Trouble : Type 0 where
  Raised : (x : Exception) → Trouble
  Halted : Trouble
  Finished : Trouble
  Chained : (program : List ℕ) (values : List Value) → Trouble
  Beyond : Trouble
  Undefined : Trouble

-- an expression or the words of a line: they give a value, or fail, or ask that the line be executed
-- again if there is no handler
pub data Evaluated (V : Type 0) : Type 0 where
  Gives : (v : V) (w : World) → Evaluated V
  Fails : (t : Trouble) (w : World) → Evaluated V
  Asks : (x : Exception) (w : World) → Evaluated V

-- goes on with the value
abbrev pub then_with : {A B : Type 0} → Evaluated A → (A → World → Evaluated B) → Evaluated B
then_with (Gives v w) go = go v w
then_with (Fails t w) go = Fails t w
then_with (Asks x w) go = Asks x w

-- nothing is said of it: it breaks a rule of the language, or its construct is not built
abbrev pub undefined : {V : Type 0} → World → Evaluated V
undefined w = Fails Undefined w

-- where a jump goes: to a line, past the end of the loop that a line opens, or to that loop's next iteration
pub data Target : Type 0 where
  LineOf : (line : ℕ) → Target
  EndOf : (line : ℕ) → Target
  TurnOf : (line : ℕ) → Target

-- what the words of a simple line lead to
pub data Next : Type 0 where
  Onward : Next
  Jump : (target : Target) → Next
  Back : Next
  Finish : Next
  Halt : Next
  Retry : Next
  Continue : Next
  PassOn : Next

-- how a line or block ends: in order, by a jump, by unwinding to the handler that is k-th from outside (at
-- the end of a handler's block, or with a jump), by RETRY, CONTINUE or EXIT HANDLER, by RETURN, or in a trouble
pub data Outcome : Type 0 where
  Normal : (w : World) → Outcome
  Jumps : (target : Target) (w : World) → Outcome
  Leaves : (k : ℕ) (w : World) → Outcome
  Away : (k : ℕ) (target : Target) (w : World) → Outcome
  Retries : (w : World) → Outcome
  Continues : (w : World) → Outcome
  PassesOn : (w : World) → Outcome
  Returns : (w : World) → Outcome
  Ends : (t : Trouble) (w : World) → Outcome

-- what follows the words of a simple line
abbrev pub follow : Next → World → Outcome
follow Onward w = Normal w
follow (Jump target) w = Jumps target w
follow Back w = Returns w
follow Finish w = Ends Finished w
follow Halt w = Ends Halted w
follow Retry w = Retries w
follow Continue w = Continues w
follow PassOn w = PassesOn w

-- what a construct does with the ends of its part
pub record Takes : Type 0 where
  pub normal : World → Outcome
  pub jumps : Target → World → Outcome
  pub leaves : ℕ → World → Outcome
  pub away : ℕ → Target → World → Outcome

-- a construct that passes on every end
abbrev pub takes_none : Takes
takes_none = record { normal = Normal; jumps = Jumps; leaves = Leaves; away = Away }

-- the other ends are passed on
abbrev pub route : Takes → Outcome → Outcome
route f (Normal w) = f.normal w
route f (Jumps target w) = f.jumps target w
route f (Leaves k w) = f.leaves k w
route f (Away k target w) = f.away k target w
route f (Retries w) = Retries w
route f (Continues w) = Continues w
route f (PassesOn w) = PassesOn w
route f (Returns w) = Returns w
route f (Ends t w) = Ends t w

-- how a run ends: of its own accord, by an exception, or with no line left; `Lost` is none of these
pub data RunEnd : Type 0 where
  Ended : (seen : Seen) → RunEnd
  Stopped : (x : Exception) (seen : Seen) → RunEnd
  GoesOn : (seen : Seen) → RunEnd
  Lost : RunEnd
