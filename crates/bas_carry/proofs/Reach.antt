-- What the machine reaches for each end of a line or block of the meaning.
use Rattle.std.proofs.Common.{◌≡◌, ◌⊎◌, ℕ, suc, ◌<◌, ◌≤◌, List, [], Option, Some, None, subst, arith, ⊎_elim}
use Rattle.std.specs.Prelude.{slice_get}
use Rattle.bas_ast.specs.Tree.{Stmt, Block}
use Rattle.bas_mean.specs.World.{Variable, World, seen}
use Rattle.bas_mean.specs.Outcome.{Trouble, Raised, Halted, Finished, Chained, Beyond, Undefined, Evaluated, Gives, Fails, Asks, Target, Outcome, Normal, Jumps, Leaves, Away, Retries, Continues, PassesOn, Returns, Ends, Ended, GoesOn}
use Rattle.bas_mean.specs.Place.{Region, RunKind, Place, Lower}
use Rattle.bas_code.specs.declared.body.Image.{Image}
use Rattle.bas_code.specs.State.{Spot, MachineWorld, Activation, Waiting, State, Run, Over, spot_of, depth_of}
use Rattle.bas_code.specs.Guards.{handlers_at}
use Rattle.bas_code.specs.Machine.{unwound}
use Rattle.bas_carry.specs.Text.{Text, Static, inside, JumpFrom}
use Rattle.bas_carry.specs.Shown.{Invocation, shown, Lives, AllDistinct}
use Rattle.bas_carry.specs.Carries.{StmtAt, LinesAt}
use Rattle.bas_carry.proofs.Steps.{Goes, goes_on}
use Rattle.bas_code.specs.declared.instr.Place as instr

-- where a run stands, on both sides
pub record Stand : Type 0 where
  pub acts : List Activation
  pub callers : List Waiting
  pub run : RunKind
  pub inv : Invocation

abbrev pub place_of : Text → Stand → Place
place_of text x = record { handlers = []; run = x.run; depth = depth_of x.acts x.callers; unit = text.unit; refs = x.inv.refs }

-- the present run at an address, with nothing on its stack
abbrev pub run_at : Text → ℕ → Stand → World → State
run_at text pc x w = Run text.body pc [] x.acts x.callers (shown x.inv w)

-- a variable's place has the cell of what the variable stands for
pub record SeenAt (x : Variable) (p : instr.Place) (v : Invocation) : Type 0 where
  pub spot : Spot
  pub is : spot_of p v.frame ≡ Some spot
  pub lives : Lives v.shape (v.refs x) spot.cell

-- the run stands in the text: this holds as long as its invocation lives
pub record Good (image : Image) (text : Text) (x : Stand) : Type 0 where
  pub body : slice_get image.procs text.body ≡ Some text.proc
  pub unit : text.proc.unit ≡ text.unit
  pub list : (pc : ℕ) → handlers_at text.proc.guards pc x.acts ≡ []
  pub sees : (y : Variable) (p : instr.Place) → text.places y ≡ Some p → SeenAt y p x.inv
  pub distinct : AllDistinct x.inv.shape

module _ (image : Image) (text : Text) where
  -- a jump that waits at an address, or has been made
  abbrev pub Ready : ℕ → Option ℕ → Target → Type 0
  Ready pc d t = JumpFrom text d t pc ⊎ ((d ≡ Some 0) × (pc ≡ text.addr t))

  pub never_ready : (pc : ℕ) (t : Target) → Ready pc None t → ⊥
  never_ready pc t r = ⊎_elim (λ p. p) (λ q. let e : None ≡ Some 0 = q.0 in cc) r

  pub record JumpReached (x : Stand) (drops : Target → Option ℕ) (c : State) (t : Target) (w : World) : Type 0 where
    pub pc : ℕ
    pub jump : Ready pc (drops t) t
    pub goes : Goes image c (run_at text pc x w)

  abbrev pub TroubleReached : ℕ → Stand → State → Trouble → World → Type 0
  TroubleReached n x c (Raised y) w = (w.left < n) × Goes image c (unwound image text.body y x.callers (shown x.inv w))
  TroubleReached n x c Halted w = Goes image c (Over (Ended (seen w)))
  TroubleReached n x c Finished w = ⊥
  TroubleReached n x c (Chained program values) w = ⊥
  TroubleReached n x c Beyond w = Goes image c (Over (GoesOn (seen w)))
  TroubleReached n x c Undefined w = ⊥

  -- what is reached from c, with n as a bound on the lines left
  abbrev pub Reaches : ℕ → Stand → (Target → Option ℕ) → (to : ℕ) → State → Outcome → Type 0
  Reaches n x drops to c (Normal w) = (w.left < n) × Goes image c (run_at text to x w)
  Reaches n x drops to c (Jumps t w) = (w.left < n) × JumpReached x drops c t w
  Reaches n x drops to c (Leaves k w) = ⊥
  Reaches n x drops to c (Away k t w) = ⊥
  Reaches n x drops to c (Retries w) = ⊥
  Reaches n x drops to c (Continues w) = ⊥
  Reaches n x drops to c (PassesOn w) = ⊥
  Reaches n x drops to c (Returns w) = ⊥
  Reaches n x drops to c (Ends t w) = TroubleReached n x c t w

  pub trouble_from : (n : ℕ) (x : Stand) (c d : State) (t : Trouble) (w : World) → Goes image c d → TroubleReached n x d t w → TroubleReached n x c t w
  trouble_from n x c d (Raised y) w g r = (r.0, goes_on image c d _ g r.1)
  trouble_from n x c d Halted w g r = goes_on image c d _ g r
  trouble_from n x c d Finished w g r = r
  trouble_from n x c d (Chained program values) w g r = r
  trouble_from n x c d Beyond w g r = goes_on image c d _ g r
  trouble_from n x c d Undefined w g r = r

  trouble_more : (m n : ℕ) (x : Stand) (c : State) (t : Trouble) (w : World) → m ≤ n → TroubleReached m x c t w → TroubleReached n x c t w
  trouble_more m n x c (Raised y) w h r = (omega (arith, r.0), r.1)
  trouble_more m n x c Halted w h r = r
  trouble_more m n x c Finished w h r = r
  trouble_more m n x c (Chained program values) w h r = r
  trouble_more m n x c Beyond w h r = r
  trouble_more m n x c Undefined w h r = r

  jump_from : (x : Stand) (drops : Target → Option ℕ) (c d : State) (t : Target) (w : World) → Goes image c d → JumpReached x drops d t w → JumpReached x drops c t w
  jump_from x drops c d t w g r = record { pc = r.pc; jump = r.jump; goes = goes_on image c d _ g r.goes }

  -- what d reaches is reached from a state that goes to d
  pub reaches_from : (n : ℕ) (x : Stand) (drops : Target → Option ℕ) (to : ℕ) (c d : State) (o : Outcome) → Goes image c d → Reaches n x drops to d o → Reaches n x drops to c o
  reaches_from n x drops to c d (Normal w) g r = (r.0, goes_on image c d _ g r.1)
  reaches_from n x drops to c d (Jumps t w) g r = (r.0, jump_from x drops c d t w g r.1)
  reaches_from n x drops to c d (Leaves k w) g r = r
  reaches_from n x drops to c d (Away k t w) g r = r
  reaches_from n x drops to c d (Retries w) g r = r
  reaches_from n x drops to c d (Continues w) g r = r
  reaches_from n x drops to c d (PassesOn w) g r = r
  reaches_from n x drops to c d (Returns w) g r = r
  reaches_from n x drops to c d (Ends t w) g r = trouble_from n x c d t w g r

  -- a larger bound on the lines
  pub more_lines : (m n : ℕ) (x : Stand) (drops : Target → Option ℕ) (to : ℕ) (c : State) (o : Outcome) → m ≤ n → Reaches m x drops to c o → Reaches n x drops to c o
  more_lines m n x drops to c (Normal w) h r = (omega (arith, r.0), r.1)
  more_lines m n x drops to c (Jumps t w) h r = (omega (arith, r.0), r.1)
  more_lines m n x drops to c (Leaves k w) h r = r
  more_lines m n x drops to c (Away k t w) h r = r
  more_lines m n x drops to c (Retries w) h r = r
  more_lines m n x drops to c (Continues w) h r = r
  more_lines m n x drops to c (PassesOn w) h r = r
  more_lines m n x drops to c (Returns w) h r = r
  more_lines m n x drops to c (Ends t w) h r = trouble_more m n x c t w h r

  pub reaches_to : (n : ℕ) (x : Stand) (drops : Target → Option ℕ) (to to' : ℕ) (c : State) (o : Outcome) → to ≡ to' → Reaches n x drops to c o → Reaches n x drops to' c o
  reaches_to n x drops to to' c o e r = subst (λ t. Reaches n x drops t c o) e r

  -- the same, where an end in order may have taken no line
  abbrev pub Loosely : ℕ → Stand → (Target → Option ℕ) → (to : ℕ) → State → Outcome → Type 0
  Loosely n x drops to c (Normal w) = (w.left < suc n) × Goes image c (run_at text to x w)
  Loosely n x drops to c (Jumps t w) = Reaches n x drops to c (Jumps t w)
  Loosely n x drops to c (Leaves k w) = Reaches n x drops to c (Leaves k w)
  Loosely n x drops to c (Away k t w) = Reaches n x drops to c (Away k t w)
  Loosely n x drops to c (Retries w) = Reaches n x drops to c (Retries w)
  Loosely n x drops to c (Continues w) = Reaches n x drops to c (Continues w)
  Loosely n x drops to c (PassesOn w) = Reaches n x drops to c (PassesOn w)
  Loosely n x drops to c (Returns w) = Reaches n x drops to c (Returns w)
  Loosely n x drops to c (Ends t w) = Reaches n x drops to c (Ends t w)

  pub tight : (n : ℕ) (x : Stand) (drops : Target → Option ℕ) (to : ℕ) (c : State) (o : Outcome) → Loosely n x drops to c o → Reaches (suc n) x drops to c o
  tight n x drops to c (Normal w) r = r
  tight n x drops to c (Jumps t w) r = more_lines n (suc n) x drops to c (Jumps t w) (omega arith) r
  tight n x drops to c (Leaves k w) r = r
  tight n x drops to c (Away k t w) r = r
  tight n x drops to c (Retries w) r = r
  tight n x drops to c (Continues w) r = r
  tight n x drops to c (PassesOn w) r = r
  tight n x drops to c (Returns w) r = r
  tight n x drops to c (Ends t w) r = more_lines n (suc n) x drops to c (Ends t w) (omega arith) r

  pub loose : (n : ℕ) (x : Stand) (drops : Target → Option ℕ) (to : ℕ) (c : State) (o : Outcome) → Reaches n x drops to c o → Loosely n x drops to c o
  loose n x drops to c (Normal w) r = (omega (arith, r.0), r.1)
  loose n x drops to c (Jumps t w) r = r
  loose n x drops to c (Leaves k w) r = r
  loose n x drops to c (Away k t w) r = r
  loose n x drops to c (Retries w) r = r
  loose n x drops to c (Continues w) r = r
  loose n x drops to c (PassesOn w) r = r
  loose n x drops to c (Returns w) r = r
  loose n x drops to c (Ends t w) r = r

  pub loosely_from : (n : ℕ) (x : Stand) (drops : Target → Option ℕ) (to : ℕ) (c d : State) (o : Outcome) → Goes image c d → Loosely n x drops to d o → Loosely n x drops to c o
  loosely_from n x drops to c d (Normal w) g r = (r.0, goes_on image c d _ g r.1)
  loosely_from n x drops to c d (Jumps t w) g r = reaches_from n x drops to c d (Jumps t w) g r
  loosely_from n x drops to c d (Leaves k w) g r = r
  loosely_from n x drops to c d (Away k t w) g r = r
  loosely_from n x drops to c d (Retries w) g r = r
  loosely_from n x drops to c d (Continues w) g r = r
  loosely_from n x drops to c d (PassesOn w) g r = r
  loosely_from n x drops to c d (Returns w) g r = r
  loosely_from n x drops to c d (Ends t w) g r = reaches_from n x drops to c d (Ends t w) g r

  -- the words of a line, or a part of them: P says where a value leads
  abbrev pub Comes : {V : Type 0} → ℕ → Stand → State → (P : V → World → Type 0) → Evaluated V → Type 0
  Comes n x c P (Gives v w) = (w.left < n) × P v w
  Comes n x c P (Fails t w) = TroubleReached n x c t w
  Comes n x c P (Asks y w) = ⊥

  -- a value leads to a state that it determines
  abbrev pub Lands : {V : Type 0} → ℕ → Stand → State → (V → MachineWorld → State) → Evaluated V → Type 0
  Lands n x c f r = Comes n x c (λ v w. Goes image c (f v (shown x.inv w))) r

  -- whatever runs with fewer lines left does what it means
  pub record Sim (low : Lower) (n : ℕ) : Type 0 where
    pub stmt : (b : ℕ) → b ≤ n → (st : Static) (s : Stmt) (from to : ℕ) (x : Stand) (w : World) → Good image text x → StmtAt text st s from to → w.left < b → Reaches b x st.drops to (run_at text from x w) (low.stmt (place_of text x) st.around s w)
    pub lines : (b : ℕ) → b ≤ n → (st : Static) (r : Region) (rest : Block) (top from to : ℕ) (x : Stand) (w : World) → Good image text x → LinesAt text (inside r st) r.closing r.block top to → LinesAt text (inside r st) r.closing rest from to → w.left < b → Reaches b x st.drops to (run_at text from x w) (low.lines (place_of text x) st.around r rest w)

  pub sim_less : (low : Lower) (m n : ℕ) → m ≤ n → Sim low n → Sim low m
  sim_less low m n h s = record {
    stmt = λ b hb. s.stmt b (omega arith);
    lines = λ b hb. s.lines b (omega arith);
  }
