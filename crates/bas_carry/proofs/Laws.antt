-- One law for the words of a line and their parts, and for a counted line.
use Rattle.std.proofs.Common.{◌≡◌, ℕ, zero, suc, ◌<◌, List, [], Option, Some, sym, ap, ◌∙◌, arith}
use Rattle.bas_mean.specs.World.{World, with_left}
use Rattle.bas_mean.specs.Outcome.{Exception, Trouble, Raised, Halted, Finished, Chained, Beyond, Undefined, Evaluated, Gives, Fails, Asks, then_with, Target, Outcome}
use Rattle.bas_mean.specs.Operators.{Answer, Found, Raises}
use Rattle.bas_mean.specs.Place.{Here, Lower}
use Rattle.bas_mean.specs.Expression.{answered}
use Rattle.bas_mean.specs.Line.{counted, worded, troubled, handled, line}
use Rattle.bas_code.specs.declared.instr.Instr.{Instr}
use Rattle.bas_code.specs.declared.instr.Instr.TheVariants as instr
use Rattle.bas_code.specs.declared.body.LineEntry.{LineEntry}
use Rattle.bas_code.specs.declared.body.Image.{Image}
use Rattle.bas_code.specs.State.{MachineWorld, Operand, State, Run}
use Rattle.bas_code.specs.Guards.{handlers_at, entry_at}
use Rattle.bas_code.specs.Machine.{with_some, started, exception_in, unwound, raised, on_answer, marked, act}
use Rattle.bas_carry.specs.Text.{Text, At}
use Rattle.bas_carry.specs.Shown.{shown}
use Rattle.bas_carry.proofs.Steps.{Goes, stays, goes_on, steps, goes_to}
use Rattle.bas_carry.proofs.Reach.{Stand, place_of, run_at, Good, TroubleReached, Reaches, trouble_from, reaches_from, Comes, Lands}

module _ (image : Image) (text : Text) where
  -- the state of the run at an address, with a stack
  abbrev pub at_with : ℕ → List Operand → Stand → MachineWorld → State
  at_with pc stack x w = Run text.body pc stack x.acts x.callers w

  pub executes : (x : Stand) → Good image text x → (i : Instr) (pc : ℕ) (stack : List Operand) (w : MachineWorld) → At text pc i → Goes image (at_with pc stack x w) (act image text.proc i text.body pc stack x.acts x.callers w)
  executes x good i pc stack w at = steps image text.proc i text.body pc stack x.acts x.callers w good.body at

  -- from a state that goes to d
  pub comes_from : {V : Type 0} (n : ℕ) (x : Stand) (c d : State) (P Q : V → World → Type 0) (r : Evaluated V) → Goes image c d → ((v : V) (w : World) → P v w → Q v w) → Comes image text n x d P r → Comes image text n x c Q r
  comes_from n x c d P Q (Gives v w) g f a = (a.0, f v w a.1)
  comes_from n x c d P Q (Fails t w) g f a = trouble_from image text n x c d t w g a
  comes_from n x c d P Q (Asks y w) g f a = a

  pub lands_from : {V : Type 0} (n : ℕ) (x : Stand) (c d : State) (f : V → MachineWorld → State) (r : Evaluated V) → Goes image c d → Lands image text n x d f r → Lands image text n x c f r
  lands_from n x c d f r g a = comes_from n x c d (λ v w. Goes image d (f v (shown x.inv w))) (λ v w. Goes image c (f v (shown x.inv w))) r g (λ v w p. goes_on image c d _ g p) a

  -- a value, and what goes on with it
  pub comes_then : {A B : Type 0} (n : ℕ) (x : Stand) (c : State) (P : A → World → Type 0) (Q : B → World → Type 0) (r : Evaluated A) (go : A → World → Evaluated B) → Comes image text n x c P r → ((v : A) (w : World) → w.left < n → P v w → Comes image text n x c Q (go v w)) → Comes image text n x c Q (then_with r go)
  comes_then n x c P Q (Gives v w) go a next = next v w a.0 a.1
  comes_then n x c P Q (Fails t w) go a next = a
  comes_then n x c P Q (Asks y w) go a next = a

  pub lands_then : {A B : Type 0} (n : ℕ) (x : Stand) (c : State) (f : A → MachineWorld → State) (h : B → MachineWorld → State) (r : Evaluated A) (go : A → World → Evaluated B) → Lands image text n x c f r → ((v : A) (w : World) → w.left < n → Lands image text n x (f v (shown x.inv w)) h (go v w)) → Lands image text n x c h (then_with r go)
  lands_then n x c f h r go a next =
      comes_then n x c (λ v w. Goes image c (f v (shown x.inv w))) (λ v w. Goes image c (h v (shown x.inv w))) r go a
      (λ v w l g. lands_from n x c (f v (shown x.inv w)) h (go v w) g (next v w l))

  -- the state in which an exception is raised at a line of this entry
  raised_at : (x : Stand) → Good image text x → (e : LineEntry) (pc k : ℕ) (w : MachineWorld) → entry_at text.proc.lines pc ≡ Some e → raised image text.proc k text.body pc x.acts x.callers w ≡ unwound image text.body (record { number = k; line = e.line; unit = text.unit }) x.callers w
  raised_at x good e pc k w row =
      ap (λ o. with_some o (λ entry. started text.body (exception_in text.proc.unit entry k) entry (handlers_at text.proc.guards pc x.acts) x.acts x.callers (λ w1. unwound image text.body (exception_in text.proc.unit entry k) x.callers w1) (λ w1. unwound image text.body (exception_in text.proc.unit entry 5002) x.callers w1) w)) row
      ∙ ap (λ l. started text.body (exception_in text.proc.unit e k) e l x.acts x.callers (λ w1. unwound image text.body (exception_in text.proc.unit e k) x.callers w1) (λ w1. unwound image text.body (exception_in text.proc.unit e 5002) x.callers w1) w) (good.list pc)
      ∙ ap (λ u. unwound image text.body (exception_in u e k) x.callers w) good.unit

  -- an answer, on both sides
  pub answer_law : {V : Type 0} (n : ℕ) (x : Stand) (good : Good image text x) (here : Here) (e : LineEntry) (pc : ℕ) (w : World) (a : Answer V) (f : V → MachineWorld → State) → here.unit ≡ text.unit → here.line ≡ e.line → entry_at text.proc.lines pc ≡ Some e → w.left < n → Lands image text n x (on_answer image text.proc a text.body pc x.acts x.callers f (shown x.inv w)) f (answered here a w)
  answer_law n x good here e pc w (Found v) f u l row h = (h, stays image (f v (shown x.inv w)))
  answer_law n x good here e pc w (Raises k) f u l row h = (
    h,
    goes_to image _ _ _
        (raised_at x good e pc k (shown x.inv w) row
        ∙ ap (λ m. unwound image text.body (record { number = k; line = m; unit = text.unit }) x.callers (shown x.inv w)) (sym l)
        ∙ ap (λ v. unwound image text.body (record { number = k; line = here.line; unit = v }) x.callers (shown x.inv w)) (sym u))
        (stays image (raised image text.proc k text.body pc x.acts x.callers (shown x.inv w))),
  )

  -- a counted line: its mark, its words, and what they lead to
  pub line_law : {V : Type 0} (n : ℕ) (low : Lower) (x : Stand) (good : Good image text x) (drops : Target → Option ℕ) (l from to : ℕ) (again on : World → Outcome) (P : World → V → World → Type 0) (words : World → Evaluated V) (go : V → World → Outcome) → At text from (instr.Mark l) → ((w : World) → w.left < n → Comes image text n x (run_at text (suc from) x w) (P w) (words w)) → ((w1 : World) (v : V) (w : World) → w.left < n → P w1 v w → Reaches image text n x drops to (run_at text (suc from) x w1) (go v w)) → (w : World) → w.left < suc n → Reaches image text n x drops to (run_at text from x w) (line low (place_of text x) l again on words go w)
  line_law {V} n low x good drops l from to again on P words go mark ra rg w h =
      reaches_from image text n x drops to (run_at text from x w) (marked w.left (λ w1. at_with (suc from) [] x w1) (shown x.inv w)) _ (executes x good (instr.Mark l) from [] (shown x.inv w) mark) (count w.left h)
    where
      raise : Exception → World → Outcome
      raise y w2 = handled low (place_of text x) l again on y [] w2

      fails : (c : State) (t : Trouble) (w2 : World) → TroubleReached image text n x c t w2 → Reaches image text n x drops to c (troubled t raise w2)
      fails c (Raised y) w2 r = r
      fails c Halted w2 r = r
      fails c Finished w2 r = r
      fails c (Chained program values) w2 r = r
      fails c Beyond w2 r = r
      fails c Undefined w2 r = r

      ends : (w1 : World) (r : Evaluated V) → Comes image text n x (run_at text (suc from) x w1) (P w1) r → Reaches image text n x drops to (run_at text (suc from) x w1) (worded [] again raise go r)
      ends w1 (Gives v w2) a = rg w1 v w2 a.0 a.1
      ends w1 (Fails t w2) a = fails (run_at text (suc from) x w1) t w2 a
      ends w1 (Asks y w2) a = absurd a

      count : (k : ℕ) → k < suc n → Reaches image text n x drops to (marked k (λ w1. at_with (suc from) [] x w1) (shown x.inv w)) (counted k (λ w1. worded [] again raise go (words w1)) w)
      count zero hk = stays image _
      count (suc m) hk = ends (with_left m w) (words (with_left m w)) (ra (with_left m w) (omega arith))
