-- A run of a body, step by step.
use Rattle.std.proofs.Common.{◌≡◌, ℕ, zero, suc, ◌+◌, ◌<◌, ◌≤◌, get_or, List, [], ◌∷◌, ◌++◌, length, Option, Some, None, true, false, refl, sym, ap, subst, ◌∙◌, append-nil, add-one, arith}
use Rattle.std.specs.Prelude.{slice_get, replicate}
use Rattle.std.proofs.lemmas.Option.{slice_get_past, slice_get_read}
use Rattle.bas_mean.specs.World.{Cell, fresh_cell}
use Rattle.bas_mean.specs.Outcome.{RunEnd}
use Rattle.bas_mean.specs.Outcome as run
use Rattle.bas_code.specs.declared.instr.Instr.{Instr}
use Rattle.bas_code.specs.declared.body.Proc.{Proc}
use Rattle.bas_code.specs.declared.body.Image.{Image}
use Rattle.bas_code.specs.declared.body.Guard.{Guard}
use Rattle.bas_code.specs.State.{MachineWorld, State, Run, Over}
use Rattle.bas_code.specs.Machine.{act, step, exec, with_some, program_started}
use Rattle.bas_vm.specs.declared.held.Held.{Held}
use Rattle.bas_vm.specs.declared.turn.Turn.{Turn}
use Rattle.bas_vm.specs.declared.turn.Turn.TheVariants.{Ended, Stopped, LinesSpent, Lost, Refused, OutputFault, Memory}
use Rattle.bas_vm.specs.declared.turn.Step.TheVariants.{Onward, Goes, Ends}
use Rattle.bas_vm.specs.Shown.{stacked, frame_of, world_of}
use Rattle.bas_vm.specs.Rows.{gives_up}
use Rattle.bas_vm.specs.Steps.{state_at, acted, Prints, IsSilent, StepOf}
use Rattle.bas_vm.specs.Steps.StepOf.{Silent, Printed, Torn}
use Rattle.bas_vm.specs.Fit.{is_unguarded, go_right, is_fit}
use Rattle.bas_vm.specs.Runs.{IsEnd, TookOf, ComesTo, Tells, TurnOf, BodyOf, IsStart, ProgramOf}
use Rattle.bas_vm.specs.Took.{TookAll, TookPrefix}
use Rattle.bas_vm.proofs.Taking.{TookAll-none, TookAll-then, TookPrefix-front, TookPrefix-then, TookPrefix-none}
use Rattle.bas_vm.proofs.Measure.{both}
use Rattle.bas_vm.proofs.Grows.{begins-itself, Grows, exec-grows}

-- from one state the machine comes to another
pub record Comes (image : Image) (c d : State) : Type 0 where
  pub steps : ℕ
  pub by : (k : ℕ) → exec image (steps + k) c ≡ exec image k d

comes-itself : (image : Image) (c : State) → Comes image c c
comes-itself image c = record { steps = 0; by = λ k. ap (λ n. exec image n c) (let e : 0 + k ≡ k = omega arith in e) }

-- with one step more
comes-on : (image : Image) (c d e : State) → Comes image c d → ((k : ℕ) → exec image (suc k) d ≡ exec image k e) → Comes image c e
comes-on image c d e p one = record {
  steps = suc p.steps;
  by = λ k. ap (λ n. exec image n c) (let q : suc p.steps + k ≡ p.steps + suc k = omega arith in q) ∙ p.by (suc k) ∙ one k;
}

-- more steps change nothing of a run that has ended
pub longer : (image : Image) (j k : ℕ) (c : State) (e : RunEnd) → j ≤ k → exec image j c ≡ Some e → exec image k c ≡ Some e
unfolding exec
longer image j k (Over f) e h is = is
longer image zero k (Run body pc stack acts callers w) e h is = let bad : None ≡ Some e = is in absurd cc
longer image (suc j) zero (Run body pc stack acts callers w) e h is = absurd (omega arith)
longer image (suc j) (suc k) (Run body pc stack acts callers w) e h is = longer image j k (step image body pc stack acts callers w) e (omega arith) is

pub over-now : (image : Image) (e : RunEnd) → exec image 0 (Over e) ≡ Some e
unfolding exec
over-now image e = refl

-- an end behind a state is an end before it, and the other way round
comes-to : (image : Image) (c d : State) (e : RunEnd) → Comes image c d → d ≡ Over e → ComesTo image c e
comes-to image c d e p is = record { steps = p.steps + 0; ends = p.by 0 ∙ ap (λ s. exec image 0 s) is ∙ over-now image e }

comes-from : (image : Image) (c d : State) (e : RunEnd) → Comes image c d → ComesTo image c e → ComesTo image d e
comes-from image c d e p q = record { steps = q.steps; ends = sym (p.by q.steps) ∙ longer image q.steps (p.steps + q.steps) c e (omega arith) q.ends }

-- one instruction
acts-once : (image : Image) (proc : Proc) (body pc : ℕ) (i : Instr) (input output : List ℕ) (held : Held) → slice_get image.procs body ≡ Some proc → slice_get proc.code pc ≡ Some i → (k : ℕ) →
    exec image (suc k) (state_at proc body input output pc held) ≡ exec image k (acted image proc body pc i input output held)
unfolding exec
acts-once image proc body pc i input output held found at k =
    ap (λ o. exec image k (with_some o (λ p. with_some (slice_get p.code pc) (λ j. act image p j body pc (stacked held.stack.items) [] [] (world_of proc.slots input output held))))) found
    ∙ ap (λ o. exec image k (with_some o (λ j. act image proc j body pc (stacked held.stack.items) [] [] (world_of proc.slots input output held)))) at

-- no instruction
acts-never : (image : Image) (proc : Proc) (body pc : ℕ) (input output : List ℕ) (held : Held) → slice_get image.procs body ≡ Some proc → slice_get proc.code pc ≡ None → (k : ℕ) →
    exec image (suc k) (state_at proc body input output pc held) ≡ exec image k (Over run.Lost)
unfolding exec
acts-never image proc body pc input output held found none k =
    ap (λ o. exec image k (with_some o (λ p. with_some (slice_get p.code pc) (λ j. act image p j body pc (stacked held.stack.items) [] [] (world_of proc.slots input output held))))) found
    ∙ ap (λ o. exec image k (with_some o (λ j. act image proc j body pc (stacked held.stack.items) [] [] (world_of proc.slots input output held)))) none

-- a run of a body from its start has come to an address, and the sink took its output
pub record Running (proc : Proc) (first held : Held) (pc : ℕ) (before now : Option (List ℕ)) : Type 0 where
  pub sent : List ℕ
  pub took : TookAll before now sent
  pub comes : (image : Image) (body : ℕ) → slice_get image.procs body ≡ Some proc → (input : List ℕ) → Comes image (state_at proc body input [] 0 first) (state_at proc body input sent pc held)

pub Running-start : (proc : Proc) (held : Held) (before : Option (List ℕ)) → Running proc held held 0 before before
Running-start proc held before = record { sent = []; took = TookAll-none before; comes = λ image body found input. comes-itself image (state_at proc body input [] 0 held) }

-- all that was taken is the output where nothing was left
took-same : (before mid now : Option (List ℕ)) (sent : List ℕ) → now ≡ mid → TookAll before mid sent → TookAll before now sent
took-same before mid now sent same all = subst (λ t. TookAll before t sent) (sym same) all

module _ (proc : Proc) (first held new : Held) (pc : ℕ) (i : Instr) (before mid now : Option (List ℕ)) (so_far : Running proc first held pc before mid) (at : slice_get proc.code pc ≡ Some i) where
  -- the run after one step more
  moved : (next : ℕ) (sent : List ℕ) → TookAll before now sent → ((image : Image) (body : ℕ) (input : List ℕ) → acted image proc body pc i input so_far.sent held ≡ state_at proc body input sent next new) → Running proc first new next before now
  moved next sent took leads = record {
    sent = sent;
    took = took;
    comes = λ image body found input. comes-on image (state_at proc body input [] 0 first) (state_at proc body input so_far.sent pc held) (state_at proc body input sent next new) (so_far.comes image body found input)
        (λ k. acts-once image proc body pc i input so_far.sent held found at k ∙ ap (λ c. exec image k c) (leads image body input));
  }

  onward : StepOf proc pc i held new mid now Onward → Running proc first new (suc pc) before now
  onward (Silent _ leads same) = moved (suc pc) so_far.sent (took-same before mid now so_far.sent same so_far.took) (λ image body input. leads image body input so_far.sent)
  onward (Printed text leads took) = moved (suc pc) (so_far.sent ++ text) (TookAll-then before mid now so_far.sent text so_far.took took) (λ image body input. leads image body input so_far.sent)

  pub Running-next : StepOf proc pc i held new mid now Onward → Running proc first new (pc + 1) before now
  Running-next does = subst (λ k. Running proc first new k before now) (sym (add-one pc)) (onward does)

  pub Running-goes : (a : ℕ) → StepOf proc pc i held new mid now (Goes a) → Running proc first new a before now
  Running-goes a (Silent _ leads same) = moved a so_far.sent (took-same before mid now so_far.sent same so_far.took) (λ image body input. leads image body input so_far.sent)

  module _ (image : Image) (body : ℕ) (found : slice_get image.procs body ≡ Some proc) (input : List ℕ) where
    -- the state in which the run began
    abbrev begun : State
    begun = state_at proc body input [] 0 first

    -- the step ends the run
    over : (t : Turn) (e : RunEnd) → acted image proc body pc i input so_far.sent held ≡ Over e → IsEnd t so_far.sent e → now ≡ mid → Tells image begun before now t
    over t e leads is same = record {
      end = e;
      comes = comes-to image begun (acted image proc body pc i input so_far.sent held) e (comes-on image begun (state_at proc body input so_far.sent pc held) (acted image proc body pc i input so_far.sent held) (so_far.comes image body found input) (λ k. acts-once image proc body pc i input so_far.sent held found at k)) leads;
      output = so_far.sent;
      is = is;
      took = took-same before mid now so_far.sent same so_far.took;
    }

    -- the sink took the front of what any end has
    front : (text : List ℕ) → TookPrefix mid now text → (e : RunEnd) → Grows (so_far.sent ++ text) body (Over e) → TookOf before now e
    front text some (run.Ended s) b = subst (λ t. TookPrefix before now t) b.is (TookPrefix-front before now (so_far.sent ++ text) b.rest (TookPrefix-then before mid now so_far.sent text so_far.took some))
    front text some (run.Stopped x s) b = subst (λ t. TookPrefix before now t) b.is (TookPrefix-front before now (so_far.sent ++ text) b.rest (TookPrefix-then before mid now so_far.sent text so_far.took some))
    front text some (run.GoesOn s) b = subst (λ t. TookPrefix before now t) b.is (TookPrefix-front before now (so_far.sent ++ text) b.rest (TookPrefix-then before mid now so_far.sent text so_far.took some))
    front text some run.Lost b = tt

    -- there was no memory, and nothing was printed
    stuck : proc.guards ≡ [] → now ≡ mid → (e : RunEnd) → ComesTo image begun e → TookOf before now e
    stuck unguarded same e to =
        let here = comes-from image begun (state_at proc body input so_far.sent pc held) e (so_far.comes image body found input) to in
        front [] (subst (λ t. TookPrefix mid t []) (sym same) (TookPrefix-none mid [])) e
        (exec-grows (so_far.sent ++ []) body image proc found unguarded here.steps (state_at proc body input so_far.sent pc held) e (refl, refl, refl, record { rest = []; is = append-nil (so_far.sent ++ []) ∙ append-nil so_far.sent }) here.ends)

    -- some of a text was printed
    torn : (after : Held) (text : List ℕ) → proc.guards ≡ [] → Prints proc pc i held after text → TookPrefix mid now text → (e : RunEnd) → ComesTo image begun e → TookOf before now e
    torn after text unguarded prints some e to =
        let on = comes-on image begun (state_at proc body input so_far.sent pc held) (acted image proc body pc i input so_far.sent held) (so_far.comes image body found input) (λ k. acts-once image proc body pc i input so_far.sent held found at k) in
        let here = comes-from image begun (acted image proc body pc i input so_far.sent held) e on to in
        front text some e
        (exec-grows (so_far.sent ++ text) body image proc found unguarded here.steps (state_at proc body input (so_far.sent ++ text) (suc pc) after) e (refl, refl, refl, begins-itself (so_far.sent ++ text))
        (ap (λ c. exec image here.steps c) (sym (prints image body input so_far.sent)) ∙ here.ends))

    silent-ends : (t : Turn) → proc.guards ≡ [] → IsSilent proc pc i held new (Ends t) → now ≡ mid → TurnOf image begun before now t
    silent-ends Ended unguarded leads same = over Ended _ (leads image body input so_far.sent) (refl, refl) same
    silent-ends (Stopped x) unguarded leads same = over (Stopped x) _ (leads image body input so_far.sent) (refl, refl, refl) same
    silent-ends LinesSpent unguarded leads same = over LinesSpent _ (leads image body input so_far.sent) (refl, refl) same
    silent-ends Lost unguarded leads same = over Lost _ (leads image body input so_far.sent) tt same
    silent-ends Refused unguarded leads same = absurd (leads image body input so_far.sent)
    silent-ends OutputFault unguarded leads same = absurd (leads image body input so_far.sent)
    silent-ends Memory unguarded leads same = stuck unguarded same

    torn-ends : (t : Turn) → gives_up t ≡ true → (after : Held) (text : List ℕ) → proc.guards ≡ [] → Prints proc pc i held after text → TookPrefix mid now text → TurnOf image begun before now t
    torn-ends Ended up after text unguarded prints some = let bad : false ≡ true = up in absurd cc
    torn-ends (Stopped x) up after text unguarded prints some = let bad : false ≡ true = up in absurd cc
    torn-ends LinesSpent up after text unguarded prints some = let bad : false ≡ true = up in absurd cc
    torn-ends Lost up after text unguarded prints some = let bad : false ≡ true = up in absurd cc
    torn-ends Refused up after text unguarded prints some = let bad : false ≡ true = up in absurd cc
    torn-ends OutputFault up after text unguarded prints some = torn after text unguarded prints some
    torn-ends Memory up after text unguarded prints some = torn after text unguarded prints some

    ends : (t : Turn) → proc.guards ≡ [] → StepOf proc pc i held new mid now (Ends t) → TurnOf image begun before now t
    ends t unguarded (Silent _ leads same) = silent-ends t unguarded leads same
    ends t unguarded (Torn _ up text after prints some) = torn-ends t up after text unguarded prints some

  pub Running-ends : (t : Turn) → proc.guards ≡ [] → StepOf proc pc i held new mid now (Ends t) → BodyOf proc first before now t
  Running-ends t unguarded does image body found input = ends image body found input t unguarded does

-- the run has come behind its code
pub Running-off : (proc : Proc) (first held : Held) (pc : ℕ) (before now : Option (List ℕ)) → Running proc first held pc before now → length proc.code ≤ pc → BodyOf proc first before now Lost
Running-off proc first held pc before now so_far le image body found input = record {
  end = run.Lost;
  comes = comes-to image (state_at proc body input [] 0 first) (Over run.Lost) run.Lost
      (comes-on image (state_at proc body input [] 0 first) (state_at proc body input so_far.sent pc held) (Over run.Lost) (so_far.comes image body found input) (λ k. acts-never image proc body pc input so_far.sent held found (slice_get_past proc.code pc le) k)) refl;
  output = so_far.sent;
  is = tt;
  took = so_far.took;
}

-- what was read at an index
pub read-at : {A : Type 0} (read items : List A) (i n : ℕ) (x : A) → read ≡ items → i ≡ n → i < length read → x ≡ get_or read i x → slice_get items n ≡ Some x
read-at read items i n x is same lt at = ap (λ c. slice_get c n) (sym is) ∙ ap (λ k. slice_get read k) (sym same) ∙ slice_get_read read (length read) i x refl lt at

no-guard : (guards : List Guard) → is_unguarded guards ≡ true → guards ≡ []
no-guard [] h = refl
no-guard (g ∷ guards) h = let bad : false ≡ true = h in absurd cc

-- a body that is run has no guard, and its jumps go forward or to a mark
pub fit-unguarded : (proc : Proc) → is_fit proc ≡ true → proc.guards ≡ []
fit-unguarded proc h = no-guard proc.guards (both (is_unguarded proc.guards) (go_right proc.code proc.code 0) h).0

pub fit-right : (proc : Proc) (read : List Instr) → read ≡ proc.code → is_fit proc ≡ true → go_right read read 0 ≡ true
fit-right proc read is h = ap (λ c. go_right c c 0) is ∙ (both (is_unguarded proc.guards) (go_right proc.code proc.code 0) h).1

-- the world of a program with those lines left, cells and print column, which has printed nothing
abbrev world_with : Proc → (input : List ℕ) → (left : ℕ) → List Cell → (column : ℕ) → MachineWorld
world_with proc input left cells column = record {
  left = left;
  cells = record { cells = cells; frame = frame_of proc.slots };
  terminal = record { input = input; output = []; report = []; column = column };
  caught = record { number = 0; line = 0 };
}

-- the state in which a program begins
begins : (proc : Proc) (body n : ℕ) (input : List ℕ) (held : Held) → IsStart proc.slots n held → state_at proc body input [] 0 held ≡ program_started (Some proc) body n input
unfolding stacked
begins proc body n input held is =
    ap (λ s. Run body 0 (stacked s) [] [] (world_of proc.slots input [] held)) is.stack
    ∙ ap (λ cs. Run body 0 [] [] [] (world_with proc input held.left cs held.column)) is.cells
    ∙ ap (λ column. Run body 0 [] [] [] (world_with proc input held.left (replicate proc.slots fresh_cell) column)) is.column
    ∙ ap (λ left. Run body 0 [] [] [] (world_with proc input left (replicate proc.slots fresh_cell) 0)) is.left

pub program-does : (proc : Proc) (n : ℕ) (held : Held) (before now : Option (List ℕ)) (t : Turn) → IsStart proc.slots n held → BodyOf proc held before now t → ProgramOf proc n before now t
program-does proc n held before now t is does image body found input =
    subst (λ c. TurnOf image c before now t) (begins proc body n input held is) (does image body found input)
