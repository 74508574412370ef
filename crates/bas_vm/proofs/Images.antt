-- The run of the first program of an image.
use Rattle.std.proofs.Common.{◌≡◌, ℕ, ◌+◌, ◌≤◌, arith, List, [], ◌∷◌, length, Option, Some, None, true, false, refl, sym, ap, subst, ◌∙◌}
use Rattle.std.specs.Prelude.{slice_get}
use Rattle.std.proofs.lemmas.Option.{slice_get_past}
use Rattle.bas_mean.specs.Outcome.{RunEnd}
use Rattle.bas_mean.specs.Outcome as run
use Rattle.bas_code.specs.declared.body.Proc.{Proc}
use Rattle.bas_code.specs.declared.body.Image.{Image}
use Rattle.bas_code.specs.State.{Over}
use Rattle.bas_code.specs.Machine.{exec, program_started, first_started, Runs}
use Rattle.bas_vm.specs.declared.turn.Turn.{Turn}
use Rattle.bas_vm.specs.declared.turn.Turn.TheVariants.{Ended, Stopped, LinesSpent, Lost, Refused, OutputFault, Memory}
use Rattle.bas_vm.specs.Fit.{is_fit, is_fit_body, is_fit_first, is_fit_image}
use Rattle.bas_vm.specs.Runs.{ComesTo, Tells, TellsRun, RunOf, ProgramOf, IsTold, Answers}
use Rattle.bas_vm.proofs.Taking.{TookAll-none}
use Rattle.bas_vm.proofs.Bodies.{longer, over-now}

-- no program, and the first one
no-program : (programs : List (List ℕ × ℕ)) → slice_get programs 0 ≡ None → programs ≡ []
no-program [] e = refl
no-program (p ∷ programs) e = let bad : Some p ≡ None = e in absurd cc

first-program : (programs : List (List ℕ × ℕ)) (p : List ℕ × ℕ) → slice_get programs 0 ≡ Some p → (rest : List (List ℕ × ℕ)) × (programs ≡ p ∷ rest)
first-program [] p e = let bad : None ≡ Some p = e in absurd cc
first-program (q ∷ programs) p e = let same : q ≡ p = cc in (programs, ap (λ x. x ∷ programs) same)

-- a run that is lost from the start
lost-at-start : (image : Image) (n : ℕ) (input : List ℕ) (before : Option (List ℕ)) → first_started image image.programs n input ≡ Over run.Lost → TellsRun image n input before before Lost
lost-at-start image n input before e = record {
  end = run.Lost;
  runs = record { steps = 0; ends = ap (λ c. exec image 0 c) e ∙ over-now image run.Lost };
  output = [];
  is = tt;
  took = TookAll-none before;
}

pub lost-without-program : (image : Image) (read : List (List ℕ × ℕ)) (n : ℕ) (input : List ℕ) (before : Option (List ℕ)) → read ≡ image.programs → None ≡ slice_get read 0 → TellsRun image n input before before Lost
lost-without-program image read n input before is none =
    lost-at-start image n input before (ap (λ ps. first_started image ps n input) (no-program image.programs (ap (λ ps. slice_get ps 0) (sym is) ∙ sym none)))

module _ (image : Image) (read : List (List ℕ × ℕ)) (program : List ℕ × ℕ) (is : read ≡ image.programs) (first : Some program ≡ slice_get read 0) where
  starts : (n : ℕ) (input : List ℕ) (o : Option Proc) → slice_get image.procs program.1 ≡ o → first_started image image.programs n input ≡ program_started o program.1 n input
  starts n input o at =
      ap (λ ps. first_started image ps n input) (first-program image.programs program (ap (λ ps. slice_get ps 0) (sym is) ∙ sym first)).1
      ∙ ap (λ p. program_started p program.1 n input) at

  pub lost-without-body : (procs : List Proc) (body n : ℕ) (input : List ℕ) (before : Option (List ℕ)) → procs ≡ image.procs → body ≡ program.1 → length procs ≤ body → TellsRun image n input before before Lost
  lost-without-body procs body n input before same at le =
      lost-at-start image n input before
      (starts n input None (ap (λ ps. slice_get ps program.1) (sym same) ∙ ap (λ k. slice_get procs k) (sym at) ∙ slice_get_past procs body le))

  pub refused : (proc : Proc) → slice_get image.procs program.1 ≡ Some proc → is_fit proc ≡ false → is_fit_image image ≡ false
  refused proc at unfit =
      ap (λ ps. is_fit_first image ps) (first-program image.programs program (ap (λ ps. slice_get ps 0) (sym is) ∙ sym first)).1
      ∙ ap is_fit_body at ∙ unfit

  module _ (proc : Proc) (at : slice_get image.procs program.1 ≡ Some proc) (n : ℕ) (before now : Option (List ℕ)) where
    comes : (input : List ℕ) (e : RunEnd) → Runs image n input e → ComesTo image (program_started (Some proc) program.1 n input) e
    comes input e r = record { steps = r.steps; ends = ap (λ c. exec image r.steps c) (sym (starts n input (Some proc) at)) ∙ r.ends }

    tells : (t : Turn) (input : List ℕ) → Tells image (program_started (Some proc) program.1 n input) before now t → TellsRun image n input before now t
    tells t input h = record {
      end = h.end;
      runs = record { steps = h.comes.steps; ends = ap (λ c. exec image h.comes.steps c) (starts n input (Some proc) at) ∙ h.comes.ends };
      output = h.output;
      is = h.is;
      took = h.took;
    }

    pub program-runs : (t : Turn) → ProgramOf proc n before now t → RunOf image n before now t
    program-runs Ended does = λ input. tells Ended input (does image program.1 at input)
    program-runs (Stopped x) does = λ input. tells (Stopped x) input (does image program.1 at input)
    program-runs LinesSpent does = λ input. tells LinesSpent input (does image program.1 at input)
    program-runs Lost does = λ input. tells Lost input (does image program.1 at input)
    program-runs Refused does = absurd (does image program.1 at [])
    program-runs OutputFault does = λ input e r. does image program.1 at input e (comes input e r)
    program-runs Memory does = λ input e r. does image program.1 at input e (comes input e r)

-- an image without a program or without its body is not refused, nor is one whose body is run
pub fit-without-program : (image : Image) (read : List (List ℕ × ℕ)) → read ≡ image.programs → None ≡ slice_get read 0 → is_fit_image image ≡ true
fit-without-program image read is none = ap (λ ps. is_fit_first image ps) (no-program image.programs (ap (λ ps. slice_get ps 0) (sym is) ∙ sym none))

pub fit-without-body : (image : Image) (read : List (List ℕ × ℕ)) (program : List ℕ × ℕ) → read ≡ image.programs → Some program ≡ slice_get read 0 → (procs : List Proc) (body : ℕ) → procs ≡ image.procs → body ≡ program.1 → length procs ≤ body → is_fit_image image ≡ true
fit-without-body image read program is first procs body same at le =
    ap (λ ps. is_fit_first image ps) (first-program image.programs program (ap (λ ps. slice_get ps 0) (sym is) ∙ sym first)).1
    ∙ ap is_fit_body (ap (λ ps. slice_get ps program.1) (sym same) ∙ ap (λ k. slice_get procs k) (sym at) ∙ slice_get_past procs body le)

pub fit-image : (image : Image) (read : List (List ℕ × ℕ)) (program : List ℕ × ℕ) → read ≡ image.programs → Some program ≡ slice_get read 0 → (proc : Proc) → slice_get image.procs program.1 ≡ Some proc → is_fit proc ≡ true → is_fit_image image ≡ true
fit-image image read program is first proc at fit =
    ap (λ ps. is_fit_first image ps) (first-program image.programs program (ap (λ ps. slice_get ps 0) (sym is) ∙ sym first)).1
    ∙ ap is_fit_body at ∙ fit

-- a fit image is not refused
pub fit-not-refused : (image : Image) (t : Turn) → is_fit_image image ≡ true → is_fit_image image ≡ false → t ≡ Refused
fit-not-refused image t fit unfit = let bad : true ≡ false = sym fit ∙ unfit in absurd cc

-- an image runs to one end
one-end : (image : Image) (n : ℕ) (input : List ℕ) (e f : RunEnd) → Runs image n input e → Runs image n input f → e ≡ f
one-end image n input e f p q =
    let first = longer image p.steps (p.steps + q.steps) (first_started image image.programs n input) e (omega arith) p.ends in
    let second = longer image q.steps (p.steps + q.steps) (first_started image image.programs n input) f (omega arith) q.ends in
    let same : Some e ≡ Some f = sym first ∙ second in
    cc

module _ (image : Image) (n : ℕ) (before now : Option (List ℕ)) where
  told : (t : Turn) (input : List ℕ) → TellsRun image n input before now t → (e : RunEnd) → Runs image n input e → IsTold before now t e
  told t input h e r = subst (λ f. IsTold before now t f) (one-end image n input h.end e h.runs r) (record { output = h.output; is = h.is; took = h.took })

  pub answers : (t : Turn) → RunOf image n before now t → (input : List ℕ) (e : RunEnd) → Runs image n input e → Answers before now t e
  answers Ended does input e r = told Ended input (does input) e r
  answers (Stopped x) does input e r = told (Stopped x) input (does input) e r
  answers LinesSpent does input e r = told LinesSpent input (does input) e r
  answers Lost does input e r = told Lost input (does input) e r
  answers Refused does input e r = does.1
  answers OutputFault does input e r = does input e r
  answers Memory does input e r = does input e r
