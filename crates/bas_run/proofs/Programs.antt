-- An image that carries a program is one that the machine runs.
use Rattle.std.proofs.Common.{◌≡◌, ℕ, zero, suc, ◌+◌, ◌<◌, List, [], ◌∷◌, length, Some, None, true, ◌&&◌, refl, ap, ◌∙◌, arith}
use Rattle.std.specs.Prelude.{slice_get}
use Rattle.bas_mean.specs.Meaning.{program_region}
use Rattle.bas_code.specs.declared.instr.Instr.{Instr}
use Rattle.bas_carry.specs.Text.{Text}
use Rattle.bas_carry.specs.Carries.{top_static}
use Rattle.bas_vm.specs.Steps.{target_of}
use Rattle.bas_vm.specs.Fit.{goes_right, go_right, is_unguarded, is_fit, is_fit_body, is_fit_first}
use Rattle.bas_run.specs.Carried.{CarriedIsFit}
use Rattle.bas_run.proofs.Spans.{Span}
use Rattle.bas_run.proofs.Lines.{program-span}

-- each instruction from an address on is right
right-last : (code last : List Instr) (at : ℕ) → ((k : ℕ) (i : Instr) → slice_get last k ≡ Some i → goes_right code (at + k) (target_of i) ≡ true) → go_right code last at ≡ true
unfolding go_right
right-last code [] at h = refl
right-last code (i ∷ last) at h =
    ap (λ b. b && go_right code last (suc at)) (ap (λ n. goes_right code n (target_of i)) (let e : at ≡ at + 0 = omega arith in e) ∙ h 0 i refl)
    ∙ right-last code last (suc at) (λ k j is. ap (λ n. goes_right code n (target_of j)) (let e : suc at + k ≡ at + suc k = omega arith in e) ∙ h (suc k) j is)

within : (xs : List Instr) (k : ℕ) (i : Instr) → slice_get xs k ≡ Some i → k < length xs
within [] k i e = let bad : None ≡ Some i = e in absurd cc
within (x ∷ xs) zero i e = omega arith
within (x ∷ xs) (suc k) i e = let h = within xs k i e in omega (arith, h)

fit-body : (text : Text) (end : ℕ) → Span text 0 end → length text.proc.code ≡ end → text.proc.guards ≡ [] → is_fit text.proc ≡ true
fit-body text end span size guards =
    ap (λ g. is_unguarded g && go_right text.proc.code text.proc.code 0) guards
    ∙ right-last text.proc.code text.proc.code 0
    (λ k i is.
    let lt = within text.proc.code k i is in
    ap (λ n. goes_right text.proc.code n (target_of i)) (let e : 0 + k ≡ k = omega arith in e) ∙ span.fine k (omega arith) (omega (arith, lt, size)) i is)

pub carried_is_fit : CarriedIsFit
carried_is_fit image units c =
    let text : Text = record { body = c.body; proc = c.proc; unit = c.program.name; places = c.places; addr = c.addr } in
    let region = program_region c.program in
    let span = program-span text top_static region.closing c.program.body 0 c.at.end (λ t. refl) c.at.code in
    ap (λ ps. is_fit_first image ps) c.is_program
    ∙ ap is_fit_body c.is_body
    ∙ fit-body text c.at.end span c.at.size c.at.guards
