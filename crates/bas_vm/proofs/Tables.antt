-- The line table, and the jumps of a code.
use Rattle.std.proofs.Common.{◌≡◌, ℕ, suc, ◌+◌, ◌<◌, ◌≤◌, List, ◌∷◌, length, drop, get_or, Some, None, true, false, cond, ◌&&◌, sym, ap, ◌∙◌, add-one}
use Rattle.std.specs.Prelude.{nat_le, nat_lt}
use Rattle.std.proofs.Math.Seq.{drop-cons}
use Rattle.std.proofs.lemmas.List.{drop_all}
use Rattle.bas_code.specs.declared.body.LineEntry.{LineEntry}
use Rattle.bas_code.specs.declared.instr.Instr.{Instr}
use Rattle.bas_code.specs.Guards.{entry_at}
use Rattle.bas_vm.specs.Steps.{target_of}
use Rattle.bas_vm.specs.Fit.{goes_right, go_right}

entry-drop : (lines : List LineEntry) (i pc : ℕ) (entry : LineEntry) → i < length lines → entry ≡ get_or lines i entry → entry_at (drop i lines) pc ≡ cond (nat_le entry.start pc && nat_lt pc entry.end) (Some entry) (entry_at (drop (i + 1) lines) pc)
entry-drop lines i pc entry lt is =
    ap (λ es. entry_at es pc) (drop-cons lines i entry lt)
    ∙ ap (λ e. entry_at (e ∷ drop (suc i) lines) pc) (sym is)
    ∙ ap (λ k. cond (nat_le entry.start pc && nat_lt pc entry.end) (Some entry) (entry_at (drop k lines) pc)) (sym (add-one i))

-- the entry at an index holds the address, or it is looked for behind it, or there is none
pub entry-found : (lines : List LineEntry) (i pc : ℕ) (entry : LineEntry) → i < length lines → entry ≡ get_or lines i entry → (nat_le entry.start pc && nat_lt pc entry.end) ≡ true → Some entry ≡ entry_at (drop i lines) pc
entry-found lines i pc entry lt is h = sym (entry-drop lines i pc entry lt is ∙ ap (λ b. cond b (Some entry) (entry_at (drop (i + 1) lines) pc)) h)

pub entry-next : (lines : List LineEntry) (i pc : ℕ) (entry : LineEntry) → i < length lines → entry ≡ get_or lines i entry → (nat_le entry.start pc && nat_lt pc entry.end) ≡ false → entry_at (drop (i + 1) lines) pc ≡ entry_at (drop i lines) pc
entry-next lines i pc entry lt is h = sym (entry-drop lines i pc entry lt is ∙ ap (λ b. cond b (Some entry) (entry_at (drop (i + 1) lines) pc)) h)

pub entry-none : (lines : List LineEntry) (i pc : ℕ) → length lines ≤ i → None ≡ entry_at (drop i lines) pc
entry-none lines i pc le = sym (ap (λ es. entry_at es pc) (drop_all i lines le))

right-drop : (code : List Instr) (at : ℕ) (i : Instr) → at < length code → i ≡ get_or code at i → go_right code (drop at code) at ≡ (goes_right code at (target_of i) && go_right code (drop (at + 1) code) (at + 1))
unfolding go_right
right-drop code at i lt is =
    ap (λ last. go_right code last at) (drop-cons code at i lt)
    ∙ ap (λ j. go_right code (j ∷ drop (suc at) code) at) (sym is)
    ∙ ap (λ k. goes_right code at (target_of i) && go_right code (drop k code) k) (sym (add-one at))

-- an instruction jumps back to no mark, or the ones behind it decide, or there is none
pub right-wrong : (code : List Instr) (at : ℕ) (i : Instr) → at < length code → i ≡ get_or code at i → goes_right code at (target_of i) ≡ false → false ≡ go_right code (drop at code) at
right-wrong code at i lt is h = sym (right-drop code at i lt is ∙ ap (λ b. b && go_right code (drop (at + 1) code) (at + 1)) h)

pub right-next : (code : List Instr) (at : ℕ) (i : Instr) → at < length code → i ≡ get_or code at i → goes_right code at (target_of i) ≡ true → go_right code (drop (at + 1) code) (at + 1) ≡ go_right code (drop at code) at
right-next code at i lt is h = sym (right-drop code at i lt is ∙ ap (λ b. b && go_right code (drop (at + 1) code) (at + 1)) h)

pub right-end : (code : List Instr) (at : ℕ) → length code ≤ at → true ≡ go_right code (drop at code) at
unfolding go_right
right-end code at le = sym (ap (λ last. go_right code last at) (drop_all at code le))
