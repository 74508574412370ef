-- Why a run ends: between two marks it goes forward, and a mark takes a line.
use Rattle.std.proofs.Common.{◌≡◌, ℕ, zero, suc, ◌+◌, ◌-◌, ◌*◌, ◌<◌, ◌≤◌, List, [], ◌∷◌, length, Some, None, Bool, true, false, cond, ◌&&◌, refl, sym, ap, subst, ◌∙◌, arith}
use Rattle.std.specs.Prelude.{nat_lt, slice_get, ◌||◌}
use Rattle.std.proofs.lemmas.Bool.{ltb-true}
use Rattle.bas_code.specs.declared.instr.Instr.{Instr}
use Rattle.bas_code.specs.declared.instr.Instr.TheVariants as instr
use Rattle.bas_vm.specs.Steps.{target_of, is_mark, lines_taken}
use Rattle.bas_vm.specs.Fit.{is_marked, goes_right, go_right}

-- the code that is left behind an address, at most; none is needed at a mark
abbrev pub rest : List Instr → (pc : ℕ) → ℕ
rest code pc = cond (is_marked (slice_get code pc)) 0 (length code + 1 - pc)

-- what is left of a run
abbrev pub measure : List Instr → (pc left : ℕ) → ℕ
measure code pc left = left * (length code + 2) + rest code pc

rest-if : (b : Bool) (n : ℕ) → cond b 0 n ≤ n
rest-if true n = omega arith
rest-if false n = omega arith

rest-most : (code : List Instr) (pc : ℕ) → rest code pc ≤ length code + 1 - pc
rest-most code pc = rest-if (is_marked (slice_get code pc)) (length code + 1 - pc)

rest-at : (code : List Instr) (pc : ℕ) (i : Instr) (b : Bool) → slice_get code pc ≡ Some i → is_mark i ≡ b → rest code pc ≡ cond b 0 (length code + 1 - pc)
rest-at code pc i b at is = ap (λ o. cond (is_marked o) 0 (length code + 1 - pc)) at ∙ ap (λ v. cond v 0 (length code + 1 - pc)) is

pub both : (a b : Bool) → (a && b) ≡ true → (a ≡ true) × (b ≡ true)
both true b h = (refl, h)
both false b h = let bad : false ≡ true = h in absurd cc

-- each jump of a code that is run goes forward or to a mark
right-from : (code last : List Instr) (at k : ℕ) (i : Instr) → go_right code last at ≡ true → slice_get last k ≡ Some i → goes_right code (at + k) (target_of i) ≡ true
unfolding go_right
right-from code [] at k i h is = let bad : None ≡ Some i = is in absurd cc
right-from code (j ∷ last) at zero i h is =
    let same : j ≡ i = cc in
    ap (λ n. goes_right code n (target_of i)) (let e : at + 0 ≡ at = omega arith in e)
    ∙ ap (λ x. goes_right code at (target_of x)) (sym same)
    ∙ (both (goes_right code at (target_of j)) (go_right code last (suc at)) h).0
right-from code (j ∷ last) at (suc k) i h is =
    ap (λ n. goes_right code n (target_of i)) (let e : at + suc k ≡ suc at + k = omega arith in e)
    ∙ right-from code last (suc at) k i (both (goes_right code at (target_of j)) (go_right code last (suc at)) h).1 is

-- the next instruction
next-if : (code : List Instr) (pc now : ℕ) (b : Bool) → pc < length code → measure code (pc + 1) now < (lines_taken b + now) * (length code + 2) + cond b 0 (length code + 1 - pc)
next-if code pc now true lt = let most = rest-most code (pc + 1) in omega (arith, most)
next-if code pc now false lt = let most = rest-most code (pc + 1) in omega (arith, most)

pub next-falls : (code : List Instr) (pc was now : ℕ) (i : Instr) → slice_get code pc ≡ Some i → pc < length code → was ≡ lines_taken (is_mark i) + now → measure code (pc + 1) now < measure code pc was
next-falls code pc was now i at lt is =
    let P : ℕ → Type 0 = λ n. measure code (pc + 1) now < n in
    subst P
    (ap (λ r. (lines_taken (is_mark i) + now) * (length code + 2) + r) (sym (rest-at code pc i (is_mark i) at refl)) ∙ ap (λ n. n * (length code + 2) + rest code pc) (sym is))
    (next-if code pc now (is_mark i) lt)

-- an instruction that jumps is no mark
jumps-no-mark : (i : Instr) (a : ℕ) → target_of i ≡ Some a → is_mark i ≡ false
jumps-no-mark (instr.Mark l) a is = let bad : None ≡ Some a = is in absurd cc
jumps-no-mark (instr.Jump j) a is = refl
jumps-no-mark (instr.Run j) a is = refl
jumps-no-mark (instr.Push j) a is = refl
jumps-no-mark (instr.Store j) a is = refl
jumps-no-mark (instr.Arith j) a is = refl
jumps-no-mark (instr.Compare j) a is = refl
jumps-no-mark (instr.Print j) a is = refl

jump-rest : (code : List Instr) (pc a : ℕ) (b m : Bool) → nat_lt pc a ≡ b → is_marked (slice_get code a) ≡ m → (b || m) ≡ true → pc < length code → rest code a < length code + 1 - pc
jump-rest code pc a true m before mark h lt = let most = rest-most code a in let forward = ltb-true pc a before in omega (arith, most, forward)
jump-rest code pc a false true before mark h lt =
    let none : rest code a ≡ 0 = ap (λ v. cond v 0 (length code + 1 - a)) mark in
    omega (arith, none)
jump-rest code pc a false false before mark h lt = let bad : false ≡ true = h in absurd cc

pub jump-falls : (code : List Instr) (pc a was now : ℕ) (i : Instr) → go_right code code 0 ≡ true → slice_get code pc ≡ Some i → pc < length code → target_of i ≡ Some a → now ≡ was → measure code a now < measure code pc was
jump-falls code pc a was now i right at lt to same =
    let goes : goes_right code (0 + pc) (Some a) ≡ true = ap (λ t. goes_right code (0 + pc) t) (sym to) ∙ right-from code code 0 pc i right at in
    let here : goes_right code pc (Some a) ≡ true = ap (λ n. goes_right code n (Some a)) (let e : pc ≡ 0 + pc = omega arith in e) ∙ goes in
    let short = jump-rest code pc a (nat_lt pc a) (is_marked (slice_get code a)) refl refl here lt in
    let there = rest-at code pc i false at (jumps-no-mark i a to) in
    let lines = ap (λ n. n * (length code + 2)) same in
    omega (arith, short, there, lines)
