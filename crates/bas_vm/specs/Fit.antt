-- Which images are run.
use Rattle.std.specs.Prelude.{ℕ, suc, ◌&&◌, ◌||◌, Bool, true, false, List, [], ◌∷◌, Option, Some, None, nat_lt, slice_get}
use Rattle.bas_code.specs.declared.instr.Instr.{Instr}
use Rattle.bas_code.specs.declared.body.Guard.{Guard}
use Rattle.bas_code.specs.declared.body.Proc.{Proc}
use Rattle.bas_code.specs.declared.body.Image.{Image}
use Rattle.bas_vm.specs.Steps.{target_of, is_mark}

-- whether a mark stands at an address
abbrev pub is_marked : Option Instr → Bool
is_marked None = false
is_marked (Some i) = is_mark i

-- whether a jump from an address goes forward, or to a mark
abbrev pub goes_right : List Instr → (at : ℕ) → Option ℕ → Bool
goes_right code at None = true
goes_right code at (Some a) = nat_lt at a || is_marked (slice_get code a)

-- whether the jumps among the last instructions of a code, from an address on, go forward or to a mark
unfoldable pub go_right : List Instr → (last : List Instr) → (at : ℕ) → Bool
go_right code [] at = true
go_right code (i ∷ last) at = goes_right code at (target_of i) && go_right code last (suc at)

-- whether there is no guard
abbrev pub is_unguarded : List Guard → Bool
is_unguarded [] = true
is_unguarded (g ∷ guards) = false

-- whether a body is run: it has no WHEN block, and its jumps go forward or to a mark
abbrev pub is_fit : Proc → Bool
is_fit proc = is_unguarded proc.guards && go_right proc.code proc.code 0

-- whether the body of a program is run, where there is one
abbrev pub is_fit_body : Option Proc → Bool
is_fit_body None = true
is_fit_body (Some proc) = is_fit proc

-- whether the body of the first of the programs is run
abbrev pub is_fit_first : Image → List (List ℕ × ℕ) → Bool
is_fit_first image [] = true
is_fit_first image (program ∷ programs) = is_fit_body (slice_get image.procs program.1)

-- whether an image is run
abbrev pub is_fit_image : Image → Bool
is_fit_image image = is_fit_first image image.programs
