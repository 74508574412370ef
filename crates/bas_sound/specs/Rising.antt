-- When a program of a file is sound.
use Rattle.std.specs.Prelude.{◌≡◌, ℕ, ◌<◌, true, List, [], ◌∷◌, ◌++◌}
use Rattle.bas_ast.specs.Tree.{NumLine, Program}
use Rattle.bas_mean.specs.Built.{is_built_block, is_end}
use Rattle.bas_mean.specs.Jumps.{jumps_are_right}
use Rattle.bas_carry.specs.Tables.{Sound}
use Rattle.bas_nest.specs.Units.{IsProgram}

-- each line's number is above the one before it
abbrev pub Rises : ℕ → List NumLine → Type 0
Rises low [] = Unit {0}
Rises low (line ∷ lines) = (low < line.line) × Rises line.line lines

-- A program that lines with rising numbers are is sound where its constructs are built and its jumps go
-- where they may.
abbrev pub ProgramsAreSound : Type 0
ProgramsAreSound = (p : Program) (lines more : List NumLine) → IsProgram p lines → Rises 0 (lines ++ more) →
    is_built_block p.body ≡ true → is_end p.close.item ≡ true → jumps_are_right p ≡ true → Sound p
