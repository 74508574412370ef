-- The first program of an accepted file is sound.
use Rattle.std.proofs.Common.{◌≡◌, ℕ, ◌&&◌, true, List, [], ◌∷◌, ◌++◌, map, Option, Some, None, refl, subst}
use Rattle.std.specs.Option.{is_none}
use Rattle.bas_ast.specs.Tree.{Program, SourceUnit, ProgramUnit, ProcedureUnit, ModuleUnit}
use Rattle.bas_ast.specs.Tree as tree
use Rattle.bas_ast.specs.BlockTree.{line_tree}
use Rattle.bas_ast.specs.declared.block.NumLine.{NumLine}
use Rattle.bas_source.specs.Lines.{logical_lines}
use Rattle.bas_nest.specs.Units.{AreUnits}
use Rattle.bas_block.specs.Files.{AreLines, IsFile}
use Rattle.bas_mean.specs.Built.{is_built_program_head, is_built_block, is_end, is_built_unit, are_built}
use Rattle.bas_rules.specs.Well.{Fault, first_fault}
use Rattle.bas_sound.specs.Rising.{Rises}
use Rattle.bas_sound.proofs.Rising.{dropped, is_sound}
use Rattle.bas_accept.specs.Accepted.{keep_rules, HasSoundProgram, AcceptedIsSound}
use Rattle.bas_accept.proofs.Reaching.{no_truth, and_left, and_right, jumps_right}

-- the numbers of a file's lines rise
lines_rise : (last : ℕ) (texts : List (List ℕ)) (lines : List NumLine) → AreLines last texts lines → Rises last (map line_tree lines)
lines_rise last [] [] h = tt
lines_rise last [] (line ∷ lines) h = absurd (h)
lines_rise last (text ∷ texts) [] h = absurd (h)
lines_rise last (text ∷ texts) (line ∷ lines) h = (h.0.3, lines_rise line.line texts lines h.1)

is_nothing : (o : Option Fault) → is_none o ≡ true → o ≡ None
is_nothing None h = refl
is_nothing (Some fault) h = absurd (no_truth h)

-- a unit alone that keeps all rules has no fault
alone_keeps : (u : SourceUnit) → keep_rules (u ∷ []) ≡ true → first_fault u ≡ None
alone_keeps u k = is_nothing (first_fault u) (and_left (is_none (first_fault u)) true k)

-- the lines of the one unit rise, whatever remarks stand around it
unit_is_sound : (u : SourceUnit) (lines : List tree.NumLine) → AreUnits (u ∷ []) lines → Rises 0 lines → is_built_unit u ≡ true → first_fault u ≡ None → HasSoundProgram (u ∷ [])
unit_is_sound (ProgramUnit p) lines h r b f =
    let left : List tree.NumLine = h.0 in
    let own : List tree.NumLine = h.1 in
    let behind : List tree.NumLine = h.2 in
    let rises : Rises 0 (own ++ behind) = dropped 0 left (own ++ behind) (subst (λ (ls : List tree.NumLine). Rises 0 ls) h.6 r) in
    let rest : (is_built_block p.body && is_end p.close.item) ≡ true = and_right (is_built_program_head p.head) (is_built_block p.body && is_end p.close.item) b in
    let built : is_built_block p.body ≡ true = and_left (is_built_block p.body) (is_end p.close.item) rest in
    record {
      program = p;
      is_first = refl;
      sound = is_sound p own behind h.4 rises built (and_right (is_built_block p.body) (is_end p.close.item) rest) (jumps_right p built f);
    }
unit_is_sound (ProcedureUnit p) lines h r b f = absurd (no_truth b)
unit_is_sound (ModuleUnit m) lines h r b f = absurd (no_truth b)

units_are_sound : (units : List SourceUnit) (lines : List tree.NumLine) → AreUnits units lines → Rises 0 lines → are_built units ≡ true → keep_rules units ≡ true → HasSoundProgram units
units_are_sound [] lines h r b k = absurd (no_truth b)
units_are_sound (u ∷ []) lines h r b k = unit_is_sound u lines h r b (alone_keeps u k)
units_are_sound (u ∷ (v ∷ units)) lines h r b k = absurd (no_truth b)

pub accepted_is_sound : AcceptedIsSound
accepted_is_sound file units h =
    let is : IsFile file units = h.is_file in
    units_are_sound units (map line_tree is.0) is.2 (lines_rise 0 (logical_lines file) is.0 is.1) h.built h.rules
