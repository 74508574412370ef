-- The image of the body that was made of a sound program carries it.
use Rattle.std.proofs.Common.{◌≡◌, ℕ, List, [], ◌∷◌, length, refl}
use Rattle.bas_ast.specs.Tree.{Program, ProgramUnit}
use Rattle.bas_code.specs.declared.body.Proc.{Proc}
use Rattle.bas_code.specs.declared.body.BodyKind.TheVariants.{Main}
use Rattle.bas_carry.specs.Carries.{Carries}
use Rattle.bas_carry.specs.Slots.{slots_of}
use Rattle.bas_carry.specs.Codes.{program_code}
use Rattle.bas_carry.specs.Tables.{Sound, IsMade, addresses_of, program_rows}
use Rattle.bas_carry.proofs.Made.{made_is_carried}
use Rattle.bas_carry.proofs.Theorem.{carried_agrees}
use Rattle.bas_execute.specs.Executed.{image_of, SoundIsNotLost}

pub made_carries : (p : Program) (proc : Proc) → Sound p → IsMade proc p → Carries (image_of p.name proc) (ProgramUnit p ∷ [])
made_carries p proc sound made =
    made_is_carried (image_of p.name proc) (ProgramUnit p ∷ []) (record {
      program = p;
      is_first = refl;
      sound = sound;
      body = 0;
      rest = [];
      is_program = refl;
      proc = proc;
      is_body = refl;
      made = made;
    })

-- the body that the functions make, whatever its counts
made_of : Program → Proc
made_of p = record {
  kind = Main;
  unit = p.name;
  slots = length (slots_of p);
  code = program_code (slots_of p) (addresses_of p) p;
  lines = program_rows p;
  guards = [];
}

pub is_not_lost : SoundIsNotLost
unfolding made_of
is_not_lost p sound n input =
    let made : IsMade (made_of p) p = record { unit = refl; slots = refl; code = refl; lines = refl; guards = refl } in
    (carried_agrees (image_of p.name (made_of p)) (ProgramUnit p ∷ []) (made_carries p (made_of p) sound made)).defined n input
