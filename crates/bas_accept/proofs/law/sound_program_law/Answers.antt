-- The clause is the law.
use Rattle.bas_accept.proofs.Sounding.{accepted_is_sound}
use Rattle.bas_accept.proofs.law.sound_program_law.Goals as goal

pub returns : goal.returns
returns c file units h = accepted_is_sound file units h
