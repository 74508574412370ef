-- The names of SUBs so far.
use Rattle.std.proofs.Common.{◌≡◌, take}
use Rattle.bas_names.specs.Names.{senses_in}
use Rattle.bas_place.specs.Uses.{subs_among}
use Rattle.bas_place.proofs.uses.subs_among.Given as goal

abbrev pub invariant-loop-name : goal.invariant-loop-name
invariant-loop-name l = l.subs.items ≡ subs_among (senses_in l.names) (take l.name-index l.used)
