-- What is put already is overruled by what is left.
use Rattle.std.proofs.Common.{◌≡◌, vec_len}
use Rattle.bas_mean.specs.Outcome as outcome
use Rattle.bas_carry.specs.Tables.{address_in}
use Rattle.bas_gen.specs.Layouts.{labels_of}
use Rattle.bas_gen.specs.Addresses.{address_at}
use Rattle.bas_gen.proofs.Addressing.{address_or}
use Rattle.bas_gen.proofs.targets.targets_of.Given as goal

abbrev pub invariant-loop-label : goal.invariant-loop-label
invariant-loop-label l = (t : outcome.Target) → address_or (labels_of l.labels.items) t (address_at l.targets t) ≡ address_in (labels_of l.initial.labels.items) t

abbrev pub decreases-loop-label : goal.decreases-loop-label
decreases-loop-label l = vec_len l.labels
