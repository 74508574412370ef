use Rattle.std.proofs.Common.{◌≡◌, ◌-◌, length}
use Rattle.bas_drive.proofs.Reading.{HasRead}
use Rattle.bas_drive.proofs.file.fill.Given as goal

abbrev pub invariant-loop-filled : goal.invariant-loop-filled
invariant-loop-filled g l =
    HasRead (g.S.Store.files l.initial.store) l.name l.filled l.buffer × (g.S.Store.files l.store ≡ g.S.Store.files l.initial.store) × (g.S.Store.faults l.store ≡ g.S.Store.faults l.initial.store) × (g.S.Store.longest l.store ≡ g.S.Store.longest l.initial.store)

abbrev pub decreases-loop-filled : goal.decreases-loop-filled
decreases-loop-filled g l = length l.initial.buffer - l.filled
