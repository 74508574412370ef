use Rattle.std.proofs.Common.{◌≤◌, ◌-◌, length, take, drop, ◌∙◌, refl, sym, subst}
use Rattle.bas_drive.proofs.Reading.{HasRead-more, ReadsPart}
use Rattle.bas_drive.proofs.file.fill.Goals as goal

pub loop-filled-preserved : goal.loop-filled-preserved
loop-filled-preserved g c =
    let kept = c.loop-filled.invariant in
    let read = c.in_ok-count.ensures in
    let old = take (length c.loop-filled.buffer - c.loop-filled.filled) (drop c.loop-filled.filled c.loop-filled.buffer) in
    let part = c.read_at.new.buf in
    let fits : c.in_ok-count.count ≤ length part = subst (λ n. c.in_ok-count.count ≤ n) (sym c.read_at.auto.buf) read.within in
    let reads = subst (λ files. ReadsPart files c.args.name c.loop-filled.filled c.in_ok-count.count old part) kept.1 (read.count, read.bytes) in
    (HasRead-more _ _ _ _ _ _ _ old kept.0 fits reads, read.unchanged ∙ kept.1, read.counted.stands refl ∙ kept.2, read.longest ∙ kept.3)
