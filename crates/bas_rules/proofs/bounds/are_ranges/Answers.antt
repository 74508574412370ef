use Rattle.std.proofs.Common.{pos, None, ◌∙◌}
use Rattle.bas_rules.proofs.Shares.{next_takes}
use Rattle.bas_rules.proofs.bounds.are_ranges.Goals as goal

pub loop-bound-preserved : goal.loop-bound-preserved
loop-bound-preserved c =
    let extent = c.in-Some.extent in
    next_takes (pos c.args.base) c.args.bounds.now c.loop-bound.bound-index extent c.loop-bound.allowed (record { low = None; high = pos 0 })
    c.loop-bound-test.true (c.extent_of.ensures.some extent c.in-Some.is) ∙ c.loop-bound.invariant
