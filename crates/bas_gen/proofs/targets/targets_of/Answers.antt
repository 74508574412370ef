-- A target that is put overrules the later ones.
use Rattle.bas_gen.proofs.Addressing.{none_is_zero, empty_targets, one_put}
use Rattle.bas_gen.proofs.targets.targets_of.Goals as goal

pub loop-label-init : goal.loop-label-init
loop-label-init c = λ t. none_is_zero _ t _ (empty_targets (record { lines = c.new.result; ends = c.new-2.result; turns = c.new-3.result }) t c.new.ensures.empty c.new-2.ensures.empty c.new-3.ensures.empty)

pub loop-label-preserved : goal.loop-label-preserved
loop-label-preserved c = λ t. one_put c.loop-label.labels.items c.pop.new.self.items c.in-Some.label c.loop-label.targets c.put.new.self t _ c.in-Some.ensures.items c.in_ok-put.ensures (c.loop-label.invariant t)
