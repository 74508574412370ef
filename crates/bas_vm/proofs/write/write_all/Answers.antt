use Rattle.std.proofs.Common.{◌∙◌, refl}
use Rattle.bas_vm.proofs.Taking.{Sending-range}
use Rattle.bas_vm.proofs.write.write_all.Goals as goal

pub loop-rest-preserved : goal.loop-rest-preserved
loop-rest-preserved g c =
    (Sending-range _ _ _ _ _ _ c.loop-rest.invariant.0 c.in_ok-count.ensures.ok, c.in_ok-count.ensures.counted.stands refl ∙ c.loop-rest.invariant.1)
