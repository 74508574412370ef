-- Which answers tell of a fault of the outside.
use Rattle.std.specs.Prelude.{Bool, true, false, Result, Ok, Err}
use Rattle.bas_world.specs.declared.store.StoreFail.{StoreFail}
use Rattle.bas_world.specs.declared.store.StoreFail.TheVariants as store
use Rattle.bas_world.specs.declared.source.Failed.{Failed}
use Rattle.bas_world.specs.declared.sink.SinkFail.{SinkFail}
use Rattle.bas_world.specs.declared.sink.SinkFail.TheVariants as sink

-- the store's answer is that the outside failed
abbrev pub store_failed : {T : Type 0} → Result T StoreFail → Bool
store_failed (Ok _) = false
store_failed (Err store.Failed) = true
store_failed (Err store.Memory) = false

-- the source's answer is that the outside failed
abbrev pub source_failed : {T : Type 0} → Result T Failed → Bool
source_failed (Ok _) = false
source_failed (Err _) = true

-- the sink's answer is that the outside failed
abbrev pub sink_failed : {T : Type 0} → Result T SinkFail → Bool
sink_failed (Ok _) = false
sink_failed (Err sink.Failed) = true
sink_failed (Err sink.Memory) = false
