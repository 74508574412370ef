-- What the stores, sources and sinks in memory are seen as.
use Rattle.std.specs.Prelude.{ℕ, List, refl}
use Rattle.std.specs.Coded.{Coded, code_by, coded×, coded_list, coded_ℕ}
use Rattle.std.specs.FinMap.{code}
use Rattle.bas_world.specs.Files.{Files}
use Rattle.bas_world.specs.Plan.{Plan, plan_code}

-- a store: its files, and the plan of its calls
pub record StoreState : Type 0 where
  pub files : Files
  pub plan : Plan

-- a source: the bytes that are left, and the plan of its calls
pub record SourceState : Type 0 where
  pub left : List ℕ
  pub plan : Plan

-- a sink: the bytes that were taken, and the plan of its calls
pub record SinkState : Type 0 where
  pub taken : List ℕ
  pub plan : Plan

-- files are stored as their names with their bytes
abbrev pub files_code : Coded Files
files_code = code (coded_list coded_ℕ) (coded_list coded_ℕ)

-- a store's state is stored as the pair of its fields
abbrev pub store_code : Coded StoreState
store_code = code_by (Files × Plan) (coded× files_code plan_code) (λ s. (s.files, s.plan)) (λ p. record { files = p.0; plan = p.1 }) (λ _. refl)

-- a source's state is stored as the pair of its fields
abbrev pub source_code : Coded SourceState
source_code = code_by (List ℕ × Plan) (coded× (coded_list coded_ℕ) plan_code) (λ s. (s.left, s.plan)) (λ p. record { left = p.0; plan = p.1 }) (λ _. refl)

-- a sink's state is stored as the pair of its fields
abbrev pub sink_code : Coded SinkState
sink_code = code_by (List ℕ × Plan) (coded× (coded_list coded_ℕ) plan_code) (λ s. (s.taken, s.plan)) (λ p. record { taken = p.0; plan = p.1 }) (λ _. refl)
