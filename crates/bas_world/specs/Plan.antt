-- Which calls of an object in memory fail, and what calls and faults there were.
use Rattle.std.specs.Prelude.{ℕ, ◌+◌, ◌==◌, Bool, List, if◌then◌else◌, refl}
use Rattle.std.specs.List.{list_any}
use Rattle.std.specs.Coded.{Coded, code_by, coded×, coded_list, coded_ℕ}
use Rattle.bas_world.specs.Count.{next_count}

-- the numbers of the calls that fail, of which the first is 1, and how many calls and faults there were
pub record Plan : Type 0 where
  pub fails : List ℕ
  pub calls : ℕ
  pub faults : ℕ

-- a plan is stored as its fields in a row
abbrev pub plan_code : Coded Plan
plan_code =
    code_by (List ℕ × (ℕ × ℕ)) (coded× (coded_list coded_ℕ) (coded× coded_ℕ coded_ℕ))
    (λ p. (p.fails, (p.calls, p.faults))) (λ row. record { fails = row.0; calls = row.1.0; faults = row.1.1 }) (λ _. refl)

-- no call was made yet, and the calls of these numbers are to fail
abbrev pub plan_of : List ℕ → Plan
plan_of fails = record { fails = fails; calls = 0; faults = 0 }

-- whether the next call fails: its number is listed
abbrev pub fails_next : Plan → Bool
fails_next plan = list_any (λ number. number == plan.calls + 1) plan.fails

-- the plan after one more call
abbrev pub after_call : Plan → Plan
after_call plan = record {
  fails = plan.fails;
  calls = next_count plan.calls;
  faults = if fails_next plan then next_count plan.faults else plan.faults;
}
