-- What a sink took between two moments, if the sink tells it.
use Rattle.std.specs.Prelude.{◌≡◌, ℕ, List, ◌++◌, Option}
use Rattle.std.specs.Option.{option_map}

-- it took all of the text
abbrev pub TookAll : Option (List ℕ) → Option (List ℕ) → List ℕ → Type 0
TookAll before now text = now ≡ option_map (λ taken. taken ++ text) before

-- it took a prefix of the text
pub record TookPrefix (before now : Option (List ℕ)) (text : List ℕ) : Type 0 where
  pub part : List ℕ
  pub rest : List ℕ
  pub whole : part ++ rest ≡ text
  pub took : TookAll before now part
