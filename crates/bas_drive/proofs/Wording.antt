-- Words that are no command by their number.
use Rattle.std.proofs.Common.{◌≡◌, ◌≢◌, ℕ, List, [], ◌∷◌, length, map, None, refl}
use Rattle.bas_drive.specs.Answer.{command_of}

-- commands have two or four words
pub no_command : {A : Type 0} (text : A → List ℕ) (words : List A) → length words ≢ 2 → length words ≢ 4 → None ≡ command_of (map text words)
no_command text [] two four = refl
no_command text (a ∷ []) two four = refl
no_command text (a ∷ b ∷ []) two four = absurd (two refl)
no_command text (a ∷ b ∷ c ∷ []) two four = refl
no_command text (a ∷ b ∷ c ∷ d ∷ []) two four = absurd (four refl)
no_command text (a ∷ b ∷ c ∷ d ∷ e ∷ words) two four = refl
