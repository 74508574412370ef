-- Items with a separator between two.
use Rattle.std.specs.Prelude.{ℕ, List, Option}
use Rattle.bas_form.specs.Form.{Form, Terminal, ◌then◌, Built, ◌repeating◌}
use Rattle.bas_form.specs.Reader.{Reader, terminal, ◌followed_by◌, built, repeated}

-- separator item
abbrev pub Behind : {A O : Type 0} → (ℕ → Option O) → Form A → Form A
Behind {A = A} {O = O} separator Item = Built (λ (parts : O × A). parts.1) (Terminal separator then Item)

-- item { separator item }
abbrev pub Separated : {A O : Type 0} → (ℕ → Option O) → Form A → Form (A × List A)
Separated separator Item = Item repeating Behind separator Item

-- reads a separator and an item
abbrev pub behind : {A O : Type 0} → (ℕ → Option O) → Reader A → Reader A
behind {A = A} {O = O} separator item = built (λ (parts : O × A). parts.1) (terminal separator followed_by item)

-- reads items with separators between them
abbrev pub separated : {A O : Type 0} → (ℕ → Option O) → Reader A → ℕ → Reader (A × List A)
separated separator item len = item followed_by repeated (behind separator item) len
