-- The number that a line begins with.
use Rattle.std.specs.Prelude.{ℕ, ◌+◌, ◌-◌, ◌*◌, ◌&&◌, nat_le, if◌then◌else◌, List, length, take, drop, fold, Option, Some, None}
use Rattle.std.specs.List.{prefix_len}
use Rattle.std.specs.Option.{option_map}
use Rattle.std.specs.Char.{is_ascii_digit}

-- the whole number that decimal digits spell
abbrev pub spelled : List ℕ → ℕ
spelled digits = fold (λ n digit. 10 * n + (digit - 48)) 0 digits

-- a line number: 1 to 8 digits of a value from 1 to 99999
abbrev pub number_of : List ℕ → Option ℕ
number_of digits =
    let number = spelled digits in
    if nat_le (length digits) 8 && (nat_le 1 number && nat_le number 99999) then Some number else None

-- how many digits a line begins with
abbrev pub digits_at : List ℕ → ℕ
digits_at line = prefix_len is_ascii_digit line

-- the number of a line, and what stands behind it, where all the digits at the front are a line number
abbrev pub numbered : List ℕ → Option (ℕ × List ℕ)
numbered line = option_map (λ number. (number, drop (digits_at line) line)) (number_of (take (digits_at line) line))
