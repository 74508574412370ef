-- How the generator refuses a body that is too large.
use Rattle.std.specs.Prelude.{◌≡◌, ℕ, suc, ◌<◌}
use Rattle.bas_genexpr.specs.declared.fault.GenFault.{GenFault}
use Rattle.bas_genexpr.specs.declared.fault.GenFault.TheVariants.{TooLarge, Memory}

-- a refusal of a count that passes its limit tells one more than the limit; memory may always be wanting
abbrev pub IsRefusal : GenFault → (count limit : ℕ) → Type 0
IsRefusal (TooLarge size told) count limit = (limit < count) × (size ≡ suc limit) × (told ≡ limit)
IsRefusal Memory count limit = Unit {0}
