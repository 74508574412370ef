use Rattle.bas_dec.proofs.Values.{equal_to_sound, equal_to_complete}
use Rattle.bas_dec.proofs.laws.fractions_have_one_number.Goals as goal

pub returns : goal.returns
returns c = λ a x some. (λ e. let h = equal_to_sound a x some e in (h.number, h.value), λ h. equal_to_complete a x some (record { number = h.0; value = h.1 }))
