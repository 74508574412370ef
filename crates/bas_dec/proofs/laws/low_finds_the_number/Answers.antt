use Rattle.bas_dec.proofs.Low.{low_sound, low_complete}
use Rattle.bas_dec.proofs.laws.low_finds_the_number.Goals as goal

pub returns : goal.returns
returns c = λ k s x. (λ e. let h = low_sound k s x e in (h.number, h.value), λ h. low_complete k s x (record { number = h.0; value = h.1 }))
