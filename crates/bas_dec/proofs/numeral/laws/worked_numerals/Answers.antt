use Rattle.std.proofs.Common.{refl}
use Rattle.bas_dec.specs.Number.{stripped, low}
use Rattle.bas_dec.specs.Numeral.{numeral_of}
use Rattle.bas_dec.proofs.numeral.laws.worked_numerals.Goals as goal

pub returns-clause-point_first : goal.returns-clause-point_first
unfolding numeral_of stripped low
returns-clause-point_first c = refl

pub returns-clause-point_last : goal.returns-clause-point_last
unfolding numeral_of stripped low
returns-clause-point_last c = refl

pub returns-clause-exponent : goal.returns-clause-exponent
unfolding numeral_of stripped low
returns-clause-exponent c = refl

pub returns-clause-half_up : goal.returns-clause-half_up
unfolding numeral_of stripped low
returns-clause-half_up c = refl

pub returns-clause-below_half : goal.returns-clause-below_half
unfolding numeral_of stripped low
returns-clause-below_half c = refl

pub returns-clause-carry : goal.returns-clause-carry
unfolding numeral_of stripped low
returns-clause-carry c = refl

pub returns-clause-most_digits : goal.returns-clause-most_digits
unfolding numeral_of stripped low
returns-clause-most_digits c = refl

pub returns-clause-too_many_digits : goal.returns-clause-too_many_digits
unfolding numeral_of stripped low
returns-clause-too_many_digits c = refl

pub returns-clause-long_exponent : goal.returns-clause-long_exponent
unfolding numeral_of stripped low
returns-clause-long_exponent c = refl

pub returns-clause-point_alone : goal.returns-clause-point_alone
unfolding numeral_of stripped low
returns-clause-point_alone c = refl

pub returns-clause-no_exponent : goal.returns-clause-no_exponent
unfolding numeral_of stripped low
returns-clause-no_exponent c = refl

pub returns-clause-signed : goal.returns-clause-signed
unfolding numeral_of stripped low
returns-clause-signed c = refl
