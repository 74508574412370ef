use Rattle.std.proofs.Common.{refl}
use Rattle.std.specs.Fmt.{digits}
use Rattle.bas_dec.specs.Text.{last_digits, whole_text, fraction_text, text_of}
use Rattle.bas_dec.proofs.text.laws.worked_texts.Goals as goal

pub returns-clause-zero : goal.returns-clause-zero
unfolding last_digits whole_text fraction_text text_of digits
returns-clause-zero c = refl

pub returns-clause-whole : goal.returns-clause-whole
unfolding last_digits whole_text fraction_text text_of digits
returns-clause-whole c = refl

pub returns-clause-fraction : goal.returns-clause-fraction
unfolding last_digits whole_text fraction_text text_of digits
returns-clause-fraction c = refl

pub returns-clause-below_one : goal.returns-clause-below_one
unfolding last_digits whole_text fraction_text text_of digits
returns-clause-below_one c = refl

pub returns-clause-zeros : goal.returns-clause-zeros
unfolding last_digits whole_text fraction_text text_of digits
returns-clause-zeros c = refl

pub returns-clause-least : goal.returns-clause-least
unfolding last_digits whole_text fraction_text text_of digits
returns-clause-least c = refl
