-- What small programs mean, computed.
use Rattle.std.proofs.Common.{◌≡◌, [], ◌∷◌, true, refl}
use Rattle.std.specs.Prelude.{codes}
use Rattle.bas_dec.specs.Number.{stripped, low}
use Rattle.bas_dec.specs.Arithmetic.{sum_of, quotient_of, order_of}
use Rattle.std.specs.Fmt.{digits}
use Rattle.bas_dec.specs.Text.{text_of, last_digits, whole_text, fraction_text}
use Rattle.bas_mean.specs.Place.{is_full}
use Rattle.bas_mean.specs.Meaning.{mean, level}
use Rattle.bas_mean.specs.Outcome.{Ended, Stopped, GoesOn}
use Rattle.bas_mean.specs.Built.{are_built, is_numeric_name}
use Rattle.bas_mean.specs.Programs.{counting_loop, jump_out, jump_to_loop, early_exit, zero_divisor, cut_short, greatest_number, remarked, terminal_with}

pub counting_is_built : are_built counting_loop ≡ true
unfolding counting_loop is_numeric_name
counting_is_built = refl

pub counting_ten : mean counting_loop 10 [] ≡ GoesOn (record { left = 0; terminal = terminal_with [] })
unfolding mean level counting_loop order_of stripped low sum_of is_full
counting_ten = refl

pub counting_eleven : mean counting_loop 11 [] ≡ GoesOn (record { left = 0; terminal = terminal_with (codes " .375 " ∷ []) })
unfolding mean level counting_loop quotient_of order_of text_of last_digits digits whole_text fraction_text stripped low sum_of is_full
counting_eleven = refl

pub counting_twelve : mean counting_loop 12 [] ≡ Ended (record { left = 0; terminal = terminal_with (codes " .375 " ∷ []) })
unfolding mean level counting_loop quotient_of order_of text_of last_digits digits whole_text fraction_text stripped low sum_of is_full
counting_twelve = refl

pub counting_many : mean counting_loop 1000000000 [] ≡ Ended (record { left = 999999988; terminal = terminal_with (codes " .375 " ∷ []) })
unfolding mean level counting_loop quotient_of order_of text_of last_digits digits whole_text fraction_text stripped low sum_of is_full
counting_many = refl

pub jumped_out : mean jump_out 5 [] ≡ Ended (record { left = 0; terminal = terminal_with (codes " 1 " ∷ []) })
unfolding mean level jump_out order_of text_of last_digits digits whole_text fraction_text stripped low sum_of is_full
jumped_out = refl

pub jumped_to_loop : mean jump_to_loop 21 [] ≡ Ended (record { left = 0; terminal = terminal_with (codes " 3 " ∷ codes " 4 " ∷ []) })
unfolding mean level jump_to_loop order_of text_of last_digits digits whole_text fraction_text stripped low sum_of is_full
jumped_to_loop = refl

pub exited : mean early_exit 14 [] ≡ Ended (record { left = 0; terminal = terminal_with (codes " 3 " ∷ []) })
unfolding mean level early_exit order_of text_of last_digits digits whole_text fraction_text stripped low sum_of is_full
exited = refl

pub divided_by_zero : mean zero_divisor 9 [] ≡ Stopped (record { number = 3001; line = 20; unit = codes "MAIN" }) (record { left = 7; terminal = terminal_with (codes " 1 " ∷ []) })
unfolding mean level zero_divisor quotient_of order_of text_of last_digits digits whole_text fraction_text stripped low sum_of is_full
divided_by_zero = refl

pub was_cut_short : mean cut_short 4 [] ≡ Ended (record { left = 0; terminal = terminal_with (codes " 3 " ∷ []) })
unfolding mean level cut_short quotient_of order_of text_of last_digits digits whole_text fraction_text stripped low sum_of is_full
was_cut_short = refl

pub printed_greatest : mean greatest_number 9 [] ≡ Stopped (record { number = 1002; line = 20; unit = codes "MAIN" }) (record { left = 7; terminal = terminal_with (codes " 99999999999999999999999999999999999999 " ∷ []) })
unfolding mean level greatest_number order_of text_of last_digits digits whole_text fraction_text stripped low sum_of is_full
printed_greatest = refl

pub remarked_is_built : are_built remarked ≡ true
unfolding remarked is_numeric_name
remarked_is_built = refl

pub remarked_two : mean remarked 2 [] ≡ GoesOn (record { left = 0; terminal = terminal_with [] })
unfolding mean level remarked is_full
remarked_two = refl

pub remarked_four : mean remarked 4 [] ≡ Ended (record { left = 0; terminal = terminal_with (codes " 1 " ∷ []) })
unfolding mean level remarked order_of text_of last_digits digits whole_text fraction_text stripped low sum_of is_full
remarked_four = refl

pub ruleset counting = (counting_is_built, counting_ten, counting_eleven, counting_twelve, counting_many)

pub ruleset remarks_taken = (remarked_is_built, remarked_two, remarked_four)
