-- How the images of small programs run, computed.
use Rattle.std.proofs.Common.{◌≡◌, [], ◌∷◌, Some, None, refl}
use Rattle.std.specs.Prelude.{codes}
use Rattle.std.specs.Fmt.{digits}
use Rattle.bas_dec.specs.Arithmetic.{sum_of, quotient_of, order_of}
use Rattle.bas_dec.specs.Number.{stripped, low}
use Rattle.bas_dec.specs.Text.{text_of, last_digits, whole_text, fraction_text}
use Rattle.bas_mean.specs.Outcome.{Ended, Stopped, GoesOn}
use Rattle.bas_mean.specs.Place.{is_full}
use Rattle.bas_mean.specs.Programs.{terminal_with}
use Rattle.bas_code.specs.Images.{run_for, image_of, counting_body, jump_out_body, jump_to_loop_body, early_exit_body, zero_divisor_body, cut_short_body}
use Rattle.bas_code.specs.Machine.{exec}

pub loop_ten : run_for (image_of counting_body) 200 10 ≡ Some (GoesOn (record { left = 0; terminal = terminal_with [] }))
unfolding exec counting_body quotient_of order_of text_of last_digits digits whole_text fraction_text stripped low sum_of is_full
loop_ten = refl

pub loop_eleven : run_for (image_of counting_body) 200 11 ≡ Some (GoesOn (record { left = 0; terminal = terminal_with (codes " .375 " ∷ []) }))
unfolding exec counting_body quotient_of order_of text_of last_digits digits whole_text fraction_text stripped low sum_of is_full
loop_eleven = refl

pub loop_twelve : run_for (image_of counting_body) 200 12 ≡ Some (Ended (record { left = 0; terminal = terminal_with (codes " .375 " ∷ []) }))
unfolding exec counting_body quotient_of order_of text_of last_digits digits whole_text fraction_text stripped low sum_of is_full
loop_twelve = refl

pub loop_fifty : run_for (image_of counting_body) 50 12 ≡ None
unfolding exec counting_body quotient_of order_of text_of last_digits digits whole_text fraction_text stripped low sum_of is_full
loop_fifty = refl

pub ruleset loop_runs = (loop_ten, loop_eleven, loop_twelve, loop_fifty)

pub jumps_out : run_for (image_of jump_out_body) 200 5 ≡ Some (Ended (record { left = 0; terminal = terminal_with (codes " 1 " ∷ []) }))
unfolding exec jump_out_body quotient_of order_of text_of last_digits digits whole_text fraction_text stripped low sum_of is_full
jumps_out = refl

pub jumps_to_loop : run_for (image_of jump_to_loop_body) 200 21 ≡ Some (Ended (record { left = 0; terminal = terminal_with (codes " 3 " ∷ codes " 4 " ∷ []) }))
unfolding exec jump_to_loop_body quotient_of order_of text_of last_digits digits whole_text fraction_text stripped low sum_of is_full
jumps_to_loop = refl

pub exits : run_for (image_of early_exit_body) 200 14 ≡ Some (Ended (record { left = 0; terminal = terminal_with (codes " 3 " ∷ []) }))
unfolding exec early_exit_body quotient_of order_of text_of last_digits digits whole_text fraction_text stripped low sum_of is_full
exits = refl

pub ruleset jumps_run = (jumps_out, jumps_to_loop, exits)

pub divides : run_for (image_of zero_divisor_body) 200 9 ≡ Some (Stopped (record { number = 3001; line = 20; unit = codes "MAIN" }) (record { left = 7; terminal = terminal_with (codes " 1 " ∷ []) }))
unfolding exec zero_divisor_body quotient_of order_of text_of last_digits digits whole_text fraction_text stripped low sum_of is_full
divides = refl

pub cuts : run_for (image_of cut_short_body) 200 4 ≡ Some (Ended (record { left = 0; terminal = terminal_with (codes " 3 " ∷ []) }))
unfolding exec cut_short_body quotient_of order_of text_of last_digits digits whole_text fraction_text stripped low sum_of is_full
cuts = refl

pub ruleset others_run = (divides, cuts)
