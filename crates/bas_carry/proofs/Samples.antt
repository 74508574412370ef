-- The images of the small programs are those that the functions make.
use Rattle.std.proofs.Common.{[], refl}
use Rattle.bas_mean.specs.Built.{is_numeric_name}
use Rattle.bas_mean.specs.Programs.{counting_loop, jump_out, jump_to_loop, early_exit, zero_divisor, cut_short}
use Rattle.bas_code.specs.Images.{image_of, counting_body, jump_out_body, jump_to_loop_body, early_exit_body, zero_divisor_body, cut_short_body}
use Rattle.bas_carry.specs.Slots.{with_variables}
use Rattle.bas_carry.specs.Tables.{addresses_of, ImageIsMade}
use Rattle.bas_carry.specs.Carries.{Carries}
use Rattle.bas_carry.proofs.Made.{made_is_carried}

counting_made : ImageIsMade (image_of counting_body) counting_loop
unfolding counting_loop counting_body is_numeric_name with_variables addresses_of
counting_made = record {
  program = _;
  is_first = refl;
  sound = record { built = refl; closes = refl; jumps = refl; rises = refl };
  body = 0;
  rest = [];
  is_program = refl;
  proc = counting_body;
  is_body = refl;
  made = record { unit = refl; slots = refl; code = refl; lines = refl; guards = refl };
}

pub counting_carried : Carries (image_of counting_body) counting_loop
counting_carried = made_is_carried (image_of counting_body) counting_loop counting_made

jump_out_made : ImageIsMade (image_of jump_out_body) jump_out
unfolding jump_out jump_out_body is_numeric_name with_variables addresses_of
jump_out_made = record {
  program = _;
  is_first = refl;
  sound = record { built = refl; closes = refl; jumps = refl; rises = refl };
  body = 0;
  rest = [];
  is_program = refl;
  proc = jump_out_body;
  is_body = refl;
  made = record { unit = refl; slots = refl; code = refl; lines = refl; guards = refl };
}

pub jump_out_carried : Carries (image_of jump_out_body) jump_out
jump_out_carried = made_is_carried (image_of jump_out_body) jump_out jump_out_made

jump_to_loop_made : ImageIsMade (image_of jump_to_loop_body) jump_to_loop
unfolding jump_to_loop jump_to_loop_body is_numeric_name with_variables addresses_of
jump_to_loop_made = record {
  program = _;
  is_first = refl;
  sound = record { built = refl; closes = refl; jumps = refl; rises = refl };
  body = 0;
  rest = [];
  is_program = refl;
  proc = jump_to_loop_body;
  is_body = refl;
  made = record { unit = refl; slots = refl; code = refl; lines = refl; guards = refl };
}

pub jump_to_loop_carried : Carries (image_of jump_to_loop_body) jump_to_loop
jump_to_loop_carried = made_is_carried (image_of jump_to_loop_body) jump_to_loop jump_to_loop_made

early_exit_made : ImageIsMade (image_of early_exit_body) early_exit
unfolding early_exit early_exit_body is_numeric_name with_variables addresses_of
early_exit_made = record {
  program = _;
  is_first = refl;
  sound = record { built = refl; closes = refl; jumps = refl; rises = refl };
  body = 0;
  rest = [];
  is_program = refl;
  proc = early_exit_body;
  is_body = refl;
  made = record { unit = refl; slots = refl; code = refl; lines = refl; guards = refl };
}

pub early_exit_carried : Carries (image_of early_exit_body) early_exit
early_exit_carried = made_is_carried (image_of early_exit_body) early_exit early_exit_made

zero_divisor_made : ImageIsMade (image_of zero_divisor_body) zero_divisor
unfolding zero_divisor zero_divisor_body is_numeric_name with_variables addresses_of
zero_divisor_made = record {
  program = _;
  is_first = refl;
  sound = record { built = refl; closes = refl; jumps = refl; rises = refl };
  body = 0;
  rest = [];
  is_program = refl;
  proc = zero_divisor_body;
  is_body = refl;
  made = record { unit = refl; slots = refl; code = refl; lines = refl; guards = refl };
}

pub zero_divisor_carried : Carries (image_of zero_divisor_body) zero_divisor
zero_divisor_carried = made_is_carried (image_of zero_divisor_body) zero_divisor zero_divisor_made

cut_short_made : ImageIsMade (image_of cut_short_body) cut_short
unfolding cut_short cut_short_body is_numeric_name with_variables addresses_of
cut_short_made = record {
  program = _;
  is_first = refl;
  sound = record { built = refl; closes = refl; jumps = refl; rises = refl };
  body = 0;
  rest = [];
  is_program = refl;
  proc = cut_short_body;
  is_body = refl;
  made = record { unit = refl; slots = refl; code = refl; lines = refl; guards = refl };
}

pub cut_short_carried : Carries (image_of cut_short_body) cut_short
cut_short_carried = made_is_carried (image_of cut_short_body) cut_short cut_short_made

pub ruleset samples = (counting_carried, jump_out_carried, jump_to_loop_carried, early_exit_carried, zero_divisor_carried, cut_short_carried)
