-- A program for each exception of the table.
use Rattle.std.proofs.Common.{zero, suc, false, List, [], ◌∷◌, Some, None, pos, codes, refl, subst, arith}
use Rattle.bas_dec.specs.Number.{stripped, low}
use Rattle.bas_dec.specs.Arithmetic.{sum_of, product_of, quotient_of, order_of}
use Rattle.bas_dec.specs.Power.{left_product, power_of}
use Rattle.std.specs.Fmt.{digits}
use Rattle.bas_dec.specs.Text.{text_of, last_digits, whole_text, fraction_text}
use Rattle.bas_ast.specs.Tree.{Minus, Expr, Sum, NoTerms, Product, NoFactors, Power, NoPrimaries, MorePrimaries, Primary, Numeric, Group, SourceUnit}
use Rattle.bas_mean.specs.Place.{is_full}
use Rattle.bas_mean.specs.Meaning.{mean, level}
use Rattle.bas_mean.specs.Built.{is_numeric_name}
use Rattle.bas_mean.specs.Programs.{num, factor_of, print_line, program_of, zero_divisor, greatest_number, terminal_with}
use Rattle.bas_raise.specs.Raised.{CanCome, EachCanCome}

-- a ^ b
power : Primary → Primary → Expr
power a b = Sum None (Product (Power a (MorePrimaries b NoPrimaries)) NoFactors) NoTerms

-- 10 PRINT 0 ^ (-1), 20 END
zero_to_minus_one : List SourceUnit
zero_to_minus_one = program_of (print_line 10 (power (num 0) (Group (Sum (Some Minus) (Product (factor_of (num 1)) NoFactors) NoTerms))) ∷ []) 20

-- 10 PRINT 2 ^ .5, 20 END
two_to_a_half : List SourceUnit
two_to_a_half = program_of (print_line 10 (power (num 2) (Numeric (record { value = record { coefficient = pos 5; scale = 1 }; digits = false }))) ∷ []) 20

overflow : CanCome 1002
unfolding mean level greatest_number is_numeric_name order_of text_of last_digits digits whole_text fraction_text stripped low sum_of is_full
overflow = record {
  units = greatest_number;
  built = refl;
  lines = 9;
  exception = record { number = 1002; line = 20; unit = codes "MAIN" };
  seen = record { left = 7; terminal = terminal_with (codes " 99999999999999999999999999999999999999 " ∷ []) };
  stops = refl;
  numbered = refl;
}

division_by_zero : CanCome 3001
unfolding mean level zero_divisor is_numeric_name quotient_of order_of text_of last_digits digits whole_text fraction_text stripped low sum_of is_full
division_by_zero = record {
  units = zero_divisor;
  built = refl;
  lines = 9;
  exception = record { number = 3001; line = 20; unit = codes "MAIN" };
  seen = record { left = 7; terminal = terminal_with (codes " 1 " ∷ []) };
  stops = refl;
  numbered = refl;
}

zero_below_zero : CanCome 3003
unfolding zero_to_minus_one power mean level is_numeric_name power_of left_product product_of quotient_of stripped low is_full
zero_below_zero = record {
  units = zero_to_minus_one;
  built = refl;
  lines = 1;
  exception = record { number = 3003; line = 10; unit = codes "MAIN" };
  seen = record { left = 0; terminal = terminal_with [] };
  stops = refl;
  numbered = refl;
}

fraction : CanCome 3010
unfolding two_to_a_half power mean level is_numeric_name power_of is_full
fraction = record {
  units = two_to_a_half;
  built = refl;
  lines = 1;
  exception = record { number = 3010; line = 10; unit = codes "MAIN" };
  seen = record { left = 0; terminal = terminal_with [] };
  stops = refl;
  numbered = refl;
}

pub each_can_come : EachCanCome
each_can_come number (zero, h, e) = subst CanCome e overflow
each_can_come number (suc zero, h, e) = subst CanCome e division_by_zero
each_can_come number (suc (suc zero), h, e) = subst CanCome e zero_below_zero
each_can_come number (suc (suc (suc zero)), h, e) = subst CanCome e fraction
each_can_come number (suc (suc (suc (suc k))), h, e) = absurd (omega arith)
