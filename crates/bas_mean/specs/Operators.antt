-- The operators on numbers: their values, and the exceptions that they raise.
use Rattle.std.specs.Prelude.{ℕ, Bool, true, false, Result, Ok, Err}
use Rattle.bas_dec.specs.Number.{Number}
use Rattle.bas_dec.specs.Arithmetic.{sum_of, difference_of, product_of, quotient_of, order_of}
use Rattle.bas_dec.specs.declared.fault.DecFault.{DecFault}
use Rattle.bas_dec.specs.declared.fault.DecFault.TheVariants.{Overflow, ZeroDivide, NotWhole, BadRoot}
use Rattle.bas_dec.specs.Power.{power_of}
use Rattle.bas_ast.specs.Tree.{Rel, Equal, NotEqual, Less, Greater, AtMost, AtLeast}
use Rattle.std.specs.declared.cmp.Ordering.{Ordering}
use Rattle.std.specs.declared.cmp.Ordering.TheVariants as is

-- a value, or the number of an exception
pub data Answer (V : Type 0) : Type 0 where
  Found : (v : V) → Answer V
  Raises : (x : ℕ) → Answer V

-- the operators on two numbers
pub data Operator : Type 0 where
  Adds : Operator
  Subtracts : Operator
  Multiplies : Operator
  Divides : Operator
  Powers : Operator

-- the exception of a fault, where that of a zero divisor is given
abbrev pub exception_of : (zero_divisor : ℕ) → DecFault → ℕ
exception_of z Overflow = 1002
exception_of z ZeroDivide = z
exception_of z NotWhole = 3010
exception_of z BadRoot = 3005

-- what arithmetic gives: a number, or the exception of its fault
abbrev pub answer_of : (zero_divisor : ℕ) → Result Number DecFault → Answer Number
answer_of z (Ok v) = Found v
answer_of z (Err fault) = Raises (exception_of z fault)

-- one row for each operator
abbrev pub apply : Operator → Number → Number → Answer Number
apply Adds x y = answer_of 3001 (sum_of x y)
apply Subtracts x y = answer_of 3001 (difference_of x y)
apply Multiplies x y = answer_of 3001 (product_of x y)
apply Divides x y = answer_of 3001 (quotient_of x y)
apply Powers x y = answer_of 3003 (power_of x y)

-- whether the relation holds of two things in this order
abbrev pub holds_of : Rel → Ordering → Bool
holds_of Equal is.Less = false
holds_of Equal is.Equal = true
holds_of Equal is.Greater = false
holds_of NotEqual is.Less = true
holds_of NotEqual is.Equal = false
holds_of NotEqual is.Greater = true
holds_of Less is.Less = true
holds_of Less is.Equal = false
holds_of Less is.Greater = false
holds_of Greater is.Less = false
holds_of Greater is.Equal = false
holds_of Greater is.Greater = true
holds_of AtMost is.Less = true
holds_of AtMost is.Equal = true
holds_of AtMost is.Greater = false
holds_of AtLeast is.Less = false
holds_of AtLeast is.Equal = true
holds_of AtLeast is.Greater = true

-- whether two numbers stand in the relation
abbrev pub related : Rel → Number → Number → Bool
related rel x y = holds_of rel (order_of x y)
