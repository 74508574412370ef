pub mod Number
pub mod Arithmetic
pub mod NumeralForm
pub mod Numeral
pub mod Text
pub mod Fraction
pub mod Power
pub mod Fixed
