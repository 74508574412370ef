pub mod BalanceLaws
pub mod ExpressionBalance
