-- The two kinds of values.

pub data Kind : Type 0 where
  Number : Kind
  Text : Kind
