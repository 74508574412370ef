-- The meaning of conditions: from left to right, and no further than needed.
use Rattle.std.specs.Prelude.{Bool, true, false, not}
use Rattle.bas_ast.specs.Tree.{Rel, Expr, Cond, AnyOf, Conjs, NoConjs, MoreConjs, Conj, AllOf, Tests, NoTests, MoreTests, Test, Not, CondGroup, Compare}
use Rattle.bas_mean.specs.World.{World}
use Rattle.bas_mean.specs.Outcome.{Evaluated, Gives, then_with}
use Rattle.bas_mean.specs.Operators.{related}
use Rattle.bas_mean.specs.Place.{Here}
use Rattle.bas_mean.specs.Expression.{number}

-- a relation: the first expression, the second, and their order
abbrev pub compared : Here → Rel → Expr → Expr → World → Evaluated Bool
compared here rel a b w = then_with (number here a w) (λ x w1. then_with (number here b w1) (λ y w2. Gives (related rel x y) w2))

-- goes on only where the test has not decided
abbrev pub or_else : Bool → (World → Evaluated Bool) → World → Evaluated Bool
or_else true go w = Gives true w
or_else false go w = go w

-- goes on only where the test has held
abbrev pub and_then : Bool → (World → Evaluated Bool) → World → Evaluated Bool
and_then true go w = go w
and_then false go w = Gives false w

abbrev mutual
  -- conditions joined by OR
  pub holds : Here → Cond → World → Evaluated Bool
  holds here (AnyOf first rest) w = then_with (all_hold here first w) (λ b w1. or_else b (λ w2. any_holds here rest w2) w1)

  -- one of these holds
  pub any_holds : Here → Conjs → World → Evaluated Bool
  any_holds here NoConjs w = Gives false w
  any_holds here (MoreConjs next rest) w = then_with (all_hold here next w) (λ b w1. or_else b (λ w2. any_holds here rest w2) w1)

  -- conditions joined by AND
  pub all_hold : Here → Conj → World → Evaluated Bool
  all_hold here (AllOf first rest) w = then_with (test_holds here first w) (λ b w1. and_then b (λ w2. each_holds here rest w2) w1)

  -- each of these holds
  pub each_holds : Here → Tests → World → Evaluated Bool
  each_holds here NoTests w = Gives true w
  each_holds here (MoreTests next rest) w = then_with (test_holds here next w) (λ b w1. and_then b (λ w2. each_holds here rest w2) w1)

  -- a negation, a condition in parentheses, or a relation
  pub test_holds : Here → Test → World → Evaluated Bool
  test_holds here (Not t) w = then_with (test_holds here t w) (λ b w1. Gives (not b) w1)
  test_holds here (CondGroup c) w = holds here c w
  test_holds here (Compare a rel b) w = compared here rel a b w
