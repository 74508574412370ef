-- The meaning of expressions: operands from left to right, operators of one level from the left.
use Rattle.std.specs.Prelude.{ℕ, List, Option, Some, None}
use Rattle.bas_dec.specs.Number.{Number}
use Rattle.bas_dec.specs.Arithmetic.{negated}
use Rattle.bas_ast.specs.Tree.{Sign, Plus, Minus, TermSign, Add, Subtract, Join, FactorSign, Multiply, Divide, Expr, Sum, Terms, NoTerms, MoreTerms, Term, Product, Factors, NoFactors, MoreFactors, Factor, Power, Primaries, NoPrimaries, MorePrimaries, Primary, Numeric, Group, Named, Args, NoArgs, MoreArgs}
use Rattle.bas_mean.specs.World.{OfName, Cell, Ref, World, with_cell, with_cells}
use Rattle.bas_mean.specs.Outcome.{Exception, Raised, Evaluated, Gives, Fails, then_with, undefined}
use Rattle.bas_mean.specs.Operators.{Answer, Found, Raises, Operator, Adds, Subtracts, Multiplies, Divides, Powers, apply}
use Rattle.bas_mean.specs.Place.{Here}

-- an exception that arises here
abbrev pub exception_at : Here → ℕ → Exception
exception_at here x = record { number = x; line = here.line; unit = here.unit }

-- an answer: a value, or an exception that arises here
abbrev pub answered : {V : Type 0} → Here → Answer V → World → Evaluated V
answered here (Found v) w = Gives v w
answered here (Raises x) w = Fails (Raised (exception_at here x)) w

-- an operator at two numbers
abbrev pub applied : Here → Operator → Number → Number → World → Evaluated Number
applied here op x y w = answered here (apply op x y) w

-- what a cell holds
abbrev pub value_at : Ref → World → Number
value_at r w = (w.cells r.invocation r.variable).number

-- what a cell takes of a number: a general number takes it as it is
abbrev pub fitted : Cell → Number → Answer Number
fitted c x = Found x

-- the world with a number in a cell
abbrev pub stored : Ref → Number → World → World
stored r x w = with_cells (with_cell r (record (w.cells r.invocation r.variable) { number = x }) w.cells) w

-- a number behind a sign
abbrev pub signed : Option Sign → Number → Number
signed None x = x
signed (Some Plus) x = x
signed (Some Minus) x = negated x

-- `+` and `-`; strings are joined by `&`
abbrev pub term_joined : Here → TermSign → Number → Number → World → Evaluated Number
term_joined here Add x y w = applied here Adds x y w
term_joined here Subtract x y w = applied here Subtracts x y w
term_joined here Join x y w = undefined w

-- `*` and `/`
abbrev pub factor_joined : Here → FactorSign → Number → Number → World → Evaluated Number
factor_joined here Multiply x y w = applied here Multiplies x y w
factor_joined here Divide x y w = applied here Divides x y w

-- a name without arguments is a variable
abbrev pub name_value : Here → List ℕ → Args → World → Evaluated Number
name_value here name NoArgs w = Gives (value_at (here.refs (OfName name)) w) w
name_value here name (MoreArgs a rest) w = undefined w

abbrev mutual
  -- a sign, a term, and the terms that are added and subtracted
  pub number : Here → Expr → World → Evaluated Number
  number here (Sum sign first rest) w = then_with (term here first w) (λ x w1. more_terms here (signed sign x) rest w1)

  -- x, and the terms that are joined to it
  pub more_terms : Here → Number → Terms → World → Evaluated Number
  more_terms here x NoTerms w = Gives x w
  more_terms here x (MoreTerms sign next rest) w =
      then_with (term here next w) (λ y w1. then_with (term_joined here sign x y w1) (λ z w2. more_terms here z rest w2))

  -- a factor, and the factors that multiply and divide it
  pub term : Here → Term → World → Evaluated Number
  term here (Product first rest) w = then_with (factor here first w) (λ x w1. more_factors here x rest w1)

  -- x, and the factors that are joined to it
  pub more_factors : Here → Number → Factors → World → Evaluated Number
  more_factors here x NoFactors w = Gives x w
  more_factors here x (MoreFactors sign next rest) w =
      then_with (factor here next w) (λ y w1. then_with (factor_joined here sign x y w1) (λ z w2. more_factors here z rest w2))

  -- a base, and its exponents from the left
  pub factor : Here → Factor → World → Evaluated Number
  factor here (Power base exponents) w = then_with (primary here base w) (λ x w1. more_exponents here x exponents w1)

  -- x, raised to the exponents one after the other
  pub more_exponents : Here → Number → Primaries → World → Evaluated Number
  more_exponents here x NoPrimaries w = Gives x w
  more_exponents here x (MorePrimaries next rest) w =
      then_with (primary here next w) (λ y w1. then_with (applied here Powers x y w1) (λ z w2. more_exponents here z rest w2))

  -- a numeral, an expression in parentheses, or a name
  pub primary : Here → Primary → World → Evaluated Number
  primary here (Numeric numeral) w = Gives numeral.value w
  primary here (Group e) w = number here e w
  primary here (Named name args) w = name_value here name args w
  primary here _ w = undefined w
