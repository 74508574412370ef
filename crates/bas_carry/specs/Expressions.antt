-- The code of expressions: the operands from left to right, then the operator.
use Rattle.std.specs.Prelude.{ℕ, List, Option, Some, None}
use Rattle.bas_ast.specs.Tree.{Sign, Plus, Minus, TermSign, Add, Subtract, Join, FactorSign, Multiply, Divide, Expr, Sum, Terms, NoTerms, MoreTerms, Term, Product, Factors, NoFactors, MoreFactors, Factor, Power, Primaries, NoPrimaries, MorePrimaries, Primary, Numeric, Group, Named, Args, NoArgs, MoreArgs}
use Rattle.bas_mean.specs.World.{OfName}
use Rattle.bas_code.specs.declared.instr.Instr.TheVariants as instr
use Rattle.bas_code.specs.declared.instr.PushInstr.TheVariants.{Num, Load}
use Rattle.bas_code.specs.declared.instr.ArithInstr.TheVariants as arith
use Rattle.bas_carry.specs.Text.{Text, NoneAt, OneAt, ThenAt, PlaceAt, NotBuiltAt}

module _ (text : Text) where
  -- a minus in front negates the first term
  abbrev pub SignAt : Option Sign → ℕ → ℕ → Type 0
  SignAt None from to = NoneAt text from to
  SignAt (Some Plus) from to = NoneAt text from to
  SignAt (Some Minus) from to = OneAt text (instr.Arith arith.Negate) from to

  -- the operator behind a term
  abbrev pub TermSignAt : TermSign → ℕ → ℕ → Type 0
  TermSignAt Add from to = OneAt text (instr.Arith arith.Add) from to
  TermSignAt Subtract from to = OneAt text (instr.Arith arith.Sub) from to
  TermSignAt Join from to = NotBuiltAt text from to

  -- the operator behind a factor
  abbrev pub FactorSignAt : FactorSign → ℕ → ℕ → Type 0
  FactorSignAt Multiply from to = OneAt text (instr.Arith arith.Mul) from to
  FactorSignAt Divide from to = OneAt text (instr.Arith arith.Div) from to

  -- a variable is loaded
  abbrev pub NameAt : List ℕ → Args → ℕ → ℕ → Type 0
  NameAt name NoArgs from to = PlaceAt text (λ p. instr.Push (Load p)) (OfName name) from to
  NameAt name (MoreArgs a rest) from to = NotBuiltAt text from to

  abbrev mutual
    -- the first term, its sign, and the other terms
    pub ExprAt : Expr → ℕ → ℕ → Type 0
    ExprAt (Sum sign first rest) from to = ThenAt text (TermAt first) (ThenAt text (SignAt sign) (TermsAt rest)) from to

    -- the terms behind the first, each with its operator behind it
    pub TermsAt : Terms → ℕ → ℕ → Type 0
    TermsAt NoTerms from to = NoneAt text from to
    TermsAt (MoreTerms sign next rest) from to = ThenAt text (TermAt next) (ThenAt text (TermSignAt sign) (TermsAt rest)) from to

    -- a factor, and the other factors
    pub TermAt : Term → ℕ → ℕ → Type 0
    TermAt (Product first rest) from to = ThenAt text (FactorAt first) (FactorsAt rest) from to

    -- the factors behind the first, each with its operator behind it
    pub FactorsAt : Factors → ℕ → ℕ → Type 0
    FactorsAt NoFactors from to = NoneAt text from to
    FactorsAt (MoreFactors sign next rest) from to = ThenAt text (FactorAt next) (ThenAt text (FactorSignAt sign) (FactorsAt rest)) from to

    -- a base, and its exponents
    pub FactorAt : Factor → ℕ → ℕ → Type 0
    FactorAt (Power base exponents) from to = ThenAt text (PrimaryAt base) (ExponentsAt exponents) from to

    -- the exponents, each with the operator behind it
    pub ExponentsAt : Primaries → ℕ → ℕ → Type 0
    ExponentsAt NoPrimaries from to = NoneAt text from to
    ExponentsAt (MorePrimaries next rest) from to = ThenAt text (PrimaryAt next) (ThenAt text (OneAt text (instr.Arith arith.Power)) (ExponentsAt rest)) from to

    -- a numeral is pushed, a variable loaded
    pub PrimaryAt : Primary → ℕ → ℕ → Type 0
    PrimaryAt (Numeric numeral) from to = OneAt text (instr.Push (Num numeral.value)) from to
    PrimaryAt (Group e) from to = ExprAt e from to
    PrimaryAt (Named name args) from to = NameAt name args from to
    PrimaryAt _ from to = NotBuiltAt text from to
