-- The words of a line raise only what the program can raise.
use Rattle.std.proofs.Common.{◌≡◌, ℕ, Bool, true, false, not, List, [], ◌∷◌, Option, Some, None}
use Rattle.bas_dec.specs.Number.{Number}
use Rattle.bas_dec.specs.Text.{text_of}
use Rattle.bas_ast.specs.Tree.{TermSign, Add, Subtract, Join, FactorSign, Multiply, Divide, Rel, Expr, Sum, Terms, NoTerms, MoreTerms, Term, Product, Factors, NoFactors, MoreFactors, Factor, Power, Primaries, NoPrimaries, MorePrimaries, Primary, Numeric, Group, Named, Args, NoArgs, MoreArgs, Cond, AnyOf, Conjs, NoConjs, MoreConjs, Conj, AllOf, Tests, NoTests, MoreTests, Test, Not, CondGroup, Compare, Target, Variable, NoExprs, MoreExprs, Sep, Pitem, Printed, Tab, Plain, Let, Print, Goto, ExitDo, Simple, Alone, Loopc, While, Until, Program}
use Rattle.bas_mean.specs.World.{Ref, World}
use Rattle.bas_mean.specs.Printing.{with_item, with_line_ended}
use Rattle.bas_mean.specs.Outcome.{Trouble, Raised, Evaluated, Gives, Fails, Asks, then_with, Onward}
use Rattle.bas_mean.specs.Operators.{Answer, Found, Raises, Operator, Adds, Subtracts, Multiplies, Divides, Powers, apply, related}
use Rattle.bas_mean.specs.Place.{Here}
use Rattle.bas_mean.specs.Expression.{answered, applied, fitted, stored, signed, term_joined, factor_joined, name_value, number, more_terms, term, more_factors, factor, more_exponents, primary}
use Rattle.bas_mean.specs.Condition.{compared, or_else, and_then, holds, any_holds, all_hold, each_holds, test_holds}
use Rattle.bas_mean.specs.Simple.{store, target_ref, let_words, print_words, exit_words, plain_words, simple_words}
use Rattle.bas_mean.specs.Construct.{goes_round}
use Rattle.bas_raise.specs.Raised.{HasLine, MayRaise}
use Rattle.bas_raise.proofs.Faults.{Known, operators}

module _ (p : Program) where
  -- a trouble that is an exception is one that the program can raise
  abbrev pub Allowed : Trouble → Type 0
  Allowed (Raised x) = MayRaise p x
  Allowed _ = Unit {0}

  -- words that fail do so in an allowed way
  abbrev pub Fair : {V : Type 0} → Evaluated V → Type 0
  Fair (Gives v w) = Unit {0}
  Fair (Fails t w) = Allowed t
  Fair (Asks x w) = Unit {0}

  -- words of a line of the program
  pub record Stands (here : Here) : Type 0 where
    pub unit : here.unit ≡ p.name
    pub line : HasLine p here.line

  then_fair : {A B : Type 0} (r : Evaluated A) (go : A → World → Evaluated B) → Fair r → ((v : A) (w : World) → Fair (go v w)) → Fair (then_with r go)
  then_fair (Gives v w) go a next = next v w
  then_fair (Fails t w) go a next = a
  then_fair (Asks x w) go a next = tt

  module _ (here : Here) (stands : Stands here) where
    answer_fair : {V : Type 0} (a : Answer V) (w : World) → Known a → Fair (answered here a w)
    answer_fair (Found v) w k = tt
    answer_fair (Raises x) w k = record { number = k; unit = stands.unit; line = stands.line }

    applied_fair : (op : Operator) (x y : Number) (w : World) → Fair (applied here op x y w)
    applied_fair op x y w = answer_fair (apply op x y) w (operators op x y)

    term_sign_fair : (sign : TermSign) (x y : Number) (w : World) → Fair (term_joined here sign x y w)
    term_sign_fair Add x y w = applied_fair Adds x y w
    term_sign_fair Subtract x y w = applied_fair Subtracts x y w
    term_sign_fair Join x y w = tt

    factor_sign_fair : (sign : FactorSign) (x y : Number) (w : World) → Fair (factor_joined here sign x y w)
    factor_sign_fair Multiply x y w = applied_fair Multiplies x y w
    factor_sign_fair Divide x y w = applied_fair Divides x y w

    name_fair : (name : List ℕ) (args : Args) (w : World) → Fair (name_value here name args w)
    name_fair name NoArgs w = tt
    name_fair name (MoreArgs a rest) w = tt

    mutual
      number_fair : (e : Expr) (w : World) → Fair (number here e w)
      number_fair (Sum sign first rest) w =
          then_fair (term here first w) (λ x w1. more_terms here (signed sign x) rest w1) (term_fair first w) (λ x w1. more_terms_fair rest (signed sign x) w1)

      more_terms_fair : (rest : Terms) (x : Number) (w : World) → Fair (more_terms here x rest w)
      more_terms_fair NoTerms x w = tt
      more_terms_fair (MoreTerms sign next rest) x w =
          then_fair (term here next w) (λ y w1. then_with (term_joined here sign x y w1) (λ z w2. more_terms here z rest w2)) (term_fair next w)
          (λ y w1. then_fair (term_joined here sign x y w1) (λ z w2. more_terms here z rest w2) (term_sign_fair sign x y w1) (λ z w2. more_terms_fair rest z w2))

      term_fair : (t : Term) (w : World) → Fair (term here t w)
      term_fair (Product first rest) w =
          then_fair (factor here first w) (λ x w1. more_factors here x rest w1) (factor_fair first w) (λ x w1. more_factors_fair rest x w1)

      more_factors_fair : (rest : Factors) (x : Number) (w : World) → Fair (more_factors here x rest w)
      more_factors_fair NoFactors x w = tt
      more_factors_fair (MoreFactors sign next rest) x w =
          then_fair (factor here next w) (λ y w1. then_with (factor_joined here sign x y w1) (λ z w2. more_factors here z rest w2)) (factor_fair next w)
          (λ y w1. then_fair (factor_joined here sign x y w1) (λ z w2. more_factors here z rest w2) (factor_sign_fair sign x y w1) (λ z w2. more_factors_fair rest z w2))

      factor_fair : (f : Factor) (w : World) → Fair (factor here f w)
      factor_fair (Power base exponents) w =
          then_fair (primary here base w) (λ x w1. more_exponents here x exponents w1) (primary_fair base w) (λ x w1. more_exponents_fair exponents x w1)

      more_exponents_fair : (rest : Primaries) (x : Number) (w : World) → Fair (more_exponents here x rest w)
      more_exponents_fair NoPrimaries x w = tt
      more_exponents_fair (MorePrimaries next rest) x w =
          then_fair (primary here next w) (λ y w1. then_with (applied here Powers x y w1) (λ z w2. more_exponents here z rest w2)) (primary_fair next w)
          (λ y w1. then_fair (applied here Powers x y w1) (λ z w2. more_exponents here z rest w2) (applied_fair Powers x y w1) (λ z w2. more_exponents_fair rest z w2))

      primary_fair : (a : Primary) (w : World) → Fair (primary here a w)
      primary_fair (Numeric numeral) w = tt
      primary_fair (Group e) w = number_fair e w
      primary_fair (Named name args) w = name_fair name args w
      primary_fair _ w = tt

    or_fair : (b : Bool) (go : World → Evaluated Bool) (w : World) → ((w : World) → Fair (go w)) → Fair (or_else b go w)
    or_fair true go w next = tt
    or_fair false go w next = next w

    and_fair : (b : Bool) (go : World → Evaluated Bool) (w : World) → ((w : World) → Fair (go w)) → Fair (and_then b go w)
    and_fair true go w next = next w
    and_fair false go w next = tt

    compared_fair : (a b : Expr) (rel : Rel) (w : World) → Fair (compared here rel a b w)
    compared_fair a b rel w =
        then_fair (number here a w) (λ x w1. then_with (number here b w1) (λ y w2. Gives (related rel x y) w2)) (number_fair a w)
        (λ x w1. then_fair (number here b w1) (λ y w2. Gives (related rel x y) w2) (number_fair b w1) (λ y w2. tt))

    mutual
      pub cond_fair : (c : Cond) (w : World) → Fair (holds here c w)
      cond_fair (AnyOf first rest) w =
          then_fair (all_hold here first w) (λ b w1. or_else b (λ w2. any_holds here rest w2) w1) (conj_fair first w)
          (λ b w1. or_fair b (λ w2. any_holds here rest w2) w1 (λ w2. conjs_fair rest w2))

      conjs_fair : (rest : Conjs) (w : World) → Fair (any_holds here rest w)
      conjs_fair NoConjs w = tt
      conjs_fair (MoreConjs next rest) w =
          then_fair (all_hold here next w) (λ b w1. or_else b (λ w2. any_holds here rest w2) w1) (conj_fair next w)
          (λ b w1. or_fair b (λ w2. any_holds here rest w2) w1 (λ w2. conjs_fair rest w2))

      conj_fair : (c : Conj) (w : World) → Fair (all_hold here c w)
      conj_fair (AllOf first rest) w =
          then_fair (test_holds here first w) (λ b w1. and_then b (λ w2. each_holds here rest w2) w1) (test_fair first w)
          (λ b w1. and_fair b (λ w2. each_holds here rest w2) w1 (λ w2. tests_fair rest w2))

      tests_fair : (rest : Tests) (w : World) → Fair (each_holds here rest w)
      tests_fair NoTests w = tt
      tests_fair (MoreTests next rest) w =
          then_fair (test_holds here next w) (λ b w1. and_then b (λ w2. each_holds here rest w2) w1) (test_fair next w)
          (λ b w1. and_fair b (λ w2. each_holds here rest w2) w1 (λ w2. tests_fair rest w2))

      test_fair : (t : Test) (w : World) → Fair (test_holds here t w)
      test_fair (Not t) w = then_fair (test_holds here t w) (λ b w1. Gives (not b) w1) (test_fair t w) (λ b w1. tt)
      test_fair (CondGroup c) w = cond_fair c w
      test_fair (Compare a rel b) w = compared_fair a b rel w

    -- WHILE and UNTIL
    pub loopc_fair : (c : Option Loopc) (w : World) → Fair (goes_round here c w)
    loopc_fair None w = tt
    loopc_fair (Some (While c)) w = cond_fair c w
    loopc_fair (Some (Until c)) w = then_fair (holds here c w) (λ b w1. Gives (not b) w1) (cond_fair c w) (λ b w1. tt)

    store_fair : (r : Ref) (x : Number) (w : World) → Fair (store here r x w)
    store_fair r x w =
        then_fair (answered here (fitted (w.cells r.invocation r.variable) x) w) (λ y w1. Gives Onward (stored r y w1))
        (answer_fair (fitted (w.cells r.invocation r.variable) x) w tt) (λ y w1. tt)

    target_fair : (t : Target) (w : World) → Fair (target_ref here t w)
    target_fair (Variable name NoExprs) w = tt
    target_fair (Variable name (MoreExprs e rest)) w = tt

    let_fair : (targets : List Target) (e : Expr) (w : World) → Fair (let_words here targets e w)
    let_fair [] e w = tt
    let_fair (t ∷ []) e w =
        then_fair (target_ref here t w) (λ r w1. then_with (number here e w1) (λ x w2. store here r x w2)) (target_fair t w)
        (λ r w1. then_fair (number here e w1) (λ x w2. store here r x w2) (number_fair e w1) (λ x w2. store_fair r x w2))
    let_fair (t ∷ u ∷ ts) e w = tt

    print_fair : (first : Option Pitem) (rest : List (Sep × Option Pitem)) (w : World) → Fair (print_words here first rest w)
    print_fair None [] w = tt
    print_fair (Some (Printed e)) [] w =
        then_fair (number here e w) (λ x w1. Gives Onward (with_line_ended (with_item (text_of x) w1))) (number_fair e w) (λ x w1. tt)
    print_fair None (s ∷ rest) w = tt
    print_fair (Some (Printed e)) (s ∷ rest) w = tt
    print_fair (Some (Tab e)) rest w = tt

    exit_fair : (l : Option ℕ) (w : World) → Fair (exit_words l w)
    exit_fair None w = tt
    exit_fair (Some l) w = tt

    -- one row for each statement
    plain_fair : (plain : Plain) (w : World) → Fair (plain_words here plain w)
    plain_fair (Let targets e) w = let_fair targets e w
    plain_fair (Print list) w = print_fair list.first list.rest w
    plain_fair (Goto l) w = tt
    plain_fair ExitDo w = exit_fair here.around.do_line w
    plain_fair _ w = tt

    pub simple_fair : (s : Simple) (w : World) → Fair (simple_words here s w)
    simple_fair (Alone plain) w = plain_fair plain w
    simple_fair _ w = tt
