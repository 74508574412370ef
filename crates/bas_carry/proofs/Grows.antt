-- Code ends at or behind its beginning.
use Rattle.std.proofs.Common.{ℕ, ◌≤◌, List, Option, Some, None, arith}
use Rattle.bas_ast.specs.Tree.{Sign, Plus, Minus, TermSign, Add, Subtract, Join, FactorSign, Multiply, Divide, Expr, Sum, Terms, NoTerms, MoreTerms, Term, Product, Factors, NoFactors, MoreFactors, Factor, Power, Primaries, NoPrimaries, MorePrimaries, Primary, Numeric, Group, Named, Args, NoArgs, MoreArgs, Rel, Cond, AnyOf, Conjs, NoConjs, MoreConjs, Conj, AllOf, Tests, NoTests, MoreTests, Test, Not, CondGroup, Compare, Loopc, While, Until}
use Rattle.bas_code.specs.declared.instr.Instr.{Instr}
use Rattle.bas_carry.specs.Text.{Text, NoneAt, OneAt, ThenAt}
use Rattle.bas_carry.specs.Expressions.{SignAt, TermSignAt, FactorSignAt, NameAt, ExprAt, TermsAt, TermAt, FactorsAt, FactorAt, ExponentsAt, PrimaryAt}
use Rattle.bas_carry.specs.Conditions.{CompareAt, ForkAt, UnlessAt, UnlessAnyAt, IfAt, IfAnyAt, UnlessAllAt, UnlessEachAt, IfAllAt, IfEachAt, UnlessTestAt, IfTestAt, LoopcAt}

module _ (text : Text) where
  one_grows : (i : Instr) (from to : ℕ) → OneAt text i from to → from ≤ to
  one_grows i from to at = let e = at.end in omega (arith, e)

  none_grows : (from to : ℕ) → NoneAt text from to → from ≤ to
  none_grows from to at = let e = at.none in omega (arith, e)

  pub then_grows : (A B : ℕ → ℕ → Type 0) (from to : ℕ) (at : ThenAt text A B from to) → ((f t : ℕ) → A f t → f ≤ t) → ((f t : ℕ) → B f t → f ≤ t) → from ≤ to
  then_grows A B from to at f g = let p = f from at.middle at.first in let q = g at.middle to at.second in omega (arith, p, q)

  pub sign_grows : (s : Option Sign) (from to : ℕ) → SignAt text s from to → from ≤ to
  sign_grows None from to at = none_grows from to at
  sign_grows (Some Plus) from to at = none_grows from to at
  sign_grows (Some Minus) from to at = one_grows _ from to at

  pub term_sign_grows : (s : TermSign) (from to : ℕ) → TermSignAt text s from to → from ≤ to
  term_sign_grows Add from to at = one_grows _ from to at
  term_sign_grows Subtract from to at = one_grows _ from to at
  term_sign_grows Join from to at = absurd at

  pub factor_sign_grows : (s : FactorSign) (from to : ℕ) → FactorSignAt text s from to → from ≤ to
  factor_sign_grows Multiply from to at = one_grows _ from to at
  factor_sign_grows Divide from to at = one_grows _ from to at

  name_grows : (name : List ℕ) (args : Args) (from to : ℕ) → NameAt text name args from to → from ≤ to
  name_grows name NoArgs from to at = let e = at.end in omega (arith, e)
  name_grows name (MoreArgs a rest) from to at = absurd at

  mutual
    pub expr_grows : (e : Expr) (from to : ℕ) → ExprAt text e from to → from ≤ to
    expr_grows (Sum sign first rest) from to at =
        let p = term_grows first from at.middle at.first in
        let q = sign_grows sign at.middle at.second.middle at.second.first in
        let r = terms_grows rest at.second.middle to at.second.second in
        omega (arith, p, q, r)

    pub terms_grows : (ts : Terms) (from to : ℕ) → TermsAt text ts from to → from ≤ to
    terms_grows NoTerms from to at = none_grows from to at
    terms_grows (MoreTerms sign next rest) from to at =
        let p = term_grows next from at.middle at.first in
        let q = term_sign_grows sign at.middle at.second.middle at.second.first in
        let r = terms_grows rest at.second.middle to at.second.second in
        omega (arith, p, q, r)

    pub term_grows : (t : Term) (from to : ℕ) → TermAt text t from to → from ≤ to
    term_grows (Product first rest) from to at =
        let p = factor_grows first from at.middle at.first in
        let q = factors_grows rest at.middle to at.second in
        omega (arith, p, q)

    pub factors_grows : (fs : Factors) (from to : ℕ) → FactorsAt text fs from to → from ≤ to
    factors_grows NoFactors from to at = none_grows from to at
    factors_grows (MoreFactors sign next rest) from to at =
        let p = factor_grows next from at.middle at.first in
        let q = factor_sign_grows sign at.middle at.second.middle at.second.first in
        let r = factors_grows rest at.second.middle to at.second.second in
        omega (arith, p, q, r)

    pub factor_grows : (f : Factor) (from to : ℕ) → FactorAt text f from to → from ≤ to
    factor_grows (Power base exponents) from to at =
        let p = primary_grows base from at.middle at.first in
        let q = exponents_grows exponents at.middle to at.second in
        omega (arith, p, q)

    pub exponents_grows : (ps : Primaries) (from to : ℕ) → ExponentsAt text ps from to → from ≤ to
    exponents_grows NoPrimaries from to at = none_grows from to at
    exponents_grows (MorePrimaries next rest) from to at =
        let p = primary_grows next from at.middle at.first in
        let q = one_grows _ at.middle at.second.middle at.second.first in
        let r = exponents_grows rest at.second.middle to at.second.second in
        omega (arith, p, q, r)

    pub primary_grows : (p : Primary) (from to : ℕ) → PrimaryAt text p from to → from ≤ to
    primary_grows (Numeric numeral) from to at = one_grows _ from to at
    primary_grows (Group e) from to at = expr_grows e from to at
    primary_grows (Named name args) from to at = name_grows name args from to at
    primary_grows _ from to at = absurd at

  pub compare_grows : (a b : Expr) (rel : Rel) (from to : ℕ) → CompareAt text a rel b from to → from ≤ to
  compare_grows a b rel from to at =
      let p = expr_grows a from at.middle at.first in
      let q = expr_grows b at.middle at.second.middle at.second.first in
      let r = one_grows _ at.second.middle to at.second.second in
      omega (arith, p, q, r)

  fork_grows : (a b : Expr) (rel : Rel) (i : Instr) (from to : ℕ) → ForkAt text (CompareAt text a rel b) i from to → from ≤ to
  fork_grows a b rel i from to at = let p = compare_grows a b rel from at.middle at.code in let e = at.end in omega (arith, p, e)

  abbrev Grows : (ℕ → ℕ → ℕ → Type 0) → Type 0
  Grows Code = (from to a : ℕ) → Code from to a → from ≤ to

  mutual
    pub unless_grows : (c : Cond) → Grows (UnlessAt text c)
    unless_grows (AnyOf first rest) = unless_any_grows rest first (unless_all_grows first) (if_all_grows first)

    pub unless_any_grows : (rest : Conjs) (first : Conj) → Grows (UnlessAllAt text first) → Grows (IfAllAt text first) → Grows (UnlessAnyAt text (UnlessAllAt text first) (IfAllAt text first) rest)
    unless_any_grows NoConjs first u i from to a at = u from to a at
    unless_any_grows (MoreConjs next rest) first u i from to a at =
        let p = i from at.0 to at.1 in
        let q = unless_any_grows rest next (unless_all_grows next) (if_all_grows next) at.0 to a at.2 in
        omega (arith, p, q)

    pub if_grows : (c : Cond) → Grows (IfAt text c)
    if_grows (AnyOf first rest) = if_any_grows rest first (if_all_grows first)

    pub if_any_grows : (rest : Conjs) (first : Conj) → Grows (IfAllAt text first) → Grows (IfAnyAt text (IfAllAt text first) rest)
    if_any_grows NoConjs first i from to a at = i from to a at
    if_any_grows (MoreConjs next rest) first i from to a at =
        let p = i from at.0 a at.1 in
        let q = if_any_grows rest next (if_all_grows next) at.0 to a at.2 in
        omega (arith, p, q)

    pub unless_all_grows : (c : Conj) → Grows (UnlessAllAt text c)
    unless_all_grows (AllOf first rest) = unless_each_grows rest first (unless_test_grows first)

    pub unless_each_grows : (rest : Tests) (first : Test) → Grows (UnlessTestAt text first) → Grows (UnlessEachAt text (UnlessTestAt text first) rest)
    unless_each_grows NoTests first u from to a at = u from to a at
    unless_each_grows (MoreTests next rest) first u from to a at =
        let p = u from at.0 a at.1 in
        let q = unless_each_grows rest next (unless_test_grows next) at.0 to a at.2 in
        omega (arith, p, q)

    pub if_all_grows : (c : Conj) → Grows (IfAllAt text c)
    if_all_grows (AllOf first rest) = if_each_grows rest first (unless_test_grows first) (if_test_grows first)

    pub if_each_grows : (rest : Tests) (first : Test) → Grows (UnlessTestAt text first) → Grows (IfTestAt text first) → Grows (IfEachAt text (UnlessTestAt text first) (IfTestAt text first) rest)
    if_each_grows NoTests first u i from to a at = i from to a at
    if_each_grows (MoreTests next rest) first u i from to a at =
        let p = u from at.0 to at.1 in
        let q = if_each_grows rest next (unless_test_grows next) (if_test_grows next) at.0 to a at.2 in
        omega (arith, p, q)

    pub unless_test_grows : (t : Test) → Grows (UnlessTestAt text t)
    unless_test_grows (Not t) from to a at = if_test_grows t from to a at
    unless_test_grows (CondGroup c) from to a at = unless_grows c from to a at
    unless_test_grows (Compare b rel c) from to a at = fork_grows b c rel _ from to at

    pub if_test_grows : (t : Test) → Grows (IfTestAt text t)
    if_test_grows (Not t) from to a at = unless_test_grows t from to a at
    if_test_grows (CondGroup c) from to a at = if_grows c from to a at
    if_test_grows (Compare b rel c) from to a at = fork_grows b c rel _ from to at

  pub loopc_grows : (c : Option Loopc) → Grows (LoopcAt text c)
  loopc_grows None from to a at = none_grows from to at
  loopc_grows (Some (While c)) from to a at = unless_grows c from to a at
  loopc_grows (Some (Until c)) from to a at = if_grows c from to a at
