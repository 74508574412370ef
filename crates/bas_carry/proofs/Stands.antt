-- The codes of expressions, conditions and simple lines that the functions make are those of the relation.
use Rattle.std.proofs.Common.{◌≡◌, ℕ, suc, ◌+◌, Bool, true, false, List, [], ◌∷◌, ◌++◌, length, Option, Some, None, refl, sym, ap, ◌∙◌, subst, arith}
use Rattle.std.specs.Prelude.{◌&&◌, slice_get}
use Rattle.bas_ast.specs.Tree.{Sign, Plus, Minus, TermSign, Add, Subtract, Join, FactorSign, Multiply, Divide, Rel, Expr, Sum, Terms, NoTerms, MoreTerms, Term, Product, Factors, NoFactors, MoreFactors, Factor, Power, Primaries, NoPrimaries, MorePrimaries, Primary, Numeric, Group, Named, Args, NoArgs, MoreArgs, Cond, AnyOf, Conjs, NoConjs, MoreConjs, Conj, AllOf, Tests, NoTests, MoreTests, Test, Not, CondGroup, Compare, Exprs, NoExprs, MoreExprs, Variable, Sep, Pitem, Printed, Tab, Plain, Let, Print, Goto, ExitDo, Simple, Alone, Loopc, While, Until, LineItem, OfSimple}
use Rattle.bas_ast.specs.Tree as tree
use Rattle.bas_mean.specs.World.{OfName}
use Rattle.bas_mean.specs.World as world
use Rattle.bas_mean.specs.Outcome.{Target, LineOf, EndOf}
use Rattle.bas_mean.specs.Built.{is_built_name, is_built_sign, is_built_expr, are_built_terms, is_built_term, are_built_factors, is_built_factor, are_built_primaries, is_built_primary, is_built_cond, are_built_conjs, is_built_conj, are_built_tests, is_built_test, are_built_targets, is_built_list, is_built_plain, is_built_loopc}
use Rattle.bas_mean.specs.Jumps.{may_exit, jumps_in_plain}
use Rattle.bas_code.specs.declared.instr.Place.{Place}
use Rattle.bas_code.specs.declared.instr.Space.TheVariants.{Own}
use Rattle.bas_code.specs.declared.instr.Instr.{Instr}
use Rattle.bas_code.specs.declared.instr.Instr.TheVariants as instr
use Rattle.bas_code.specs.declared.instr.JumpInstr.TheVariants as jump
use Rattle.bas_code.specs.declared.instr.PushInstr.TheVariants as push
use Rattle.bas_carry.specs.Text.{Text, Static, At, NoneAt, OneAt, PlaceAt, JumpFrom, JumpAt}
use Rattle.bas_carry.specs.Expressions.{SignAt, TermSignAt, FactorSignAt, NameAt, ExprAt, TermsAt, TermAt, FactorsAt, FactorAt, ExponentsAt, PrimaryAt}
use Rattle.bas_carry.specs.Conditions.{CompareAt, ForkAt, UnlessAt, UnlessAnyAt, IfAt, IfAnyAt, UnlessAllAt, UnlessEachAt, IfAllAt, IfEachAt, UnlessTestAt, IfTestAt, LoopcAt}
use Rattle.bas_carry.specs.Simples.{LetAt, PrintAt, ExitAt, PlainAt, SimpleAt}
use Rattle.bas_carry.specs.Slots.{in_expr, in_terms, in_term, in_factors, in_factor, in_primaries, in_primary, in_cond, in_conjs, in_conj, in_tests, in_test, in_loopc, in_targets, in_item, in_plain, index_of}
use Rattle.bas_carry.specs.Codes.{sign_size, term_sign_size, expr_size, terms_size, term_size, factors_size, factor_size, exponents_size, primary_size, cond_size, conjs_size, conj_size, tests_size, test_size, loopc_size, let_size, print_size, plain_size, index_or_first, own_place, sign_code, term_sign_code, factor_sign_code, expr_code, terms_code, term_code, factors_code, factor_code, exponents_code, primary_code, fork_code, unless_code, unless_any_code, if_code, if_any_code, unless_all_code, unless_each_code, if_all_code, if_each_code, unless_test_code, if_test_code, loopc_code, let_code, print_code, exit_code, plain_code}
use Rattle.bas_carry.proofs.Lengths.{sign_length, term_sign_length, factor_sign_length, expr_length, term_length, factor_length, primary_length, if_all_length, unless_test_length}

pub both_left : (a b : Bool) → (a && b) ≡ true → a ≡ true
both_left true b e = refl
both_left false b e = let bad : false ≡ true = e in absurd cc

pub both_right : (a b : Bool) → (a && b) ≡ true → b ≡ true
both_right true b e = e
both_right false b e = let bad : false ≡ true = e in absurd cc

-- the place that the numbering gives a variable
abbrev pub placed : Option ℕ → Option Place
placed None = None
placed (Some k) = Some (record { space = Own; number = k })

-- each of these variables has a slot
abbrev pub Covered : List world.Variable → List world.Variable → Type 0
Covered order [] = Unit {0}
Covered order (x ∷ xs) = ((s : ℕ) × (index_of order x ≡ Some s)) × Covered order xs

pub covered_front : (order xs ys : List world.Variable) → Covered order (xs ++ ys) → Covered order xs
covered_front order [] ys c = tt
covered_front order (x ∷ xs) ys c = (c.0, covered_front order xs ys c.1)

pub covered_back : (order xs ys : List world.Variable) → Covered order (xs ++ ys) → Covered order ys
covered_back order [] ys c = c
covered_back order (x ∷ xs) ys c = covered_back order xs ys c.1

module _ (text : Text) where
  -- these instructions stand from an address on
  abbrev pub StandsAt : ℕ → List Instr → Type 0
  StandsAt pc [] = Unit {0}
  StandsAt pc (i ∷ is) = At text pc i × StandsAt (suc pc) is

  pub stand_split : (xs ys : List Instr) (pc n : ℕ) → length xs ≡ n → StandsAt pc (xs ++ ys) → StandsAt pc xs × StandsAt (pc + n) ys
  stand_split [] ys pc n e s = (tt, subst (λ k. StandsAt k ys) (let q : pc ≡ pc + n = omega (arith, e) in q) s)
  stand_split (x ∷ xs) ys pc n e s =
      let r = stand_split xs ys (suc pc) (length xs) refl s.1 in
      ((s.0, r.0), subst (λ k. StandsAt k ys) (let q : suc pc + length xs ≡ pc + n = omega (arith, e) in q) r.1)

  pub stand_all : (xs : List Instr) (pc : ℕ) → ((k : ℕ) (i : Instr) → slice_get xs k ≡ Some i → At text (pc + k) i) → StandsAt pc xs
  stand_all [] pc h = tt
  stand_all (x ∷ xs) pc h = (
    subst (λ k. At text k x) (let q : pc + 0 ≡ pc = omega arith in q) (h 0 x refl),
    stand_all xs (suc pc) (λ k i e. subst (λ p. At text p i) (let q : pc + suc k ≡ suc pc + k = omega arith in q) (h (suc k) i e)),
  )

module _ (text : Text) (order : List world.Variable) (places : (x : world.Variable) → text.places x ≡ placed (index_of order x)) where
  none_at : (from to : ℕ) → to ≡ from + 0 → NoneAt text from to
  none_at from to e = record { none = omega (arith, e) }

  one_at : (i : Instr) (from to : ℕ) → to ≡ from + 1 → At text from i → OneAt text i from to
  one_at i from to e at = record { at = at; end = omega (arith, e) }

  sign_stands : (s : Option Sign) (from to : ℕ) → to ≡ from + sign_size s → StandsAt text from (sign_code s) → SignAt text s from to
  sign_stands None from to e c = none_at from to e
  sign_stands (Some Plus) from to e c = none_at from to e
  sign_stands (Some Minus) from to e c = one_at _ from to e c.0

  term_sign_stands : (s : TermSign) (from to : ℕ) → is_built_sign s ≡ true → to ≡ from + term_sign_size s → StandsAt text from (term_sign_code s) → TermSignAt text s from to
  term_sign_stands Add from to b e c = one_at _ from to e c.0
  term_sign_stands Subtract from to b e c = one_at _ from to e c.0
  term_sign_stands Join from to b e c = let bad : false ≡ true = b in absurd cc

  factor_sign_stands : (s : FactorSign) (from to : ℕ) → to ≡ from + 1 → StandsAt text from (factor_sign_code s) → FactorSignAt text s from to
  factor_sign_stands Multiply from to e c = one_at _ from to e c.0
  factor_sign_stands Divide from to e c = one_at _ from to e c.0

  -- an instruction on a variable's slot
  slot_stands : (i : Place → Instr) (x : world.Variable) (from to : ℕ) → ((s : ℕ) × (index_of order x ≡ Some s)) → to ≡ from + 1 → At text from (i (own_place order x)) → PlaceAt text i x from to
  slot_stands i x from to c e at = record {
    place = record { space = Own; number = c.0 };
    is = places x ∙ ap placed c.1;
    at = subst (λ k. At text from (i (record { space = Own; number = index_or_first k }))) c.1 at;
    end = omega (arith, e);
  }

  name_stands : (name : List ℕ) (args : Args) (from to : ℕ) → is_built_name name args ≡ true → ((s : ℕ) × (index_of order (OfName name) ≡ Some s)) → to ≡ from + 1 → At text from (instr.Push (push.Load (own_place order (OfName name)))) → NameAt text name args from to
  name_stands name NoArgs from to b c e at = slot_stands (λ p. instr.Push (push.Load p)) (OfName name) from to c e at
  name_stands name (MoreArgs a rest) from to b c e at = let bad : false ≡ true = b in absurd cc

  mutual
    pub expr_stands : (x : Expr) (from to : ℕ) → is_built_expr x ≡ true → Covered order (in_expr x) → to ≡ from + expr_size x → StandsAt text from (expr_code order x) → ExprAt text x from to
    expr_stands (Sum sign first rest) from to b v e c =
        let p = stand_split text (term_code order first) (sign_code sign ++ terms_code order rest) from (term_size first) (term_length order first) c in
        let q = stand_split text (sign_code sign) (terms_code order rest) (from + term_size first) (sign_size sign) (sign_length sign) p.1 in
        record {
          middle = from + term_size first;
          first = term_stands first from (from + term_size first) (both_left (is_built_term first) _ b) (covered_front order (in_term first) (in_terms rest) v) refl p.0;
          second = record {
            middle = from + term_size first + sign_size sign;
            first = sign_stands sign (from + term_size first) (from + term_size first + sign_size sign) refl q.0;
            second = terms_stands rest (from + term_size first + sign_size sign) to (both_right (is_built_term first) _ b) (covered_back order (in_term first) (in_terms rest) v) (omega (arith, e)) q.1;
          };
        }

    pub terms_stands : (ts : Terms) (from to : ℕ) → are_built_terms ts ≡ true → Covered order (in_terms ts) → to ≡ from + terms_size ts → StandsAt text from (terms_code order ts) → TermsAt text ts from to
    terms_stands NoTerms from to b v e c = none_at from to e
    terms_stands (MoreTerms sign next rest) from to b v e c =
        let p = stand_split text (term_code order next) (term_sign_code sign ++ terms_code order rest) from (term_size next) (term_length order next) c in
        let q = stand_split text (term_sign_code sign) (terms_code order rest) (from + term_size next) (term_sign_size sign) (term_sign_length sign) p.1 in
        let br = both_right (is_built_sign sign) _ b in
        record {
          middle = from + term_size next;
          first = term_stands next from (from + term_size next) (both_left (is_built_term next) _ br) (covered_front order (in_term next) (in_terms rest) v) refl p.0;
          second = record {
            middle = from + term_size next + term_sign_size sign;
            first = term_sign_stands sign (from + term_size next) (from + term_size next + term_sign_size sign) (both_left (is_built_sign sign) _ b) refl q.0;
            second = terms_stands rest (from + term_size next + term_sign_size sign) to (both_right (is_built_term next) _ br) (covered_back order (in_term next) (in_terms rest) v) (omega (arith, e)) q.1;
          };
        }

    pub term_stands : (t : Term) (from to : ℕ) → is_built_term t ≡ true → Covered order (in_term t) → to ≡ from + term_size t → StandsAt text from (term_code order t) → TermAt text t from to
    term_stands (Product first rest) from to b v e c =
        let p = stand_split text (factor_code order first) (factors_code order rest) from (factor_size first) (factor_length order first) c in
        record {
          middle = from + factor_size first;
          first = factor_stands first from (from + factor_size first) (both_left (is_built_factor first) _ b) (covered_front order (in_factor first) (in_factors rest) v) refl p.0;
          second = factors_stands rest (from + factor_size first) to (both_right (is_built_factor first) _ b) (covered_back order (in_factor first) (in_factors rest) v) (omega (arith, e)) p.1;
        }

    pub factors_stands : (fs : Factors) (from to : ℕ) → are_built_factors fs ≡ true → Covered order (in_factors fs) → to ≡ from + factors_size fs → StandsAt text from (factors_code order fs) → FactorsAt text fs from to
    factors_stands NoFactors from to b v e c = none_at from to e
    factors_stands (MoreFactors sign next rest) from to b v e c =
        let p = stand_split text (factor_code order next) (factor_sign_code sign ++ factors_code order rest) from (factor_size next) (factor_length order next) c in
        let q = stand_split text (factor_sign_code sign) (factors_code order rest) (from + factor_size next) 1 (factor_sign_length sign) p.1 in
        record {
          middle = from + factor_size next;
          first = factor_stands next from (from + factor_size next) (both_left (is_built_factor next) _ b) (covered_front order (in_factor next) (in_factors rest) v) refl p.0;
          second = record {
            middle = from + factor_size next + 1;
            first = factor_sign_stands sign (from + factor_size next) (from + factor_size next + 1) refl q.0;
            second = factors_stands rest (from + factor_size next + 1) to (both_right (is_built_factor next) _ b) (covered_back order (in_factor next) (in_factors rest) v) (omega (arith, e)) q.1;
          };
        }

    pub factor_stands : (f : Factor) (from to : ℕ) → is_built_factor f ≡ true → Covered order (in_factor f) → to ≡ from + factor_size f → StandsAt text from (factor_code order f) → FactorAt text f from to
    factor_stands (Power base exponents) from to b v e c =
        let p = stand_split text (primary_code order base) (exponents_code order exponents) from (primary_size base) (primary_length order base) c in
        record {
          middle = from + primary_size base;
          first = primary_stands base from (from + primary_size base) (both_left (is_built_primary base) _ b) (covered_front order (in_primary base) (in_primaries exponents) v) refl p.0;
          second = exponents_stands exponents (from + primary_size base) to (both_right (is_built_primary base) _ b) (covered_back order (in_primary base) (in_primaries exponents) v) (omega (arith, e)) p.1;
        }

    pub exponents_stands : (ps : Primaries) (from to : ℕ) → are_built_primaries ps ≡ true → Covered order (in_primaries ps) → to ≡ from + exponents_size ps → StandsAt text from (exponents_code order ps) → ExponentsAt text ps from to
    exponents_stands NoPrimaries from to b v e c = none_at from to e
    exponents_stands (MorePrimaries next rest) from to b v e c =
        let p = stand_split text (primary_code order next) _ from (primary_size next) (primary_length order next) c in
        record {
          middle = from + primary_size next;
          first = primary_stands next from (from + primary_size next) (both_left (is_built_primary next) _ b) (covered_front order (in_primary next) (in_primaries rest) v) refl p.0;
          second = record {
            middle = suc (from + primary_size next);
            first = record { at = p.1.0; end = refl };
            second = exponents_stands rest (suc (from + primary_size next)) to (both_right (is_built_primary next) _ b) (covered_back order (in_primary next) (in_primaries rest) v) (omega (arith, e)) p.1.1;
          };
        }

    pub primary_stands : (a : Primary) (from to : ℕ) → is_built_primary a ≡ true → Covered order (in_primary a) → to ≡ from + primary_size a → StandsAt text from (primary_code order a) → PrimaryAt text a from to
    primary_stands (Numeric numeral) from to b v e c = one_at _ from to e c.0
    primary_stands (Group x) from to b v e c = expr_stands x from to b v e c
    primary_stands (Named name args) from to b v e c = name_stands name args from to b v.0 e c.0
    primary_stands _ from to b v e c = let bad : false ≡ true = b in absurd cc

  fork_stands : (x y : Expr) (rel : Rel) (i : Instr) (from to : ℕ) → (is_built_expr x && is_built_expr y) ≡ true → Covered order (in_expr x ++ in_expr y) → to ≡ from + (expr_size x + (expr_size y + 2)) → StandsAt text from (fork_code order x rel y i) → ForkAt text (CompareAt text x rel y) i from to
  fork_stands x y rel i from to b v e c =
      let p = stand_split text (expr_code order x) _ from (expr_size x) (expr_length order x) c in
      let q = stand_split text (expr_code order y) _ (from + expr_size x) (expr_size y) (expr_length order y) p.1 in
      record {
        middle = suc (from + expr_size x + expr_size y);
        code = record {
          middle = from + expr_size x;
          first = expr_stands x from (from + expr_size x) (both_left (is_built_expr x) _ b) (covered_front order (in_expr x) (in_expr y) v) refl p.0;
          second = record {
            middle = from + expr_size x + expr_size y;
            first = expr_stands y (from + expr_size x) (from + expr_size x + expr_size y) (both_right (is_built_expr x) _ b) (covered_back order (in_expr x) (in_expr y) v) refl q.0;
            second = record { at = q.1.0; end = refl };
          };
        };
        jump = q.1.1.0;
        end = omega (arith, e);
      }

  -- a code of a condition is that of the relation
  abbrev Stands : (ℕ → ℕ → List Instr) → (ℕ → ℕ → ℕ → Type 0) → (built : Bool) → List world.Variable → (size : ℕ) → Type 0
  Stands code Code built variables size = (from to a : ℕ) → built ≡ true → Covered order variables → to ≡ from + size → StandsAt text from (code from a) → Code from to a

  mutual
    pub unless_stands : (c : Cond) → Stands (unless_code order c) (UnlessAt text c) (is_built_cond c) (in_cond c) (cond_size c)
    unless_stands (AnyOf first rest) from to a b v e c =
        unless_any_stands rest first (unless_all_stands first) (if_all_stands first) from to a (both_left (is_built_conj first) _ b) (both_right (is_built_conj first) _ b) (covered_front order (in_conj first) (in_conjs rest) v) (covered_back order (in_conj first) (in_conjs rest) v) e
        (subst (λ k. StandsAt text from (unless_any_code order (unless_all_code order first) (if_all_code order first) (conj_size first) rest from k a)) (sym e) c)

    unless_any_stands : (rest : Conjs) (first : Conj) → Stands (unless_all_code order first) (UnlessAllAt text first) (is_built_conj first) (in_conj first) (conj_size first) → Stands (if_all_code order first) (IfAllAt text first) (is_built_conj first) (in_conj first) (conj_size first) → (from to a : ℕ) → is_built_conj first ≡ true → are_built_conjs rest ≡ true → Covered order (in_conj first) → Covered order (in_conjs rest) → to ≡ from + (conj_size first + conjs_size rest) → StandsAt text from (unless_any_code order (unless_all_code order first) (if_all_code order first) (conj_size first) rest from to a) → UnlessAnyAt text (UnlessAllAt text first) (IfAllAt text first) rest from to a
    unless_any_stands NoConjs first u i from to a b b' v v' e c = u from to a b v (omega (arith, e)) c
    unless_any_stands (MoreConjs next rest) first u i from to a b b' v v' e c =
        let p = stand_split text (if_all_code order first from to) _ from (conj_size first) (if_all_length order first from to) c in (
          from + conj_size first,
          i from (from + conj_size first) to b v refl p.0,
          unless_any_stands rest next (unless_all_stands next) (if_all_stands next) (from + conj_size first) to a (both_left (is_built_conj next) _ b') (both_right (is_built_conj next) _ b') (covered_front order (in_conj next) (in_conjs rest) v') (covered_back order (in_conj next) (in_conjs rest) v') (omega (arith, e)) p.1,
        )

    pub if_stands : (c : Cond) → Stands (if_code order c) (IfAt text c) (is_built_cond c) (in_cond c) (cond_size c)
    if_stands (AnyOf first rest) from to a b v e c =
        if_any_stands rest first (if_all_stands first) from to a (both_left (is_built_conj first) _ b) (both_right (is_built_conj first) _ b) (covered_front order (in_conj first) (in_conjs rest) v) (covered_back order (in_conj first) (in_conjs rest) v) e c

    if_any_stands : (rest : Conjs) (first : Conj) → Stands (if_all_code order first) (IfAllAt text first) (is_built_conj first) (in_conj first) (conj_size first) → (from to a : ℕ) → is_built_conj first ≡ true → are_built_conjs rest ≡ true → Covered order (in_conj first) → Covered order (in_conjs rest) → to ≡ from + (conj_size first + conjs_size rest) → StandsAt text from (if_any_code order (if_all_code order first) (conj_size first) rest from a) → IfAnyAt text (IfAllAt text first) rest from to a
    if_any_stands NoConjs first i from to a b b' v v' e c = i from to a b v (omega (arith, e)) c
    if_any_stands (MoreConjs next rest) first i from to a b b' v v' e c =
        let p = stand_split text (if_all_code order first from a) _ from (conj_size first) (if_all_length order first from a) c in (
          from + conj_size first,
          i from (from + conj_size first) a b v refl p.0,
          if_any_stands rest next (if_all_stands next) (from + conj_size first) to a (both_left (is_built_conj next) _ b') (both_right (is_built_conj next) _ b') (covered_front order (in_conj next) (in_conjs rest) v') (covered_back order (in_conj next) (in_conjs rest) v') (omega (arith, e)) p.1,
        )

    unless_all_stands : (c : Conj) → Stands (unless_all_code order c) (UnlessAllAt text c) (is_built_conj c) (in_conj c) (conj_size c)
    unless_all_stands (AllOf first rest) from to a b v e c =
        unless_each_stands rest first (unless_test_stands first) from to a (both_left (is_built_test first) _ b) (both_right (is_built_test first) _ b) (covered_front order (in_test first) (in_tests rest) v) (covered_back order (in_test first) (in_tests rest) v) e c

    unless_each_stands : (rest : Tests) (first : Test) → Stands (unless_test_code order first) (UnlessTestAt text first) (is_built_test first) (in_test first) (test_size first) → (from to a : ℕ) → is_built_test first ≡ true → are_built_tests rest ≡ true → Covered order (in_test first) → Covered order (in_tests rest) → to ≡ from + (test_size first + tests_size rest) → StandsAt text from (unless_each_code order (unless_test_code order first) (test_size first) rest from a) → UnlessEachAt text (UnlessTestAt text first) rest from to a
    unless_each_stands NoTests first u from to a b b' v v' e c = u from to a b v (omega (arith, e)) c
    unless_each_stands (MoreTests next rest) first u from to a b b' v v' e c =
        let p = stand_split text (unless_test_code order first from a) _ from (test_size first) (unless_test_length order first from a) c in (
          from + test_size first,
          u from (from + test_size first) a b v refl p.0,
          unless_each_stands rest next (unless_test_stands next) (from + test_size first) to a (both_left (is_built_test next) _ b') (both_right (is_built_test next) _ b') (covered_front order (in_test next) (in_tests rest) v') (covered_back order (in_test next) (in_tests rest) v') (omega (arith, e)) p.1,
        )

    if_all_stands : (c : Conj) → Stands (if_all_code order c) (IfAllAt text c) (is_built_conj c) (in_conj c) (conj_size c)
    if_all_stands (AllOf first rest) from to a b v e c =
        if_each_stands rest first (unless_test_stands first) (if_test_stands first) from to a (both_left (is_built_test first) _ b) (both_right (is_built_test first) _ b) (covered_front order (in_test first) (in_tests rest) v) (covered_back order (in_test first) (in_tests rest) v) e
        (subst (λ k. StandsAt text from (if_each_code order (unless_test_code order first) (if_test_code order first) (test_size first) rest from k a)) (sym e) c)

    if_each_stands : (rest : Tests) (first : Test) → Stands (unless_test_code order first) (UnlessTestAt text first) (is_built_test first) (in_test first) (test_size first) → Stands (if_test_code order first) (IfTestAt text first) (is_built_test first) (in_test first) (test_size first) → (from to a : ℕ) → is_built_test first ≡ true → are_built_tests rest ≡ true → Covered order (in_test first) → Covered order (in_tests rest) → to ≡ from + (test_size first + tests_size rest) → StandsAt text from (if_each_code order (unless_test_code order first) (if_test_code order first) (test_size first) rest from to a) → IfEachAt text (UnlessTestAt text first) (IfTestAt text first) rest from to a
    if_each_stands NoTests first u i from to a b b' v v' e c = i from to a b v (omega (arith, e)) c
    if_each_stands (MoreTests next rest) first u i from to a b b' v v' e c =
        let p = stand_split text (unless_test_code order first from to) _ from (test_size first) (unless_test_length order first from to) c in (
          from + test_size first,
          u from (from + test_size first) to b v refl p.0,
          if_each_stands rest next (unless_test_stands next) (if_test_stands next) (from + test_size first) to a (both_left (is_built_test next) _ b') (both_right (is_built_test next) _ b') (covered_front order (in_test next) (in_tests rest) v') (covered_back order (in_test next) (in_tests rest) v') (omega (arith, e)) p.1,
        )

    unless_test_stands : (t : Test) → Stands (unless_test_code order t) (UnlessTestAt text t) (is_built_test t) (in_test t) (test_size t)
    unless_test_stands (Not t) from to a b v e c = if_test_stands t from to a b v e c
    unless_test_stands (CondGroup x) from to a b v e c = unless_stands x from to a b v e c
    unless_test_stands (Compare x rel y) from to a b v e c = fork_stands x y rel (instr.Jump (jump.JumpFalse a)) from to b v e c

    if_test_stands : (t : Test) → Stands (if_test_code order t) (IfTestAt text t) (is_built_test t) (in_test t) (test_size t)
    if_test_stands (Not t) from to a b v e c = unless_test_stands t from to a b v e c
    if_test_stands (CondGroup x) from to a b v e c = if_stands x from to a b v e c
    if_test_stands (Compare x rel y) from to a b v e c = fork_stands x y rel (instr.Jump (jump.JumpTrue a)) from to b v e c

  pub loopc_stands : (c : Option Loopc) → Stands (loopc_code order c) (LoopcAt text c) (is_built_loopc c) (in_loopc c) (loopc_size c)
  loopc_stands None from to a b v e c = none_at from to e
  loopc_stands (Some (While x)) from to a b v e c = unless_stands x from to a b v e c
  loopc_stands (Some (Until x)) from to a b v e c = if_stands x from to a b v e c

  let_stands : (targets : List tree.Target) (x : Expr) (from to : ℕ) → (are_built_targets targets && is_built_expr x) ≡ true → Covered order (in_targets targets ++ in_expr x) → to ≡ from + let_size targets x → StandsAt text from (let_code order targets x) → LetAt text targets x from to
  let_stands [] x from to b v e c = let bad : false ≡ true = b in absurd cc
  let_stands (Variable name NoExprs ∷ []) x from to b v e c =
      let p = stand_split text (expr_code order x) _ (suc from) (expr_size x) (expr_length order x) c.1 in
      record {
        middle = suc from;
        first = slot_stands (λ q. instr.Push (push.Ref q)) (OfName name) from (suc from) v.0 (omega arith) c.0;
        second = record {
          middle = suc from + expr_size x;
          first = expr_stands x (suc from) (suc from + expr_size x) (both_right (are_built_targets (Variable name NoExprs ∷ [])) _ b) v.1 refl p.0;
          second = record { at = p.1.0; end = omega (arith, e) };
        };
      }
  let_stands (Variable name (MoreExprs y ys) ∷ []) x from to b v e c = let bad : false ≡ true = b in absurd cc
  let_stands (t ∷ u ∷ ts) x from to b v e c = absurd (many t u ts (both_left (are_built_targets (t ∷ u ∷ ts)) _ b))
    where
      many : (t1 u1 : tree.Target) (ts1 : List tree.Target) → are_built_targets (t1 ∷ u1 ∷ ts1) ≡ true → ⊥
      many (Variable name NoExprs) u1 ts1 q = let bad : false ≡ true = q in cc
      many (Variable name (MoreExprs y ys)) u1 ts1 q = let bad : false ≡ true = q in cc

  print_stands : (first : Option Pitem) (rest : List (Sep × Option Pitem)) (from to : ℕ) → is_built_list first rest ≡ true → Covered order (in_item first) → to ≡ from + print_size first → StandsAt text from (print_code order first) → PrintAt text first rest from to
  print_stands None [] from to b v e c = one_at _ from to e c.0
  print_stands (Some (Printed x)) [] from to b v e c =
      let p = stand_split text (expr_code order x) _ from (expr_size x) (expr_length order x) c in
      record {
        middle = from + expr_size x;
        first = expr_stands x from (from + expr_size x) b v refl p.0;
        second = record {
          middle = suc (from + expr_size x);
          first = record { at = p.1.0; end = refl };
          second = record { at = p.1.1.0; end = omega (arith, e) };
        };
      }
  print_stands None (s ∷ rest) from to b v e c = let bad : false ≡ true = b in absurd cc
  print_stands (Some (Printed x)) (s ∷ rest) from to b v e c = let bad : false ≡ true = b in absurd cc
  print_stands (Some (Tab x)) rest from to b v e c = let bad : false ≡ true = b in absurd cc

  -- a place of a text sees the targets that a test says
  abbrev pub AgreesOn : Static → (Target → Bool) → Type 0
  AgreesOn st near = (t : Target) → near t ≡ true → st.drops t ≡ Some 0

  jump_stands : (st : Static) (t : Target) (from to : ℕ) → st.drops t ≡ Some 0 → to ≡ from + 1 → At text from (instr.Jump (jump.Jump (text.addr t))) → JumpAt text (st.drops t) t from to
  jump_stands st t from to d e at = record { jump = subst (λ k. JumpFrom text k t from) (sym d) at; end = omega (arith, e) }

  exit_stands : (st : Static) (near : Target → Bool) (d : Option ℕ) (from to : ℕ) → AgreesOn st near → may_exit d near ≡ true → to ≡ from + 1 → StandsAt text from (exit_code order text.addr d) → ExitAt text st d from to
  exit_stands st near None from to g j e c = let bad : false ≡ true = j in absurd cc
  exit_stands st near (Some l) from to g j e c = jump_stands st (EndOf l) from to (g (EndOf l) j) e c.0

  plain_stands : (st : Static) (near : Target → Bool) (p : Plain) (from to : ℕ) → AgreesOn st near → is_built_plain p ≡ true → Covered order (in_plain p) → jumps_in_plain st.around near p ≡ true → to ≡ from + plain_size p → StandsAt text from (plain_code order text.addr st.around p) → PlainAt text st p from to
  plain_stands st near (Let targets x) from to g b v j e c = let_stands targets x from to b v e c
  plain_stands st near (Print list) from to g b v j e c = print_stands list.first list.rest from to b v e c
  plain_stands st near (Goto l) from to g b v j e c = jump_stands st (LineOf l) from to (g (LineOf l) j) e c.0
  plain_stands st near ExitDo from to g b v j e c = exit_stands st near st.around.do_line from to g j e c
  plain_stands st near _ from to g b v j e c = let bad : false ≡ true = b in absurd cc

  pub simple_stands : (st : Static) (near : Target → Bool) (p : Plain) (from to : ℕ) → AgreesOn st near → is_built_plain p ≡ true → Covered order (in_plain p) → jumps_in_plain st.around near p ≡ true → to ≡ from + plain_size p → StandsAt text from (plain_code order text.addr st.around p) → SimpleAt text st (Alone p) from to
  simple_stands = plain_stands
