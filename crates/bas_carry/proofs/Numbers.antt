-- The code of an expression pushes its value.
use Rattle.std.proofs.Common.{◌≡◌, ℕ, suc, ◌<◌, ◌≤◌, List, ◌∷◌, Option, Some, None, refl, ap, ◌∙◌, subst, arith}
use Rattle.bas_dec.specs.Number.{Number}
use Rattle.bas_ast.specs.Tree.{Sign, Plus, Minus, TermSign, Add, Subtract, Join, FactorSign, Multiply, Divide, Expr, Sum, Terms, NoTerms, MoreTerms, Term, Product, Factors, NoFactors, MoreFactors, Factor, Power, Primaries, NoPrimaries, MorePrimaries, Primary, Numeric, Group, Named, Args, NoArgs, MoreArgs}
use Rattle.bas_mean.specs.World.{OfName, World}
use Rattle.bas_mean.specs.Outcome.{Evaluated, then_with}
use Rattle.bas_mean.specs.Operators.{Operator, Adds, Subtracts, Multiplies, Divides, Powers, apply}
use Rattle.bas_mean.specs.Place.{Around, Here, here_at}
use Rattle.bas_mean.specs.Expression.{applied, value_at, signed, term_joined, factor_joined, name_value, number, more_terms, term, more_factors, factor, more_exponents, primary}
use Rattle.bas_code.specs.declared.instr.Instr.{Instr}
use Rattle.bas_code.specs.declared.instr.Instr.TheVariants as instr
use Rattle.bas_code.specs.declared.instr.PushInstr.TheVariants.{Num, Load}
use Rattle.bas_code.specs.declared.instr.ArithInstr.TheVariants as arith_of
use Rattle.bas_code.specs.declared.body.Image.{Image}
use Rattle.bas_code.specs.State.{MachineWorld, Operand, ANumber, State, Run}
use Rattle.bas_code.specs.Guards.{entry_at}
use Rattle.bas_code.specs.Machine.{with_some, cell_of, on_answer, act}
use Rattle.bas_carry.specs.Text.{Text, OneAt}
use Rattle.bas_carry.specs.Shown.{shown}
use Rattle.bas_carry.specs.Expressions.{SignAt, TermSignAt, FactorSignAt, NameAt, ExprAt, TermsAt, TermAt, FactorsAt, FactorAt, ExponentsAt, PrimaryAt}
use Rattle.bas_carry.proofs.Steps.{Goes, stays, goes_to}
use Rattle.bas_carry.proofs.Cells.{look_law}
use Rattle.bas_carry.proofs.Reach.{Stand, place_of, Good, Lands}
use Rattle.bas_carry.proofs.Laws.{at_with, executes, lands_from, lands_then, answer_law}
use Rattle.bas_carry.proofs.Grows.{terms_grows, term_grows, factors_grows, factor_grows, exponents_grows, primary_grows, sign_grows, term_sign_grows, factor_sign_grows}

module _ (image : Image) (text : Text) (n : ℕ) (x : Stand) (good : Good image text x) (around : Around) (l start end next : ℕ) where
  abbrev pub here : Here
  here = here_at (place_of text x) around l

  -- the line's entry stands at these addresses
  abbrev pub Rows : (from to : ℕ) → Type 0
  Rows from to = (pc : ℕ) → from ≤ pc → pc < to → entry_at text.proc.lines pc ≡ Some (record { line = l; start = start; end = end; next = next })

  -- the addresses of a part
  pub rows_in : (from to f t : ℕ) → from ≤ f → t ≤ to → Rows from to → Rows f t
  rows_in from to f t a b rows pc h k = rows pc (omega arith) (omega arith)

  -- a number stands on the stack
  abbrev pub pushed : ℕ → List Operand → Number → MachineWorld → State
  pushed to stack v m = at_with image text to (ANumber v ∷ stack) x m

  abbrev pub Pushes : State → ℕ → List Operand → Evaluated Number → Type 0
  Pushes c to stack r = Lands image text n x c (pushed to stack) r

  pushes_to : (c : State) (to to' : ℕ) (stack : List Operand) (r : Evaluated Number) → to ≡ to' → Pushes c to stack r → Pushes c to' stack r
  pushes_to c to to' stack r e p = subst (λ t. Pushes c t stack r) e p

  op_law : (i : Instr) (op : Operator) (from to : ℕ) (v y : Number) (stack : List Operand) (w : World) → ((m : MachineWorld) → act image text.proc i text.body from (ANumber y ∷ ANumber v ∷ stack) x.acts x.callers m ≡ on_answer image text.proc (apply op v y) text.body from x.acts x.callers (λ z m1. pushed (suc from) stack z m1) m) → OneAt text i from to → Rows from to → w.left < n → Pushes (at_with image text from (ANumber y ∷ ANumber v ∷ stack) x (shown x.inv w)) to stack (applied here op v y w)
  op_law i op from to v y stack w does at rows h =
      pushes_to _ (suc from) to stack _ at.end
      (lands_from image text n x _ (on_answer image text.proc (apply op v y) text.body from x.acts x.callers (λ z m1. pushed (suc from) stack z m1) (shown x.inv w)) (pushed (suc from) stack) (applied here op v y w)
      (goes_to image _ _ _ (does (shown x.inv w)) (executes image text x good i from (ANumber y ∷ ANumber v ∷ stack) (shown x.inv w) at.at))
      (answer_law image text n x good here (record { line = l; start = start; end = end; next = next }) from w (apply op v y) (pushed (suc from) stack) refl refl (rows from (omega arith) (let e = at.end in omega (arith, e))) h))

  sign_law : (s : Option Sign) (from to : ℕ) (v : Number) (stack : List Operand) (m : MachineWorld) → SignAt text s from to → Goes image (pushed from stack v m) (pushed to stack (signed s v) m)
  sign_law None from to v stack m at = goes_to image _ _ _ (ap (λ t. pushed t stack v m) at.none) (stays image _)
  sign_law (Some Plus) from to v stack m at = goes_to image _ _ _ (ap (λ t. pushed t stack v m) at.none) (stays image _)
  sign_law (Some Minus) from to v stack m at =
      goes_to image _ _ _ (ap (λ t. pushed t stack (signed (Some Minus) v) m) at.end) (executes image text x good (instr.Arith arith_of.Negate) from (ANumber v ∷ stack) m at.at)

  term_sign_law : (s : TermSign) (from to : ℕ) (v y : Number) (stack : List Operand) (w : World) → TermSignAt text s from to → Rows from to → w.left < n → Pushes (at_with image text from (ANumber y ∷ ANumber v ∷ stack) x (shown x.inv w)) to stack (term_joined here s v y w)
  term_sign_law Add from to v y stack w at rows h = op_law (instr.Arith arith_of.Add) Adds from to v y stack w (λ m. refl) at rows h
  term_sign_law Subtract from to v y stack w at rows h = op_law (instr.Arith arith_of.Sub) Subtracts from to v y stack w (λ m. refl) at rows h
  term_sign_law Join from to v y stack w at rows h = absurd at

  factor_sign_law : (s : FactorSign) (from to : ℕ) (v y : Number) (stack : List Operand) (w : World) → FactorSignAt text s from to → Rows from to → w.left < n → Pushes (at_with image text from (ANumber y ∷ ANumber v ∷ stack) x (shown x.inv w)) to stack (factor_joined here s v y w)
  factor_sign_law Multiply from to v y stack w at rows h = op_law (instr.Arith arith_of.Mul) Multiplies from to v y stack w (λ m. refl) at rows h
  factor_sign_law Divide from to v y stack w at rows h = op_law (instr.Arith arith_of.Div) Divides from to v y stack w (λ m. refl) at rows h

  name_law : (name : List ℕ) (args : Args) (from to : ℕ) (stack : List Operand) (w : World) → NameAt text name args from to → w.left < n → Pushes (at_with image text from stack x (shown x.inv w)) to stack (name_value here name args w)
  name_law name NoArgs from to stack w at h =
      let s = good.sees (OfName name) at.place at.is in (
        h,
        goes_to image _ _ _
            (ap (λ o. with_some o (λ m. with_some (cell_of m (shown x.inv w)) (λ c. Run text.body (suc from) (ANumber c.number ∷ stack) x.acts x.callers (shown x.inv w)))) s.is
            ∙ ap (λ o. with_some o (λ c. Run text.body (suc from) (ANumber c.number ∷ stack) x.acts x.callers (shown x.inv w))) (look_law x.inv.shape w.cells (x.inv.refs (OfName name)) s.spot.cell s.lives)
            ∙ ap (λ t. pushed t stack (value_at (x.inv.refs (OfName name)) w) (shown x.inv w)) at.end)
            (executes image text x good (instr.Push (Load at.place)) from stack (shown x.inv w) at.at),
      )
  name_law name (MoreArgs a rest) from to stack w at h = absurd at

  mutual
    pub number_law : (e : Expr) (from to : ℕ) (stack : List Operand) (w : World) → ExprAt text e from to → Rows from to → w.left < n → Pushes (at_with image text from stack x (shown x.inv w)) to stack (number here e w)
    number_law (Sum sign first rest) from to stack w at rows h =
        let p = term_grows text first from at.middle at.first in
        let q = sign_grows text sign at.middle at.second.middle at.second.first in
        let r = terms_grows text rest at.second.middle to at.second.second in
        lands_then image text n x _ (pushed at.middle stack) (pushed to stack) (term here first w) (λ v w1. more_terms here (signed sign v) rest w1)
        (term_law first from at.middle stack w at.first (rows_in from to from at.middle (omega arith) (omega (arith, p, q, r)) rows) h)
        (λ v w1 h1. lands_from image text n x _ (pushed at.second.middle stack (signed sign v) (shown x.inv w1)) (pushed to stack) (more_terms here (signed sign v) rest w1)
        (sign_law sign at.middle at.second.middle v stack (shown x.inv w1) at.second.first)
        (more_terms_law rest at.second.middle to (signed sign v) stack w1 at.second.second (rows_in from to at.second.middle to (omega (arith, p, q, r)) (omega arith) rows) h1))

    more_terms_law : (ts : Terms) (from to : ℕ) (v : Number) (stack : List Operand) (w : World) → TermsAt text ts from to → Rows from to → w.left < n → Pushes (pushed from stack v (shown x.inv w)) to stack (more_terms here v ts w)
    more_terms_law NoTerms from to v stack w at rows h = (h, goes_to image _ _ _ (ap (λ t. pushed t stack v (shown x.inv w)) at.none) (stays image _))
    more_terms_law (MoreTerms sign next1 rest) from to v stack w at rows h =
        let p = term_grows text next1 from at.middle at.first in
        let q = term_sign_grows text sign at.middle at.second.middle at.second.first in
        let r = terms_grows text rest at.second.middle to at.second.second in
        lands_then image text n x _ (pushed at.middle (ANumber v ∷ stack)) (pushed to stack) (term here next1 w) (λ y w1. then_with (term_joined here sign v y w1) (λ z w2. more_terms here z rest w2))
        (term_law next1 from at.middle (ANumber v ∷ stack) w at.first (rows_in from to from at.middle (omega arith) (omega (arith, p, q, r)) rows) h)
        (λ y w1 h1. lands_then image text n x _ (pushed at.second.middle stack) (pushed to stack) (term_joined here sign v y w1) (λ z w2. more_terms here z rest w2)
        (term_sign_law sign at.middle at.second.middle v y stack w1 at.second.first (rows_in from to at.middle at.second.middle (omega (arith, p, q, r)) (omega (arith, p, q, r)) rows) h1)
        (λ z w2 h2. more_terms_law rest at.second.middle to z stack w2 at.second.second (rows_in from to at.second.middle to (omega (arith, p, q, r)) (omega arith) rows) h2))

    term_law : (t : Term) (from to : ℕ) (stack : List Operand) (w : World) → TermAt text t from to → Rows from to → w.left < n → Pushes (at_with image text from stack x (shown x.inv w)) to stack (term here t w)
    term_law (Product first rest) from to stack w at rows h =
        let p = factor_grows text first from at.middle at.first in
        let q = factors_grows text rest at.middle to at.second in
        lands_then image text n x _ (pushed at.middle stack) (pushed to stack) (factor here first w) (λ v w1. more_factors here v rest w1)
        (factor_law first from at.middle stack w at.first (rows_in from to from at.middle (omega arith) (omega (arith, p, q)) rows) h)
        (λ v w1 h1. more_factors_law rest at.middle to v stack w1 at.second (rows_in from to at.middle to (omega (arith, p, q)) (omega arith) rows) h1)

    more_factors_law : (fs : Factors) (from to : ℕ) (v : Number) (stack : List Operand) (w : World) → FactorsAt text fs from to → Rows from to → w.left < n → Pushes (pushed from stack v (shown x.inv w)) to stack (more_factors here v fs w)
    more_factors_law NoFactors from to v stack w at rows h = (h, goes_to image _ _ _ (ap (λ t. pushed t stack v (shown x.inv w)) at.none) (stays image _))
    more_factors_law (MoreFactors sign next1 rest) from to v stack w at rows h =
        let p = factor_grows text next1 from at.middle at.first in
        let q = factor_sign_grows text sign at.middle at.second.middle at.second.first in
        let r = factors_grows text rest at.second.middle to at.second.second in
        lands_then image text n x _ (pushed at.middle (ANumber v ∷ stack)) (pushed to stack) (factor here next1 w) (λ y w1. then_with (factor_joined here sign v y w1) (λ z w2. more_factors here z rest w2))
        (factor_law next1 from at.middle (ANumber v ∷ stack) w at.first (rows_in from to from at.middle (omega arith) (omega (arith, p, q, r)) rows) h)
        (λ y w1 h1. lands_then image text n x _ (pushed at.second.middle stack) (pushed to stack) (factor_joined here sign v y w1) (λ z w2. more_factors here z rest w2)
        (factor_sign_law sign at.middle at.second.middle v y stack w1 at.second.first (rows_in from to at.middle at.second.middle (omega (arith, p, q, r)) (omega (arith, p, q, r)) rows) h1)
        (λ z w2 h2. more_factors_law rest at.second.middle to z stack w2 at.second.second (rows_in from to at.second.middle to (omega (arith, p, q, r)) (omega arith) rows) h2))

    factor_law : (f : Factor) (from to : ℕ) (stack : List Operand) (w : World) → FactorAt text f from to → Rows from to → w.left < n → Pushes (at_with image text from stack x (shown x.inv w)) to stack (factor here f w)
    factor_law (Power base exponents) from to stack w at rows h =
        let p = primary_grows text base from at.middle at.first in
        let q = exponents_grows text exponents at.middle to at.second in
        lands_then image text n x _ (pushed at.middle stack) (pushed to stack) (primary here base w) (λ v w1. more_exponents here v exponents w1)
        (primary_law base from at.middle stack w at.first (rows_in from to from at.middle (omega arith) (omega (arith, p, q)) rows) h)
        (λ v w1 h1. more_exponents_law exponents at.middle to v stack w1 at.second (rows_in from to at.middle to (omega (arith, p, q)) (omega arith) rows) h1)

    more_exponents_law : (ps : Primaries) (from to : ℕ) (v : Number) (stack : List Operand) (w : World) → ExponentsAt text ps from to → Rows from to → w.left < n → Pushes (pushed from stack v (shown x.inv w)) to stack (more_exponents here v ps w)
    more_exponents_law NoPrimaries from to v stack w at rows h = (h, goes_to image _ _ _ (ap (λ t. pushed t stack v (shown x.inv w)) at.none) (stays image _))
    more_exponents_law (MorePrimaries next1 rest) from to v stack w at rows h =
        let p = primary_grows text next1 from at.middle at.first in
        let q = let e = at.second.first.end in let z : at.middle ≤ at.second.middle = omega (arith, e) in z in
        let r = exponents_grows text rest at.second.middle to at.second.second in
        lands_then image text n x _ (pushed at.middle (ANumber v ∷ stack)) (pushed to stack) (primary here next1 w) (λ y w1. then_with (applied here Powers v y w1) (λ z w2. more_exponents here z rest w2))
        (primary_law next1 from at.middle (ANumber v ∷ stack) w at.first (rows_in from to from at.middle (omega arith) (omega (arith, p, q, r)) rows) h)
        (λ y w1 h1. lands_then image text n x _ (pushed at.second.middle stack) (pushed to stack) (applied here Powers v y w1) (λ z w2. more_exponents here z rest w2)
        (op_law (instr.Arith arith_of.Power) Powers at.middle at.second.middle v y stack w1 (λ m. refl) at.second.first (rows_in from to at.middle at.second.middle (omega (arith, p, q, r)) (omega (arith, p, q, r)) rows) h1)
        (λ z w2 h2. more_exponents_law rest at.second.middle to z stack w2 at.second.second (rows_in from to at.second.middle to (omega (arith, p, q, r)) (omega arith) rows) h2))

    primary_law : (a : Primary) (from to : ℕ) (stack : List Operand) (w : World) → PrimaryAt text a from to → Rows from to → w.left < n → Pushes (at_with image text from stack x (shown x.inv w)) to stack (primary here a w)
    primary_law (Numeric numeral) from to stack w at rows h =
        (h, goes_to image _ _ _ (ap (λ t. pushed t stack numeral.value (shown x.inv w)) at.end) (executes image text x good (instr.Push (Num numeral.value)) from stack (shown x.inv w) at.at))
    primary_law (Group e) from to stack w at rows h = number_law e from to stack w at rows h
    primary_law (Named name args) from to stack w at rows h = name_law name args from to stack w at h
    primary_law _ from to stack w at rows h = absurd at
