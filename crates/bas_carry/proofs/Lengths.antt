-- The codes that the functions make have the sizes that the functions say.
use Rattle.std.proofs.Common.{◌≡◌, ℕ, suc, ◌+◌, Bool, true, false, List, [], ◌∷◌, ◌++◌, length, Option, Some, None, refl, ap, ◌∙◌, arith}
use Rattle.bas_ast.specs.Tree.{Sign, Plus, Minus, TermSign, Add, Subtract, Join, FactorSign, Multiply, Divide, Rel, Expr, Sum, Terms, NoTerms, MoreTerms, Term, Product, Factors, NoFactors, MoreFactors, Factor, Power, Primaries, NoPrimaries, MorePrimaries, Primary, Numeric, Group, Named, Cond, AnyOf, Conjs, NoConjs, MoreConjs, Conj, AllOf, Tests, NoTests, MoreTests, Test, Not, CondGroup, Compare, Variable, Pitem, Printed, Plain, Let, Print, Goto, ExitDo, Simple, Alone, Loopc, While, Until, Part, If, Elseif, Else, Do, Loop, End, LineItem, Nothing, Rem, OfSimple, OfPart, NumLine, Stmt, Single, Nest, Sections, NoSections, MoreSections, Block, NoStmts, MoreStmts, Program}
use Rattle.bas_ast.specs.Tree as tree
use Rattle.bas_mean.specs.World as world
use Rattle.bas_mean.specs.Outcome.{Target, EndOf}
use Rattle.bas_mean.specs.Place.{Around}
use Rattle.bas_mean.specs.Construct.{in_do}
use Rattle.bas_mean.specs.Meaning.{outermost}
use Rattle.bas_code.specs.declared.instr.Instr.{Instr}
use Rattle.bas_code.specs.declared.instr.Instr.TheVariants as instr
use Rattle.bas_code.specs.declared.instr.JumpInstr.TheVariants as jump
use Rattle.bas_code.specs.declared.instr.StoreInstr.TheVariants as store
use Rattle.bas_carry.specs.Constructs.{is_last}
use Rattle.bas_carry.specs.Codes.{sign_size, term_sign_size, expr_size, terms_size, term_size, factors_size, factor_size, exponents_size, primary_size, cond_size, conjs_size, conj_size, tests_size, test_size, loopc_size, let_size, print_size, plain_size, single_size, closing_size, part_end_size, section_size, stmt_size, sections_size, block_size, sign_code, term_sign_code, factor_sign_code, expr_code, terms_code, term_code, factors_code, factor_code, exponents_code, primary_code, fork_code, unless_code, unless_any_code, if_code, if_any_code, unless_all_code, unless_each_code, if_all_code, if_each_code, unless_test_code, if_test_code, loopc_code, let_code, print_code, exit_code, plain_code, single_code, closing_code, part_end_code, section_code, stmt_code, sections_code, block_code, program_code}
use Rattle.bas_carry.proofs.Cells.{length_both}

-- two pieces of known lengths
both : (xs ys : List Instr) (m n : ℕ) → length xs ≡ m → length ys ≡ n → length (xs ++ ys) ≡ m + n
both xs ys m n p q = length_both xs ys ∙ ap (λ k. k + length ys) p ∙ ap (λ k. m + k) q

-- a mark, and four pieces
marked : (i : Instr) (xs bs ps rs : List Instr) (a b c d : ℕ) → length xs ≡ a → length bs ≡ b → length ps ≡ c → length rs ≡ d → length (i ∷ (xs ++ (bs ++ (ps ++ rs)))) ≡ 1 + (a + (b + (c + d)))
marked i xs bs ps rs a b c d p q r t = let e = both xs (bs ++ (ps ++ rs)) a (b + (c + d)) p (both bs (ps ++ rs) b (c + d) q (both ps rs c d r t)) in omega (arith, e)

pub sign_length : (s : Option Sign) → length (sign_code s) ≡ sign_size s
sign_length None = refl
sign_length (Some Plus) = refl
sign_length (Some Minus) = refl

pub term_sign_length : (s : TermSign) → length (term_sign_code s) ≡ term_sign_size s
term_sign_length Add = refl
term_sign_length Subtract = refl
term_sign_length Join = refl

pub factor_sign_length : (s : FactorSign) → length (factor_sign_code s) ≡ 1
factor_sign_length Multiply = refl
factor_sign_length Divide = refl

module _ (order : List world.Variable) where
  mutual
    pub expr_length : (e : Expr) → length (expr_code order e) ≡ expr_size e
    expr_length (Sum sign first rest) = both (term_code order first) (sign_code sign ++ terms_code order rest) _ _ (term_length first) (both (sign_code sign) (terms_code order rest) _ _ (sign_length sign) (terms_length rest))

    pub terms_length : (ts : Terms) → length (terms_code order ts) ≡ terms_size ts
    terms_length NoTerms = refl
    terms_length (MoreTerms sign next rest) = both (term_code order next) (term_sign_code sign ++ terms_code order rest) _ _ (term_length next) (both (term_sign_code sign) (terms_code order rest) _ _ (term_sign_length sign) (terms_length rest))

    pub term_length : (t : Term) → length (term_code order t) ≡ term_size t
    term_length (Product first rest) = both (factor_code order first) (factors_code order rest) _ _ (factor_length first) (factors_length rest)

    pub factors_length : (fs : Factors) → length (factors_code order fs) ≡ factors_size fs
    factors_length NoFactors = refl
    factors_length (MoreFactors sign next rest) = both (factor_code order next) (factor_sign_code sign ++ factors_code order rest) _ _ (factor_length next) (both (factor_sign_code sign) (factors_code order rest) _ _ (factor_sign_length sign) (factors_length rest))

    pub factor_length : (f : Factor) → length (factor_code order f) ≡ factor_size f
    factor_length (Power base exponents) = both (primary_code order base) (exponents_code order exponents) _ _ (primary_length base) (exponents_length exponents)

    pub exponents_length : (ps : Primaries) → length (exponents_code order ps) ≡ exponents_size ps
    exponents_length NoPrimaries = refl
    exponents_length (MorePrimaries next rest) = both (primary_code order next) _ _ _ (primary_length next) (let e = exponents_length rest in omega (arith, e))

    pub primary_length : (p : Primary) → length (primary_code order p) ≡ primary_size p
    primary_length (Numeric numeral) = refl
    primary_length (Group e) = expr_length e
    primary_length (Named name args) = refl
    primary_length _ = refl

  pub fork_length : (a b : Expr) (rel : Rel) (i : Instr) → length (fork_code order a rel b i) ≡ expr_size a + (expr_size b + 2)
  fork_length a b rel i = both (expr_code order a) _ _ _ (expr_length a) (both (expr_code order b) _ _ _ (expr_length b) refl)

  -- a code of a condition has a size, whatever its addresses
  abbrev pub HasSize : (ℕ → ℕ → List Instr) → ℕ → Type 0
  HasSize code size = (from a : ℕ) → length (code from a) ≡ size

  mutual
    pub unless_length : (c : Cond) → HasSize (unless_code order c) (cond_size c)
    unless_length (AnyOf first rest) from a = unless_any_length rest first (unless_all_length first) (if_all_length first) from (from + (conj_size first + conjs_size rest)) a

    pub unless_any_length : (rest : Conjs) (first : Conj) → HasSize (unless_all_code order first) (conj_size first) → HasSize (if_all_code order first) (conj_size first) → (from to a : ℕ) → length (unless_any_code order (unless_all_code order first) (if_all_code order first) (conj_size first) rest from to a) ≡ conj_size first + conjs_size rest
    unless_any_length NoConjs first u i from to a = u from a ∙ (let e : conj_size first ≡ conj_size first + 0 = omega arith in e)
    unless_any_length (MoreConjs next rest) first u i from to a = both (if_all_code order first from to) _ _ _ (i from to) (unless_any_length rest next (unless_all_length next) (if_all_length next) (from + conj_size first) to a)

    pub if_length : (c : Cond) → HasSize (if_code order c) (cond_size c)
    if_length (AnyOf first rest) from a = if_any_length rest first (if_all_length first) from a

    pub if_any_length : (rest : Conjs) (first : Conj) → HasSize (if_all_code order first) (conj_size first) → (from a : ℕ) → length (if_any_code order (if_all_code order first) (conj_size first) rest from a) ≡ conj_size first + conjs_size rest
    if_any_length NoConjs first i from a = i from a ∙ (let e : conj_size first ≡ conj_size first + 0 = omega arith in e)
    if_any_length (MoreConjs next rest) first i from a = both (if_all_code order first from a) _ _ _ (i from a) (if_any_length rest next (if_all_length next) (from + conj_size first) a)

    pub unless_all_length : (c : Conj) → HasSize (unless_all_code order c) (conj_size c)
    unless_all_length (AllOf first rest) from a = unless_each_length rest first (unless_test_length first) from a

    pub unless_each_length : (rest : Tests) (first : Test) → HasSize (unless_test_code order first) (test_size first) → (from a : ℕ) → length (unless_each_code order (unless_test_code order first) (test_size first) rest from a) ≡ test_size first + tests_size rest
    unless_each_length NoTests first u from a = u from a ∙ (let e : test_size first ≡ test_size first + 0 = omega arith in e)
    unless_each_length (MoreTests next rest) first u from a = both (unless_test_code order first from a) _ _ _ (u from a) (unless_each_length rest next (unless_test_length next) (from + test_size first) a)

    pub if_all_length : (c : Conj) → HasSize (if_all_code order c) (conj_size c)
    if_all_length (AllOf first rest) from a = if_each_length rest first (unless_test_length first) (if_test_length first) from (from + (test_size first + tests_size rest)) a

    pub if_each_length : (rest : Tests) (first : Test) → HasSize (unless_test_code order first) (test_size first) → HasSize (if_test_code order first) (test_size first) → (from to a : ℕ) → length (if_each_code order (unless_test_code order first) (if_test_code order first) (test_size first) rest from to a) ≡ test_size first + tests_size rest
    if_each_length NoTests first u i from to a = i from a ∙ (let e : test_size first ≡ test_size first + 0 = omega arith in e)
    if_each_length (MoreTests next rest) first u i from to a = both (unless_test_code order first from to) _ _ _ (u from to) (if_each_length rest next (unless_test_length next) (if_test_length next) (from + test_size first) to a)

    pub unless_test_length : (t : Test) → HasSize (unless_test_code order t) (test_size t)
    unless_test_length (Not t) from a = if_test_length t from a
    unless_test_length (CondGroup c) from a = unless_length c from a
    unless_test_length (Compare x rel y) from a = fork_length x y rel _

    pub if_test_length : (t : Test) → HasSize (if_test_code order t) (test_size t)
    if_test_length (Not t) from a = unless_test_length t from a
    if_test_length (CondGroup c) from a = if_length c from a
    if_test_length (Compare x rel y) from a = fork_length x y rel _

  pub loopc_length : (c : Option Loopc) → HasSize (loopc_code order c) (loopc_size c)
  loopc_length None from a = refl
  loopc_length (Some (While c)) from a = unless_length c from a
  loopc_length (Some (Until c)) from a = if_length c from a

  let_length : (targets : List tree.Target) (e : Expr) → length (let_code order targets e) ≡ let_size targets e
  let_length [] e = refl
  let_length (Variable name subscripts ∷ targets) e = let q = both (expr_code order e) (instr.Store (store.Store 1) ∷ []) (expr_size e) 1 (expr_length e) refl in omega (arith, q)

  print_length : (i : Option Pitem) → length (print_code order i) ≡ print_size i
  print_length (Some (Printed e)) = both (expr_code order e) _ _ 2 (expr_length e) refl
  print_length _ = refl

  module _ (addr : Target → ℕ) where
    exit_length : (d : Option ℕ) → length (exit_code order addr d) ≡ 1
    exit_length None = refl
    exit_length (Some l) = refl

    plain_length : (around : Around) (p : Plain) → length (plain_code order addr around p) ≡ plain_size p
    plain_length around (Let targets e) = let_length targets e
    plain_length around (Print list) = print_length list.first
    plain_length around (Goto l) = refl
    plain_length around ExitDo = exit_length around.do_line
    plain_length around _ = refl

    single_length : (around : Around) (l : ℕ) (item : LineItem) → length (single_code order addr around l item) ≡ single_size item
    single_length around l Nothing = refl
    single_length around l (Rem bytes) = refl
    single_length around l (OfSimple (Alone plain)) = let q = plain_length around plain in omega (arith, q)
    single_length around l _ = refl

    pub closing_length : (opener l : ℕ) (item : LineItem) (from : ℕ) → length (closing_code order addr opener l item from) ≡ closing_size item
    closing_length opener l (OfPart (Loop loopc)) from = let q = loopc_length loopc (suc from) (addr (EndOf opener)) in omega (arith, q)
    closing_length opener l (OfPart End) from = refl
    closing_length opener l _ from = refl

    part_end_length : (final : Bool) (finish : ℕ) → length (part_end_code order addr final finish) ≡ part_end_size final
    part_end_length true finish = refl
    part_end_length false finish = refl

    section_length : (around : Around) (l : ℕ) (item : LineItem) (close : NumLine) (final : Bool) (size rest_size : ℕ) (block : Around → ℕ → List Instr) (rest : ℕ → List Instr) (from finish : ℕ) → ((inner : Around) (f : ℕ) → length (block inner f) ≡ size) → ((f : ℕ) → length (rest f) ≡ rest_size) → length (section_code order addr around l item close final size block rest from finish) ≡ section_size item close.item final size rest_size
    section_length around l (OfPart (If c)) close final size rest_size block rest from finish b r =
        marked (instr.Mark l) (unless_code order c (suc from) (suc from + (cond_size c + (size + part_end_size final)))) (block around (suc from + cond_size c)) (part_end_code order addr final finish) (rest (suc from + (cond_size c + (size + part_end_size final)))) (cond_size c) size (part_end_size final) rest_size
        (unless_length c (suc from) (suc from + (cond_size c + (size + part_end_size final)))) (b around (suc from + cond_size c)) (part_end_length final finish) (r (suc from + (cond_size c + (size + part_end_size final))))
    section_length around l (OfPart (Elseif c)) close final size rest_size block rest from finish b r =
        marked (instr.Mark l) (unless_code order c (suc from) (suc from + (cond_size c + (size + part_end_size final)))) (block around (suc from + cond_size c)) (part_end_code order addr final finish) (rest (suc from + (cond_size c + (size + part_end_size final)))) (cond_size c) size (part_end_size final) rest_size
        (unless_length c (suc from) (suc from + (cond_size c + (size + part_end_size final)))) (b around (suc from + cond_size c)) (part_end_length final finish) (r (suc from + (cond_size c + (size + part_end_size final))))
    section_length around l (OfPart Else) close final size rest_size block rest from finish b r = b around from
    section_length around l (OfPart (Do loopc)) close final size rest_size block rest from finish b r =
        marked (instr.Mark l) (loopc_code order loopc (suc from) finish) (block (in_do l around) (suc from + loopc_size loopc)) (closing_code order addr l close.line close.item (suc from + (loopc_size loopc + size))) (instr.Jump (jump.Jump from) ∷ []) (loopc_size loopc) size (closing_size close.item) 1
        (loopc_length loopc (suc from) finish) (b (in_do l around) (suc from + loopc_size loopc)) (closing_length l close.line close.item (suc from + (loopc_size loopc + size))) refl
    section_length around l _ close final size rest_size block rest from finish b r = refl

    mutual
      pub stmt_length : (s : Stmt) (around : Around) (from : ℕ) → length (stmt_code order addr around s from) ≡ stmt_size s
      stmt_length (Single head) around from = single_length around head.line head.item
      stmt_length (Nest sections close) around from = sections_length sections close around from (from + sections_size sections close)

      pub sections_length : (sections : Sections) (close : NumLine) (around : Around) (from finish : ℕ) → length (sections_code order addr around sections close from finish) ≡ sections_size sections close
      sections_length NoSections close around from finish = refl
      sections_length (MoreSections head body rest) close around from finish =
          section_length around head.line head.item close (is_last rest) (block_size body) (sections_size rest close) (λ inner from1. block_code order addr inner body from1) (λ from1. sections_code order addr around rest close from1 finish) from finish
          (λ inner f. block_length body inner f) (λ f. sections_length rest close around f finish)

      pub block_length : (b : Block) (around : Around) (from : ℕ) → length (block_code order addr around b from) ≡ block_size b
      block_length NoStmts around from = refl
      block_length (MoreStmts s rest) around from = both (stmt_code order addr around s from) _ _ _ (stmt_length s around from) (block_length rest around (from + stmt_size s))

    pub program_length : (p : Program) → length (program_code order addr p) ≡ block_size p.body + closing_size p.close.item
    program_length p = both (block_code order addr outermost p.body 0) (closing_code order addr 0 p.close.line p.close.item (block_size p.body)) _ _ (block_length p.body outermost 0) (closing_length 0 p.close.line p.close.item (block_size p.body))

pub ruleset lengths = (expr_length, unless_length, if_length, loopc_length, stmt_length, block_length, program_length)
