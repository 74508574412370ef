-- The code of a program as a function: of the list of its variables, whose indexes are the slots,
-- and of the address of each target. Sizes depend on neither.
use Rattle.std.specs.Prelude.{ℕ, suc, ◌+◌, Bool, true, false, List, [], ◌∷◌, ◌++◌, Option, Some, None}
use Rattle.bas_ast.specs.Tree.{Sign, Plus, Minus, TermSign, Add, Subtract, Join, FactorSign, Multiply, Divide, Rel, Expr, Sum, Terms, NoTerms, MoreTerms, Term, Product, Factors, NoFactors, MoreFactors, Factor, Power, Primaries, NoPrimaries, MorePrimaries, Primary, Numeric, Group, Named, Cond, AnyOf, Conjs, NoConjs, MoreConjs, Conj, AllOf, Tests, NoTests, MoreTests, Test, Not, CondGroup, Compare, Variable, Pitem, Printed, Plain, Let, Print, Goto, ExitDo, Simple, Alone, Loopc, While, Until, Part, If, Elseif, Else, Do, Loop, End, LineItem, Nothing, Rem, OfSimple, OfPart, NumLine, Stmt, Single, Nest, Sections, NoSections, MoreSections, Block, NoStmts, MoreStmts, Program}
use Rattle.bas_ast.specs.Tree as tree
use Rattle.bas_mean.specs.World.{OfName}
use Rattle.bas_mean.specs.World as world
use Rattle.bas_mean.specs.Outcome.{Target, LineOf, EndOf}
use Rattle.bas_mean.specs.Place.{Around}
use Rattle.bas_mean.specs.Construct.{in_do}
use Rattle.bas_mean.specs.Meaning.{outermost}
use Rattle.bas_code.specs.declared.instr.TheConstants.{TERMINAL}
use Rattle.bas_code.specs.declared.instr.Place.{Place}
use Rattle.bas_code.specs.declared.instr.Space.TheVariants.{Own}
use Rattle.bas_code.specs.declared.instr.Instr.{Instr}
use Rattle.bas_code.specs.declared.instr.Instr.TheVariants as instr
use Rattle.bas_code.specs.declared.instr.JumpInstr.TheVariants as jump
use Rattle.bas_code.specs.declared.instr.RunInstr.TheVariants as run
use Rattle.bas_code.specs.declared.instr.PushInstr.TheVariants as push
use Rattle.bas_code.specs.declared.instr.StoreInstr.TheVariants as store
use Rattle.bas_code.specs.declared.instr.ArithInstr.TheVariants as arith
use Rattle.bas_code.specs.declared.instr.CompareInstr.TheVariants as compare
use Rattle.bas_code.specs.declared.instr.PrintInstr.TheVariants as print
use Rattle.bas_carry.specs.Conditions.{relation_of}
use Rattle.bas_carry.specs.Constructs.{is_last}
use Rattle.bas_carry.specs.Slots.{index_of}

-- how many instructions each part has

-- a sign in front
abbrev pub sign_size : Option Sign → ℕ
sign_size None = 0
sign_size (Some Plus) = 0
sign_size (Some Minus) = 1

-- the operator behind a term
abbrev pub term_sign_size : TermSign → ℕ
term_sign_size Add = 1
term_sign_size Subtract = 1
term_sign_size Join = 0

abbrev mutual
  -- an expression
  pub expr_size : Expr → ℕ
  expr_size (Sum sign first rest) = term_size first + (sign_size sign + terms_size rest)

  -- the terms behind the first, with their operators
  pub terms_size : Terms → ℕ
  terms_size NoTerms = 0
  terms_size (MoreTerms sign next rest) = term_size next + (term_sign_size sign + terms_size rest)

  -- a term
  pub term_size : Term → ℕ
  term_size (Product first rest) = factor_size first + factors_size rest

  -- the factors behind the first, with their operators
  pub factors_size : Factors → ℕ
  factors_size NoFactors = 0
  factors_size (MoreFactors sign next rest) = factor_size next + (1 + factors_size rest)

  -- a factor
  pub factor_size : Factor → ℕ
  factor_size (Power base exponents) = primary_size base + exponents_size exponents

  -- the exponents, with their operators
  pub exponents_size : Primaries → ℕ
  exponents_size NoPrimaries = 0
  exponents_size (MorePrimaries next rest) = primary_size next + (1 + exponents_size rest)

  -- a primary
  pub primary_size : Primary → ℕ
  primary_size (Numeric numeral) = 1
  primary_size (Group e) = expr_size e
  primary_size (Named name args) = 1
  primary_size _ = 0

-- both forms of a condition, jump unless and jump if, have the same size
abbrev mutual
  -- a condition
  pub cond_size : Cond → ℕ
  cond_size (AnyOf first rest) = conj_size first + conjs_size rest

  -- the conditions behind the first OR
  pub conjs_size : Conjs → ℕ
  conjs_size NoConjs = 0
  conjs_size (MoreConjs next rest) = conj_size next + conjs_size rest

  -- conditions joined by AND
  pub conj_size : Conj → ℕ
  conj_size (AllOf first rest) = test_size first + tests_size rest

  -- the conditions behind the first AND
  pub tests_size : Tests → ℕ
  tests_size NoTests = 0
  tests_size (MoreTests next rest) = test_size next + tests_size rest

  -- a negation, a condition in parentheses, or a relation
  pub test_size : Test → ℕ
  test_size (Not t) = test_size t
  test_size (CondGroup c) = cond_size c
  test_size (Compare a rel b) = expr_size a + (expr_size b + 2)

-- WHILE or UNTIL
abbrev pub loopc_size : Option Loopc → ℕ
loopc_size None = 0
loopc_size (Some (While c)) = cond_size c
loopc_size (Some (Until c)) = cond_size c

-- a print list
abbrev pub print_size : Option Pitem → ℕ
print_size (Some (Printed e)) = expr_size e + 2
print_size _ = 1

-- LET of one target
abbrev pub let_size : List tree.Target → Expr → ℕ
let_size [] e = 0
let_size (t ∷ targets) e = 1 + (expr_size e + 1)

-- a statement
abbrev pub plain_size : Plain → ℕ
plain_size (Let targets e) = let_size targets e
plain_size (Print list) = print_size list.first
plain_size (Goto l) = 1
plain_size ExitDo = 1
plain_size _ = 0

-- a line alone, with its mark
abbrev pub single_size : LineItem → ℕ
single_size Nothing = 1
single_size (Rem bytes) = 1
single_size (OfSimple (Alone plain)) = 1 + plain_size plain
single_size _ = 0

-- a line that closes a block, without the jump back of LOOP
abbrev pub closing_size : LineItem → ℕ
closing_size (OfPart (Loop loopc)) = 1 + loopc_size loopc
closing_size (OfPart End) = 2
closing_size _ = 0

-- the jump after a part of a block IF; the last part has none
abbrev pub part_end_size : Bool → ℕ
part_end_size true = 0
part_end_size false = 1

-- a section, from the sizes of its block and of the sections after it
abbrev pub section_size : LineItem → (close : LineItem) → (final : Bool) → (block rest : ℕ) → ℕ
section_size (OfPart (If c)) close final block rest = 1 + (cond_size c + (block + (part_end_size final + rest)))
section_size (OfPart (Elseif c)) close final block rest = 1 + (cond_size c + (block + (part_end_size final + rest)))
section_size (OfPart Else) close final block rest = block
section_size (OfPart (Do loopc)) close final block rest = 1 + (loopc_size loopc + (block + (closing_size close + 1)))
section_size _ close final block rest = 0

abbrev mutual
  -- a statement of a block
  pub stmt_size : Stmt → ℕ
  stmt_size (Single head) = single_size head.item
  stmt_size (Nest sections close) = sections_size sections close

  -- the sections of a construct from some of them on
  pub sections_size : Sections → (close : NumLine) → ℕ
  sections_size NoSections close = 0
  sections_size (MoreSections head body rest) close = section_size head.item close.item (is_last rest) (block_size body) (sections_size rest close)

  -- a block, without the line that closes it
  pub block_size : Block → ℕ
  block_size NoStmts = 0
  block_size (MoreStmts s rest) = stmt_size s + block_size rest

-- the instructions

-- a minus in front negates the first term
abbrev pub sign_code : Option Sign → List Instr
sign_code None = []
sign_code (Some Plus) = []
sign_code (Some Minus) = instr.Arith arith.Negate ∷ []

-- the operator behind a term
abbrev pub term_sign_code : TermSign → List Instr
term_sign_code Add = instr.Arith arith.Add ∷ []
term_sign_code Subtract = instr.Arith arith.Sub ∷ []
term_sign_code Join = []

-- the operator behind a factor
abbrev pub factor_sign_code : FactorSign → List Instr
factor_sign_code Multiply = instr.Arith arith.Mul ∷ []
factor_sign_code Divide = instr.Arith arith.Div ∷ []

-- the slot of a variable; the first slot for one that has none
abbrev pub index_or_first : Option ℕ → ℕ
index_or_first None = 0
index_or_first (Some k) = k

-- the place of a variable
abbrev pub own_place : List world.Variable → world.Variable → Place
own_place order x = record { space = Own; number = index_or_first (index_of order x) }

module _ (order : List world.Variable) where
  -- pushes the value of an expression
  abbrev mutual
    pub expr_code : Expr → List Instr
    expr_code (Sum sign first rest) = term_code first ++ (sign_code sign ++ terms_code rest)

    -- the terms behind the first, each with its operator behind it
    pub terms_code : Terms → List Instr
    terms_code NoTerms = []
    terms_code (MoreTerms sign next rest) = term_code next ++ (term_sign_code sign ++ terms_code rest)

    -- a term
    pub term_code : Term → List Instr
    term_code (Product first rest) = factor_code first ++ factors_code rest

    -- the factors behind the first, each with its operator behind it
    pub factors_code : Factors → List Instr
    factors_code NoFactors = []
    factors_code (MoreFactors sign next rest) = factor_code next ++ (factor_sign_code sign ++ factors_code rest)

    -- a factor
    pub factor_code : Factor → List Instr
    factor_code (Power base exponents) = primary_code base ++ exponents_code exponents

    -- the exponents, each with the operator behind it
    pub exponents_code : Primaries → List Instr
    exponents_code NoPrimaries = []
    exponents_code (MorePrimaries next rest) = primary_code next ++ (instr.Arith arith.Power ∷ exponents_code rest)

    -- a numeral, an expression in parentheses, or a variable
    pub primary_code : Primary → List Instr
    primary_code (Numeric numeral) = instr.Push (push.Num numeral.value) ∷ []
    primary_code (Group e) = expr_code e
    primary_code (Named name args) = instr.Push (push.Load (own_place order (OfName name))) ∷ []
    primary_code _ = []

  -- a comparison, and the jump on its truth
  abbrev pub fork_code : Expr → Rel → Expr → Instr → List Instr
  fork_code a rel b i = expr_code a ++ (expr_code b ++ (instr.Compare (compare.CompareNum (relation_of rel)) ∷ (i ∷ [])))

  -- a condition at an address, with a jump to another one unless it holds (unless) or if it holds (if)
  abbrev mutual
    -- jumps unless the condition holds
    pub unless_code : Cond → (from a : ℕ) → List Instr
    unless_code (AnyOf first rest) from a = unless_any_code (unless_all_code first) (if_all_code first) (conj_size first) rest from (from + (conj_size first + conjs_size rest)) a

    -- jumps unless the first, with these codes and that size, or one of the rest holds; `to` is the end of the whole
    pub unless_any_code : (unless_first if_first : ℕ → ℕ → List Instr) → (size : ℕ) → Conjs → (from to a : ℕ) → List Instr
    unless_any_code unless_first if_first size NoConjs from to a = unless_first from a
    unless_any_code unless_first if_first size (MoreConjs next rest) from to a =
        if_first from to ++ unless_any_code (unless_all_code next) (if_all_code next) (conj_size next) rest (from + size) to a

    -- jumps if the condition holds
    pub if_code : Cond → (from a : ℕ) → List Instr
    if_code (AnyOf first rest) from a = if_any_code (if_all_code first) (conj_size first) rest from a

    -- jumps if the first or one of the rest holds
    pub if_any_code : (if_first : ℕ → ℕ → List Instr) → (size : ℕ) → Conjs → (from a : ℕ) → List Instr
    if_any_code if_first size NoConjs from a = if_first from a
    if_any_code if_first size (MoreConjs next rest) from a = if_first from a ++ if_any_code (if_all_code next) (conj_size next) rest (from + size) a

    -- jumps unless all of the conditions hold
    pub unless_all_code : Conj → (from a : ℕ) → List Instr
    unless_all_code (AllOf first rest) from a = unless_each_code (unless_test_code first) (test_size first) rest from a

    -- jumps unless the first and all of the rest hold
    pub unless_each_code : (unless_first : ℕ → ℕ → List Instr) → (size : ℕ) → Tests → (from a : ℕ) → List Instr
    unless_each_code unless_first size NoTests from a = unless_first from a
    unless_each_code unless_first size (MoreTests next rest) from a = unless_first from a ++ unless_each_code (unless_test_code next) (test_size next) rest (from + size) a

    -- jumps if all of the conditions hold
    pub if_all_code : Conj → (from a : ℕ) → List Instr
    if_all_code (AllOf first rest) from a = if_each_code (unless_test_code first) (if_test_code first) (test_size first) rest from (from + (test_size first + tests_size rest)) a

    -- jumps if the first and all of the rest hold; `to` is the end of the whole
    pub if_each_code : (unless_first if_first : ℕ → ℕ → List Instr) → (size : ℕ) → Tests → (from to a : ℕ) → List Instr
    if_each_code unless_first if_first size NoTests from to a = if_first from a
    if_each_code unless_first if_first size (MoreTests next rest) from to a =
        unless_first from to ++ if_each_code (unless_test_code next) (if_test_code next) (test_size next) rest (from + size) to a

    -- jumps unless the test holds; NOT exchanges the two forms
    pub unless_test_code : Test → (from a : ℕ) → List Instr
    unless_test_code (Not t) from a = if_test_code t from a
    unless_test_code (CondGroup c) from a = unless_code c from a
    unless_test_code (Compare x rel y) from a = fork_code x rel y (instr.Jump (jump.JumpFalse a))

    -- jumps if the test holds
    pub if_test_code : Test → (from a : ℕ) → List Instr
    if_test_code (Not t) from a = unless_test_code t from a
    if_test_code (CondGroup c) from a = if_code c from a
    if_test_code (Compare x rel y) from a = fork_code x rel y (instr.Jump (jump.JumpTrue a))

  -- jumps to a if the loop ends
  abbrev pub loopc_code : Option Loopc → (from a : ℕ) → List Instr
  loopc_code None from a = []
  loopc_code (Some (While c)) from a = unless_code c from a
  loopc_code (Some (Until c)) from a = if_code c from a

  -- LET of one target
  abbrev pub let_code : List tree.Target → Expr → List Instr
  let_code (Variable name subscripts ∷ targets) e = instr.Push (push.Ref (own_place order (OfName name))) ∷ (expr_code e ++ (instr.Store (store.Store 1) ∷ []))
  let_code [] e = []

  -- PRINT of one expression, or of none
  abbrev pub print_code : Option Pitem → List Instr
  print_code (Some (Printed e)) = expr_code e ++ (instr.Print (print.PrintNum TERMINAL) ∷ (instr.Print (print.PrintEnd TERMINAL) ∷ []))
  print_code _ = instr.Print (print.PrintEnd TERMINAL) ∷ []

  module _ (addr : Target → ℕ) where
    -- a jump to the end of the innermost DO; outside of any DO there is no EXIT DO
    abbrev pub exit_code : Option ℕ → List Instr
    exit_code None = instr.Jump (jump.Jump 0) ∷ []
    exit_code (Some l) = instr.Jump (jump.Jump (addr (EndOf l))) ∷ []

    -- a statement
    abbrev pub plain_code : Around → Plain → List Instr
    plain_code around (Let targets e) = let_code targets e
    plain_code around (Print list) = print_code list.first
    plain_code around (Goto l) = instr.Jump (jump.Jump (addr (LineOf l))) ∷ []
    plain_code around ExitDo = exit_code around.do_line
    plain_code around _ = []

    -- a line alone
    abbrev pub single_code : Around → (l : ℕ) → LineItem → List Instr
    single_code around l Nothing = instr.Mark l ∷ []
    single_code around l (Rem bytes) = instr.Mark l ∷ []
    single_code around l (OfSimple (Alone plain)) = instr.Mark l ∷ plain_code around plain
    single_code around l _ = []

    -- a line that closes a block, without the jump back of LOOP
    abbrev pub closing_code : (opener l : ℕ) → LineItem → (from : ℕ) → List Instr
    closing_code opener l (OfPart (Loop loopc)) from = instr.Mark l ∷ loopc_code loopc (suc from) (addr (EndOf opener))
    closing_code opener l (OfPart End) from = instr.Mark l ∷ (instr.Run run.End ∷ [])
    closing_code opener l _ from = []

    -- the jump after a part of a block IF
    abbrev pub part_end_code : Bool → (finish : ℕ) → List Instr
    part_end_code true finish = []
    part_end_code false finish = instr.Jump (jump.Jump finish) ∷ []

    -- a section, from the codes of its block and of the sections after it; `finish` is the end of the construct
    abbrev pub if_section_code : (l : ℕ) → Cond → (final : Bool) → (size : ℕ) → (block rest : ℕ → List Instr) → (from finish : ℕ) → List Instr
    if_section_code l c final size block rest from finish =
        instr.Mark l ∷ (unless_code c (suc from) (suc from + (cond_size c + (size + part_end_size final)))
        ++ (block (suc from + cond_size c) ++ (part_end_code final finish ++ rest (suc from + (cond_size c + (size + part_end_size final))))))

    -- DO, its block, the LOOP line and the jump back
    abbrev pub do_section_code : (l : ℕ) → Option Loopc → (close : NumLine) → (size : ℕ) → (block : ℕ → List Instr) → (from finish : ℕ) → List Instr
    do_section_code l loopc close size block from finish =
        instr.Mark l ∷ (loopc_code loopc (suc from) finish
        ++ (block (suc from + loopc_size loopc) ++ (closing_code l close.line close.item (suc from + (loopc_size loopc + size)) ++ (instr.Jump (jump.Jump from) ∷ []))))

    -- a section, by its line
    abbrev pub section_code : Around → (l : ℕ) → LineItem → (close : NumLine) → (final : Bool) → (size : ℕ) → (block : Around → ℕ → List Instr) → (rest : ℕ → List Instr) → (from finish : ℕ) → List Instr
    section_code around l (OfPart (If c)) close final size block rest from finish = if_section_code l c final size (block around) rest from finish
    section_code around l (OfPart (Elseif c)) close final size block rest from finish = if_section_code l c final size (block around) rest from finish
    section_code around l (OfPart Else) close final size block rest from finish = block around from
    section_code around l (OfPart (Do loopc)) close final size block rest from finish = do_section_code l loopc close size (block (in_do l around)) from finish
    section_code around l _ close final size block rest from finish = []

    abbrev mutual
      -- a statement of a block
      pub stmt_code : Around → Stmt → (from : ℕ) → List Instr
      stmt_code around (Single head) from = single_code around head.line head.item
      stmt_code around (Nest sections close) from = sections_code around sections close from (from + sections_size sections close)

      -- the sections of a construct from some of them on
      pub sections_code : Around → Sections → (close : NumLine) → (from finish : ℕ) → List Instr
      sections_code around NoSections close from finish = []
      sections_code around (MoreSections head body rest) close from finish =
          section_code around head.line head.item close (is_last rest) (block_size body)
          (λ inner from1. block_code inner body from1) (λ from1. sections_code around rest close from1 finish)
          from finish

      -- a block, without the line that closes it
      pub block_code : Around → Block → (from : ℕ) → List Instr
      block_code around NoStmts from = []
      block_code around (MoreStmts s rest) from = stmt_code around s from ++ block_code around rest (from + stmt_size s)

    -- a program: its block, and END
    abbrev pub program_code : Program → List Instr
    program_code p = block_code outermost p.body 0 ++ closing_code 0 p.close.line p.close.item (block_size p.body)
