-- The numbering of a program's slots: its variables in the order in which they stand in the text.
use Rattle.std.specs.Prelude.{ℕ, suc, Bool, true, false, List, [], ◌∷◌, ◌++◌, Option, Some, None}
use Rattle.bas_ast.specs.Tree.{Expr, Sum, Terms, NoTerms, MoreTerms, Term, Product, Factors, NoFactors, MoreFactors, Factor, Power, Primaries, NoPrimaries, MorePrimaries, Primary, Group, Named, Cond, AnyOf, Conjs, NoConjs, MoreConjs, Conj, AllOf, Tests, NoTests, MoreTests, Test, Not, CondGroup, Compare, Target, Variable, Pitem, Printed, Plain, Let, Print, Alone, Loopc, While, Until, If, Elseif, Do, Loop, LineItem, OfSimple, OfPart, Stmt, Single, Nest, Sections, NoSections, MoreSections, Block, NoStmts, MoreStmts, Program}
use Rattle.bas_mean.specs.World.{OfName, same_variable}
use Rattle.bas_mean.specs.World as world

-- the variables of an expression, from left to right
abbrev mutual
  pub in_expr : Expr → List world.Variable
  in_expr (Sum sign first rest) = in_term first ++ in_terms rest

  -- the terms behind the first
  pub in_terms : Terms → List world.Variable
  in_terms NoTerms = []
  in_terms (MoreTerms sign next rest) = in_term next ++ in_terms rest

  -- a term
  pub in_term : Term → List world.Variable
  in_term (Product first rest) = in_factor first ++ in_factors rest

  -- the factors behind the first
  pub in_factors : Factors → List world.Variable
  in_factors NoFactors = []
  in_factors (MoreFactors sign next rest) = in_factor next ++ in_factors rest

  -- a factor
  pub in_factor : Factor → List world.Variable
  in_factor (Power base exponents) = in_primary base ++ in_primaries exponents

  -- the exponents
  pub in_primaries : Primaries → List world.Variable
  in_primaries NoPrimaries = []
  in_primaries (MorePrimaries next rest) = in_primary next ++ in_primaries rest

  -- a name is a variable
  pub in_primary : Primary → List world.Variable
  in_primary (Group e) = in_expr e
  in_primary (Named name args) = OfName name ∷ []
  in_primary _ = []

-- the variables of a condition
abbrev mutual
  pub in_cond : Cond → List world.Variable
  in_cond (AnyOf first rest) = in_conj first ++ in_conjs rest

  -- the conditions behind the first OR
  pub in_conjs : Conjs → List world.Variable
  in_conjs NoConjs = []
  in_conjs (MoreConjs next rest) = in_conj next ++ in_conjs rest

  -- conditions joined by AND
  pub in_conj : Conj → List world.Variable
  in_conj (AllOf first rest) = in_test first ++ in_tests rest

  -- the conditions behind the first AND
  pub in_tests : Tests → List world.Variable
  in_tests NoTests = []
  in_tests (MoreTests next rest) = in_test next ++ in_tests rest

  -- a negation, a condition in parentheses, or a relation
  pub in_test : Test → List world.Variable
  in_test (Not t) = in_test t
  in_test (CondGroup c) = in_cond c
  in_test (Compare a rel b) = in_expr a ++ in_expr b

-- the variables of WHILE or UNTIL
abbrev pub in_loopc : Option Loopc → List world.Variable
in_loopc None = []
in_loopc (Some (While c)) = in_cond c
in_loopc (Some (Until c)) = in_cond c

-- the targets of LET
abbrev pub in_targets : List Target → List world.Variable
in_targets [] = []
in_targets (Variable name subscripts ∷ targets) = OfName name ∷ in_targets targets

-- an item of a print list
abbrev pub in_item : Option Pitem → List world.Variable
in_item (Some (Printed e)) = in_expr e
in_item _ = []

-- a statement
abbrev pub in_plain : Plain → List world.Variable
in_plain (Let targets e) = in_targets targets ++ in_expr e
in_plain (Print list) = in_item list.first
in_plain _ = []

-- a line
abbrev pub in_line : LineItem → List world.Variable
in_line (OfSimple (Alone plain)) = in_plain plain
in_line (OfPart (If c)) = in_cond c
in_line (OfPart (Elseif c)) = in_cond c
in_line (OfPart (Do loopc)) = in_loopc loopc
in_line (OfPart (Loop loopc)) = in_loopc loopc
in_line _ = []

abbrev mutual
  -- a statement of a block, with the lines that it has inside
  pub in_stmt : Stmt → List world.Variable
  in_stmt (Single head) = in_line head.item
  in_stmt (Nest sections close) = in_sections sections ++ in_line close.item

  -- the sections of a construct
  pub in_sections : Sections → List world.Variable
  in_sections NoSections = []
  in_sections (MoreSections head body rest) = in_line head.item ++ (in_block body ++ in_sections rest)

  -- a block
  pub in_block : Block → List world.Variable
  in_block NoStmts = []
  in_block (MoreStmts s rest) = in_stmt s ++ in_block rest

-- the index of a variable in a list
abbrev pub index_if : Bool → Option ℕ → Option ℕ
index_if true o = Some 0
index_if false None = None
index_if false (Some k) = Some (suc k)

-- the index of a variable among others, the first such
abbrev pub index_of : List world.Variable → world.Variable → Option ℕ
index_of [] x = None
index_of (y ∷ ys) x = index_if (same_variable x y) (index_of ys x)

-- a list with a variable, which is put behind the others where it is not among them
abbrev pub with_variable : Option ℕ → List world.Variable → world.Variable → List world.Variable
with_variable (Some k) order x = order
with_variable None order x = order ++ x ∷ []

-- a list with the variables of another one
unfoldable pub with_variables : List world.Variable → List world.Variable → List world.Variable
with_variables order [] = order
with_variables order (x ∷ xs) = with_variables (with_variable (index_of order x) order x) xs

-- the variables of a program, each once: the number of a variable's slot is its index
abbrev pub slots_of : Program → List world.Variable
slots_of p = with_variables [] (in_block p.body)
