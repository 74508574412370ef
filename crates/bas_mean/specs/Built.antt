-- Which programs have built constructs alone. Nothing is claimed of the others.
use Rattle.std.specs.Prelude.{ℕ, Bool, true, false, not, ◌&&◌, List, [], ◌∷◌, Option, Some, None, nat_eq}
use Rattle.std.specs.List.{ends_with}
use Rattle.bas_ast.specs.Supplied.{supplied_names, is_among}
use Rattle.bas_ast.specs.Tree.{TermSign, Add, Subtract, Join, Expr, Sum, Terms, NoTerms, MoreTerms, Term, Product, Factors, NoFactors, MoreFactors, Factor, Power, Primaries, NoPrimaries, MorePrimaries, Primary, Numeric, Group, Named, Args, NoArgs, MoreArgs, Cond, AnyOf, Conjs, NoConjs, MoreConjs, Conj, AllOf, Tests, NoTests, MoreTests, Test, Not, CondGroup, Compare, Target, Variable, NoExprs, Sep, Pitem, Printed, Plain, Let, Print, Goto, ExitDo, Alone, Loopc, While, Until, If, Elseif, Else, EndIf, Do, Loop, ProgramLine, End, LineItem, Nothing, Rem, OfSimple, OfPart, NumLine, Stmt, Single, Nest, Sections, NoSections, MoreSections, Block, NoStmts, MoreStmts, SourceUnit, ProgramUnit}

-- a numeric variable's name: it has no `$` and is no supplied function's
unfoldable pub is_numeric_name : List ℕ → Bool
is_numeric_name name = not (ends_with nat_eq name (36 ∷ [])) && not (is_among name supplied_names)

-- a variable without arguments
abbrev pub is_built_name : List ℕ → Args → Bool
is_built_name name NoArgs = is_numeric_name name
is_built_name name (MoreArgs a rest) = false

-- sums and differences are built, joining of strings is not
abbrev pub is_built_sign : TermSign → Bool
is_built_sign Add = true
is_built_sign Subtract = true
is_built_sign Join = false

abbrev mutual
  -- numbers, variables, parentheses and the five operators
  pub is_built_expr : Expr → Bool
  is_built_expr (Sum sign first rest) = is_built_term first && are_built_terms rest

  -- the terms behind the first
  pub are_built_terms : Terms → Bool
  are_built_terms NoTerms = true
  are_built_terms (MoreTerms sign t rest) = is_built_sign sign && (is_built_term t && are_built_terms rest)

  -- a product
  pub is_built_term : Term → Bool
  is_built_term (Product first rest) = is_built_factor first && are_built_factors rest

  -- the factors behind the first
  pub are_built_factors : Factors → Bool
  are_built_factors NoFactors = true
  are_built_factors (MoreFactors sign f rest) = is_built_factor f && are_built_factors rest

  -- a power
  pub is_built_factor : Factor → Bool
  is_built_factor (Power base exponents) = is_built_primary base && are_built_primaries exponents

  -- the exponents
  pub are_built_primaries : Primaries → Bool
  are_built_primaries NoPrimaries = true
  are_built_primaries (MorePrimaries p rest) = is_built_primary p && are_built_primaries rest

  -- a numeral, a variable, or an expression in parentheses
  pub is_built_primary : Primary → Bool
  is_built_primary (Numeric numeral) = true
  is_built_primary (Group e) = is_built_expr e
  is_built_primary (Named name args) = is_built_name name args
  is_built_primary _ = false

abbrev mutual
  -- relations of built expressions, joined by OR, AND and NOT
  pub is_built_cond : Cond → Bool
  is_built_cond (AnyOf first rest) = is_built_conj first && are_built_conjs rest

  -- the conditions behind the first OR
  pub are_built_conjs : Conjs → Bool
  are_built_conjs NoConjs = true
  are_built_conjs (MoreConjs c rest) = is_built_conj c && are_built_conjs rest

  -- conditions joined by AND
  pub is_built_conj : Conj → Bool
  is_built_conj (AllOf first rest) = is_built_test first && are_built_tests rest

  -- the conditions behind the first AND
  pub are_built_tests : Tests → Bool
  are_built_tests NoTests = true
  are_built_tests (MoreTests t rest) = is_built_test t && are_built_tests rest

  -- a negation, a condition in parentheses, or a relation
  pub is_built_test : Test → Bool
  is_built_test (Not t) = is_built_test t
  is_built_test (CondGroup c) = is_built_cond c
  is_built_test (Compare a rel b) = is_built_expr a && is_built_expr b

-- one scalar numeric target
abbrev pub are_built_targets : List Target → Bool
are_built_targets (Variable name NoExprs ∷ []) = is_numeric_name name
are_built_targets _ = false

-- a print list of one expression, or an empty one
abbrev pub is_built_list : Option Pitem → List (Sep × Option Pitem) → Bool
is_built_list None [] = true
is_built_list (Some (Printed e)) [] = is_built_expr e
is_built_list _ _ = false

-- LET, PRINT, GOTO and EXIT DO
abbrev pub is_built_plain : Plain → Bool
is_built_plain (Let targets e) = are_built_targets targets && is_built_expr e
is_built_plain (Print list) = is_built_list list.first list.rest
is_built_plain (Goto l) = true
is_built_plain ExitDo = true
is_built_plain _ = false

-- WHILE, UNTIL or neither
abbrev pub is_built_loopc : Option Loopc → Bool
is_built_loopc None = true
is_built_loopc (Some (While c)) = is_built_cond c
is_built_loopc (Some (Until c)) = is_built_cond c

-- END IF
abbrev pub is_end_if : LineItem → Bool
is_end_if (OfPart EndIf) = true
is_end_if _ = false

-- a line that stands alone: a remark, an empty line, or a statement
abbrev pub is_built_single : LineItem → Bool
is_built_single Nothing = true
is_built_single (Rem bytes) = true
is_built_single (OfSimple (Alone plain)) = is_built_plain plain
is_built_single _ = false

-- LOOP, which closes a DO
abbrev pub is_built_loop : LineItem → Bool
is_built_loop (OfPart (Loop loopc)) = is_built_loopc loopc
is_built_loop _ = false

-- the line of a section, with the line that closes its construct
abbrev pub is_built_section : LineItem → (close : LineItem) → Bool
is_built_section (OfPart (If c)) close = is_built_cond c && is_end_if close
is_built_section (OfPart (Elseif c)) close = is_built_cond c && is_end_if close
is_built_section (OfPart Else) close = is_end_if close
is_built_section (OfPart (Do loopc)) close = is_built_loopc loopc && is_built_loop close
is_built_section _ close = false

abbrev mutual
  -- a line alone, or a construct with its sections
  pub is_built_stmt : Stmt → Bool
  is_built_stmt (Single head) = is_built_single head.item
  is_built_stmt (Nest sections close) = are_built_sections sections close

  -- the sections of a construct, with the line that closes it
  pub are_built_sections : Sections → (close : NumLine) → Bool
  are_built_sections NoSections close = true
  are_built_sections (MoreSections head body rest) close =
      is_built_section head.item close.item && (is_built_block body && are_built_sections rest close)

  -- every statement of a block
  pub is_built_block : Block → Bool
  is_built_block NoStmts = true
  is_built_block (MoreStmts s rest) = is_built_stmt s && is_built_block rest

-- END of a program
abbrev pub is_end : LineItem → Bool
is_end (OfPart End) = true
is_end _ = false

-- PROGRAM without formals
abbrev pub is_built_program_line : LineItem → Bool
is_built_program_line (OfPart (ProgramLine name [])) = true
is_built_program_line _ = false

-- the PROGRAM line, where it is written
abbrev pub is_built_program_head : Option NumLine → Bool
is_built_program_head None = true
is_built_program_head (Some head) = is_built_program_line head.item

-- a program
abbrev pub is_built_unit : SourceUnit → Bool
is_built_unit (ProgramUnit p) = is_built_program_head p.head && (is_built_block p.body && is_end p.close.item)
is_built_unit _ = false

-- one program; its constructs are closed by their own lines
abbrev pub are_built : List SourceUnit → Bool
are_built (u ∷ []) = is_built_unit u
are_built _ = false
