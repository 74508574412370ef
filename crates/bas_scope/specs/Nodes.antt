-- Every expression, operand and target that stands on a line, in the order of the text; one that
-- contains others comes before them, and CALL before its arguments. A name that is an argument by itself is
-- passed whole, as arrays are.
use Rattle.std.specs.Prelude.{ℕ, List, [], ◌∷◌, ◌++◌, Option, Some, None}
use Rattle.bas_ast.specs.Tree.{Expr, Sum, Terms, NoTerms, MoreTerms, Term, Product, Factors, NoFactors, MoreFactors, Factor, Power, Primaries, NoPrimaries, MorePrimaries, Primary, Numeric, Quoted, Group, Named, Substring, Args, NoArgs, MoreArgs, Actual, Argument, ChanArgument, Target, Variable, Exprs, NoExprs, MoreExprs, Cond, AnyOf, Conjs, NoConjs, MoreConjs, Conj, AllOf, Tests, NoTests, MoreTests, Test, Not, CondGroup, Compare, Chan, Pitem, Printed, Tab, Plist, Setter, ToBegin, ToEnd, ToNext, ToSame, ToRecord, ToKey, ToKeyAtLeast, ToKeyAbove, Plain, Let, Print, PrintChan, PrintUsing, Input, LineInput, InputChan, LineInputChan, Read, Call, CauseException, Chain, Open, Close, SetPointer, ReadChan, Write, Rewrite, Delete, Branch, ToLine, Does, Simple, Alone, IfThen, OnGoto, OnGosub, Loopc, While, Until, Part, If, Elseif, For, Do, Loop, SelectCase, LineItem, OfSimple, OfPart}
use Rattle.bas_ast.specs.Accessors.{lone_primary}
use Rattle.bas_scope.specs.Lines.{gathered}

-- an expression, an operand, a target, a relation or a CALL
pub data Node : Type 0 where
  OfExpr : (expr : Expr) → Node
  OfTerm : (term : Term) → Node
  OfFactor : (factor : Factor) → Node
  OfPrimary : (primary : Primary) → Node
  OfTarget : (target : Target) → Node
  OfTest : (test : Test) → Node
  OfWhole : (primary : Primary) → Node
  OfCall : (name : List ℕ) (args : Args) → Node

-- what a function gives of what is there
abbrev pub where_there : {X Y : Type 0} → (X → List Y) → Option X → List Y
where_there f None = []
where_there f (Some x) = f x

-- a name by itself as a node, else other nodes
abbrev pub whole_or : Option Primary → List Node → List Node
whole_or (Some (Named name NoArgs)) others = OfWhole (Named name NoArgs) ∷ []
whole_or _ others = others

abbrev mutual
  pub expr_nodes : Expr → List Node
  expr_nodes (Sum sign first rest) = OfExpr (Sum sign first rest) ∷ (term_nodes first ++ terms_nodes rest)

  pub terms_nodes : Terms → List Node
  terms_nodes NoTerms = []
  terms_nodes (MoreTerms sign term rest) = term_nodes term ++ terms_nodes rest

  pub term_nodes : Term → List Node
  term_nodes (Product first rest) = OfTerm (Product first rest) ∷ (factor_nodes first ++ factors_nodes rest)

  pub factors_nodes : Factors → List Node
  factors_nodes NoFactors = []
  factors_nodes (MoreFactors sign factor rest) = factor_nodes factor ++ factors_nodes rest

  pub factor_nodes : Factor → List Node
  factor_nodes (Power base exponents) = OfFactor (Power base exponents) ∷ (primary_nodes base ++ primaries_nodes exponents)

  pub primaries_nodes : Primaries → List Node
  primaries_nodes NoPrimaries = []
  primaries_nodes (MorePrimaries primary rest) = primary_nodes primary ++ primaries_nodes rest

  pub primary_nodes : Primary → List Node
  primary_nodes (Numeric numeral) = OfPrimary (Numeric numeral) ∷ []
  primary_nodes (Quoted text) = OfPrimary (Quoted text) ∷ []
  primary_nodes (Group expr) = OfPrimary (Group expr) ∷ expr_nodes expr
  primary_nodes (Named name args) = OfPrimary (Named name args) ∷ args_nodes args
  primary_nodes (Substring target first last) =
      OfPrimary (Substring target first last) ∷ (target_nodes target ++ (expr_nodes first ++ expr_nodes last))

  pub args_nodes : Args → List Node
  args_nodes NoArgs = []
  args_nodes (MoreArgs actual rest) = actual_nodes actual ++ args_nodes rest

  pub actual_nodes : Actual → List Node
  actual_nodes (Argument expr) = whole_or (lone_primary expr) (expr_nodes expr)
  actual_nodes (ChanArgument number) = expr_nodes number

  pub target_nodes : Target → List Node
  target_nodes (Variable name subscripts) = OfTarget (Variable name subscripts) ∷ exprs_nodes subscripts

  pub exprs_nodes : Exprs → List Node
  exprs_nodes NoExprs = []
  exprs_nodes (MoreExprs expr rest) = expr_nodes expr ++ exprs_nodes rest

abbrev mutual
  pub cond_nodes : Cond → List Node
  cond_nodes (AnyOf first rest) = conj_nodes first ++ conjs_nodes rest

  pub conjs_nodes : Conjs → List Node
  conjs_nodes NoConjs = []
  conjs_nodes (MoreConjs conj rest) = conj_nodes conj ++ conjs_nodes rest

  pub conj_nodes : Conj → List Node
  conj_nodes (AllOf first rest) = test_nodes first ++ tests_nodes rest

  pub tests_nodes : Tests → List Node
  tests_nodes NoTests = []
  tests_nodes (MoreTests test rest) = test_nodes test ++ tests_nodes rest

  pub test_nodes : Test → List Node
  test_nodes (Not test) = test_nodes test
  test_nodes (CondGroup cond) = cond_nodes cond
  test_nodes (Compare left rel right) = OfTest (Compare left rel right) ∷ (expr_nodes left ++ expr_nodes right)

-- the nodes of targets, and of expressions in a row
abbrev pub targets_nodes : List Target → List Node
targets_nodes = gathered target_nodes

-- the nodes of expressions in a row
abbrev pub values_nodes : List Expr → List Node
values_nodes = gathered expr_nodes

-- the nodes of a channel
abbrev pub chan_nodes : Chan → List Node
chan_nodes chan = expr_nodes chan.number

-- the nodes of an item of a print list
abbrev pub pitem_nodes : Pitem → List Node
pitem_nodes (Printed expr) = expr_nodes expr
pitem_nodes (Tab column) = expr_nodes column

-- the nodes of a print list
abbrev pub plist_nodes : Plist → List Node
plist_nodes list = where_there pitem_nodes list.first ++ gathered (λ x. where_there pitem_nodes x.1) list.rest

-- the nodes of a setter
abbrev pub setter_nodes : Setter → List Node
setter_nodes ToBegin = []
setter_nodes ToEnd = []
setter_nodes ToNext = []
setter_nodes ToSame = []
setter_nodes (ToRecord number) = expr_nodes number
setter_nodes (ToKey key) = expr_nodes key
setter_nodes (ToKeyAtLeast key) = expr_nodes key
setter_nodes (ToKeyAbove key) = expr_nodes key

-- the nodes of a statement; the statements that are not listed have none
abbrev pub plain_nodes : Plain → List Node
plain_nodes (Let targets value) = targets_nodes targets ++ expr_nodes value
plain_nodes (Print list) = plist_nodes list
plain_nodes (PrintChan chan list) = chan_nodes chan ++ where_there plist_nodes list
plain_nodes (PrintUsing chan format first rest semicolon) =
    where_there chan_nodes chan ++ (expr_nodes format ++ (expr_nodes first ++ gathered (λ x. expr_nodes x.1) rest))
plain_nodes (Input prompt targets) = where_there expr_nodes prompt ++ targets_nodes targets
plain_nodes (LineInput prompt targets) = where_there expr_nodes prompt ++ targets_nodes targets
plain_nodes (InputChan chan miss targets) = chan_nodes chan ++ targets_nodes targets
plain_nodes (LineInputChan chan miss targets) = chan_nodes chan ++ targets_nodes targets
plain_nodes (Read targets) = targets_nodes targets
plain_nodes (Call name args) = OfCall name args ∷ args_nodes args
plain_nodes (CauseException number) = expr_nodes number
plain_nodes (Chain program values) = expr_nodes program ++ values_nodes values
plain_nodes (Open chan name attrs) = chan_nodes chan ++ expr_nodes name
plain_nodes (Close chan) = chan_nodes chan
plain_nodes (SetPointer chan setter) = chan_nodes chan ++ setter_nodes setter
plain_nodes (ReadChan chan setter miss targets) = chan_nodes chan ++ (where_there setter_nodes setter ++ targets_nodes targets)
plain_nodes (Write chan setter miss values) = chan_nodes chan ++ (where_there setter_nodes setter ++ values_nodes values)
plain_nodes (Rewrite chan setter miss values) = chan_nodes chan ++ (where_there setter_nodes setter ++ values_nodes values)
plain_nodes (Delete chan setter miss) = chan_nodes chan ++ where_there setter_nodes setter
plain_nodes _ = []

-- the nodes of a branch of IF
abbrev pub branch_nodes : Branch → List Node
branch_nodes (ToLine line) = []
branch_nodes (Does plain) = plain_nodes plain

-- the nodes of what stands on a line of its own
abbrev pub simple_nodes : Simple → List Node
simple_nodes (Alone plain) = plain_nodes plain
simple_nodes (IfThen cond then_part else_part) = cond_nodes cond ++ (branch_nodes then_part ++ where_there branch_nodes else_part)
simple_nodes (OnGoto index lines else_part) = expr_nodes index ++ where_there plain_nodes else_part
simple_nodes (OnGosub index lines else_part) = expr_nodes index ++ where_there plain_nodes else_part

-- the nodes of the condition of a loop
abbrev pub loopc_nodes : Loopc → List Node
loopc_nodes (While cond) = cond_nodes cond
loopc_nodes (Until cond) = cond_nodes cond

-- the nodes of a line of a construct; the lines that are not listed have none, nor has DEF, whose value
-- stands in a body of its own
abbrev pub part_nodes : Part → List Node
part_nodes (If cond) = cond_nodes cond
part_nodes (Elseif cond) = cond_nodes cond
part_nodes (For name start limit step) = expr_nodes start ++ (expr_nodes limit ++ where_there expr_nodes step)
part_nodes (Do loopc) = where_there loopc_nodes loopc
part_nodes (Loop loopc) = where_there loopc_nodes loopc
part_nodes (SelectCase selector) = expr_nodes selector
part_nodes _ = []

-- every node of a line
abbrev pub item_nodes : LineItem → List Node
item_nodes (OfSimple simple) = simple_nodes simple
item_nodes (OfPart part) = part_nodes part
item_nodes _ = []
