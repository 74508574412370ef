-- Four units, written as trees, for the worked examples; no definition reads them.
use Rattle.std.specs.Prelude.{ℕ, ℤ, pos, true, false, List, [], ◌∷◌, Option, Some, None, codes, map, slice_get}
use Rattle.std.specs.Option.{option_map}
use Rattle.bas_ast.specs.Tree.{Add, Expr, Sum, Terms, NoTerms, MoreTerms, Term, Product, NoFactors, Power, NoPrimaries, Primary, Numeric, Named, Args, NoArgs, MoreArgs, Argument, Variable, NoExprs, Plain, Let, Call, Print, Printed, Alone, FormalName, FormalChan, Part, Sub, Function, ExternalSub, ExternalFunction, EndSub, EndFunction, Def, Handler, EndHandler, ProgramLine, End, ModuleLine, EndModule, Bound, DeclaredItem, NumericKind, StringKind, FunctionKind, Decl, OptionBaseZero, OptionArithmeticFixed, Dim, Declare, Public, Share, DeclarePublic, DeclareExternal, Data, LineItem, OfSimple, OfPart, OfDecl, NumLine, Stmt, Single, Nest, NoSections, MoreSections, Block, NoStmts, MoreStmts, SourceUnit, ProgramUnit, ProcedureUnit, ModuleUnit}
use Rattle.bas_dec.specs.declared.types.NumType.{NumType}
use Rattle.bas_dec.specs.declared.types.NumType.TheVariants.{Fix}
use Rattle.bas_face.specs.declared.shape.Shape.{Shape}
use Rattle.bas_scope.specs.Shapes.{unbounded, three}
use Rattle.bas_scope.specs.Scope.{Home, Meaning, stands_for, called_by}
use Rattle.bas_scope.specs.Scope as scope
use Rattle.bas_scope.specs.Bodies.{bodies_of, families_of, variables_of, handlers_of, formals_of, value_of}

-- a whole number
abbrev pub whole : ℕ → Primary
whole n = Numeric (record { value = record { coefficient = pos n; scale = 0 }; digits = true })

abbrev pub bare : List ℕ → Primary
bare name = Named name NoArgs

abbrev pub term_of : Primary → Term
term_of p = Product (Power p NoPrimaries) NoFactors

abbrev pub plus : List Primary → Terms
plus [] = NoTerms
plus (p ∷ ps) = MoreTerms Add (term_of p) (plus ps)

-- a sum of operands
abbrev pub sum_of : Primary → List Primary → Expr
sum_of p ps = Sum None (term_of p) (plus ps)

abbrev pub args_of : List Primary → Args
args_of [] = NoArgs
args_of (p ∷ ps) = MoreArgs (Argument (sum_of p [])) (args_of ps)

-- a call or an element
abbrev pub applied : List ℕ → List Primary → Primary
applied name ps = Named name (args_of ps)

abbrev pub line_at : ℕ → LineItem → NumLine
line_at l item = record { line = l; item = item }

abbrev pub does : ℕ → Plain → Stmt
does l plain = Single (line_at l (OfSimple (Alone plain)))

abbrev pub declares_at : ℕ → Decl → Stmt
declares_at l decl = Single (line_at l (OfDecl decl))

abbrev pub sets : ℕ → List ℕ → Expr → Stmt
sets l name e = does l (Let (Variable name NoExprs ∷ []) e)

abbrev pub block_of : List Stmt → Block
block_of [] = NoStmts
block_of (s ∷ ss) = MoreStmts s (block_of ss)

abbrev pub nest : ℕ → Part → List Stmt → ℕ → Part → Stmt
nest l head stmts last close = Nest (MoreSections (line_at l (OfPart head)) (block_of stmts) NoSections) (line_at last (OfPart close))

abbrev pub plain_item : List ℕ → DeclaredItem
plain_item name = record { name = name; bounds = []; spec = None }

abbrev pub typed : ℕ → ℕ → DeclaredItem → DeclaredItem
typed m n item = record item { spec = Some (record { whole = m; fraction = Some n }) }

abbrev pub up_to : ℕ → Bound
up_to n = record { low = None; high = pos n }

abbrev pub from_to : ℕ → ℕ → Bound
from_to m n = record { low = Some (pos m); high = pos n }

-- `10 PROGRAM P(X, A$)`, `20 OPTION ARITHMETIC FIXED*8.2`, `30 OPTION BASE 0`, `40 DECLARE NUMERIC X, T*4.1`,
-- `50 DIM M(3, 2 TO 4), B$(2)*10`, `60 LET N = X + RND`, `70 PRINT M(1, 2)`, `80 END`
abbrev pub typed_program : SourceUnit
typed_program = ProgramUnit (record {
  name = codes "P";
  head = Some (line_at 10 (OfPart (ProgramLine (codes "P") (FormalName (codes "X") 0 ∷ FormalName (codes "A$") 0 ∷ []))));
  body = block_of (
      declares_at 20 (OptionArithmeticFixed (record { whole = 8; fraction = Some 2 }))
      ∷ declares_at 30 OptionBaseZero
      ∷ declares_at 40 (Declare NumericKind (plain_item (codes "X") ∷ typed 4 1 (plain_item (codes "T")) ∷ []))
      ∷ declares_at 50 (Dim (record (plain_item (codes "M")) { bounds = up_to 3 ∷ from_to 2 4 ∷ [] }
      ∷ (record { name = codes "B$"; bounds = up_to 2 ∷ []; spec = Some (record { whole = 10; fraction = None }) }) ∷ []))
      ∷ sets 60 (codes "N") (sum_of (bare (codes "X")) (bare (codes "RND") ∷ []))
      ∷ does 70 (Print (record { first = Some (Printed (sum_of (applied (codes "M") (whole 1 ∷ whole 2 ∷ [])) [])); rest = [] }))
      ∷ []);
  close = line_at 80 (OfPart End);
})

-- `10 DIM A(3)`, `20 LET T = F(2) + S`, `30 CALL P(T)`, `40 DEF F(X) = X + K`, `50 SUB P(Q, #1)`,
-- `60 DECLARE NUMERIC Q*5.2`, `70 LET W = Q + T`, `80 END SUB`, `90 FUNCTION G(A)`, `100 LET G = A`,
-- `110 END FUNCTION`, `120 HANDLER H`, `130 END HANDLER`, `140 DATA 1, "x"`, `150 END`
abbrev pub nested_program : SourceUnit
nested_program = ProgramUnit (record {
  name = codes "MAIN";
  head = None;
  body = block_of (
      declares_at 10 (Dim (record (plain_item (codes "A")) { bounds = up_to 3 ∷ [] } ∷ []))
      ∷ sets 20 (codes "T") (sum_of (applied (codes "F") (whole 2 ∷ [])) (bare (codes "S") ∷ []))
      ∷ does 30 (Call (codes "P") (args_of (bare (codes "T") ∷ [])))
      ∷ Single (line_at 40 (OfPart (Def (codes "F") (FormalName (codes "X") 0 ∷ []) (sum_of (bare (codes "X")) (bare (codes "K") ∷ [])))))
      ∷ nest 50 (Sub (codes "P") (FormalName (codes "Q") 0 ∷ FormalChan 1 ∷ []))
      (declares_at 60 (Declare NumericKind (typed 5 2 (plain_item (codes "Q")) ∷ []))
      ∷ sets 70 (codes "W") (sum_of (bare (codes "Q")) (bare (codes "T") ∷ [])) ∷ [])
      80 EndSub
      ∷ nest 90 (Function (codes "G") (FormalName (codes "A") 0 ∷ [])) (sets 100 (codes "G") (sum_of (bare (codes "A")) []) ∷ []) 110 EndFunction
      ∷ nest 120 (Handler (codes "H")) [] 130 EndHandler
      ∷ declares_at 140 (Data (record { quoted = false; text = codes "1" } ∷ record { quoted = true; text = codes "x" } ∷ []))
      ∷ []);
  close = line_at 150 (OfPart End);
})

-- `10 EXTERNAL FUNCTION F(X, B())`, `20 DECLARE EXTERNAL FUNCTION G`, `30 DECLARE PUBLIC NUMERIC R*4.2`,
-- `40 LET F = G(X) + F + R`, `50 END FUNCTION`
abbrev pub lone_function : SourceUnit
lone_function = ProcedureUnit (record {
  head = line_at 10 (OfPart (ExternalFunction (codes "F") (FormalName (codes "X") 0 ∷ FormalName (codes "B") 1 ∷ [])));
  body = block_of (
      declares_at 20 (DeclareExternal FunctionKind (codes "G" ∷ []))
      ∷ declares_at 30 (DeclarePublic NumericKind (typed 4 2 (plain_item (codes "R")) ∷ []))
      ∷ sets 40 (codes "F") (sum_of (applied (codes "G") (bare (codes "X") ∷ [])) (bare (codes "F") ∷ bare (codes "R") ∷ []))
      ∷ []);
  close = line_at 50 (OfPart EndFunction);
})

-- `10 MODULE M`, `20 SHARE STRING N$(2)`, `30 PUBLIC NUMERIC R*4.2`, `40 LET I = 1`, `50 EXTERNAL SUB Q(A)`,
-- `60 DECLARE NUMERIC R`, `70 LET A = H(1) + I`, `80 END SUB`, `90 EXTERNAL FUNCTION H(X)`, `100 CALL Q(R)`,
-- `110 END FUNCTION`, `120 END MODULE`
abbrev pub small_module : SourceUnit
small_module = ModuleUnit (record {
  head = line_at 10 (OfPart (ModuleLine (codes "M")));
  initial = block_of (
      declares_at 20 (Share StringKind (record (plain_item (codes "N$")) { bounds = up_to 2 ∷ [] } ∷ []))
      ∷ declares_at 30 (Public NumericKind (typed 4 2 (plain_item (codes "R")) ∷ []))
      ∷ sets 40 (codes "I") (sum_of (whole 1) []) ∷ []);
  procs =
      (record {
        head = line_at 50 (OfPart (ExternalSub (codes "Q") (FormalName (codes "A") 0 ∷ [])));
        body = block_of (
            declares_at 60 (Declare NumericKind (plain_item (codes "R") ∷ []))
            ∷ sets 70 (codes "A") (sum_of (applied (codes "H") (whole 1 ∷ [])) (bare (codes "I") ∷ [])) ∷ []);
        close = line_at 80 (OfPart EndSub);
      })
      ∷ (record {
        head = line_at 90 (OfPart (ExternalFunction (codes "H") (FormalName (codes "X") 0 ∷ [])));
        body = block_of (does 100 (Call (codes "Q") (args_of (bare (codes "R") ∷ []))) ∷ []);
        close = line_at 110 (OfPart EndFunction);
      })
      ∷ [];
  close = line_at 120 (OfPart EndModule);
})

-- what a name stands for in the k-th body of a unit, counted from 0
abbrev pub stands_in : SourceUnit → (k : ℕ) → List ℕ → Option Meaning
stands_in unit k name = option_map (λ body. stands_for body.scope name) (slice_get (bodies_of unit) k)

-- what CALL of a name calls there
abbrev pub called_in : SourceUnit → (k : ℕ) → List ℕ → Option Meaning
called_in unit k name = option_map (λ body. called_by body.scope name) (slice_get (bodies_of unit) k)

-- the names of the variables with which an invocation of the k-th container begins
abbrev pub variables_in : SourceUnit → (k : ℕ) → Option (List (List ℕ))
variables_in unit k = option_map (λ family. map (λ x. x.0) (variables_of family)) (slice_get (families_of unit) k)

-- the formals of the k-th body, and its value
abbrev pub formals_in : SourceUnit → (k : ℕ) → Option (List Shape)
formals_in unit k = option_map formals_of (slice_get (bodies_of unit) k)

abbrev pub value_in : SourceUnit → (k : ℕ) → Option (Option Shape)
value_in unit k = option_map value_of (slice_get (bodies_of unit) k)

-- the handlers of the k-th body
abbrev pub handlers_in : SourceUnit → (k : ℕ) → Option (List (List ℕ))
handlers_in unit k = option_map handlers_of (slice_get (bodies_of unit) k)

-- `*m.n`
abbrev pub digits : ℕ → ℕ → NumType
digits m n = Fix (record { whole = m; places = n })

-- a scalar or a formal, and an array of such bounds
abbrev pub scalar : Home → Shape → Option Meaning
scalar home shape = Some (scope.Variable home (unbounded shape))

abbrev pub array : Home → Shape → List (ℤ × ℤ) → Option Meaning
array home shape bounds = Some (scope.Variable home (record { shape = shape; bounds = three bounds }))
