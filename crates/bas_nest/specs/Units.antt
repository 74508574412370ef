-- Which lines are which blocks, and which lines of a file are which units. Each tree has its lines in
-- their order; the remark lines that belong to no body are in no tree.
use Rattle.std.specs.Prelude.{◌≡◌, ℕ, suc, ◌<◌, Bool, true, false, List, [], ◌∷◌, ◌++◌, Option, Some, None, codes}
use Rattle.bas_ast.specs.Tree.{NumLine, Stmt, Single, Nest, Sections, NoSections, MoreSections, Block, NoStmts, MoreStmts, Program, Procedure, Module, SourceUnit, ProgramUnit, ProcedureUnit, ModuleUnit}
use Rattle.bas_nest.specs.Constructs.{role_of, program_name, opens, divides, closes, may_open, may_stand, inside, is_remark, closes_procedure}
use Rattle.bas_nest.specs.declared.TheConstants.{OPEN_BLOCKS}
use Rattle.bas_nest.specs.declared.construct.Construct.{Construct}
use Rattle.bas_nest.specs.declared.construct.Around.{Around}
use Rattle.bas_nest.specs.declared.construct.Around.TheVariants as stands
use Rattle.bas_nest.specs.declared.construct.Role.TheVariants as role

-- a line that is empty or holds a remark alone
abbrev pub IsRemark : NumLine → Type 0
IsRemark line = is_remark (role_of line.item) ≡ true

abbrev pub AreRemarks : List NumLine → Type 0
AreRemarks [] = Unit {0}
AreRemarks (line ∷ lines) = IsRemark line × AreRemarks lines

-- only remarks may follow SELECT CASE, and they are in no body
abbrev pub BodyIn : Around → (lines_are : Type 0) → Block → List NumLine → Type 0
BodyIn stands.Select lines_are body lines = (body ≡ NoStmts) × AreRemarks lines
BodyIn stands.Unit lines_are body lines = lines_are
BodyIn stands.Internal lines_are body lines = lines_are
BodyIn stands.Block lines_are body lines = lines_are

-- `depth` blocks are open around the lines
abbrev mutual
  -- a line alone, or a construct
  pub IsStmt : (depth : ℕ) → Around → Stmt → List NumLine → Type 0
  IsStmt depth around (Single line) lines = (may_stand around (role_of line.item) ≡ true) × (lines ≡ line ∷ [])
  IsStmt depth around (Nest NoSections close) lines = ⊥
  IsStmt depth around (Nest (MoreSections head body rest) close) lines =
      (c : Construct) × (own behind : List NumLine) × (opens (role_of head.item) ≡ Some c) × (may_open around c ≡ true) × (depth < OPEN_BLOCKS)
      × BodyIn (inside c) (IsBlock (suc depth) (inside c) body own) body own × AreSections depth c rest close behind × (lines ≡ head ∷ (own ++ behind))

  -- the sections of a construct after one of them, and the line that closes it
  pub AreSections : (depth : ℕ) → Construct → Sections → (close : NumLine) → List NumLine → Type 0
  AreSections depth c NoSections close lines = (closes c (role_of close.item) ≡ true) × (lines ≡ close ∷ [])
  AreSections depth c (MoreSections head body rest) close lines =
      (d : Construct) × (own behind : List NumLine) × (divides c (role_of head.item) ≡ Some d)
      × BodyIn (inside d) (IsBlock (suc depth) (inside d) body own) body own × AreSections depth d rest close behind × (lines ≡ head ∷ (own ++ behind))

  -- lines and constructs in order
  pub IsBlock : (depth : ℕ) → Around → Block → List NumLine → Type 0
  IsBlock depth around NoStmts lines = lines ≡ []
  IsBlock depth around (MoreStmts stmt rest) lines =
      (own behind : List NumLine) × IsStmt depth around stmt own × IsBlock depth around rest behind × (lines ≡ own ++ behind)

-- the name of a program that has no PROGRAM line
abbrev pub main_name : List ℕ
main_name = codes "MAIN"

-- the lines before a program's body
abbrev pub IsHead : List ℕ → Option NumLine → List NumLine → Type 0
IsHead name None lines = (name ≡ main_name) × (lines ≡ [])
IsHead name (Some line) lines = (role_of line.item ≡ role.BeginsProgram) × (program_name line.item ≡ Some name) × (lines ≡ line ∷ [])

-- a program: perhaps its PROGRAM line, its body, and END
abbrev pub IsProgram : Program → List NumLine → Type 0
IsProgram p lines =
    (head own : List NumLine) × IsHead p.name p.head head × IsBlock 0 stands.Unit p.body own × (role_of p.close.item ≡ role.EndsProgram) × (lines ≡ head ++ (own ++ p.close ∷ []))

-- an external procedure, of its own or of a module
abbrev pub IsProcedure : Procedure → List NumLine → Type 0
IsProcedure p lines =
    (own : List NumLine) × IsBlock 0 stands.Unit p.body own × (closes_procedure (role_of p.head.item) (role_of p.close.item) ≡ true) × (lines ≡ p.head ∷ (own ++ p.close ∷ []))

-- the procedures of a module; the remarks after each belong to no body
abbrev pub AreProcedures : List Procedure → List NumLine → Type 0
AreProcedures [] lines = lines ≡ []
AreProcedures (p ∷ ps) lines =
    (own gap behind : List NumLine) × IsProcedure p own × AreRemarks gap × AreProcedures ps behind × (lines ≡ own ++ (gap ++ behind))

-- a module: its MODULE line, its initial part, its procedures, and END MODULE
abbrev pub IsModule : Module → List NumLine → Type 0
IsModule m lines =
    (own procs : List NumLine) × (role_of m.head.item ≡ role.BeginsModule) × IsBlock 0 stands.Block m.initial own × AreProcedures m.procs procs
    × (role_of m.close.item ≡ role.EndsModule) × (lines ≡ m.head ∷ (own ++ (procs ++ m.close ∷ [])))

abbrev pub IsUnit : SourceUnit → List NumLine → Type 0
IsUnit (ProgramUnit p) lines = IsProgram p lines
IsUnit (ProcedureUnit p) lines = IsProcedure p lines
IsUnit (ModuleUnit m) lines = IsModule m lines

abbrev pub LeftBefore : Option NumLine → List NumLine → Type 0
LeftBefore None lines = lines ≡ []
LeftBefore (Some head) lines = AreRemarks lines

-- remarks in front of a program without PROGRAM belong to it, those in front of another unit to none
abbrev pub LeftOut : SourceUnit → List NumLine → Type 0
LeftOut (ProgramUnit p) lines = LeftBefore p.head lines
LeftOut _ lines = AreRemarks lines

-- the units of a file in order; remarks behind the last belong to none
abbrev pub AreUnits : List SourceUnit → List NumLine → Type 0
AreUnits [] lines = AreRemarks lines
AreUnits (unit ∷ units) lines =
    (left own behind : List NumLine) × LeftOut unit left × IsUnit unit own × AreUnits units behind × (lines ≡ left ++ (own ++ behind))
