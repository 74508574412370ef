-- What is read is what the lines are: what the lines of an open body, construct or module lack to be units.
use Rattle.std.proofs.Common.{◌≡◌, ℕ, suc, ◌<◌, ◌&&◌, Bool, true, false, cond, List, [], ◌∷◌, ◌++◌, length, Option, Some, None, Result, Ok, Err, refl, ap, sym, ◌∙◌, subst, append_assoc, append-nil, ltb}
use Rattle.bas_ast.specs.Tree.{NumLine, Stmt, Single, Nest, Sections, NoSections, MoreSections, Block, NoStmts, MoreStmts, Program, Procedure, Module, SourceUnit, ProgramUnit, ProcedureUnit, ModuleUnit}
use Rattle.bas_ast.specs.BlockTree.{sections_of, stmts_of}
use Rattle.bas_nest.specs.Constructs.{role_of, program_name, opens, divides, closes, may_open, may_stand, is_left_out, is_select, not_select, inside, is_remark, begins_procedure, closes_procedure}
use Rattle.bas_nest.specs.declared.TheConstants.{OPEN_BLOCKS}
use Rattle.bas_nest.specs.declared.construct.Construct.{Construct}
use Rattle.bas_nest.specs.declared.construct.Construct.TheVariants as section
use Rattle.bas_nest.specs.declared.construct.Around.{Around}
use Rattle.bas_nest.specs.declared.construct.Around.TheVariants as stands
use Rattle.bas_nest.specs.declared.construct.Role.{Role}
use Rattle.bas_nest.specs.declared.construct.Role.TheVariants as role
use Rattle.bas_nest.specs.Units.{IsRemark, AreRemarks, BodyIn, IsStmt, AreSections, IsBlock, main_name, AreProcedures, AreUnits}
use Rattle.bas_nest.specs.Reading.{Level, Owner, OfProgram, OfProcedure, OfInitial, OfMember, Open, Outside, Within, Between, Reading, around, around_owner, with_stmt, all_sections, reading, module_of, opened_construct, divided_construct, closed_construct}
use Rattle.bas_nest.proofs.Complete.{list_of, sections_list, sections_of_list, grown_top, grown, at}

-- the lines that a list of units ends with: units behind them make more units
abbrev pub UnitsTo : List SourceUnit → List NumLine → Type 0
UnitsTo units front = (more : List SourceUnit) (lines : List NumLine) → AreUnits more lines → AreUnits (units ++ more) (front ++ lines)

-- what a body lacks to be a unit, behind the lines in front of it
abbrev pub OwnerHeld : List SourceUnit → Owner → List NumLine → Type 0
OwnerHeld units (OfProgram name head first) before =
    (body : Block) (own : List NumLine) (close : NumLine) → IsBlock 0 stands.Unit body own → role_of close.item ≡ role.EndsProgram →
    UnitsTo (units ++ ProgramUnit (record { name = name; head = head; body = body; close = close }) ∷ []) (before ++ (own ++ close ∷ []))
OwnerHeld units (OfProcedure head) before = (begins_procedure (role_of head.item) ≡ true) ×
    ((body : Block) (own : List NumLine) (close : NumLine) → IsBlock 0 stands.Unit body own → closes_procedure (role_of head.item) (role_of close.item) ≡ true →
    UnitsTo (units ++ ProcedureUnit (record { head = head; body = body; close = close }) ∷ []) (before ++ (own ++ close ∷ [])))
OwnerHeld units (OfInitial head) before =
    (initial : Block) (own : List NumLine) (procs : List Procedure) (behind : List NumLine) (close : NumLine) → IsBlock 0 stands.Block initial own → AreProcedures procs behind → role_of close.item ≡ role.EndsModule →
    UnitsTo (units ++ ModuleUnit (module_of head initial procs close) ∷ []) (before ++ (own ++ (behind ++ close ∷ [])))
OwnerHeld units (OfMember part initial procs head) before = (begins_procedure (role_of head.item) ≡ true) ×
    ((body : Block) (own : List NumLine) (close : NumLine) (gap : List NumLine) (more : List Procedure) (behind : List NumLine) (end : NumLine) → IsBlock 0 stands.Unit body own → closes_procedure (role_of head.item) (role_of close.item) ≡ true →
    AreRemarks gap → AreProcedures more behind → role_of end.item ≡ role.EndsModule →
    UnitsTo (units ++ ModuleUnit (module_of part initial (procs ++ record { head = head; body = body; close = close } ∷ more) end) ∷ []) (before ++ (own ++ close ∷ (gap ++ (behind ++ end ∷ [])))))

-- what a module lacks behind one of its procedures
abbrev pub ModuleHeld : List SourceUnit → NumLine → Block → List Procedure → List NumLine → Type 0
ModuleHeld units part initial procs lines =
    (gap : List NumLine) (more : List Procedure) (behind : List NumLine) (end : NumLine) → AreRemarks gap → AreProcedures more behind → role_of end.item ≡ role.EndsModule →
    UnitsTo (units ++ ModuleUnit (module_of part initial (procs ++ more) end) ∷ []) (lines ++ (gap ++ (behind ++ end ∷ [])))

-- what an open construct lacks, behind the lines up to its open section
abbrev pub LevelHeld : ℕ → Around → Level → List NumLine → Type 0
LevelHeld depth a level before =
    (body : Block) (own : List NumLine) (rest : Sections) (close : NumLine) (behind : List NumLine) →
    BodyIn (inside level.construct) (IsBlock (suc depth) (inside level.construct) body own) body own → AreSections depth level.construct rest close behind →
    IsStmt depth a (Nest (sections_of (level.sections ++ (level.head, body) ∷ sections_list rest)) close) (before ++ (own ++ behind))

-- the lines of an open section so far
abbrev pub SectionHeld : ℕ → Level → List NumLine → Type 0
SectionHeld depth level own =
    BodyIn (inside level.construct) (IsBlock (suc depth) (inside level.construct) (stmts_of level.stmts) own) (stmts_of level.stmts) own

-- the lines of an open body so far
abbrev pub BodyHeld : List SourceUnit → Owner → List Stmt → List Level → List NumLine → Type 0
BodyHeld units owner stmts [] lines =
    (before own : List NumLine) × OwnerHeld units owner before × IsBlock 0 (around_owner owner) (stmts_of stmts) own × (lines ≡ before ++ own)
BodyHeld units owner stmts (level ∷ levels) lines =
    (outer before own : List NumLine) × BodyHeld units owner stmts levels outer × (not_select (around owner levels) ≡ true)
    × LevelHeld (length levels) (around owner levels) level before × SectionHeld (length levels) level own × (lines ≡ outer ++ (before ++ own))

abbrev pub OpenHeld : List SourceUnit → Open → List NumLine → Type 0
OpenHeld units (Outside waiting) lines = (front : List NumLine) × UnitsTo units front × AreRemarks waiting × (lines ≡ front ++ waiting)
OpenHeld units (Within owner stmts levels) lines = BodyHeld units owner stmts levels lines
OpenHeld units (Between part initial procs) lines = ModuleHeld units part initial procs lines

abbrev pub Held : Reading → List NumLine → Type 0
Held r lines = OpenHeld r.units r.opened lines

-- what is read, where something is
abbrev pub HeldBy : Option Reading → List NumLine → Type 0
HeldBy None lines = Unit {0}
HeldBy (Some r) lines = Held r lines

pub by_test : (b : Bool) (P : Option Reading → Type 0) (x y : Option Reading) → (b ≡ true → P x) → (b ≡ false → P y) → P (cond b x y)
by_test true P x y f g = f refl
by_test false P x y f g = g refl

and_left : (a b : Bool) → (a && b) ≡ true → a ≡ true
and_left true b h = refl
and_left false b h = absurd (cc)

and_right : (a b : Bool) → (a && b) ≡ true → b ≡ true
and_right true b h = h
and_right false b h = absurd (cc)

-- ---- one more statement

assoc3 : (a b c d : List NumLine) → (a ++ (b ++ c)) ++ d ≡ a ++ (b ++ (c ++ d))
assoc3 a b c d = append_assoc a (b ++ c) d ∙ ap (λ (ls : List NumLine). a ++ ls) (append_assoc b c d)

block_more : (depth : ℕ) (a : Around) (xs : List Stmt) (s : Stmt) (own lines : List NumLine) → IsBlock depth a (stmts_of xs) own → IsStmt depth a s lines → IsBlock depth a (stmts_of (xs ++ s ∷ [])) (own ++ lines)
block_more depth a [] s own lines h one = (lines, [], one, refl, ap (λ (ls : List NumLine). ls ++ lines) h ∙ sym (append-nil lines))
block_more depth a (x ∷ xs) s own lines h one =
    (h.0, h.1 ++ lines, h.2, block_more depth a xs s h.1 lines h.3 one, ap (λ (ls : List NumLine). ls ++ lines) h.4 ∙ append_assoc h.0 h.1 lines)

section_more : (a : Around) (depth : ℕ) (xs : List Stmt) (s : Stmt) (own lines : List NumLine) → not_select a ≡ true → BodyIn a (IsBlock depth a (stmts_of xs) own) (stmts_of xs) own → IsStmt depth a s lines →
    BodyIn a (IsBlock depth a (stmts_of (xs ++ s ∷ [])) (own ++ lines)) (stmts_of (xs ++ s ∷ [])) (own ++ lines)
section_more stands.Unit depth xs s own lines n h one = block_more depth stands.Unit xs s own lines h one
section_more stands.Internal depth xs s own lines n h one = block_more depth stands.Internal xs s own lines h one
section_more stands.Block depth xs s own lines n h one = block_more depth stands.Block xs s own lines h one
section_more stands.Select depth xs s own lines n h one = absurd (cc)

pub body_more : (units : List SourceUnit) (owner : Owner) (stmts : List Stmt) (levels : List Level) (s : Stmt) (lines own : List NumLine) → BodyHeld units owner stmts levels lines → not_select (around owner levels) ≡ true → IsStmt (length levels) (around owner levels) s own →
    Held (reading units (with_stmt owner stmts levels s)) (lines ++ own)
body_more units owner stmts [] s lines own h n one =
    (h.0, h.1 ++ own, h.2, block_more 0 (around_owner owner) stmts s h.1 own h.3 one, ap (λ (ls : List NumLine). ls ++ own) h.4 ∙ append_assoc h.0 h.1 own)
body_more units owner stmts (level ∷ levels) s lines own h n one =
    (h.0, h.1, h.2 ++ own, h.3, h.4, h.5, section_more (inside level.construct) (suc (length levels)) level.stmts s h.2 own n h.6 one, ap (λ (ls : List NumLine). ls ++ own) h.7 ∙ assoc3 h.0 h.1 h.2 own)

-- ---- constructs

nothing_in : (a : Around) (depth : ℕ) → BodyIn a (IsBlock depth a NoStmts []) NoStmts []
nothing_in stands.Unit depth = refl
nothing_in stands.Internal depth = refl
nothing_in stands.Block depth = refl
nothing_in stands.Select depth = (refl, tt)

opens_selects : (a : Around) (c : Construct) → may_open a c ≡ true → not_select a ≡ true
opens_selects stands.Unit c h = refl
opens_selects stands.Internal c h = refl
opens_selects stands.Block c h = refl
opens_selects stands.Select c h = absurd (cc)

pub body_opened : (units : List SourceUnit) (owner : Owner) (stmts : List Stmt) (levels : List Level) (line : NumLine) (c : Construct) (lines : List NumLine) → BodyHeld units owner stmts levels lines →
    opens (role_of line.item) ≡ Some c → may_open (around owner levels) c ≡ true → length levels < OPEN_BLOCKS → Held (reading units (opened_construct owner stmts levels c line)) (lines ++ line ∷ [])
body_opened units owner stmts levels line c lines h o m room = (
  lines,
  line ∷ [],
  [],
  h,
  opens_selects (around owner levels) c m,
  (λ body own rest close behind inner sections.
      subst (λ (ss : Sections). IsStmt (length levels) (around owner levels) (Nest (MoreSections line body ss) close) (line ∷ (own ++ behind))) (sym (sections_of_list rest))
      (c, own, behind, o, m, room, inner, sections, refl)),
  nothing_in (inside c) (suc (length levels)),
  refl,
)

pub body_divided : (units : List SourceUnit) (owner : Owner) (stmts : List Stmt) (level : Level) (levels : List Level) (line : NumLine) (d : Construct) (lines : List NumLine) → BodyHeld units owner stmts (level ∷ levels) lines →
    divides level.construct (role_of line.item) ≡ Some d → Held (reading units (divided_construct owner stmts level levels d line)) (lines ++ line ∷ [])
body_divided units owner stmts level levels line d lines h dv =
    let outer : List NumLine = h.0 in
    let before : List NumLine = h.1 in
    let mine : List NumLine = h.2 in
    let depth : ℕ = length levels in
    let a : Around = around owner levels in
    let first : List (NumLine × Block) = level.sections in
    let open_section : NumLine × Block = (level.head, stmts_of level.stmts) in (
      outer,
      before ++ (mine ++ line ∷ []),
      [],
      h.3,
      h.4,
      (λ body own rest close behind inner sections.
          subst (λ (ss : List (NumLine × Block)). IsStmt depth a (Nest (sections_of ss) close) ((before ++ (mine ++ line ∷ [])) ++ (own ++ behind))) (sym (append_assoc first (open_section ∷ []) ((line, body) ∷ sections_list rest)))
          (subst (λ (ls : List NumLine). IsStmt depth a (Nest (sections_of (first ++ open_section ∷ (line, body) ∷ sections_list rest)) close) ls) (sym (assoc3 before mine (line ∷ []) (own ++ behind)))
          (h.5 (stmts_of level.stmts) mine (MoreSections line body rest) close (line ∷ (own ++ behind)) h.6 (d, own, behind, dv, inner, sections, refl)))),
      nothing_in (inside d) (suc depth),
      ap (λ (ls : List NumLine). ls ++ line ∷ []) h.7 ∙ assoc3 outer before mine (line ∷ []) ∙ ap (λ (ls : List NumLine). outer ++ ls) (sym (append-nil (before ++ (mine ++ line ∷ [])))),
    )

pub body_closed : (units : List SourceUnit) (owner : Owner) (stmts : List Stmt) (level : Level) (levels : List Level) (line : NumLine) (lines : List NumLine) → BodyHeld units owner stmts (level ∷ levels) lines →
    closes level.construct (role_of line.item) ≡ true → Held (reading units (closed_construct owner stmts level levels line)) (lines ++ line ∷ [])
body_closed units owner stmts level levels line lines h c =
    let s : Stmt = Nest (sections_of (all_sections level)) line in
    let own : List NumLine = h.1 ++ (h.2 ++ line ∷ []) in
    subst (λ (ls : List NumLine). Held (reading units (closed_construct owner stmts level levels line)) ls) (sym (ap (λ (ls : List NumLine). ls ++ line ∷ []) h.7 ∙ assoc3 h.0 h.1 h.2 (line ∷ [])))
    (body_more units owner stmts levels s h.0 own h.3 h.4 (h.5 (stmts_of level.stmts) h.2 NoSections line (line ∷ []) h.6 (c, refl)))

-- ---- lines of a body

left_inside : (a : Around) (x : Role) → is_left_out a x ≡ true → (is_select a ≡ true) × (is_remark x ≡ true)
left_inside a role.Remark h = (h, refl)
left_inside a role.Plain h = absurd (cc)
left_inside a role.Defines h = absurd (cc)
left_inside a (role.Opens d) h = absurd (cc)
left_inside a (role.Divides d) h = absurd (cc)
left_inside a (role.Closes k) h = absurd (cc)
left_inside a role.BeginsProgram h = absurd (cc)
left_inside a role.BeginsSub h = absurd (cc)
left_inside a role.BeginsFunction h = absurd (cc)
left_inside a role.BeginsModule h = absurd (cc)
left_inside a role.EndsProgram h = absurd (cc)
left_inside a role.EndsModule h = absurd (cc)

stands_selects : (a : Around) (x : Role) → may_stand a x ≡ true → not_select a ≡ true
stands_selects stands.Unit x h = refl
stands_selects stands.Internal x h = refl
stands_selects stands.Block x h = refl
stands_selects stands.Select role.Remark h = absurd (cc)
stands_selects stands.Select role.Plain h = absurd (cc)
stands_selects stands.Select role.Defines h = absurd (cc)
stands_selects stands.Select (role.Opens d) h = absurd (cc)
stands_selects stands.Select (role.Divides d) h = absurd (cc)
stands_selects stands.Select (role.Closes k) h = absurd (cc)
stands_selects stands.Select role.BeginsProgram h = absurd (cc)
stands_selects stands.Select role.BeginsSub h = absurd (cc)
stands_selects stands.Select role.BeginsFunction h = absurd (cc)
stands_selects stands.Select role.BeginsModule h = absurd (cc)
stands_selects stands.Select role.EndsProgram h = absurd (cc)
stands_selects stands.Select role.EndsModule h = absurd (cc)

owner_selects : (owner : Owner) → is_select (around_owner owner) ≡ true → ⊥
owner_selects (OfProgram name head first) h = absurd (cc)
owner_selects (OfProcedure head) h = absurd (cc)
owner_selects (OfInitial head) h = absurd (cc)
owner_selects (OfMember part initial procs head) h = absurd (cc)

pub remarks_more : (lines : List NumLine) (line : NumLine) → AreRemarks lines → is_remark (role_of line.item) ≡ true → AreRemarks (lines ++ line ∷ [])
remarks_more [] line h r = (r, tt)
remarks_more (first ∷ lines) line h r = (h.0, remarks_more lines line h.1 r)

remark_more : (a : Around) (are : List NumLine → Type 0) (body : Block) (own : List NumLine) (line : NumLine) → is_select a ≡ true → is_remark (role_of line.item) ≡ true → BodyIn a (are own) body own → BodyIn a (are (own ++ line ∷ [])) body (own ++ line ∷ [])
remark_more stands.Select are body own line s r h = (h.0, remarks_more own line h.1 r)
remark_more stands.Unit are body own line s r h = absurd (cc)
remark_more stands.Internal are body own line s r h = absurd (cc)
remark_more stands.Block are body own line s r h = absurd (cc)

pub body_left_out : (units : List SourceUnit) (owner : Owner) (stmts : List Stmt) (levels : List Level) (line : NumLine) (lines : List NumLine) → BodyHeld units owner stmts levels lines →
    is_left_out (around owner levels) (role_of line.item) ≡ true → BodyHeld units owner stmts levels (lines ++ line ∷ [])
body_left_out units owner stmts [] line lines h l = absurd (owner_selects owner (left_inside (around_owner owner) (role_of line.item) l).0)
body_left_out units owner stmts (level ∷ levels) line lines h l =
    let both = left_inside (inside level.construct) (role_of line.item) l in (
      h.0,
      h.1,
      h.2 ++ line ∷ [],
      h.3,
      h.4,
      h.5,
      remark_more (inside level.construct) (λ own. IsBlock (suc (length levels)) (inside level.construct) (stmts_of level.stmts) own) (stmts_of level.stmts) h.2 line both.0 both.1 h.6,
      ap (λ (ls : List NumLine). ls ++ line ∷ []) h.7 ∙ assoc3 h.0 h.1 h.2 (line ∷ []),
    )

pub body_stands : (units : List SourceUnit) (owner : Owner) (stmts : List Stmt) (levels : List Level) (line : NumLine) (lines : List NumLine) → BodyHeld units owner stmts levels lines →
    may_stand (around owner levels) (role_of line.item) ≡ true → Held (reading units (with_stmt owner stmts levels (Single line))) (lines ++ line ∷ [])
body_stands units owner stmts levels line lines h s =
    body_more units owner stmts levels (Single line) lines (line ∷ []) h (stands_selects (around owner levels) (role_of line.item) s) (s, refl)
