-- Lines that are a tree are read as that tree.
use Rattle.std.proofs.Common.{◌≡◌, ℕ, suc, ◌<◌, ◌&&◌, Bool, true, false, cond, List, [], ◌∷◌, ◌++◌, length, Option, Some, None, Result, Ok, Err, refl, ap, sym, ◌∙◌, subst, append_assoc, append-nil, ltb}
use Rattle.std.proofs.lemmas.Bool.{lt-ltb}
use Rattle.bas_ast.specs.Tree.{NumLine, Stmt, Single, Nest, Sections, NoSections, MoreSections, Block, NoStmts, MoreStmts, Program, Procedure, Module, SourceUnit, ProgramUnit, ProcedureUnit, ModuleUnit}
use Rattle.bas_ast.specs.BlockTree.{sections_of, stmts_of}
use Rattle.bas_nest.specs.Constructs.{role_of, program_name, opens, divides, closes, may_open, may_stand, is_left_out, inside, is_remark, begins_procedure, closes_procedure}
use Rattle.bas_nest.specs.declared.TheConstants.{OPEN_BLOCKS}
use Rattle.bas_nest.specs.declared.construct.Construct.{Construct}
use Rattle.bas_nest.specs.declared.construct.Around.{Around}
use Rattle.bas_nest.specs.declared.construct.Around.TheVariants as stands
use Rattle.bas_nest.specs.declared.construct.Role.{Role}
use Rattle.bas_nest.specs.declared.construct.Role.TheVariants as role
use Rattle.bas_nest.specs.Units.{IsRemark, AreRemarks, BodyIn, IsStmt, AreSections, IsBlock}
use Rattle.bas_nest.specs.Reading.{Level, Owner, Open, Outside, Within, Between, Reading, around, with_stmt, all_sections, reading, ends_body, in_construct, opened_construct, divided_construct, closed_construct, turns, nests, in_body, line_read, read_on, read, block_of}
use Rattle.bas_nest.proofs.Roles.{turning, stands_not_left, turning_left, turning_alone, turning_opens, opening_left, opening_alone, dividing_turns, closing_turns, closing_divides, remark_left}

-- the statements of a block, and the sections of a construct, as lists
abbrev pub list_of : Block → List Stmt
list_of NoStmts = []
list_of (MoreStmts s rest) = s ∷ list_of rest

abbrev pub sections_list : Sections → List (NumLine × Block)
sections_list NoSections = []
sections_list (MoreSections head body rest) = (head, body) ∷ sections_list rest

pub block_of_list : (b : Block) → stmts_of (list_of b) ≡ b
block_of_list NoStmts = refl
block_of_list (MoreStmts s rest) = ap (MoreStmts s) (block_of_list rest)

pub sections_of_list : (s : Sections) → sections_of (sections_list s) ≡ s
sections_of_list NoSections = refl
sections_of_list (MoreSections head body rest) = ap (MoreSections head body) (sections_of_list rest)

-- one line that is taken
pub took : (r r1 : Reading) (line : NumLine) (more : List NumLine) → line_read r line ≡ Some r1 → read r (line ∷ more) ≡ read r1 more
unfolding read
took r r1 line more e = ap (λ (o : Option Reading). read_on o line.line (λ (r2 : Reading). read r2 more)) e

module _ (units : List SourceUnit) (owner : Owner) (stmts : List Stmt) (levels : List Level) (line : NumLine) where
  abbrev left : Option Reading
  left = Some (reading units (Within owner stmts levels))

  abbrev alone : Option Reading
  alone = Some (reading units (with_stmt owner stmts levels (Single line)))

  abbrev place : Around
  place = around owner levels

  abbrev own_role : Role
  own_role = role_of line.item

  pub body_left : is_left_out place own_role ≡ true → in_body units owner stmts levels line ≡ left
  body_left h = ap (λ (b : Bool). cond b left (cond (may_stand place own_role) alone (nests units owner stmts levels line (opens own_role)))) h

  pub body_alone : may_stand place own_role ≡ true → in_body units owner stmts levels line ≡ alone
  body_alone h =
      ap (λ (b : Bool). cond b left (cond (may_stand place own_role) alone (nests units owner stmts levels line (opens own_role)))) (stands_not_left place own_role h)
      ∙ ap (λ (b : Bool). cond b alone (nests units owner stmts levels line (opens own_role))) h

  pub body_nests : (o : Option Construct) → is_left_out place own_role ≡ false → may_stand place own_role ≡ false → opens own_role ≡ o → in_body units owner stmts levels line ≡ nests units owner stmts levels line o
  body_nests o l s e =
      ap (λ (b : Bool). cond b left (cond (may_stand place own_role) alone (nests units owner stmts levels line (opens own_role)))) l
      ∙ ap (λ (b : Bool). cond b alone (nests units owner stmts levels line (opens own_role))) s
      ∙ ap (nests units owner stmts levels line) e

  pub body_opens : (c : Construct) → opens own_role ≡ Some c → may_open place c ≡ true → length levels < OPEN_BLOCKS →
      in_body units owner stmts levels line ≡ Some (reading units (opened_construct owner stmts levels c line))
  body_opens c e m room =
      body_nests (Some c) (opening_left place own_role c e) (opening_alone place own_role c e) e
      ∙ ap (λ (b : Bool). cond (b && ltb (length levels) OPEN_BLOCKS) (Some (reading units (opened_construct owner stmts levels c line))) None) m
      ∙ ap (λ (b : Bool). cond b (Some (reading units (opened_construct owner stmts levels c line))) None) (lt-ltb (length levels) OPEN_BLOCKS room)

  pub body_turns : turning own_role ≡ true → in_body units owner stmts levels line ≡ turns units owner stmts levels line
  body_turns h = body_nests None (turning_left place own_role h) (turning_alone place own_role h) (turning_opens own_role h)

pub body_divides : (units : List SourceUnit) (owner : Owner) (stmts : List Stmt) (level : Level) (levels : List Level) (line : NumLine) (d : Construct) → divides level.construct (role_of line.item) ≡ Some d →
    in_body units owner stmts (level ∷ levels) line ≡ Some (reading units (divided_construct owner stmts level levels d line))
body_divides units owner stmts level levels line d e =
    body_turns units owner stmts (level ∷ levels) line (dividing_turns level.construct (role_of line.item) d e)
    ∙ ap (in_construct units owner stmts level levels line) e

pub body_closes : (units : List SourceUnit) (owner : Owner) (stmts : List Stmt) (level : Level) (levels : List Level) (line : NumLine) → closes level.construct (role_of line.item) ≡ true →
    in_body units owner stmts (level ∷ levels) line ≡ Some (reading units (closed_construct owner stmts level levels line))
body_closes units owner stmts level levels line e =
    body_turns units owner stmts (level ∷ levels) line (closing_turns level.construct (role_of line.item) e)
    ∙ ap (in_construct units owner stmts level levels line) (closing_divides level.construct (role_of line.item) e)
    ∙ ap (λ (b : Bool). cond b (Some (reading units (closed_construct owner stmts level levels line))) None) e

-- what stands behind more statements
abbrev pub grown_top : List Stmt → List Level → List Stmt → List Stmt
grown_top stmts [] xs = stmts ++ xs
grown_top stmts (level ∷ levels) xs = stmts

abbrev pub grown : List Level → List Stmt → List Level
grown [] xs = []
grown (level ∷ levels) xs = record level { stmts = level.stmts ++ xs } ∷ levels

abbrev pub at : List SourceUnit → Owner → List Stmt → List Level → List Stmt → Reading
at units owner stmts levels xs = reading units (Within owner (grown_top stmts levels xs) (grown levels xs))

one_more : (units : List SourceUnit) (owner : Owner) (stmts : List Stmt) (levels : List Level) (s : Stmt) → reading units (with_stmt owner stmts levels s) ≡ at units owner stmts levels (s ∷ [])
one_more units owner stmts [] s = refl
one_more units owner stmts (level ∷ levels) s = refl

around_grown : (owner : Owner) (levels : List Level) (xs : List Stmt) → around owner levels ≡ around owner (grown levels xs)
around_grown owner [] xs = refl
around_grown owner (level ∷ levels) xs = refl

length_grown : (levels : List Level) (xs : List Stmt) → length levels ≡ length (grown levels xs)
length_grown [] xs = refl
length_grown (level ∷ levels) xs = refl

grown_twice : (units : List SourceUnit) (owner : Owner) (stmts : List Stmt) (levels : List Level) (xs ys : List Stmt) →
    at units owner (grown_top stmts levels xs) (grown levels xs) ys ≡ at units owner stmts levels (xs ++ ys)
grown_twice units owner stmts [] xs ys = ap (λ (zs : List Stmt). reading units (Within owner zs [])) (append_assoc stmts xs ys)
grown_twice units owner stmts (level ∷ levels) xs ys = ap (λ (zs : List Stmt). reading units (Within owner stmts (record level { stmts = zs } ∷ levels))) (append_assoc level.stmts xs ys)

grown_none : (units : List SourceUnit) (owner : Owner) (stmts : List Stmt) (levels : List Level) → reading units (Within owner stmts levels) ≡ at units owner stmts levels []
grown_none units owner stmts [] = ap (λ (zs : List Stmt). reading units (Within owner zs [])) (sym (append-nil stmts))
grown_none units owner stmts (level ∷ levels) = ap (λ (zs : List Stmt). reading units (Within owner stmts (record level { stmts = zs } ∷ levels))) (sym (append-nil level.stmts))

abbrev level_at : Construct → List (NumLine × Block) → NumLine → List Stmt → Level
level_at c sections head stmts = record { construct = c; sections = sections; head = head; stmts = stmts }

-- behind SELECT CASE remarks are left out
remarks_left : (units : List SourceUnit) (owner : Owner) (stmts : List Stmt) (level : Level) (levels : List Level) (lines more : List NumLine) → inside level.construct ≡ stands.Select → AreRemarks lines →
    read (reading units (Within owner stmts (level ∷ levels))) (lines ++ more) ≡ read (reading units (Within owner stmts (level ∷ levels))) more
remarks_left units owner stmts level levels [] more i h = refl
remarks_left units owner stmts level levels (line ∷ lines) more i h =
    let r : Reading = reading units (Within owner stmts (level ∷ levels)) in
    took r r line (lines ++ more) (body_left units owner stmts (level ∷ levels) line (ap (λ (a : Around). is_left_out a (role_of line.item)) i ∙ remark_left (role_of line.item) h.0))
    ∙ remarks_left units owner stmts level levels lines more i h.1

-- the body of a section
body_reads : (a : Around) (units : List SourceUnit) (owner : Owner) (stmts : List Stmt) (c : Construct) (sections : List (NumLine × Block)) (head : NumLine) (levels : List Level) (lines_are : Type 0) (body : Block) (own more : List NumLine) →
    inside c ≡ a → BodyIn a lines_are body own →
    (lines_are → read (reading units (Within owner stmts (level_at c sections head [] ∷ levels))) (own ++ more) ≡ read (reading units (Within owner stmts (level_at c sections head (list_of body) ∷ levels))) more) →
    read (reading units (Within owner stmts (level_at c sections head [] ∷ levels))) (own ++ more) ≡ read (reading units (Within owner stmts (level_at c sections head (list_of body) ∷ levels))) more
body_reads stands.Select units owner stmts c sections head levels lines_are body own more i h go =
    remarks_left units owner stmts (level_at c sections head []) levels own more i h.1
    ∙ ap (λ (b : Block). read (reading units (Within owner stmts (level_at c sections head (list_of b) ∷ levels))) more) (sym h.0)
body_reads stands.Unit units owner stmts c sections head levels lines_are body own more i h go = go h
body_reads stands.Internal units owner stmts c sections head levels lines_are body own more i h go = go h
body_reads stands.Block units owner stmts c sections head levels lines_are body own more i h go = go h

mutual
  pub stmt_reads : (units : List SourceUnit) (owner : Owner) (stmts : List Stmt) (levels : List Level) (s : Stmt) (lines more : List NumLine) → IsStmt (length levels) (around owner levels) s lines →
      read (reading units (Within owner stmts levels)) (lines ++ more) ≡ read (at units owner stmts levels (s ∷ [])) more
  stmt_reads units owner stmts levels (Single line) lines more h =
      ap (λ (ls : List NumLine). read (reading units (Within owner stmts levels)) (ls ++ more)) h.1
      ∙ took (reading units (Within owner stmts levels)) (reading units (with_stmt owner stmts levels (Single line))) line more (body_alone units owner stmts levels line h.0)
      ∙ ap (λ (r : Reading). read r more) (one_more units owner stmts levels (Single line))
  stmt_reads units owner stmts levels (Nest NoSections close) lines more h = absurd (h)
  stmt_reads units owner stmts levels (Nest (MoreSections head body rest) close) lines more h =
      let c : Construct = h.0 in
      let own : List NumLine = h.1 in
      let behind : List NumLine = h.2 in
      let inner : Level = level_at c [] head (list_of body) in
      ap (λ (ls : List NumLine). read (reading units (Within owner stmts levels)) (ls ++ more)) h.8
      ∙ took (reading units (Within owner stmts levels)) (reading units (opened_construct owner stmts levels c head)) head ((own ++ behind) ++ more) (body_opens units owner stmts levels head c h.3 h.4 h.5)
      ∙ ap (read (reading units (Within owner stmts (level_at c [] head [] ∷ levels)))) (append_assoc own behind more)
      ∙ body_reads (inside c) units owner stmts c [] head levels (IsBlock (suc (length levels)) (inside c) body own) body own (behind ++ more) refl h.6 (λ b. block_reads units owner stmts (level_at c [] head [] ∷ levels) body own (behind ++ more) b)
      ∙ sections_reads units owner stmts inner levels rest close behind more h.7
      ∙ ap (λ (b : Block). read (at units owner stmts levels (Nest (sections_of ((head, b) ∷ sections_list rest)) close ∷ [])) more) (block_of_list body)
      ∙ ap (λ (ss : Sections). read (at units owner stmts levels (Nest (MoreSections head body ss) close ∷ [])) more) (sections_of_list rest)

  pub sections_reads : (units : List SourceUnit) (owner : Owner) (stmts : List Stmt) (level : Level) (levels : List Level) (rest : Sections) (close : NumLine) (lines more : List NumLine) →
      AreSections (length levels) level.construct rest close lines →
      read (reading units (Within owner stmts (level ∷ levels))) (lines ++ more) ≡ read (at units owner stmts levels (Nest (sections_of (all_sections level ++ sections_list rest)) close ∷ [])) more
  sections_reads units owner stmts level levels NoSections close lines more h =
      ap (λ (ls : List NumLine). read (reading units (Within owner stmts (level ∷ levels))) (ls ++ more)) h.1
      ∙ took (reading units (Within owner stmts (level ∷ levels))) (reading units (closed_construct owner stmts level levels close)) close more (body_closes units owner stmts level levels close h.0)
      ∙ ap (λ (r : Reading). read r more) (one_more units owner stmts levels (Nest (sections_of (all_sections level)) close))
      ∙ ap (λ (ss : List (NumLine × Block)). read (at units owner stmts levels (Nest (sections_of ss) close ∷ [])) more) (sym (append-nil (all_sections level)))
  sections_reads units owner stmts level levels (MoreSections head body rest) close lines more h =
      let d : Construct = h.0 in
      let own : List NumLine = h.1 in
      let behind : List NumLine = h.2 in
      let next : Level = level_at d (all_sections level) head (list_of body) in
      ap (λ (ls : List NumLine). read (reading units (Within owner stmts (level ∷ levels))) (ls ++ more)) h.6
      ∙ took (reading units (Within owner stmts (level ∷ levels))) (reading units (divided_construct owner stmts level levels d head)) head ((own ++ behind) ++ more) (body_divides units owner stmts level levels head d h.3)
      ∙ ap (read (reading units (Within owner stmts (level_at d (all_sections level) head [] ∷ levels)))) (append_assoc own behind more)
      ∙ body_reads (inside d) units owner stmts d (all_sections level) head levels (IsBlock (suc (length levels)) (inside d) body own) body own (behind ++ more) refl h.4 (λ b. block_reads units owner stmts (level_at d (all_sections level) head [] ∷ levels) body own (behind ++ more) b)
      ∙ sections_reads units owner stmts next levels rest close behind more h.5
      ∙ ap (λ (ss : List (NumLine × Block)). read (at units owner stmts levels (Nest (sections_of ss) close ∷ [])) more) (append_assoc (all_sections level) ((head, stmts_of (list_of body)) ∷ []) (sections_list rest))
      ∙ ap (λ (b : Block). read (at units owner stmts levels (Nest (sections_of (all_sections level ++ (head, b) ∷ sections_list rest)) close ∷ [])) more) (block_of_list body)

  pub block_reads : (units : List SourceUnit) (owner : Owner) (stmts : List Stmt) (levels : List Level) (b : Block) (lines more : List NumLine) → IsBlock (length levels) (around owner levels) b lines →
      read (reading units (Within owner stmts levels)) (lines ++ more) ≡ read (at units owner stmts levels (list_of b)) more
  block_reads units owner stmts levels NoStmts lines more h =
      ap (λ (ls : List NumLine). read (reading units (Within owner stmts levels)) (ls ++ more)) h
      ∙ ap (λ (r : Reading). read r more) (grown_none units owner stmts levels)
  block_reads units owner stmts levels (MoreStmts s rest) lines more h =
      let own : List NumLine = h.0 in
      let behind : List NumLine = h.1 in
      ap (λ (ls : List NumLine). read (reading units (Within owner stmts levels)) (ls ++ more)) h.4
      ∙ ap (read (reading units (Within owner stmts levels))) (append_assoc own behind more)
      ∙ stmt_reads units owner stmts levels s own (behind ++ more) h.2
      ∙ block_reads units owner (grown_top stmts levels (s ∷ [])) (grown levels (s ∷ [])) rest behind more
      (subst (λ (n : ℕ). IsBlock n (around owner (grown levels (s ∷ []))) rest behind) (length_grown levels (s ∷ []))
      (subst (λ (a : Around). IsBlock (length levels) a rest behind) (around_grown owner levels (s ∷ [])) h.3))
      ∙ ap (λ (r : Reading). read r more) (grown_twice units owner stmts levels (s ∷ []) (list_of rest))
