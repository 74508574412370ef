-- What each line leaves of a reading, and what is read in the end.
use Rattle.std.proofs.Common.{◌≡◌, ℕ, suc, ◌<◌, ◌&&◌, Bool, true, false, cond, List, [], ◌∷◌, ◌++◌, length, Option, Some, None, Result, Ok, Err, refl, ap, sym, ◌∙◌, subst, append_assoc, append-nil, ltb}
use Rattle.std.proofs.lemmas.Bool.{ltb-true}
use Rattle.bas_ast.specs.Tree.{NumLine, Stmt, Single, Nest, Sections, Block, NoStmts, MoreStmts, Program, Procedure, Module, SourceUnit, ProgramUnit, ProcedureUnit, ModuleUnit}
use Rattle.bas_ast.specs.BlockTree.{sections_of, stmts_of}
use Rattle.bas_nest.specs.Constructs.{role_of, program_name, opens, divides, closes, may_open, may_stand, is_left_out, is_remark, begins_procedure, closes_procedure}
use Rattle.bas_nest.specs.declared.TheConstants.{OPEN_BLOCKS}
use Rattle.bas_nest.specs.declared.construct.Construct.{Construct}
use Rattle.bas_nest.specs.declared.construct.Around.TheVariants as stands
use Rattle.bas_nest.specs.declared.construct.Role.{Role}
use Rattle.bas_nest.specs.declared.construct.Role.TheVariants as role
use Rattle.bas_nest.specs.Units.{AreRemarks, IsBlock, main_name, IsUnit, LeftOut, AreProcedures, AreUnits}
use Rattle.bas_nest.specs.Reading.{Level, Owner, OfProgram, OfProcedure, OfInitial, OfMember, Open, Outside, Within, Between, Reading, around, with_stmt, block_of, reading, began, with_unit, member, in_module, ends_module, ends_program, ends_body, module_of, in_construct, turns, nests, in_body, opened_construct, divided_construct, closed_construct, waited, first_of_waiting, begins_main, begins_program, begins_unit, outside, between, line_read, read_on, read, nothing_read}
use Rattle.bas_nest.proofs.Sound.{UnitsTo, OwnerHeld, ModuleHeld, BodyHeld, OpenHeld, Held, HeldBy, by_test, body_opened, body_divided, body_closed, body_left_out, body_stands, remarks_more}

-- a whole unit behind the units so far
units_one : (units : List SourceUnit) (u : SourceUnit) (front left own : List NumLine) → UnitsTo units front → LeftOut u left → IsUnit u own → UnitsTo (units ++ u ∷ []) (front ++ (left ++ own))
units_one units u front left own h l one more lines rest =
    subst (λ (us : List SourceUnit). AreUnits us ((front ++ (left ++ own)) ++ lines)) (sym (append_assoc units (u ∷ []) more))
    (subst (λ (ls : List NumLine). AreUnits (units ++ u ∷ more) ls) (sym (append_assoc front (left ++ own) lines ∙ ap (λ (ls : List NumLine). front ++ ls) (append_assoc left own lines)))
    (h (u ∷ more) (left ++ (own ++ lines)) (left, own, lines, l, one, rest, refl)))

-- units that are whole, and nothing open
unit_whole : (units : List SourceUnit) (u : SourceUnit) (lines : List NumLine) → UnitsTo (units ++ u ∷ []) lines → Held (with_unit units u) lines
unit_whole units u lines h = (lines, h, tt, sym (append-nil lines))

and_left : (a b : Bool) → (a && b) ≡ true → a ≡ true
and_left true b h = refl
and_left false b h = absurd (cc)

and_right : (a b : Bool) → (a && b) ≡ true → b ≡ true
and_right true b h = h
and_right false b h = absurd (cc)

-- ---- lines that end a body

-- the lines so far, one more, and what is to come
ahead : (lines before own : List NumLine) (line : NumLine) (more : List NumLine) → lines ≡ before ++ own → before ++ (own ++ line ∷ more) ≡ (lines ++ line ∷ []) ++ more
ahead lines before own line more e =
    sym (append_assoc before own (line ∷ more))
    ∙ ap (λ (ls : List NumLine). ls ++ line ∷ more) (sym e)
    ∙ sym (append_assoc lines (line ∷ []) more)

-- the same where nothing more is to come
up_to : (lines before own : List NumLine) (line : NumLine) → lines ≡ before ++ own → before ++ (own ++ line ∷ []) ≡ lines ++ line ∷ []
up_to lines before own line e = sym (append_assoc before own (line ∷ [])) ∙ ap (λ (ls : List NumLine). ls ++ line ∷ []) (sym e)

module _ (units : List SourceUnit) (lines : List NumLine) (line : NumLine) where
  abbrev all : List NumLine
  all = lines ++ line ∷ []

  program_held : (name : List ℕ) (head : Option NumLine) (first : ℕ) (body : Block) (before own : List NumLine) → OwnerHeld units (OfProgram name head first) before → IsBlock 0 stands.Unit body own → lines ≡ before ++ own →
      (x : Role) → role_of line.item ≡ x → HeldBy (ends_program units name head body line x) all
  program_held name head first body before own h b e role.EndsProgram x =
      let u : SourceUnit = ProgramUnit (record { name = name; head = head; body = body; close = line }) in
      unit_whole units u all (subst (λ (ls : List NumLine). UnitsTo (units ++ u ∷ []) ls) (up_to lines before own line e) (h body own line b x))
  program_held name head first body before own h b e role.Remark x = tt
  program_held name head first body before own h b e role.Plain x = tt
  program_held name head first body before own h b e role.Defines x = tt
  program_held name head first body before own h b e (role.Opens d) x = tt
  program_held name head first body before own h b e (role.Divides d) x = tt
  program_held name head first body before own h b e (role.Closes k) x = tt
  program_held name head first body before own h b e role.BeginsProgram x = tt
  program_held name head first body before own h b e role.BeginsSub x = tt
  program_held name head first body before own h b e role.BeginsFunction x = tt
  program_held name head first body before own h b e role.BeginsModule x = tt
  program_held name head first body before own h b e role.EndsModule x = tt

  procedure_held : (head : NumLine) (body : Block) (before own : List NumLine) → OwnerHeld units (OfProcedure head) before → IsBlock 0 stands.Unit body own → lines ≡ before ++ own →
      HeldBy (ends_body units (OfProcedure head) body line) all
  procedure_held head body before own h b e =
      let u : SourceUnit = ProcedureUnit (record { head = head; body = body; close = line }) in
      by_test (closes_procedure (role_of head.item) (role_of line.item)) (λ o. HeldBy o all) (Some (with_unit units u)) None
      (λ c. unit_whole units u all (subst (λ (ls : List NumLine). UnitsTo (units ++ u ∷ []) ls) (up_to lines before own line e) (h.1 body own line b c)))
      (λ c. tt)

  -- END MODULE
  module_held : (part : NumLine) (initial : Block) (procs : List Procedure) →
      ((end : NumLine) → role_of end.item ≡ role.EndsModule → UnitsTo (units ++ ModuleUnit (module_of part initial procs end) ∷ []) (lines ++ end ∷ [])) →
      (x : Role) → role_of line.item ≡ x → HeldBy (ends_module units part initial procs line x) all
  module_held part initial procs h role.EndsModule x = unit_whole units (ModuleUnit (module_of part initial procs line)) all (h line x)
  module_held part initial procs h role.EndsProgram x = tt
  module_held part initial procs h role.Remark x = tt
  module_held part initial procs h role.Plain x = tt
  module_held part initial procs h role.Defines x = tt
  module_held part initial procs h (role.Opens d) x = tt
  module_held part initial procs h (role.Divides d) x = tt
  module_held part initial procs h (role.Closes k) x = tt
  module_held part initial procs h role.BeginsProgram x = tt
  module_held part initial procs h role.BeginsSub x = tt
  module_held part initial procs h role.BeginsFunction x = tt
  module_held part initial procs h role.BeginsModule x = tt

  -- a line of a module behind its initial part or one of its procedures
  in_module_held : (part : NumLine) (initial : Block) (procs : List Procedure) →
      ((more : List Procedure) (behind : List NumLine) (end : NumLine) → AreProcedures more behind → role_of end.item ≡ role.EndsModule → UnitsTo (units ++ ModuleUnit (module_of part initial (procs ++ more) end) ∷ []) (lines ++ (behind ++ end ∷ []))) →
      HeldBy (in_module units part initial procs line) all
  in_module_held part initial procs h =
      by_test (begins_procedure (role_of line.item)) (λ o. HeldBy o all) (Some (reading units (member part initial procs line))) (ends_module units part initial procs line (role_of line.item))
      (λ c. (
        all,
        [],
        (
          c,
          λ body own close gap more behind end b k g m x.
              let p : Procedure = record { head = line; body = body; close = close } in
              subst (λ (ls : List NumLine). UnitsTo (units ++ ModuleUnit (module_of part initial (procs ++ p ∷ more) end) ∷ []) ls) (around_member own close gap behind end)
              (h (p ∷ more) ((line ∷ (own ++ close ∷ [])) ++ (gap ++ behind)) end (line ∷ (own ++ close ∷ []), gap, behind, (own, b, k, refl), g, m, refl) x),
        ),
        refl,
        sym (append-nil all),
      ))
      (λ c. module_held part initial procs (λ end x.
      subst (λ (qs : List Procedure). UnitsTo (units ++ ModuleUnit (module_of part initial qs end) ∷ []) (lines ++ end ∷ [])) (append-nil procs) (h [] [] end refl x)) (role_of line.item) refl)
    where
      around_member : (own : List NumLine) (close : NumLine) (gap behind : List NumLine) (end : NumLine) →
          lines ++ (((line ∷ (own ++ close ∷ [])) ++ (gap ++ behind)) ++ end ∷ []) ≡ (lines ++ line ∷ []) ++ (own ++ close ∷ (gap ++ (behind ++ end ∷ [])))
      around_member own close gap behind end =
          ap (λ (ls : List NumLine). lines ++ line ∷ ls) (append_assoc (own ++ close ∷ []) (gap ++ behind) (end ∷ [])
          ∙ append_assoc own (close ∷ []) ((gap ++ behind) ++ end ∷ [])
          ∙ ap (λ (ls : List NumLine). own ++ close ∷ ls) (append_assoc gap behind (end ∷ [])))
          ∙ sym (append_assoc lines (line ∷ []) (own ++ close ∷ (gap ++ (behind ++ end ∷ []))))

  member_held : (part : NumLine) (initial : Block) (procs : List Procedure) (head : NumLine) (body : Block) (before own : List NumLine) → OwnerHeld units (OfMember part initial procs head) before → IsBlock 0 stands.Unit body own → lines ≡ before ++ own →
      HeldBy (ends_body units (OfMember part initial procs head) body line) all
  member_held part initial procs head body before own h b e =
      let p : Procedure = record { head = head; body = body; close = line } in
      by_test (closes_procedure (role_of head.item) (role_of line.item)) (λ o. HeldBy o all) (Some (reading units (Between part initial (procs ++ p ∷ [])))) None
      (λ c gap more behind end g m x.
      subst (λ (qs : List Procedure). UnitsTo (units ++ ModuleUnit (module_of part initial qs end) ∷ []) (all ++ (gap ++ (behind ++ end ∷ [])))) (sym (append_assoc procs (p ∷ []) more))
      (subst (λ (ls : List NumLine). UnitsTo (units ++ ModuleUnit (module_of part initial (procs ++ p ∷ more) end) ∷ []) ls) (ahead lines before own line (gap ++ (behind ++ end ∷ [])) e)
      (h.1 body own line gap more behind end b c g m x)))
      (λ c. tt)

  initial_held : (part : NumLine) (initial : Block) (before own : List NumLine) → OwnerHeld units (OfInitial part) before → IsBlock 0 stands.Block initial own → lines ≡ before ++ own →
      HeldBy (in_module units part initial [] line) all
  initial_held part initial before own h b e =
      in_module_held part initial [] (λ more behind end m x.
      subst (λ (ls : List NumLine). UnitsTo (units ++ ModuleUnit (module_of part initial more end) ∷ []) ls) (sym (append_assoc before own (behind ++ end ∷ [])) ∙ ap (λ (ls : List NumLine). ls ++ (behind ++ end ∷ [])) (sym e))
      (h initial own more behind end b m x))

  -- a line that ends a body
  ends_held : (owner : Owner) (stmts : List Stmt) → BodyHeld units owner stmts [] lines → HeldBy (ends_body units owner (block_of stmts) line) all
  ends_held (OfProgram name head first) stmts h = program_held name head first (stmts_of stmts) h.0 h.1 h.2 h.3 h.4 (role_of line.item) refl
  ends_held (OfProcedure head) stmts h = procedure_held head (stmts_of stmts) h.0 h.1 h.2 h.3 h.4
  ends_held (OfInitial part) stmts h = initial_held part (stmts_of stmts) h.0 h.1 h.2 h.3 h.4
  ends_held (OfMember part initial procs head) stmts h = member_held part initial procs head (stmts_of stmts) h.0 h.1 h.2 h.3 h.4

  -- a line that divides or closes a construct
  construct_held : (owner : Owner) (stmts : List Stmt) (level : Level) (levels : List Level) → BodyHeld units owner stmts (level ∷ levels) lines →
      (o : Option Construct) → divides level.construct (role_of line.item) ≡ o → HeldBy (in_construct units owner stmts level levels line o) all
  construct_held owner stmts level levels h (Some d) e = body_divided units owner stmts level levels line d lines h e
  construct_held owner stmts level levels h None e =
      by_test (closes level.construct (role_of line.item)) (λ o. HeldBy o all) (Some (reading units (closed_construct owner stmts level levels line))) None
      (λ c. body_closed units owner stmts level levels line lines h c) (λ c. tt)

  turns_held : (owner : Owner) (stmts : List Stmt) (levels : List Level) → BodyHeld units owner stmts levels lines → HeldBy (turns units owner stmts levels line) all
  turns_held owner stmts [] h = ends_held owner stmts h
  turns_held owner stmts (level ∷ levels) h = construct_held owner stmts level levels h (divides level.construct (role_of line.item)) refl

  nests_held : (owner : Owner) (stmts : List Stmt) (levels : List Level) → BodyHeld units owner stmts levels lines → (o : Option Construct) → opens (role_of line.item) ≡ o → HeldBy (nests units owner stmts levels line o) all
  nests_held owner stmts levels h None e = turns_held owner stmts levels h
  nests_held owner stmts levels h (Some c) e =
      let may : Bool = may_open (around owner levels) c in
      by_test (may && ltb (length levels) OPEN_BLOCKS) (λ o. HeldBy o all) (Some (reading units (opened_construct owner stmts levels c line))) None
      (λ t. body_opened units owner stmts levels line c lines h e (and_left may (ltb (length levels) OPEN_BLOCKS) t) (ltb-true (length levels) OPEN_BLOCKS (and_right may (ltb (length levels) OPEN_BLOCKS) t)))
      (λ t. tt)

  -- a line of an open body
  body_held : (owner : Owner) (stmts : List Stmt) (levels : List Level) → BodyHeld units owner stmts levels lines → HeldBy (in_body units owner stmts levels line) all
  body_held owner stmts levels h =
      by_test (is_left_out (around owner levels) (role_of line.item)) (λ o. HeldBy o all) (Some (reading units (Within owner stmts levels)))
      (cond (may_stand (around owner levels) (role_of line.item)) (Some (reading units (with_stmt owner stmts levels (Single line)))) (nests units owner stmts levels line (opens (role_of line.item))))
      (λ l. body_left_out units owner stmts levels line lines h l)
      (λ l. by_test (may_stand (around owner levels) (role_of line.item)) (λ o. HeldBy o all) (Some (reading units (with_stmt owner stmts levels (Single line)))) (nests units owner stmts levels line (opens (role_of line.item)))
      (λ s. body_stands units owner stmts levels line lines h s)
      (λ s. nests_held owner stmts levels h (opens (role_of line.item)) refl))

  -- a line behind a procedure of a module
  between_held : (part : NumLine) (initial : Block) (procs : List Procedure) → ModuleHeld units part initial procs lines → HeldBy (between units part initial procs line) all
  between_held part initial procs h =
      by_test (is_remark (role_of line.item)) (λ o. HeldBy o all) (Some (reading units (Between part initial procs))) (in_module units part initial procs line)
      (λ r gap more behind end g m x.
      subst (λ (ls : List NumLine). UnitsTo (units ++ ModuleUnit (module_of part initial (procs ++ more) end) ∷ []) ls) (sym (append_assoc lines (line ∷ []) (gap ++ (behind ++ end ∷ []))))
      (h (line ∷ gap) more behind end (r, g) m x))
      (λ r. in_module_held part initial procs (λ more behind end m x. h [] more behind end tt m x))

-- ---- where nothing is open

waited_block : (lines : List NumLine) → AreRemarks lines → IsBlock 0 stands.Unit (stmts_of (waited lines)) lines
waited_block [] h = refl
waited_block (line ∷ lines) h = (line ∷ [], lines, (remark_stands (role_of line.item) h.0, refl), waited_block lines h.1, refl)
  where
    remark_stands : (x : Role) → is_remark x ≡ true → may_stand stands.Unit x ≡ true
    remark_stands role.Remark h = refl
    remark_stands role.Plain h = absurd (cc)
    remark_stands role.Defines h = absurd (cc)
    remark_stands (role.Opens d) h = absurd (cc)
    remark_stands (role.Divides d) h = absurd (cc)
    remark_stands (role.Closes k) h = absurd (cc)
    remark_stands role.BeginsProgram h = absurd (cc)
    remark_stands role.BeginsSub h = absurd (cc)
    remark_stands role.BeginsFunction h = absurd (cc)
    remark_stands role.BeginsModule h = absurd (cc)
    remark_stands role.EndsProgram h = absurd (cc)
    remark_stands role.EndsModule h = absurd (cc)

-- a program without PROGRAM begins with the remarks that wait
main_held : (units : List SourceUnit) (first : ℕ) (waiting lines front : List NumLine) → UnitsTo units front → AreRemarks waiting → lines ≡ front ++ waiting → BodyHeld units (OfProgram main_name None first) (waited waiting) [] lines
main_held units first waiting lines front h w e = (
  front,
  waiting,
  (λ body own close b x.
      units_one units (ProgramUnit (record { name = main_name; head = None; body = body; close = close })) front [] (own ++ close ∷ []) h refl ([], own, (refl, refl), b, x, refl)),
  waited_block waiting w,
  e,
)

-- a body begins behind the remarks that wait and its first line
began_held : (units : List SourceUnit) (owner : Owner) (lines front waiting : List NumLine) (line : NumLine) → lines ≡ front ++ waiting → OwnerHeld units owner (front ++ (waiting ++ line ∷ [])) → Held (began units owner) (lines ++ line ∷ [])
began_held units owner lines front waiting line e h = (
  front ++ (waiting ++ line ∷ []),
  [],
  h,
  refl,
  ap (λ (ls : List NumLine). ls ++ line ∷ []) e ∙ append_assoc front waiting (line ∷ []) ∙ sym (append-nil (front ++ (waiting ++ line ∷ []))),
)

-- the lines in front of a unit, its first line, and the others
first_line_in : (front waiting : List NumLine) (line : NumLine) (rest : List NumLine) → front ++ (waiting ++ (line ∷ rest)) ≡ (front ++ (waiting ++ line ∷ [])) ++ rest
first_line_in front waiting line rest =
    ap (λ (ls : List NumLine). front ++ ls) (sym (append_assoc waiting (line ∷ []) rest)) ∙ sym (append_assoc front (waiting ++ line ∷ []) rest)

module _ (units : List SourceUnit) (front waiting lines : List NumLine) (line : NumLine) (held : UnitsTo units front) (remarks : AreRemarks waiting) (are : lines ≡ front ++ waiting) where
  abbrev with_line : List NumLine
  with_line = lines ++ line ∷ []

  named_held : role_of line.item ≡ role.BeginsProgram → (o : Option (List ℕ)) → program_name line.item ≡ o → HeldBy (begins_program units line o) with_line
  named_held x None e = tt
  named_held x (Some name) e =
      began_held units (OfProgram name (Some line) line.line) lines front waiting line are
      (λ body own close b c.
      let u : SourceUnit = ProgramUnit (record { name = name; head = Some line; body = body; close = close }) in
      subst (λ (ls : List NumLine). UnitsTo (units ++ u ∷ []) ls) (first_line_in front waiting line (own ++ close ∷ []))
      (units_one units u front waiting (line ∷ (own ++ close ∷ [])) held remarks (line ∷ [], own, (x, e, refl), b, c, refl)))

  procedure_begins_held : begins_procedure (role_of line.item) ≡ true → Held (began units (OfProcedure line)) with_line
  procedure_begins_held begins =
      began_held units (OfProcedure line) lines front waiting line are (
        begins,
        λ body own close b c.
            let u : SourceUnit = ProcedureUnit (record { head = line; body = body; close = close }) in
            subst (λ (ls : List NumLine). UnitsTo (units ++ u ∷ []) ls) (first_line_in front waiting line (own ++ close ∷ []))
            (units_one units u front waiting (line ∷ (own ++ close ∷ [])) held remarks (own, b, c, refl)),
      )

  module_begins_held : role_of line.item ≡ role.BeginsModule → Held (began units (OfInitial line)) with_line
  module_begins_held x =
      began_held units (OfInitial line) lines front waiting line are
      (λ initial own procs behind close b m c.
      let u : SourceUnit = ModuleUnit (module_of line initial procs close) in
      subst (λ (ls : List NumLine). UnitsTo (units ++ u ∷ []) ls) (first_line_in front waiting line (own ++ (behind ++ close ∷ [])))
      (units_one units u front waiting (line ∷ (own ++ (behind ++ close ∷ []))) held remarks (own, behind, x, b, m, c, refl)))

  main_begins_held : HeldBy (begins_main units waiting line) with_line
  main_begins_held =
      let first : ℕ = first_of_waiting waiting line in
      body_held units lines line (OfProgram main_name None first) (waited waiting) [] (main_held units first waiting lines front held remarks are)

  begins_held : (x : Role) → role_of line.item ≡ x → HeldBy (begins_unit units waiting line x) with_line
  begins_held role.BeginsProgram x = named_held x (program_name line.item) refl
  begins_held role.BeginsSub x = procedure_begins_held (ap begins_procedure x)
  begins_held role.BeginsFunction x = procedure_begins_held (ap begins_procedure x)
  begins_held role.BeginsModule x = module_begins_held x
  begins_held role.Remark x = main_begins_held
  begins_held role.Plain x = main_begins_held
  begins_held role.Defines x = main_begins_held
  begins_held (role.Opens d) x = main_begins_held
  begins_held (role.Divides d) x = main_begins_held
  begins_held (role.Closes k) x = main_begins_held
  begins_held role.EndsProgram x = main_begins_held
  begins_held role.EndsModule x = main_begins_held

  outside_held : HeldBy (outside units waiting line) with_line
  outside_held =
      by_test (is_remark (role_of line.item)) (λ o. HeldBy o with_line) (Some (reading units (Outside (waiting ++ line ∷ [])))) (begins_unit units waiting line (role_of line.item))
      (λ r. (front, held, remarks_more waiting line remarks r, ap (λ (ls : List NumLine). ls ++ line ∷ []) are ∙ append_assoc front waiting (line ∷ [])))
      (λ r. begins_held (role_of line.item) refl)

-- ---- all lines

line_held : (units : List SourceUnit) (o : Open) (lines : List NumLine) (line : NumLine) → OpenHeld units o lines → HeldBy (line_read (reading units o) line) (lines ++ line ∷ [])
line_held units (Outside waiting) lines line h = outside_held units h.0 waiting lines line h.1 h.2 h.3
line_held units (Within owner stmts levels) lines line h = body_held units lines line owner stmts levels h
line_held units (Between part initial procs) lines line h = between_held units lines line part initial procs h

-- what is read in the end
abbrev HeldIn : Result Reading ℕ → List NumLine → Type 0
HeldIn (Ok r) lines = Held r lines
HeldIn (Err n) lines = Unit {0}

held_on : (o : Option Reading) (number : ℕ) (before lines : List NumLine) (go : Reading → Result Reading ℕ) → HeldBy o before → ((r : Reading) → Held r before → HeldIn (go r) lines) → HeldIn (read_on o number go) lines
held_on None number before lines go h later = tt
held_on (Some r) number before lines go h later = later r h

read_held : (r : Reading) (before lines : List NumLine) → Held r before → HeldIn (read r lines) (before ++ lines)
unfolding read
read_held r before [] h = subst (λ (ls : List NumLine). Held r ls) (sym (append-nil before)) h
read_held r before (line ∷ lines) h =
    subst (λ (ls : List NumLine). HeldIn (read r (line ∷ lines)) ls) (append_assoc before (line ∷ []) lines)
    (held_on (line_read r line) line.line (before ++ line ∷ []) ((before ++ line ∷ []) ++ lines) (λ (r1 : Reading). read r1 lines) (line_held r.units r.opened before line h)
    (λ r1 h1. read_held r1 (before ++ line ∷ []) lines h1))

-- before the first line
nothing_held : Held nothing_read []
nothing_held = ([], (λ more lines h. h), tt, refl)

remarks_are_units : (units : List SourceUnit) (front waiting : List NumLine) → UnitsTo units front → AreRemarks waiting → AreUnits units (front ++ waiting)
remarks_are_units units front waiting h w = subst (λ (us : List SourceUnit). AreUnits us (front ++ waiting)) (append-nil units) (h [] waiting w)

-- what is read of a file is what its lines are
pub read_is : (units : List SourceUnit) (waiting lines : List NumLine) → read nothing_read lines ≡ Ok (reading units (Outside waiting)) → AreUnits units lines
read_is units waiting lines e =
    let h = subst (λ (r : Result Reading ℕ). HeldIn r lines) e (read_held nothing_read [] lines nothing_held) in
    subst (λ (ls : List NumLine). AreUnits units ls) (sym h.3) (remarks_are_units units h.0 waiting h.1 h.2)

pub reading_held : (r : Reading) (lines : List NumLine) → read nothing_read lines ≡ Ok r → Held r lines
reading_held r lines e = subst (λ (x : Result Reading ℕ). HeldIn x lines) e (read_held nothing_read [] lines nothing_held)
