-- Lines that are units are read as those units.
use Rattle.std.proofs.Common.{◌≡◌, ℕ, Bool, true, false, cond, List, [], ◌∷◌, ◌++◌, length, Option, Some, None, Result, Ok, Err, refl, ap, sym, ◌∙◌, subst, append_assoc, append-nil}
use Rattle.bas_ast.specs.Tree.{NumLine, Stmt, Single, Nest, Sections, NoSections, MoreSections, Block, NoStmts, MoreStmts, Program, Procedure, Module, SourceUnit, ProgramUnit, ProcedureUnit, ModuleUnit}
use Rattle.bas_ast.specs.BlockTree.{stmts_of}
use Rattle.bas_nest.specs.Constructs.{role_of, program_name, opens, may_stand, is_remark, begins_procedure, closes_procedure}
use Rattle.bas_nest.specs.declared.construct.Construct.{Construct}
use Rattle.bas_nest.specs.declared.construct.Around.TheVariants as stands
use Rattle.bas_nest.specs.declared.construct.Role.{Role}
use Rattle.bas_nest.specs.declared.construct.Role.TheVariants as role
use Rattle.bas_nest.specs.Units.{IsRemark, AreRemarks, IsBlock, IsHead, main_name, IsProcedure, AreProcedures, IsUnit, LeftBefore, LeftOut, AreUnits}
use Rattle.bas_nest.specs.Reading.{Level, Owner, OfProgram, OfProcedure, OfInitial, OfMember, Open, Outside, Within, Between, Reading, reading, began, with_unit, in_module, ends_module, ends_program, ends_body, member, module_of, waited, first_of_waiting, begins_main, begins_program, begins_unit, outside, between, in_body, line_read, read_on, read}
use Rattle.bas_nest.proofs.Roles.{turning, beginning_turns, procedure_begins, procedure_turns, not_remark}
use Rattle.bas_nest.proofs.Complete.{list_of, block_of_list, took, block_reads, body_turns, body_alone}

-- remarks wait where nothing is open
remarks_wait : (units : List SourceUnit) (waiting lines more : List NumLine) → AreRemarks lines → read (reading units (Outside waiting)) (lines ++ more) ≡ read (reading units (Outside (waiting ++ lines))) more
remarks_wait units waiting [] more h = ap (λ (w : List NumLine). read (reading units (Outside w)) more) (sym (append-nil waiting))
remarks_wait units waiting (line ∷ lines) more h =
    took (reading units (Outside waiting)) (reading units (Outside (waiting ++ line ∷ []))) line (lines ++ more)
    (ap (λ (b : Bool). cond b (Some (reading units (Outside (waiting ++ line ∷ [])))) (begins_unit units waiting line (role_of line.item))) h.0)
    ∙ remarks_wait units (waiting ++ line ∷ []) lines more h.1
    ∙ ap (λ (w : List NumLine). read (reading units (Outside w)) more) (append_assoc waiting (line ∷ []) lines)

-- a line of a known role that is no remark, where nothing is open
outside_begins : (units : List SourceUnit) (waiting : List NumLine) (line : NumLine) (x : Role) → role_of line.item ≡ x → is_remark x ≡ false → outside units waiting line ≡ begins_unit units waiting line x
outside_begins units waiting line x e n =
    ap (λ (y : Role). cond (is_remark y) (Some (reading units (Outside (waiting ++ line ∷ [])))) (begins_unit units waiting line y)) e
    ∙ ap (λ (b : Bool). cond b (Some (reading units (Outside (waiting ++ line ∷ [])))) (begins_unit units waiting line x)) n

-- a line of no body's role ends the body in which nothing is open
at_end : (units : List SourceUnit) (owner : Owner) (b : Block) (line : NumLine) → turning (role_of line.item) ≡ true → in_body units owner (list_of b) [] line ≡ ends_body units owner b line
at_end units owner b line h = body_turns units owner (list_of b) [] line h ∙ ap (λ (c : Block). ends_body units owner c line) (block_of_list b)

-- END
program_ends : (units : List SourceUnit) (name : List ℕ) (head : Option NumLine) (first : ℕ) (b : Block) (close : NumLine) (more : List NumLine) → role_of close.item ≡ role.EndsProgram →
    read (reading units (Within (OfProgram name head first) (list_of b) [])) (close ∷ more)
    ≡ read (with_unit units (ProgramUnit (record { name = name; head = head; body = b; close = close }))) more
program_ends units name head first b close more e =
    took (reading units (Within (OfProgram name head first) (list_of b) [])) (with_unit units (ProgramUnit (record { name = name; head = head; body = b; close = close }))) close more
    (at_end units (OfProgram name head first) b close (ap turning e) ∙ ap (ends_program units name head b close) e)

-- the body of a program, and END
program_reads : (units : List SourceUnit) (name : List ℕ) (head : Option NumLine) (first : ℕ) (b : Block) (close : NumLine) (own more : List NumLine) → IsBlock 0 stands.Unit b own → role_of close.item ≡ role.EndsProgram →
    read (began units (OfProgram name head first)) (own ++ close ∷ more)
    ≡ read (with_unit units (ProgramUnit (record { name = name; head = head; body = b; close = close }))) more
program_reads units name head first b close own more h e =
    block_reads units (OfProgram name head first) [] [] b own (close ∷ more) h ∙ program_ends units name head first b close more e

waited_more : (waiting : List NumLine) (line : NumLine) → waited waiting ++ Single line ∷ [] ≡ waited (waiting ++ line ∷ [])
waited_more [] line = refl
waited_more (first ∷ waiting) line = ap (λ (ss : List Stmt). Single first ∷ ss) (waited_more waiting line)

first_more : (waiting : List NumLine) (line next : NumLine) → first_of_waiting waiting line ≡ first_of_waiting (waiting ++ line ∷ []) next
first_more [] line next = refl
first_more (first ∷ waiting) line next = refl

-- a program without PROGRAM, whose lines so far are remarks that wait
main_at : List SourceUnit → ℕ → List NumLine → Reading
main_at units first waiting = reading units (Within (OfProgram main_name None first) (waited waiting) [])

-- the first line that is no remark
late_line : (units : List SourceUnit) (first : ℕ) (waiting : List NumLine) (line : NumLine) (more : List NumLine) (x : Role) → first ≡ first_of_waiting waiting line → role_of line.item ≡ x → is_remark x ≡ false →
    begins_unit units waiting line x ≡ begins_main units waiting line →
    read (reading units (Outside waiting)) (line ∷ more) ≡ read (main_at units first waiting) (line ∷ more)
unfolding read main_at
late_line units first waiting line more x f e n b =
    ap (λ (o : Option Reading). read_on o line.line (λ (r : Reading). read r more))
    (outside_begins units waiting line x e n ∙ b ∙ ap (λ (k : ℕ). in_body units (OfProgram main_name None k) (waited waiting) [] line) (sym f))

-- a remark that waits, and a remark of the program
late_remark : (units : List SourceUnit) (first : ℕ) (waiting : List NumLine) (line : NumLine) (more : List NumLine) → role_of line.item ≡ role.Remark →
    read (reading units (Outside (waiting ++ line ∷ []))) more ≡ read (main_at units first (waiting ++ line ∷ [])) more →
    read (reading units (Outside waiting)) (line ∷ more) ≡ read (main_at units first waiting) (line ∷ more)
unfolding main_at
late_remark units first waiting line more e later =
    took (reading units (Outside waiting)) (reading units (Outside (waiting ++ line ∷ []))) line more
    (ap (λ (y : Role). cond (is_remark y) (Some (reading units (Outside (waiting ++ line ∷ [])))) (begins_unit units waiting line y)) e)
    ∙ later
    ∙ sym (took (reading units (Within (OfProgram main_name None first) (waited waiting) [])) (reading units (Within (OfProgram main_name None first) (waited waiting ++ Single line ∷ []) [])) line more
    (body_alone units (OfProgram main_name None first) (waited waiting) [] line (ap (may_stand stands.Unit) e))
    ∙ ap (λ (ss : List Stmt). read (reading units (Within (OfProgram main_name None first) ss [])) more) (waited_more waiting line))

-- a line that stands alone at the top of a program
late_single : (units : List SourceUnit) (first : ℕ) (waiting : List NumLine) (line : NumLine) (more : List NumLine) (x : Role) → first ≡ first_of_waiting waiting line → role_of line.item ≡ x → may_stand stands.Unit x ≡ true →
    read (reading units (Outside (waiting ++ line ∷ []))) more ≡ read (main_at units first (waiting ++ line ∷ [])) more →
    read (reading units (Outside waiting)) (line ∷ more) ≡ read (main_at units first waiting) (line ∷ more)
late_single units first waiting line more role.Remark f e h later = late_remark units first waiting line more e later
late_single units first waiting line more role.Plain f e h later = late_line units first waiting line more role.Plain f e refl refl
late_single units first waiting line more role.Defines f e h later = late_line units first waiting line more role.Defines f e refl refl
late_single units first waiting line more (role.Opens c) f e h later = absurd (cc)
late_single units first waiting line more (role.Divides d) f e h later = absurd (cc)
late_single units first waiting line more (role.Closes k) f e h later = absurd (cc)
late_single units first waiting line more role.BeginsProgram f e h later = absurd (cc)
late_single units first waiting line more role.BeginsSub f e h later = absurd (cc)
late_single units first waiting line more role.BeginsFunction f e h later = absurd (cc)
late_single units first waiting line more role.BeginsModule f e h later = absurd (cc)
late_single units first waiting line more role.EndsProgram f e h later = absurd (cc)
late_single units first waiting line more role.EndsModule f e h later = absurd (cc)

-- a line that opens a construct
late_opens : (units : List SourceUnit) (first : ℕ) (waiting : List NumLine) (line : NumLine) (more : List NumLine) (x : Role) (c : Construct) → first ≡ first_of_waiting waiting line → role_of line.item ≡ x → opens x ≡ Some c →
    read (reading units (Outside waiting)) (line ∷ more) ≡ read (main_at units first waiting) (line ∷ more)
late_opens units first waiting line more role.Remark c f e h = absurd (cc)
late_opens units first waiting line more role.Plain c f e h = absurd (cc)
late_opens units first waiting line more role.Defines c f e h = absurd (cc)
late_opens units first waiting line more (role.Opens d) c f e h = late_line units first waiting line more (role.Opens d) f e refl refl
late_opens units first waiting line more (role.Divides d) c f e h = absurd (cc)
late_opens units first waiting line more (role.Closes k) c f e h = absurd (cc)
late_opens units first waiting line more role.BeginsProgram c f e h = absurd (cc)
late_opens units first waiting line more role.BeginsSub c f e h = absurd (cc)
late_opens units first waiting line more role.BeginsFunction c f e h = absurd (cc)
late_opens units first waiting line more role.BeginsModule c f e h = absurd (cc)
late_opens units first waiting line more role.EndsProgram c f e h = absurd (cc)
late_opens units first waiting line more role.EndsModule c f e h = absurd (cc)

-- the number of the first line of a program
abbrev first_number : List NumLine → NumLine → ℕ
first_number [] close = close.line
first_number (line ∷ lines) close = line.line

abbrev first_of_all : List NumLine → List NumLine → NumLine → ℕ
first_of_all [] own close = first_number own close
first_of_all (line ∷ waiting) own close = line.line

first_is : (waiting own : List NumLine) (line close : NumLine) (behind : List NumLine) → own ≡ line ∷ behind → first_of_all waiting own close ≡ first_of_waiting waiting line
first_is [] own line close behind e = ap (λ (ls : List NumLine). first_number ls close) e
first_is (first ∷ waiting) own line close behind e = refl

first_end : (waiting own : List NumLine) (close : NumLine) → own ≡ [] → first_of_all waiting own close ≡ first_of_waiting waiting close
first_end [] own close e = ap (λ (ls : List NumLine). first_number ls close) e
first_end (first ∷ waiting) own close e = refl

-- the lines of a program's body are read alike where the program began with them
late : (units : List SourceUnit) (first : ℕ) (waiting : List NumLine) (b : Block) (own : List NumLine) (close : NumLine) (more : List NumLine) → first ≡ first_of_all waiting own close → IsBlock 0 stands.Unit b own → role_of close.item ≡ role.EndsProgram →
    read (reading units (Outside waiting)) (own ++ close ∷ more) ≡ read (main_at units first waiting) (own ++ close ∷ more)
late units first waiting NoStmts own close more f h e =
    ap (λ (ls : List NumLine). read (reading units (Outside waiting)) (ls ++ close ∷ more)) h
    ∙ late_line units first waiting close more role.EndsProgram (f ∙ first_end waiting own close h) e refl refl
    ∙ sym (ap (λ (ls : List NumLine). read (main_at units first waiting) (ls ++ close ∷ more)) h)
late units first waiting (MoreStmts (Single line) rest) own close more f h e =
    let behind : List NumLine = h.1 in
    let is : own ≡ line ∷ behind = h.4 ∙ ap (λ (ls : List NumLine). ls ++ behind) h.2.1 in
    ap (λ (ls : List NumLine). read (reading units (Outside waiting)) (ls ++ close ∷ more)) is
    ∙ late_single units first waiting line (behind ++ close ∷ more) (role_of line.item) (f ∙ first_is waiting own line close behind is) refl h.2.0
    (late units first (waiting ++ line ∷ []) rest behind close more (f ∙ first_is waiting own line close behind is ∙ first_kept waiting line behind close) h.3 e)
    ∙ sym (ap (λ (ls : List NumLine). read (main_at units first waiting) (ls ++ close ∷ more)) is)
  where
    first_kept : (waiting : List NumLine) (line : NumLine) (behind : List NumLine) (close : NumLine) → first_of_waiting waiting line ≡ first_of_all (waiting ++ line ∷ []) behind close
    first_kept [] line behind close = refl
    first_kept (first ∷ waiting) line behind close = refl
late units first waiting (MoreStmts (Nest NoSections end) rest) own close more f h e = absurd (h.2)
late units first waiting (MoreStmts (Nest (MoreSections head body sections) end) rest) own close more f h e =
    let inner : List NumLine = h.2.1 ++ h.2.2 in
    let behind : List NumLine = inner ++ h.1 in
    let is : own ≡ head ∷ behind = h.4 ∙ ap (λ (ls : List NumLine). ls ++ h.1) h.2.8 in
    ap (λ (ls : List NumLine). read (reading units (Outside waiting)) (ls ++ close ∷ more)) is
    ∙ late_opens units first waiting head (behind ++ close ∷ more) (role_of head.item) h.2.0 (f ∙ first_is waiting own head close behind is) refl h.2.3
    ∙ sym (ap (λ (ls : List NumLine). read (main_at units first waiting) (ls ++ close ∷ more)) is)

-- the first line of an external procedure, where nothing is open
procedure_begun : (units : List SourceUnit) (waiting : List NumLine) (line : NumLine) (x : Role) → begins_procedure x ≡ true → begins_unit units waiting line x ≡ Some (began units (OfProcedure line))
procedure_begun units waiting line role.Remark h = absurd (cc)
procedure_begun units waiting line role.Plain h = absurd (cc)
procedure_begun units waiting line role.Defines h = absurd (cc)
procedure_begun units waiting line (role.Opens d) h = absurd (cc)
procedure_begun units waiting line (role.Divides d) h = absurd (cc)
procedure_begun units waiting line (role.Closes k) h = absurd (cc)
procedure_begun units waiting line role.BeginsProgram h = absurd (cc)
procedure_begun units waiting line role.BeginsSub h = refl
procedure_begun units waiting line role.BeginsFunction h = refl
procedure_begun units waiting line role.BeginsModule h = absurd (cc)
procedure_begun units waiting line role.EndsProgram h = absurd (cc)
procedure_begun units waiting line role.EndsModule h = absurd (cc)

-- a first line with a unit of its own, behind remarks
unit_begins : (units : List SourceUnit) (left : List NumLine) (line : NumLine) (more : List NumLine) (x : Role) (r : Reading) → AreRemarks left → role_of line.item ≡ x → is_remark x ≡ false → begins_unit units left line x ≡ Some r →
    read (reading units (Outside [])) (left ++ line ∷ more) ≡ read r more
unit_begins units left line more x r h e n b =
    remarks_wait units [] left (line ∷ more) h
    ∙ took (reading units (Outside left)) r line more (outside_begins units left line x e n ∙ b)

-- the body of a procedure of its own, and its closing line
procedure_reads : (units : List SourceUnit) (head : NumLine) (b : Block) (close : NumLine) (own more : List NumLine) → IsBlock 0 stands.Unit b own → closes_procedure (role_of head.item) (role_of close.item) ≡ true →
    read (began units (OfProcedure head)) (own ++ close ∷ more)
    ≡ read (with_unit units (ProcedureUnit (record { head = head; body = b; close = close }))) more
procedure_reads units head b close own more h e =
    let whole : Reading = with_unit units (ProcedureUnit (record { head = head; body = b; close = close })) in
    block_reads units (OfProcedure head) [] [] b own (close ∷ more) h
    ∙ took (reading units (Within (OfProcedure head) (list_of b) [])) whole close more
    (at_end units (OfProcedure head) b close (procedure_turns (role_of head.item) (role_of close.item) e)
    ∙ ap (λ (c : Bool). cond c (Some whole) None) e)

-- a procedure of a module
member_reads : (units : List SourceUnit) (part : NumLine) (initial : Block) (procs : List Procedure) (p : Procedure) (own more : List NumLine) → IsBlock 0 stands.Unit p.body own → closes_procedure (role_of p.head.item) (role_of p.close.item) ≡ true →
    read (reading units (member part initial procs p.head)) (own ++ p.close ∷ more) ≡ read (reading units (Between part initial (procs ++ p ∷ []))) more
member_reads units part initial procs p own more h e =
    let behind : Reading = reading units (Between part initial (procs ++ p ∷ [])) in
    block_reads units (OfMember part initial procs p.head) [] [] p.body own (p.close ∷ more) h
    ∙ took (reading units (Within (OfMember part initial procs p.head) (list_of p.body) [])) behind p.close more
    (at_end units (OfMember part initial procs p.head) p.body p.close (procedure_turns (role_of p.head.item) (role_of p.close.item) e)
    ∙ ap (λ (c : Bool). cond c (Some behind) None) e)

-- remarks behind a procedure of a module
gap_left : (units : List SourceUnit) (part : NumLine) (initial : Block) (procs : List Procedure) (lines more : List NumLine) → AreRemarks lines →
    read (reading units (Between part initial procs)) (lines ++ more) ≡ read (reading units (Between part initial procs)) more
gap_left units part initial procs [] more h = refl
gap_left units part initial procs (line ∷ lines) more h =
    let r : Reading = reading units (Between part initial procs) in
    took r r line (lines ++ more) (ap (λ (b : Bool). cond b (Some r) (in_module units part initial procs line)) h.0) ∙ gap_left units part initial procs lines more h.1

-- a line behind a procedure that is no remark
between_module : (units : List SourceUnit) (part : NumLine) (initial : Block) (procs : List Procedure) (line : NumLine) → is_remark (role_of line.item) ≡ false → between units part initial procs line ≡ in_module units part initial procs line
between_module units part initial procs line h = ap (λ (b : Bool). cond b (Some (reading units (Between part initial procs))) (in_module units part initial procs line)) h

module_member : (units : List SourceUnit) (part : NumLine) (initial : Block) (procs : List Procedure) (line : NumLine) → begins_procedure (role_of line.item) ≡ true → in_module units part initial procs line ≡ Some (reading units (member part initial procs line))
module_member units part initial procs line h = ap (λ (b : Bool). cond b (Some (reading units (member part initial procs line))) (ends_module units part initial procs line (role_of line.item))) h

module_end : (units : List SourceUnit) (part : NumLine) (initial : Block) (procs : List Procedure) (line : NumLine) → role_of line.item ≡ role.EndsModule → in_module units part initial procs line ≡ Some (with_unit units (ModuleUnit (module_of part initial procs line)))
module_end units part initial procs line e = ap (λ (x : Role). cond (begins_procedure x) (Some (reading units (member part initial procs line))) (ends_module units part initial procs line x)) e

-- the procedures of a module behind one of them, and END MODULE
procs_read : (units : List SourceUnit) (part : NumLine) (initial : Block) (procs ps : List Procedure) (close : NumLine) (lines more : List NumLine) → AreProcedures ps lines → role_of close.item ≡ role.EndsModule →
    read (reading units (Between part initial procs)) (lines ++ close ∷ more) ≡ read (with_unit units (ModuleUnit (module_of part initial (procs ++ ps) close))) more
procs_read units part initial procs [] close lines more h e =
    ap (λ (ls : List NumLine). read (reading units (Between part initial procs)) (ls ++ close ∷ more)) h
    ∙ took (reading units (Between part initial procs)) (with_unit units (ModuleUnit (module_of part initial procs close))) close more
    (between_module units part initial procs close (ap is_remark e) ∙ module_end units part initial procs close e)
    ∙ ap (λ (qs : List Procedure). read (with_unit units (ModuleUnit (module_of part initial qs close))) more) (sym (append-nil procs))
procs_read units part initial procs (p ∷ ps) close lines more h e =
    let own : List NumLine = h.3.0 in
    let gap : List NumLine = h.1 in
    let behind : List NumLine = h.2 in
    let begins : begins_procedure (role_of p.head.item) ≡ true = procedure_begins (role_of p.head.item) (role_of p.close.item) h.3.2 in
    let is : lines ≡ p.head ∷ ((own ++ p.close ∷ []) ++ (gap ++ behind)) = h.6 ∙ ap (λ (ls : List NumLine). ls ++ (gap ++ behind)) h.3.3 in
    let rest : List NumLine = gap ++ (behind ++ close ∷ more) in
    ap (λ (ls : List NumLine). read (reading units (Between part initial procs)) (ls ++ close ∷ more)) is
    ∙ took (reading units (Between part initial procs)) (reading units (member part initial procs p.head)) p.head (((own ++ p.close ∷ []) ++ (gap ++ behind)) ++ close ∷ more)
    (between_module units part initial procs p.head (not_remark (role_of p.head.item) (beginning_turns (role_of p.head.item) begins)) ∙ module_member units part initial procs p.head begins)
    ∙ ap (read (reading units (member part initial procs p.head))) (three own p.close gap behind (close ∷ more))
    ∙ member_reads units part initial procs p own rest h.3.1 h.3.2
    ∙ gap_left units part initial (procs ++ p ∷ []) gap (behind ++ close ∷ more) h.4
    ∙ procs_read units part initial (procs ++ p ∷ []) ps close behind more h.5 e
    ∙ ap (λ (qs : List Procedure). read (with_unit units (ModuleUnit (module_of part initial qs close))) more) (append_assoc procs (p ∷ []) ps)
  where
    three : (own : List NumLine) (close : NumLine) (gap behind more : List NumLine) → ((own ++ close ∷ []) ++ (gap ++ behind)) ++ more ≡ own ++ close ∷ (gap ++ (behind ++ more))
    three own close gap behind more =
        append_assoc (own ++ close ∷ []) (gap ++ behind) more
        ∙ ap (λ (ls : List NumLine). (own ++ close ∷ []) ++ ls) (append_assoc gap behind more)
        ∙ append_assoc own (close ∷ []) (gap ++ (behind ++ more))

-- what stands behind the initial part of a module
initial_ends : (units : List SourceUnit) (part : NumLine) (initial : Block) (ps : List Procedure) (close : NumLine) (lines more : List NumLine) → AreProcedures ps lines → role_of close.item ≡ role.EndsModule →
    read (reading units (Within (OfInitial part) (list_of initial) [])) (lines ++ close ∷ more) ≡ read (with_unit units (ModuleUnit (module_of part initial ps close))) more
initial_ends units part initial [] close lines more h e =
    ap (λ (ls : List NumLine). read (reading units (Within (OfInitial part) (list_of initial) [])) (ls ++ close ∷ more)) h
    ∙ took (reading units (Within (OfInitial part) (list_of initial) [])) (with_unit units (ModuleUnit (module_of part initial [] close))) close more
    (at_end units (OfInitial part) initial close (ap turning e) ∙ module_end units part initial [] close e)
initial_ends units part initial (p ∷ ps) close lines more h e =
    let own : List NumLine = h.3.0 in
    let gap : List NumLine = h.1 in
    let behind : List NumLine = h.2 in
    let begins : begins_procedure (role_of p.head.item) ≡ true = procedure_begins (role_of p.head.item) (role_of p.close.item) h.3.2 in
    let is : lines ≡ p.head ∷ ((own ++ p.close ∷ []) ++ (gap ++ behind)) = h.6 ∙ ap (λ (ls : List NumLine). ls ++ (gap ++ behind)) h.3.3 in
    ap (λ (ls : List NumLine). read (reading units (Within (OfInitial part) (list_of initial) [])) (ls ++ close ∷ more)) is
    ∙ took (reading units (Within (OfInitial part) (list_of initial) [])) (reading units (member part initial [] p.head)) p.head (((own ++ p.close ∷ []) ++ (gap ++ behind)) ++ close ∷ more)
    (at_end units (OfInitial part) initial p.head (beginning_turns (role_of p.head.item) begins) ∙ module_member units part initial [] p.head begins)
    ∙ sym (took (reading units (Between part initial [])) (reading units (member part initial [] p.head)) p.head (((own ++ p.close ∷ []) ++ (gap ++ behind)) ++ close ∷ more)
    (between_module units part initial [] p.head (not_remark (role_of p.head.item) (beginning_turns (role_of p.head.item) begins)) ∙ module_member units part initial [] p.head begins))
    ∙ sym (ap (λ (ls : List NumLine). read (reading units (Between part initial [])) (ls ++ close ∷ more)) is)
    ∙ procs_read units part initial [] (p ∷ ps) close lines more h e

main_is : (units : List SourceUnit) (first : ℕ) (more : List NumLine) → read (main_at units first []) more ≡ read (began units (OfProgram main_name None first)) more
unfolding main_at
main_is units first more = refl

-- a program, by its first line
program_unit : (units : List SourceUnit) (p : Program) (head : Option NumLine) (left own more : List NumLine) → LeftBefore head left → (before body : List NumLine) → IsHead p.name head before → IsBlock 0 stands.Unit p.body body →
    role_of p.close.item ≡ role.EndsProgram → own ≡ before ++ (body ++ p.close ∷ []) →
    read (reading units (Outside [])) (left ++ (own ++ more)) ≡ read (with_unit units (ProgramUnit (record { name = p.name; head = head; body = p.body; close = p.close }))) more
program_unit units p (Some line) left own more l before body h b e is =
    ap (λ (ls : List NumLine). read (reading units (Outside [])) (left ++ (ls ++ more))) (is ∙ ap (λ (ls : List NumLine). ls ++ (body ++ p.close ∷ [])) h.2)
    ∙ ap (λ (ls : List NumLine). read (reading units (Outside [])) (left ++ line ∷ ls)) (append_assoc body (p.close ∷ []) more)
    ∙ unit_begins units left line (body ++ p.close ∷ more) role.BeginsProgram (began units (OfProgram p.name (Some line) line.line)) l h.0 refl (ap (begins_program units line) h.1)
    ∙ program_reads units p.name (Some line) line.line p.body p.close body more b e
program_unit units p None left own more l before body h b e is =
    let first : ℕ = first_of_all [] body p.close in
    ap (λ (ls : List NumLine). read (reading units (Outside [])) (ls ++ (own ++ more))) l
    ∙ ap (λ (ls : List NumLine). read (reading units (Outside [])) (ls ++ more)) (is ∙ ap (λ (ls : List NumLine). ls ++ (body ++ p.close ∷ [])) h.1)
    ∙ ap (read (reading units (Outside []))) (append_assoc body (p.close ∷ []) more)
    ∙ late units first [] p.body body p.close more refl b e
    ∙ main_is units first (body ++ p.close ∷ more)
    ∙ program_reads units main_name None first p.body p.close body more b e
    ∙ ap (λ (n : List ℕ). read (with_unit units (ProgramUnit (record { name = n; head = None; body = p.body; close = p.close }))) more) (sym h.0)

-- a unit and the remarks left out before it
unit_reads : (units : List SourceUnit) (u : SourceUnit) (left own more : List NumLine) → LeftOut u left → IsUnit u own →
    read (reading units (Outside [])) (left ++ (own ++ more)) ≡ read (with_unit units u) more
unit_reads units (ProgramUnit p) left own more l h = program_unit units p p.head left own more l h.0 h.1 h.2 h.3 h.4 h.5
unit_reads units (ProcedureUnit p) left own more l h =
    let begins : begins_procedure (role_of p.head.item) ≡ true = procedure_begins (role_of p.head.item) (role_of p.close.item) h.2 in
    ap (λ (ls : List NumLine). read (reading units (Outside [])) (left ++ (ls ++ more))) h.3
    ∙ ap (λ (ls : List NumLine). read (reading units (Outside [])) (left ++ p.head ∷ ls)) (append_assoc h.0 (p.close ∷ []) more)
    ∙ unit_begins units left p.head (h.0 ++ p.close ∷ more) (role_of p.head.item) (began units (OfProcedure p.head)) l refl (not_remark (role_of p.head.item) (beginning_turns (role_of p.head.item) begins)) (procedure_begun units left p.head (role_of p.head.item) begins)
    ∙ procedure_reads units p.head p.body p.close h.0 more h.1 h.2
unit_reads units (ModuleUnit m) left own more l h =
    ap (λ (ls : List NumLine). read (reading units (Outside [])) (left ++ (ls ++ more))) h.6
    ∙ ap (λ (ls : List NumLine). read (reading units (Outside [])) (left ++ m.head ∷ ls)) (append_assoc h.0 (h.1 ++ m.close ∷ []) more ∙ ap (λ (ls : List NumLine). h.0 ++ ls) (append_assoc h.1 (m.close ∷ []) more))
    ∙ unit_begins units left m.head (h.0 ++ (h.1 ++ m.close ∷ more)) role.BeginsModule (began units (OfInitial m.head)) l h.2 refl refl
    ∙ block_reads units (OfInitial m.head) [] [] m.initial h.0 (h.1 ++ m.close ∷ more) h.3
    ∙ initial_ends units m.head m.initial m.procs m.close h.1 more h.4 h.5

-- no line is left
nothing_more : (before : List SourceUnit) (lines : List NumLine) → read (reading before (Outside lines)) [] ≡ Ok (reading (before ++ []) (Outside lines))
unfolding read
nothing_more before lines = ap (λ (us : List SourceUnit). Ok (reading us (Outside lines))) (sym (append-nil before))

-- the units of a file, behind some others
pub units_read : (before units : List SourceUnit) (lines : List NumLine) → AreUnits units lines → (waiting : List NumLine) × (read (reading before (Outside [])) lines ≡ Ok (reading (before ++ units) (Outside waiting)))
units_read before [] lines h = (lines, ap (read (reading before (Outside []))) (sym (append-nil lines)) ∙ remarks_wait before [] lines [] h ∙ nothing_more before lines)
units_read before (u ∷ units) lines h =
    let later = units_read (before ++ u ∷ []) units h.2 h.5 in (
      later.0,
      ap (read (reading before (Outside []))) h.6
          ∙ unit_reads before u h.0 h.1 h.2 h.3 h.4
          ∙ later.1
          ∙ ap (λ (us : List SourceUnit). Ok (reading us (Outside later.0))) (append_assoc before (u ∷ []) units),
    )
