-- What was read can be closed.
use Rattle.std.proofs.Common.{◌≡◌, ℕ, zero, suc, arith, Bool, true, false, List, [], ◌∷◌, ◌++◌, length, Option, Some, None, Result, Ok, Err, refl, ap, sym, ◌∙◌, subst, append_assoc, append-nil}
use Rattle.bas_ast.specs.Tree.{NumLine, LineItem, OfPart, Part, EndIf, Next, Loop, EndSelect, Use, EndWhen, EndHandler, EndSub, EndFunction, End, EndModule, Stmt, Nest, Sections, NoSections, MoreSections, Block, NoStmts, Procedure, SourceUnit, ProgramUnit, ProcedureUnit, ModuleUnit}
use Rattle.bas_ast.specs.BlockTree.{sections_of, stmts_of}
use Rattle.bas_nest.specs.Constructs.{role_of, inside, begins_procedure, closes_procedure}
use Rattle.bas_nest.specs.declared.construct.Construct.{Construct}
use Rattle.bas_nest.specs.declared.construct.Construct.TheVariants as section
use Rattle.bas_nest.specs.declared.construct.Around.{Around}
use Rattle.bas_nest.specs.declared.construct.Around.TheVariants as stands
use Rattle.bas_nest.specs.declared.construct.Role.{Role}
use Rattle.bas_nest.specs.declared.construct.Role.TheVariants as role
use Rattle.bas_nest.specs.Units.{AreSections, AreUnits, IsBlock}
use Rattle.bas_nest.specs.Reading.{Level, Owner, OfProgram, OfProcedure, OfInitial, OfMember, Open, Outside, Within, Between, Reading, around, around_owner, with_stmt, module_of, read, nothing_read}
use Rattle.bas_nest.proofs.Complete.{sections_list, grown_top, grown}
use Rattle.bas_nest.proofs.Sound.{UnitsTo, OwnerHeld, BodyHeld, OpenHeld, Held, body_more}
use Rattle.bas_nest.proofs.SoundUnits.{reading_held}

abbrev line_of : Part → NumLine
line_of part = record { line = 0; item = OfPart part }

-- what is left of an open construct
pub record Closing (depth : ℕ) (c : Construct) : Type 0 where
  pub rest : Sections
  pub close : NumLine
  pub behind : List NumLine
  pub are : AreSections depth c rest close behind

abbrev closed_with : (depth : ℕ) (c : Construct) (part : Part) → AreSections depth c NoSections (line_of part) (line_of part ∷ []) → Closing depth c
closed_with depth c part h = record { rest = NoSections; close = line_of part; behind = line_of part ∷ []; are = h }

closing : (depth : ℕ) (c : Construct) → Closing depth c
closing depth section.If = closed_with depth section.If EndIf (refl, refl)
closing depth section.Else = closed_with depth section.Else EndIf (refl, refl)
closing depth section.For = closed_with depth section.For (Next []) (refl, refl)
closing depth section.Do = closed_with depth section.Do (Loop None) (refl, refl)
closing depth section.Select = closed_with depth section.Select EndSelect (refl, refl)
closing depth section.Case = closed_with depth section.Case EndSelect (refl, refl)
closing depth section.CaseElse = closed_with depth section.CaseElse EndSelect (refl, refl)
closing depth section.When = record {
  rest = MoreSections (line_of Use) NoStmts NoSections;
  close = line_of EndWhen;
  behind = line_of Use ∷ line_of EndWhen ∷ [];
  are = (section.Attached, [], line_of EndWhen ∷ [], refl, refl, (refl, refl), refl);
}
closing depth section.Attached = closed_with depth section.Attached EndWhen (refl, refl)
closing depth section.Detached = closed_with depth section.Detached EndWhen (refl, refl)
closing depth section.Handler = closed_with depth section.Handler EndHandler (refl, refl)
closing depth section.Sub = closed_with depth section.Sub EndSub (refl, refl)
closing depth section.Function = closed_with depth section.Function EndFunction (refl, refl)

-- lines that go on to be units
abbrev Closes : List NumLine → Type 0
Closes lines = (behind : List NumLine) × (units : List SourceUnit) × AreUnits units (lines ++ behind)

-- no unit stands behind the last
no_more : (units : List SourceUnit) (lines : List NumLine) → UnitsTo units lines → Closes lines
no_more units lines h = ([], units ++ [], h [] [] tt)

-- the same with lines in front that are the same
behind_lines : (lines before own rest : List NumLine) → lines ≡ before ++ own → Closes (before ++ (own ++ rest)) → Closes lines
behind_lines lines before own rest e c =
    (rest ++ c.0, c.1, subst (λ (ls : List NumLine). AreUnits c.1 ls) (split before own rest c.0 ∙ ap (λ (ls : List NumLine). ls ++ (rest ++ c.0)) (sym e)) c.2)
  where
    split : (before own rest behind : List NumLine) → (before ++ (own ++ rest)) ++ behind ≡ (before ++ own) ++ (rest ++ behind)
    split before own rest behind =
        append_assoc before (own ++ rest) behind ∙ ap (λ (ls : List NumLine). before ++ ls) (append_assoc own rest behind) ∙ sym (append_assoc before own (rest ++ behind))

-- a line that closes each external procedure
procedure_closer : (x : Role) → begins_procedure x ≡ true → (part : Part) × (closes_procedure x (role_of (OfPart part)) ≡ true)
procedure_closer role.BeginsSub h = (EndSub, refl)
procedure_closer role.BeginsFunction h = (EndFunction, refl)
procedure_closer role.Remark h = absurd (cc)
procedure_closer role.Plain h = absurd (cc)
procedure_closer role.Defines h = absurd (cc)
procedure_closer (role.Opens d) h = absurd (cc)
procedure_closer (role.Divides d) h = absurd (cc)
procedure_closer (role.Closes k) h = absurd (cc)
procedure_closer role.BeginsProgram h = absurd (cc)
procedure_closer role.BeginsModule h = absurd (cc)
procedure_closer role.EndsProgram h = absurd (cc)
procedure_closer role.EndsModule h = absurd (cc)

-- a body in which no construct is open
owner_closes : (units : List SourceUnit) (owner : Owner) (stmts : List Stmt) (lines : List NumLine) → BodyHeld units owner stmts [] lines → Closes lines
owner_closes units (OfProgram name head first) stmts lines h =
    behind_lines lines h.0 h.1 (line_of End ∷ []) h.4 (no_more (units ++ ProgramUnit (record { name = name; head = head; body = stmts_of stmts; close = line_of End }) ∷ []) (h.0 ++ (h.1 ++ line_of End ∷ [])) (h.2 (stmts_of stmts) h.1 (line_of End) h.3 refl))
owner_closes units (OfProcedure head) stmts lines h =
    let close = procedure_closer (role_of head.item) h.2.0 in
    let end : NumLine = line_of close.0 in
    behind_lines lines h.0 h.1 (end ∷ []) h.4 (no_more (units ++ ProcedureUnit (record { head = head; body = stmts_of stmts; close = end }) ∷ []) (h.0 ++ (h.1 ++ end ∷ [])) (h.2.1 (stmts_of stmts) h.1 end h.3 close.1))
owner_closes units (OfInitial head) stmts lines h =
    let end : NumLine = line_of EndModule in
    behind_lines lines h.0 h.1 (end ∷ []) h.4 (no_more (units ++ ModuleUnit (module_of head (stmts_of stmts) [] end) ∷ []) (h.0 ++ (h.1 ++ end ∷ [])) (h.2 (stmts_of stmts) h.1 [] [] end h.3 refl refl))
owner_closes units (OfMember part initial procs head) stmts lines h =
    let close = procedure_closer (role_of head.item) h.2.0 in
    let last : NumLine = line_of close.0 in
    let end : NumLine = line_of EndModule in
    behind_lines lines h.0 h.1 (last ∷ end ∷ []) h.4
    (no_more (units ++ ModuleUnit (module_of part initial (procs ++ record { head = head; body = stmts_of stmts; close = last } ∷ []) end) ∷ []) (h.0 ++ (h.1 ++ last ∷ end ∷ []))
    (h.2.1 (stmts_of stmts) h.1 last [] [] [] end h.3 close.1 tt refl refl))

-- the closing lines of the innermost construct are the first that follow
closes_behind : (lines outer before own behind : List NumLine) → lines ≡ outer ++ (before ++ own) → Closes (outer ++ (before ++ (own ++ behind))) → Closes lines
closes_behind lines outer before own behind e c = (behind ++ c.0, c.1, subst (λ (ls : List NumLine). AreUnits c.1 ls) (regrouped c.0 ∙ ap (λ (ls : List NumLine). ls ++ (behind ++ c.0)) (sym e)) c.2)
  where
    regrouped : (more : List NumLine) → (outer ++ (before ++ (own ++ behind))) ++ more ≡ (outer ++ (before ++ own)) ++ (behind ++ more)
    regrouped more =
        append_assoc outer (before ++ (own ++ behind)) more
        ∙ ap (λ (ls : List NumLine). outer ++ ls) (append_assoc before (own ++ behind) more ∙ ap (λ (ls : List NumLine). before ++ ls) (append_assoc own behind more))
        ∙ sym (append_assoc outer (before ++ own) (behind ++ more) ∙ ap (λ (ls : List NumLine). outer ++ ls) (append_assoc before own (behind ++ more)))

-- with one more statement as many constructs are open
stmt_closes : (n : ℕ) (units : List SourceUnit) (owner : Owner) (stmts : List Stmt) (levels : List Level) (s : Stmt) (lines : List NumLine) → length levels ≡ n → Held (record { units = units; opened = with_stmt owner stmts levels s }) lines →
    ((top : List Stmt) (inner : List Level) → length inner ≡ n → BodyHeld units owner top inner lines → Closes lines) → Closes lines
stmt_closes n units owner stmts [] s lines e h go = go (stmts ++ s ∷ []) [] e h
stmt_closes n units owner stmts (level ∷ levels) s lines e h go = go stmts (record level { stmts = level.stmts ++ s ∷ [] } ∷ levels) e h

-- a body with n open constructs, the innermost first
body_closes : (n : ℕ) (units : List SourceUnit) (owner : Owner) (stmts : List Stmt) (levels : List Level) (lines : List NumLine) → length levels ≡ n → BodyHeld units owner stmts levels lines → Closes lines
body_closes n units owner stmts [] lines e h = owner_closes units owner stmts lines h
body_closes zero units owner stmts (level ∷ levels) lines e h = absurd (omega arith)
body_closes (suc n) units owner stmts (level ∷ levels) lines e h =
    let c : Closing (length levels) level.construct = closing (length levels) level.construct in
    let s : Stmt = Nest (sections_of (level.sections ++ (level.head, stmts_of level.stmts) ∷ sections_list c.rest)) c.close in
    let all : List NumLine = h.0 ++ (h.1 ++ (h.2 ++ c.behind)) in
    closes_behind lines h.0 h.1 h.2 c.behind h.7
    (stmt_closes n units owner stmts levels s all (omega arith)
    (body_more units owner stmts levels s h.0 (h.1 ++ (h.2 ++ c.behind)) h.3 h.4 (h.5 (stmts_of level.stmts) h.2 c.rest c.close c.behind h.6 c.are))
    (λ top inner same g. body_closes n units owner top inner all same g))

open_closes : (units : List SourceUnit) (o : Open) (lines : List NumLine) → OpenHeld units o lines → Closes lines
open_closes units (Outside waiting) lines h =
    ([], units ++ [], subst (λ (ls : List NumLine). AreUnits (units ++ []) ls) (sym h.3 ∙ sym (append-nil lines)) (h.1 [] waiting h.2))
open_closes units (Within owner stmts levels) lines h = body_closes (length levels) units owner stmts levels lines refl h
open_closes units (Between part initial procs) lines h =
    let end : NumLine = line_of EndModule in (
      end ∷ [],
      (units ++ ModuleUnit (module_of part initial (procs ++ []) end) ∷ []) ++ [],
      subst (λ (ls : List NumLine). AreUnits ((units ++ ModuleUnit (module_of part initial (procs ++ []) end) ∷ []) ++ []) ls) (append-nil (lines ++ end ∷ [])) (h [] [] [] end tt refl refl [] [] tt),
    )

pub can_be_closed : (lines : List NumLine) (r : Reading) → read nothing_read lines ≡ Ok r → Closes lines
can_be_closed lines r e = open_closes r.units r.opened lines (reading_held r lines e)
