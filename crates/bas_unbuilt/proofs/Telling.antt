-- A file has no line that is not built exactly where it is built.
use Rattle.std.proofs.Common.{◌≡◌, ℕ, Bool, true, false, ◌&&◌, List, [], ◌∷◌, Option, Some, None, refl, sym, ap, ◌∙◌}
use Rattle.bas_ast.specs.Tree.{If, Elseif, Else, Do, LineItem, OfPart, NumLine, Stmt, Single, Nest, Sections, NoSections, MoreSections, Block, NoStmts, MoreStmts, SourceUnit, ProgramUnit, ProcedureUnit, ModuleUnit}
use Rattle.bas_mean.specs.Built.{is_built_single, is_built_section, is_built_stmt, are_built_sections, is_built_block, is_built_unit, is_end, is_built_program_line, is_built_program_head, are_built}
use Rattle.bas_unbuilt.specs.Unbuilt.{is_built_head, is_built_close, are_closed, first_found, unless_built, unbuilt_in_stmt, unbuilt_in_sections, unbuilt_in_block, unbuilt_in_head, unbuilt_in_unit, line_of_head, line_of_block, line_of_unit, unbuilt_line, TellsBuilt}

abbrev nothing : Option ℕ → Bool
nothing None = true
nothing (Some line) = false

nothing_first : (a b : Option ℕ) → nothing (first_found a b) ≡ (nothing a && nothing b)
nothing_first None b = refl
nothing_first (Some line) b = refl

nothing_unless : (b : Bool) (line : ℕ) → nothing (unless_built b line) ≡ b
nothing_unless true line = refl
nothing_unless false line = refl

nothing_head : (head : Option NumLine) → nothing (unbuilt_in_head head) ≡ is_built_program_head head
nothing_head None = refl
nothing_head (Some l) = nothing_unless (is_built_program_line l.item) l.line

section_tells : (head close : LineItem) → (is_built_head head && is_built_close head close) ≡ is_built_section head close
section_tells (OfPart (If c)) close = refl
section_tells (OfPart (Elseif c)) close = refl
section_tells (OfPart Else) close = refl
section_tells (OfPart (Do loopc)) close = refl
section_tells _ close = refl

sorted : (h b r c d : Bool) → (((h && b) && r) && (c && d)) ≡ ((h && c) && (b && (r && d)))
sorted false b r c d = refl
sorted true false r false d = refl
sorted true false r true d = refl
sorted true true false false d = refl
sorted true true false true d = refl
sorted true true true c d = refl

mutual
  stmt_tells : (s : Stmt) → nothing (unbuilt_in_stmt s) ≡ is_built_stmt s
  stmt_tells (Single head) = nothing_unless (is_built_single head.item) head.line
  stmt_tells (Nest sections close) =
      nothing_first (unbuilt_in_sections sections) (unless_built (are_closed sections close.item) close.line)
      ∙ ap (λ b. nothing (unbuilt_in_sections sections) && b) (nothing_unless (are_closed sections close.item) close.line)
      ∙ sections_tell sections close

  sections_tell : (sections : Sections) (close : NumLine) → (nothing (unbuilt_in_sections sections) && are_closed sections close.item) ≡ are_built_sections sections close
  sections_tell NoSections close = refl
  sections_tell (MoreSections head body rest) close =
      let line = unless_built (is_built_head head.item) head.line in
      let front = first_found line (unbuilt_in_block body) in
      let closed = is_built_close head.item close.item && are_closed rest close.item in
      ap (λ b. b && closed) (nothing_first front (unbuilt_in_sections rest))
      ∙ ap (λ b. (b && nothing (unbuilt_in_sections rest)) && closed) (nothing_first line (unbuilt_in_block body))
      ∙ ap (λ b. ((b && nothing (unbuilt_in_block body)) && nothing (unbuilt_in_sections rest)) && closed) (nothing_unless (is_built_head head.item) head.line)
      ∙ sorted (is_built_head head.item) (nothing (unbuilt_in_block body)) (nothing (unbuilt_in_sections rest)) (is_built_close head.item close.item) (are_closed rest close.item)
      ∙ ap (λ b. b && (nothing (unbuilt_in_block body) && (nothing (unbuilt_in_sections rest) && are_closed rest close.item))) (section_tells head.item close.item)
      ∙ ap (λ b. is_built_section head.item close.item && (b && (nothing (unbuilt_in_sections rest) && are_closed rest close.item))) (block_tells body)
      ∙ ap (λ b. is_built_section head.item close.item && (is_built_block body && b)) (sections_tell rest close)

  block_tells : (b : Block) → nothing (unbuilt_in_block b) ≡ is_built_block b
  block_tells NoStmts = refl
  block_tells (MoreStmts s rest) =
      nothing_first (unbuilt_in_stmt s) (unbuilt_in_block rest)
      ∙ ap (λ b. b && nothing (unbuilt_in_block rest)) (stmt_tells s)
      ∙ ap (λ b. is_built_stmt s && b) (block_tells rest)

unit_tells : (u : SourceUnit) → nothing (unbuilt_in_unit u) ≡ is_built_unit u
unit_tells (ProgramUnit p) =
    let close = unless_built (is_end p.close.item) p.close.line in
    nothing_first (unbuilt_in_head p.head) (first_found (unbuilt_in_block p.body) close)
    ∙ ap (λ b. b && nothing (first_found (unbuilt_in_block p.body) close)) (nothing_head p.head)
    ∙ ap (λ b. is_built_program_head p.head && b) (nothing_first (unbuilt_in_block p.body) close)
    ∙ ap (λ b. is_built_program_head p.head && (b && nothing close)) (block_tells p.body)
    ∙ ap (λ b. is_built_program_head p.head && (is_built_block p.body && b)) (nothing_unless (is_end p.close.item) p.close.line)
unit_tells (ProcedureUnit p) = refl
unit_tells (ModuleUnit m) = refl

found : (a b : Option ℕ) (line : ℕ) → nothing (first_found a (first_found b (Some line))) ≡ false
found (Some first) b line = refl
found None (Some first) line = refl
found None None line = refl

has_line : (u : SourceUnit) → nothing (line_of_unit u) ≡ false
has_line (ProgramUnit p) = found (line_of_head p.head) (line_of_block p.body) p.close.line
has_line (ProcedureUnit p) = refl
has_line (ModuleUnit m) = refl

and_true : (b : Bool) → (b && true) ≡ b
and_true true = refl
and_true false = refl

and_false : (b : Bool) → (b && false) ≡ false
and_false true = refl
and_false false = refl

units_tell : (u : SourceUnit) (rest : List SourceUnit) → nothing (unbuilt_line (u ∷ rest)) ≡ are_built (u ∷ rest)
units_tell u [] = nothing_first (unbuilt_in_unit u) None ∙ and_true (nothing (unbuilt_in_unit u)) ∙ unit_tells u
units_tell u (next ∷ rest) = nothing_first (unbuilt_in_unit u) (line_of_unit next) ∙ ap (λ b. nothing (unbuilt_in_unit u) && b) (has_line next) ∙ and_false (nothing (unbuilt_in_unit u))

is_nothing : (o : Option ℕ) → nothing o ≡ true → o ≡ None
is_nothing None e = refl
is_nothing (Some line) e = let bad : false ≡ true = e in absurd cc

pub tells_built : TellsBuilt
tells_built = record {
  none = λ u rest e. sym (units_tell u rest) ∙ ap nothing e;
  built = λ u rest e. is_nothing (unbuilt_line (u ∷ rest)) (units_tell u rest ∙ e);
}
