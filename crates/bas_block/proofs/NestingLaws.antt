-- The line of a `BadNest` is the first after which no file has units.
use Rattle.std.proofs.Common.{◌≡◌, ℕ, suc, Bool, true, false, cond, List, [], ◌∷◌, ◌++◌, length, map, Option, Some, None, Result, Ok, Err, refl, ap, sym, ◌∙◌, subst, leb, ltb}
use Rattle.bas_ast.specs.Tree as tree
use Rattle.bas_ast.specs.BlockTree.{line_tree}
use Rattle.bas_ast.specs.declared.block.LineItem.{LineItem}
use Rattle.bas_ast.specs.declared.block.NumLine.{NumLine}
use Rattle.bas_source.specs.Lines.{logical_lines}
use Rattle.bas_source.specs.Number.{numbered}
use Rattle.bas_line.specs.Itemizing.{item_of}
use Rattle.bas_nest.specs.Units.{AreUnits}
use Rattle.bas_nest.specs.Reading.{Reading, nothing_read, read, line_read, read_on, unclosed}
use Rattle.bas_nest.proofs.Joined.{refused_for_ever, closes_all}
use Rattle.bas_block.specs.declared.TheConstants.{LINE_BYTES}
use Rattle.bas_block.specs.declared.file.SourceFault.{SourceFault}
use Rattle.bas_block.specs.declared.file.SourceFault.TheVariants as fault
use Rattle.bas_block.specs.Files.{AreLines, with_item, in_order, line_of, behind_line, onto, lines_of, closed, nested, units_of_lines, EndsAllFiles, CanGoOn, BadNestEndsAll}
use Rattle.bas_block.proofs.FileLaws.{lines_in, lines_are, lines_read_as}

-- ---- the faults of lines are none of the nesting

no_nest_item : (number : ℕ) (o : Option LineItem) (n : ℕ) → with_item number o ≡ Err (fault.BadNest n) → ⊥
no_nest_item number None n e = absurd (cc)
no_nest_item number (Some item) n e = absurd (cc)

no_nest_order : (last count : ℕ) (o : Option (ℕ × List ℕ)) (n : ℕ) → in_order last o count ≡ Err (fault.BadNest n) → ⊥
no_nest_order last count None n e = absurd (cc)
no_nest_order last count (Some found) n e = by_order (ltb last found.0) e
  where
    by_order : (b : Bool) → cond b (with_item found.0 (item_of found.1)) (Err (fault.OutOfOrder found.0)) ≡ Err (fault.BadNest n) → ⊥
    by_order false h = absurd (cc)
    by_order true h = no_nest_item found.0 (item_of found.1) n h

no_nest_line : (count last : ℕ) (text : List ℕ) (n : ℕ) → line_of count last text ≡ Err (fault.BadNest n) → ⊥
no_nest_line count last text n e = by_length (leb (length text) LINE_BYTES) e
  where
    by_length : (b : Bool) → cond b (in_order last (numbered text) count) (Err (fault.TooLong count)) ≡ Err (fault.BadNest n) → ⊥
    by_length false h = absurd (cc)
    by_length true h = no_nest_order last count (numbered text) n h

no_nest_onto : (line : NumLine) (rest : List NumLine) (n : ℕ) → onto line (Ok rest) ≡ Err (fault.BadNest n) → ⊥
no_nest_onto line rest n e = absurd (cc)

abbrev fault_in : {A : Type 0} → Result A SourceFault → SourceFault
fault_in (Err f) = f
fault_in (Ok found) = fault.NoUnit

no_nest_lines : (count last : ℕ) (texts : List (List ℕ)) (n : ℕ) → lines_of count last texts ≡ Err (fault.BadNest n) → ⊥
unfolding lines_of
no_nest_lines count last [] n e = absurd (cc)
no_nest_lines count last (text ∷ texts) n e = by_line (line_of count last text) refl e (λ line h. no_nest_lines (suc count) line.line texts n h)
  where
    by_rest : (line : NumLine) (r : Result (List NumLine) SourceFault) → onto line r ≡ Err (fault.BadNest n) → (r ≡ Err (fault.BadNest n) → ⊥) → ⊥
    by_rest line (Err f) h never = never h
    by_rest line (Ok rest) h never = no_nest_onto line rest n h

    by_line : (r : Result NumLine SourceFault) → line_of count last text ≡ r → behind_line r (λ line. onto line (lines_of (suc count) line.line texts)) ≡ Err (fault.BadNest n) →
        ((line : NumLine) → lines_of (suc count) line.line texts ≡ Err (fault.BadNest n) → ⊥) → ⊥
    by_line (Err f) l h never = no_nest_line count last text n (l ∙ ap Err (ap fault_in h))
    by_line (Ok line) l h never = by_rest line (lines_of (suc count) line.line texts) h (never line)

-- ---- the line that no nesting takes

abbrev number_in : Result (List tree.SourceUnit) SourceFault → ℕ
number_in (Err (fault.BadNest number)) = number
number_in _ = 0

abbrev number_of : Result Reading ℕ → ℕ
number_of (Err number) = number
number_of (Ok r) = 0

none_closed : (units : List tree.SourceUnit) (o : Option ℕ) (n : ℕ) → closed units o ≡ Err (fault.BadNest n) → ⊥
none_closed [] None n e = absurd (cc)
none_closed (unit ∷ units) None n e = absurd (cc)
none_closed units (Some number) n e = absurd (cc)

refused : (x : Result Reading ℕ) (n : ℕ) → nested x ≡ Err (fault.BadNest n) → x ≡ Err n
refused (Err number) n e = ap Err (ap number_in e)
refused (Ok r) n e = absurd (none_closed r.units (unclosed r.opened) n e)

-- the first line that is not taken, with what was read before it
abbrev IsRefused : Reading → List NumLine → ℕ → Type 0
IsRefused r lines n =
    (before : List NumLine) × (line : NumLine) × (behind : List NumLine) × (so_far : Reading) × (lines ≡ before ++ line ∷ behind)
    × (read r (map line_tree before) ≡ Ok so_far) × (line_read so_far (line_tree line) ≡ None) × (line.line ≡ n)

refused_at : (r : Reading) (lines : List NumLine) (n : ℕ) → read r (map line_tree lines) ≡ Err n → IsRefused r lines n
unfolding read
refused_at r [] n e = absurd (cc)
refused_at r (line ∷ lines) n e = by_line (line_read r (line_tree line)) refl e (λ next h. refused_at next lines n h)
  where
    by_line : (o : Option Reading) → line_read r (line_tree line) ≡ o → read_on o line.line (λ next. read next (map line_tree lines)) ≡ Err n →
        ((next : Reading) → read next (map line_tree lines) ≡ Err n → IsRefused next lines n) → IsRefused r (line ∷ lines) n
    by_line None l h go = ([], line, lines, r, refl, refl, l, ap number_of h)
    by_line (Some next) l h go =
        let at = go next h in (
          line ∷ at.0,
          at.1,
          at.2,
          at.3,
          ap (λ (ls : List NumLine). line ∷ ls) at.4,
          ap (λ (o : Option Reading). read_on o line.line (λ after. read after (map line_tree at.0))) l ∙ at.5,
          at.6,
          at.7,
        )

-- ---- no file goes on from it

spread : (before : List NumLine) (line : NumLine) (behind : List NumLine) →
    map line_tree ((before ++ line ∷ []) ++ behind) ≡ map line_tree before ++ line_tree line ∷ map line_tree behind
spread [] line behind = refl
spread (b ∷ before) line behind = ap (λ ls. line_tree b ∷ ls) (spread before line behind)

ends_all : (before : List NumLine) (line : NumLine) (so_far : Reading) → read nothing_read (map line_tree before) ≡ Ok so_far → line_read so_far (line_tree line) ≡ None → EndsAllFiles (before ++ line ∷ [])
ends_all before line so_far r none file behind units are is =
    let same : is.0 ≡ (before ++ line ∷ []) ++ behind = ap lines_in (sym (lines_read_as 1 0 (logical_lines file) is.0 is.1) ∙ lines_read_as 1 0 (logical_lines file) ((before ++ line ∷ []) ++ behind) are) in
    refused_for_ever (map line_tree before) (map line_tree behind) (line_tree line) so_far units r none
    (subst (λ (ls : List tree.NumLine). AreUnits units ls) (ap (λ ls. map line_tree ls) same ∙ spread before line behind) is.2)

abbrev IsEndOfAll : List ℕ → ℕ → Type 0
IsEndOfAll file number =
    (before : List NumLine) × (line : NumLine) × (behind : List NumLine) × AreLines 0 (logical_lines file) (before ++ line ∷ behind)
    × (line.line ≡ number) × EndsAllFiles (before ++ line ∷ []) × CanGoOn before

pub bad_nest_ends_all : BadNestEndsAll
bad_nest_ends_all file number e = by_lines (lines_of 1 0 (logical_lines file)) refl e
  where
    by_lines : (r : Result (List NumLine) SourceFault) → lines_of 1 0 (logical_lines file) ≡ r → units_of_lines r ≡ Err (fault.BadNest number) → IsEndOfAll file number
    by_lines (Err f) l h = absurd (no_nest_lines 1 0 (logical_lines file) number (l ∙ ap Err (ap fault_in h)))
    by_lines (Ok lines) l h =
        let at = refused_at nothing_read lines number (refused (read nothing_read (map line_tree lines)) number h) in
        let are = subst (λ (ls : List NumLine). AreLines 0 (logical_lines file) ls) at.4 (lines_are 1 0 (logical_lines file) lines l) in
        (at.0, at.1, at.2, are, at.7, ends_all at.0 at.1 at.3 at.5 at.6, closes_all (map line_tree at.0) at.3 at.5)
