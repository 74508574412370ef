-- What is answered for a file is what the relation gives it.
use Rattle.std.proofs.Common.{◌≡◌, ℕ, suc, ◌<◌, Bool, true, false, cond, List, [], ◌∷◌, length, map, Option, Some, None, Result, Ok, Err, refl, ap, sym, ◌∙◌, subst, leb, ltb}
use Rattle.std.proofs.lemmas.Bool.{leb-true, ltb-true, lt-ltb, le-leb}
use Rattle.bas_ast.specs.Tree as tree
use Rattle.bas_ast.specs.BlockTree.{line_tree}
use Rattle.bas_ast.specs.declared.block.LineItem.{LineItem}
use Rattle.bas_ast.specs.declared.block.NumLine.{NumLine}
use Rattle.bas_source.specs.Lines.{logical_lines}
use Rattle.bas_source.specs.Number.{numbered}
use Rattle.bas_line.specs.Itemizing.{item_of}
use Rattle.bas_line.proofs.WholeLaws.{item_stands, item_read}
use Rattle.bas_nest.specs.Units.{AreUnits}
use Rattle.bas_nest.specs.Reading.{Open, Outside, Within, Between, Reading, reading, nothing_read, read, unclosed}
use Rattle.bas_nest.proofs.Joined.{reads_units}
use Rattle.bas_block.specs.declared.TheConstants.{LINE_BYTES}
use Rattle.bas_block.specs.declared.file.SourceFault.{SourceFault}
use Rattle.bas_block.specs.declared.file.SourceFault.TheVariants as fault
use Rattle.bas_block.specs.Files.{IsLine, AreLines, IsFile, with_item, in_order, line_of, behind_line, onto, lines_of, some_units, closed, nested, units_of_lines, units_of, FilesAreRead, AllFilesAreRead, OneList}

-- ---- a line

item_is : (number : ℕ) (o : Option LineItem) (line : NumLine) → with_item number o ≡ Ok line → (line.line ≡ number) × (o ≡ Some line.item)
item_is number None line e = absurd (cc)
item_is number (Some item) line e = (sym (ap number_of e), ap item_in e)
  where
    number_of : Result NumLine SourceFault → ℕ
    number_of (Ok l) = l.line
    number_of (Err f) = 0

    item_in : Result NumLine SourceFault → Option LineItem
    item_in (Ok l) = Some l.item
    item_in (Err f) = None

order_is : (last count : ℕ) (o : Option (ℕ × List ℕ)) (line : NumLine) → in_order last o count ≡ Ok line → (rest : List ℕ) × (o ≡ Some (line.line, rest)) × (last < line.line) × (item_of rest ≡ Some line.item)
order_is last count None line e = absurd (cc)
order_is last count (Some found) line e = by_order (ltb last found.0) refl e
  where
    by_order : (b : Bool) → ltb last found.0 ≡ b → cond b (with_item found.0 (item_of found.1)) (Err (fault.OutOfOrder found.0)) ≡ Ok line → (rest : List ℕ) × (Some found ≡ Some (line.line, rest)) × (last < line.line) × (item_of rest ≡ Some line.item)
    by_order false t h = absurd (cc)
    by_order true t h =
        let is = item_is found.0 (item_of found.1) line h in
        (found.1, ap (λ (n : ℕ). Some (n, found.1)) (sym is.0), subst (λ (n : ℕ). last < n) (sym is.0) (ltb-true last found.0 t), is.1)

line_is : (count last : ℕ) (text : List ℕ) (line : NumLine) → line_of count last text ≡ Ok line → IsLine last text line
line_is count last text line e = by_length (leb (length text) LINE_BYTES) refl e
  where
    by_length : (b : Bool) → leb (length text) LINE_BYTES ≡ b → cond b (in_order last (numbered text) count) (Err (fault.TooLong count)) ≡ Ok line → IsLine last text line
    by_length false t h = absurd (cc)
    by_length true t h =
        let is = order_is last count (numbered text) line h in
        (is.0, leb-true (length text) LINE_BYTES t, is.1, is.2, item_stands is.0 line.item is.3)

line_read_as : (count last : ℕ) (text : List ℕ) (line : NumLine) → IsLine last text line → line_of count last text ≡ Ok line
line_read_as count last text line h =
    ap (λ (b : Bool). cond b (in_order last (numbered text) count) (Err (fault.TooLong count))) (le-leb (length text) LINE_BYTES h.1)
    ∙ ap (λ (o : Option (ℕ × List ℕ)). in_order last o count) h.2
    ∙ ap (λ (b : Bool). cond b (with_item line.line (item_of h.0)) (Err (fault.OutOfOrder line.line))) (lt-ltb last line.line h.3)
    ∙ ap (with_item line.line) (item_read h.0 line.item h.4)

-- ---- all lines

abbrev pub lines_in : Result (List NumLine) SourceFault → List NumLine
lines_in (Ok ls) = ls
lines_in (Err f) = []

abbrev units_in : Result (List tree.SourceUnit) SourceFault → List tree.SourceUnit
units_in (Ok all) = all
units_in (Err f) = []

pub lines_are : (count last : ℕ) (texts : List (List ℕ)) (lines : List NumLine) → lines_of count last texts ≡ Ok lines → AreLines last texts lines
unfolding lines_of
lines_are count last [] [] e = tt
lines_are count last [] (line ∷ lines) e = absurd (cc)
lines_are count last (text ∷ texts) lines e = by_line (line_of count last text) refl e (λ line rest h. lines_are (suc count) line.line texts rest h)
  where
    by_rest : (line : NumLine) (r : Result (List NumLine) SourceFault) (lines : List NumLine) → line_of count last text ≡ Ok line → onto line r ≡ Ok lines → ((rest : List NumLine) → r ≡ Ok rest → AreLines line.line texts rest) → AreLines last (text ∷ texts) lines
    by_rest line (Err f) lines l h go = absurd (cc)
    by_rest line (Ok rest) [] l h go = absurd (cc)
    by_rest line (Ok rest) (first ∷ others) l h go =
        let same : line ∷ rest ≡ first ∷ others = ap lines_in h in
        subst (λ (ls : List NumLine). AreLines last (text ∷ texts) ls) same (line_is count last text line l, go rest refl)

    by_line : (r : Result NumLine SourceFault) → line_of count last text ≡ r → behind_line r (λ line. onto line (lines_of (suc count) line.line texts)) ≡ Ok lines → ((line : NumLine) (rest : List NumLine) → lines_of (suc count) line.line texts ≡ Ok rest → AreLines line.line texts rest) → AreLines last (text ∷ texts) lines
    by_line (Err f) l h go = absurd (cc)
    by_line (Ok line) l h go = by_rest line (lines_of (suc count) line.line texts) lines l h (λ rest r. go line rest r)

pub lines_read_as : (count last : ℕ) (texts : List (List ℕ)) (lines : List NumLine) → AreLines last texts lines → lines_of count last texts ≡ Ok lines
unfolding lines_of
lines_read_as count last [] [] h = refl
lines_read_as count last [] (line ∷ lines) h = absurd (h)
lines_read_as count last (text ∷ texts) [] h = absurd (h)
lines_read_as count last (text ∷ texts) (line ∷ lines) h =
    ap (λ (r : Result NumLine SourceFault). behind_line r (λ line. onto line (lines_of (suc count) line.line texts))) (line_read_as count last text line h.0)
    ∙ ap (onto line) (lines_read_as (suc count) line.line texts lines h.1)

-- ---- the nesting

units_are : (us : List tree.SourceUnit) (units : List tree.SourceUnit) → some_units us ≡ Ok units → (us ≡ units) × ((units ≡ []) → ⊥)
units_are [] units e = absurd (cc)
units_are (u ∷ us) [] e = absurd (cc)
units_are (u ∷ us) (v ∷ units) e = (ap units_in e, λ n. absurd (cc))

some_are : (units : List tree.SourceUnit) → ((units ≡ []) → ⊥) → some_units units ≡ Ok units
some_are [] h = absurd (h refl)
some_are (u ∷ units) h = refl

outside_are : (o : Open) (us units : List tree.SourceUnit) (lines : List tree.NumLine) → read nothing_read lines ≡ Ok (reading us o) → closed us (unclosed o) ≡ Ok units → AreUnits units lines × ((units ≡ []) → ⊥)
outside_are (Outside waiting) us units lines r h =
    let is = units_are us units h in
    (subst (λ (all : List tree.SourceUnit). AreUnits all lines) is.0 (reads_units.sound us waiting lines r), is.1)
outside_are (Within owner stmts levels) us units lines r h = absurd (cc)
outside_are (Between part initial procs) us units lines r h = absurd (cc)

nested_are : (x : Result Reading ℕ) (units : List tree.SourceUnit) (lines : List tree.NumLine) → read nothing_read lines ≡ x → nested x ≡ Ok units → AreUnits units lines × ((units ≡ []) → ⊥)
nested_are (Err n) units lines r h = absurd (cc)
nested_are (Ok r1) units lines r h = outside_are r1.opened r1.units units lines r h

pub files_are_read : FilesAreRead
files_are_read file units e = by_lines (lines_of 1 0 (logical_lines file)) refl e
  where
    by_lines : (r : Result (List NumLine) SourceFault) → lines_of 1 0 (logical_lines file) ≡ r → units_of_lines r ≡ Ok units → IsFile file units
    by_lines (Err f) l h = absurd (cc)
    by_lines (Ok lines) l h =
        let is = nested_are (read nothing_read (map line_tree lines)) units (map line_tree lines) refl h in
        (lines, lines_are 1 0 (logical_lines file) lines l, is.0, is.1)

pub all_files_are_read : AllFilesAreRead
all_files_are_read file units h =
    let all = reads_units.complete units (map line_tree h.0) h.2 in
    ap units_of_lines (lines_read_as 1 0 (logical_lines file) h.0 h.1)
    ∙ ap nested all.1
    ∙ some_are units h.3

pub one_list : OneList
one_list file a b one other = ap units_in (sym (all_files_are_read file a one) ∙ all_files_are_read file b other)

-- the same, where a result holds what was read
pub file_stands : (file : List ℕ) (units : List tree.SourceUnit) → units_of file ≡ Ok units → IsFile file units
file_stands file units e = files_are_read file units e

pub only_units : (file : List ℕ) (units other : List tree.SourceUnit) → units_of file ≡ Ok units → IsFile file other → other ≡ units
only_units file units other e h = ap units_in (sym (all_files_are_read file other h) ∙ e)

-- a file with a fault has no units
pub no_units : (file : List ℕ) (f : SourceFault) (units : List tree.SourceUnit) → units_of file ≡ Err f → IsFile file units → ⊥
no_units file f units e h = let bad = sym e ∙ all_files_are_read file units h in absurd (cc)
