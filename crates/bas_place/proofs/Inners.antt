-- The internal procedures of a container, with the names that they see.
use Rattle.std.proofs.Common.{◌≡◌, ℕ, ◌+◌, ◌<◌, ◌≤◌, length, get_or, take, nat_lt, ◌||◌, true, false, if◌then◌else◌, List, [], ◌∷◌, ◌++◌, map, Option, Some, None, refl, sym, ap, ◌∙◌, append_assoc, append-nil}
use Rattle.std.specs.List.{slice_get}
use Rattle.std.specs.Option.{option_map_or}
use Rattle.std.proofs.lemmas.List.{map-append, take_all, take_more}
use Rattle.bas_ast.specs.Tree as t
use Rattle.bas_ast.specs.BlockTree.{item_tree, block_tree, section_tree, sections_tree, stmt_tree, stmts_tree}
use Rattle.bas_ast.specs.declared.block.Section.{Section, out-Section}
use Rattle.bas_ast.specs.declared.block.Block.{Block, out-Block}
use Rattle.bas_ast.specs.declared.block.Stmt.{Stmt}
use Rattle.bas_ast.proofs.BlockTrees.{block_out, section_out}
use Rattle.bas_scope.specs.Lines.{gathered, opens_procedure}
use Rattle.bas_scope.specs.Scope.{Inner, Outer, Table as Entries, definition_block, definition_on, inner_names, inner_of, internals_of}
use Rattle.bas_scope.specs.Senses.{senses_of}
use Rattle.bas_scope.specs.Bodies.{Family, internal_body, names_on}
use Rattle.bas_names.specs.Names.{senses_in}
use Rattle.bas_names.specs.Tables.{Has, HasOuter, options_told}
use Rattle.bas_names.specs.declared.entry.Table.{Table}
use Rattle.bas_names.specs.declared.names.Names.{Names}
use Rattle.bas_names.specs.declared.unit_names.UnitNames.{UnitNames}
use Rattle.bas_claim.specs.declared.first.FirstLines.{FirstLines}
use Rattle.bas_claim.specs.First.{line_of, stands_before, Notes}
use Rattle.bas_rules.specs.Naming.{is_among, used_before}
use Rattle.bas_place.specs.Uses.{Gains, subs_among, used_in}
use Rattle.bas_place.proofs.Gaining.{gains_none, gains_alone, gains_bodies, gains_body}

-- the names of a table are those of an internal procedure
pub has_inner : (unit : UnitNames) (outer : Outer) (table : Table) (inner : Inner) → HasOuter unit outer
    → Has table (inner_names (options_told unit.options) inner []) → Has table (inner_names outer.options inner [])
has_inner unit outer table inner u h = rw u.options at h

-- the same where a definition is all that there is
pub has_defined : (unit : UnitNames) (outer : Outer) (table : Table) (head : t.NumLine) (inner : Inner) → HasOuter unit outer → definition_on head head.item ≡ inner ∷ []
    → Has table (gathered (λ x. inner_names (options_told unit.options) x []) (definition_on head head.item)) → Has table (inner_names outer.options inner [])
has_defined unit outer table head inner u e h =
    has_inner unit outer table inner u (rw (e, append-nil (inner_names (options_told unit.options) inner [])) at h)

pub block_of_section : (x : Section) → (section_tree x).1 ≡ block_tree (out-Section x).body
block_of_section x = ap (λ s. s.1) (section_out x)

abbrev definition_line : t.NumLine → List ℕ → t.Expr → t.NumLine
definition_line head name value = record { line = head.line; item = t.OfSimple (t.Alone (t.Let (t.Variable name t.NoExprs ∷ []) value)) }

-- the one line of a definition's body
pub gains_value : (outer : Outer) (entries : Entries) (head : t.NumLine) (name : List ℕ) (value : t.Expr) (names : Names) (old new : FirstLines)
    → senses_in names ≡ senses_of (internal_body outer entries (head, definition_block head.line name value)).scope
    → (lent used : List (List ℕ)) → lent ≡ used → used ≡ names_on (t.OfSimple (t.Alone (t.Let (t.Variable name t.NoExprs ∷ []) value)))
    → Notes old new (subs_among (senses_in names) lent) head.line
    → Gains old new (used_in (internal_body outer entries (head, definition_block head.line name value) ∷ []))
gains_value outer entries head name value names old new e lent used l u n =
    gains_body (senses_in names) (internal_body outer entries (head, definition_block head.line name value)) (definition_block head.line name value) (definition_line head name value ∷ []) old new e refl refl
    (gains_alone (senses_in names) old new (definition_line head name value) (rw (l, u) at n))

abbrev if_opens : t.NumLine × t.Block → List Inner
if_opens s = if opens_procedure s.0.item then s ∷ [] else []

first_inner : (xs : List Section) (x : Section) (close : t.NumLine) → slice_get xs 0 ≡ Some x → inner_of (t.Nest (sections_tree xs) close) ≡ if_opens (section_tree x)
first_inner [] x close e = let bad : None ≡ Some x = e in absurd (cc)
first_inner (y ∷ ys) x close e = let same : y ≡ x = cc in ap (λ z. if_opens (section_tree z)) same

opens_as : (x : Section) → opens_procedure (section_tree x).0.item ≡ opens_procedure (item_tree (out-Section x).head.item)
opens_as x = ap (λ s. opens_procedure s.0.item) (section_out x)

-- the first section is that of an internal procedure
pub gains_first : (outer : Outer) (entries : Entries) (xs : List Section) (x : Section) (close : t.NumLine) (old new : FirstLines)
    → slice_get xs 0 ≡ Some x → opens_procedure (item_tree (out-Section x).head.item) ≡ true
    → Gains old new (used_in (internal_body outer entries (section_tree x) ∷ []))
    → Gains old new (used_in (map (internal_body outer entries) (inner_of (t.Nest (sections_tree xs) close))))
gains_first outer entries xs x close old new e o p = rw (first_inner xs x close e, opens_as x, o) p

-- or of something else
pub gains_no_first : (outer : Outer) (entries : Entries) (xs : List Section) (x : Section) (close : t.NumLine) (first : FirstLines)
    → slice_get xs 0 ≡ Some x → opens_procedure (item_tree (out-Section x).head.item) ≡ false
    → Gains first first (used_in (map (internal_body outer entries) (inner_of (t.Nest (sections_tree xs) close))))
gains_no_first outer entries xs x close first e o = rw (first_inner xs x close e, opens_as x, o) (gains_none first)

-- or there is none
pub gains_empty : (outer : Outer) (entries : Entries) (xs : List Section) (close : t.NumLine) (first : FirstLines) → slice_get xs 0 ≡ None
    → Gains first first (used_in (map (internal_body outer entries) (inner_of (t.Nest (sections_tree xs) close))))
gains_empty outer entries [] close first e = gains_none first
gains_empty outer entries (y ∷ ys) close first e = let bad : Some y ≡ None = e in absurd (cc)

internals_more : (xs : List Stmt) (x : Stmt) → internals_of (stmts_tree (xs ++ x ∷ [])) ≡ internals_of (stmts_tree xs) ++ inner_of (stmt_tree x)
internals_more [] x = append-nil (inner_of (stmt_tree x))
internals_more (y ∷ xs) x =
    ap (λ l. inner_of (stmt_tree y) ++ l) (internals_more xs x)
    ∙ sym (append_assoc (inner_of (stmt_tree y)) (internals_of (stmts_tree xs)) (inner_of (stmt_tree x)))

-- one more statement
gains_stmt : (outer : Outer) (entries : Entries) (xs : List Stmt) (x : Stmt) (old mid new : FirstLines)
    → Gains old mid (used_in (map (internal_body outer entries) (internals_of (stmts_tree xs))))
    → Gains mid new (used_in (map (internal_body outer entries) (inner_of (stmt_tree x))))
    → Gains old new (used_in (map (internal_body outer entries) (internals_of (stmts_tree (xs ++ x ∷ [])))))
gains_stmt outer entries xs x old mid new p q =
    rw (internals_more xs x, map-append (internal_body outer entries) (internals_of (stmts_tree xs)) (inner_of (stmt_tree x)))
    (gains_bodies old mid new (map (internal_body outer entries) (internals_of (stmts_tree xs))) (map (internal_body outer entries) (inner_of (stmt_tree x))) p q)

taken : {X : Type 0} (xs : List X) (i : ℕ) (x : X) → x ≡ get_or xs i x → i < length xs → take (i + 1) xs ≡ take i xs ++ x ∷ []
taken xs i x e h = take_more xs i x h ∙ ap (λ y. take i xs ++ y ∷ []) (sym e)

-- the statements so far, and one more
pub gains_next : (outer : Outer) (entries : Entries) (xs : List Stmt) (i : ℕ) (x : Stmt) (old mid new : FirstLines) → x ≡ get_or xs i x → i < length xs
    → Gains old mid (used_in (map (internal_body outer entries) (internals_of (stmts_tree (take i xs)))))
    → Gains mid new (used_in (map (internal_body outer entries) (inner_of (stmt_tree x))))
    → Gains old new (used_in (map (internal_body outer entries) (internals_of (stmts_tree (take (i + 1) xs)))))
gains_next outer entries xs i x old mid new e h p q = rw (taken xs i x e h) (gains_stmt outer entries (take i xs) x old mid new p q)

-- all statements
pub gains_all : (outer : Outer) (entries : Entries) (xs : List Stmt) (i : ℕ) (old new : FirstLines) → length xs ≤ i
    → Gains old new (used_in (map (internal_body outer entries) (internals_of (stmts_tree (take i xs)))))
    → Gains old new (used_in (map (internal_body outer entries) (internals_of (stmts_tree xs))))
gains_all outer entries xs i old new h p = rw (take_all i xs h) at p

-- a block is its statements
pub gains_block : (outer : Outer) (entries : Entries) (block : Block) (stmts : List Stmt) (old new : FirstLines) → stmts ≡ (out-Block block).stmts
    → Gains old new (used_in (map (internal_body outer entries) (internals_of (stmts_tree stmts)))) → Gains old new (used_in (map (internal_body outer entries) (internals_of (block_tree block))))
gains_block outer entries block stmts old new e p = rw (block_out block, ← e) p

-- a container, and then its internal procedures
pub all_uses : (fresh first all : FirstLines) (f : Family) → ((name : List ℕ) → line_of fresh name ≡ None) → Gains fresh first (used_in (f.container ∷ [])) → Gains first all (used_in f.internals)
    → (name : List ℕ) (l : ℕ) → stands_before all name l ≡ is_among name (used_before f l)
all_uses fresh first all f none p q name l =
    (gains_bodies fresh first all (f.container ∷ []) f.internals p q).before name l
    ∙ ap (λ (o : Option ℕ). option_map_or (λ m. nat_lt m l) o false || is_among name (used_before f l)) (none name)
