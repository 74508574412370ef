-- The lines of a unit, each in its place: its body, the blocks around it, and the construct that it belongs to.
use Rattle.std.specs.Prelude.{ℕ, Bool, true, false, if◌then◌else◌, List, [], ◌∷◌, ◌++◌, Option, Some, None}
use Rattle.bas_ast.specs.Tree as t
use Rattle.bas_scope.specs.Lines.{gathered, opens_procedure}
use Rattle.bas_scope.specs.Scope.{Outer, definition_on}
use Rattle.bas_scope.specs.declared.body.BodyKind.{BodyKind}
use Rattle.bas_scope.specs.declared.body.BodyKind.TheVariants.{Main, External, Initial}
use Rattle.bas_scope.specs.Bodies.{Body, Family, family_of, internal_body, outer_of}

-- what is around a line in its body
pub record Around : Type 0 where
  -- the counted lines of the blocks around it, to which a jump may go
  pub reach : List ℕ
  pub in_do : Bool
  pub in_for : Bool
  pub in_handler : Bool
  -- the variables of the FOR blocks around it
  pub counters : List (List ℕ)

-- a line in its place; `opener` is the first line of the construct that it divides or closes
pub record Site : Type 0 where
  pub unit : t.SourceUnit
  pub family : Family
  pub body : Body
  pub around : Around
  pub opener : t.LineItem
  pub line : ℕ
  pub item : t.LineItem

-- the first lines of constructs that a jump may go to
abbrev pub is_counted_part : t.Part → Bool
is_counted_part (t.If cond) = true
is_counted_part (t.For name start limit step) = true
is_counted_part (t.Do loopc) = true
is_counted_part (t.SelectCase selector) = true
is_counted_part t.WhenExceptionIn = true
is_counted_part (t.WhenExceptionUse handler) = true
is_counted_part _ = false

-- a line that a jump may go to, where it stands in a block: a statement, a remark, an empty line, or the
-- first line of a construct
abbrev pub is_counted : t.LineItem → Bool
is_counted t.Nothing = true
is_counted (t.Rem bytes) = true
is_counted (t.OfSimple simple) = true
is_counted (t.OfPart part) = is_counted_part part
is_counted (t.OfDecl decl) = false

-- the number of a counted line
abbrev pub counted_line : t.NumLine → List ℕ
counted_line line = if is_counted line.item then line.line ∷ [] else []

-- of a construct its first line counts
abbrev pub counted_stmt : t.Stmt → List ℕ
counted_stmt (t.Single line) = counted_line line
counted_stmt (t.Nest (t.MoreSections head body rest) close) = counted_line head
counted_stmt (t.Nest t.NoSections close) = []

-- the counted lines of a block
abbrev pub counted_lines : t.Block → List ℕ
counted_lines t.NoStmts = []
counted_lines (t.MoreStmts stmt rest) = counted_stmt stmt ++ counted_lines rest

-- outside of all blocks, with the counted lines of the body's top
abbrev pub at_top : List ℕ → Around
at_top reach = record { reach = reach; in_do = false; in_for = false; in_handler = false; counters = [] }

-- inside the block that a line of a construct begins; NEXT and LOOP are lines of the block that they close,
-- and nothing is around a detached handler
abbrev pub inside : t.LineItem → t.Block → (close : ℕ) → Around → Around
inside (t.OfPart (t.Do loopc)) block close around =
    record around { reach = counted_lines block ++ (close ∷ around.reach); in_do = true }
inside (t.OfPart (t.For name start limit step)) block close around =
    record around { reach = counted_lines block ++ (close ∷ around.reach); in_for = true; counters = name ∷ around.counters }
inside (t.OfPart t.Use) block close around = record around { reach = counted_lines block ++ around.reach; in_handler = true }
inside (t.OfPart (t.Handler name)) block close around = record (at_top (counted_lines block)) { in_handler = true }
inside _ block close around = record around { reach = counted_lines block ++ around.reach }

-- the unit, the body with its family, and what is around
pub record Ground : Type 0 where
  pub unit : t.SourceUnit
  pub outer : Outer
  pub family : Family
  pub body : Body
  pub around : Around

-- a line on its ground
abbrev pub site_at : Ground → (opener : t.LineItem) → t.NumLine → Site
site_at g opener line = record {
  unit = g.unit;
  family = g.family;
  body = g.body;
  around = g.around;
  opener = opener;
  line = line.line;
  item = line.item;
}

-- the top of an internal procedure
abbrev pub internal_ground : Ground → t.NumLine × t.Block → Ground
internal_ground g inner = record g {
  body = internal_body g.outer g.family.container.scope.names inner;
  around = at_top (counted_lines inner.1);
}

-- a DEF has a body of one line, at its own number
abbrev pub definition_sites : Ground → List (t.NumLine × t.Block) → List Site
definition_sites g [] = []
definition_sites g ((head, t.MoreStmts (t.Single line) t.NoStmts) ∷ rest) =
    site_at (internal_ground g (head, t.MoreStmts (t.Single line) t.NoStmts)) t.Nothing line ∷ definition_sites g rest
definition_sites g (other ∷ rest) = definition_sites g rest

-- each line of a text in order, with all the places that it has; DEF has two
abbrev mutual
  pub stmt_sites : Ground → t.Stmt → List (List Site)
  stmt_sites g (t.Single line) = (site_at g t.Nothing line ∷ definition_sites g (definition_on line line.item)) ∷ []
  stmt_sites g (t.Nest sections close) = first_sites g sections close

  -- the line that opens a construct, and what it opens
  pub first_sites : Ground → t.Sections → (close : t.NumLine) → List (List Site)
  first_sites g t.NoSections close = (site_at g t.Nothing close ∷ []) ∷ []
  first_sites g (t.MoreSections head body rest) close =
      (site_at g t.Nothing head ∷ [])
      ∷ (block_sites (if opens_procedure head.item then internal_ground g (head, body)
      else record g { around = inside head.item body close.line g.around }) body
      ++ later_sites g head.item rest close)

  -- the other sections of a construct, and the line that closes it
  pub later_sites : Ground → (opener : t.LineItem) → t.Sections → (close : t.NumLine) → List (List Site)
  later_sites g opener t.NoSections close = (site_at g opener close ∷ []) ∷ []
  later_sites g opener (t.MoreSections head body rest) close =
      (site_at g opener head ∷ [])
      ∷ (block_sites (record g { around = inside head.item body close.line g.around }) body ++ later_sites g opener rest close)

  pub block_sites : Ground → t.Block → List (List Site)
  block_sites g t.NoStmts = []
  block_sites g (t.MoreStmts stmt rest) = stmt_sites g stmt ++ block_sites g rest

-- the lines of a body; a program's END is a line of its top
abbrev pub ground_of : t.SourceUnit → Outer → BodyKind → Option t.NumLine → t.Block → (last : List ℕ) → Ground
ground_of unit outer kind head block last =
    let family = family_of outer kind head block in
    record { unit = unit; outer = outer; family = family; body = family.container; around = at_top (counted_lines block ++ last) }

-- a line with one place
abbrev pub line_sites : Ground → t.NumLine → List (List Site)
line_sites g line = (site_at g t.Nothing line ∷ []) ∷ []

-- a first line, where it is written
abbrev pub head_sites : Ground → Option t.NumLine → List (List Site)
head_sites g None = []
head_sites g (Some line) = line_sites g line

-- the lines of an external procedure
abbrev pub procedure_sites : t.SourceUnit → Outer → t.Procedure → List (List Site)
procedure_sites unit outer p =
    let g = ground_of unit outer External (Some p.head) p.body [] in
    line_sites g p.head ++ (block_sites g p.body ++ line_sites g p.close)

-- the lines of a unit
abbrev pub sites_in : t.SourceUnit → Outer → t.SourceUnit → List (List Site)
sites_in unit outer (t.ProgramUnit p) =
    let g = ground_of unit outer Main p.head p.body (p.close.line ∷ []) in
    head_sites g p.head ++ (block_sites g p.body ++ line_sites g p.close)
sites_in unit outer (t.ProcedureUnit p) = procedure_sites unit outer p
sites_in unit outer (t.ModuleUnit m) =
    let g = ground_of unit outer Initial None m.initial [] in
    line_sites g m.head ++ (block_sites g m.initial ++ (gathered (procedure_sites unit outer) m.procs ++ line_sites g m.close))

-- the lines of a unit in order, each with its places
abbrev pub sites_of : t.SourceUnit → List (List Site)
sites_of unit = sites_in unit (outer_of unit) unit
