-- The jumps of a built program that keeps all rules go where they may.
use Rattle.std.proofs.Common.{◌≡◌, ℕ, suc, Bool, true, false, not, ◌&&◌, ◌||◌, List, [], ◌∷◌, ◌++◌, Option, Some, None, refl, sym, ap, ◌∙◌, subst, nat_eq}
use Rattle.std.specs.Prelude.{if◌then◌else◌, is_some}
use Rattle.std.specs.Option.{option_map, option_or}
use Rattle.std.specs.List.{list_any}
use Rattle.std.specs.Cmp.{nat_eq_equiv}
use Rattle.std.proofs.lemmas.List.Folds.{list_any-append}
use Rattle.bas_ast.specs.Tree.{Plain, Goto, ExitDo, Alone, If, Elseif, Else, Do, LineItem, Nothing, OfSimple, OfPart, NumLine, Stmt, Single, Nest, Sections, NoSections, MoreSections, Block, NoStmts, MoreStmts, Program, ProgramUnit}
use Rattle.bas_ast.specs.Accessors.{line_of}
use Rattle.bas_scope.specs.Lines.{opens_procedure}
use Rattle.bas_scope.specs.Bodies.{outer_of}
use Rattle.bas_scope.specs.Scope.{definition_on}
use Rattle.bas_scope.specs.declared.body.BodyKind.TheVariants.{Main}
use Rattle.bas_rules.specs.Sites as place
use Rattle.bas_rules.specs.Sites.{Site, Ground, is_counted, counted_stmt, counted_lines, inside, site_at, internal_ground, definition_sites, stmt_sites, first_sites, later_sites, block_sites, ground_of, head_sites, line_sites}
use Rattle.bas_rules.specs.Statements.{plains_on}
use Rattle.bas_rules.specs.Jumping.{is_listed, jumps_on, jumps_into_block, leaves_nothing, exits_nothing}
use Rattle.bas_rules.specs.Well.{Fault, rules, first_failed, fault_of_line, fault_among, first_fault}
use Rattle.bas_mean.specs.Outcome.{Target, LineOf, EndOf}
use Rattle.bas_mean.specs.Place.{Around, Bare, ClosedBy}
use Rattle.bas_mean.specs.Block.{Past, hit_if, first_or, from_line, at_closing, or_at}
use Rattle.bas_mean.specs.Construct.{in_do}
use Rattle.bas_mean.specs.Meaning.{outermost, program_region}
use Rattle.bas_mean.specs.Built.{is_built_section, is_built_stmt, are_built_sections, is_built_block}
use Rattle.bas_mean.specs.Jumps.{near_in, is_hit, near_in_loop, may_exit, jumps_in_plain, jumps_in_item, jumps_in_section, jumps_in_stmt, jumps_in_sections, jumps_in_block, jumps_are_right}

-- ---- truth

pub no_truth : false ≡ true → ⊥
no_truth e = absurd cc

pub and_left : (a b : Bool) → (a && b) ≡ true → a ≡ true
and_left true b h = refl
and_left false b h = h

pub and_right : (a b : Bool) → (a && b) ≡ true → b ≡ true
and_right true b h = h
and_right false b h = absurd (no_truth h)

and_both : (a b : Bool) → a ≡ true → b ≡ true → (a && b) ≡ true
and_both true b g h = h
and_both false b g h = g

or_left : (a b : Bool) → a ≡ true → (a || b) ≡ true
or_left true b h = refl
or_left false b h = absurd (no_truth h)

or_right : (a b : Bool) → b ≡ true → (a || b) ≡ true
or_right true b h = refl
or_right false b h = h

either : (a b c : Bool) → (a ≡ true → c ≡ true) → (b ≡ true → c ≡ true) → (a || b) ≡ true → c ≡ true
either true b c f g h = f refl
either false b c f g h = g h

neither_left : (a b : Bool) → (a || b) ≡ false → a ≡ false
neither_left true b h = h
neither_left false b h = refl

-- the one test of a row does not fail
holds : (b : Bool) → (not b || false) ≡ false → b ≡ true
holds true h = refl
holds false h = sym h

-- ---- lines without a fault

or_none : (a b : Option Fault) → option_or a b ≡ None → (a ≡ None) × (b ≡ None)
or_none None b h = (refl, h)
or_none (Some fault) b h = absurd (cc)

abbrev broken_at : (line rule : ℕ) → Fault
broken_at l r = record { line = l; rule = r }

no_rule : (l : ℕ) (o : Option ℕ) → option_map (broken_at l) o ≡ None → o ≡ None
no_rule l None h = refl
no_rule l (Some r) h = absurd (cc)

-- places of which none fails a test
abbrev PassEach : List (Site → Bool) → List Site → Type 0
PassEach [] places = Unit {0}
PassEach (test ∷ tests) places = (list_any test places ≡ false) × PassEach tests places

not_failed : (b : Bool) (n : ℕ) (later : Option ℕ) → (if b then Some n else later) ≡ None → (b ≡ false) × (later ≡ None)
not_failed true n later h = absurd (cc)
not_failed false n later h = (refl, h)

pass_each : (n : ℕ) (tests : List (Site → Bool)) (places : List Site) → first_failed n tests places ≡ None → PassEach tests places
pass_each n [] places h = tt
pass_each n (test ∷ tests) places h =
    let here = not_failed (list_any test places) n (first_failed (suc n) tests places) h in
    (here.0, pass_each (suc n) tests places here.1)

-- what rules 4 and 6 forbid is not so at a place of such a line
jumps_are_fair : (x : Site) (more : List Site) → fault_of_line (x ∷ more) ≡ None → (jumps_into_block x ≡ false) × (exits_nothing x ≡ false)
jumps_are_fair x more h =
    let each : PassEach rules (x ∷ more) = pass_each 1 rules (x ∷ more) (no_rule x.line (first_failed 1 rules (x ∷ more)) h) in (
      neither_left (jumps_into_block x) (list_any jumps_into_block more) each.1.1.1.0,
      neither_left (exits_nothing x) (list_any exits_nothing more) each.1.1.1.1.1.0,
    )

parted : (front behind : List (List Site)) → fault_among (front ++ behind) ≡ None → (fault_among front ≡ None) × (fault_among behind ≡ None)
parted [] behind h = (refl, h)
parted (places ∷ front) behind h =
    let first = or_none (fault_of_line places) (fault_among (front ++ behind)) h in
    let rest = parted front behind first.1 in
    (ap (λ (o : Option Fault). option_or o (fault_among front)) first.0 ∙ rest.0, rest.1)

-- what follows a line, in two parts
parted_behind : (places : List Site) (front behind : List (List Site)) → fault_among (places ∷ (front ++ behind)) ≡ None → (fault_among front ≡ None) × (fault_among behind ≡ None)
parted_behind places front behind h = parted front behind (or_none (fault_of_line places) (fault_among (front ++ behind)) h).1

-- ---- counted lines, and where a jump to one lands

counted_is : (counted : Bool) (n l : ℕ) → is_listed (if counted then n ∷ [] else []) l ≡ true → nat_eq l n ≡ true
counted_is true n l h = either (nat_eq l n) false (nat_eq l n) (λ e. e) (λ e. absurd (no_truth e)) h
counted_is false n l h = absurd (no_truth h)

begins_at : (s : Stmt) (l : ℕ) → is_listed (counted_stmt s) l ≡ true → nat_eq l (line_of s) ≡ true
begins_at (Single line) l h = counted_is (is_counted line.item) line.line l h
begins_at (Nest NoSections close) l h = absurd (no_truth h)
begins_at (Nest (MoreSections head body rest) close) l h = counted_is (is_counted head.item) head.line l h

lands_here : (b : Bool) (whole : Block) (rest behind : Option Block) → b ≡ true → is_some (or_at (first_or b whole rest) behind) ≡ true
lands_here true whole rest behind h = refl
lands_here false whole rest behind h = absurd (no_truth h)

lands_later : (b : Bool) (whole : Block) (rest behind : Option Block) → is_some (or_at rest behind) ≡ true → is_some (or_at (first_or b whole rest) behind) ≡ true
lands_later true whole rest behind h = refl
lands_later false whole rest behind h = h

listed_apart : (front behind : List ℕ) (l : ℕ) (c : Bool) → (is_listed front l ≡ true → c ≡ true) → (is_listed behind l ≡ true → c ≡ true) → is_listed (front ++ behind) l ≡ true → c ≡ true
listed_apart front behind l c f g h = either (is_listed front l) (is_listed behind l) c f g (sym (list_any-append (nat_eq l) front behind) ∙ h)

lands : (b : Block) (behind : Option Block) (l : ℕ) → is_listed (counted_lines b) l ≡ true → is_some (or_at (from_line l b) behind) ≡ true
lands NoStmts behind l h = absurd (no_truth h)
lands (MoreStmts s rest) behind l h =
    let later = from_line l rest in
    let whole = MoreStmts s rest in
    listed_apart (counted_stmt s) (counted_lines rest) l _
    (λ e. lands_here (nat_eq l (line_of s)) whole later behind (begins_at s l e))
    (λ e. lands_later (nat_eq l (line_of s)) whole later behind (lands rest behind l e)) h

lands_behind : (o behind : Option Block) → is_some behind ≡ true → is_some (or_at o behind) ≡ true
lands_behind (Some b) behind h = refl
lands_behind None behind h = h

is_closing : (b : Bool) → b ≡ true → is_some (first_or b NoStmts None) ≡ true
is_closing true h = refl
is_closing false h = absurd (no_truth h)

-- a line that the rules let a jump name is one of the block, or one that is near outside of it
part_lands : (b : Block) (reach : List ℕ) (l : ℕ) (outer : Bool) → (is_listed reach l ≡ true → outer ≡ true) →
    is_listed (counted_lines b ++ reach) l ≡ true → (is_some (or_at (from_line l b) None) || outer) ≡ true
part_lands b reach l outer out h =
    listed_apart (counted_lines b) reach l _ (λ e. or_left _ outer (lands b None l e)) (λ e. or_right _ outer (out e)) h

-- the same where the line that closes the block is one of it
loop_lands : (b : Block) (opener : ℕ) (close : NumLine) (reach : List ℕ) (l : ℕ) (outer : Bool) → (is_listed reach l ≡ true → outer ≡ true) →
    is_listed (counted_lines b ++ close.line ∷ reach) l ≡ true → (is_some (or_at (from_line l b) (at_closing l (ClosedBy opener close))) || outer) ≡ true
loop_lands b opener close reach l outer out h =
    let behind = at_closing l (ClosedBy opener close) in
    listed_apart (counted_lines b) (close.line ∷ reach) l _
    (λ e. or_left _ outer (lands b behind l e))
    (λ e. either (nat_eq l close.line) (is_listed reach l) _
    (λ k. or_left _ outer (lands_behind (from_line l b) behind (is_closing (nat_eq l close.line) k)))
    (λ k. or_right _ outer (out k)) e)
    h

-- ---- what the rules let a jump name is near for the meaning

record Near (here : place.Around) (around : Around) (near : Target → Bool) : Type 0 where
  lines : (l : ℕ) → is_listed here.reach l ≡ true → near (LineOf l) ≡ true
  exit : here.in_do ≡ true → may_exit around.do_line near ≡ true

-- inside the block of a DO, and of another construct
abbrev around_loop : Block → (close : ℕ) → place.Around → place.Around
around_loop body close here = record here { reach = counted_lines body ++ close ∷ here.reach; in_do = true }

abbrev around_part : Block → place.Around → place.Around
around_part body here = record here { reach = counted_lines body ++ here.reach }

abbrev near_loop : Block → (opener : ℕ) → (close : NumLine) → (Target → Bool) → Target → Bool
near_loop body opener close near = near_in (record { block = body; closing = ClosedBy opener close }) (near_in_loop opener near)

abbrev near_part : Block → (Target → Bool) → Target → Bool
near_part body near = near_in (record { block = body; closing = Bare }) near

exit_kept : (o : Option ℕ) (b : Block) (near : Target → Bool) → may_exit o (near_part b near) ≡ may_exit o near
exit_kept None b near = refl
exit_kept (Some l) b near = refl

into_part : (here : place.Around) (around : Around) (near : Target → Bool) (body : Block) → Near here around near →
    Near (around_part body here) around (near_part body near)
into_part here around near body n = record {
  lines = λ l h. part_lands body here.reach l (near (LineOf l)) (n.lines l) h;
  exit = λ h. exit_kept around.do_line body near ∙ n.exit h;
}

into_loop : (here : place.Around) (around : Around) (near : Target → Bool) (body : Block) (opener : ℕ) (close : NumLine) → Near here around near →
    Near (around_loop body close.line here) (in_do opener around) (near_loop body opener close near)
into_loop here around near body opener close n = record {
  lines = λ l h. loop_lands body opener close here.reach l (near (LineOf l)) (n.lines l) h;
  exit = λ h. ap (λ b. is_hit (hit_if b Past) || near (EndOf opener)) (nat_eq_equiv.refl opener);
}

at_top_of : (p : Program) → Near (place.at_top (counted_lines p.body ++ p.close.line ∷ [])) outermost (near_in (program_region p) (λ t. false))
at_top_of p = record {
  lines = λ l h. loop_lands p.body 0 p.close [] l false (λ e. e) h;
  exit = λ h. h;
}

-- ---- lines

plain_right : (x : Site) (plain : Plain) (around : Around) (near : Target → Bool) → Near x.around around near →
    list_any (λ l. not (is_listed x.around.reach l)) (jumps_on (OfSimple (Alone plain))) ≡ false → list_any (leaves_nothing x) (plain ∷ []) ≡ false → jumps_in_plain around near plain ≡ true
plain_right x (Goto l) around near n jumps exits = n.lines l (holds (is_listed x.around.reach l) jumps)
plain_right x ExitDo around near n jumps exits = n.exit (holds x.around.in_do exits)
plain_right x _ around near n jumps exits = refl

item_right : (x : Site) (item : LineItem) (around : Around) (near : Target → Bool) → Near x.around around near →
    list_any (λ l. not (is_listed x.around.reach l)) (jumps_on item) ≡ false → list_any (leaves_nothing x) (plains_on item) ≡ false → jumps_in_item around near item ≡ true
item_right x (OfSimple (Alone plain)) around near n jumps exits = plain_right x plain around near n jumps exits
item_right x _ around near n jumps exits = refl

line_right : (x : Site) (more : List Site) (around : Around) (near : Target → Bool) → Near x.around around near → fault_of_line (x ∷ more) ≡ None → jumps_in_item around near x.item ≡ true
line_right x more around near n h = let fair = jumps_are_fair x more h in item_right x x.item around near n fair.0 fair.1

-- ---- sections

-- no built construct is a procedure
opens_none : (item close : LineItem) → is_built_section item close ≡ true → opens_procedure item ≡ false
opens_none (OfPart (If c)) close b = refl
opens_none (OfPart (Elseif c)) close b = refl
opens_none (OfPart Else) close b = refl
opens_none (OfPart (Do loopc)) close b = refl
opens_none _ close b = absurd (no_truth b)

-- the ground on which the block of a section stands
abbrev within : Ground → LineItem → Block → (close : ℕ) → Ground
within g item body close = record g { around = inside item body close g.around }

-- the block that a built construct begins with
begun : (g : Ground) (head : NumLine) (body : Block) (close : NumLine) → is_built_section head.item close.item ≡ true →
    fault_among (block_sites (if opens_procedure head.item then internal_ground g (head, body) else within g head.item body close.line) body) ≡ None →
    fault_among (block_sites (within g head.item body close.line) body) ≡ None
begun g head body close b h =
    subst (λ (opens : Bool). fault_among (block_sites (if opens then internal_ground g (head, body) else within g head.item body close.line) body) ≡ None) (opens_none head.item close.item b) h

-- the jumps of a block are right wherever it stands
abbrev BlockIsRight : Block → Type 0
BlockIsRight body = (g : Ground) (around : Around) (near : Target → Bool) → Near g.around around near → fault_among (block_sites g body) ≡ None → jumps_in_block around near body ≡ true

abbrev section_is_right : Around → (Target → Bool) → (line : ℕ) → LineItem → Block → (close : NumLine) → Bool
section_is_right around near line item body close =
    jumps_in_section around near line item close (λ inner reached closing. jumps_in_block inner (near_in (record { block = body; closing = closing }) reached) body)

section_right : (item : LineItem) (line : ℕ) (body : Block) (close : NumLine) (g : Ground) (around : Around) (near : Target → Bool) → Near g.around around near → BlockIsRight body →
    is_built_section item close.item ≡ true → fault_among (block_sites (within g item body close.line) body) ≡ None → section_is_right around near line item body close ≡ true
section_right (OfPart (If c)) line body close g around near n right b h = right (within g (OfPart (If c)) body close.line) around (near_part body near) (into_part g.around around near body n) h
section_right (OfPart (Elseif c)) line body close g around near n right b h = right (within g (OfPart (Elseif c)) body close.line) around (near_part body near) (into_part g.around around near body n) h
section_right (OfPart Else) line body close g around near n right b h = right (within g (OfPart Else) body close.line) around (near_part body near) (into_part g.around around near body n) h
section_right (OfPart (Do loopc)) line body close g around near n right b h = right (within g (OfPart (Do loopc)) body close.line) (in_do line around) (near_loop body line close near) (into_loop g.around around near body line close n) h
section_right _ line body close g around near n right b h = absurd (no_truth b)

-- what is built of a section, of its block, and of the sections after it
built_line : (head : NumLine) (body : Block) (rest : Sections) (close : NumLine) → are_built_sections (MoreSections head body rest) close ≡ true → is_built_section head.item close.item ≡ true
built_line head body rest close b = and_left (is_built_section head.item close.item) (is_built_block body && are_built_sections rest close) b

built_body : (head : NumLine) (body : Block) (rest : Sections) (close : NumLine) → are_built_sections (MoreSections head body rest) close ≡ true → is_built_block body ≡ true
built_body head body rest close b = and_left (is_built_block body) (are_built_sections rest close) (and_right (is_built_section head.item close.item) (is_built_block body && are_built_sections rest close) b)

built_rest : (head : NumLine) (body : Block) (rest : Sections) (close : NumLine) → are_built_sections (MoreSections head body rest) close ≡ true → are_built_sections rest close ≡ true
built_rest head body rest close b = and_right (is_built_block body) (are_built_sections rest close) (and_right (is_built_section head.item close.item) (is_built_block body && are_built_sections rest close) b)

mutual
  stmt_right : (s : Stmt) (g : Ground) (around : Around) (near : Target → Bool) → Near g.around around near → is_built_stmt s ≡ true → fault_among (stmt_sites g s) ≡ None → jumps_in_stmt around near s ≡ true
  stmt_right (Single head) g around near n b h =
      let places = definition_sites g (definition_on head head.item) in
      line_right (site_at g Nothing head) places around near n (or_none (fault_of_line (site_at g Nothing head ∷ places)) None h).0
  stmt_right (Nest sections close) g around near n b h = construct_right sections close g around near n b h

  -- a construct from its first section on
  construct_right : (sections : Sections) (close : NumLine) (g : Ground) (around : Around) (near : Target → Bool) → Near g.around around near → are_built_sections sections close ≡ true →
      fault_among (first_sites g sections close) ≡ None → jumps_in_sections around near sections close ≡ true
  construct_right NoSections close g around near n b h = refl
  construct_right (MoreSections head body rest) close g around near n b h =
      let later = later_sites g head.item rest close in
      let own = block_sites (if opens_procedure head.item then internal_ground g (head, body) else within g head.item body close.line) body in
      let apart = parted_behind (site_at g Nothing head ∷ []) own later h in
      let line = built_line head body rest close b in
      and_both (section_is_right around near head.line head.item body close) (jumps_in_sections around near rest close)
      (section_right head.item head.line body close g around near n (λ k a r o q. block_right body k a r o (built_body head body rest close b) q) line (begun g head body close line apart.0))
      (sections_right rest close head.item g around near n (built_rest head body rest close b) apart.1)

  -- the sections after the first
  sections_right : (sections : Sections) (close : NumLine) (opener : LineItem) (g : Ground) (around : Around) (near : Target → Bool) → Near g.around around near → are_built_sections sections close ≡ true →
      fault_among (later_sites g opener sections close) ≡ None → jumps_in_sections around near sections close ≡ true
  sections_right NoSections close opener g around near n b h = refl
  sections_right (MoreSections head body rest) close opener g around near n b h =
      let later = later_sites g opener rest close in
      let own = block_sites (within g head.item body close.line) body in
      let apart = parted_behind (site_at g opener head ∷ []) own later h in
      and_both (section_is_right around near head.line head.item body close) (jumps_in_sections around near rest close)
      (section_right head.item head.line body close g around near n (λ k a r o q. block_right body k a r o (built_body head body rest close b) q) (built_line head body rest close b) apart.0)
      (sections_right rest close opener g around near n (built_rest head body rest close b) apart.1)

  block_right : (body : Block) (g : Ground) (around : Around) (near : Target → Bool) → Near g.around around near → is_built_block body ≡ true → fault_among (block_sites g body) ≡ None → jumps_in_block around near body ≡ true
  block_right NoStmts g around near n b h = refl
  block_right (MoreStmts s rest) g around near n b h =
      let apart = parted (stmt_sites g s) (block_sites g rest) h in
      and_both (jumps_in_stmt around near s) (jumps_in_block around near rest)
      (stmt_right s g around near n (and_left (is_built_stmt s) (is_built_block rest) b) apart.0)
      (block_right rest g around near n (and_right (is_built_stmt s) (is_built_block rest) b) apart.1)

-- a program whose statements are built, and in which no rule is broken
pub jumps_right : (p : Program) → is_built_block p.body ≡ true → first_fault (ProgramUnit p) ≡ None → jumps_are_right p ≡ true
jumps_right p b h =
    let g = ground_of (ProgramUnit p) (outer_of (ProgramUnit p)) Main p.head p.body (p.close.line ∷ []) in
    let behind = parted (head_sites g p.head) (block_sites g p.body ++ line_sites g p.close) h in
    let own = parted (block_sites g p.body) (line_sites g p.close) behind.1 in
    block_right p.body g outermost (near_in (program_region p) (λ t. false)) (at_top_of p) b own.0
