-- Lines and constructs raise only what the program can raise, where their parts do.
use Rattle.std.proofs.Common.{◌≡◌, ℕ, zero, suc, Bool, true, false, List, [], ◌∷◌, Option, Some, None, nat_eq, inr}
use Rattle.bas_ast.specs.Tree.{Cond, Loopc, Loop, End, If, Elseif, Else, Do, LineItem, Nothing, Rem, OfSimple, OfPart, NumLine, Simple, Stmt, Block, NoStmts, MoreStmts, Program}
use Rattle.bas_ast.specs.Accessors.{line_of}
use Rattle.bas_mean.specs.World.{World}
use Rattle.bas_mean.specs.Outcome.{Exception, Trouble, Raised, Halted, Finished, Chained, Beyond, Undefined, Evaluated, Gives, Fails, Asks, Target, LineOf, EndOf, TurnOf, Next, Onward, Jump, Back, Finish, Halt, Retry, Continue, PassOn, Outcome, Normal, Jumps, Leaves, Away, Retries, Continues, PassesOn, Returns, Ends, follow}
use Rattle.bas_mean.specs.Place.{Around, Closing, Bare, ClosedBy, Region, Handler, Place, here_at, Lower}
use Rattle.bas_mean.specs.Line.{reported, counted, handled, troubled, worded, line}
use Rattle.bas_mean.specs.Block.{first_or, from_line, at_closing, or_at, landing, jump_within, next_line, Hit, Past, Round, Elsewhere, hit, loop_jump, loop_end}
use Rattle.bas_mean.specs.Condition.{holds}
use Rattle.bas_mean.specs.Simple.{simple_words}
use Rattle.bas_mean.specs.Construct.{decided, BlockMeaning, simple_line, remark_line, goes_round, if_section, in_do, do_section, section, loop_line, end_line, closing_line, single}
use Rattle.bas_raise.specs.Raised.{StmtHas, BlockHas, HasLine, MayRaise}
use Rattle.bas_raise.proofs.Words.{Allowed, Fair, Stands, cond_fair, loopc_fair, simple_fair}

module _ (p : Program) where
  -- an end in trouble is allowed
  abbrev pub Right : Outcome → Type 0
  Right (Ends t w) = Allowed p t
  Right _ = Unit {0}

  -- from every world
  abbrev pub Always : (World → Outcome) → Type 0
  Always go = (w : World) → Right (go w)

  -- a place of the program's own invocation: no handler is built
  pub record Within (q : Place) : Type 0 where
    pub handlers : q.handlers ≡ []
    pub unit : q.unit ≡ p.name

  -- the lines of a part are lines of the program
  abbrev pub StmtIn : Stmt → Type 0
  StmtIn s = (l : ℕ) → StmtHas s l → HasLine p l

  abbrev pub BlockIn : Block → Type 0
  BlockIn b = (l : ℕ) → BlockHas b l → HasLine p l

  abbrev pub ClosingIn : Closing → Type 0
  ClosingIn Bare = Unit {0}
  ClosingIn (ClosedBy opener close) = HasLine p close.line

  pub record RegionIn (r : Region) : Type 0 where
    pub block : BlockIn r.block
    pub closing : ClosingIn r.closing

  -- what runs with fewer lines left is right
  pub record LowerRight (low : Lower) : Type 0 where
    pub stmt : (q : Place) → Within q → (around : Around) (s : Stmt) → StmtIn s → Always (low.stmt q around s)
    pub lines : (q : Place) → Within q → (around : Around) (r : Region) → RegionIn r → (rest : Block) → BlockIn rest → Always (low.lines q around r rest)

  counted_right : (n : ℕ) (go : World → Outcome) (w : World) → Always go → Right (counted n go w)
  counted_right zero go w h = tt
  counted_right (suc n) go w h = h (record w { left = n })

  troubled_right : (t : Trouble) (raise : Exception → World → Outcome) (w : World) → Allowed p t → ((x : Exception) → MayRaise p x → Always (raise x)) → Right (troubled t raise w)
  troubled_right (Raised x) raise w a h = h x a w
  troubled_right Halted raise w a h = tt
  troubled_right Finished raise w a h = tt
  troubled_right (Chained program values) raise w a h = tt
  troubled_right Beyond raise w a h = tt
  troubled_right Undefined raise w a h = tt

  -- where no handler stands, an exception ends the line, and a line that asks is done again
  worded_right : {V : Type 0} (low : Lower) (q : Place) (l : ℕ) (again on : World → Outcome) (go : V → World → Outcome) (handlers : List Handler) (r : Evaluated V) → handlers ≡ [] → Fair p r → Always again → ((v : V) → Always (go v)) →
      Right (worded handlers again (λ x w. handled low q l again on x handlers w) go r)
  worded_right low q l again on go (h ∷ behind) r e a ra rg = absurd cc
  worded_right low q l again on go [] (Gives v w) e a ra rg = rg v w
  worded_right low q l again on go [] (Fails t w) e a ra rg = troubled_right t (λ x w1. handled low q l again on x [] w1) w a (λ x m w1. m)
  worded_right low q l again on go [] (Asks x w) e a ra rg = ra (reported x w)

  -- a counted line
  line_right : {V : Type 0} (low : Lower) (q : Place) (inside : Within q) (l : ℕ) (again on : World → Outcome) (words : World → Evaluated V) (go : V → World → Outcome) → Always again → ((w : World) → Fair p (words w)) → ((v : V) → Always (go v)) → Always (line low q l again on words go)
  line_right low q inside l again on words go ra f rg w =
      counted_right w.left (λ w1. worded q.handlers again (λ x w2. handled low q l again on x q.handlers w2) go (words w1)) w
      (λ w1. worded_right low q l again on go q.handlers (words w1) inside.handlers (f w1) ra rg)

  follow_right : (v : Next) → Always (follow v)
  follow_right Onward w = tt
  follow_right (Jump target) w = tt
  follow_right Back w = tt
  follow_right Finish w = tt
  follow_right Halt w = tt
  follow_right Retry w = tt
  follow_right Continue w = tt
  follow_right PassOn w = tt

  decided_right : (b : Bool) (held failed : World → Outcome) → Always held → Always failed → Always (decided b held failed)
  decided_right true held failed h f w = h w
  decided_right false held failed h f w = f w

  -- a jump at the end of a loop's block, and its other ends
  loop_jump_right : (h : Hit) (target : Target) (round : World → Outcome) → Always round → Always (loop_jump h target round)
  loop_jump_right Past target round rr w = tt
  loop_jump_right Round target round rr w = rr w
  loop_jump_right Elsewhere target round rr w = tt

  loop_end_right : (l : ℕ) (normal round : World → Outcome) → Always normal → Always round → (o : Outcome) → Right o → Right (loop_end l normal round o)
  loop_end_right l normal round rn rr (Normal w) a = rn w
  loop_end_right l normal round rn rr (Jumps target w) a = loop_jump_right (hit target l) target round rr w
  loop_end_right l normal round rn rr (Leaves k w) a = tt
  loop_end_right l normal round rn rr (Away k target w) a = tt
  loop_end_right l normal round rn rr (Retries w) a = tt
  loop_end_right l normal round rn rr (Continues w) a = tt
  loop_end_right l normal round rn rr (PassesOn w) a = tt
  loop_end_right l normal round rn rr (Returns w) a = tt
  loop_end_right l normal round rn rr (Ends t w) a = a

  -- where a jump goes on in a region is a part of that
  abbrev SomeIn : Option Block → Type 0
  SomeIn None = Unit {0}
  SomeIn (Some b) = BlockIn b

  first_in : (b : Bool) (a : Block) (o : Option Block) → BlockIn a → SomeIn o → SomeIn (first_or b a o)
  first_in true a o ha ho = ha
  first_in false a o ha ho = ho

  from_in : (l : ℕ) (b : Block) → BlockIn b → SomeIn (from_line l b)
  from_in l NoStmts h = tt
  from_in l (MoreStmts s rest) h = first_in (nat_eq l (line_of s)) (MoreStmts s rest) (from_line l rest) h (from_in l rest (λ m i. h m (inr i)))

  at_closing_in : (l : ℕ) (c : Closing) → SomeIn (at_closing l c)
  at_closing_in l Bare = tt
  at_closing_in l (ClosedBy opener close) = first_in (nat_eq l close.line) NoStmts None (λ m i. absurd i) tt

  or_in : (a b : Option Block) → SomeIn a → SomeIn b → SomeIn (or_at a b)
  or_in (Some a) b ha hb = ha
  or_in None b ha hb = hb

  landing_in : (target : Target) (r : Region) → RegionIn r → SomeIn (landing target r)
  landing_in (LineOf l) r h = or_in (from_line l r.block) (at_closing l r.closing) (from_in l r.block h.block) (at_closing_in l r.closing)
  landing_in (EndOf l) r h = tt
  landing_in (TurnOf l) r h = tt

  jump_right : (o : Option Block) (target : Target) (go : Block → World → Outcome) → SomeIn o → ((b : Block) → BlockIn b → Always (go b)) → Always (jump_within o target go)
  jump_right None target go h rg w = tt
  jump_right (Some b) target go h rg w = rg b h w

  -- after a line of a region
  pub next_right : (r : Region) → RegionIn r → (go : Block → World → Outcome) (rest : World → Outcome) → ((b : Block) → BlockIn b → Always (go b)) → Always rest → (o : Outcome) → Right o → Right (next_line r go rest o)
  next_right r h go rest rg rr (Normal w) a = rr w
  next_right r h go rest rg rr (Jumps target w) a = jump_right (landing target r) target go (landing_in target r h) rg w
  next_right r h go rest rg rr (Leaves k w) a = tt
  next_right r h go rest rg rr (Away k target w) a = tt
  next_right r h go rest rg rr (Retries w) a = tt
  next_right r h go rest rg rr (Continues w) a = tt
  next_right r h go rest rg rr (PassesOn w) a = tt
  next_right r h go rest rg rr (Returns w) a = tt
  next_right r h go rest rg rr (Ends t w) a = a

  module _ (low : Lower) (lower : LowerRight low) (q : Place) (inside : Within q) (around : Around) where
    here_stands : (l : ℕ) → HasLine p l → Stands p (here_at q around l)
    here_stands l h = record { unit = inside.unit; line = h }

    -- a line alone
    simple_line_right : (l : ℕ) (s : Simple) (whole : Stmt) → HasLine p l → StmtIn whole → Always (simple_line low q around l s whole)
    simple_line_right l s whole h i =
        line_right low q inside l (low.stmt q around whole) Normal (simple_words (here_at q around l) s) follow (lower.stmt q inside around whole i) (λ w. simple_fair p (here_at q around l) (here_stands l h) s w) follow_right

    remark_line_right : (l : ℕ) (whole : Stmt) → StmtIn whole → Always (remark_line low q around l whole)
    remark_line_right l whole i = line_right low q inside l (low.stmt q around whole) Normal (Gives Onward) follow (lower.stmt q inside around whole i) (λ w. tt) follow_right

    pub single_right : (l : ℕ) (item : LineItem) (whole : Stmt) → HasLine p l → StmtIn whole → Always (single low q around (record { line = l; item = item }) whole)
    single_right l Nothing whole h i w = remark_line_right l whole i w
    single_right l (Rem bytes) whole h i w = remark_line_right l whole i w
    single_right l (OfSimple s) whole h i w = simple_line_right l s whole h i w
    single_right l _ whole h i w = tt

    -- IF and ELSEIF
    if_right : (l : ℕ) (c : Cond) (whole : Stmt) (block : BlockMeaning) (rest : World → Outcome) → HasLine p l → StmtIn whole → Always (block around Bare) → Always rest → Always (if_section low q around l c whole block rest)
    if_right l c whole block rest h i rb rr =
        line_right low q inside l (low.stmt q around whole) Normal (holds (here_at q around l) c) (λ b w1. decided b (block around Bare) rest w1) (lower.stmt q inside around whole i)
        (λ w. cond_fair p (here_at q around l) (here_stands l h) c w) (λ b. decided_right b (block around Bare) rest rb rr)

    -- DO
    do_right : (l : ℕ) (loopc : Option Loopc) (close : NumLine) (whole : Stmt) (block : BlockMeaning) → HasLine p l → StmtIn whole → Always (block (in_do l around) (ClosedBy l close)) → Always (do_section low q around l loopc close whole block)
    do_right l loopc close whole block h i rb =
        line_right low q inside l again Normal (goes_round (here_at q around l) loopc) (λ b w1. decided b turn Normal w1) (lower.stmt q inside around whole i)
        (λ w. loopc_fair p (here_at q around l) (here_stands l h) loopc w)
        (λ b. decided_right b turn Normal (λ w. loop_end_right l again again (lower.stmt q inside around whole i) (lower.stmt q inside around whole i) (block (in_do l around) (ClosedBy l close) w) (rb w)) (λ w. tt))
      where
        again : World → Outcome
        again = low.stmt q around whole

        turn : World → Outcome
        turn w = loop_end l again again (block (in_do l around) (ClosedBy l close) w)

    -- a section, by its line
    pub section_right : (l : ℕ) (item : LineItem) (close : NumLine) (whole : Stmt) (block : BlockMeaning) (rest : World → Outcome) → HasLine p l → StmtIn whole → HasLine p close.line → ((inner : Around) (closing : Closing) → ClosingIn closing → Always (block inner closing)) → Always rest → Always (section low q around (record { line = l; item = item }) close whole block rest)
    section_right l (OfPart (If c)) close whole block rest h i hc rb rr w = if_right l c whole block rest h i (rb around Bare tt) rr w
    section_right l (OfPart (Elseif c)) close whole block rest h i hc rb rr w = if_right l c whole block rest h i (rb around Bare tt) rr w
    section_right l (OfPart Else) close whole block rest h i hc rb rr w = rb around Bare tt w
    section_right l (OfPart (Do loopc)) close whole block rest h i hc rb rr w = do_right l loopc close whole block h i (rb (in_do l around) (ClosedBy l close) hc) w
    section_right l _ close whole block rest h i hc rb rr w = tt

    -- the line of a region's end, done again
    closing_again : (r : Region) → RegionIn r → Always (low.lines q around r NoStmts)
    closing_again r i = lower.lines q inside around r i NoStmts (λ m n. absurd n)

    -- LOOP
    loop_right : (r : Region) (opener l : ℕ) (loopc : Option Loopc) → RegionIn r → HasLine p l → Always (loop_line low q around r opener l loopc)
    loop_right r opener l loopc i h =
        line_right low q inside l (low.lines q around r NoStmts) (Jumps (EndOf opener)) (goes_round (here_at q around l) loopc) (λ b w1. decided b Normal (Jumps (EndOf opener)) w1) (closing_again r i)
        (λ w. loopc_fair p (here_at q around l) (here_stands l h) loopc w) (λ b. decided_right b Normal (Jumps (EndOf opener)) (λ w. tt) (λ w. tt))

    -- END
    end_right : (r : Region) (l : ℕ) → RegionIn r → Always (end_line low q around r l)
    end_right r l i = line_right low q inside l (low.lines q around r NoStmts) Normal (Gives Halt) follow (closing_again r i) (λ w. tt) follow_right

    -- the line that closes a region
    closing_item_right : (b : Block) (opener l : ℕ) (item : LineItem) → RegionIn (record { block = b; closing = ClosedBy opener (record { line = l; item = item }) }) → Always (closing_line low q around (record { block = b; closing = ClosedBy opener (record { line = l; item = item }) }))
    closing_item_right b opener l (OfPart (Loop loopc)) i w = loop_right (record { block = b; closing = ClosedBy opener (record { line = l; item = OfPart (Loop loopc) }) }) opener l loopc i i.closing w
    closing_item_right b opener l (OfPart End) i w = end_right (record { block = b; closing = ClosedBy opener (record { line = l; item = OfPart End }) }) l i w
    closing_item_right b opener l _ i w = tt

    pub closing_right : (b : Block) (closing : Closing) → RegionIn (record { block = b; closing = closing }) → Always (closing_line low q around (record { block = b; closing = closing }))
    closing_right b Bare i w = tt
    closing_right b (ClosedBy opener close) i w = closing_item_right b opener close.line close.item i w
