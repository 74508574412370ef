-- A counted line: it takes one of the lines left, its words are executed, and what they lead to
-- follows. If it raises an exception, the handlers around it are started, innermost first.
use Rattle.std.specs.Prelude.{ℕ, zero, suc, Bool, true, false, List, [], ◌∷◌, ◌++◌, length, codes, decimal}
use Rattle.bas_mean.specs.World.{World, WorldOf, Terminal, with_left, with_caught, with_terminal}
use Rattle.bas_mean.specs.Outcome.{Exception, Trouble, Raised, Halted, Finished, Chained, Beyond, Undefined, Evaluated, Gives, Fails, Asks, Outcome, Normal, Jumps, Leaves, Away, Retries, Continues, PassesOn, Returns, Ends}
use Rattle.bas_mean.specs.Place.{Region, Bare, Handler, Place, in_handler, is_full, Lower}

-- the report's line of an exception
abbrev pub report_line : Exception → List ℕ
report_line x = codes "exception " ++ decimal x.number ++ codes " at line " ++ decimal x.line ++ codes " of " ++ x.unit ++ 10 ∷ []

-- the report with the line of an exception
abbrev pub line_reported : Exception → Terminal → Terminal
line_reported x t = record t { report = t.report ++ report_line x }

-- the world with an exception in the report
abbrev pub reported : {C : Type 0} → Exception → WorldOf C → WorldOf C
reported x w = with_terminal (line_reported x w.terminal) w

-- takes one line, or ends where none is left
abbrev pub counted : ℕ → (World → Outcome) → World → Outcome
counted zero go w = Ends Beyond w
counted (suc left) go w = go (with_left left w)

-- what the end of a handler's block means for the line at which the handler was started; k is the number
-- of handlers after it in the list
abbrev pub settled : ℕ → (again on outward : World → Outcome) → Outcome → Outcome
settled k again on outward (Normal w) = Leaves k w
settled k again on outward (Jumps target w) = Away k target w
settled k again on outward (Leaves j w) = Leaves j w
settled k again on outward (Away j target w) = Away j target w
settled k again on outward (Retries w) = again w
settled k again on outward (Continues w) = on w
settled k again on outward (PassesOn w) = outward w
settled k again on outward (Returns w) = Returns w
settled k again on outward (Ends t w) = Ends t w

-- raises x where one more activation would be too deep
abbrev pub unless_full : Bool → Exception → (World → Outcome) → World → Outcome
unless_full true x go w = Ends (Raised x) w
unless_full false x go w = go w

-- a handler's block has no closing line of its own
abbrev pub handler_region : Handler → Region
handler_region h = record { block = h.block; closing = Bare }

-- the first handler of the list is run at this place, with the others as its list
abbrev pub handled : Lower → Place → (line : ℕ) → (again on : World → Outcome) → Exception → List Handler → World → Outcome
handled low p l again on x [] w = Ends (Raised x) w
handled low p l again on x (h ∷ behind) w =
    unless_full (is_full p.depth) (record { number = 5002; line = l; unit = p.unit })
    (λ w1. settled (length behind) again on (λ w2. handled low p l again on x behind w2)
    (low.lines (in_handler p behind) h.around (handler_region h) h.block (with_caught x.number x.line w1)))
    w

-- if there is no handler, the exception is reported and the line is executed again
abbrev pub recovered : List Handler → Exception → (again raise : World → Outcome) → World → Outcome
recovered [] x again raise w = again (reported x w)
recovered (h ∷ behind) x again raise w = raise w

-- an exception is raised at the line, and any other trouble passes
abbrev pub troubled : Trouble → (raise : Exception → World → Outcome) → World → Outcome
troubled (Raised x) raise w = raise x w
troubled Halted raise w = Ends Halted w
troubled Finished raise w = Ends Finished w
troubled (Chained program values) raise w = Ends (Chained program values) w
troubled Beyond raise w = Ends Beyond w
troubled Undefined raise w = Ends Undefined w

-- what follows the words, by how they ended
abbrev pub worded : {V : Type 0} → List Handler → (again : World → Outcome) → (raise : Exception → World → Outcome) → (go : V → World → Outcome) → Evaluated V → Outcome
worded handlers again raise go (Gives v w) = go v w
worded handlers again raise go (Fails t w) = troubled t raise w
worded handlers again raise go (Asks x w) = recovered handlers x again (raise x) w

-- a counted line: `again` executes it again, `on` goes on after it for CONTINUE
abbrev pub line : {V : Type 0} → Lower → Place → ℕ → (again on : World → Outcome) → (words : World → Evaluated V) → (go : V → World → Outcome) → World → Outcome
line low p l again on words go w =
    counted w.left (λ w1. worded p.handlers again (λ x w2. handled low p l again on x p.handlers w2) go (words w1)) w
