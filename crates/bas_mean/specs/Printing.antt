-- The print line of the terminal.
use Rattle.std.specs.Prelude.{ℕ, ◌+◌, ◌&&◌, List, [], ◌∷◌, ◌++◌, length, nat_lt, if◌then◌else◌}
use Rattle.bas_mean.specs.World.{Terminal, WorldOf, with_terminal}

-- a print line has at most this many columns
abbrev pub margin : ℕ
margin = 80

-- the line ends
abbrev pub line_ended : Terminal → Terminal
line_ended t = record t { output = t.output ++ 10 ∷ []; column = 0 }

-- the bytes are printed at the column
abbrev pub placed : List ℕ → Terminal → Terminal
placed text t = record t { output = t.output ++ text; column = t.column + length text }

-- an item that does not fit on the line after what is there ends the line first
abbrev pub item_placed : List ℕ → Terminal → Terminal
item_placed text t = placed text (if nat_lt 0 t.column && nat_lt margin (t.column + length text) then line_ended t else t)

-- the world after an item was printed
abbrev pub with_item : {C : Type 0} → List ℕ → WorldOf C → WorldOf C
with_item text w = with_terminal (item_placed text w.terminal) w

-- the world after the print line was ended
abbrev pub with_line_ended : {C : Type 0} → WorldOf C → WorldOf C
with_line_ended w = with_terminal (line_ended w.terminal) w
