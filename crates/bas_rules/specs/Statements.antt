-- The statements on a line, and what each asks of the kinds of its parts.
use Rattle.std.specs.Prelude.{Bool, true, ◌&&◌, List, [], ◌∷◌, ◌++◌, Option, None}
use Rattle.std.specs.Option.{option_map_or, option_to_list}
use Rattle.std.specs.List.{list_all}
use Rattle.bas_ast.specs.Tree as t
use Rattle.bas_scope.specs.Lines.{gathered}
use Rattle.bas_rules.specs.Kinds.{expr_kind, target_kind, same_kind, is_string, is_number, is_string_expr}

-- the statement that is a branch of IF
abbrev pub plains_of_branch : t.Branch → List t.Plain
plains_of_branch (t.ToLine line) = []
plains_of_branch (t.Does plain) = plain ∷ []

-- the statements of a one-line IF or ON, or the one alone
abbrev pub plains_of : t.Simple → List t.Plain
plains_of (t.Alone plain) = plain ∷ []
plains_of (t.IfThen cond then_part else_part) = plains_of_branch then_part ++ gathered plains_of_branch (option_to_list else_part)
plains_of (t.OnGoto index lines else_part) = option_to_list else_part
plains_of (t.OnGosub index lines else_part) = option_to_list else_part

-- the statements on a line
abbrev pub plains_on : t.LineItem → List t.Plain
plains_on (t.OfSimple simple) = plains_of simple
plains_on _ = []

-- what is there passes a test, where it is there
abbrev pub passes : {X : Type 0} → (X → Bool) → Option X → Bool
passes test o = option_map_or test o true

-- the number of a channel is a number
abbrev pub is_chan_number : t.Chan → Bool
is_chan_number chan = is_number chan.number

-- TAB takes a number
abbrev pub pitem_agrees : t.Pitem → Bool
pitem_agrees (t.Printed expr) = true
pitem_agrees (t.Tab column) = is_number column

-- the same for each item of a print list
abbrev pub plist_agrees : t.Plist → Bool
plist_agrees list = passes pitem_agrees list.first && list_all (λ x. passes pitem_agrees x.1) list.rest

-- RECORD takes a number, KEY a string
abbrev pub setter_agrees : t.Setter → Bool
setter_agrees (t.ToRecord number) = is_number number
setter_agrees (t.ToKey key) = is_string_expr key
setter_agrees (t.ToKeyAtLeast key) = is_string_expr key
setter_agrees (t.ToKeyAbove key) = is_string_expr key
setter_agrees _ = true

-- a target that is a string
abbrev pub is_string_target : t.Target → Bool
is_string_target target = is_string (target_kind target)

-- a prompt, a format, a name of a file or program and a target of LINE INPUT are strings
abbrev pub plain_agrees : t.Plain → Bool
plain_agrees (t.Let targets value) = list_all (λ target. same_kind (target_kind target) (expr_kind value)) targets
plain_agrees (t.Print list) = plist_agrees list
plain_agrees (t.PrintChan chan list) = is_chan_number chan && passes plist_agrees list
plain_agrees (t.PrintUsing chan format first rest semicolon) = passes is_chan_number chan && is_string_expr format
plain_agrees (t.Input prompt targets) = passes is_string_expr prompt
plain_agrees (t.LineInput prompt targets) = passes is_string_expr prompt && list_all is_string_target targets
plain_agrees (t.InputChan chan miss targets) = is_chan_number chan
plain_agrees (t.LineInputChan chan miss targets) = is_chan_number chan && list_all is_string_target targets
plain_agrees (t.CauseException number) = is_number number
plain_agrees (t.Chain program values) = is_string_expr program
plain_agrees (t.Open chan name attrs) = is_chan_number chan && is_string_expr name
plain_agrees (t.Close chan) = is_chan_number chan
plain_agrees (t.SetPointer chan setter) = is_chan_number chan && setter_agrees setter
plain_agrees (t.ReadChan chan setter miss targets) = is_chan_number chan && passes setter_agrees setter
plain_agrees (t.Write chan setter miss values) = is_chan_number chan && passes setter_agrees setter
plain_agrees (t.Rewrite chan setter miss values) = is_chan_number chan && passes setter_agrees setter
plain_agrees (t.Delete chan setter miss) = is_chan_number chan && passes setter_agrees setter
plain_agrees _ = true

-- the index of ON and the three values of FOR are numbers
abbrev pub item_agrees : t.LineItem → Bool
item_agrees (t.OfSimple (t.OnGoto index lines else_part)) = is_number index
item_agrees (t.OfSimple (t.OnGosub index lines else_part)) = is_number index
item_agrees (t.OfPart (t.For name start limit step)) = is_number start && (is_number limit && passes is_number step)
item_agrees _ = true

-- what IF MISSING and IF THERE say
abbrev pub miss_of : t.Plain → Option t.Miss
miss_of (t.InputChan chan miss targets) = miss
miss_of (t.LineInputChan chan miss targets) = miss
miss_of (t.ReadChan chan setter miss targets) = miss
miss_of (t.Write chan setter miss values) = miss
miss_of (t.Rewrite chan setter miss values) = miss
miss_of (t.Delete chan setter miss) = miss
miss_of _ = None

-- the targets of a statement
abbrev pub targets_of : t.Plain → List t.Target
targets_of (t.Let targets value) = targets
targets_of (t.Input prompt targets) = targets
targets_of (t.LineInput prompt targets) = targets
targets_of (t.InputChan chan miss targets) = targets
targets_of (t.LineInputChan chan miss targets) = targets
targets_of (t.Read targets) = targets
targets_of (t.ReadChan chan setter miss targets) = targets
targets_of _ = []
