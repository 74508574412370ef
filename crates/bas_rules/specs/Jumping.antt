-- The rules on where jumps and exits go.
use Rattle.std.specs.Prelude.{ℕ, Bool, true, false, not, ◌&&◌, nat_eq, List, [], ◌∷◌, ◌++◌, Some}
use Rattle.std.specs.Option.{option_to_list}
use Rattle.std.specs.List.{list_any}
use Rattle.bas_ast.specs.Tree as t
use Rattle.bas_scope.specs.Lines.{gathered}
use Rattle.bas_scope.specs.declared.body.BodyKind.{BodyKind}
use Rattle.bas_scope.specs.declared.body.BodyKind.TheVariants.{Main, Initial}
use Rattle.bas_scope.specs.Bodies.{head_item, data_lines}
use Rattle.bas_rules.specs.Sites.{Site, counted_lines}
use Rattle.bas_rules.specs.Statements.{plains_on, miss_of}

-- a number is one of some
abbrev pub is_listed : List ℕ → ℕ → Bool
is_listed numbers l = list_any (nat_eq l) numbers

-- the line to which IF MISSING or IF THERE goes
abbrev pub line_of_then : t.MissThen → List ℕ
line_of_then (t.MissGoto line) = line ∷ []
line_of_then _ = []

-- the lines to which a statement may go
abbrev pub goto_of : t.Plain → List ℕ
goto_of (t.Goto line) = line ∷ []
goto_of plain = gathered (λ miss. line_of_then miss.goes) (option_to_list (miss_of plain))

-- the line that is a branch of IF
abbrev pub line_of_branch : t.Branch → List ℕ
line_of_branch (t.ToLine line) = line ∷ []
line_of_branch (t.Does plain) = []

-- the lines that IF and ON name themselves
abbrev pub lines_of_simple : t.Simple → List ℕ
lines_of_simple (t.IfThen cond then_part else_part) = line_of_branch then_part ++ gathered line_of_branch (option_to_list else_part)
lines_of_simple (t.OnGoto index lines else_part) = lines
lines_of_simple _ = []

-- the same for what stands on a line
abbrev pub lines_of_item : t.LineItem → List ℕ
lines_of_item (t.OfSimple simple) = lines_of_simple simple
lines_of_item _ = []

-- the lines that the jumps of a line name
abbrev pub jumps_on : t.LineItem → List ℕ
jumps_on item = lines_of_item item ++ gathered goto_of (plains_on item)

-- 4: a jump goes to no counted line of the same or an enclosing block
abbrev pub jumps_into_block : Site → Bool
jumps_into_block x = list_any (λ l. not (is_listed x.around.reach l)) (jumps_on x.item)

-- the line that GOSUB names
abbrev pub gosub_of : t.Plain → List ℕ
gosub_of (t.Gosub line) = line ∷ []
gosub_of _ = []

-- the lines that ON GOSUB names
abbrev pub on_gosub : t.LineItem → List ℕ
on_gosub (t.OfSimple (t.OnGosub index lines else_part)) = lines
on_gosub _ = []

-- the lines that GOSUB names
abbrev pub gosubs_on : t.LineItem → List ℕ
gosubs_on item = on_gosub item ++ gathered gosub_of (plains_on item)

-- the counted lines of a body's top; END is one of a program
abbrev pub end_line : t.SourceUnit → BodyKind → List ℕ
end_line (t.ProgramUnit p) Main = p.close.line ∷ []
end_line _ _ = []

-- 5: GOSUB goes to no counted line of the top of its body
abbrev pub gosub_into_block : Site → Bool
gosub_into_block x =
    list_any (λ l. not (is_listed (counted_lines x.body.block ++ end_line x.unit x.body.kind) l)) (gosubs_on x.item)

-- the first line of a SUB
abbrev pub is_sub : t.LineItem → Bool
is_sub (t.OfPart (t.Sub name formals)) = true
is_sub (t.OfPart (t.ExternalSub name formals)) = true
is_sub _ = false

-- the first line of a FUNCTION
abbrev pub is_function : t.LineItem → Bool
is_function (t.OfPart (t.Function name formals)) = true
is_function (t.OfPart (t.ExternalFunction name formals)) = true
is_function _ = false

-- where IF MISSING or IF THERE of a statement goes
abbrev pub exit_of_miss : t.Plain → List t.MissThen
exit_of_miss plain = gathered (λ miss. miss.goes ∷ []) (option_to_list (miss_of plain))

-- IF MISSING THEN EXIT outside of such a loop
abbrev pub miss_leaves_nothing : Site → t.MissThen → Bool
miss_leaves_nothing x t.MissExitDo = not x.around.in_do
miss_leaves_nothing x t.MissExitFor = not x.around.in_for
miss_leaves_nothing x (t.MissGoto line) = false

-- an EXIT outside of such a construct
abbrev pub leaves_nothing : Site → t.Plain → Bool
leaves_nothing x t.ExitDo = not x.around.in_do
leaves_nothing x t.ExitFor = not x.around.in_for
leaves_nothing x t.ExitSub = not (is_sub (head_item x.body.head))
leaves_nothing x t.ExitFunction = not (is_function (head_item x.body.head))
leaves_nothing x plain = list_any (miss_leaves_nothing x) (exit_of_miss plain)

-- 6: an EXIT stands inside of no such construct of its body
abbrev pub exits_nothing : Site → Bool
exits_nothing x = list_any (leaves_nothing x) (plains_on x.item)

-- a statement of handlers alone
abbrev pub is_of_handler : t.Plain → Bool
is_of_handler t.Retry = true
is_of_handler t.Continue = true
is_of_handler t.ExitHandler = true
is_of_handler _ = false

-- 7: RETRY, CONTINUE or EXIT HANDLER stands in no handler
abbrev pub resumes_nothing : Site → Bool
resumes_nothing x = not x.around.in_handler && list_any is_of_handler (plains_on x.item)

-- the line that RESTORE names
abbrev pub restored_line : t.Plain → List ℕ
restored_line (t.Restore (Some line)) = line ∷ []
restored_line _ = []

-- 17: RESTORE names no DATA line of the unit
abbrev pub restores_no_data : Site → Bool
restores_no_data x = list_any (λ l. not (list_any (λ d. nat_eq l d.0) (data_lines x.unit))) (gathered restored_line (plains_on x.item))

-- CHAIN
abbrev pub is_chain : t.Plain → Bool
is_chain (t.Chain program values) = true
is_chain _ = false

-- the initial part of a module
abbrev pub is_initial : BodyKind → Bool
is_initial Initial = true
is_initial _ = false

-- 22: CHAIN stands in an initial part
abbrev pub chains_in_initial_part : Site → Bool
chains_in_initial_part x = is_initial x.body.kind && list_any is_chain (plains_on x.item)
