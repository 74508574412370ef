-- What a line is for the generator.
use Rattle.std.specs.Prelude.{◌≡◌, Bool, true, false, List, ◌++◌}
use Rattle.std.specs.Option.{option_map}
use Rattle.bas_ast.specs.Tree as t
use Rattle.bas_mean.specs.World.{Variable}
use Rattle.bas_carry.specs.Slots.{in_line, in_block}
use Rattle.bas_ast.specs.ConditionTree.{cond_tree}
use Rattle.bas_ast.specs.ExpressionTree.{expr_tree}
use Rattle.bas_ast.specs.StatementTree.{plain_tree, plist_tree, targets_tree}
use Rattle.bas_ast.specs.PartTree.{loopc_tree}
use Rattle.bas_gen.specs.declared.line.LineKind.{LineKind}
use Rattle.bas_gen.specs.declared.line.LineKind.TheVariants as kind
use Rattle.bas_gen.specs.declared.line.PlainKind.{PlainKind}
use Rattle.bas_gen.specs.declared.line.PlainKind.TheVariants as plain_kind

-- a remark or an empty line
abbrev pub is_remark : t.LineItem → Bool
is_remark t.Nothing = true
is_remark (t.Rem bytes) = true
is_remark _ = false

-- a line that the generator makes nothing of
abbrev pub is_other : t.LineItem → Bool
is_other t.Nothing = false
is_other (t.Rem bytes) = false
is_other (t.OfSimple (t.Alone plain)) = false
is_other (t.OfPart (t.If c)) = false
is_other (t.OfPart (t.Elseif c)) = false
is_other (t.OfPart t.Else) = false
is_other (t.OfPart (t.Do loopc)) = false
is_other (t.OfPart (t.Loop loopc)) = false
is_other (t.OfPart t.End) = false
is_other _ = true

-- the kind is that of the line
abbrev pub Shows : LineKind → t.LineItem → Type 0
Shows (kind.Alone plain) item = item ≡ t.OfSimple (t.Alone (plain_tree plain.now))
Shows (kind.If c) item = item ≡ t.OfPart (t.If (cond_tree c.now))
Shows (kind.Elseif c) item = item ≡ t.OfPart (t.Elseif (cond_tree c.now))
Shows kind.Else item = item ≡ t.OfPart t.Else
Shows (kind.Do loopc) item = item ≡ t.OfPart (t.Do (option_map loopc_tree loopc.now))
Shows (kind.Loop loopc) item = item ≡ t.OfPart (t.Loop (option_map loopc_tree loopc.now))
Shows kind.End item = item ≡ t.OfPart t.End
Shows kind.Remark item = is_remark item ≡ true
Shows kind.Other item = is_other item ≡ true

-- a statement that the generator makes nothing of
abbrev pub is_other_plain : t.Plain → Bool
is_other_plain (t.Let targets e) = false
is_other_plain (t.Print list) = false
is_other_plain (t.Goto line) = false
is_other_plain t.ExitDo = false
is_other_plain _ = true

-- the kind is that of the statement
abbrev pub ShowsPlain : PlainKind → t.Plain → Type 0
ShowsPlain (plain_kind.Let targets e) plain = plain ≡ t.Let (targets_tree targets.now) (expr_tree e.now)
ShowsPlain (plain_kind.Print list) plain = plain ≡ t.Print (plist_tree list.now)
ShowsPlain (plain_kind.Goto line) plain = plain ≡ t.Goto line
ShowsPlain plain_kind.ExitDo plain = plain ≡ t.ExitDo
ShowsPlain plain_kind.Other plain = is_other_plain plain ≡ true

-- the condition of WHILE or UNTIL
abbrev pub loop_cond : t.Loopc → t.Cond
loop_cond (t.While c) = c
loop_cond (t.Until c) = c

-- the truth with which it leaves the loop
abbrev pub leaves_where : t.Loopc → Bool
leaves_where (t.While c) = false
leaves_where (t.Until c) = true

-- the variables of a section
abbrev pub in_section : t.NumLine × t.Block → List Variable
in_section x = in_line x.0.item ++ in_block x.1
