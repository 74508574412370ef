-- The words that statements are made of, and where they stand.
use Rattle.std.specs.Prelude.{ℕ, if◌then◌else◌, List, Option, Some, None, codes}
use Rattle.std.specs.Str.{str_eq_ignore_ascii_case}
use Rattle.bas_form.specs.Reader.{first_of}
use Rattle.bas_form.specs.Element.{element_at}
use Rattle.bas_token.specs.declared.token.TokenKind.TheVariants as kind
use Rattle.bas_ast.specs.declared.statement.Plain.{Plain}
use Rattle.bas_ast.specs.declared.statement.Plain.TheVariants as plain
use Rattle.bas_expr.specs.Lexemes.{Lexeme}
use Rattle.bas_declaration.specs.declared.keyword.Keyword.{Keyword}
use Rattle.bas_declaration.specs.declared.keyword.Keyword.TheVariants as k
use Rattle.bas_statement.specs.declared.verb.Verb.{Verb}
use Rattle.bas_statement.specs.declared.verb.Verb.TheVariants as v
use Rattle.bas_statement.specs.declared.verb.Jump.{Jump}
use Rattle.bas_statement.specs.declared.verb.Jump.TheVariants as jump

-- the words of statements that move values
abbrev pub value_verb : List ℕ → Option Verb
value_verb text =
    if str_eq_ignore_ascii_case text (codes "LET") then Some v.Let else (
    if str_eq_ignore_ascii_case text (codes "PRINT") then Some v.Print else (
    if str_eq_ignore_ascii_case text (codes "LINE") then Some v.Line else (
    if str_eq_ignore_ascii_case text (codes "INPUT") then Some v.Input else (
    if str_eq_ignore_ascii_case text (codes "READ") then Some v.Read else (
    if str_eq_ignore_ascii_case text (codes "RESTORE") then Some v.Restore else None)))))

-- the words of statements that go elsewhere
abbrev pub jump_verb : List ℕ → Option Verb
jump_verb text =
    if str_eq_ignore_ascii_case text (codes "GOTO") then Some v.Goto else (
    if str_eq_ignore_ascii_case text (codes "GOSUB") then Some v.Gosub else (
    if str_eq_ignore_ascii_case text (codes "GO") then Some v.Go else (
    if str_eq_ignore_ascii_case text (codes "RETURN") then Some v.Return else (
    if str_eq_ignore_ascii_case text (codes "STOP") then Some v.Stop else (
    if str_eq_ignore_ascii_case text (codes "EXIT") then Some v.Exit else None)))))

-- the words of calls and exceptions
abbrev pub call_verb : List ℕ → Option Verb
call_verb text =
    if str_eq_ignore_ascii_case text (codes "CALL") then Some v.Call else (
    if str_eq_ignore_ascii_case text (codes "RETRY") then Some v.Retry else (
    if str_eq_ignore_ascii_case text (codes "CONTINUE") then Some v.Continue else (
    if str_eq_ignore_ascii_case text (codes "CAUSE") then Some v.Cause else (
    if str_eq_ignore_ascii_case text (codes "CHAIN") then Some v.Chain else None))))

-- the word that a text spells, in any case
abbrev pub verb_of_text : List ℕ → Option Verb
verb_of_text text = first_of (value_verb text) (first_of (jump_verb text) (call_verb text))

-- the word that a token is
abbrev pub verb_of : Lexeme → Option Verb
verb_of (kind.Word, text) = verb_of_text text
verb_of (kind.Numeral, text) = None
verb_of (kind.Quoted, text) = None
verb_of (kind.Sign, text) = None
verb_of (kind.Remark, text) = None

-- the word at a place
unfoldable pub verb : List Lexeme → ℕ → Option Verb
verb tokens at = element_at verb_of tokens at

-- "DO" | "FOR" | "SUB" | "FUNCTION" | "HANDLER", with what EXIT before it leaves
abbrev pub exit_word : Keyword → Option Plain
exit_word k.Do = Some plain.ExitDo
exit_word k.For = Some plain.ExitFor
exit_word k.Sub = Some plain.ExitSub
exit_word k.Function = Some plain.ExitFunction
exit_word k.Handler = Some plain.ExitHandler
exit_word _ = None

-- "TO" | "SUB" behind GO
abbrev pub jump_word : Keyword → Option Jump
jump_word k.To = Some jump.To
jump_word k.Sub = Some jump.Sub
jump_word _ = None
