-- The words that lines of constructs, procedures and declarations are made of, and where they stand.
use Rattle.std.specs.Prelude.{ℕ, if◌then◌else◌, List, Option, Some, None, codes}
use Rattle.std.specs.Str.{str_eq_ignore_ascii_case}
use Rattle.bas_form.specs.Reader.{◌>>=◌, first_of}
use Rattle.bas_form.specs.Element.{element_at}
use Rattle.bas_token.specs.declared.token.TokenKind.TheVariants as kind
use Rattle.bas_expr.specs.declared.word.Connective.{Connective}
use Rattle.bas_expr.specs.Lexemes.{Lexeme}
use Rattle.bas_expr.specs.Words.{connective_of_text}
use Rattle.bas_ast.specs.declared.part.Part.{Part}
use Rattle.bas_ast.specs.declared.part.Part.TheVariants as part
use Rattle.bas_ast.specs.declared.declaration.DeclaredKind.{DeclaredKind}
use Rattle.bas_ast.specs.declared.declaration.DeclaredKind.TheVariants as declared
use Rattle.bas_ast.specs.declared.declaration.ProcedureKind.{ProcedureKind}
use Rattle.bas_ast.specs.declared.declaration.ProcedureKind.TheVariants as procedure
use Rattle.bas_declaration.specs.declared.keyword.Keyword.{Keyword}
use Rattle.bas_declaration.specs.declared.keyword.Keyword.TheVariants as k
use Rattle.bas_declaration.specs.declared.keyword.LoopWord.{LoopWord}
use Rattle.bas_declaration.specs.declared.keyword.LoopWord.TheVariants as turn

-- the words of branches and loops
abbrev pub loop_word : List ℕ → Option Keyword
loop_word text =
    if str_eq_ignore_ascii_case text (codes "IF") then Some k.If else (
    if str_eq_ignore_ascii_case text (codes "THEN") then Some k.Then else (
    if str_eq_ignore_ascii_case text (codes "ELSEIF") then Some k.Elseif else (
    if str_eq_ignore_ascii_case text (codes "ELSE") then Some k.Else else (
    if str_eq_ignore_ascii_case text (codes "FOR") then Some k.For else (
    if str_eq_ignore_ascii_case text (codes "TO") then Some k.To else (
    if str_eq_ignore_ascii_case text (codes "STEP") then Some k.Step else (
    if str_eq_ignore_ascii_case text (codes "NEXT") then Some k.Next else (
    if str_eq_ignore_ascii_case text (codes "DO") then Some k.Do else (
    if str_eq_ignore_ascii_case text (codes "LOOP") then Some k.Loop else (
    if str_eq_ignore_ascii_case text (codes "WHILE") then Some k.While else (
    if str_eq_ignore_ascii_case text (codes "UNTIL") then Some k.Until else None)))))))))))

-- the words of choices, handlers and ends
abbrev pub block_word : List ℕ → Option Keyword
block_word text =
    if str_eq_ignore_ascii_case text (codes "END") then Some k.End else (
    if str_eq_ignore_ascii_case text (codes "SELECT") then Some k.Select else (
    if str_eq_ignore_ascii_case text (codes "CASE") then Some k.Case else (
    if str_eq_ignore_ascii_case text (codes "IS") then Some k.Is else (
    if str_eq_ignore_ascii_case text (codes "WHEN") then Some k.When else (
    if str_eq_ignore_ascii_case text (codes "EXCEPTION") then Some k.Exception else (
    if str_eq_ignore_ascii_case text (codes "IN") then Some k.In else (
    if str_eq_ignore_ascii_case text (codes "USE") then Some k.Use else (
    if str_eq_ignore_ascii_case text (codes "HANDLER") then Some k.Handler else None))))))))

-- the words of procedures and units
abbrev pub unit_word : List ℕ → Option Keyword
unit_word text =
    if str_eq_ignore_ascii_case text (codes "EXTERNAL") then Some k.External else (
    if str_eq_ignore_ascii_case text (codes "SUB") then Some k.Sub else (
    if str_eq_ignore_ascii_case text (codes "FUNCTION") then Some k.Function else (
    if str_eq_ignore_ascii_case text (codes "DEF") then Some k.Def else (
    if str_eq_ignore_ascii_case text (codes "PROGRAM") then Some k.Program else (
    if str_eq_ignore_ascii_case text (codes "MODULE") then Some k.Module else None)))))

-- the words of declarations
abbrev pub declaring_word : List ℕ → Option Keyword
declaring_word text =
    if str_eq_ignore_ascii_case text (codes "OPTION") then Some k.Option else (
    if str_eq_ignore_ascii_case text (codes "BASE") then Some k.Base else (
    if str_eq_ignore_ascii_case text (codes "ARITHMETIC") then Some k.Arithmetic else (
    if str_eq_ignore_ascii_case text (codes "DECIMAL") then Some k.Decimal else (
    if str_eq_ignore_ascii_case text (codes "FIXED") then Some k.Fixed else (
    if str_eq_ignore_ascii_case text (codes "DIM") then Some k.Dim else (
    if str_eq_ignore_ascii_case text (codes "DECLARE") then Some k.Declare else (
    if str_eq_ignore_ascii_case text (codes "PUBLIC") then Some k.Public else (
    if str_eq_ignore_ascii_case text (codes "SHARE") then Some k.Share else (
    if str_eq_ignore_ascii_case text (codes "PRIVATE") then Some k.Private else (
    if str_eq_ignore_ascii_case text (codes "NUMERIC") then Some k.Numeric else (
    if str_eq_ignore_ascii_case text (codes "STRING") then Some k.String else None)))))))))))

-- the word that a text spells, in any case
abbrev pub keyword_of_text : List ℕ → Option Keyword
keyword_of_text text = first_of (loop_word text) (first_of (block_word text) (first_of (unit_word text) (declaring_word text)))

abbrev pub unless_connective : Option Connective → List ℕ → Option Keyword
unless_connective None text = keyword_of_text text
unless_connective (Some word) text = None

-- a word that joins conditions is none of these
abbrev pub keyword_of : Lexeme → Option Keyword
keyword_of (kind.Word, text) = unless_connective (connective_of_text text) text
keyword_of (kind.Numeral, text) = None
keyword_of (kind.Quoted, text) = None
keyword_of (kind.Sign, text) = None
keyword_of (kind.Remark, text) = None

-- the word at a place
unfoldable pub keyword : List Lexeme → ℕ → Option Keyword
keyword tokens at = element_at keyword_of tokens at

-- the word at a place, where it is one of those
abbrev pub at_word : {A : Type 0} → (Keyword → Option A) → List Lexeme → ℕ → Option A
at_word test tokens at = keyword tokens at >>= test

-- whether a text is the word, in any case
abbrev pub same_word : List ℕ → List ℕ → Option (Unit {0})
same_word wanted text = if str_eq_ignore_ascii_case text wanted then Some tt else None

-- whether a token is the word
abbrev pub spelling : List ℕ → Lexeme → Option (Unit {0})
spelling wanted (kind.Word, text) = same_word wanted text
spelling wanted (kind.Numeral, text) = None
spelling wanted (kind.Quoted, text) = None
spelling wanted (kind.Sign, text) = None
spelling wanted (kind.Remark, text) = None

-- the very word at a place, which may be none of those with a meaning here
unfoldable pub spells : List ℕ → List Lexeme → ℕ → Option (Unit {0})
spells wanted tokens at = element_at (spelling wanted) tokens at

abbrev pub then_word : Keyword → Option (Unit {0})
then_word k.Then = Some tt
then_word _ = None

abbrev pub to_word : Keyword → Option (Unit {0})
to_word k.To = Some tt
to_word _ = None

abbrev pub step_word : Keyword → Option (Unit {0})
step_word k.Step = Some tt
step_word _ = None

abbrev pub case_word : Keyword → Option (Unit {0})
case_word k.Case = Some tt
case_word _ = None

abbrev pub else_word : Keyword → Option (Unit {0})
else_word k.Else = Some tt
else_word _ = None

abbrev pub is_word : Keyword → Option (Unit {0})
is_word k.Is = Some tt
is_word _ = None

abbrev pub exception_word : Keyword → Option (Unit {0})
exception_word k.Exception = Some tt
exception_word _ = None

abbrev pub in_word : Keyword → Option (Unit {0})
in_word k.In = Some tt
in_word _ = None

abbrev pub use_word : Keyword → Option (Unit {0})
use_word k.Use = Some tt
use_word _ = None

abbrev pub base_word : Keyword → Option (Unit {0})
base_word k.Base = Some tt
base_word _ = None

abbrev pub arithmetic_word : Keyword → Option (Unit {0})
arithmetic_word k.Arithmetic = Some tt
arithmetic_word _ = None

abbrev pub decimal_word : Keyword → Option (Unit {0})
decimal_word k.Decimal = Some tt
decimal_word _ = None

abbrev pub fixed_word : Keyword → Option (Unit {0})
fixed_word k.Fixed = Some tt
fixed_word _ = None

abbrev pub public_word : Keyword → Option (Unit {0})
public_word k.Public = Some tt
public_word _ = None

abbrev pub external_word : Keyword → Option (Unit {0})
external_word k.External = Some tt
external_word _ = None

-- "WHILE" | "UNTIL"
abbrev pub turn_word : Keyword → Option LoopWord
turn_word k.While = Some turn.While
turn_word k.Until = Some turn.Until
turn_word _ = None

-- "SUB" | "FUNCTION"
abbrev pub procedure_word : Keyword → Option ProcedureKind
procedure_word k.Sub = Some procedure.Sub
procedure_word k.Function = Some procedure.Function
procedure_word _ = None

-- "NUMERIC" | "STRING"
abbrev pub kind_word : Keyword → Option DeclaredKind
kind_word k.Numeric = Some declared.Numeric
kind_word k.String = Some declared.String
kind_word _ = None

-- what END closes, where a word behind it says so
abbrev pub closed_word : Keyword → Option Part
closed_word k.If = Some part.EndIf
closed_word k.Select = Some part.EndSelect
closed_word k.When = Some part.EndWhen
closed_word k.Handler = Some part.EndHandler
closed_word k.Sub = Some part.EndSub
closed_word k.Function = Some part.EndFunction
closed_word k.Module = Some part.EndModule
closed_word _ = None
