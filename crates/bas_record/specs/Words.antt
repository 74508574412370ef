-- The words that statements on channels are made of, and where they stand.
use Rattle.std.specs.Prelude.{ℕ, ◌==◌, ◌&&◌, if◌then◌else◌, List, [], ◌∷◌, Option, Some, None, codes}
use Rattle.std.specs.Str.{str_eq_ignore_ascii_case}
use Rattle.bas_form.specs.Reader.{◌>>=◌}
use Rattle.bas_form.specs.Element.{element_at}
use Rattle.bas_token.specs.declared.token.TokenKind.TheVariants as kind
use Rattle.bas_ast.specs.declared.record_statement.Organization.{Organization}
use Rattle.bas_ast.specs.declared.record_statement.Organization.TheVariants as organized
use Rattle.bas_ast.specs.declared.record_statement.Rectype.{Rectype}
use Rattle.bas_ast.specs.declared.record_statement.Rectype.TheVariants as typed
use Rattle.bas_ast.specs.declared.record_statement.Access.{Access}
use Rattle.bas_ast.specs.declared.record_statement.Access.TheVariants as accessed
use Rattle.bas_ast.specs.declared.record_statement.Create.{Create}
use Rattle.bas_ast.specs.declared.record_statement.Create.TheVariants as created
use Rattle.bas_ast.specs.declared.record_statement.MissWhen.{MissWhen}
use Rattle.bas_ast.specs.declared.record_statement.MissWhen.TheVariants as when
use Rattle.bas_ast.specs.declared.record_statement.MissThen.{MissThen}
use Rattle.bas_ast.specs.declared.record_statement.MissThen.TheVariants as goes
use Rattle.bas_expr.specs.Lexemes.{Lexeme}
use Rattle.bas_record.specs.declared.word.Verb.{Verb}
use Rattle.bas_record.specs.declared.word.Verb.TheVariants as v
use Rattle.bas_record.specs.declared.word.SetterWord.{SetterWord}
use Rattle.bas_record.specs.declared.word.SetterWord.TheVariants as s
use Rattle.bas_record.specs.declared.word.AttrWord.{AttrWord}
use Rattle.bas_record.specs.declared.word.AttrWord.TheVariants as a
use Rattle.bas_record.specs.declared.word.KeyRelation.{KeyRelation}
use Rattle.bas_record.specs.declared.word.KeyRelation.TheVariants as key

-- the text of a word
abbrev pub word_of : Lexeme → Option (List ℕ)
word_of (kind.Word, text) = Some text
word_of (kind.Numeral, text) = None
word_of (kind.Quoted, text) = None
word_of (kind.Sign, text) = None
word_of (kind.Remark, text) = None

-- the text of the word at a place
unfoldable pub spelled : List Lexeme → ℕ → Option (List ℕ)
spelled tokens at = element_at word_of tokens at

-- what the word at a place is read as
abbrev pub read_word : {A : Type 0} → (List ℕ → Option A) → List Lexeme → ℕ → Option A
read_word read tokens at = spelled tokens at >>= read

-- the words that statements on channels begin with
abbrev pub verb_of_text : List ℕ → Option Verb
verb_of_text text =
    if str_eq_ignore_ascii_case text (codes "PRINT") then Some v.Print else (
    if str_eq_ignore_ascii_case text (codes "LINE") then Some v.Line else (
    if str_eq_ignore_ascii_case text (codes "INPUT") then Some v.Input else (
    if str_eq_ignore_ascii_case text (codes "OPEN") then Some v.Open else (
    if str_eq_ignore_ascii_case text (codes "CLOSE") then Some v.Close else (
    if str_eq_ignore_ascii_case text (codes "SET") then Some v.Set else (
    if str_eq_ignore_ascii_case text (codes "READ") then Some v.Read else (
    if str_eq_ignore_ascii_case text (codes "WRITE") then Some v.Write else (
    if str_eq_ignore_ascii_case text (codes "REWRITE") then Some v.Rewrite else (
    if str_eq_ignore_ascii_case text (codes "DELETE") then Some v.Delete else None)))))))))

-- the verb at a place
unfoldable pub verb : List Lexeme → ℕ → Option Verb
verb tokens at = read_word verb_of_text tokens at

-- the words that setters begin with
abbrev pub setter_word_of_text : List ℕ → Option SetterWord
setter_word_of_text text =
    if str_eq_ignore_ascii_case text (codes "BEGIN") then Some s.Begin else (
    if str_eq_ignore_ascii_case text (codes "END") then Some s.End else (
    if str_eq_ignore_ascii_case text (codes "NEXT") then Some s.Next else (
    if str_eq_ignore_ascii_case text (codes "SAME") then Some s.Same else (
    if str_eq_ignore_ascii_case text (codes "RECORD") then Some s.Record else (
    if str_eq_ignore_ascii_case text (codes "KEY") then Some s.Key else None)))))

-- the word of a setter at a place
unfoldable pub setter_word : List Lexeme → ℕ → Option SetterWord
setter_word tokens at = read_word setter_word_of_text tokens at

-- the words that attributes begin with
abbrev pub attr_word_of_text : List ℕ → Option AttrWord
attr_word_of_text text =
    if str_eq_ignore_ascii_case text (codes "ORGANIZATION") then Some a.Organization else (
    if str_eq_ignore_ascii_case text (codes "RECTYPE") then Some a.Rectype else (
    if str_eq_ignore_ascii_case text (codes "ACCESS") then Some a.Access else (
    if str_eq_ignore_ascii_case text (codes "CREATE") then Some a.Create else (
    if str_eq_ignore_ascii_case text (codes "RECSIZE") then Some a.Recsize else None))))

-- the word of an attribute at a place
unfoldable pub attr_word : List Lexeme → ℕ → Option AttrWord
attr_word tokens at = read_word attr_word_of_text tokens at

-- "STREAM" | "SEQUENTIAL" | "RELATIVE" | "KEYED"
abbrev pub organization_of_text : List ℕ → Option Organization
organization_of_text text =
    if str_eq_ignore_ascii_case text (codes "STREAM") then Some organized.Stream else (
    if str_eq_ignore_ascii_case text (codes "SEQUENTIAL") then Some organized.Sequential else (
    if str_eq_ignore_ascii_case text (codes "RELATIVE") then Some organized.Relative else (
    if str_eq_ignore_ascii_case text (codes "KEYED") then Some organized.Keyed else None)))

-- the organization at a place
unfoldable pub organization : List Lexeme → ℕ → Option Organization
organization tokens at = read_word organization_of_text tokens at

-- "DISPLAY" | "INTERNAL"
abbrev pub rectype_of_text : List ℕ → Option Rectype
rectype_of_text text =
    if str_eq_ignore_ascii_case text (codes "DISPLAY") then Some typed.Display else (
    if str_eq_ignore_ascii_case text (codes "INTERNAL") then Some typed.Internal else None)

-- the type of records at a place
unfoldable pub rectype : List Lexeme → ℕ → Option Rectype
rectype tokens at = read_word rectype_of_text tokens at

-- "INPUT" | "OUTPUT" | "OUTIN"
abbrev pub access_of_text : List ℕ → Option Access
access_of_text text =
    if str_eq_ignore_ascii_case text (codes "INPUT") then Some accessed.Input else (
    if str_eq_ignore_ascii_case text (codes "OUTPUT") then Some accessed.Output else (
    if str_eq_ignore_ascii_case text (codes "OUTIN") then Some accessed.Outin else None))

-- the access at a place
unfoldable pub access : List Lexeme → ℕ → Option Access
access tokens at = read_word access_of_text tokens at

-- "NEW" | "OLD" | "NEWOLD"
abbrev pub create_of_text : List ℕ → Option Create
create_of_text text =
    if str_eq_ignore_ascii_case text (codes "NEW") then Some created.New else (
    if str_eq_ignore_ascii_case text (codes "OLD") then Some created.Old else (
    if str_eq_ignore_ascii_case text (codes "NEWOLD") then Some created.Newold else None))

-- whether to create, at a place
unfoldable pub create : List Lexeme → ℕ → Option Create
create tokens at = read_word create_of_text tokens at

-- "MISSING" | "THERE"
abbrev pub miss_when_of_text : List ℕ → Option MissWhen
miss_when_of_text text =
    if str_eq_ignore_ascii_case text (codes "MISSING") then Some when.Missing else (
    if str_eq_ignore_ascii_case text (codes "THERE") then Some when.There else None)

-- what is waited for, at a place
unfoldable pub miss_when : List Lexeme → ℕ → Option MissWhen
miss_when tokens at = read_word miss_when_of_text tokens at

-- what EXIT leaves: "DO" | "FOR"
abbrev pub exit_of_text : List ℕ → Option MissThen
exit_of_text text =
    if str_eq_ignore_ascii_case text (codes "DO") then Some goes.ExitDo else (
    if str_eq_ignore_ascii_case text (codes "FOR") then Some goes.ExitFor else None)

-- the loop that EXIT leaves, at a place
unfoldable pub exit : List Lexeme → ℕ → Option MissThen
exit tokens at = read_word exit_of_text tokens at

-- ">" and "="
abbrev pub one_byte_relation : ℕ → Option KeyRelation
one_byte_relation b = if b == 61 then Some key.Equal else (if b == 62 then Some key.Greater else None)

-- ">=", and not "=>"
abbrev pub two_byte_relation : ℕ → ℕ → Option KeyRelation
two_byte_relation a b = if a == 62 && b == 61 then Some key.AtLeast else None

-- "=" | ">=" | ">"
abbrev pub key_relation_of_text : List ℕ → Option KeyRelation
key_relation_of_text [] = None
key_relation_of_text (a ∷ []) = one_byte_relation a
key_relation_of_text (a ∷ b ∷ []) = two_byte_relation a b
key_relation_of_text (a ∷ b ∷ c ∷ more) = None

-- the relation that a token is
abbrev pub key_relation_of : Lexeme → Option KeyRelation
key_relation_of (kind.Word, text) = None
key_relation_of (kind.Numeral, text) = None
key_relation_of (kind.Quoted, text) = None
key_relation_of (kind.Sign, text) = key_relation_of_text text
key_relation_of (kind.Remark, text) = None

-- the relation of a key at a place
unfoldable pub key_relation : List Lexeme → ℕ → Option KeyRelation
key_relation tokens at = element_at key_relation_of tokens at
