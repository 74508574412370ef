-- Plain statements: those that name a channel or a format, and all others.
use Rattle.std.specs.Prelude.{List}
use Rattle.bas_form.specs.Form.{Form, ◌or◌}
use Rattle.bas_form.specs.Reader.{Reader, either}
use Rattle.bas_ast.specs.declared.statement.Plain.{Plain}
use Rattle.bas_expr.specs.Lexemes.{Lexeme}
use Rattle.bas_record.specs.Records.{IsRecordStatement}
use Rattle.bas_record.specs.Recording.{record_statement_at}
use Rattle.bas_statement.specs.Statements.{IsStatement}
use Rattle.bas_statement.specs.Reading.{statement_at}

-- plain = a statement with no channel and no format, or one with either
abbrev pub IsPlain : List Lexeme → Form Plain
IsPlain tokens = IsStatement tokens or IsRecordStatement tokens

-- One with a channel or a format is tried first, since it ends later where both begin.
unfoldable pub plain_at : List Lexeme → Reader Plain
plain_at tokens = either (record_statement_at tokens) (statement_at tokens)
