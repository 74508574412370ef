-- What the accessors tell of a plain tree.
use Rattle.std.specs.Prelude.{ℕ, List, Option, Some, None, Bool, true, false, if◌then◌else◌}
use Rattle.bas_dec.specs.Number.{Number}
use Rattle.bas_ast.specs.Tree as t

-- the operand that a factor is, where it has no exponent
abbrev pub lone_factor : t.Factor → Option t.Primary
lone_factor (t.Power base t.NoPrimaries) = Some base
lone_factor (t.Power _ (t.MorePrimaries _ _)) = None

-- the operand that a term is, where it has no operator
abbrev pub lone_term : t.Term → Option t.Primary
lone_term (t.Product first t.NoFactors) = lone_factor first
lone_term (t.Product _ (t.MoreFactors _ _ _)) = None

-- the operand that an expression is, where it has no sign and no operator
abbrev pub lone_primary : t.Expr → Option t.Primary
lone_primary (t.Sum None first t.NoTerms) = lone_term first
lone_primary (t.Sum (Some _) _ t.NoTerms) = None
lone_primary (t.Sum _ _ (t.MoreTerms _ _ _)) = None

-- the value of an operand that is a numeral of digits alone
abbrev pub primary_digits : Option t.Primary → Option Number
primary_digits (Some (t.Numeric n)) = if n.digits then Some n.value else None
primary_digits _ = None

-- an empty line, or one that holds REM alone
abbrev pub is_remark : t.LineItem → Bool
is_remark t.Nothing = true
is_remark (t.Rem _) = true
is_remark _ = false

-- the line at which the first section begins, else the one that closes the construct
abbrev pub first_of : t.Sections → (close : ℕ) → ℕ
first_of t.NoSections close = close
first_of (t.MoreSections head body rest) close = head.line

-- the line at which a statement begins
abbrev pub line_of : t.Stmt → ℕ
line_of (t.Single line) = line.line
line_of (t.Nest sections close) = first_of sections close.line

-- the name that an EXTERNAL line gives to its procedure
abbrev pub procedure_name : t.LineItem → Option (List ℕ)
procedure_name (t.OfPart (t.ExternalSub name _)) = Some name
procedure_name (t.OfPart (t.ExternalFunction name _)) = Some name
procedure_name _ = None

-- the name that a MODULE line gives to its module
abbrev pub module_name : t.LineItem → Option (List ℕ)
module_name (t.OfPart (t.ModuleLine name)) = Some name
module_name _ = None

-- the name of a unit
abbrev pub unit_name : t.SourceUnit → Option (List ℕ)
unit_name (t.ProgramUnit program) = Some program.name
unit_name (t.ProcedureUnit procedure) = procedure_name procedure.head.item
unit_name (t.ModuleUnit part) = module_name part.head.item
