-- The rules on files and on CASE: attributes of OPEN, IF MISSING and IF THERE, and case constants.
use Rattle.std.specs.Prelude.{ℕ, neg_ℤ, Bool, true, false, not, ◌&&◌, ◌||◌, nat_lt, nat_le, List, [], ◌∷◌, length, Option, Some, None}
use Rattle.std.specs.Option.{option_map_or}
use Rattle.std.specs.List.{list_any, filter_map}
use Rattle.std.specs.Ordering.{nat_cmp}
use Rattle.std.specs.declared.cmp.Ordering.{Ordering}
use Rattle.std.specs.declared.cmp.Ordering.TheVariants.{Greater}
use Rattle.std.specs.Cmp.Lexicographic.{slice_cmp}
use Rattle.bas_dec.specs.Number.{Number}
use Rattle.bas_dec.specs.Arithmetic.{order_of}
use Rattle.bas_ast.specs.Tree as t
use Rattle.bas_rules.specs.declared.limits.TheConstants.{LEAST_RECORD, LARGEST_RECORD}
use Rattle.bas_rules.specs.Sites.{Site}
use Rattle.bas_rules.specs.Kinds.{Kind, Numeric, String, expr_kind, same_kind}
use Rattle.bas_rules.specs.Statements.{plains_on, miss_of}

-- two attributes of one kind
abbrev pub same_attribute : t.Attr → t.Attr → Bool
same_attribute (t.OfOrganization a) (t.OfOrganization b) = true
same_attribute (t.OfRectype a) (t.OfRectype b) = true
same_attribute (t.OfAccess a) (t.OfAccess b) = true
same_attribute (t.OfCreate a) (t.OfCreate b) = true
same_attribute (t.OfRecsize a) (t.OfRecsize b) = true
same_attribute _ _ = false

-- an attribute of a kind that has been given
abbrev pub has_attribute_twice : List t.Attr → Bool
has_attribute_twice [] = false
has_attribute_twice (attr ∷ attrs) = list_any (same_attribute attr) attrs || has_attribute_twice attrs

-- the organization that OPEN gives, or SEQUENTIAL
abbrev pub organization_in : List t.Attr → t.Organization
organization_in [] = t.Sequential
organization_in (t.OfOrganization organization ∷ attrs) = organization
organization_in (attr ∷ attrs) = organization_in attrs

-- the type that OPEN gives, or DISPLAY
abbrev pub rectype_in : List t.Attr → t.Rectype
rectype_in [] = t.Display
rectype_in (t.OfRectype rectype ∷ attrs) = rectype
rectype_in (attr ∷ attrs) = rectype_in attrs

-- SEQUENTIAL goes with both types, the other organizations with INTERNAL
abbrev pub go_together : t.Organization → t.Rectype → Bool
go_together t.Sequential rectype = true
go_together organization t.Internal = true
go_together organization t.Display = false

-- the size of a record within its bounds
abbrev pub is_record_size : ℕ → Bool
is_record_size size = nat_le LEAST_RECORD size && nat_le size LARGEST_RECORD

-- a RECSIZE out of bounds
abbrev pub has_bad_size : t.Attr → Bool
has_bad_size (t.OfRecsize size) = not (is_record_size size)
has_bad_size _ = false

-- attributes that OPEN may not have
abbrev pub are_bad_attributes : List t.Attr → Bool
are_bad_attributes attrs =
    has_attribute_twice attrs
    || (not (go_together (organization_in attrs) (rectype_in attrs)) || list_any has_bad_size attrs)

-- OPEN with such attributes
abbrev pub opens_badly : t.Plain → Bool
opens_badly (t.Open chan name attrs) = are_bad_attributes attrs
opens_badly _ = false

-- 19: an attribute of OPEN stands twice, or does not go with another, or RECSIZE is out of its bounds
abbrev pub has_bad_attributes : Site → Bool
has_bad_attributes x = list_any opens_badly (plains_on x.item)

-- IF THERE, and not IF MISSING
abbrev pub is_there : t.MissWhen → Bool
is_there t.There = true
is_there t.Missing = false

-- whether a statement writes a new record
abbrev pub writes : t.Plain → Bool
writes (t.Write chan setter miss values) = true
writes _ = false

-- two truths differ
abbrev pub differ : Bool → Bool → Bool
differ true b = not b
differ false b = b

-- a statement that waits for what it never meets
abbrev pub awaits_wrongly : t.Plain → Bool
awaits_wrongly plain = option_map_or (λ miss. differ (is_there miss.when) (writes plain)) (miss_of plain) false

-- 21: IF THERE stands with another statement than WRITE, or IF MISSING with WRITE
abbrev pub awaits_what_never_comes : Site → Bool
awaits_what_never_comes x = list_any awaits_wrongly (plains_on x.item)

-- the kind of a constant
abbrev pub const_kind : t.Const → Kind
const_kind (t.ConstNumeral sign numeral) = Numeric
const_kind (t.ConstQuoted text) = String

-- a numeral with its sign
abbrev pub signed_value : Option t.Sign → Number → Number
signed_value (Some t.Minus) x = record x { coefficient = neg_ℤ x.coefficient }
signed_value _ x = x

-- less or equal
abbrev pub is_not_above : Ordering → Bool
is_not_above Greater = false
is_not_above _ = true

-- a range whose end is not below its start
abbrev pub rises : t.Const → t.Const → Bool
rises (t.ConstNumeral a x) (t.ConstNumeral b y) = is_not_above (order_of (signed_value a x.value) (signed_value b y.value))
rises (t.ConstQuoted a) (t.ConstQuoted b) = is_not_above (slice_cmp nat_cmp a b)
rises _ _ = false

-- constants of the other kind, or a range that falls
abbrev pub is_bad_case : Kind → t.Case → Bool
is_bad_case kind (t.OneOf constant) = not (same_kind kind (const_kind constant))
is_bad_case kind (t.FromTo low high) = not (same_kind kind (const_kind low) && (same_kind kind (const_kind high) && rises low high))
is_bad_case kind (t.Is rel constant) = not (same_kind kind (const_kind constant))

-- such a constant on a CASE line, by its SELECT CASE
abbrev pub cases_misfit : (opener : t.LineItem) → t.LineItem → Bool
cases_misfit (t.OfPart (t.SelectCase selector)) (t.OfPart (t.CaseOf cases)) = list_any (is_bad_case (expr_kind selector)) cases
cases_misfit opener item = false

-- 10: a constant of CASE has another kind than the selector, or a range does not rise
abbrev pub has_bad_case : Site → Bool
has_bad_case x = cases_misfit x.opener x.item
