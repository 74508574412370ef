-- The least rule that a line breaks, put together from tests that are made apart: those of its operands, and
-- those of the line as a whole.
use Rattle.std.specs.Prelude.{◌≡◌, ℕ, suc, Bool, false, not, ◌&&◌, ◌||◌, if◌then◌else◌, List, [], ◌∷◌, Option, Some, None}
use Rattle.std.specs.List.{list_any, list_all, filter_map}
use Rattle.bas_scope.specs.Scope.{formals_on}
use Rattle.bas_scope.specs.Senses.{senses_of}
use Rattle.bas_scope.specs.Nodes.{item_nodes}
use Rattle.bas_rules.specs.Sites.{Site}
use Rattle.bas_rules.specs.Statements.{plains_on, plain_agrees, item_agrees}
use Rattle.bas_rules.specs.Naming.{declared_twice, handler_is_not_one, counts_by_wrong_variable}
use Rattle.bas_rules.specs.Jumping.{jumps_into_block, gosub_into_block, exits_nothing, resumes_nothing, restores_no_data, chains_in_initial_part}
use Rattle.bas_rules.specs.Calling.{has_too_long_list, is_too_long, are_bad_channels, channel_of}
use Rattle.bas_rules.specs.Declaring.{declares_other_kind, has_type_out_of_bounds, has_bounds_out_of_range, has_late_option, is_out_of_module, has_program_formal}
use Rattle.bas_rules.specs.Recording.{has_bad_case, has_bad_attributes, awaits_what_never_comes}
use Rattle.bas_rules.specs.Well.{rules, first_failed}
use Rattle.bas_operands.specs.Operands.{nodes_fault, least}

-- the number of the first truth of a row, where they are numbered from n on
abbrev pub first_true : (n : ℕ) → List Bool → Option ℕ
first_true n [] = None
first_true n (b ∷ bs) = if b then Some n else first_true (suc n) bs

-- what a line asks of kinds besides its operands
abbrev pub has_wrong_kind_itself : Site → Bool
has_wrong_kind_itself x = not (item_agrees x.item && list_all plain_agrees (plains_on x.item)) || declares_other_kind x.item

-- the lists of a line besides the arguments of its operands
abbrev pub lists_too_many_itself : Site → Bool
lists_too_many_itself x =
    list_any has_too_long_list (plains_on x.item)
    || (is_too_long (formals_on x.item) || are_bad_channels (filter_map channel_of (formals_on x.item)))

-- the rules that a line breaks besides those of its operands, from 1 to 24
abbrev pub broken_by_line : Site → List Bool
broken_by_line x =
    declared_twice x ∷ false ∷ has_wrong_kind_itself x ∷ jumps_into_block x ∷ gosub_into_block x ∷ exits_nothing x
    ∷ resumes_nothing x ∷ handler_is_not_one x ∷ counts_by_wrong_variable x ∷ has_bad_case x ∷ false ∷ false
    ∷ has_type_out_of_bounds x ∷ has_bounds_out_of_range x ∷ has_late_option x ∷ false ∷ restores_no_data x ∷ is_out_of_module x
    ∷ has_bad_attributes x ∷ lists_too_many_itself x ∷ awaits_what_never_comes x ∷ chains_in_initial_part x ∷ false
    ∷ has_program_formal x ∷ []

-- the least rule that a line breaks besides those of its operands
abbrev pub line_fault : Site → Option ℕ
line_fault x = first_true 1 (broken_by_line x)

-- the least rule that its operands break
abbrev pub operands_fault : Site → Option ℕ
operands_fault x = nodes_fault (senses_of x.body.scope) (item_nodes x.item)

-- a line with one place breaks the lesser of both, and one with two places the lesser of what it breaks at each
pub record FaultsOfPlaces : Type 0 where
  pub one : (x : Site) → first_failed 1 rules (x ∷ []) ≡ least (line_fault x) (operands_fault x)
  pub two : (x y : Site) → first_failed 1 rules (x ∷ y ∷ []) ≡ least (first_failed 1 rules (x ∷ [])) (first_failed 1 rules (y ∷ []))
