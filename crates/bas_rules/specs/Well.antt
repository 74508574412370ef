-- Which units keep all rules, and the first line of another one at which a rule is broken, with the least such rule.
use Rattle.std.specs.Prelude.{ℕ, suc, Bool, not, ◌&&◌, ◌||◌, if◌then◌else◌, List, [], ◌∷◌, Option, Some, None}
use Rattle.std.specs.Option.{option_or, option_map}
use Rattle.std.specs.List.{list_any, list_all}
use Rattle.bas_ast.specs.Tree.{SourceUnit}
use Rattle.bas_scope.specs.Nodes.{item_nodes}
use Rattle.bas_scope.specs.Senses.{senses_of}
use Rattle.bas_rules.specs.Sites.{Site, sites_of}
use Rattle.bas_rules.specs.Kinds.{node_agrees}
use Rattle.bas_rules.specs.Statements.{plains_on, plain_agrees, item_agrees}
use Rattle.bas_rules.specs.Naming.{declared_twice, misuses_an_array, handler_is_not_one, counts_by_wrong_variable, sets_a_function, calls_what_is_none}
use Rattle.bas_rules.specs.Jumping.{jumps_into_block, gosub_into_block, exits_nothing, resumes_nothing, restores_no_data, chains_in_initial_part}
use Rattle.bas_rules.specs.Calling.{misfits_a_formal, miscounts_supplied, lists_too_many}
use Rattle.bas_rules.specs.Declaring.{declares_other_kind, has_type_out_of_bounds, has_bounds_out_of_range, has_late_option, is_out_of_module, has_program_formal}
use Rattle.bas_rules.specs.Recording.{has_bad_case, has_bad_attributes, awaits_what_never_comes}

-- 3: an operand, a target, a declared name or an argument has another kind than is wanted
abbrev pub has_wrong_kind : Site → Bool
has_wrong_kind x =
    not (item_agrees x.item && (list_all plain_agrees (plains_on x.item) && list_all (node_agrees (senses_of x.body.scope)) (item_nodes x.item)))
    || declares_other_kind x.item

-- the rules in their order, from 1 on; each test tells what its rule forbids
abbrev pub rules : List (Site → Bool)
rules =
    declared_twice ∷ misuses_an_array ∷ has_wrong_kind ∷ jumps_into_block ∷ gosub_into_block ∷ exits_nothing ∷ resumes_nothing
    ∷ handler_is_not_one ∷ counts_by_wrong_variable ∷ has_bad_case ∷ misfits_a_formal ∷ miscounts_supplied ∷ has_type_out_of_bounds
    ∷ has_bounds_out_of_range ∷ has_late_option ∷ sets_a_function ∷ restores_no_data ∷ is_out_of_module ∷ has_bad_attributes
    ∷ lists_too_many ∷ awaits_what_never_comes ∷ chains_in_initial_part ∷ calls_what_is_none ∷ has_program_formal ∷ []

-- the number of the first test that one of the places of a line fails, where the tests are numbered from n on
abbrev pub first_failed : (n : ℕ) → List (Site → Bool) → List Site → Option ℕ
first_failed n [] places = None
first_failed n (test ∷ tests) places = if list_any test places then Some n else first_failed (suc n) tests places

-- a line and the rule that is broken there
pub record Fault : Type 0 where
  pub line : ℕ
  pub rule : ℕ

-- the least rule that is broken at a line
abbrev pub fault_of_line : List Site → Option Fault
fault_of_line [] = None
fault_of_line (place ∷ places) = option_map (λ rule. record { line = place.line; rule = rule }) (first_failed 1 rules (place ∷ places))

-- the first fault of lines in order
abbrev pub fault_among : List (List Site) → Option Fault
fault_among [] = None
fault_among (places ∷ rest) = option_or (fault_of_line places) (fault_among rest)

-- the first line of a unit at which a rule is broken, and the least such rule
abbrev pub first_fault : SourceUnit → Option Fault
first_fault unit = fault_among (sites_of unit)
