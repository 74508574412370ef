-- The rules that a line breaks, in the order of their numbers.
use Rattle.std.proofs.Common.{◌≡◌, Bool, [], ◌∷◌}
use Rattle.bas_rules.specs.Sites.{Site}
use Rattle.bas_rules.specs.Naming.{declared_twice, handler_is_not_one, counts_by_wrong_variable}
use Rattle.bas_rules.specs.Jumping.{jumps_into_block, gosub_into_block, exits_nothing, resumes_nothing, restores_no_data, chains_in_initial_part}
use Rattle.bas_rules.specs.Declaring.{has_type_out_of_bounds, has_bounds_out_of_range, has_late_option, is_out_of_module, has_program_formal}
use Rattle.bas_rules.specs.Recording.{has_bad_case, has_bad_attributes, awaits_what_never_comes}
use Rattle.bas_operands.specs.Operands.{first_broken}
use Rattle.bas_judge.specs.Rows.{has_wrong_kind_itself, lists_too_many_itself, line_fault}

pub row_is : (x : Site) {b1 b3 b4 b5 b6 b7 b8 b9 b10 b13 b14 b15 b17 b18 b19 b20 b21 b22 b24 : Bool}
    → b1 ≡ declared_twice x
    → b3 ≡ has_wrong_kind_itself x
    → b4 ≡ jumps_into_block x
    → b5 ≡ gosub_into_block x
    → b6 ≡ exits_nothing x
    → b7 ≡ resumes_nothing x
    → b8 ≡ handler_is_not_one x
    → b9 ≡ counts_by_wrong_variable x
    → b10 ≡ has_bad_case x
    → b13 ≡ has_type_out_of_bounds x
    → b14 ≡ has_bounds_out_of_range x
    → b15 ≡ has_late_option x
    → b17 ≡ restores_no_data x
    → b18 ≡ is_out_of_module x
    → b19 ≡ has_bad_attributes x
    → b20 ≡ lists_too_many_itself x
    → b21 ≡ awaits_what_never_comes x
    → b22 ≡ chains_in_initial_part x
    → b24 ≡ has_program_formal x
    → first_broken ((1, b1) ∷ (3, b3) ∷ (4, b4) ∷ (5, b5) ∷ (6, b6) ∷ (7, b7) ∷ (8, b8) ∷ (9, b9) ∷ (10, b10) ∷ (13, b13) ∷ (14, b14) ∷ (15, b15) ∷ (17, b17) ∷ (18, b18) ∷ (19, b19) ∷ (20, b20) ∷ (21, b21) ∷ (22, b22) ∷ (24, b24) ∷ []) ≡ line_fault x
row_is x e1 e3 e4 e5 e6 e7 e8 e9 e10 e13 e14 e15 e17 e18 e19 e20 e21 e22 e24 =
    λ i. first_broken ((1, e1 i) ∷ (3, e3 i) ∷ (4, e4 i) ∷ (5, e5 i) ∷ (6, e6 i) ∷ (7, e7 i) ∷ (8, e8 i) ∷ (9, e9 i) ∷ (10, e10 i) ∷ (13, e13 i) ∷ (14, e14 i) ∷ (15, e15 i) ∷ (17, e17 i) ∷ (18, e18 i) ∷ (19, e19 i) ∷ (20, e20 i) ∷ (21, e21 i) ∷ (22, e22 i) ∷ (24, e24 i) ∷ [])
