-- What roles exclude.
use Rattle.std.proofs.Common.{◌≡◌, Bool, true, false, Option, Some, None, refl}
use Rattle.bas_nest.specs.Constructs.{opens, divides, divided_by, closes, may_open, may_stand, is_left_out, is_remark, begins_procedure, closes_procedure, closes_sub, closes_function}
use Rattle.bas_nest.specs.declared.construct.Construct.{Construct}
use Rattle.bas_nest.specs.declared.construct.Around.{Around}
use Rattle.bas_nest.specs.declared.construct.Around.TheVariants as stands
use Rattle.bas_nest.specs.declared.construct.Role.{Role}
use Rattle.bas_nest.specs.declared.construct.Role.TheVariants as role
use Rattle.bas_nest.specs.declared.construct.Closer.TheVariants as closer

-- a line that neither stands alone nor opens a construct
abbrev pub turning : Role → Bool
turning role.Remark = false
turning role.Plain = false
turning role.Defines = false
turning (role.Opens c) = false
turning _ = true

pub stands_not_left : (a : Around) (x : Role) → may_stand a x ≡ true → is_left_out a x ≡ false
stands_not_left stands.Unit role.Remark h = refl
stands_not_left stands.Internal role.Remark h = refl
stands_not_left stands.Block role.Remark h = refl
stands_not_left stands.Select role.Remark h = absurd (cc)
stands_not_left a role.Plain h = refl
stands_not_left a role.Defines h = refl
stands_not_left a (role.Opens c) h = refl
stands_not_left a (role.Divides d) h = refl
stands_not_left a (role.Closes k) h = refl
stands_not_left a role.BeginsProgram h = refl
stands_not_left a role.BeginsSub h = refl
stands_not_left a role.BeginsFunction h = refl
stands_not_left a role.BeginsModule h = refl
stands_not_left a role.EndsProgram h = refl
stands_not_left a role.EndsModule h = refl

pub turning_left : (a : Around) (x : Role) → turning x ≡ true → is_left_out a x ≡ false
turning_left a role.Remark h = absurd (cc)
turning_left a role.Plain h = absurd (cc)
turning_left a role.Defines h = absurd (cc)
turning_left a (role.Opens c) h = absurd (cc)
turning_left a (role.Divides d) h = refl
turning_left a (role.Closes k) h = refl
turning_left a role.BeginsProgram h = refl
turning_left a role.BeginsSub h = refl
turning_left a role.BeginsFunction h = refl
turning_left a role.BeginsModule h = refl
turning_left a role.EndsProgram h = refl
turning_left a role.EndsModule h = refl

pub turning_alone : (a : Around) (x : Role) → turning x ≡ true → may_stand a x ≡ false
turning_alone a role.Remark h = absurd (cc)
turning_alone a role.Plain h = absurd (cc)
turning_alone a role.Defines h = absurd (cc)
turning_alone a (role.Opens c) h = absurd (cc)
turning_alone a (role.Divides d) h = refl
turning_alone a (role.Closes k) h = refl
turning_alone a role.BeginsProgram h = refl
turning_alone a role.BeginsSub h = refl
turning_alone a role.BeginsFunction h = refl
turning_alone a role.BeginsModule h = refl
turning_alone a role.EndsProgram h = refl
turning_alone a role.EndsModule h = refl

pub turning_opens : (x : Role) → turning x ≡ true → opens x ≡ None
turning_opens role.Remark h = absurd (cc)
turning_opens role.Plain h = absurd (cc)
turning_opens role.Defines h = absurd (cc)
turning_opens (role.Opens c) h = absurd (cc)
turning_opens (role.Divides d) h = refl
turning_opens (role.Closes k) h = refl
turning_opens role.BeginsProgram h = refl
turning_opens role.BeginsSub h = refl
turning_opens role.BeginsFunction h = refl
turning_opens role.BeginsModule h = refl
turning_opens role.EndsProgram h = refl
turning_opens role.EndsModule h = refl

pub opening_left : (a : Around) (x : Role) (c : Construct) → opens x ≡ Some c → is_left_out a x ≡ false
opening_left a role.Remark o h = absurd (cc)
opening_left a role.Plain o h = absurd (cc)
opening_left a role.Defines o h = absurd (cc)
opening_left a (role.Opens c) o h = refl
opening_left a (role.Divides d) o h = absurd (cc)
opening_left a (role.Closes k) o h = absurd (cc)
opening_left a role.BeginsProgram o h = absurd (cc)
opening_left a role.BeginsSub o h = absurd (cc)
opening_left a role.BeginsFunction o h = absurd (cc)
opening_left a role.BeginsModule o h = absurd (cc)
opening_left a role.EndsProgram o h = absurd (cc)
opening_left a role.EndsModule o h = absurd (cc)

pub opening_alone : (a : Around) (x : Role) (c : Construct) → opens x ≡ Some c → may_stand a x ≡ false
opening_alone a role.Remark o h = absurd (cc)
opening_alone a role.Plain o h = absurd (cc)
opening_alone a role.Defines o h = absurd (cc)
opening_alone a (role.Opens c) o h = refl
opening_alone a (role.Divides d) o h = absurd (cc)
opening_alone a (role.Closes k) o h = absurd (cc)
opening_alone a role.BeginsProgram o h = absurd (cc)
opening_alone a role.BeginsSub o h = absurd (cc)
opening_alone a role.BeginsFunction o h = absurd (cc)
opening_alone a role.BeginsModule o h = absurd (cc)
opening_alone a role.EndsProgram o h = absurd (cc)
opening_alone a role.EndsModule o h = absurd (cc)

pub dividing_turns : (b : Construct) (x : Role) (c : Construct) → divides b x ≡ Some c → turning x ≡ true
dividing_turns b role.Remark o h = absurd (cc)
dividing_turns b role.Plain o h = absurd (cc)
dividing_turns b role.Defines o h = absurd (cc)
dividing_turns b (role.Opens c) o h = absurd (cc)
dividing_turns b (role.Divides d) o h = refl
dividing_turns b (role.Closes k) o h = absurd (cc)
dividing_turns b role.BeginsProgram o h = absurd (cc)
dividing_turns b role.BeginsSub o h = absurd (cc)
dividing_turns b role.BeginsFunction o h = absurd (cc)
dividing_turns b role.BeginsModule o h = absurd (cc)
dividing_turns b role.EndsProgram o h = absurd (cc)
dividing_turns b role.EndsModule o h = absurd (cc)

pub closing_turns : (b : Construct) (x : Role) → closes b x ≡ true → turning x ≡ true
closing_turns b role.Remark h = absurd (cc)
closing_turns b role.Plain h = absurd (cc)
closing_turns b role.Defines h = absurd (cc)
closing_turns b (role.Opens c) h = absurd (cc)
closing_turns b (role.Divides d) h = absurd (cc)
closing_turns b (role.Closes k) h = refl
closing_turns b role.BeginsProgram h = absurd (cc)
closing_turns b role.BeginsSub h = absurd (cc)
closing_turns b role.BeginsFunction h = absurd (cc)
closing_turns b role.BeginsModule h = absurd (cc)
closing_turns b role.EndsProgram h = absurd (cc)
closing_turns b role.EndsModule h = absurd (cc)

pub closing_divides : (b : Construct) (x : Role) → closes b x ≡ true → divides b x ≡ None
closing_divides b role.Remark h = absurd (cc)
closing_divides b role.Plain h = absurd (cc)
closing_divides b role.Defines h = absurd (cc)
closing_divides b (role.Opens c) h = absurd (cc)
closing_divides b (role.Divides d) h = absurd (cc)
closing_divides b (role.Closes k) h = refl
closing_divides b role.BeginsProgram h = absurd (cc)
closing_divides b role.BeginsSub h = absurd (cc)
closing_divides b role.BeginsFunction h = absurd (cc)
closing_divides b role.BeginsModule h = absurd (cc)
closing_divides b role.EndsProgram h = absurd (cc)
closing_divides b role.EndsModule h = absurd (cc)

pub remark_left : (x : Role) → is_remark x ≡ true → is_left_out stands.Select x ≡ true
remark_left role.Remark h = refl
remark_left role.Plain h = absurd (cc)
remark_left role.Defines h = absurd (cc)
remark_left (role.Opens c) h = absurd (cc)
remark_left (role.Divides d) h = absurd (cc)
remark_left (role.Closes k) h = absurd (cc)
remark_left role.BeginsProgram h = absurd (cc)
remark_left role.BeginsSub h = absurd (cc)
remark_left role.BeginsFunction h = absurd (cc)
remark_left role.BeginsModule h = absurd (cc)
remark_left role.EndsProgram h = absurd (cc)
remark_left role.EndsModule h = absurd (cc)

pub beginning_turns : (x : Role) → begins_procedure x ≡ true → turning x ≡ true
beginning_turns role.Remark h = absurd (cc)
beginning_turns role.Plain h = absurd (cc)
beginning_turns role.Defines h = absurd (cc)
beginning_turns (role.Opens c) h = absurd (cc)
beginning_turns (role.Divides d) h = absurd (cc)
beginning_turns (role.Closes k) h = absurd (cc)
beginning_turns role.BeginsProgram h = absurd (cc)
beginning_turns role.BeginsSub h = refl
beginning_turns role.BeginsFunction h = refl
beginning_turns role.BeginsModule h = absurd (cc)
beginning_turns role.EndsProgram h = absurd (cc)
beginning_turns role.EndsModule h = absurd (cc)

pub sub_turns : (x : Role) → closes_sub x ≡ true → turning x ≡ true
sub_turns role.Remark h = absurd (cc)
sub_turns role.Plain h = absurd (cc)
sub_turns role.Defines h = absurd (cc)
sub_turns (role.Opens c) h = absurd (cc)
sub_turns (role.Divides d) h = absurd (cc)
sub_turns (role.Closes k) h = refl
sub_turns role.BeginsProgram h = absurd (cc)
sub_turns role.BeginsSub h = absurd (cc)
sub_turns role.BeginsFunction h = absurd (cc)
sub_turns role.BeginsModule h = absurd (cc)
sub_turns role.EndsProgram h = absurd (cc)
sub_turns role.EndsModule h = absurd (cc)

pub function_turns : (x : Role) → closes_function x ≡ true → turning x ≡ true
function_turns role.Remark h = absurd (cc)
function_turns role.Plain h = absurd (cc)
function_turns role.Defines h = absurd (cc)
function_turns (role.Opens c) h = absurd (cc)
function_turns (role.Divides d) h = absurd (cc)
function_turns (role.Closes k) h = refl
function_turns role.BeginsProgram h = absurd (cc)
function_turns role.BeginsSub h = absurd (cc)
function_turns role.BeginsFunction h = absurd (cc)
function_turns role.BeginsModule h = absurd (cc)
function_turns role.EndsProgram h = absurd (cc)
function_turns role.EndsModule h = absurd (cc)

pub procedure_begins : (x y : Role) → closes_procedure x y ≡ true → begins_procedure x ≡ true
procedure_begins role.Remark y h = absurd (cc)
procedure_begins role.Plain y h = absurd (cc)
procedure_begins role.Defines y h = absurd (cc)
procedure_begins (role.Opens c) y h = absurd (cc)
procedure_begins (role.Divides d) y h = absurd (cc)
procedure_begins (role.Closes k) y h = absurd (cc)
procedure_begins role.BeginsProgram y h = absurd (cc)
procedure_begins role.BeginsSub y h = refl
procedure_begins role.BeginsFunction y h = refl
procedure_begins role.BeginsModule y h = absurd (cc)
procedure_begins role.EndsProgram y h = absurd (cc)
procedure_begins role.EndsModule y h = absurd (cc)

pub procedure_turns : (x y : Role) → closes_procedure x y ≡ true → turning y ≡ true
procedure_turns role.Remark y h = absurd (cc)
procedure_turns role.Plain y h = absurd (cc)
procedure_turns role.Defines y h = absurd (cc)
procedure_turns (role.Opens c) y h = absurd (cc)
procedure_turns (role.Divides d) y h = absurd (cc)
procedure_turns (role.Closes k) y h = absurd (cc)
procedure_turns role.BeginsProgram y h = absurd (cc)
procedure_turns role.BeginsSub y h = sub_turns y h
procedure_turns role.BeginsFunction y h = function_turns y h
procedure_turns role.BeginsModule y h = absurd (cc)
procedure_turns role.EndsProgram y h = absurd (cc)
procedure_turns role.EndsModule y h = absurd (cc)

pub not_remark : (x : Role) → turning x ≡ true → is_remark x ≡ false
not_remark role.Remark h = absurd (cc)
not_remark role.Plain h = refl
not_remark role.Defines h = refl
not_remark (role.Opens c) h = refl
not_remark (role.Divides d) h = refl
not_remark (role.Closes k) h = refl
not_remark role.BeginsProgram h = refl
not_remark role.BeginsSub h = refl
not_remark role.BeginsFunction h = refl
not_remark role.BeginsModule h = refl
not_remark role.EndsProgram h = refl
not_remark role.EndsModule h = refl
