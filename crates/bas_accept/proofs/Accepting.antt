-- What is accepted is what the relation gives, both ways.
use Rattle.std.proofs.Common.{◌≡◌, ◌⊎◌, inl, inr, ℕ, ◌&&◌, Bool, true, List, [], ◌∷◌, Option, Some, None, Result, Ok, Err, refl, ap, sym, ◌∙◌, subst}
use Rattle.std.specs.Option.{is_none, option_or}
use Rattle.bas_ast.specs.Tree.{Program, SourceUnit, ProgramUnit, ProcedureUnit, ModuleUnit}
use Rattle.bas_mean.specs.Built.{are_built}
use Rattle.bas_mean.specs.Meaning.{first_program}
use Rattle.bas_rules.specs.Well.{Fault, first_fault}
use Rattle.bas_block.specs.Files.{units_of}
use Rattle.bas_block.specs.declared.file.SourceFault.{SourceFault}
use Rattle.bas_block.specs.declared.file.SourceFault.TheVariants.{Memory}
use Rattle.bas_block.proofs.FileLaws.{files_are_read, all_files_are_read}
use Rattle.bas_unbuilt.specs.Unbuilt.{unbuilt_line}
use Rattle.bas_unbuilt.proofs.Telling.{tells_built}
use Rattle.bas_accept.proofs.Reaching.{no_truth}
use Rattle.bas_accept.proofs.Sounding.{accepted_is_sound}
use Rattle.bas_accept.specs.declared.acceptance.Refusal.{Refusal}
use Rattle.bas_accept.specs.declared.acceptance.Refusal.TheVariants.{Source}
use Rattle.bas_accept.specs.Accepted.{HasSoundProgram, IsAccepted, keep_rules, fault_in_units, unless_fault, unless_unbuilt, accepted_units, accepted_of, TellsAccepted}

abbrev units_in : Result (List SourceUnit) Refusal → List SourceUnit
units_in (Ok units) = units
units_in (Err r) = []

-- ---- units without a fault keep all rules

kept : (o later : Option Fault) (b : Bool) → (later ≡ None → b ≡ true) → option_or o later ≡ None → (is_none o && b) ≡ true
kept None later b go e = go e
kept (Some fault) later b go e = absurd (cc)

all_kept : (units : List SourceUnit) → fault_in_units units ≡ None → keep_rules units ≡ true
all_kept [] e = refl
all_kept (u ∷ units) e = kept (first_fault u) (fault_in_units units) (keep_rules units) (λ f. all_kept units f) e

none_found : (o later : Option Fault) (b : Bool) → (b ≡ true → later ≡ None) → (is_none o && b) ≡ true → option_or o later ≡ None
none_found None later b go e = go e
none_found (Some fault) later b go e = absurd (no_truth e)

no_faults : (units : List SourceUnit) → keep_rules units ≡ true → fault_in_units units ≡ None
no_faults [] e = refl
no_faults (u ∷ units) e = none_found (first_fault u) (fault_in_units units) (keep_rules units) (λ k. no_faults units k) e

-- ---- what is accepted is in the relation

no_fault : (us units : List SourceUnit) (o : Option Fault) → unless_fault us o ≡ Ok units → (us ≡ units) × (o ≡ None)
no_fault us units None e = (ap units_in e, refl)
no_fault us units (Some fault) e = absurd (cc)

no_unbuilt : (us units : List SourceUnit) (o : Option ℕ) → unless_unbuilt us o ≡ Ok units → (us ≡ units) × (o ≡ None) × (fault_in_units us ≡ None)
no_unbuilt us units None e = let is = no_fault us units (fault_in_units us) e in (is.0, refl, is.1)
no_unbuilt us units (Some line) e = absurd (cc)

abbrev Passes : Result (List SourceUnit) SourceFault → List SourceUnit → Type 0
Passes r units = (r ≡ Ok units) × (unbuilt_line units ≡ None) × (fault_in_units units ≡ None)

units_pass : (units : List SourceUnit) (r : Result (List SourceUnit) SourceFault) → accepted_units r ≡ Ok units → Passes r units
units_pass units (Err fault) e = absurd (cc)
units_pass units (Ok us) e =
    let is = no_unbuilt us units (unbuilt_line us) e in
    subst (λ (xs : List SourceUnit). Passes (Ok us) xs) is.0 (refl, is.1, is.2)

built_of : (units : List SourceUnit) → ((units ≡ []) → ⊥) → unbuilt_line units ≡ None → are_built units ≡ true
built_of [] some e = absurd (some refl)
built_of (u ∷ rest) some e = tells_built.none u rest e

pub is_accepted : (file : List ℕ) (units : List SourceUnit) → accepted_of file ≡ Ok units → IsAccepted file units
is_accepted file units e =
    let pass = units_pass units (units_of file) e in
    let is = files_are_read file units pass.0 in
    record { is_file = is; built = built_of units is.3 pass.1; rules = all_kept units pass.2 }

-- ---- what is in the relation is accepted

none_unbuilt : (units : List SourceUnit) → ((units ≡ []) → ⊥) → are_built units ≡ true → unbuilt_line units ≡ None
none_unbuilt [] some b = absurd (some refl)
none_unbuilt (u ∷ rest) some b = tells_built.built u rest b

is_whole : (file : List ℕ) (units : List SourceUnit) → IsAccepted file units → accepted_of file ≡ Ok units
is_whole file units h =
    ap accepted_units (all_files_are_read file units h.is_file)
    ∙ ap (unless_unbuilt units) (none_unbuilt units h.is_file.3 h.built)
    ∙ ap (unless_fault units) (no_faults units h.rules)

pub tells_accepted : TellsAccepted
tells_accepted = record { found = is_accepted; whole = is_whole }

-- a file with a refusal is not accepted
not_accepted : (file : List ℕ) (r : Refusal) (units : List SourceUnit) → accepted_of file ≡ Err r → IsAccepted file units → ⊥
not_accepted file r units e h = let bad = sym e ∙ is_whole file units h in absurd (cc)

pub none_accepted : (file : List ℕ) (r : Refusal) (units : List SourceUnit) → ((r ≡ Source Memory) ⊎ (accepted_of file ≡ Err r)) → IsAccepted file units → r ≡ Source Memory
none_accepted file r units (inl e) h = e
none_accepted file r units (inr e) h = absurd (not_accepted file r units e h)

-- what is accepted has a sound program
pub has_sound_program : (file : List ℕ) (units : List SourceUnit) → accepted_of file ≡ Ok units → HasSoundProgram units
has_sound_program file units e = accepted_is_sound file units (is_accepted file units e)

-- ---- the first program

pub first_is : (u : SourceUnit) (units : List SourceUnit) (p : Program) → first_program (u ∷ []) ≡ Some p → first_program (u ∷ units) ≡ Some p
first_is (ProgramUnit q) units p e = e
first_is (ProcedureUnit q) units p e = absurd (cc)
first_is (ModuleUnit m) units p e = absurd (cc)

pub first_is_behind : (u : SourceUnit) (units : List SourceUnit) → first_program (u ∷ []) ≡ None → first_program (u ∷ units) ≡ first_program units
first_is_behind (ProgramUnit q) units e = absurd (cc)
first_is_behind (ProcedureUnit q) units e = refl
first_is_behind (ModuleUnit m) units e = refl
