-- The endings that `go` can have for a file are those of some content.
use Rattle.std.proofs.Common.{◌≡◌, ℕ, ◌<◌, ◌≤◌, List, [], length, Option, Some, None, refl, sym, ap, ◌∙◌, subst}
use Rattle.std.specs.Prelude.{nat_le, if◌then◌else◌, replicate}
use Rattle.std.proofs.lemmas.Bool.{le-leb}
use Rattle.std.proofs.lemmas.List.{length-replicate}
use Rattle.bas_world.specs.declared.store.StoreFail.{StoreFail}
use Rattle.bas_world.specs.declared.store.StoreFail.TheVariants as store
use Rattle.bas_accept.specs.Accepted.{accepted_of}
use Rattle.bas_drive.specs.Answer.{source_answer, file_answer, FileEnding}
use Rattle.bas_drive.specs.Ending.{without_output, RunOf, store_ending}
use Rattle.bas_drive.specs.declared.top.TheConstants.{SOURCE_BYTES}
use Rattle.bas_drive.specs.declared.ending.Ending.{Ending}
use Rattle.bas_drive.specs.declared.ending.Ending.TheVariants as ends
use Rattle.bas_drive.proofs.AnswerLaws.{above}

-- no file
pub missing_can_end : (name : List ℕ) (lines : ℕ) → FileEnding name lines (ends.Missing name)
missing_can_end name lines = (None, [], refl)

-- zeros for the bytes of a file
abbrev zeros : ℕ → List ℕ
zeros n = replicate n 0

-- a file of that many bytes, whatever they are
pub large_can_end : (name : List ℕ) (lines size : ℕ) → SOURCE_BYTES < size → FileEnding name lines (ends.FileTooLarge name size)
large_can_end name lines size large = (Some (zeros size), [], ap (λ n. ends.FileTooLarge name n) (sym is_size) ∙ sym (ap (λ a. a.ending) told))
  where
    is_size : length (zeros size) ≡ size
    is_size = length-replicate size 0

    told : file_answer name lines [] (Some (zeros size)) ≡ without_output (ends.FileTooLarge name (length (zeros size)))
    told =
        ap (λ b. if b then source_answer name lines [] (accepted_of (zeros size)) else without_output (ends.FileTooLarge name (length (zeros size))))
        (above (length (zeros size)) SOURCE_BYTES (subst (λ n. SOURCE_BYTES < n) (sym is_size) large) (nat_le (length (zeros size)) SOURCE_BYTES) refl)

-- a store that failed
pub store_can_end : (name : List ℕ) (lines : ℕ) (fail : StoreFail) → FileEnding name lines (store_ending fail)
store_can_end name lines store.Failed = tt
store_can_end name lines store.Memory = tt

-- the bytes that were read
module _ (name : List ℕ) (lines : ℕ) (bytes : List ℕ) (fits : length bytes ≤ SOURCE_BYTES) where
  answer_is : source_answer name lines [] (accepted_of bytes) ≡ file_answer name lines [] (Some bytes)
  answer_is = sym (ap (λ b. if b then source_answer name lines [] (accepted_of bytes) else without_output (ends.FileTooLarge name (length bytes))) (le-leb (length bytes) SOURCE_BYTES fits))

  told_so : (e : Ending) → e ≡ (source_answer name lines [] (accepted_of bytes)).ending → (content : Option (List ℕ)) × (input : List ℕ) × (e ≡ (file_answer name lines input content).ending)
  told_so e is = (Some bytes, [], is ∙ ap (λ a. a.ending) answer_is)

  by_ending : (before now : Option (List ℕ)) (e : Ending) → RunOf (source_answer name lines [] (accepted_of bytes)) before now e → FileEnding name lines e
  by_ending before now ends.StoreFault ran = tt
  by_ending before now ends.OutputFault ran = tt
  by_ending before now ends.Memory ran = tt
  by_ending before now ends.Ended ran = told_so ends.Ended ran.0
  by_ending before now (ends.Stopped at) ran = told_so (ends.Stopped at) ran.0
  by_ending before now ends.LinesSpent ran = told_so ends.LinesSpent ran.0
  by_ending before now ends.Usage ran = told_so ends.Usage ran.0
  by_ending before now (ends.Missing other) ran = told_so (ends.Missing other) ran.0
  by_ending before now (ends.Refused other refusal) ran = told_so (ends.Refused other refusal) ran.0
  by_ending before now (ends.FileTooLarge other size) ran = told_so (ends.FileTooLarge other size) ran.0
  by_ending before now (ends.UnitTooLarge unit size limit) ran = told_so (ends.UnitTooLarge unit size limit) ran.0

pub source_can_end : (name : List ℕ) (lines : ℕ) (bytes : List ℕ) (before now : Option (List ℕ)) (e : Ending) → length bytes ≤ SOURCE_BYTES → ((input : List ℕ) → RunOf (source_answer name lines input (accepted_of bytes)) before now e) → FileEnding name lines e
source_can_end name lines bytes before now e fits does = by_ending name lines bytes fits before now e (does [])
