-- What the loops of the readers of expressions go by.
use Rattle.std.proofs.Common.{◌≡◌, ℕ, suc, ◌-◌, ◌<◌, ◌≤◌, List, [], ◌∷◌, ◌++◌, Some, None, refl, sym, ap, ◌∙◌, arith, append_assoc, append-nil}
use Rattle.bas_form.specs.Form.{Form}
use Rattle.bas_form.specs.Reader.{Reader, all_from, ReadsLongest}
use Rattle.bas_form.proofs.RepetitionLaws.{progress, all_on, all_end}

-- a loop's part of a list with a first item: what it has read, and what is left from the place that it has reached
abbrev pub HasListed : {A : Type 0} → Reader A → ℕ → A → ℕ → List A → ℕ → Type 0
HasListed {A = A} f len first from all at =
    let whole : List A × ℕ = (first ∷ (all_from f len from).0, (all_from f len from).1) in
    let done : List A × ℕ = (all ++ (all_from f len at).0, (all_from f len at).1) in
    whole ≡ done

module _ {A : Type 0} {len least : ℕ} {F : Form A} {GoesOn : ℕ → Type 0} {f : Reader A} (is : ReadsLongest len least F GoesOn f) (takes : 1 ≤ least) where
  pub fewer : (at : ℕ) (a : A) (next : ℕ) → f at ≡ Some (a, next) → len - next < len - at
  fewer at a next e = let p = progress is takes at (a, next) e in let l = p.0 in let w = p.1 in omega arith

  pub listed_on : (first : A) (from at : ℕ) (all : List A) (a : A) (next : ℕ) → HasListed f len first from all at → f at ≡ Some (a, next) → HasListed f len first from (all ++ a ∷ []) next
  listed_on first from at all a next has e = has ∙ rw (all_on is takes at (a, next) e, append_assoc) refl

  pub listed_end : (first : A) (from at : ℕ) (all : List A) → HasListed f len first from all at → f at ≡ None →
      (let got : List A × ℕ = (all, at) in let whole : List A × ℕ = (first ∷ (all_from f len from).0, (all_from f len from).1) in got ≡ whole)
  listed_end first from at all has e = sym (has ∙ rw (all_end is takes at e, append-nil) refl)

pub deeper : {X : Type 0} (f : ℕ → X) (n : ℕ) → (n ≡ 0 → ⊥) → f n ≡ f (suc (n - 1))
deeper f n some = let e : n ≡ suc (n - 1) = omega arith in ap f e
