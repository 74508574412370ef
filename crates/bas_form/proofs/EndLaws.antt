-- Where what is read ends follows from where its parts end.
use Rattle.std.proofs.Common.{◌≡◌, ℕ, ◌+◌, Option, Some, None, refl, ap, ◌∙◌}
use Rattle.std.specs.Prelude.{unwrap_or}
use Rattle.bas_form.specs.Reader.{Reader, ◌>>=◌, terminal, both, ◌followed_by◌, optional, optional_at, first_of, either, not_ahead, not_ahead_at, built, repeated, all_from, end_of, ◌maybe◌}

module _ {A : Type 0} (element : ℕ → Option A) (at : ℕ) where
  terminal_by : (o : Option A) → end_of (let read : Option (A × ℕ) = o >>= (λ a. Some (a, at + 1)) in read) ≡ (o >>= λ a. Some (at + 1))
  terminal_by None = refl
  terminal_by (Some a) = refl

  pub end_terminal : end_of (terminal element at) ≡ (element at >>= λ a. Some (at + 1))
  unfolding terminal
  end_terminal = terminal_by (element at)

module _ {A B : Type 0} (f : Reader A) (g : Reader B) (at : ℕ) where
  second_by : (a : A) (o : Option (B × ℕ)) → end_of (let read : Option ((A × B) × ℕ) = o >>= (λ b. Some ((a, b.0), b.1)) in read) ≡ end_of o
  second_by a None = refl
  second_by a (Some b) = refl

  first_by : (o : Option (A × ℕ)) → end_of (let read : Option ((A × B) × ℕ) = o >>= (λ a. g a.1 >>= λ b. Some ((a.0, b.0), b.1)) in read) ≡ (end_of o >>= λ middle. end_of (g middle))
  first_by None = refl
  first_by (Some a) = second_by a.0 (g a.1)

  pub end_both : end_of ((f followed_by g) at) ≡ (end_of (f at) >>= λ middle. end_of (g middle))
  unfolding both
  end_both = first_by (f at)

module _ {A : Type 0} (f : Reader A) (at : ℕ) where
  optional_by : (o : Option (A × ℕ)) → end_of (Some (optional_at at o)) ≡ Some (unwrap_or (end_of o) at)
  optional_by None = refl
  optional_by (Some a) = refl

  pub end_optional : end_of (optional f at) ≡ Some (unwrap_or (end_of (f at)) at)
  unfolding optional
  end_optional = optional_by (f at)

  pub end_repeated : (len : ℕ) → end_of (repeated f len at) ≡ Some (all_from f len at).1
  unfolding repeated
  end_repeated len = refl

-- steps that are the same behind the first are the same
pub same_steps : {A B : Type 0} (o : Option A) (f g : A → Option B) → ((a : A) → f a ≡ g a) → (o >>= f) ≡ (o >>= g)
same_steps None f g same = refl
same_steps (Some a) f g same = same a

module _ {A B : Type 0} (f : Reader A) (g : Reader B) (at : ℕ) where
  pub end_maybe : end_of ((f maybe g) at) ≡ (end_of (f at) >>= λ middle. Some (unwrap_or (end_of (g middle)) middle))
  end_maybe = end_both f (optional g) at ∙ same_steps (end_of (f at)) (λ middle. end_of (optional g middle)) (λ middle. Some (unwrap_or (end_of (g middle)) middle)) (λ middle. end_optional g middle)

  pub end_all : (len : ℕ) → end_of ((f followed_by repeated g len) at) ≡ (end_of (f at) >>= λ middle. Some (all_from g len middle).1)
  end_all len = end_both f (repeated g len) at ∙ same_steps (end_of (f at)) (λ middle. end_of (repeated g len middle)) (λ middle. Some (all_from g len middle).1) (λ middle. end_repeated g middle len)

-- one reading behind any number of another
module _ {A B : Type 0} (f : Reader A) (g : Reader B) (len at : ℕ) where
  pub end_all_then : end_of ((repeated f len followed_by g) at) ≡ end_of (g (all_from f len at).1)
  unfolding repeated
  end_all_then = end_both (repeated f len) g at

  pub end_optional_then : end_of ((optional f followed_by g) at) ≡ end_of (g (unwrap_or (end_of (f at)) at))
  end_optional_then = end_both (optional f) g at ∙ ap (λ o. o >>= λ middle. end_of (g middle)) (end_optional f at)

module _ {A : Type 0} (element : ℕ → Option A) (at : ℕ) where
  abbrev pub unless_some : Option A → Option ℕ
  unless_some None = Some at
  unless_some (Some a) = None

  ahead_by : (o : Option A) → end_of (not_ahead_at at o) ≡ unless_some o
  ahead_by None = refl
  ahead_by (Some a) = refl

  pub end_not_ahead : end_of (not_ahead element at) ≡ unless_some (element at)
  unfolding not_ahead
  end_not_ahead = ahead_by (element at)

module _ {A : Type 0} (f g : Reader A) (at : ℕ) where
  either_by : (o : Option (A × ℕ)) → end_of (first_of o (g at)) ≡ first_of (end_of o) (end_of (g at))
  either_by None = refl
  either_by (Some a) = refl

  pub end_either : end_of (either f g at) ≡ first_of (end_of (f at)) (end_of (g at))
  unfolding either
  end_either = either_by (f at)

module _ {A B : Type 0} (make : A → B) (f : Reader A) (at : ℕ) where
  built_by : (o : Option (A × ℕ)) → end_of (let read : Option (B × ℕ) = o >>= (λ a. Some (make a.0, a.1)) in read) ≡ end_of o
  built_by None = refl
  built_by (Some a) = refl

  pub end_built : end_of (built make f at) ≡ end_of (f at)
  unfolding built
  end_built = built_by (f at)

module _ {A : Type 0} (o : Option (A × ℕ)) where
  -- what was read, where its end is known
  pub read_to : (next : ℕ) → end_of o ≡ Some next → (a : A) × (o ≡ Some (a, next))
  read_to next e = by_value o next e
    where
      by_value : (o : Option (A × ℕ)) (next : ℕ) → end_of o ≡ Some next → (a : A) × (o ≡ Some (a, next))
      by_value None next e = absurd (cc)
      by_value (Some found) next e = (found.0, (let same : found.1 ≡ next = cc in ap (λ n. Some (found.0, n)) same))

  pub read_none : end_of o ≡ None → o ≡ None
  read_none e = by_value o e
    where
      by_value : (o : Option (A × ℕ)) → end_of o ≡ None → o ≡ None
      by_value None e = refl
      by_value (Some found) e = absurd (cc)
