-- The first of several addresses counts.
use Rattle.std.proofs.Common.{◌≡◌, ℕ, List, [], ◌∷◌, ◌++◌, refl, sym, ap, ◌∙◌, unwrap_or}
use Rattle.std.specs.Prelude.{if◌then◌else◌}
use Rattle.std.specs.Ordering.{nat_cmp}
use Rattle.std.specs.BTreeMap.{BTreeMap, get}
use Rattle.bas_mean.specs.Outcome.{Target, LineOf, EndOf, TurnOf}
use Rattle.bas_carry.specs.Tables.{Labels, same_target, address_in}
use Rattle.bas_gen.specs.declared.layout.Label.{Label}
use Rattle.bas_gen.specs.declared.targets.Targets.{Targets}
use Rattle.bas_gen.specs.Addresses.{address_at, Puts}
use Rattle.bas_gen.specs.Layouts.{target_of, labels_of}

-- the address that stands with a target, or another one
abbrev pub address_or : Labels → Target → ℕ → ℕ
address_or [] t d = d
address_or (label ∷ labels) t d = if same_target t label.0 then label.1 else address_or labels t d

pub none_is_zero : (labels : Labels) (t : Target) (d : ℕ) → d ≡ 0 → address_or labels t d ≡ address_in labels t
none_is_zero [] t d e = e
none_is_zero (x ∷ xs) t d e = ap (λ n. if same_target t x.0 then x.1 else n) (none_is_zero xs t d e)

pub last_counts_last : (xs : List Label) (y : Label) (t : Target) (d : ℕ) → address_or (labels_of (xs ++ y ∷ [])) t d ≡ address_or (labels_of xs) t (if same_target t (target_of y.target) then y.address else d)
last_counts_last [] y t d = refl
last_counts_last (x ∷ xs) y t d = ap (λ n. if same_target t (target_of x.target) then x.address else n) (last_counts_last xs y t d)

empty_map : (m : BTreeMap ℕ ℕ) (l : ℕ) → m.entries ≡ [] → unwrap_or (get nat_cmp m l) 0 ≡ 0
empty_map m l e = rw e refl

pub empty_targets : (x : Targets) (t : Target) → x.lines.entries ≡ [] → x.ends.entries ≡ [] → x.turns.entries ≡ [] → address_at x t ≡ 0
empty_targets x (LineOf l) p q r = empty_map x.lines l p
empty_targets x (EndOf l) p q r = empty_map x.ends l q
empty_targets x (TurnOf l) p q r = empty_map x.turns l r

pub one_put : (xs ys : List Label) (y : Label) (old new : Targets) (t : Target) (a : ℕ) → xs ≡ ys ++ y ∷ [] → Puts old new (target_of y.target) y.address → address_or (labels_of xs) t (address_at old t) ≡ a → address_or (labels_of ys) t (address_at new t) ≡ a
one_put xs ys y old new t a e p h = ap (address_or (labels_of ys) t) (p t) ∙ sym (last_counts_last ys y t (address_at old t)) ∙ ap (λ l. address_or (labels_of l) t (address_at old t)) (sym e) ∙ h
