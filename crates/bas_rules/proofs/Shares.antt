-- How many elements may still come.
use Rattle.std.proofs.Common.{◌≡◌, ◌≤◌, ◌<◌, ℕ, ◌+◌, ◌*◌, ◌/◌, ◌&&◌, ℤ, pos, ◌-ℤ◌, ◌+ℤ◌, unsigned_abs, List, ◌∷◌, length, drop, map, slice_index_or, ◌∙◌, Bool, true, false, refl, sym, nat_le}
use Rattle.std.specs.List.{list_all}
use Rattle.std.proofs.Math.Nat.{le-div_iff_mul-le, mul_comm}
use Rattle.std.proofs.lemmas.Bool.{le-leb, leb-true}
use Rattle.std.proofs.lemmas.List.{at_drop_more}
use Rattle.bas_ast.specs.declared.declaration.Bound.{Bound}
use Rattle.bas_ast.specs.DeclarationTree.{bound_tree}
use Rattle.bas_scope.specs.Shapes.{bounds_of}
use Rattle.bas_rules.specs.Declaring.{is_range, extent, elements, are_within}

-- a product is within a limit where the one factor is within the limit divided by the other
within_share : (size rest limit : ℕ) → 1 ≤ size → nat_le (size * rest) limit ≡ nat_le rest (limit / size)
within_share size rest limit some = by_test (nat_le (size * rest) limit) (nat_le rest (limit / size)) refl refl
  where
    by_test : (a b : Bool) → nat_le (size * rest) limit ≡ a → nat_le rest (limit / size) ≡ b → a ≡ b
    by_test true true ea eb = refl
    by_test false false ea eb = refl
    by_test true false ea eb =
        let h = le-leb rest (limit / size) ((le-div_iff_mul-le some).1 (rw (mul_comm rest size) (leb-true (size * rest) limit ea))) in
        let k = rw eb at h in absurd (cc)
    by_test false true ea eb =
        let h = le-leb (size * rest) limit (rw (mul_comm size rest) ((le-div_iff_mul-le some).0 (leb-true rest (limit / size) eb))) in
        let k = rw ea at h in absurd (cc)

-- the first dimension takes its share
first_takes : (r : ℤ × ℤ) (rs : List (ℤ × ℤ)) (n most : ℕ) → (is_range r ≡ true) × ((n ≡ extent r) × (1 ≤ n)) → are_within most (r ∷ rs) ≡ are_within (most / n) rs
first_takes r rs n most h = rw (h.0, sym (within_share n (elements rs) most h.1.1), h.1.0) refl

-- what is out of range ends it
pub first_ends : (r : ℤ × ℤ) (rs : List (ℤ × ℤ)) (most : ℕ) → is_range r ≡ false → are_within most (r ∷ rs) ≡ false
first_ends r rs most h = rw h refl

-- the same at a place of a list of bounds
pub next_takes : (base : ℤ) (bounds : List Bound) (i n most : ℕ) (d : Bound) → i < length bounds
    → (let r = bounds_of base (bound_tree (slice_index_or bounds i d)) in (is_range r ≡ true) × ((n ≡ extent r) × (1 ≤ n)))
    → are_within (most / n) (map (bounds_of base) (map bound_tree (drop (i + 1) bounds))) ≡ are_within most (map (bounds_of base) (map bound_tree (drop i bounds)))
next_takes base bounds i n most d there h =
    sym (at_drop_more (λ bs. are_within most (map (bounds_of base) (map bound_tree bs))) bounds i d there
    ∙ first_takes (bounds_of base (bound_tree (slice_index_or bounds i d))) (map (bounds_of base) (map bound_tree (drop (i + 1) bounds))) n most h)
