-- Places stand apart.
use Rattle.std.proofs.Common.{◌≡◌, ◌≢◌, ℕ, ◌<◌, ◌≤◌, ◌⊎◌, inl, inr, List, [], ◌∷◌, ◌++◌, length, take, refl, Result, Ok, Err, sym, ap, ◌∙◌, arith}
use Rattle.std.proofs.lemmas.Bool.{cases_eq, cases_lt}
use Rattle.std.proofs.lemmas.List.{length-set, length-append, length-take, get_or-set_same, get_or-set_other, get_or_append_left, get_or_at, get_or-take, get_or-replicate, set_past}
use Rattle.bas_face.specs.declared.shape.Cell.{Cell}
use Rattle.bas_fileval.specs.Value.{Value, unset}
use Rattle.bas_cell.specs.Bounds.{elements}
use Rattle.bas_cell.specs.Holding.{kind_held}
use Rattle.bas_cell.specs.Live.{Live, Place, IsPlace, bounds_of, fresh, cell_at, value_in, value_at, with_value, with_value_at, stored_at}
use Rattle.bas_cell.specs.Laws.{PlacesAreApart, PlacesStay, ShapesStay}

place_of : ℕ → ℕ → Place
place_of n at = record { cell = n; at = at }

same_place : (p q : Place) → q.cell ≡ p.cell → q.at ≡ p.at → q ≡ p
unfolding place_of
same_place p q e f = ap (λ n. place_of n q.at) e ∙ ap (place_of p.cell) f

-- the cell that was written to, and every other one
cell_written : (cells : List Live) (p : Place) (v : Value) → p.cell < length cells → cell_at (with_value_at cells p v) p.cell ≡ with_value (cell_at cells p.cell) p.at v
cell_written cells p v live = get_or-set_same cells p.cell (with_value (cell_at cells p.cell) p.at v) _ live

cell_stays : (cells : List Live) (p : Place) (v : Value) (n : ℕ) → n ≢ p.cell → cell_at (with_value_at cells p v) n ≡ cell_at cells n
cell_stays cells p v n apart = get_or-set_other cells p.cell n (with_value (cell_at cells p.cell) p.at v) _ apart

last : (cells : List Live) (p : Place) (v : Value) → IsPlace cells p → value_at (with_value_at cells p v) p ≡ v
last cells p v there =
    ap (λ c. value_in c.values p.at) (cell_written cells p v there.live)
    ∙ get_or-set_same (cell_at cells p.cell).values p.at v _ there.inside

others : (cells : List Live) (p q : Place) (v : Value) → (q ≡ p → ⊥) → value_at (with_value_at cells p v) q ≡ value_at cells q
others cells p q v apart = by_cell (cases_eq q.cell p.cell)
  where
    in_cell : q.cell ≡ p.cell → (q.at ≡ p.at) ⊎ (q.at ≡ p.at → ⊥) → value_in (with_value (cell_at cells p.cell) p.at v).values q.at ≡ value_in (cell_at cells p.cell).values q.at
    in_cell e (inl f) = absurd (apart (same_place p q e f))
    in_cell e (inr f) = get_or-set_other (cell_at cells p.cell).values p.at q.at v _ f

    by_live : q.cell ≡ p.cell → (p.cell < length cells) ⊎ (length cells ≤ p.cell) → value_at (with_value_at cells p v) q ≡ value_at cells q
    by_live e (inl live) =
        ap (λ n. value_in (cell_at (with_value_at cells p v) n).values q.at) e
        ∙ ap (λ c. value_in c.values q.at) (cell_written cells p v live)
        ∙ in_cell e (cases_eq q.at p.at)
        ∙ ap (λ n. value_in (cell_at cells n).values q.at) (sym e)
    by_live e (inr past) = ap (λ cs. value_at cs q) (set_past cells p.cell (with_value (cell_at cells p.cell) p.at v) past)

    by_cell : (q.cell ≡ p.cell) ⊎ (q.cell ≡ p.cell → ⊥) → value_at (with_value_at cells p v) q ≡ value_at cells q
    by_cell (inl e) = by_live e (cases_lt p.cell (length cells))
    by_cell (inr f) = ap (λ c. value_in c.values q.at) (cell_stays cells p v q.cell f)

shapes : (cells : List Live) (p : Place) (v : Value) (n : ℕ) → (cell_at (with_value_at cells p v) n).cell ≡ (cell_at cells n).cell
shapes cells p v n = by_cell (cases_eq n p.cell)
  where
    by_live : n ≡ p.cell → (p.cell < length cells) ⊎ (length cells ≤ p.cell) → (cell_at (with_value_at cells p v) n).cell ≡ (cell_at cells n).cell
    by_live e (inl live) =
        ap (λ m. (cell_at (with_value_at cells p v) m).cell) e
        ∙ ap (λ c. c.cell) (cell_written cells p v live)
        ∙ ap (λ m. (cell_at cells m).cell) (sym e)
    by_live e (inr past) = ap (λ cs. (cell_at cs n).cell) (set_past cells p.cell (with_value (cell_at cells p.cell) p.at v) past)

    by_cell : (n ≡ p.cell) ⊎ (n ≡ p.cell → ⊥) → (cell_at (with_value_at cells p v) n).cell ≡ (cell_at cells n).cell
    by_cell (inl e) = by_live e (cases_lt p.cell (length cells))
    by_cell (inr f) = ap (λ c. c.cell) (cell_stays cells p v n f)

made : (cells : List Live) (c : Cell) (at : ℕ) → at < elements (bounds_of c) → value_at (cells ++ fresh c ∷ []) (record { cell = length cells; at = at }) ≡ unset (kind_held c.shape)
made cells c at h =
    ap (λ x. value_in x.values at) (get_or_at cells (fresh c) [] _ (length cells) refl)
    ∙ get_or-replicate (elements (bounds_of c)) at (unset (kind_held c.shape)) _ h

kept : (cells more : List Live) (q : Place) → q.cell < length cells → value_at (cells ++ more) q ≡ value_at cells q
kept cells more q h = ap (λ c. value_in c.values q.at) (get_or_append_left cells more _ q.cell h)

dropped : (cells : List Live) (first : ℕ) (q : Place) → q.cell < first → value_at (take first cells) q ≡ value_at cells q
dropped cells first q h = ap (λ c. value_in c.values q.at) (get_or-take first cells q.cell _ h)

pub places_are_apart : PlacesAreApart
places_are_apart = record { last = last; others = others; made = made; kept = kept; dropped = dropped }

lengths : (cells : List Live) (p : Place) (v : Value) (n : ℕ) → length (cell_at (with_value_at cells p v) n).values ≡ length (cell_at cells n).values
lengths cells p v n = by_cell (cases_eq n p.cell)
  where
    by_live : n ≡ p.cell → (p.cell < length cells) ⊎ (length cells ≤ p.cell) → length (cell_at (with_value_at cells p v) n).values ≡ length (cell_at cells n).values
    by_live e (inl live) =
        ap (λ m. length (cell_at (with_value_at cells p v) m).values) e
        ∙ ap (λ c. length c.values) (cell_written cells p v live)
        ∙ length-set (cell_at cells p.cell).values p.at v
        ∙ ap (λ m. length (cell_at cells m).values) (sym e)
    by_live e (inr past) = ap (λ cs. length (cell_at cs n).values) (set_past cells p.cell (with_value (cell_at cells p.cell) p.at v) past)

    by_cell : (n ≡ p.cell) ⊎ (n ≡ p.cell → ⊥) → length (cell_at (with_value_at cells p v) n).values ≡ length (cell_at cells n).values
    by_cell (inl e) = by_live e (cases_lt p.cell (length cells))
    by_cell (inr f) = ap (λ c. length c.values) (cell_stays cells p v n f)

stays_written : (cells : List Live) (p q : Place) (v : Value) → IsPlace cells p → IsPlace (with_value_at cells q v) p
stays_written cells p q v there =
    record {
      live = let same = length-set cells q.cell (with_value (cell_at cells q.cell) q.at v) in omega (arith, there.live, same);
      inside = let same = lengths cells q v p.cell in omega (arith, there.inside, same);
    }

pub stays_stored : (cells : List Live) (p q : Place) (v : Result Value ℕ) → IsPlace cells p → IsPlace (stored_at cells q v) p
stays_stored cells p q (Ok v) there = stays_written cells p q v there
stays_stored cells p q (Err ex) there = there

pub stays_made : (cells more : List Live) (p : Place) → IsPlace cells p → IsPlace (cells ++ more) p
stays_made cells more p there =
    record {
      live = let all = length-append cells more in omega (arith, there.live, all);
      inside = rw (get_or_append_left cells more _ p.cell there.live) there.inside;
    }

pub stays_dropped : (cells : List Live) (first : ℕ) (p : Place) → p.cell < first → IsPlace cells p → IsPlace (take first cells) p
stays_dropped cells first p h there =
    record {
      live = let all = length-take first cells in omega (arith, there.live, all);
      inside = rw (get_or-take first cells p.cell _ h) there.inside;
    }

pub count_stays : (cells : List Live) (p : Place) (v : Result Value ℕ) → length (stored_at cells p v) ≡ length cells
count_stays cells p (Ok v) = length-set cells p.cell (with_value (cell_at cells p.cell) p.at v)
count_stays cells p (Err ex) = refl

pub shapes_stay : (cells : List Live) (p : Place) (v : Result Value ℕ) (n : ℕ) → (cell_at (stored_at cells p v) n).cell ≡ (cell_at cells n).cell
shapes_stay cells p (Ok v) n = shapes cells p v n
shapes_stay cells p (Err ex) n = refl

pub all_shapes_stay : ShapesStay
all_shapes_stay = record { count = count_stays; shapes = shapes_stay }

pub places_stay : PlacesStay
places_stay = record { stored = stays_stored; made = stays_made; dropped = stays_dropped }
