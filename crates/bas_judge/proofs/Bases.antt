-- The lower bound of arrays that the lines of a unit set is 0 or 1.
use Rattle.std.proofs.Common.{◌≡◌, ◌⊎◌, inl, inr, ℤ, pos, List, [], ◌∷◌, Option, Some, None, true, false, w64, to_z, of_z, refl, sym, ap, ◌∙◌}
use Rattle.std.specs.Prelude.{⊤}
use Rattle.std.specs.Int.Signed.{lt_z}
use Rattle.std.specs.Option.{option_or, unwrap_or}
use Rattle.bas_ast.specs.Tree as t
use Rattle.bas_scope.specs.Shapes.{base_on, first_given}

-- 0 or 1
abbrev IsZeroOrOne : Option ℤ → Type 0
IsZeroOrOne None = ⊤
IsZeroOrOne (Some base) = (base ≡ pos 0) ⊎ (base ≡ pos 1)

by_decl : (decl : t.Decl) → IsZeroOrOne (base_on (t.OfDecl decl))
by_decl t.OptionBaseZero = inl refl
by_decl t.OptionBaseOne = inr refl
by_decl t.OptionArithmeticDecimal = tt
by_decl (t.OptionArithmeticFixed spec) = tt
by_decl (t.Dim items) = tt
by_decl (t.Declare kind items) = tt
by_decl (t.Public kind items) = tt
by_decl (t.Share kind items) = tt
by_decl (t.DeclarePublic kind items) = tt
by_decl (t.Private names) = tt
by_decl (t.DeclareExternal kind names) = tt
by_decl (t.Data datums) = tt

by_item : (item : t.LineItem) → IsZeroOrOne (base_on item)
by_item t.Nothing = tt
by_item (t.Rem bytes) = tt
by_item (t.OfSimple simple) = tt
by_item (t.OfPart part) = tt
by_item (t.OfDecl decl) = by_decl decl

first_of : (a b : Option ℤ) → IsZeroOrOne a → IsZeroOrOne b → IsZeroOrOne (option_or a b)
first_of None b p q = q
first_of (Some base) b p q = p

by_lines : (lines : List t.NumLine) → IsZeroOrOne (first_given base_on lines)
by_lines [] = tt
by_lines (line ∷ lines) = first_of (base_on line.item) (first_given base_on lines) (by_item line.item) (by_lines lines)

given : (o : Option ℤ) → IsZeroOrOne o → IsZeroOrOne (Some (unwrap_or o (pos 1)))
given None p = inr refl
given (Some base) p = p

pub zero_or_one : (lines : List t.NumLine) (base : ℤ) → base ≡ unwrap_or (first_given base_on lines) (pos 1) → IsZeroOrOne (Some base)
zero_or_one lines base e = rw e (given (first_given base_on lines) (by_lines lines))

-- which of the two it is, as a comparison of machine numbers tells
pub one_above : (base : ℤ) → IsZeroOrOne (Some base) → lt_z (pos 0) (to_z w64 (of_z w64 base)) ≡ true → pos 1 ≡ base
one_above base (inr e) k = sym e
one_above base (inl e) k =
    let bad : false ≡ true = ap (λ z. lt_z (pos 0) (to_z w64 (of_z w64 z))) (sym e) ∙ k in
    absurd cc

pub zero_else : (base : ℤ) → IsZeroOrOne (Some base) → lt_z (pos 0) (to_z w64 (of_z w64 base)) ≡ false → pos 0 ≡ base
zero_else base (inl e) k = sym e
zero_else base (inr e) k =
    let bad : true ≡ false = ap (λ z. lt_z (pos 0) (to_z w64 (of_z w64 z))) (sym e) ∙ k in
    absurd cc
