-- The operand stack, and what pushing and popping lead to.
use Rattle.std.proofs.Common.{◌≡◌, ℕ, suc, List, [], ◌∷◌, ◌++◌, map, reverse, None, refl, sym, ap, subst, ◌∙◌, length, arith}
use Rattle.std.proofs.lemmas.List.{map-append, reverse-append}
use Rattle.bas_code.specs.State.{Operand as Standing, MachineWorld, State, Run}
use Rattle.bas_vm.specs.declared.operand.Operand.{Operand}
use Rattle.bas_vm.specs.declared.turn.Step.{Step}
use Rattle.bas_vm.specs.declared.turn.Step.TheVariants.{Onward, Goes, Ends}
use Rattle.bas_vm.specs.Shown.{stacked, operand_of}
use Rattle.bas_vm.specs.Rows.{EndsAs, Leads, IsPushed, goes_to}

-- no operand
pub stacked-none : (items : List Operand) → length items ≡ 0 → stacked items ≡ []
unfolding stacked
stacked-none [] e = refl
stacked-none (x ∷ items) e = absurd (omega arith)

-- one operand more
pub stacked-more : (items : List Operand) (x : Operand) → stacked (items ++ x ∷ []) ≡ operand_of x ∷ stacked items
unfolding stacked
stacked-more items x = ap reverse (map-append operand_of items (x ∷ [])) ∙ reverse-append (map operand_of items) (operand_of x ∷ [])

-- what stood on top
pub stacked-top : (was now : List Operand) (top x : Operand) → was ≡ now ++ top ∷ [] → top ≡ x → stacked was ≡ operand_of x ∷ stacked now
stacked-top was now top x e is = ap stacked e ∙ stacked-more now top ∙ ap (λ y. operand_of y ∷ stacked now) is

-- an instruction that pushes an operand
pub pushed-leads : (c : State) (body pc : ℕ) (step : Step) (old new : List Standing) (x : Standing) (w : MachineWorld) → c ≡ Run body (suc pc) (x ∷ old) [] [] w → IsPushed step old new x → Leads c body pc step new w
pushed-leads c body pc Onward old new x w e is = e ∙ ap (λ s. Run body (suc pc) s [] [] w) (sym is)
pushed-leads c body pc (Goes a) old new x w e is = absurd is
pushed-leads c body pc (Ends t) old new x w e is = subst (λ u. EndsAs c u w) (sym is) tt

-- it does not jump
pub pushed-near : (step : Step) (old new : List Standing) (x : Standing) → IsPushed step old new x → goes_to step ≡ None
pushed-near Onward old new x is = refl
pushed-near (Goes a) old new x is = absurd is
pushed-near (Ends t) old new x is = refl
