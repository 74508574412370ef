-- The whole: by recursion over the trees, and then over the lines left.
use Rattle.std.proofs.Common.{◌≡◌, ℕ, zero, suc, Option, Some, None, refl, sym, subst, inl, inr, ⊎_elim}
use Rattle.bas_ast.specs.Tree.{NumLine, Stmt, Single, Nest, Sections, NoSections, MoreSections, Block, NoStmts, MoreStmts, Program}
use Rattle.bas_mean.specs.World.{World, Seen, seen, with_cells, with_fresh, first_world}
use Rattle.bas_mean.specs.Outcome.{Exception, Ended, Stopped, GoesOn, Lost, Raised, Halted, Finished, Chained, Beyond, Undefined, Outcome, Normal, Ends}
use Rattle.bas_mean.specs.Place.{Around, Region, Place, Lower}
use Rattle.bas_mean.specs.Meaning.{stmt, sections_from, lines, level, program_region, outermost, program_place, run_program, first_program, run_first, end_of, mean}
use Rattle.bas_raise.specs.Raised.{SectionsHave, HasLine, MayRaise, StopsAreKnown}
use Rattle.bas_raise.proofs.Rows.{Right, Always, Within, StmtIn, BlockIn, RegionIn, LowerRight, next_right, single_right, section_right, closing_right}

module _ (p : Program) where
  abbrev SectionsIn : Sections → Type 0
  SectionsIn sections = (l : ℕ) → SectionsHave sections l → HasLine p l

  construct_in : (parts : Sections) (close : NumLine) → SectionsIn parts → HasLine p close.line → StmtIn p (Nest parts close)
  construct_in parts close i h l has = ⊎_elim (λ a. i l a) (λ e. subst (λ m. HasLine p m) (sym e) h) has

  module _ (low : Lower) (lower : LowerRight p low) (q : Place) (inside : Within p q) where
    mutual
      stmt_right : (around : Around) (s : Stmt) → StmtIn p s → Always p (stmt low q around s)
      stmt_right around (Single head) i w = single_right p low lower q inside around head.line head.item (Single head) (i head.line refl) i w
      stmt_right around (Nest sections close) i w = sections_right around sections close (λ l h. i l (inl h)) (i close.line (inr refl)) w

      sections_right : (around : Around) (sections : Sections) (close : NumLine) → SectionsIn sections → HasLine p close.line → Always p (sections_from low q around sections close)
      sections_right around NoSections close i hc w = tt
      sections_right around (MoreSections head body rest) close i hc w =
          section_right p low lower q inside around head.line head.item close (Nest (MoreSections head body rest) close)
          (λ inner closing w1. lines low q inner (record { block = body; closing = closing }) body w1) (λ w1. sections_from low q around rest close w1)
          (i head.line (inl refl)) (construct_in (MoreSections head body rest) close i hc) hc
          (λ inner closing h w1. lines_right inner (record { block = body; closing = closing }) (record { block = body_in; closing = h }) body body_in w1)
          (λ w1. sections_right around rest close (λ l h. i l (inr (inr h))) hc w1)
          w
        where
          body_in : BlockIn p body
          body_in l h = i l (inr (inl h))

      lines_right : (around : Around) (r : Region) → RegionIn p r → (rest : Block) → BlockIn p rest → Always p (lines low q around r rest)
      lines_right around r ri NoStmts i w = closing_right p low lower q inside around r.block r.closing ri w
      lines_right around r ri (MoreStmts s rest) i w =
          next_right p r ri (low.lines q around r) (λ w1. lines low q around r rest w1) (λ b h. lower.lines q inside around r ri b h) (λ w1. lines_right around r ri rest (λ l h. i l (inr h)) w1)
          (stmt low q around s w) (stmt_right around s (λ l h. i l (inl h)) w)

  level_right : (n : ℕ) → LowerRight p (level n)
  unfolding level
  level_right zero = record {
    stmt = λ q inside around s i w. tt;
    lines = λ q inside around r ri rest i w. tt;
  }
  level_right (suc n) = record {
    stmt = λ q inside around s i w. stmt_right (level n) (level_right n) q inside around s i w;
    lines = λ q inside around r ri rest i w. lines_right (level n) (level_right n) q inside around r ri rest i w;
  }

  -- a run of the program
  run_right : Always p (run_program p)
  run_right w =
      lines_right (level w.left) (level_right w.left) (program_place p) (record { handlers = refl; unit = refl }) outermost (program_region p)
      (record { block = λ l h. inl h; closing = inr refl }) p.body (λ l h. inl h) (with_cells (with_fresh 1 w.cells) w)

  -- an outcome that stops the run
  stopped : (o : Outcome) (x : Exception) (s : Seen) → Right p o → end_of o ≡ Stopped x s → MayRaise p x
  stopped (Normal w) x s a e = let f : Ended (seen w) ≡ Stopped x s = e in absurd cc
  stopped (Ends (Raised y) w) x s a e = let f : Stopped y (seen w) ≡ Stopped x s = e in let g : y ≡ x = cc in subst (λ z. MayRaise p z) g a
  stopped (Ends Halted w) x s a e = let f : Ended (seen w) ≡ Stopped x s = e in absurd cc
  stopped (Ends Finished w) x s a e = let f : Ended (seen w) ≡ Stopped x s = e in absurd cc
  stopped (Ends Beyond w) x s a e = let f : GoesOn (seen w) ≡ Stopped x s = e in absurd cc
  stopped (Ends (Chained program values) w) x s a e = let f : Lost ≡ Stopped x s = e in absurd cc
  stopped (Ends Undefined w) x s a e = let f : Lost ≡ Stopped x s = e in absurd cc
  stopped _ x s a e = let f : Lost ≡ Stopped x s = e in absurd cc

by_first : (o : Option Program) (w : World) (x : Exception) (s : Seen) → end_of (run_first o w) ≡ Stopped x s → (p : Program) × (o ≡ Some p) × MayRaise p x
by_first None w x s e = let f : Lost ≡ Stopped x s = e in absurd cc
by_first (Some p) w x s e = (p, refl, stopped p (run_program p w) x s (run_right p w) e)

pub stops_are_known : StopsAreKnown
unfolding mean
stops_are_known units n input x s e = by_first (first_program units) (first_world n input) x s e
