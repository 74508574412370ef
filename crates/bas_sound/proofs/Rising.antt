-- The numbers in a tree rise, as those of its lines do.
use Rattle.std.proofs.Common.{◌≡◌, ℕ, suc, ◌<◌, ◌≤◌, ◌&&◌, Bool, true, false, List, [], ◌∷◌, ◌++◌, Option, Some, None, refl, ap, sym, ◌∙◌, subst, arith, append_assoc, append-nil, ltb}
use Rattle.std.proofs.lemmas.Bool.{lt-ltb}
use Rattle.bas_ast.specs.Tree.{NumLine, Stmt, Single, Nest, Sections, NoSections, MoreSections, Block, NoStmts, MoreStmts, Program}
use Rattle.bas_carry.specs.Tables.{stmt_numbers, sections_numbers, block_numbers, program_numbers, rise_above, Sound}
use Rattle.bas_nest.specs.Constructs.{inside}
use Rattle.bas_nest.specs.declared.construct.Construct.{Construct}
use Rattle.bas_nest.specs.declared.construct.Around.{Around}
use Rattle.bas_nest.specs.declared.construct.Around.TheVariants as stands
use Rattle.bas_sound.specs.Rising.{Rises, ProgramsAreSound}
use Rattle.bas_nest.specs.Units.{AreRemarks, BodyIn, IsStmt, AreSections, IsBlock, IsProgram}

lower : (low high : ℕ) (lines : List NumLine) → low ≤ high → Rises high lines → Rises low lines
lower low high [] le h = tt
lower low high (line ∷ lines) le h = let above : high < line.line = h.0 in (omega arith, h.1)

-- lines that rise, without those at their front
pub dropped : (low : ℕ) (front lines : List NumLine) → Rises low (front ++ lines) → Rises low lines
dropped low [] lines h = h
dropped low (line ∷ front) lines h =
    let above : low < line.line = h.0 in
    lower low line.line lines (omega arith) (dropped line.line front lines h.1)

-- wherever these lines rise, those numbers do
abbrev pub Follows : List ℕ → List NumLine → Type 0
Follows numbers lines = (low : ℕ) → Rises low lines → rise_above low numbers ≡ true

one : (numbers : List ℕ) (line : NumLine) (lines : List NumLine) → Follows numbers lines → Follows (line.line ∷ numbers) (line ∷ lines)
one numbers line lines f low h = ap (λ (b : Bool). b && rise_above line.line numbers) (lt-ltb low line.line h.0) ∙ f line.line h.1

-- the lines of a section's body, which has no line of a SELECT CASE
body_follows : (a : Around) (lines_are : Type 0) (body : Block) (own lines : List NumLine) (numbers : List ℕ) → BodyIn a lines_are body own → Follows numbers lines →
    (lines_are → Follows (block_numbers body ++ numbers) (own ++ lines)) → Follows (block_numbers body ++ numbers) (own ++ lines)
body_follows stands.Select lines_are body own lines numbers h f go low r =
    ap (λ (b : Block). rise_above low (block_numbers b ++ numbers)) h.0 ∙ f low (dropped low own lines r)
body_follows stands.Unit lines_are body own lines numbers h f go low r = go h low r
body_follows stands.Internal lines_are body own lines numbers h f go low r = go h low r
body_follows stands.Block lines_are body own lines numbers h f go low r = go h low r

numbers_of : (head : NumLine) (body : Block) (rest : Sections) (close : NumLine) (numbers : List ℕ) →
    head.line ∷ (block_numbers body ++ (sections_numbers rest ++ close.line ∷ numbers)) ≡ stmt_numbers (Nest (MoreSections head body rest) close) ++ numbers
numbers_of head body rest close numbers =
    ap (λ (ns : List ℕ). head.line ∷ ns) (sym (append_assoc ((block_numbers body ++ sections_numbers rest)) (close.line ∷ []) numbers ∙ append_assoc (block_numbers body) (sections_numbers rest) (close.line ∷ numbers)))

mutual
  stmt_follows : (depth : ℕ) (a : Around) (s : Stmt) (lines more : List NumLine) (numbers : List ℕ) → IsStmt depth a s lines → Follows numbers more → Follows (stmt_numbers s ++ numbers) (lines ++ more)
  stmt_follows depth a (Single line) lines more numbers h f =
      subst (λ (ls : List NumLine). Follows (line.line ∷ numbers) (ls ++ more)) (sym h.1) (one numbers line more f)
  stmt_follows depth a (Nest NoSections close) lines more numbers h f = absurd (h)
  stmt_follows depth a (Nest (MoreSections head body rest) close) lines more numbers h f =
      let c : Construct = h.0 in
      let own : List NumLine = h.1 in
      let behind : List NumLine = h.2 in
      let others : List ℕ = sections_numbers rest ++ close.line ∷ numbers in
      subst (λ (ls : List NumLine). Follows (stmt_numbers (Nest (MoreSections head body rest) close) ++ numbers) (ls ++ more)) (sym h.8)
      (subst (λ (ns : List ℕ). Follows ns ((head ∷ (own ++ behind)) ++ more)) (numbers_of head body rest close numbers)
      (subst (λ (ls : List NumLine). Follows (head.line ∷ (block_numbers body ++ others)) (head ∷ ls)) (sym (append_assoc own behind more))
      (one (block_numbers body ++ others) head (own ++ (behind ++ more))
      (body_follows (inside c) (IsBlock (suc depth) (inside c) body own) body own (behind ++ more) others h.6
      (sections_follow depth c rest close behind more numbers h.7 f)
      (λ b. block_follows (suc depth) (inside c) body own (behind ++ more) others b (sections_follow depth c rest close behind more numbers h.7 f))))))

  sections_follow : (depth : ℕ) (c : Construct) (rest : Sections) (close : NumLine) (lines more : List NumLine) (numbers : List ℕ) → AreSections depth c rest close lines → Follows numbers more →
      Follows (sections_numbers rest ++ close.line ∷ numbers) (lines ++ more)
  sections_follow depth c NoSections close lines more numbers h f =
      subst (λ (ls : List NumLine). Follows (close.line ∷ numbers) (ls ++ more)) (sym h.1) (one numbers close more f)
  sections_follow depth c (MoreSections head body rest) close lines more numbers h f =
      let d : Construct = h.0 in
      let own : List NumLine = h.1 in
      let behind : List NumLine = h.2 in
      let others : List ℕ = sections_numbers rest ++ close.line ∷ numbers in
      subst (λ (ls : List NumLine). Follows (sections_numbers (MoreSections head body rest) ++ close.line ∷ numbers) (ls ++ more)) (sym h.6)
      (subst (λ (ns : List ℕ). Follows (head.line ∷ ns) ((head ∷ (own ++ behind)) ++ more)) (sym (append_assoc (block_numbers body) (sections_numbers rest) (close.line ∷ numbers)))
      (subst (λ (ls : List NumLine). Follows (head.line ∷ (block_numbers body ++ others)) (head ∷ ls)) (sym (append_assoc own behind more))
      (one (block_numbers body ++ others) head (own ++ (behind ++ more))
      (body_follows (inside d) (IsBlock (suc depth) (inside d) body own) body own (behind ++ more) others h.4
      (sections_follow depth d rest close behind more numbers h.5 f)
      (λ b. block_follows (suc depth) (inside d) body own (behind ++ more) others b (sections_follow depth d rest close behind more numbers h.5 f))))))

  pub block_follows : (depth : ℕ) (a : Around) (b : Block) (lines more : List NumLine) (numbers : List ℕ) → IsBlock depth a b lines → Follows numbers more → Follows (block_numbers b ++ numbers) (lines ++ more)
  block_follows depth a NoStmts lines more numbers h f = subst (λ (ls : List NumLine). Follows numbers (ls ++ more)) (sym h) f
  block_follows depth a (MoreStmts s rest) lines more numbers h f =
      let own : List NumLine = h.0 in
      let behind : List NumLine = h.1 in
      subst (λ (ls : List NumLine). Follows ((stmt_numbers s ++ block_numbers rest) ++ numbers) (ls ++ more)) (sym h.4)
      (subst (λ (ls : List NumLine). Follows ((stmt_numbers s ++ block_numbers rest) ++ numbers) ls) (sym (append_assoc own behind more))
      (subst (λ (ns : List ℕ). Follows ns (own ++ (behind ++ more))) (sym (append_assoc (stmt_numbers s) (block_numbers rest) numbers))
      (stmt_follows depth a s own (behind ++ more) (block_numbers rest ++ numbers) h.2 (block_follows depth a rest behind more numbers h.3 f))))

-- the numbers of a program rise where its lines do
pub program_rises : (p : Program) (lines more : List NumLine) → IsProgram p lines → Rises 0 (lines ++ more) → rise_above 0 (program_numbers p) ≡ true
program_rises p lines more h r =
    let head : List NumLine = h.0 in
    let own : List NumLine = h.1 in
    let is : lines ++ more ≡ head ++ (own ++ p.close ∷ more) =
    ap (λ (ls : List NumLine). ls ++ more) h.5 ∙ append_assoc head (own ++ p.close ∷ []) more ∙ ap (λ (ls : List NumLine). head ++ ls) (append_assoc own (p.close ∷ []) more) in
    block_follows 0 stands.Unit p.body own (p.close ∷ more) (p.close.line ∷ []) h.3 (one [] p.close more (λ low up. refl)) 0
    (dropped 0 head (own ++ p.close ∷ more) (subst (λ (ls : List NumLine). Rises 0 ls) is r))

pub is_sound : ProgramsAreSound
is_sound p lines more h r b c j = record { built = b; closes = c; jumps = j; rises = program_rises p lines more h r }
