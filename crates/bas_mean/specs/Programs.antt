-- Small programs, written as trees, for the worked examples.
use Rattle.std.specs.Prelude.{ℕ, ◌-◌, ◌^◌, pos, true, List, [], ◌∷◌, ◌++◌, Option, Some, None, codes}
use Rattle.bas_dec.specs.Number.{Number}
use Rattle.bas_ast.specs.Tree.{Add, Divide, Rel, Less, Equal, Greater, Expr, Sum, NoTerms, MoreTerms, Product, NoFactors, MoreFactors, Factor, Power, NoPrimaries, Primary, Numeric, Named, NoArgs, Cond, AnyOf, NoConjs, MoreConjs, AllOf, NoTests, MoreTests, Test, Not, CondGroup, Compare, Variable, NoExprs, Printed, Plain, Let, Print, Goto, ExitDo, Alone, Loopc, While, Part, If, Elseif, Else, EndIf, Do, Loop, ProgramLine, End, Nothing, Rem, OfSimple, OfPart, NumLine, Stmt, Single, Nest, NoSections, MoreSections, Block, NoStmts, MoreStmts, SourceUnit, ProgramUnit}
use Rattle.bas_mean.specs.World.{Terminal}

-- a whole number
abbrev pub whole : ℕ → Number
whole n = record { coefficient = pos n; scale = 0 }

-- n
abbrev pub num : ℕ → Primary
num n = Numeric (record { value = whole n; digits = true })

-- the variable of that name
abbrev pub var : List ℕ → Primary
var name = Named name NoArgs

-- a primary as a factor
abbrev pub factor_of : Primary → Factor
factor_of a = Power a NoPrimaries

-- a primary as an expression
abbrev pub expr_of : Primary → Expr
expr_of a = Sum None (Product (factor_of a) NoFactors) NoTerms

-- a + b
abbrev pub plus : Primary → Primary → Expr
plus a b = Sum None (Product (factor_of a) NoFactors) (MoreTerms Add (Product (factor_of b) NoFactors) NoTerms)

-- a / b
abbrev pub over : Primary → Primary → Expr
over a b = Sum None (Product (factor_of a) (MoreFactors Divide (factor_of b) NoFactors)) NoTerms

-- a relation between two primaries
abbrev pub compared_to : Primary → Rel → Primary → Test
compared_to a rel b = Compare (expr_of a) rel (expr_of b)

-- a test as a condition
abbrev pub cond_of : Test → Cond
cond_of t = AnyOf (AllOf t NoTests) NoConjs

-- t OR u
abbrev pub either : Test → Test → Cond
either t u = AnyOf (AllOf t NoTests) (MoreConjs (AllOf u NoTests) NoConjs)

-- t AND u
abbrev pub both : Test → Test → Cond
both t u = AnyOf (AllOf t (MoreTests u NoTests)) NoConjs

-- a line alone
abbrev pub plain_line : ℕ → Plain → Stmt
plain_line l plain = Single (record { line = l; item = OfSimple (Alone plain) })

-- LET at line l
abbrev pub let_line : ℕ → List ℕ → Expr → Stmt
let_line l name e = plain_line l (Let (Variable name NoExprs ∷ []) e)

-- PRINT of one expression at line l
abbrev pub print_line : ℕ → Expr → Stmt
print_line l e = plain_line l (Print (record { first = Some (Printed e); rest = [] }))

-- a line of a construct
abbrev pub part_line : ℕ → Part → NumLine
part_line l part = record { line = l; item = OfPart part }

-- a block of statements
abbrev pub block_of : List Stmt → Block
block_of [] = NoStmts
block_of (s ∷ ss) = MoreStmts s (block_of ss)

-- DO at line l and LOOP at line m
abbrev pub loop_of : ℕ → Option Loopc → List Stmt → ℕ → Option Loopc → Stmt
loop_of l c body m d = Nest (MoreSections (part_line l (Do c)) (block_of body) NoSections) (part_line m (Loop d))

-- block IF at line l without a further section, and END IF at line m
abbrev pub if_of : ℕ → Cond → List Stmt → ℕ → Stmt
if_of l c body m = Nest (MoreSections (part_line l (If c)) (block_of body) NoSections) (part_line m EndIf)

-- the program MAIN with END at line l
abbrev pub program_of : List Stmt → ℕ → List SourceUnit
program_of body l = ProgramUnit (record { name = codes "MAIN"; head = None; body = block_of body; close = part_line l End }) ∷ []

-- 10 DO WHILE I < 3, 20 LET I = I + 1, 30 LOOP, 40 PRINT I / 8, 50 END
unfoldable pub counting_loop : List SourceUnit
counting_loop = program_of
    (loop_of 10 (Some (While (cond_of (compared_to (var (codes "I")) Less (num 3)))))
    (let_line 20 (codes "I") (plus (var (codes "I")) (num 1)) ∷ []) 30 None
    ∷ print_line 40 (over (var (codes "I")) (num 8)) ∷ [])
    50

-- 10 DO, 20 IF I = 0 THEN, 30 GOTO 60, 40 END IF, 50 LOOP, 60 PRINT 1, 70 END
unfoldable pub jump_out : List SourceUnit
jump_out = program_of
    (loop_of 10 None
    (if_of 20 (cond_of (compared_to (var (codes "I")) Equal (num 0))) (plain_line 30 (Goto 60) ∷ []) 40 ∷ []) 50 None
    ∷ print_line 60 (expr_of (num 1)) ∷ [])
    70

-- 10 DO, 20 LET I = I + 1, 30 IF I < 3 THEN, 40 GOTO 70, 50 END IF, 60 PRINT I, 70 LOOP WHILE I < 4, 80 END
unfoldable pub jump_to_loop : List SourceUnit
jump_to_loop = program_of
    (loop_of 10 None
    (let_line 20 (codes "I") (plus (var (codes "I")) (num 1))
    ∷ if_of 30 (cond_of (compared_to (var (codes "I")) Less (num 3))) (plain_line 40 (Goto 70) ∷ []) 50
    ∷ print_line 60 (expr_of (var (codes "I"))) ∷ [])
    70 (Some (While (cond_of (compared_to (var (codes "I")) Less (num 4)))))
    ∷ [])
    80

-- 10 DO, 20 LET I = I + 1, 30 IF I < 3 THEN, 40 ELSE, 50 EXIT DO, 60 END IF, 70 LOOP, 80 PRINT I, 90 END
unfoldable pub early_exit : List SourceUnit
early_exit = program_of
    (loop_of 10 None
    (let_line 20 (codes "I") (plus (var (codes "I")) (num 1))
    ∷ Nest
    (MoreSections (part_line 30 (If (cond_of (compared_to (var (codes "I")) Less (num 3))))) NoStmts
    (MoreSections (part_line 40 Else) (block_of (plain_line 50 ExitDo ∷ [])) NoSections))
    (part_line 60 EndIf)
    ∷ [])
    70 None
    ∷ print_line 80 (expr_of (var (codes "I"))) ∷ [])
    90

-- 10 PRINT 1, 20 PRINT 1 / D, 30 END
unfoldable pub zero_divisor : List SourceUnit
zero_divisor = program_of (print_line 10 (expr_of (num 1)) ∷ print_line 20 (over (num 1) (var (codes "D"))) ∷ []) 30

-- 1 / A = 1
abbrev pub inverse_is_one : Test
inverse_is_one = Compare (over (num 1) (var (codes "A"))) Equal (expr_of (num 1))

-- 10 IF NOT (A = 0 OR 1 / A = 1) THEN, 20 PRINT 1, 30 ELSEIF A > 0 AND 1 / A = 1 THEN, 40 PRINT 2,
-- 50 ELSE, 60 PRINT 3, 70 END IF, 80 END
unfoldable pub cut_short : List SourceUnit
cut_short = program_of
    (Nest
    (MoreSections (part_line 10 (If (cond_of (Not (CondGroup (either (compared_to (var (codes "A")) Equal (num 0)) inverse_is_one))))))
    (block_of (print_line 20 (expr_of (num 1)) ∷ []))
    (MoreSections (part_line 30 (Elseif (both (compared_to (var (codes "A")) Greater (num 0)) inverse_is_one)))
    (block_of (print_line 40 (expr_of (num 2)) ∷ []))
    (MoreSections (part_line 50 Else) (block_of (print_line 60 (expr_of (num 3)) ∷ [])) NoSections)))
    (part_line 70 EndIf)
    ∷ [])
    80

-- 10 PRINT N, 20 PRINT N + 1, 30 END, with 38 nines in place of each N
unfoldable pub greatest_number : List SourceUnit
greatest_number = program_of (print_line 10 (expr_of (num (10 ^ 38 - 1))) ∷ print_line 20 (plus (num (10 ^ 38 - 1)) (num 1)) ∷ []) 30

-- 10 PROGRAM P, 20 REM first, 30, 40 PRINT 1, 50 END
unfoldable pub remarked : List SourceUnit
remarked = ProgramUnit (record {
  name = codes "P";
  head = Some (part_line 10 (ProgramLine (codes "P") []));
  body = block_of (
      Single (record { line = 20; item = Rem (codes " first") })
      ∷ Single (record { line = 30; item = Nothing })
      ∷ print_line 40 (expr_of (num 1))
      ∷ []);
  close = part_line 50 End;
}) ∷ []

-- a terminal whose output took these lines, each with its end, and no input or report
abbrev pub lines_taken : List (List ℕ) → List ℕ
lines_taken [] = []
lines_taken (text ∷ texts) = text ++ 10 ∷ lines_taken texts

-- a terminal that took these lines, with no input and no report
abbrev pub terminal_with : List (List ℕ) → Terminal
terminal_with texts = record { input = []; output = lines_taken texts; report = []; column = 0 }
