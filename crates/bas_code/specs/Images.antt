-- The images of small programs, for the worked examples.
use Rattle.std.specs.Prelude.{ℕ, List, [], ◌∷◌, Option, codes}
use Rattle.bas_mean.specs.Outcome.{RunEnd}
use Rattle.bas_mean.specs.Programs.{whole}
use Rattle.bas_code.specs.declared.instr.TheConstants.{TERMINAL}
use Rattle.bas_code.specs.declared.instr.Place.{Place}
use Rattle.bas_code.specs.declared.instr.Space.TheVariants.{Own}
use Rattle.bas_code.specs.declared.instr.Relation.{Relation}
use Rattle.bas_code.specs.declared.instr.Relation.TheVariants.{Equal, Less, Greater}
use Rattle.bas_code.specs.declared.instr.Instr.{Instr}
use Rattle.bas_code.specs.declared.instr.Instr.TheVariants as instr
use Rattle.bas_code.specs.declared.instr.JumpInstr.TheVariants as jump
use Rattle.bas_code.specs.declared.instr.RunInstr.TheVariants as run
use Rattle.bas_code.specs.declared.instr.PushInstr.TheVariants as push
use Rattle.bas_code.specs.declared.instr.StoreInstr.TheVariants as store
use Rattle.bas_code.specs.declared.instr.ArithInstr.TheVariants as arith
use Rattle.bas_code.specs.declared.instr.CompareInstr.TheVariants as compare
use Rattle.bas_code.specs.declared.instr.PrintInstr.TheVariants as print
use Rattle.bas_code.specs.declared.body.BodyKind.TheVariants.{Main}
use Rattle.bas_code.specs.declared.body.LineEntry.{LineEntry}
use Rattle.bas_code.specs.declared.body.Proc.{Proc}
use Rattle.bas_code.specs.declared.body.Image.{Image}
use Rattle.bas_code.specs.Machine.{exec, first_started}

-- at most that many steps of a run for n lines without input
abbrev pub run_for : Image → (steps n : ℕ) → Option RunEnd
run_for image steps n = exec image steps (first_started image image.programs n [])

-- pushes a whole number
abbrev pub num : ℕ → Instr
num n = instr.Push (push.Num (whole n))

-- an own slot
abbrev pub slot : ℕ → Place
slot k = record { space = Own; number = k }

-- pushes what a slot's cell holds
abbrev pub load : ℕ → Instr
load k = instr.Push (push.Load (slot k))

-- pushes a slot's reference
abbrev pub refer : ℕ → Instr
refer k = instr.Push (push.Ref (slot k))

-- stores through one reference
abbrev pub store_one : Instr
store_one = instr.Store (store.Store 1)

-- compares two numbers
abbrev pub compare_by : Relation → Instr
compare_by r = instr.Compare (compare.CompareNum r)

-- goes to an address
abbrev pub go : ℕ → Instr
go a = instr.Jump (jump.Jump a)

-- goes to an address where a truth is false
abbrev pub go_unless : ℕ → Instr
go_unless a = instr.Jump (jump.JumpFalse a)

-- goes to an address where a truth is true
abbrev pub go_if : ℕ → Instr
go_if a = instr.Jump (jump.JumpTrue a)

-- prints a number at the terminal
abbrev pub print_number : Instr
print_number = instr.Print (print.PrintNum TERMINAL)

-- ends the print line of the terminal
abbrev pub print_end : Instr
print_end = instr.Print (print.PrintEnd TERMINAL)

-- an entry of the line table
abbrev pub row : (line start end next : ℕ) → LineEntry
row l start end next = record { line = l; start = start; end = end; next = next }

-- the body of a program MAIN
abbrev pub body_of : (slots : ℕ) → List Instr → List LineEntry → Proc
body_of slots code lines = record { kind = Main; unit = codes "MAIN"; slots = slots; code = code; lines = lines; guards = [] }

-- the image of one program
abbrev pub image_of : Proc → Image
image_of proc = record { programs = (codes "MAIN", 0) ∷ []; procs = proc ∷ [] }

-- 10 DO WHILE I < 3, 20 LET I = I + 1, 30 LOOP, 40 PRINT I / 8, 50 END
unfoldable pub counting_body : Proc
counting_body = body_of 1
    (instr.Mark 10 ∷ load 0 ∷ num 3 ∷ compare_by Less ∷ go_unless 13
    ∷ instr.Mark 20 ∷ refer 0 ∷ load 0 ∷ num 1 ∷ instr.Arith arith.Add ∷ store_one
    ∷ instr.Mark 30 ∷ go 0
    ∷ instr.Mark 40 ∷ load 0 ∷ num 8 ∷ instr.Arith arith.Div ∷ print_number ∷ print_end
    ∷ instr.Mark 50 ∷ instr.Run run.End ∷ [])
    (row 10 0 5 13 ∷ row 20 5 11 11 ∷ row 30 11 13 13 ∷ row 40 13 19 19 ∷ row 50 19 21 19 ∷ [])

-- 10 DO, 20 IF I = 0 THEN, 30 GOTO 60, 40 END IF, 50 LOOP, 60 PRINT 1, 70 END
unfoldable pub jump_out_body : Proc
jump_out_body = body_of 1
    (instr.Mark 10
    ∷ instr.Mark 20 ∷ load 0 ∷ num 0 ∷ compare_by Equal ∷ go_unless 8
    ∷ instr.Mark 30 ∷ go 10
    ∷ instr.Mark 50 ∷ go 0
    ∷ instr.Mark 60 ∷ num 1 ∷ print_number ∷ print_end
    ∷ instr.Mark 70 ∷ instr.Run run.End ∷ [])
    (row 10 0 1 10 ∷ row 20 1 6 8 ∷ row 30 6 8 8 ∷ row 50 8 10 10 ∷ row 60 10 14 14 ∷ row 70 14 16 14 ∷ [])

-- 10 DO, 20 LET I = I + 1, 30 IF I < 3 THEN, 40 GOTO 70, 50 END IF, 60 PRINT I, 70 LOOP WHILE I < 4, 80 END
unfoldable pub jump_to_loop_body : Proc
jump_to_loop_body = body_of 1
    (instr.Mark 10
    ∷ instr.Mark 20 ∷ refer 0 ∷ load 0 ∷ num 1 ∷ instr.Arith arith.Add ∷ store_one
    ∷ instr.Mark 30 ∷ load 0 ∷ num 3 ∷ compare_by Less ∷ go_unless 14
    ∷ instr.Mark 40 ∷ go 18
    ∷ instr.Mark 60 ∷ load 0 ∷ print_number ∷ print_end
    ∷ instr.Mark 70 ∷ load 0 ∷ num 4 ∷ compare_by Less ∷ go_unless 24 ∷ go 0
    ∷ instr.Mark 80 ∷ instr.Run run.End ∷ [])
    (row 10 0 1 24 ∷ row 20 1 7 7 ∷ row 30 7 12 14 ∷ row 40 12 14 14 ∷ row 60 14 18 18 ∷ row 70 18 24 24 ∷ row 80 24 26 24 ∷ [])

-- 10 DO, 20 LET I = I + 1, 30 IF I < 3 THEN, 40 ELSE, 50 EXIT DO, 60 END IF, 70 LOOP, 80 PRINT I, 90 END
unfoldable pub early_exit_body : Proc
early_exit_body = body_of 1
    (instr.Mark 10
    ∷ instr.Mark 20 ∷ refer 0 ∷ load 0 ∷ num 1 ∷ instr.Arith arith.Add ∷ store_one
    ∷ instr.Mark 30 ∷ load 0 ∷ num 3 ∷ compare_by Less ∷ go_unless 13 ∷ go 15
    ∷ instr.Mark 50 ∷ go 17
    ∷ instr.Mark 70 ∷ go 0
    ∷ instr.Mark 80 ∷ load 0 ∷ print_number ∷ print_end
    ∷ instr.Mark 90 ∷ instr.Run run.End ∷ [])
    (row 10 0 1 17 ∷ row 20 1 7 7 ∷ row 30 7 12 15 ∷ row 50 13 15 15 ∷ row 70 15 17 17 ∷ row 80 17 21 21 ∷ row 90 21 23 21 ∷ [])

-- 10 PRINT 1, 20 PRINT 1 / D, 30 END
unfoldable pub zero_divisor_body : Proc
zero_divisor_body = body_of 1
    (instr.Mark 10 ∷ num 1 ∷ print_number ∷ print_end
    ∷ instr.Mark 20 ∷ num 1 ∷ load 0 ∷ instr.Arith arith.Div ∷ print_number ∷ print_end
    ∷ instr.Mark 30 ∷ instr.Run run.End ∷ [])
    (row 10 0 4 4 ∷ row 20 4 10 10 ∷ row 30 10 12 10 ∷ [])

-- 10 IF NOT (A = 0 OR 1 / A = 1) THEN, 20 PRINT 1, 30 ELSEIF A > 0 AND 1 / A = 1 THEN, 40 PRINT 2,
-- 50 ELSE, 60 PRINT 3, 70 END IF, 80 END
unfoldable pub cut_short_body : Proc
cut_short_body = body_of 1
    (instr.Mark 10 ∷ load 0 ∷ num 0 ∷ compare_by Equal ∷ go_if 16
    ∷ num 1 ∷ load 0 ∷ instr.Arith arith.Div ∷ num 1 ∷ compare_by Equal ∷ go_if 16
    ∷ instr.Mark 20 ∷ num 1 ∷ print_number ∷ print_end ∷ go 36
    ∷ instr.Mark 30 ∷ load 0 ∷ num 0 ∷ compare_by Greater ∷ go_unless 32
    ∷ num 1 ∷ load 0 ∷ instr.Arith arith.Div ∷ num 1 ∷ compare_by Equal ∷ go_unless 32
    ∷ instr.Mark 40 ∷ num 2 ∷ print_number ∷ print_end ∷ go 36
    ∷ instr.Mark 60 ∷ num 3 ∷ print_number ∷ print_end
    ∷ instr.Mark 80 ∷ instr.Run run.End ∷ [])
    (row 10 0 11 36 ∷ row 20 11 15 15 ∷ row 30 16 27 36 ∷ row 40 27 31 31 ∷ row 60 32 36 36 ∷ row 80 36 38 36 ∷ [])
