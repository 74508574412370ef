-- What has been read of a file.
use Rattle.std.proofs.Common.{◌≡◌, ℕ, ◌+◌, ◌≤◌, List, ◌++◌, Option, Some, None, IfSome, length, take, drop, sym, ap, ◌∙◌, subst, arith}
use Rattle.std.proofs.Math.Seq.{take-add, take-append-add}
use Rattle.std.proofs.lemmas.List.{take-append-le, length-take-le, length-append, length-drop, take_at}
use borrow.Rule.Slice.PartMut.{put_mid, post_of}
use Rattle.bas_world.specs.Files.{Files, bytes_at, read_length}

-- the buffer begins with so many bytes of the file
pub record HasRead (files : Option Files) (name : List ℕ) (filled : ℕ) (buffer : List ℕ) : Type 0 where
  pub within : filled ≤ length buffer
  pub bytes : IfSome files (λ all. take filled buffer ≡ take filled (bytes_at all name))

-- what one read put into its part of the buffer
abbrev pub ReadsPart : Option Files → List ℕ → ℕ → ℕ → List ℕ → List ℕ → Type 0
ReadsPart files name filled count old part =
    IfSome files (λ all. count ≡ read_length (bytes_at all name) filled (length old)) × IfSome files (λ all. part ≡ take count (drop filled (bytes_at all name)) ++ drop count old)

-- the front of a list that begins with a list of n elements
front : (n m : ℕ) (xs ys : List ℕ) → length xs ≡ n → take (n + m) (xs ++ ys) ≡ xs ++ take m ys
front n m xs ys e = subst (λ k. take (k + m) (xs ++ ys) ≡ xs ++ take m ys) e (take-append-add xs ys m)

more_bytes :
    (bytes : List ℕ) (filled count k : ℕ) (buffer part old : List ℕ) → filled ≤ length buffer → count ≤ length part →
    take filled buffer ≡ take filled bytes → count ≡ read_length bytes filled (length old) → part ≡ take count (drop filled bytes) ++ drop count old →
    take (filled + count) (put_mid filled k buffer part) ≡ take (filled + count) bytes
more_bytes bytes filled count k buffer part old within fits so_far is_count is_part =
    let few : count ≤ length (drop filled bytes) = subst (λ n. count ≤ n) (sym (length-drop filled bytes)) (omega (arith, is_count)) in
    front filled count (take filled buffer) (part ++ post_of filled k buffer) (length-take-le filled buffer within)
    ∙ (ap (λ r. take filled buffer ++ r) (take-append-le count part (post_of filled k buffer) fits)
    ∙ (ap (λ r. take filled buffer ++ take count r) is_part
    ∙ (ap (λ r. take filled buffer ++ r) (take_at (take count (drop filled bytes)) (drop count old) count (length-take-le count (drop filled bytes) few))
    ∙ (ap (λ r. r ++ take count (drop filled bytes)) so_far
    ∙ sym (take-add filled count bytes)))))

-- the buffer after one more read
pub HasRead-more :
    (files : Option Files) (name : List ℕ) (filled count k : ℕ) (buffer part old : List ℕ) →
    HasRead files name filled buffer → count ≤ length part → ReadsPart files name filled count old part →
    HasRead files name (filled + count) (put_mid filled k buffer part)
HasRead-more files name filled count k buffer part old so_far fits reads = record {
  within = subst (λ n. filled + count ≤ n) (sym (length-append (take filled buffer) (part ++ post_of filled k buffer)))
      (omega (arith, fits, length-take-le filled buffer so_far.within, length-append part (post_of filled k buffer)));
  bytes = told files so_far.bytes reads;
}
  where
    told : (files : Option Files) → IfSome files (λ all. take filled buffer ≡ take filled (bytes_at all name)) → ReadsPart files name filled count old part → IfSome files (λ all. take (filled + count) (put_mid filled k buffer part) ≡ take (filled + count) (bytes_at all name))
    told None so_far_bytes reads = tt
    told (Some all) so_far_bytes reads = more_bytes (bytes_at all name) filled count k buffer part old so_far.within fits so_far_bytes reads.0 reads.1
