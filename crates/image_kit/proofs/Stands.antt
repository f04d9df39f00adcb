-- What stands at a place of a file.
use Rattle.std.proofs.Common.{◌≡◌, ℕ, suc, ◌+◌, ◌-◌, ◌^◌, ◌<◌, ◌≤◌, Bool, true, false, List, [], ◌∷◌, ◌++◌, length, get_or, take, drop, Some, refl, sym, ap, ◌∙◌, append_assoc, arith}
use Rattle.std.specs.Prelude.{◌==◌, slice_range, nat_lt}
use Rattle.std.specs.List.{Contains, position, position_or_len}
use Rattle.std.proofs.lemmas.Bool.{lt-ltb, ne_eqb}
use Rattle.std.proofs.lemmas.List.{drop-drop, drop_at, take_at, take_all, length-drop, length-append}
use Rattle.byteorder.specs.Endian.{little_number, little_bytes}
use Rattle.byteorder.specs.Numbers.{little_number-reads_back}
use Rattle.byte_view.specs.Numbers.{le}
use Rattle.byte_view.specs.Heaps.{text_at}
use Rattle.image_kit.specs.LibraryFile.{u16, u32, u64}

-- a piece stands at a place, and something behind it
pub record Stands (bytes : List ℕ) (at : ℕ) (piece : List ℕ) : Type 0 where
  pub rest : List ℕ
  pub from : drop at bytes ≡ piece ++ rest

pub stands_first : (xs ys : List ℕ) → Stands (xs ++ ys) 0 xs
stands_first xs ys = record { rest = ys; from = refl }

-- the front of a piece
pub stands_front : (bytes : List ℕ) (at : ℕ) (xs ys : List ℕ) → Stands bytes at (xs ++ ys) → Stands bytes at xs
stands_front bytes at xs ys s = record { rest = ys ++ s.rest; from = s.from ∙ append_assoc xs ys s.rest }

-- what stands behind a front of a length
pub stands_back : (bytes : List ℕ) (at place : ℕ) (xs ys : List ℕ) → Stands bytes at (xs ++ ys) → at + length xs ≡ place → Stands bytes place ys
stands_back bytes at place xs ys s e = record {
  rest = s.rest;
  from = ap (λ n. drop n bytes) (sym e) ∙ sym (drop-drop (length xs) at bytes) ∙ ap (drop (length xs)) (s.from ∙ append_assoc xs ys s.rest) ∙ drop_at xs (ys ++ s.rest) (length xs) refl;
}

-- a number inside a piece
pub le_inside : (bytes : List ℕ) (at k place n : ℕ) (piece : List ℕ) → (s : Stands bytes at piece) → at + k ≡ place → le bytes place n ≡ le (piece ++ s.rest) k n
unfolding le
le_inside bytes at k place n piece s e =
    ap (λ n'. little_number n (drop n' bytes)) (sym e) ∙ ap (little_number n) (sym (drop-drop k at bytes) ∙ ap (drop k) s.from)

-- a piece that is a number
pub le_whole : (bytes : List ℕ) (at n x : ℕ) → Stands bytes at (little_bytes n x) → x < 256 ^ n → le bytes at n ≡ x
unfolding le
le_whole bytes at n x s h = ap (little_number n) s.from ∙ little_number-reads_back n x s.rest h

pub le_u16 : (bytes : List ℕ) (at x : ℕ) → Stands bytes at (u16 x) → x < 2 ^ 16 → le bytes at 2 ≡ x
unfolding u16
le_u16 bytes at x s h = le_whole bytes at 2 x s h

pub le_u32 : (bytes : List ℕ) (at x : ℕ) → Stands bytes at (u32 x) → x < 2 ^ 32 → le bytes at 4 ≡ x
unfolding u32
le_u32 bytes at x s h = le_whole bytes at 4 x s h

pub le_u64 : (bytes : List ℕ) (at x : ℕ) → Stands bytes at (u64 x) → x < 2 ^ 64 → le bytes at 8 ≡ x
unfolding u64
le_u64 bytes at x s h = le_whole bytes at 8 x s h

pub length-u16 : (x : ℕ) → length (u16 x) ≡ 2
unfolding u16
length-u16 x = refl

pub length-u32 : (x : ℕ) → length (u32 x) ≡ 4
unfolding u32
length-u32 x = refl

pub length-u64 : (x : ℕ) → length (u64 x) ≡ 8
unfolding u64
length-u64 x = refl

-- a piece that stands somewhere lies in the file
pub stands_within : (bytes : List ℕ) (at : ℕ) (piece : List ℕ) → Stands bytes at piece → 1 ≤ length piece → at + length piece ≤ length bytes
stands_within bytes at piece s h =
    let left = length-drop at bytes in
    let long : length (drop at bytes) ≡ length piece + length s.rest = ap length s.from ∙ length-append piece s.rest in
    omega arith

-- the bytes of a piece
pub range_stands : (bytes : List ℕ) (at : ℕ) (piece : List ℕ) → Stands bytes at piece → slice_range bytes at (at + length piece) ≡ piece
range_stands bytes at piece s =
    let size : at + length piece - at ≡ length piece = omega arith in
    ap (λ n. take n (drop at bytes)) size ∙ ap (take (length piece)) s.from ∙ take_at piece s.rest (length piece) refl

-- all bytes from a place on
pub range_to_end : (bytes : List ℕ) (at : ℕ) → slice_range bytes at (length bytes) ≡ drop at bytes
range_to_end bytes at = take_all (length bytes - at) (drop at bytes) (omega (arith, length-drop at bytes))

-- the first place that passes a test is behind those that don't
prefix_at : (p : ℕ → Bool) (xs ys : List ℕ) (y : ℕ) → ((k : ℕ) → k < length xs → p (get_or xs k 0) ≡ false) → p y ≡ true → position_or_len p (xs ++ y ∷ ys) ≡ length xs
prefix_at p [] ys y none last = rw last refl
prefix_at p (x ∷ xs) ys y none last =
    let first : p x ≡ false = none 0 (omega arith) in
    let more : position_or_len p (xs ++ y ∷ ys) ≡ length xs = prefix_at p xs ys y (λ k h. none (suc k) (omega arith)) last in
    rw (first, more) (omega arith)

pub position_at : (p : ℕ → Bool) (xs ys : List ℕ) (y : ℕ) → ((k : ℕ) → k < length xs → p (get_or xs k 0) ≡ false) → p y ≡ true → position p (xs ++ y ∷ ys) ≡ Some (length xs)
position_at p xs ys y none last =
    let place : position_or_len p (xs ++ y ∷ ys) ≡ length xs = prefix_at p xs ys y none last in
    let long : length (xs ++ y ∷ ys) ≡ length xs + suc (length ys) = length-append xs (y ∷ ys) in
    let within : nat_lt (length xs) (length (xs ++ y ∷ ys)) ≡ true = lt-ltb (length xs) (length (xs ++ y ∷ ys)) (omega arith) in
    rw (place, within) refl

-- a text without zeros, and a zero behind it
pub text_reads : (name rest : List ℕ) → ¬ Contains name 0 → text_at (name ++ 0 ∷ rest) 0 ≡ Some name
unfolding text_at
text_reads name rest free =
    let zero_at : position (λ byte. byte == 0) (name ++ 0 ∷ rest) ≡ Some (length name) =
    position_at (λ byte. byte == 0) name rest 0 (λ k h. ne_eqb (get_or name k 0) 0 (λ e. free (k, h, e))) refl in
    rw zero_at (ap Some (take_at name (0 ∷ rest) (length name) refl))
