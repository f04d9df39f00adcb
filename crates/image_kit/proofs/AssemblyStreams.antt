-- The metadata root and the streams of a written assembly, as they are read.
use Rattle.std.proofs.Common.{◌≡◌, ℕ, ◌+◌, ◌^◌, ◌<◌, ◌≤◌, true, false, not, List, [], ◌∷◌, ◌++◌, length, get_or, drop, Some, Ok, refl, ap, ◌∙◌, append_assoc, arith}
use Rattle.std.specs.Prelude.{nat_le, ◌==◌, codes}
use Rattle.std.specs.List.{Contains}
use Rattle.std.specs.Str.{bytes_eq}
use Rattle.byteorder.specs.Numbers.{little_number-reads_back}
use Rattle.std.proofs.lemmas.Bool.{le-leb, false≢true}
use Rattle.std.proofs.lemmas.List.{length-append}
use Rattle.byte_view.specs.Numbers.{le}
use Rattle.byte_view.specs.Heaps.{text_at}
use Rattle.byte_view.specs.Streams.{Streams, Stream, root, name_end, stream_name, stream_at, with_stream, streams_after, streams}
use Rattle.image_kit.specs.LibraryFile.{u16, u32}
use Rattle.image_kit.specs.AssemblyFile.{zeros, metadata_root, stream_header}
use Rattle.image_kit.specs.AssemblyReads.{all_below}
use Rattle.image_kit.proofs.Stands.{Stands, stands_front, stands_back, le_inside, text_reads}
use Rattle.image_kit.proofs.PieceLists.{all_below_at}

pub length-metadata_root : length metadata_root ≡ 32
unfolding metadata_root u16 u32
length-metadata_root = refl

-- the number of streams
pub root_reads : (image : List ℕ) (at : ℕ) → Stands image at metadata_root → at + 32 ≤ length image → root image at ≡ Ok (5, at + 16 + 12 + 4)
unfolding root metadata_root u16 u32 le
root_reads image at s h =
    let signature : le image at 4 ≡ 0x424A5342 = le_inside image at 0 at 4 metadata_root s (omega arith) in
    let text : le image (at + 12) 4 ≡ 12 = le_inside image at 12 (at + 12) 4 metadata_root s refl in
    let count : le image (at + 16 + 12 + 2) 2 ≡ 5 = le_inside image at 30 (at + 16 + 12 + 2) 2 metadata_root s (omega arith) in
    let a : nat_le (at + 4) (length image) ≡ true = le-leb (at + 4) (length image) (omega arith) in
    let b : nat_le (at + 12 + 4) (length image) ≡ true = le-leb (at + 12 + 4) (length image) (omega arith) in
    let c : nat_le (at + 16 + 12) (length image) ≡ true = le-leb (at + 16 + 12) (length image) (omega arith) in
    let d : nat_le (at + 16 + 12 + 2 + 2) (length image) ≡ true = le-leb (at + 16 + 12 + 2 + 2) (length image) (omega arith) in
    simp (a, signature, b, text, c, d, count)

-- a name without zeros, by a test
pub free_of : (name : List ℕ) → all_below (λ k. not (get_or name k 0 == 0)) (length name) ≡ true → ¬ Contains name 0
free_of name e found =
    let passes : not (get_or name found.0 0 == 0) ≡ true = all_below_at (λ k. not (get_or name k 0 == 0)) (length name) found.0 e found.1 in
    let zero_there : get_or name found.0 0 ≡ 0 = found.2 in
    false≢true (rw zero_there at passes)

-- a name with zeros behind it
name_reads : (image : List ℕ) (place pad : ℕ) (name : List ℕ) → Stands image place (name ++ 0 ∷ zeros pad) → ¬ Contains name 0 → text_at image place ≡ Some name
unfolding text_at
name_reads image place pad name s free =
    let there : drop place image ≡ name ++ 0 ∷ (zeros pad ++ s.rest) = s.from ∙ append_assoc name (0 ∷ zeros pad) s.rest in
    rw there (text_reads name (zeros pad ++ s.rest) free)

-- the stream of a header
abbrev pub stream_of : ℕ → ℕ → ℕ → ℕ → List ℕ → Stream
stream_of at place offset size name = record {
  name = name;
  range = record { start = at + offset; end = at + offset + size };
  next = name_end (place + 8) name;
}

length-header : (offset size : ℕ) (name : List ℕ) → length (stream_header offset size name) ≡ 8 + length name
unfolding stream_header u32
length-header offset size name = omega arith

header_parts : (image : List ℕ) (place offset size : ℕ) (name : List ℕ) → Stands image place (stream_header offset size name) → Stands image (place + 8) name
unfolding stream_header u32
header_parts image place offset size name s = stands_back image place (place + 8) (u32 offset ++ u32 size) name s refl

pub stream_reads : (image : List ℕ) (at place offset size pad : ℕ) (name : List ℕ) → Stands image place (stream_header offset size (name ++ 0 ∷ zeros pad)) → offset < 2 ^ 32 → size < 2 ^ 32 → at + offset + size ≤ length image → ¬ Contains name 0 → bytes_eq name (codes "#-") ≡ false → name_end (place + 8) name ≤ length image → stream_at image at place ≡ Ok (stream_of at place offset size name)
unfolding stream_at stream_name stream_header u32 le
stream_reads image at place offset size pad name s o z within free plain whole =
    let piece : List ℕ = stream_header offset size (name ++ 0 ∷ zeros pad) in
    let offset_is : le image place 4 ≡ offset = le_inside image place 0 place 4 piece s (omega arith) ∙ little_number-reads_back 4 offset [] o in
    let size_is : le image (place + 4) 4 ≡ size = le_inside image place 4 (place + 4) 4 piece s refl ∙ little_number-reads_back 4 size [] z in
    let text : text_at image (place + 8) ≡ Some name = name_reads image (place + 8) pad name (header_parts image place offset size (name ++ 0 ∷ zeros pad) s) free in
    let a : nat_le (place + 4) (length image) ≡ true = le-leb (place + 4) (length image) (omega arith) in
    let b : nat_le (at + offset) (length image) ≡ true = le-leb (at + offset) (length image) (omega arith) in
    let c : nat_le (place + 4 + 4) (length image) ≡ true = le-leb (place + 4 + 4) (length image) (omega arith) in
    let d : nat_le (at + offset + size) (length image) ≡ true = le-leb (at + offset + size) (length image) within in
    let e : nat_le (name_end (place + 8) name) (length image) ≡ true = le-leb (name_end (place + 8) name) (length image) whole in
    simp (a, offset_is, b, c, size_is, d, text, e, plain)

-- the streams of five headers, which begin at a place
abbrev pub all_streams : ℕ → ℕ → ℕ → ℕ → ℕ → ℕ → ℕ → ℕ → ℕ → ℕ → ℕ → Streams
all_streams at o1 z1 o2 z2 o3 z3 o4 z4 o5 z5 = record {
  tables = Some (record { start = at + o1; end = at + o1 + z1 });
  strings = Some (record { start = at + o2; end = at + o2 + z2 });
  user_strings = Some (record { start = at + o3; end = at + o3 + z3 });
  guids = Some (record { start = at + o4; end = at + o4 + z4 });
  blobs = Some (record { start = at + o5; end = at + o5 + z5 });
}

pub streams_read : (image : List ℕ) (at first o1 z1 o2 z2 o3 z3 o4 z4 o5 z5 : ℕ) → root image at ≡ Ok (5, first)
    → stream_at image at first ≡ Ok (stream_of at first o1 z1 (codes "#~"))
    → stream_at image at (first + 8 + 4) ≡ Ok (stream_of at (first + 8 + 4) o2 z2 (codes "#Strings"))
    → stream_at image at (first + 8 + 4 + 8 + 12) ≡ Ok (stream_of at (first + 8 + 4 + 8 + 12) o3 z3 (codes "#US"))
    → stream_at image at (first + 8 + 4 + 8 + 12 + 8 + 4) ≡ Ok (stream_of at (first + 8 + 4 + 8 + 12 + 8 + 4) o4 z4 (codes "#GUID"))
    → stream_at image at (first + 8 + 4 + 8 + 12 + 8 + 4 + 8 + 8) ≡ Ok (stream_of at (first + 8 + 4 + 8 + 12 + 8 + 4 + 8 + 8) o5 z5 (codes "#Blob"))
    → streams image at ≡ Ok (record { start = at + o1; end = at + o1 + z1 }, all_streams at o1 z1 o2 z2 o3 z3 o4 z4 o5 z5)
unfolding streams streams_after with_stream
streams_read image at first o1 z1 o2 z2 o3 z3 o4 z4 o5 z5 r s1 s2 s3 s4 s5 = rw (r, s1, s2, s3, s4, s5) refl

-- five headers, one after another
pub record FiveStand (image : List ℕ) (at : ℕ) (h1 h2 h3 h4 h5 : List ℕ) : Type 0 where
  pub first : Stands image at h1
  pub second : Stands image (at + length h1) h2
  pub third : Stands image (at + length h1 + length h2) h3
  pub fourth : Stands image (at + length h1 + length h2 + length h3) h4
  pub fifth : Stands image (at + length h1 + length h2 + length h3 + length h4) h5

pub five_stand : (image : List ℕ) (at : ℕ) (h1 h2 h3 h4 h5 : List ℕ) → Stands image at (h1 ++ h2 ++ h3 ++ h4 ++ h5) → FiveStand image at h1 h2 h3 h4 h5
five_stand image at h1 h2 h3 h4 h5 s =
    let s4 = stands_front image at (h1 ++ h2 ++ h3 ++ h4) h5 s in
    let s3 = stands_front image at (h1 ++ h2 ++ h3) h4 s4 in
    let s2 = stands_front image at (h1 ++ h2) h3 s3 in
    let l2 : length (h1 ++ h2) ≡ length h1 + length h2 = length-append h1 h2 in
    let l3 : length (h1 ++ h2 ++ h3) ≡ length h1 + length h2 + length h3 = length-append (h1 ++ h2) h3 ∙ ap (λ n. n + length h3) l2 in
    let l4 : length (h1 ++ h2 ++ h3 ++ h4) ≡ length h1 + length h2 + length h3 + length h4 = length-append (h1 ++ h2 ++ h3) h4 ∙ ap (λ n. n + length h4) l3 in
    record {
      first = stands_front image at h1 h2 s2;
      second = stands_back image at (at + length h1) h1 h2 s2 refl;
      third = stands_back image at (at + length h1 + length h2) (h1 ++ h2) h3 s3 (omega (arith, l2));
      fourth = stands_back image at (at + length h1 + length h2 + length h3) (h1 ++ h2 ++ h3) h4 s4 (omega (arith, l3));
      fifth = stands_back image at (at + length h1 + length h2 + length h3 + length h4) (h1 ++ h2 ++ h3 ++ h4) h5 s (omega (arith, l4));
    }
