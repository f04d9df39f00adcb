-- The metadata lies in the file, and each stream in the metadata.
use Rattle.std.proofs.Common.{◌≡◌, ℕ, zero, suc, ◌+◌, ◌≤◌, Bool, true, false, cond, List, [], ◌∷◌, length, take, Option, Some, None, Ok, refl, subst, arith}
use Rattle.std.specs.Prelude.{nat_le, option_map, codes}
use Rattle.std.specs.List.{find}
use Rattle.std.specs.Option.{ok_or}
use Rattle.std.specs.Str.{bytes_eq}
use Rattle.std.proofs.lemmas.Bool.{leb-true, and_parts, cond_both}
use Rattle.std.proofs.lemmas.List.{length-take-le, take-take}
use Rattle.byte_view.specs.Numbers.{le}
use Rattle.byte_view.specs.Reading.{field_where}
use Rattle.byte_view.specs.Parts as parts
use Rattle.byte_view.specs.Headers.{Section, Headers, front, holds_range, raw_place, file_place, sections_of, cli_header_place, metadata_place, headers}
use Rattle.byte_view.specs.Streams.{Range, Streams, Stream, root, stream_name, stream_at, first_of, with_stream, streams_after, streams}
use Rattle.byte_view.specs.Layout.{layout}
use Rattle.byte_view.specs.Laws.{TablesLieInMetadata}
use Rattle.byte_view.proofs.Reading.{bind_then, same_read, field_where_ok, ok_or_ok}
use Rattle.byte_view.proofs.Tables.{tables_lie_apart}
use Rattle.byte_view.proofs.Sound.{accepted}

chosen_place : (size rva len at : ℕ) (section : Section) (rest : Option Section) (holds : Bool) → (holds ≡ true → raw_place rva section + len ≤ size) → (option_map (raw_place rva) rest ≡ Some at → at + len ≤ size) → option_map (raw_place rva) (cond holds (Some section) rest) ≡ Some at → at + len ≤ size
chosen_place size rva len at section rest true here later e =
    let same : raw_place rva section ≡ at = cc in
    rw (← same) (here refl)
chosen_place size rva len at section rest false here later e = later e

-- a range of addresses lies in the file where its section says
pub file_place_within : (sections : List Section) (size rva len at : ℕ) → file_place sections size rva len ≡ Some at → at + len ≤ size
unfolding file_place holds_range
file_place_within [] size rva len at e = absurd (cc)
file_place_within (section ∷ sections) size rva len at e =
    chosen_place size rva len at section (find (holds_range size rva len) sections) (holds_range size rva len section)
    (λ holds. leb-true _ size ((and_parts _ (nat_le (raw_place rva section + len) size) holds).1))
    (file_place_within sections size rva len at)
    e

-- the metadata of a file whose headers are read lies in the file
pub metadata_within : (bytes : List ℕ) (h : Headers) → headers bytes ≡ Ok h → h.meta_at + h.meta_size ≤ length bytes
unfolding headers metadata_place
metadata_within bytes h e =
    bind_then (front bytes) _ h e (λ f _ e4.
    bind_then (sections_of bytes f.signature f.count f.table) _ h e4 (λ sections _ e5.
    bind_then (cli_header_place bytes sections f.directory) _ h e5 (λ cli_at _ e6.
    bind_then (metadata_place bytes sections cli_at) _ h e6 (λ meta_at place e7.
    let lies : meta_at + le bytes (cli_at + 12) 4 ≤ length bytes =
    file_place_within sections (length bytes) (le bytes (cli_at + 8) 4) (le bytes (cli_at + 12) 4) meta_at (ok_or_ok _ (parts.metadata_root, cli_at + 8) meta_at place) in
    subst (λ (h : Headers). h.meta_at + h.meta_size ≤ length bytes) (same_read _ h e7) lies))))

-- a stream's range, in metadata from a place up to an end
abbrev pub LiesIn : ℕ → ℕ → Option Range → Type 0
LiesIn at end None = Unit {0}
LiesIn at end (Some range) = (at ≤ range.start) × (range.start ≤ range.end) × (range.end ≤ end)

pub record AllLieIn (at end : ℕ) (s : Streams) : Type 0 where
  pub tables : LiesIn at end s.tables
  pub strings : LiesIn at end s.strings
  pub user_strings : LiesIn at end s.user_strings
  pub guids : LiesIn at end s.guids
  pub blobs : LiesIn at end s.blobs

first_lies : (at end : ℕ) (first : Option Range) (range : Range) → LiesIn at end first → LiesIn at end (Some range) → LiesIn at end (first_of first range)
first_lies at end None range before here = here
first_lies at end (Some first) range before here = before

-- where a stream's range lies, and its header
pub stream_lies : (image : List ℕ) (at place : ℕ) (x : Stream) → stream_at image at place ≡ Ok x → LiesIn at (length image) (Some x.range) × (place ≤ x.next)
unfolding stream_at
stream_lies image at place x e =
    bind_then (field_where (λ offset. nat_le (at + offset) (length image)) parts.streams image place 4) _ x e (λ offset _ e1.
    bind_then (field_where (λ size. nat_le (at + offset + size) (length image)) parts.streams image (place + 4) 4) _ x e1 (λ size size_read e2.
    bind_then (stream_name image (place + 8)) _ x e2 (λ name _ e3.
    let passes = field_where_ok (λ size. nat_le (at + offset + size) (length image)) parts.streams image (place + 4) 4 size size_read in
    let fits : at + offset + size ≤ length image = leb-true (at + offset + size) (length image) passes.2 in
    subst (λ (x : Stream). LiesIn at (length image) (Some x.range) × (place ≤ x.next)) (same_read _ x e3) ((omega arith, omega arith, fits), omega arith))))

with_stream_lies : (at end : ℕ) (s : Streams) (x : Stream) → AllLieIn at end s → LiesIn at end (Some x.range) → AllLieIn at end (with_stream s x)
unfolding with_stream
with_stream_lies at end s x before here =
    cond_both (bytes_eq x.name (codes "#~")) _ _ (AllLieIn at end) (λ _. record { tables = first_lies at end s.tables x.range before.tables here; strings = before.strings; user_strings = before.user_strings; guids = before.guids; blobs = before.blobs }) (λ _.
    cond_both (bytes_eq x.name (codes "#Strings")) _ _ (AllLieIn at end) (λ _. record { tables = before.tables; strings = first_lies at end s.strings x.range before.strings here; user_strings = before.user_strings; guids = before.guids; blobs = before.blobs }) (λ _.
    cond_both (bytes_eq x.name (codes "#US")) _ _ (AllLieIn at end) (λ _. record { tables = before.tables; strings = before.strings; user_strings = first_lies at end s.user_strings x.range before.user_strings here; guids = before.guids; blobs = before.blobs }) (λ _.
    cond_both (bytes_eq x.name (codes "#GUID")) _ _ (AllLieIn at end) (λ _. record { tables = before.tables; strings = before.strings; user_strings = before.user_strings; guids = first_lies at end s.guids x.range before.guids here; blobs = before.blobs }) (λ _.
    cond_both (bytes_eq x.name (codes "#Blob")) _ _ (AllLieIn at end) (λ _. record { tables = before.tables; strings = before.strings; user_strings = before.user_strings; guids = before.guids; blobs = first_lies at end s.blobs x.range before.blobs here }) (λ _. before)))))

-- the streams of the first headers lie in the metadata, and the next header after the first one
pub streams_after_lie : (image : List ℕ) (at first n : ℕ) (x : Streams × ℕ) → streams_after image at first n ≡ Ok x → AllLieIn at (length image) x.0 × (first ≤ x.1)
unfolding streams_after
streams_after_lie image at first zero x e =
    subst (λ (x : Streams × ℕ). AllLieIn at (length image) x.0 × (first ≤ x.1)) (same_read _ x e) (record { tables = tt; strings = tt; user_strings = tt; guids = tt; blobs = tt }, omega arith)
streams_after_lie image at first (suc n) x e =
    bind_then (streams_after image at first n) _ x e (λ before before_read e1.
    bind_then (stream_at image at before.1) _ x e1 (λ stream stream_read e2.
    let earlier = streams_after_lie image at first n before before_read in
    let here = stream_lies image at before.1 stream stream_read in
    subst (λ (x : Streams × ℕ). AllLieIn at (length image) x.0 × (first ≤ x.1)) (same_read _ x e2) (with_stream_lies at (length image) before.0 stream earlier.0 here.0, omega arith)))

some_lies : (at end : ℕ) (o : Option Range) (range : Range) → o ≡ Some range → LiesIn at end o → LiesIn at end (Some range)
some_lies at end o range e h = subst (LiesIn at end) e h

-- `#~` and all streams lie in the metadata
pub streams_lie : (image : List ℕ) (at : ℕ) (x : Range × Streams) → streams image at ≡ Ok x → LiesIn at (length image) (Some x.0) × AllLieIn at (length image) x.1
unfolding streams
streams_lie image at x e =
    bind_then (root image at) _ x e (λ r _ e1.
    bind_then (streams_after image at r.1 r.0) _ x e1 (λ all all_read e2.
    bind_then (ok_or all.0.tables (parts.streams, all.1)) _ x e2 (λ tables found e3.
    let lie = streams_after_lie image at r.1 r.0 all all_read in
    let there = some_lies at (length image) all.0.tables tables (ok_or_ok all.0.tables (parts.streams, all.1) tables found) lie.0.tables in
    subst (λ (x : Range × Streams). LiesIn at (length image) (Some x.0) × AllLieIn at (length image) x.1) (same_read _ x e3) (there, lie.0))))

pub tables_lie_in_metadata : TablesLieInMetadata
tables_lie_in_metadata bytes m e =
    let a = accepted bytes m e in
    let h : Headers = a.headers_of in
    let in_file : h.meta_at + h.meta_size ≤ length bytes = metadata_within bytes h a.read in
    let size : length (take (h.meta_at + h.meta_size) bytes) ≡ h.meta_at + h.meta_size = length-take-le (h.meta_at + h.meta_size) bytes in_file in
    let lies = (streams_lie (take (h.meta_at + h.meta_size) bytes) h.meta_at a.found a.streams_read).0 in
    let ends : a.found.0.end ≤ h.meta_at + h.meta_size = omega (arith, lies.2, size) in
    let cut : take a.found.0.end (take (h.meta_at + h.meta_size) bytes) ≡ take a.found.0.end bytes = take-take a.found.0.end (h.meta_at + h.meta_size) bytes ends in
    let laid : layout (take a.found.0.end bytes) a.found.0.start ≡ Ok m.layout = rw cut at a.laid in
    record {
      headers_of = h;
      read = a.read;
      in_file = in_file;
      start = a.found.0.start;
      end = a.found.0.end;
      begins = lies.0;
      ends = ends;
      laid = laid;
      apart = tables_lie_apart (take a.found.0.end bytes) a.found.0.start m.layout laid;
      rows = rw cut at a.rows;
    }
