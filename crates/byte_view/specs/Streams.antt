-- The metadata root and its streams (ECMA-335 II.24.2.1 and II.24.2.2). `image` is the file up to
-- the end of its metadata, which begins at `at`. All places are file offsets.
use Rattle.std.specs.Prelude.{ℕ, zero, suc, ◌+◌, ◌*◌, ◌/◌, ◌&&◌, not, ◌==◌, nat_le, List, [], length, codes, slice_range, Option, Some, None, Result, Ok, if◌then◌else◌}
use Rattle.std.specs.Option.{ok_or}
use Rattle.std.specs.Str.{bytes_eq}
use Rattle.byte_view.specs.Reading.{Broken, ◌>>=◌, must, field, field_where}
use Rattle.byte_view.specs.Heaps.{text_at}
use Rattle.byte_view.specs.Parts as parts

-- a range of the file
pub record Range : Type 0 where
  pub start : ℕ
  pub end : ℕ

-- the streams that are used, where they are there; `tables` is `#~`
pub record Streams : Type 0 where
  pub tables : Option Range
  pub strings : Option Range
  pub user_strings : Option Range
  pub guids : Option Range
  pub blobs : Option Range

abbrev pub no_streams : Streams
no_streams = record {
  tables = None;
  strings = None;
  user_strings = None;
  guids = None;
  blobs = None;
}

-- the number of streams, and where their headers begin: after the version text and the flags
unfoldable pub root : List ℕ → ℕ → Result (ℕ × ℕ) Broken
root image at = do
  _ ← field_where (λ signature. signature == 0x424A5342) parts.metadata_root image at 4
  len ←
      field_where (λ len. nat_le (at + 16 + len) (length image))
      parts.metadata_root image (at + 12) 4
  count ← field parts.metadata_root image (at + 16 + len + 2) 2
  Ok (count, at + 16 + len + 4)

-- a stream's name, its range, and where the next header begins
pub record Stream : Type 0 where
  pub name : List ℕ
  pub range : Range
  pub next : ℕ

-- the end of a name with its zero, padded to a multiple of four bytes
abbrev pub name_end : ℕ → List ℕ → ℕ
name_end place name = place + (length name / 4 + 1) * 4

-- a name, whole with its padding; tables that aren't compressed aren't read
unfoldable pub stream_name : List ℕ → ℕ → Result (List ℕ) Broken
stream_name image place = do
  name ← ok_or (text_at image place) (parts.streams, place)
  _ ←
      must (nat_le (name_end place name) (length image) && not (bytes_eq name (codes "#-")))
      (parts.streams, place)
  Ok name

-- one stream header: the stream's offset in the metadata, its size, its name
unfoldable pub stream_at : List ℕ → ℕ → ℕ → Result Stream Broken
stream_at image at place = do
  offset ← field_where (λ offset. nat_le (at + offset) (length image)) parts.streams image place 4
  size ←
      field_where (λ size. nat_le (at + offset + size) (length image))
      parts.streams image (place + 4) 4
  name ← stream_name image (place + 8)
  Ok (record {
    name = name;
    range = record { start = at + offset; end = at + offset + size };
    next = name_end (place + 8) name;
  })

-- the first stream of a name counts
abbrev pub first_of : Option Range → Range → Option Range
first_of None range = Some range
first_of (Some first) range = Some first

-- the streams with one more; an unknown name is passed over
unfoldable pub with_stream : Streams → Stream → Streams
with_stream s x =
    if bytes_eq x.name (codes "#~") then record s { tables = first_of s.tables x.range }
    else if bytes_eq x.name (codes "#Strings")
    then record s { strings = first_of s.strings x.range }
    else if bytes_eq x.name (codes "#US")
    then record s { user_strings = first_of s.user_strings x.range }
    else if bytes_eq x.name (codes "#GUID") then record s { guids = first_of s.guids x.range }
    else if bytes_eq x.name (codes "#Blob") then record s { blobs = first_of s.blobs x.range }
    else s

-- the streams of the first headers, and where the next one begins
unfoldable pub streams_after : List ℕ → ℕ → ℕ → ℕ → Result (Streams × ℕ) Broken
streams_after image at first zero = Ok (no_streams, first)
streams_after image at first (suc n) = do
  before ← streams_after image at first n
  stream ← stream_at image at before.1
  Ok (with_stream before.0 stream, stream.next)

-- the range of `#~`, which has to be there, and all streams
unfoldable pub streams : List ℕ → ℕ → Result (Range × Streams) Broken
streams image at = do
  root ← root image at
  all ← streams_after image at root.1 root.0
  tables ← ok_or all.0.tables (parts.streams, all.1)
  Ok (tables, all.0)

-- a heap's bytes; a missing heap is empty
abbrev pub heap_of : List ℕ → Option Range → List ℕ
heap_of image None = []
heap_of image (Some range) = slice_range image range.start range.end
