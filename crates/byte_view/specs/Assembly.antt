-- An assembly as heaps and tables, or its first broken part up to its cells: exactly one of the two
-- (ECMA-335 II.22 to II.25).
use Rattle.std.specs.Prelude.{ℕ, ◌+◌, List, take, Result, Ok}
use Rattle.byte_view.specs.Reading.{Broken, ◌>>=◌}
use Rattle.byte_view.specs.Headers.{Headers, headers}
use Rattle.byte_view.specs.Streams.{streams, heap_of}
use Rattle.byte_view.specs.Layout.{header, layout}
use Rattle.byte_view.specs.Metadata.{Metadata, tables_in}
use Rattle.byte_view.specs.Cells.{check_cells}

-- the metadata that lies at a place, in a file that is cut after it
unfoldable pub metadata_in : List ℕ → ℕ → Result Metadata Broken
metadata_in image at = do
  streams ← streams image at
  let stream : List ℕ = take streams.0.end image
  layout ← layout stream streams.0.start
  let m : Metadata = record {
    strings = heap_of image streams.1.strings;
    user_strings = heap_of image streams.1.user_strings;
    guids = heap_of image streams.1.guids;
    blobs = heap_of image streams.1.blobs;
    layout = layout;
    tables = tables_in stream layout;
  }
  _ ← check_cells layout m
  Ok m

-- what is asked of metadata before the rows of its tables are counted: its streams, and the header
-- of `#~`
abbrev pub header_in : List ℕ → ℕ → Result ℕ Broken
header_in image at = do
  streams ← streams image at
  header (take streams.0.end image) streams.0.start

-- the metadata of a file, in a range of it
abbrev pub metadata : List ℕ → ℕ → ℕ → Result Metadata Broken
metadata bytes at size = metadata_in (take (at + size) bytes) at

-- what is read of a file up to its cells: its headers, and the metadata with its layout
pub record Image : Type 0 where
  pub headers : Headers
  pub metadata : Metadata

unfoldable pub image : List ℕ → Result Image Broken
image bytes = do
  headers ← headers bytes
  metadata ← metadata bytes headers.meta_at headers.meta_size
  Ok (record { headers = headers; metadata = metadata })

-- its heaps and tables
unfoldable pub assembly : List ℕ → Result Metadata Broken
assembly bytes = image bytes >>= λ read. Ok read.metadata
