-- The file of an assembly is read as its plan.
use Rattle.std.proofs.Common.{◌≡◌, ℕ, suc, ◌+◌, ◌-◌, ◌^◌, ◌<◌, ◌≤◌, Bool, true, false, List, [], ◌∷◌, ◌++◌, length, take, drop, map, Result, Ok, refl, sym, ap, ◌∙◌, subst, arith}
use Rattle.std.specs.Prelude.{nat_lt, codes, if◌then◌else◌}
use Rattle.std.specs.List.{range_with_len, sum_by}
use Rattle.std.proofs.Math.Seq.{take-append-add}
use Rattle.std.proofs.lemmas.List.{length-append, length-take-le, length-replicate, append-nil, drop-take}
use Rattle.std.proofs.lemmas.List.Sums.{sum_by-cons}
use Rattle.std.proofs.lemmas.List.Concat.{length-flat_map}
use Rattle.byte_view.specs.Reading.{Broken, ◌>>=◌}
use Rattle.byte_view.specs.Headers.{headers}
use Rattle.byte_view.specs.Streams.{streams}
use Rattle.byte_view.specs.Layout.{Layout, layout}
use Rattle.byte_view.specs.Metadata.{Metadata}
use Rattle.byte_view.specs.Cells.{check_cells}
use Rattle.byte_view.specs.Assembly.{metadata_in, metadata, image}
use Rattle.byte_view.proofs.Reading.{bind_read}
use Rattle.image_kit.specs.declared.assembly_plan.MethodBody.{MethodBody}
use Rattle.image_kit.specs.declared.assembly_plan.AssemblyPlan.{AssemblyPlan}
use Rattle.image_kit.specs.LibraryFile.{u32}
use Rattle.image_kit.specs.AssemblyFile.{pieces, padding, padded, padded_size, zeros, row_counts, heap_sizes, bodies_rva, bodies_bytes, bodies_size, table_bytes, count_bytes, tables_header, tables_stream, tables_size, metadata_root, stream_header, stream_headers, strings_offset, user_offset, guids_offset, blobs_offset, guids, heaps_bytes, metadata_place, metadata_size, section_size, raw_size, assembly_end, pe_headers, cli_header, metadata_bytes, assembly_file}
use Rattle.image_kit.specs.AssemblyReads.{all_below, Fits, AssembliesReadBack, planned_headers, planned_metadata, written_rows}
use Rattle.image_kit.proofs.Stands.{Stands, stands_front, stands_back, range_stands}
use Rattle.image_kit.proofs.AssemblyPadded.{length-padded}
use Rattle.image_kit.proofs.AssemblyBodies.{rows_read, body_reads}
use Rattle.image_kit.proofs.AssemblyHead.{length-pe_headers, length-cli_header, pe_numbers, cli_numbers, headers_read}
use Rattle.image_kit.proofs.AssemblyStreams.{length-metadata_root, root_reads, free_of, stream_reads, all_streams, streams_read, five_stand}
use Rattle.image_kit.proofs.AssemblyLayout.{length-tables_header, length-all_counts, layout_from, layout_reads, table_start_from}
use Rattle.image_kit.proofs.AssemblyRows.{tables_before, tables_read}
use Rattle.image_kit.proofs.AssemblyFits.{rows_fit, counts_known, cells_pass}

-- what stands in a file stands in its front, up to a place behind it
stands_take : (bytes : List ℕ) (at n : ℕ) (piece : List ℕ) → Stands bytes at piece → at + length piece ≤ n → Stands (take n bytes) at piece
stands_take bytes at n piece s h =
    let r : ℕ = n - at - length piece in
    let whole : n ≡ at + (length piece + r) = omega arith in
    record {
      rest = take r s.rest;
      from = ap (λ m. drop at (take m bytes)) whole ∙ drop-take at (length piece + r) bytes ∙ ap (take (length piece + r)) s.from ∙ take-append-add piece s.rest r;
    }

moved : (file piece : List ℕ) (from to : ℕ) → from ≡ to → Stands file from piece → Stands file to piece
moved file piece from to e s = subst (λ (n : ℕ). Stands file n piece) e s

bodies_sizes : (bodies : List MethodBody) → sum_by (λ (body : MethodBody). length (padded body.bytes)) bodies ≡ bodies_size bodies
bodies_sizes [] = refl
bodies_sizes (body ∷ more) = (let here = length-padded body.bytes in let rest = bodies_sizes more in omega (arith, sum_by-cons (λ (body : MethodBody). length (padded body.bytes)) body more, sum_by-cons (λ (body : MethodBody). padded_size body.bytes) body more))

length-bodies : (bodies : List MethodBody) → length (bodies_bytes bodies) ≡ bodies_size bodies
unfolding bodies_bytes
length-bodies bodies = length-flat_map (λ (body : MethodBody). padded body.bytes) bodies ∙ bodies_sizes bodies

length-tables : (plan : AssemblyPlan) → length (tables_stream plan) ≡ tables_size plan
unfolding tables_stream
length-tables plan =
    let header : List ℕ = tables_header (heap_sizes plan) in
    let counts : List ℕ = pieces (count_bytes (row_counts plan)) 45 in
    let tables : List ℕ = pieces (table_bytes plan) 45 in
    let a = length-append (header ++ counts) tables in
    let b = length-append header counts in
    let c = length-tables_header (heap_sizes plan) in
    let d = length-all_counts (row_counts plan) in
    let e = tables_before plan 0 45 (omega arith) in
    omega arith

length-stream_headers : (plan : AssemblyPlan) → length (stream_headers plan) ≡ 76
unfolding stream_headers stream_header u32
length-stream_headers plan = refl

length-heaps : (plan : AssemblyPlan) → length (heaps_bytes plan) ≡ padded_size plan.strings + padded_size plan.user + 16 + padded_size plan.blobs
unfolding heaps_bytes
length-heaps plan =
    let a = length-append (padded plan.strings ++ padded plan.user ++ guids) (padded plan.blobs) in
    let b = length-append (padded plan.strings ++ padded plan.user) guids in
    let c = length-append (padded plan.strings) (padded plan.user) in
    let d = length-padded plan.strings in
    let e = length-padded plan.user in
    let f = length-padded plan.blobs in
    omega arith

length-metadata : (plan : AssemblyPlan) → length (metadata_bytes plan) ≡ metadata_size plan
unfolding metadata_bytes
length-metadata plan =
    let gap : List ℕ = zeros (padding 4 (tables_size plan)) in
    let a = length-append (metadata_root ++ stream_headers plan ++ tables_stream plan ++ gap) (heaps_bytes plan) in
    let b = length-append (metadata_root ++ stream_headers plan ++ tables_stream plan) gap in
    let c = length-append (metadata_root ++ stream_headers plan) (tables_stream plan) in
    let d = length-append metadata_root (stream_headers plan) in
    let e = length-metadata_root in
    let f = length-stream_headers plan in
    let g = length-tables plan in
    let h = length-heaps plan in
    let i : length gap ≡ padding 4 (tables_size plan) = length-replicate (padding 4 (tables_size plan)) 0 in
    omega arith

header_size : (offset size : ℕ) (name : List ℕ) (n : ℕ) → length name ≡ n → length (stream_header offset size name) ≡ 8 + n
unfolding stream_header u32
header_size offset size name n e = ap (λ m. suc (suc (suc (suc (suc (suc (suc (suc m)))))))) e ∙ (omega arith)

-- where the parts of a file stand
pub record PartsStand (plan : AssemblyPlan) (file : List ℕ) : Type 0 where
  pub size : length file ≡ assembly_end plan
  pub headers_at : Stands file 0 (pe_headers (section_size plan) (raw_size plan))
  pub cli_at : Stands file 512 (cli_header (bodies_rva + bodies_size plan.bodies) (metadata_size plan) plan.entry)
  pub bodies_at : Stands file 584 (bodies_bytes plan.bodies)
  pub metadata_at : Stands file (metadata_place plan) (metadata_bytes plan)

pub parts_stand : (plan : AssemblyPlan) → PartsStand plan (assembly_file plan)
unfolding assembly_file
parts_stand plan =
    let a : List ℕ = pe_headers (section_size plan) (raw_size plan) in
    let b : List ℕ = cli_header (bodies_rva + bodies_size plan.bodies) (metadata_size plan) plan.entry in
    let c : List ℕ = bodies_bytes plan.bodies in
    let d : List ℕ = metadata_bytes plan in
    let e : List ℕ = zeros (padding 512 (section_size plan)) in
    let file : List ℕ = a ++ b ++ c ++ d ++ e in
    let s5 : Stands file 0 file = record { rest = []; from = sym (append-nil file) } in
    let s4 = stands_front file 0 (a ++ b ++ c ++ d) e s5 in
    let s3 = stands_front file 0 (a ++ b ++ c) d s4 in
    let s2 = stands_front file 0 (a ++ b) c s3 in
    let la : length a ≡ 512 = length-pe_headers (section_size plan) (raw_size plan) in
    let lb : length b ≡ 72 = length-cli_header (bodies_rva + bodies_size plan.bodies) (metadata_size plan) plan.entry in
    let lc : length c ≡ bodies_size plan.bodies = length-bodies plan.bodies in
    let ld : length d ≡ metadata_size plan = length-metadata plan in
    let le : length e ≡ padding 512 (section_size plan) = length-replicate (padding 512 (section_size plan)) 0 in
    let lab : length (a ++ b) ≡ length a + length b = length-append a b in
    let labc : length (a ++ b ++ c) ≡ length (a ++ b) + length c = length-append (a ++ b) c in
    let labcd : length (a ++ b ++ c ++ d) ≡ length (a ++ b ++ c) + length d = length-append (a ++ b ++ c) d in
    let all : length file ≡ length (a ++ b ++ c ++ d) + length e = length-append (a ++ b ++ c ++ d) e in
    record {
      size = omega arith;
      headers_at = stands_front file 0 a b s2;
      cli_at = stands_back file 0 512 a b s2 (omega arith);
      bodies_at = stands_back file 0 584 (a ++ b) c s3 (omega arith);
      metadata_at = stands_back file 0 (metadata_place plan) (a ++ b ++ c) d s4 (omega arith);
    }

-- where the parts of the metadata stand in a file
pub record MetadataStands (plan : AssemblyPlan) (file : List ℕ) (at : ℕ) : Type 0 where
  pub root : Stands file at metadata_root
  pub headers_at : Stands file (at + 32) (stream_headers plan)
  pub tables : Stands file (at + 108) (tables_stream plan)
  pub strings : Stands file (at + strings_offset plan) plan.strings
  pub user : Stands file (at + user_offset plan) plan.user
  pub guids_at : Stands file (at + guids_offset plan) guids
  pub blobs : Stands file (at + blobs_offset plan) plan.blobs

heaps_stand : (plan : AssemblyPlan) (file : List ℕ) (at strings user guids_at blobs : ℕ) → Stands file at (heaps_bytes plan) → at ≡ strings → strings + padded_size plan.strings ≡ user → user + padded_size plan.user ≡ guids_at → guids_at + 16 ≡ blobs
    → Stands file strings plan.strings × Stands file user plan.user × Stands file guids_at guids × Stands file blobs plan.blobs
unfolding heaps_bytes
heaps_stand plan file at strings user guids_at blobs s e1 e2 e3 e4 =
    let a : List ℕ = padded plan.strings in
    let b : List ℕ = padded plan.user in
    let d : List ℕ = padded plan.blobs in
    let s3 = stands_front file at (a ++ b ++ guids) d s in
    let s2 = stands_front file at (a ++ b) guids s3 in
    let la : length a ≡ padded_size plan.strings = length-padded plan.strings in
    let lb : length b ≡ padded_size plan.user = length-padded plan.user in
    let lab : length (a ++ b) ≡ length a + length b = length-append a b in
    let labc : length (a ++ b ++ guids) ≡ length (a ++ b) + 16 = length-append (a ++ b) guids in
    let first : Stands file at a = stands_front file at a b s2 in
    let second : Stands file user b = stands_back file at user a b s2 (omega arith) in
    let third : Stands file guids_at guids = stands_back file at guids_at (a ++ b) guids s3 (omega arith) in
    let fourth : Stands file blobs d = stands_back file at blobs (a ++ b ++ guids) d s (omega arith) in (
      moved file plan.strings at strings e1 (stands_front file at plan.strings (zeros (padding 4 (length plan.strings))) first),
      stands_front file user plan.user (zeros (padding 4 (length plan.user))) second,
      third,
      stands_front file blobs plan.blobs (zeros (padding 4 (length plan.blobs))) fourth,
    )

metadata_stands : (plan : AssemblyPlan) (file : List ℕ) (at : ℕ) → Stands file at (metadata_bytes plan) → MetadataStands plan file at
unfolding metadata_bytes
metadata_stands plan file at s =
    let gap : List ℕ = zeros (padding 4 (tables_size plan)) in
    let a : List ℕ = metadata_root in
    let b : List ℕ = stream_headers plan in
    let c : List ℕ = tables_stream plan in
    let s3 = stands_front file at (a ++ b ++ c ++ gap) (heaps_bytes plan) s in
    let s2 = stands_front file at (a ++ b ++ c) gap s3 in
    let s1 = stands_front file at (a ++ b) c s2 in
    let la : length a ≡ 32 = length-metadata_root in
    let lb : length b ≡ 76 = length-stream_headers plan in
    let lc : length c ≡ tables_size plan = length-tables plan in
    let lg : length gap ≡ padding 4 (tables_size plan) = length-replicate (padding 4 (tables_size plan)) 0 in
    let lab : length (a ++ b) ≡ length a + length b = length-append a b in
    let labc : length (a ++ b ++ c) ≡ length (a ++ b) + length c = length-append (a ++ b) c in
    let labcd : length (a ++ b ++ c ++ gap) ≡ length (a ++ b ++ c) + length gap = length-append (a ++ b ++ c) gap in
    let heaps : Stands file (at + strings_offset plan) (heaps_bytes plan) = stands_back file at (at + strings_offset plan) (a ++ b ++ c ++ gap) (heaps_bytes plan) s (omega arith) in
    let parts = heaps_stand plan file (at + strings_offset plan) (at + strings_offset plan) (at + user_offset plan) (at + guids_offset plan) (at + blobs_offset plan) heaps refl (omega arith) (omega arith) (omega arith) in
    record {
      root = stands_front file at a b s1;
      headers_at = stands_back file at (at + 32) a b s1 (omega arith);
      tables = stands_back file at (at + 108) (a ++ b) c s2 (omega arith);
      strings = parts.0;
      user = parts.1;
      guids_at = parts.2;
      blobs = parts.3;
    }

-- ---- the metadata

-- the streams of the metadata in the front of a file
streams_is : (plan : AssemblyPlan) (front : List ℕ) (at : ℕ) → MetadataStands plan front at → length front ≡ at + metadata_size plan → metadata_size plan < 2 ^ 32
    → streams front at ≡ Ok (record { start = at + 108; end = at + 108 + tables_size plan }, all_streams at 108 (tables_size plan) (strings_offset plan) (length plan.strings) (user_offset plan) (length plan.user) (guids_offset plan) 16 (blobs_offset plan) (length plan.blobs))
unfolding stream_headers all_below
streams_is plan front at m long small =
    let h1 : List ℕ = stream_header 108 (tables_size plan) (codes "#~" ++ zeros 2) in
    let h2 : List ℕ = stream_header (strings_offset plan) (length plan.strings) (codes "#Strings" ++ zeros 4) in
    let h3 : List ℕ = stream_header (user_offset plan) (length plan.user) (codes "#US" ++ zeros 1) in
    let h4 : List ℕ = stream_header (guids_offset plan) 16 (codes "#GUID" ++ zeros 3) in
    let h5 : List ℕ = stream_header (blobs_offset plan) (length plan.blobs) (codes "#Blob" ++ zeros 3) in
    let five = five_stand front (at + 32) h1 h2 h3 h4 h5 m.headers_at in
    let first : ℕ = at + 16 + 12 + 4 in
    let l1 : length h1 ≡ 12 = header_size 108 (tables_size plan) (codes "#~" ++ zeros 2) 4 refl in
    let l2 : length h2 ≡ 20 = header_size (strings_offset plan) (length plan.strings) (codes "#Strings" ++ zeros 4) 12 refl in
    let l3 : length h3 ≡ 12 = header_size (user_offset plan) (length plan.user) (codes "#US" ++ zeros 1) 4 refl in
    let l4 : length h4 ≡ 16 = header_size (guids_offset plan) 16 (codes "#GUID" ++ zeros 3) 8 refl in
    let s1 : Stands front first h1 = moved front h1 (at + 32) first (omega arith) five.first in
    let s2 : Stands front (first + 8 + 4) h2 = moved front h2 (at + 32 + length h1) (first + 8 + 4) (omega arith) five.second in
    let s3 : Stands front (first + 8 + 4 + 8 + 12) h3 = moved front h3 (at + 32 + length h1 + length h2) (first + 8 + 4 + 8 + 12) (omega arith) five.third in
    let s4 : Stands front (first + 8 + 4 + 8 + 12 + 8 + 4) h4 = moved front h4 (at + 32 + length h1 + length h2 + length h3) (first + 8 + 4 + 8 + 12 + 8 + 4) (omega arith) five.fourth in
    let s5 : Stands front (first + 8 + 4 + 8 + 12 + 8 + 4 + 8 + 8) h5 = moved front h5 (at + 32 + length h1 + length h2 + length h3 + length h4) (first + 8 + 4 + 8 + 12 + 8 + 4 + 8 + 8) (omega arith) five.fifth in
    streams_read front at first 108 (tables_size plan) (strings_offset plan) (length plan.strings) (user_offset plan) (length plan.user) (guids_offset plan) 16 (blobs_offset plan) (length plan.blobs)
    (root_reads front at m.root (omega arith))
    (stream_reads front at first 108 (tables_size plan) 1 (codes "#~") s1 (omega arith) (omega arith) (omega arith) (free_of (codes "#~") refl) refl (omega arith))
    (stream_reads front at (first + 8 + 4) (strings_offset plan) (length plan.strings) 3 (codes "#Strings") s2 (omega arith) (omega arith) (omega arith) (free_of (codes "#Strings") refl) refl (omega arith))
    (stream_reads front at (first + 8 + 4 + 8 + 12) (user_offset plan) (length plan.user) 0 (codes "#US") s3 (omega arith) (omega arith) (omega arith) (free_of (codes "#US") refl) refl (omega arith))
    (stream_reads front at (first + 8 + 4 + 8 + 12 + 8 + 4) (guids_offset plan) 16 2 (codes "#GUID") s4 (omega arith) (omega arith) (omega arith) (free_of (codes "#GUID") refl) refl (omega arith))
    (stream_reads front at (first + 8 + 4 + 8 + 12 + 8 + 4 + 8 + 8) (blobs_offset plan) (length plan.blobs) 2 (codes "#Blob") s5 (omega arith) (omega arith) (omega arith) (free_of (codes "#Blob") refl) refl (omega arith))

-- the layout and the rows of the stream of the tables
tables_parts : (plan : AssemblyPlan) (stream : List ℕ) (start : ℕ) → Stands stream start (tables_stream plan) → Stands stream start (tables_header (heap_sizes plan) ++ pieces (count_bytes (row_counts plan)) 45) × Stands stream (start + 176) (pieces (table_bytes plan) 45)
unfolding tables_stream
tables_parts plan stream start s =
    let header : List ℕ = tables_header (heap_sizes plan) in
    let counts : List ℕ = pieces (count_bytes (row_counts plan)) 45 in
    let tables : List ℕ = pieces (table_bytes plan) 45 in
    let a = length-tables_header (heap_sizes plan) in
    let b = length-all_counts (row_counts plan) in
    let both = length-append header counts in
    (stands_front stream start (header ++ counts) tables s, stands_back stream start (start + 176) (header ++ counts) tables s (omega arith))

heap_sizes_small : (plan : AssemblyPlan) → heap_sizes plan < 256
heap_sizes_small plan = by (nat_lt (length plan.strings) 65536) (nat_lt (length plan.blobs) 65536)
  where
    by : (a b : Bool) → (if a then 0 else 1) + (if b then 0 else 4) < 256
    by true true = omega arith
    by true false = omega arith
    by false true = omega arith
    by false false = omega arith

layout_is : (plan : AssemblyPlan) (stream : List ℕ) (start : ℕ) → Fits plan → Stands stream start (tables_stream plan) → length stream ≡ start + tables_size plan → layout stream start ≡ Ok (layout_from start (heap_sizes plan) (row_counts plan))
layout_is plan stream start fits s long =
    let parts = tables_parts plan stream start s in
    let from = table_start_from start (heap_sizes plan) (row_counts plan) 45 in
    let low = tables_before plan 0 45 (omega arith) in
    layout_reads stream start (heap_sizes plan) (row_counts plan) parts.0 (heap_sizes_small plan) refl (counts_known plan fits) (omega arith) (omega arith)

-- metadata of some heaps and rows, with its cells checked
abbrev made : Layout → List ℕ → List ℕ → List ℕ → List ℕ → List (List (List ℕ)) → Result Metadata Broken
made l strings user guids blobs tables =
    let m : Metadata = record { strings = strings; user_strings = user; guids = guids; blobs = blobs; layout = l; tables = tables } in
    check_cells l m >>= λ _. Ok m

made_same : (l : Layout) (a b c d a1 b1 c1 d1 : List ℕ) (t t1 : List (List (List ℕ))) → a ≡ a1 → b ≡ b1 → c ≡ c1 → d ≡ d1 → t ≡ t1 → made l a b c d t ≡ made l a1 b1 c1 d1 t1
made_same l a b c d a1 b1 c1 d1 t t1 ea eb ec ed et = rw (ea, eb, ec, ed, et) refl

metadata_is : (plan : AssemblyPlan) (front : List ℕ) → Fits plan → MetadataStands plan front (metadata_place plan) → length front ≡ metadata_place plan + metadata_size plan → metadata_in front (metadata_place plan) ≡ Ok (planned_metadata plan)
unfolding metadata_in
metadata_is plan front fits m long =
    let at : ℕ = metadata_place plan in
    let start : ℕ = at + 108 in
    let end : ℕ = at + 108 + tables_size plan in
    let limit = fits.small in
    let stream : List ℕ = take end front in
    let cut : length stream ≡ end = length-take-le end front (omega arith) in
    let tables_long = length-tables plan in
    let tables_at : Stands stream start (tables_stream plan) = stands_take front start end (tables_stream plan) m.tables (omega arith) in
    let streams_read_as = streams_is plan front at m long (omega arith) in
    let laid = layout_is plan stream start fits tables_at cut in
    let rows = tables_read plan stream start (tables_parts plan stream start tables_at).1 (rows_fit plan fits) in
    let strings = range_stands front (at + strings_offset plan) plan.strings m.strings in
    let user = range_stands front (at + user_offset plan) plan.user m.user in
    let guids_there = range_stands front (at + guids_offset plan) guids m.guids_at in
    let blobs = range_stands front (at + blobs_offset plan) plan.blobs m.blobs in
    let l : Layout = layout_from start (heap_sizes plan) (row_counts plan) in
    let cells = cells_pass plan l fits in
    bind_read (streams front at) _ _ streams_read_as
    ∙ bind_read (layout stream start) _ l laid
    ∙ made_same l _ _ _ _ plan.strings plan.user guids plan.blobs _ (map (written_rows plan) (range_with_len 0 45)) strings user guids_there blobs rows
    ∙ bind_read (check_cells l (planned_metadata plan)) _ cells.0 cells.1

-- the headers and the metadata of a file
pub image_is : (plan : AssemblyPlan) (file : List ℕ) → Fits plan → PartsStand plan file → image file ≡ Ok (record { headers = planned_headers plan; metadata = planned_metadata plan })
unfolding image
image_is plan file fits p =
    let at : ℕ = metadata_place plan in
    let size : ℕ = metadata_size plan in
    let limit = fits.small in
    let long = p.size in
    let pe = pe_numbers file (section_size plan) (raw_size plan) p.headers_at (omega arith) in
    let rva : bodies_rva + bodies_size plan.bodies ≡ at + 0x2000 - 512 = omega arith in
    let cli_at : Stands file 512 (cli_header (at + 0x2000 - 512) size plan.entry) = subst (λ (n : ℕ). Stands file 512 (cli_header n size plan.entry)) rva p.cli_at in
    let cli = cli_numbers file (at + 0x2000 - 512) size plan.entry cli_at (omega arith) (omega arith) fits.entry in
    let head = headers_read file (raw_size plan) size plan.entry at pe cli (omega arith) (omega arith) (omega arith) in
    let front : List ℕ = take (at + size) file in
    let cut : length front ≡ at + size = length-take-le (at + size) file (omega arith) in
    let whole = length-metadata plan in
    let there : Stands front at (metadata_bytes plan) = stands_take file at (at + size) (metadata_bytes plan) p.metadata_at (omega arith) in
    bind_read (headers file) _ _ head
    ∙ bind_read (metadata file at size) _ (planned_metadata plan) (metadata_is plan front fits (metadata_stands plan front at there) cut)

pub assemblies_read_back : AssembliesReadBack
assemblies_read_back plan fits =
    let p = parts_stand plan in
    record {
      size = p.size;
      image_is = image_is plan (assembly_file plan) fits p;
      rows = rows_read plan fits;
      bodies = body_reads plan (assembly_file plan) fits p.size p.bodies_at;
    }
