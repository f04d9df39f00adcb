-- What is read at a place or after it depends on the bytes from there on alone.
use Rattle.std.proofs.Common.{◌≡◌, ℕ, zero, suc, ◌+◌, ◌-◌, ◌<◌, ◌≤◌, Bool, List, length, take, drop, map, Option, Some, None, Result, Ok, refl, sym, ap, ◌∙◌, inl, inr, arith}
use Rattle.std.specs.Prelude.{if◌then◌else◌, nat_le, ◌==◌, slice_range, slice_get, slice_index}
use Rattle.std.specs.List.{range_with_len}
use Rattle.std.specs.Option.{ok_or}
use Rattle.byte_view.specs.Columns.{Column, columns, width, table_numbers}
use Rattle.byte_view.specs.Metadata.{cell_place, cell_value, row_numbers, row_at, tables_in}
use Rattle.byte_view.specs.Assembly.{metadata_in, assembly}
use Rattle.byte_view.proofs.Images.{assembly_is}
use Rattle.byte_view.specs.Laws.{LieApart, HeadersAndMetadataDecide}
use Rattle.byte_view.specs.Layout.{header, Layout, is_present, count_place, row_count, start_of, layout}
use Rattle.std.proofs.lemmas.List.{drop-drop, drop-take, length-take-le}
use Rattle.byte_view.specs.Numbers.{le}
use Rattle.byte_view.specs.Reading.{Broken, field, field_where, listed}
use Rattle.byte_view.specs.Parts as parts
use Rattle.byte_view.specs.Heaps.{text_at}
use Rattle.byte_view.specs.Headers.{Headers, headers}
use Rattle.byte_view.specs.Streams.{Range, root, stream_name, stream_at, streams_after, streams, heap_of}
use Rattle.byte_view.proofs.Reading.{read_or_refused, bind_read, bind_err, bind_same, bind_then, same_read, listed_same}
use Rattle.byte_view.proofs.Tables.{tables_lie_apart}
use Rattle.byte_view.proofs.Within.{metadata_within, LiesIn, streams_after_lie, streams_lie}

-- files of one length with the same bytes from a place on
pub record AgreeFrom (at : ℕ) (a b : List ℕ) : Type 0 where
  pub rest : drop at a ≡ drop at b
  pub size : length a ≡ length b

-- the same from each later place
pub agree_later : (at later : ℕ) (a b : List ℕ) → AgreeFrom at a b → at ≤ later → AgreeFrom later a b
agree_later at later a b same h =
    let place : later ≡ at + (later - at) = omega arith in
    let first : drop later a ≡ drop (later - at) (drop at a) = ap (λ n. drop n a) place ∙ sym (drop-drop (later - at) at a) in
    let second : drop later b ≡ drop (later - at) (drop at b) = ap (λ n. drop n b) place ∙ sym (drop-drop (later - at) at b) in
    record { rest = first ∙ ap (drop (later - at)) same.rest ∙ sym second; size = same.size }

pub le_same : (at place n : ℕ) (a b : List ℕ) → AgreeFrom at a b → at ≤ place → le a place n ≡ le b place n
unfolding le
le_same at place n a b same h = let here = agree_later at place a b same h in rw here.rest refl

pub field_same : (at part place n : ℕ) (a b : List ℕ) → AgreeFrom at a b → at ≤ place → field part a place n ≡ field part b place n
field_same at part place n a b same h =
    let number : le a place n ≡ le b place n = le_same at place n a b same h in
    rw (number, same.size) refl

pub field_where_same : (passes : ℕ → Bool) (at part place n : ℕ) (a b : List ℕ) → AgreeFrom at a b → at ≤ place → field_where passes part a place n ≡ field_where passes part b place n
field_where_same passes at part place n a b same h = rw (field_same at part place n a b same h) refl

-- a number that has to end in the file, from an offset on
pub within_same : (offset at part place n : ℕ) (a b : List ℕ) → AgreeFrom at a b → at ≤ place → field_where (λ x. nat_le (offset + x) (length a)) part a place n ≡ field_where (λ x. nat_le (offset + x) (length b)) part b place n
within_same offset at part place n a b same h =
    bind_same (field part a place n) (field part b place n) _ _ (field_same at part place n a b same h) (λ x _. rw same.size refl)

pub text_same : (at place : ℕ) (a b : List ℕ) → AgreeFrom at a b → at ≤ place → text_at a place ≡ text_at b place
unfolding text_at
text_same at place a b same h = let here = agree_later at place a b same h in rw here.rest refl

pub range_same : (at first end : ℕ) (a b : List ℕ) → AgreeFrom at a b → at ≤ first → slice_range a first end ≡ slice_range b first end
range_same at first end a b same h = let here = agree_later at first a b same h in rw here.rest refl

-- what is left of both up to an end
pub agree_cut : (at end : ℕ) (a b : List ℕ) → AgreeFrom at a b → at ≤ end → end ≤ length a → AgreeFrom at (take end a) (take end b)
agree_cut at end a b same h within =
    let place : end ≡ at + (end - at) = omega arith in
    let first : drop at (take end a) ≡ take (end - at) (drop at a) = ap (λ n. drop at (take n a)) place ∙ drop-take at (end - at) a in
    let second : drop at (take end b) ≡ take (end - at) (drop at b) = ap (λ n. drop at (take n b)) place ∙ drop-take at (end - at) b in
    let other : end ≤ length b = omega (arith, same.size) in
    record {
      rest = first ∙ ap (take (end - at)) same.rest ∙ sym second;
      size = length-take-le end a within ∙ sym (length-take-le end b other);
    }

pub root_same : (at : ℕ) (a b : List ℕ) → AgreeFrom at a b → root a at ≡ root b at
unfolding root
root_same at a b same =
    bind_same _ _ _ _ (field_where_same (λ signature. signature == 0x424A5342) at parts.metadata_root at 4 a b same (omega arith)) (λ signature _.
    bind_same _ _ _ _ (within_same (at + 16) at parts.metadata_root (at + 12) 4 a b same (omega arith)) (λ len _.
    bind_same _ _ _ _ (field_same at parts.metadata_root (at + 16 + len + 2) 2 a b same (omega arith)) (λ count _. refl)))

-- the first stream header lies after the root
pub root_before : (image : List ℕ) (at : ℕ) (x : ℕ × ℕ) → root image at ≡ Ok x → at ≤ x.1
unfolding root
root_before image at x e =
    bind_then (field_where (λ signature. signature == 0x424A5342) parts.metadata_root image at 4) _ x e (λ signature _ e1.
    bind_then (field_where (λ len. nat_le (at + 16 + len) (length image)) parts.metadata_root image (at + 12) 4) _ x e1 (λ len _ e2.
    bind_then (field parts.metadata_root image (at + 16 + len + 2) 2) _ x e2 (λ count _ e3.
    let same : at + 16 + len + 4 ≡ x.1 = ap (λ (x : ℕ × ℕ). x.1) (same_read _ x e3) in
    omega arith)))

pub name_same : (at place : ℕ) (a b : List ℕ) → AgreeFrom at a b → at ≤ place → stream_name a place ≡ stream_name b place
unfolding stream_name
name_same at place a b same h =
    bind_same _ _ _ _ (ap (λ (o : Option (List ℕ)). ok_or o (parts.streams, place)) (text_same at place a b same h)) (λ name _. rw same.size refl)

pub stream_same : (at place : ℕ) (a b : List ℕ) → AgreeFrom at a b → at ≤ place → stream_at a at place ≡ stream_at b at place
unfolding stream_at
stream_same at place a b same h =
    bind_same _ _ _ _ (within_same at at parts.streams place 4 a b same h) (λ offset _.
    bind_same _ _ _ _ (within_same (at + offset) at parts.streams (place + 4) 4 a b same (omega arith)) (λ size _.
    bind_same _ _ _ _ (name_same at (place + 8) a b same (omega arith)) (λ name _. refl)))

pub streams_after_same : (at first n : ℕ) (a b : List ℕ) → AgreeFrom at a b → at ≤ first → streams_after a at first n ≡ streams_after b at first n
unfolding streams_after
streams_after_same at first zero a b same h = refl
streams_after_same at first (suc n) a b same h =
    bind_same _ _ _ _ (streams_after_same at first n a b same h) (λ before before_read.
    let behind = (streams_after_lie a at first n before before_read).1 in
    bind_same _ _ _ _ (stream_same at before.1 a b same (omega arith)) (λ stream _. refl))

pub streams_same : (at : ℕ) (a b : List ℕ) → AgreeFrom at a b → streams a at ≡ streams b at
unfolding streams
streams_same at a b same =
    bind_same _ _ _ _ (root_same at a b same) (λ r root_read.
    bind_same _ _ _ _ (streams_after_same at r.1 r.0 a b same (root_before a at r root_read)) (λ all _. refl))

pub heap_same : (at end : ℕ) (range : Option Range) (a b : List ℕ) → AgreeFrom at a b → LiesIn at end range → heap_of a range ≡ heap_of b range
heap_same at end None a b same lies = refl
heap_same at end (Some range) a b same lies = range_same at range.start range.end a b same lies.0

-- equal values at each index make equal lists
pub map_same : {X : Type 0} (f g : ℕ → X) (start n : ℕ) → ((k : ℕ) → start ≤ k → k < start + n → f k ≡ g k) → map f (range_with_len start n) ≡ map g (range_with_len start n)
map_same f g start zero h = refl
map_same {X} f g start (suc n) h =
    let first : f start ≡ g start = h start (omega arith) (omega arith) in
    let rest : map f (range_with_len (start + 1) n) ≡ map g (range_with_len (start + 1) n) = map_same f g (start + 1) n (λ k l u. h k (omega arith) (omega arith)) in
    rw (first, rest) refl

-- the layout of a stream, by the stream alone
pub layout_same : (start : ℕ) (a b : List ℕ) → AgreeFrom start a b → layout a start ≡ layout b start
unfolding layout
layout_same start a b same =
    let valid : le a (start + 8) 8 ≡ le b (start + 8) 8 = le_same start (start + 8) 8 a b same (omega arith) in
    let heap_sizes : le a (start + 6) 1 ≡ le b (start + 6) 1 = le_same start (start + 6) 1 a b same (omega arith) in
    let counts : (valid table : ℕ) → row_count a start valid table ≡ row_count b start valid table =
    λ valid table. ap (λ (r : Result ℕ Broken). if is_present valid table then r else Ok 0) (field_same start parts.tables (count_place start valid table) 4 a b same (omega arith)) in
    let starts : (valid heap_sizes : ℕ) (rows : List ℕ) (table : ℕ) → start_of a start valid heap_sizes rows table ≡ start_of b start valid heap_sizes rows table =
    λ valid heap_sizes rows table. rw same.size refl in
    rw (same.size, valid, heap_sizes)
    (let valid : ℕ = le b (start + 8) 8 in
    let heap_sizes : ℕ = le b (start + 6) 1 in
    let asked : Result ℕ Broken = header b start in
    bind_same asked asked _ _ refl (λ known _.
    bind_same (listed (row_count a start valid) table_numbers) (listed (row_count b start valid) table_numbers) _ _ (listed_same (row_count a start valid) (row_count b start valid) table_numbers (λ k _. counts valid k)) (λ rows _.
    bind_same (listed (start_of a start valid heap_sizes rows) table_numbers) (listed (start_of b start valid heap_sizes rows) table_numbers) _ _ (listed_same (start_of a start valid heap_sizes rows) (start_of b start valid heap_sizes rows) table_numbers (λ k _. starts valid heap_sizes rows k)) (λ starts _.
    refl))))

cell_same : (start table row column : ℕ) (a b : List ℕ) (l : Layout) (kind : Option Column) → AgreeFrom start a b → start ≤ slice_index l.starts table → cell_value a l table row column kind ≡ cell_value b l table row column kind
cell_same start table row column a b l None same h = refl
cell_same start table row column a b l (Some kind) same h =
    le_same start (cell_place l table row column) (width l.heap_sizes l.rows kind) a b same (omega arith)

-- the rows of a stream whose tables lie after its start
pub tables_same : (start : ℕ) (a b : List ℕ) (l : Layout) → AgreeFrom start a b → ((table : ℕ) → table < table_numbers → start ≤ slice_index l.starts table) → tables_in a l ≡ tables_in b l
unfolding tables_in row_at
tables_same start a b l same behind =
    map_same _ _ 0 table_numbers (λ table _ h.
    map_same (row_at a l table) (row_at b l table) 0 (slice_index l.rows table) (λ row _ _.
    map_same _ _ 0 row_numbers (λ column _ _.
    cell_same start table row column a b l (slice_get (columns table) column) same (behind table (omega arith)))))

-- each table begins after the start of the stream
starts_behind : (image : List ℕ) (start : ℕ) (l : Layout) → LieApart image start l → (table : ℕ) → table < table_numbers → start ≤ slice_index l.starts table
starts_behind image start l apart zero h = let first = apart.after_header in omega arith
starts_behind image start l apart (suc table) h =
    let first = apart.after_header in
    let before = starts_behind image start l apart table (omega arith) in
    let follows = apart.apart table (suc table) (omega arith) h in
    omega arith

-- the metadata at a place, by what stands from there on
pub metadata_same : (at : ℕ) (a b : List ℕ) → AgreeFrom at a b → metadata_in a at ≡ metadata_in b at
unfolding metadata_in
metadata_same at a b same =
    bind_same (streams a at) (streams b at) _ _ (streams_same at a b same) (λ found found_read.
    let lie = streams_lie a at found found_read in
    let cut : AgreeFrom at (take found.0.end a) (take found.0.end b) = agree_cut at found.0.end a b same (omega (arith, lie.0)) lie.0.2 in
    let stream : AgreeFrom found.0.start (take found.0.end a) (take found.0.end b) = agree_later at found.0.start (take found.0.end a) (take found.0.end b) cut lie.0.0 in
    bind_same (layout (take found.0.end a) found.0.start) (layout (take found.0.end b) found.0.start) _ _ (layout_same found.0.start (take found.0.end a) (take found.0.end b) stream) (λ places laid.
    let apart = tables_lie_apart (take found.0.end a) found.0.start places laid in
    let rows : tables_in (take found.0.end a) places ≡ tables_in (take found.0.end b) places =
    tables_same found.0.start (take found.0.end a) (take found.0.end b) places stream (λ table h. starts_behind (take found.0.end a) found.0.start places apart table h) in
    let strings : heap_of a found.1.strings ≡ heap_of b found.1.strings = heap_same at (length a) found.1.strings a b same lie.1.strings in
    let user_strings : heap_of a found.1.user_strings ≡ heap_of b found.1.user_strings = heap_same at (length a) found.1.user_strings a b same lie.1.user_strings in
    let guids : heap_of a found.1.guids ≡ heap_of b found.1.guids = heap_same at (length a) found.1.guids a b same lie.1.guids in
    let blobs : heap_of a found.1.blobs ≡ heap_of b found.1.blobs = heap_same at (length a) found.1.blobs a b same lie.1.blobs in
    rw (rows, strings, user_strings, guids, blobs) refl))

-- the metadata of two files that have the same bytes there
pub assembly_same : (a b : List ℕ) (h : Headers) → headers a ≡ Ok h → headers b ≡ Ok h → take h.meta_size (drop h.meta_at a) ≡ take h.meta_size (drop h.meta_at b) → assembly a ≡ assembly b
assembly_same a b h first second e =
    let end : ℕ = h.meta_at + h.meta_size in
    let first_size : length (take end a) ≡ end = length-take-le end a (metadata_within a h first) in
    let second_size : length (take end b) ≡ end = length-take-le end b (metadata_within b h second) in
    let agree : AgreeFrom h.meta_at (take end a) (take end b) = record {
      rest = drop-take h.meta_at h.meta_size a ∙ e ∙ sym (drop-take h.meta_at h.meta_size b);
      size = first_size ∙ sym second_size;
    } in
    assembly_is a ∙ bind_read (headers a) _ h first ∙ metadata_same h.meta_at (take end a) (take end b) agree
    ∙ sym (bind_read (headers b) _ h second) ∙ sym (assembly_is b)

pub headers_and_metadata_decide : HeadersAndMetadataDecide
headers_and_metadata_decide a b same e =
    elim (read_or_refused (headers a)) [
      | inl read ↦ assembly_same a b read.0 read.1 (sym same ∙ read.1) (e read.0 read.1)
      | inr refused ↦ (assembly_is a ∙ bind_err (headers a) _ refused.0 refused.1
          ∙ sym (bind_err (headers b) _ refused.0 (sym same ∙ refused.1)) ∙ sym (assembly_is b))
    ]
