-- Stream headers, one after another.
use Rattle.std.proofs.Common.{◌≡◌, ℕ, zero, suc, ◌+◌, ◌<◌, ◌≤◌, List, Ok, Err, Bool, true, false, Option, Some, None, codes, if◌then◌else◌, refl, inl, inr, add-one, arith}
use Rattle.std.proofs.lemmas.Bool.{cases_lt}
use Rattle.bound_base.specs.declared.image.BadImage.{BadImage}
use Rattle.bound_base.specs.Image.{refusal}
use Rattle.byte_view.specs.Reading.{Broken, Refuses}
use Rattle.byte_view.specs.Streams.{Range, Streams, Stream, first_of, stream_at, with_stream, streams_after}
use Rattle.std.specs.Str.{bytes_eq}
use Rattle.meta_tables.specs.View.{IsWithin, AreWithin}
use Rattle.byte_view.proofs.Refusals.{refuses_as}

-- the streams after one more header
pub streams_next : (image : List ℕ) (at first n : ℕ) (s : Streams) (place : ℕ) (x : Stream) → streams_after image at first n ≡ Ok (s, place) → stream_at image at place ≡ Ok x
    → streams_after image at first (n + 1) ≡ Ok (with_stream s x, x.next)
unfolding streams_after
streams_next image at first n s place x before e = rw (add-one, before) (rw e refl)

fails_next : (image : List ℕ) (at first n : ℕ) (s : Streams) (place : ℕ) (d : Broken) → streams_after image at first n ≡ Ok (s, place) → stream_at image at place ≡ Err d
    → streams_after image at first (suc n) ≡ Err d
unfolding streams_after
fails_next image at first n s place d before e = rw before (rw e refl)

fails_after : (image : List ℕ) (at first n m : ℕ) (d : Broken) → streams_after image at first n ≡ Err d → n ≤ m → streams_after image at first m ≡ Err d
unfolding streams_after
fails_after image at first n zero d e h = let same : n ≡ zero = omega arith in rw same at e
fails_after image at first n (suc m) d e h =
    elim (cases_lt m n) [
      | inl l ↦ (let same : n ≡ suc m = omega arith in rw same at e)
      | inr g ↦ rw (fails_after image at first n m d e g) refl
    ]

-- the first header that is broken
pub streams_refused : (e : BadImage) (image : List ℕ) (at first n m : ℕ) (s : Streams) (place : ℕ) → streams_after image at first n ≡ Ok (s, place) → n < m → Refuses refusal e (stream_at image at place)
    → Refuses refusal e (streams_after image at first m)
streams_refused e image at first n m s place before h =
    refuses_as refusal e (stream_at image at place) (streams_after image at first m)
    (λ d f. fails_after image at first (suc n) m d (fails_next image at first n s place d before f) h)

first_within : (image : List ℕ) (o : Option Range) (r : Range) → IsWithin image o → IsWithin image (Some r) → IsWithin image (first_of o r)
first_within image None r h here = here
first_within image (Some first) r h here = h

chosen_within : (image : List ℕ) (b : Bool) (s t : Streams) → AreWithin image s → AreWithin image t → AreWithin image (if b then s else t)
chosen_within image true s t hs ht = hs
chosen_within image false s t hs ht = ht

-- streams that lie in the image, with one more
pub with_stream_within : (image : List ℕ) (s : Streams) (x : Stream) → AreWithin image s → IsWithin image (Some x.range) → AreWithin image (with_stream s x)
unfolding with_stream
with_stream_within image s x h here =
    chosen_within image (bytes_eq x.name (codes "#~")) _ _ (record { tables = first_within image s.tables x.range h.tables here; strings = h.strings; user_strings = h.user_strings; guids = h.guids; blobs = h.blobs })
    (chosen_within image (bytes_eq x.name (codes "#Strings")) _ _ (record { tables = h.tables; strings = first_within image s.strings x.range h.strings here; user_strings = h.user_strings; guids = h.guids; blobs = h.blobs })
    (chosen_within image (bytes_eq x.name (codes "#US")) _ _ (record { tables = h.tables; strings = h.strings; user_strings = first_within image s.user_strings x.range h.user_strings here; guids = h.guids; blobs = h.blobs })
    (chosen_within image (bytes_eq x.name (codes "#GUID")) _ _ (record { tables = h.tables; strings = h.strings; user_strings = h.user_strings; guids = first_within image s.guids x.range h.guids here; blobs = h.blobs })
    (chosen_within image (bytes_eq x.name (codes "#Blob")) _ _ (record { tables = h.tables; strings = h.strings; user_strings = h.user_strings; guids = h.guids; blobs = first_within image s.blobs x.range h.blobs here }) h))))
