-- An assembly is the metadata where the headers of its file say.
use Rattle.std.proofs.Common.{◌≡◌, ℕ, List, Option, Result, Ok, Err, refl, ◌∙◌}
use Rattle.byte_view.specs.Reading.{Broken, ◌>>=◌, Refuses}
use Rattle.byte_view.specs.Headers.{Headers, headers}
use Rattle.byte_view.specs.Metadata.{Metadata}
use Rattle.byte_view.specs.Assembly.{Image, image, assembly, metadata}
use Rattle.byte_view.proofs.Reading.{bind_err, bind_read}
use Rattle.byte_view.proofs.Refusals.{refuses_as}

abbrev made : Headers → Metadata → Result Image Broken
made headers metadata = Ok (record { headers = headers; metadata = metadata })

abbrev taken : Image → Result Metadata Broken
taken read = Ok read.metadata

from_metadata : (h : Headers) (m : Result Metadata Broken) → (m >>= made h) >>= taken ≡ m
from_metadata h (Ok m) = refl
from_metadata h (Err d) = refl

from_headers : (bytes : List ℕ) (h : Result Headers Broken)
    → (h >>= λ h. metadata bytes h.meta_at h.meta_size >>= made h) >>= taken
    ≡ h >>= λ h. metadata bytes h.meta_at h.meta_size
from_headers bytes (Ok h) = from_metadata h (metadata bytes h.meta_at h.meta_size)
from_headers bytes (Err d) = refl

pub assembly_is : (bytes : List ℕ) → assembly bytes ≡ (headers bytes >>= λ h. metadata bytes h.meta_at h.meta_size)
unfolding assembly image
assembly_is bytes = from_headers bytes (headers bytes)

-- an error that refuses the headers, or the metadata where they say, refuses the assembly
pub headers_refuse : {E : Type 0} (says : E → Option Broken) (e : E) (bytes : List ℕ)
    → Refuses says e (headers bytes) → Refuses says e (assembly bytes)
headers_refuse says e bytes h =
    refuses_as says e (headers bytes) (assembly bytes)
    (λ d is. assembly_is bytes ∙ bind_err (headers bytes) (λ h. metadata bytes h.meta_at h.meta_size) d is) h

pub metadata_refuses : {E : Type 0} (says : E → Option Broken) (e : E) (bytes : List ℕ) (h : Headers)
    → headers bytes ≡ Ok h → Refuses says e (metadata bytes h.meta_at h.meta_size) → Refuses says e (assembly bytes)
metadata_refuses says e bytes h read refused =
    refuses_as says e (metadata bytes h.meta_at h.meta_size) (assembly bytes)
    (λ d is. assembly_is bytes ∙ bind_read (headers bytes) (λ h. metadata bytes h.meta_at h.meta_size) h read ∙ is) refused

-- headers and metadata that are read make an image, and an assembly
pub image_read : (bytes : List ℕ) (h : Headers) (m : Metadata)
    → headers bytes ≡ Ok h → metadata bytes h.meta_at h.meta_size ≡ Ok m
    → image bytes ≡ Ok (record { headers = h; metadata = m })
unfolding image
image_read bytes h m read found = rw read (rw found refl)

pub assembly_read : (bytes : List ℕ) (h : Headers) (m : Metadata)
    → headers bytes ≡ Ok h → metadata bytes h.meta_at h.meta_size ≡ Ok m → assembly bytes ≡ Ok m
assembly_read bytes h m read found =
    assembly_is bytes ∙ bind_read (headers bytes) (λ h. metadata bytes h.meta_at h.meta_size) h read ∙ found
