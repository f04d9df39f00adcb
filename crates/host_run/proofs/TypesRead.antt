-- An assembly with its types, from the parts that are read.
use Rattle.std.proofs.Common.{◌≡◌, ℕ, List, Option, Result, Ok, Err, refl, ◌∙◌}
use Rattle.byte_view.specs.Reading.{Broken, ◌>>=◌, Refuses}
use Rattle.byte_view.specs.Headers.{Headers, headers}
use Rattle.byte_view.specs.Metadata.{Metadata}
use Rattle.byte_view.specs.Assembly.{Image, image, metadata}
use Rattle.byte_view.proofs.Images.{image_read}
use Rattle.byte_view.proofs.Reading.{bind_err, bind_read}
use Rattle.byte_view.proofs.Refusals.{refuses_as}
use Rattle.type_model.specs.Module.{Module}
use Rattle.type_model.specs.Part.{assembly_types, types_in}

abbrev types_of : List ℕ → Image → Result Module Broken
types_of bytes read = types_in bytes read.headers read.metadata

types_broken : (bytes : List ℕ) (d : Broken) → image bytes ≡ Err d → assembly_types bytes ≡ Err d
unfolding assembly_types
types_broken bytes d is = bind_err (image bytes) (types_of bytes) d is

headers_broken : (bytes : List ℕ) (d : Broken) → headers bytes ≡ Err d → image bytes ≡ Err d
unfolding image
headers_broken bytes d is = rw is refl

metadata_broken : (bytes : List ℕ) (h : Headers) (d : Broken) → headers bytes ≡ Ok h → metadata bytes h.meta_at h.meta_size ≡ Err d → image bytes ≡ Err d
unfolding image
metadata_broken bytes h d read is = rw read (rw is refl)

-- an error that refuses the headers, or the metadata where they say, refuses the assembly
pub headers_refuse : {E : Type 0} (says : E → Option Broken) (e : E) (bytes : List ℕ)
    → Refuses says e (headers bytes) → Refuses says e (assembly_types bytes)
headers_refuse says e bytes h =
    refuses_as says e (headers bytes) (assembly_types bytes) (λ d is. types_broken bytes d (headers_broken bytes d is)) h

pub metadata_refuses : {E : Type 0} (says : E → Option Broken) (e : E) (bytes : List ℕ) (h : Headers)
    → headers bytes ≡ Ok h → Refuses says e (metadata bytes h.meta_at h.meta_size) → Refuses says e (assembly_types bytes)
metadata_refuses says e bytes h read refused =
    refuses_as says e (metadata bytes h.meta_at h.meta_size) (assembly_types bytes)
    (λ d is. types_broken bytes d (metadata_broken bytes h d read is)) refused

-- headers and metadata that are read leave the types to be asked
pub types_read : (bytes : List ℕ) (h : Headers) (m : Metadata)
    → headers bytes ≡ Ok h → metadata bytes h.meta_at h.meta_size ≡ Ok m → assembly_types bytes ≡ types_in bytes h m
unfolding assembly_types
types_read bytes h m read found =
    bind_read (image bytes) (types_of bytes) (record { headers = h; metadata = m }) (image_read bytes h m read found)
