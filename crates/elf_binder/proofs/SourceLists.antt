-- The list of the libraries that are bound.
use Rattle.std.proofs.Common.{◌≡◌, ℕ, zero, suc, ◌+◌, List, [], ◌∷◌, length, map, Some, Ok, All, refl, ap, ◌∙◌, subst, arith}
use Rattle.std.specs.Prelude.{slice_get}
use Rattle.std.proofs.lemmas.List.{length-map}
use Rattle.std.proofs.lemmas.Option.{slice_get_within, get_or_from_slice_get}
use Rattle.byte_view.specs.Library.{Library, library}
use Rattle.elf_reader.specs.declared.elf.Elf.{Elf}
use Rattle.elf_reader.specs.Elf.{library_of}
use Rattle.elf_binder.specs.Binding.{sources_from}
use Rattle.elf_binder.specs.Refusals.{AreRead}
use Rattle.elf_binder.specs.Sources.{IsRead}

pub source_is : (n : ℕ) (libraries : List Library) (files names : List (List ℕ)) (k number : ℕ)
    (library : Library) (file name : List ℕ) → n + k ≡ number
    → slice_get libraries k ≡ Some library → slice_get files k ≡ Some file → slice_get names k ≡ Some name
    → slice_get (sources_from n libraries files names) k
    ≡ Some (record { number = number; name = name; file = file; library = library })
source_is n [] files names k number library file name at is_library is_file is_name = absurd (cc)
source_is n (l ∷ libraries) [] names k number library file name at is_library is_file is_name = absurd (cc)
source_is n (l ∷ libraries) (f ∷ files) [] k number library file name at is_library is_file is_name = absurd (cc)
source_is n (l ∷ libraries) (f ∷ files) (m ∷ names) zero number library file name at is_library is_file is_name =
    let same_library : l ≡ library = cc in
    let same_file : f ≡ file = cc in
    let same_name : m ≡ name = cc in
    let here : n ≡ number = omega arith in
    rw (same_library, same_file, same_name, here) refl
source_is n (l ∷ libraries) (f ∷ files) (m ∷ names) (suc k) number library file name at is_library is_file is_name =
    source_is (n + 1) libraries files names k number library file name (omega arith) is_library is_file is_name

pub length-sources : (n : ℕ) (libraries : List Library) (files names : List (List ℕ))
    → length files ≡ length libraries → length names ≡ length libraries
    → length (sources_from n libraries files names) ≡ length libraries
length-sources n [] files names of_files of_names = refl
length-sources n (l ∷ libraries) [] names of_files of_names = absurd (omega arith)
length-sources n (l ∷ libraries) (f ∷ files) [] of_files of_names = absurd (omega arith)
length-sources n (l ∷ libraries) (f ∷ files) (m ∷ names) of_files of_names =
    ap suc (length-sources (n + 1) libraries files names (omega arith) (omega arith))

pub count_joined : (elfs : List Elf) (files names : List (List ℕ)) → length files ≡ length elfs → length names ≡ length elfs
    → length (sources_from 0 (map library_of elfs) files names) ≡ length elfs
count_joined elfs files names of_files of_names =
    let mapped = length-map elfs library_of in
    length-sources 0 (map library_of elfs) files names (omega (arith, mapped)) (omega (arith, mapped)) ∙ mapped

-- all of them were read
pub all_read : (n : ℕ) (elfs : List Elf) (files names : List (List ℕ)) → AreRead elfs files
    → All IsRead (sources_from n (map library_of elfs) files names)
all_read n [] files names read k d within = absurd (omega arith)
all_read n (e ∷ elfs) [] names read k d within = absurd (omega arith)
all_read n (e ∷ elfs) (f ∷ files) [] read k d within = absurd (omega arith)
all_read n (e ∷ elfs) (f ∷ files) (m ∷ names) read zero d within =
    let head : library f ≡ Ok (library_of e) = cc in head
all_read n (e ∷ elfs) (f ∷ files) (m ∷ names) read (suc k) d within =
    all_read (n + 1) elfs files names (cc) k d (omega arith)

pub all_at : {A : Type 0} (P : A → Type 0) (xs : List A) (k : ℕ) (x : A) → All P xs → slice_get xs k ≡ Some x → P x
all_at P xs k x all is =
    subst P (get_or_from_slice_get xs k x x is) (all k x (slice_get_within xs k x is))
