-- The initializers of a library, one after another.
use Rattle.std.proofs.Common.{◌≡◌, ℕ, ◌+◌, ◌-◌, ◌*◌, Bool, true, false, cond, List, [], ◌∷◌, ◌++◌, length, map, filter, take, drop, Some, None, Ok, Err, refl, ◌∙◌, append_assoc, arith}
use Rattle.std.specs.List.{range_with_len}
use Rattle.std.proofs.lemmas.List.FromFn.{filter_of_map_range_with_len_more}
use Rattle.std.proofs.Math.Seq.{take-length}
use Rattle.std.proofs.lemmas.List.{length-drop}
use Rattle.byteorder.specs.Endian.{little_number}
use Rattle.byte_view.specs.Numbers.{le}
use Rattle.byte_view.specs.ElfParts as parts
use Rattle.native_memory.specs.AddressSpace.{AddressSpace}
use Rattle.native_memory.specs.Ranges.{may_read, bytes_at}
use Rattle.elf_binder.specs.Modules.{moved}
use Rattle.elf_binder.specs.Loading.{Source}
use Rattle.elf_binder.specs.Binding.{doublewords, is_initializer, first_initializer, initializers, and_initializers}

-- those among the first entries of an array
abbrev pub entries_in : List ℕ → ℕ → List ℕ
entries_in array k = filter is_initializer (map (λ k. le array (8 * k) 8) (range_with_len 0 k))

filtered : (p : ℕ → Bool) (x : ℕ) (passes : Bool) → p x ≡ passes → cond (p x) (x ∷ []) [] ≡ filter p (x ∷ [])
filtered p x true is = rw is refl
filtered p x false is = rw is refl

-- all that stands behind a place
pub rest_is : (n : ℕ) (xs : List ℕ) → take (length xs - n) (drop n xs) ≡ drop n xs
rest_is n xs = rw (← length-drop n xs) (take-length (drop n xs))

pub one_entry : (array : List ℕ) (k address : ℕ) (first before after : List ℕ) → before ≡ first ++ entries_in array k → after ≡ before ++ filter is_initializer (address ∷ []) → address ≡ little_number 8 (drop (8 * k) array)
    → after ≡ first ++ entries_in array (k + 1)
unfolding le
one_entry array k address first before after is pushed value =
    pushed ∙ rw (is, filter_of_map_range_with_len_more is_initializer (λ k. le array (8 * k) 8) 0 k k (omega arith), filtered is_initializer (le array (8 * k) 8) (is_initializer (le array (8 * k) 8)) refl, ← append_assoc, value) refl

-- ---- those of a library

pub not_readable : (space : AddressSpace) (before : List ℕ) (source : Source) (base : ℕ) → bytes_at may_read space (moved base source.library.init_array.addr) source.library.init_array.size ≡ None
    → and_initializers space before (source, base) ≡ Err (source.number, parts.init, source.library.init_array.at + 8)
unfolding and_initializers initializers
not_readable space before source base is = rw is refl

pub all_initials : (space : AddressSpace) (before : List ℕ) (source : Source) (base : ℕ) (array first after : List ℕ) → bytes_at may_read space (moved base source.library.init_array.addr) source.library.init_array.size ≡ Some array
    → first ≡ before ++ first_initializer base source.library.init → after ≡ first ++ filter is_initializer (doublewords array) → and_initializers space before (source, base) ≡ Ok after
unfolding and_initializers initializers
all_initials space before source base array first after is begun ended = rw (is, ended, begun, append_assoc) refl
