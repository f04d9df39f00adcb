-- Whether a write faults, by the test that is made before it, and what that means for the functions that write.
use Rattle.std.proofs.Common.{◌≡◌, ℕ, ◌+◌, ◌%◌, nat_eq, Bool, true, false, List, [], ◌∷◌, ◌++◌, length, replicate, Some, None, cond, arith, refl}
use Rattle.std.specs.Prelude.{is_some, IsSome}
use Rattle.std.proofs.lemmas.List.{length-append, length-replicate}
use Rattle.native_memory.specs.AddressSpace.{AddressSpace}
use Rattle.native_memory.specs.Ranges.{may_read, may_write, bytes_at, with_written, written_at}
use Rattle.native_heap.specs.Bytes.{memmove, memset}
use Rattle.native_heap.specs.Texts.{text_at, strcpy}
use Rattle.native_heap.proofs.Refusals.{answering_done}

held_if : (none may : Bool) (space new : AddressSpace) → may ≡ true → is_some (cond none (Some space) (cond may (Some new) None)) ≡ true
held_if true may space new held = refl
held_if false may space new held = rw held refl

-- a range of no bytes may be written
none_is_held : (space : AddressSpace) (addr len : ℕ) → nat_eq len 0 ≡ true → is_some (bytes_at may_write space addr len) ≡ true
unfolding bytes_at
none_is_held space addr len none = rw none refl

refused_if : (none : Bool) (may : Bool) (space new : AddressSpace) → (none ≡ true → may ≡ true) → may ≡ false → cond none (Some space) (cond may (Some new) None) ≡ None
refused_if true may space new free held = let yes = free refl in cc
refused_if false may space new free held = rw held refl

pub written_where_held : (space : AddressSpace) (addr len : ℕ) (from : List ℕ) → length from ≡ len → is_some (bytes_at may_write space addr len) ≡ true
    → is_some (written_at space addr from) ≡ true
unfolding written_at
written_where_held space addr len from is held =
    held_if (nat_eq (length from) 0) (is_some (bytes_at may_write space addr (length from))) space (with_written space addr from) (rw is held)

pub refused_where_not_held : (space : AddressSpace) (addr len : ℕ) (from : List ℕ) → length from ≡ len → is_some (bytes_at may_write space addr len) ≡ false
    → written_at space addr from ≡ None
unfolding written_at
refused_where_not_held space addr len from is held =
    refused_if (nat_eq (length from) 0) (is_some (bytes_at may_write space addr (length from))) space (with_written space addr from)
    (none_is_held space addr (length from)) (rw is held)

-- what is checked before memory is taken is enough
pub memmove_done : (space : AddressSpace) (to from len : ℕ) (bytes : List ℕ) → bytes_at may_read space from len ≡ Some bytes → length bytes ≡ len
    → is_some (bytes_at may_write space to len) ≡ true → IsSome (memmove space to from len)
unfolding memmove
memmove_done space to from len bytes found is held = rw found (answering_done to (written_at space to bytes) (written_where_held space to len bytes is held))

pub memset_done : (space : AddressSpace) (to c len : ℕ) → is_some (bytes_at may_write space to len) ≡ true → IsSome (memset space to c len)
unfolding memset
memset_done space to c len held =
    answering_done to (written_at space to (replicate len (c % 256))) (written_where_held space to len (replicate len (c % 256)) (length-replicate len (c % 256)) held)

pub memset_refused : (space : AddressSpace) (to c len : ℕ) → is_some (bytes_at may_write space to len) ≡ false → memset space to c len ≡ None
unfolding memset
memset_refused space to c len held =
    rw (refused_where_not_held space to len (replicate len (c % 256)) (length-replicate len (c % 256)) held) refl

one_more : (text : List ℕ) → length (text ++ 0 ∷ []) ≡ length text + 1
one_more text = grind (arith, length-append)

pub strcpy_done : (space : AddressSpace) (to from : ℕ) (text : List ℕ) → text_at space from ≡ Some text → is_some (bytes_at may_write space to (length text + 1)) ≡ true
    → IsSome (strcpy space to from)
unfolding strcpy
strcpy_done space to from text found held =
    rw found (answering_done to (written_at space to (text ++ 0 ∷ [])) (written_where_held space to (length text + 1) (text ++ 0 ∷ []) (one_more text) held))

pub strcpy_refused : (space : AddressSpace) (to from : ℕ) (text : List ℕ) → text_at space from ≡ Some text → is_some (bytes_at may_write space to (length text + 1)) ≡ false
    → strcpy space to from ≡ None
unfolding strcpy
strcpy_refused space to from text found held = rw (found, refused_where_not_held space to (length text + 1) (text ++ 0 ∷ []) (one_more text) held) refl

pub ruleset writing = (written_where_held, refused_where_not_held)
