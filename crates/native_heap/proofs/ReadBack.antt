-- A range reads as what was written to it.
use Rattle.std.proofs.Common.{◌≡◌, ◌∙◌, ℕ, ◌+◌, ◌-◌, ◌≤◌, nat_eq, Bool, true, false, cond, if◌then◌else◌, List, [], ◌++◌, length, take, drop, Option, Some, None, arith, refl, sym, append_assoc}
use Rattle.std.specs.Prelude.{All, is_some, IsSome, option_map, option_and_then}
use Rattle.std.specs.List.{find}
use Rattle.std.proofs.Math.Seq.{drop-append_seam, take-append_seam}
use Rattle.std.proofs.lemmas.List.{length-take, length-drop, nil_from_length}
use Rattle.std.proofs.lemmas.Bool.Decides.{nat_tests}
use Rattle.native_memory.specs.declared.kind.Kind.{Kind}
use Rattle.native_memory.specs.AddressSpace.{Block, AddressSpace, changed}
use Rattle.native_memory.specs.Ranges.{covers, may_read, may_write, open_bytes, part, bytes_at, overwritten, write_in, with_written, written_at}
use Rattle.native_memory.specs.Sound.{HasItsBytes, IsWhole, IsSound}
use Rattle.native_memory.proofs.Kept.{changed_keeps, writes_keep}
use Rattle.native_heap.specs.Outcome.{◌>>=◌, answering}
use Rattle.native_heap.specs.Bytes.{memmove}
use Rattle.native_heap.specs.Laws.{CopiesReadTheSame}
use Rattle.native_heap.proofs.Refusals.{answered_new}
use Rattle.native_heap.proofs.Found.{find_changed, found_passes, found_of_all}

-- bytes that were put over others stand where they were put
over_at : (bytes : List ℕ) (at : ℕ) (from : List ℕ) → at ≤ length bytes → take (length from) (drop at (overwritten bytes at from)) ≡ from
over_at bytes at from fits =
    let len : length (take at bytes) ≡ at = simp length-take (omega arith) in
    let tail : List ℕ = drop (at + length from) bytes in
    let seam : drop (length (take at bytes)) (take at bytes ++ (from ++ tail)) ≡ from ++ tail = drop-append_seam (take at bytes) (from ++ tail) in
    let there : drop at (take at bytes ++ (from ++ tail)) ≡ from ++ tail = rw len at seam in
    rw (append_assoc, there) (take-append_seam from tail)

back_if : (may : Bool) (base size : ℕ) (kind : Kind) (contents : Option (List ℕ)) (addr : ℕ) (from bytes : List ℕ) → HasItsBytes size kind contents → base ≤ addr
    → addr + length from ≤ base + size
    → option_map (λ all. take (length from) (drop (addr - base) all)) (if may then option_map (λ all. overwritten all (addr - base) from) contents else None) ≡ Some bytes
    → bytes ≡ from
back_if true base size kind None addr from bytes whole low high is = cc
back_if true base size kind (Some all) addr from bytes whole low high is =
    let len : length all ≡ size = whole in
    let same : take (length from) (drop (addr - base) (overwritten all (addr - base) from)) ≡ bytes = cc in
    sym same ∙ over_at all (addr - base) from (omega arith)
back_if false base size kind contents addr from bytes whole low high is = cc

-- the block that covers a range that was written
block_back : (here : Bool) (block : Block) (addr : ℕ) (from bytes : List ℕ) → covers addr (length from) block ≡ here → here ≡ true → IsWhole block
    → option_map (part addr (length from) (if here then write_in addr from block else block)) (open_bytes may_read (if here then write_in addr from block else block)) ≡ Some bytes → bytes ≡ from
block_back true block addr from bytes is here whole read =
    back_if block.rights.r block.base block.size block.kind block.contents addr from bytes whole (grind (arith, nat_tests, is)) (grind (arith, nat_tests, is)) read
block_back false block addr from bytes is here whole read = cc

pub same_covers : (addr len at size : ℕ) (from : List ℕ) (block : Block) → covers addr len (changed (covers at size) (write_in at from) block) ≡ covers addr len block
same_covers addr len at size from block =
    let keeps = changed_keeps (covers at size) (write_in at from) (writes_keep at from) in rw (keeps.base block, keeps.size block) refl

-- of a range that is found, after a write of it
found_back : (found : Option Block) (old : AddressSpace) (addr : ℕ) (from bytes : List ℕ) → IsSound old → find (covers addr (length from)) old.blocks ≡ found
    → option_and_then (λ block. option_map (part addr (length from) block) (open_bytes may_read block)) (option_map (changed (covers addr (length from)) (write_in addr from)) found) ≡ Some bytes
    → bytes ≡ from
found_back None old addr from bytes sound is read = cc
found_back (Some block) old addr from bytes sound is read =
    let passes = found_passes (covers addr (length from)) old.blocks block is in
    let whole = found_of_all IsWhole (covers addr (length from)) old.blocks block sound.whole is in
    block_back (covers addr (length from) block) block addr from bytes refl passes whole read

back_by : (none may : Bool) (old new : AddressSpace) (addr : ℕ) (from bytes : List ℕ) → nat_eq (length from) 0 ≡ none → IsSound old
    → cond none (Some old) (cond may (Some (with_written old addr from)) None) ≡ Some new
    → cond none (Some []) (option_and_then (λ block. option_map (part addr (length from) block) (open_bytes may_read block)) (find (covers addr (length from)) new.blocks)) ≡ Some bytes
    → bytes ≡ from
back_by true may old new addr from bytes none sound is read =
    let same : [] ≡ bytes = cc in
    sym same ∙ sym (nil_from_length from (grind (arith, nat_tests, none)))
back_by false true old new addr from bytes none sound is read =
    let same : with_written old addr from ≡ new = cc in
    let read' = rw (← same, find_changed (covers addr (length from)) (changed (covers addr (length from)) (write_in addr from)) old.blocks (same_covers addr (length from) addr (length from) from)) at read in
    found_back (find (covers addr (length from)) old.blocks) old addr from bytes sound refl read'
back_by false false old new addr from bytes none sound is read = cc

-- what was written is read, where it can be read
pub bytes_back : (old new : AddressSpace) (addr : ℕ) (from bytes : List ℕ) → IsSound old → written_at old addr from ≡ Some new → bytes_at may_read new addr (length from) ≡ Some bytes
    → bytes ≡ from
unfolding written_at bytes_at
bytes_back old new addr from bytes sound is read =
    back_by (nat_eq (length from) 0) (is_some (bytes_at may_write old addr (length from))) old new addr from bytes refl sound is read

part_size : (may : Bool) (base size : ℕ) (kind : Kind) (contents : Option (List ℕ)) (addr len : ℕ) (bytes : List ℕ) → HasItsBytes size kind contents → base ≤ addr → addr + len ≤ base + size
    → option_map (λ all. take len (drop (addr - base) all)) (if may then contents else None) ≡ Some bytes → length bytes ≡ len
part_size true base size kind None addr len bytes whole low high is = cc
part_size true base size kind (Some all) addr len bytes whole low high is =
    let has : length all ≡ size = whole in
    let same : take len (drop (addr - base) all) ≡ bytes = cc in
    rw (← same) (simp (length-take, length-drop) (omega arith))
part_size false base size kind contents addr len bytes whole low high is = cc

size_if : (none : Bool) (found : Option Block) (len addr : ℕ) (blocks : List Block) (bytes : List ℕ) → nat_eq len 0 ≡ none → All IsWhole blocks → find (covers addr len) blocks ≡ found
    → cond none (Some []) (option_and_then (λ block. option_map (part addr len block) (open_bytes may_read block)) found) ≡ Some bytes → length bytes ≡ len
size_if true found len addr blocks bytes none whole is read =
    let same : [] ≡ bytes = cc in rw (← same) (sym (grind (arith, nat_tests, none)))
size_if false None len addr blocks bytes none whole is read = cc
size_if false (Some block) len addr blocks bytes none whole is read =
    let passes = found_passes (covers addr len) blocks block is in
    let all = found_of_all IsWhole (covers addr len) blocks block whole is in
    part_size block.rights.r block.base block.size block.kind block.contents addr len bytes all (grind (arith, nat_tests, passes)) (grind (arith, nat_tests, passes)) read

-- a range that can be read has its bytes
pub bytes_have_size : (space : AddressSpace) (addr len : ℕ) (bytes : List ℕ) → IsSound space → bytes_at may_read space addr len ≡ Some bytes → length bytes ≡ len
unfolding bytes_at
bytes_have_size space addr len bytes sound read = size_if (nat_eq len 0) (find (covers addr len) space.blocks) len addr space.blocks bytes refl sound.whole refl read

copied_if : (read : Option (List ℕ)) (back : Option (List ℕ)) (old new : AddressSpace) (to from len answer : ℕ) → bytes_at may_read old from len ≡ read → bytes_at may_read new to len ≡ back
    → IsSound old → IsSome back → (read >>= λ bytes. answering to (written_at old to bytes)) ≡ Some (answer, new) → back ≡ read
copied_if None back old new to from len answer is there sound some done = cc
copied_if (Some bytes) None old new to from len answer is there sound some done = cc
copied_if (Some bytes) (Some found) old new to from len answer is there sound some done =
    let size : length bytes ≡ len = bytes_have_size old from len bytes sound is in
    let written : written_at old to bytes ≡ Some new = answered_new to answer (written_at old to bytes) new done in
    let same : found ≡ bytes = bytes_back old new to bytes found sound written (rw size there) in
    rw same refl

pub copies_back : CopiesReadTheSame
unfolding memmove
copies_back old new to from len answer sound done some =
    copied_if (bytes_at may_read old from len) (bytes_at may_read new to len) old new to from len answer refl refl sound some done
