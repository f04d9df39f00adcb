-- The bytes that can be read from an address on, one after another.
use Rattle.std.proofs.Common.{◌≡◌, ℕ, suc, ◌+◌, ◌-◌, ◌^◌, ◌<◌, ◌≤◌, nat_le, Bool, true, false, cond, ◌&&◌, if◌then◌else◌, List, [], ◌∷◌, ◌++◌, length, take, drop, get_or, Option, Some, None, arith, refl, ap, drop-cons}
use Rattle.std.specs.Prelude.{All, option_map, option_and_then}
use Rattle.std.specs.List.{find}
use Rattle.std.proofs.lemmas.Bool.Decides.{nat_tests}
use Rattle.std.proofs.lemmas.List.{drop_all}
use Rattle.native_memory.specs.declared.kind.Kind.{Kind}
use Rattle.native_memory.specs.AddressSpace.{Block, AddressSpace, lowest}
use Rattle.native_memory.specs.Ranges.{covers, may_read, open_bytes, part, bytes_at}
use Rattle.native_memory.specs.Placement.{edge_of}
use Rattle.native_memory.specs.Sound.{HasItsBytes, IsWhole, LieBetween, IsSound}
use Rattle.native_heap.specs.Texts.{then_more, readable_in, readable_from}

-- the bytes of a range, of the block that a search finds
abbrev bytes_in : ℕ → ℕ → Option Block → Option (List ℕ)
bytes_in addr len found = option_and_then (λ block. option_map (part addr len block) (open_bytes may_read block)) found

none_more : (addr len : ℕ) (block : Block) (contents : Option (List ℕ)) (at : ℕ) (more : List ℕ) → option_map (part addr len block) contents ≡ None → then_more contents at more ≡ []
none_more addr len block None at more none = refl
none_more addr len block (Some bytes) at more none = cc

none_if : (here : Bool) (addr : ℕ) (block : Block) (rest : List Block) → bytes_in addr 1 (cond here (Some block) (find (covers addr 1) rest)) ≡ None
    → (bytes_in addr 1 (find (covers addr 1) rest) ≡ None → readable_in addr rest ≡ [])
    → cond here (then_more (open_bytes may_read block) (addr - block.base) (readable_in (block.base + block.size) rest)) (readable_in addr rest) ≡ []
none_if true addr block rest none others = none_more addr 1 block (open_bytes may_read block) (addr - block.base) (readable_in (block.base + block.size) rest) none
none_if false addr block rest none others = others none

none_in : (addr : ℕ) (blocks : List Block) → bytes_in addr 1 (find (covers addr 1) blocks) ≡ None → readable_in addr blocks ≡ []
none_in addr [] none = refl
none_in addr (block ∷ rest) none = none_if (covers addr 1 block) addr block rest none (none_in addr rest)

pub none_readable : (space : AddressSpace) (addr : ℕ) → bytes_at may_read space addr 1 ≡ None → readable_from space addr ≡ []
unfolding bytes_at readable_from
none_readable space addr none = none_in addr space.blocks none

-- the address lies in the list of blocks
between_if : (here : Bool) (addr from end : ℕ) (block : Block) (rest : List Block) (found : Block) → covers addr 1 block ≡ here → LieBetween from (block ∷ rest) end
    → cond here (Some block) (find (covers addr 1) rest) ≡ Some found
    → (find (covers addr 1) rest ≡ Some found → (edge_of block ≤ addr) × (addr < end)) → (edge_of block ≤ end) → (from ≤ addr) × (addr < end)
between_if true addr from end block rest found is lie here others last =
    let low : from ≤ block.base = lie.0 in
    (grind (arith, nat_tests, is), grind (arith, nat_tests, is))
between_if false addr from end block rest found is lie here others last =
    let low : from ≤ block.base = lie.0 in
    let more = others here in
    (omega (arith, more.0), more.1)

last_edge : (from end : ℕ) (blocks : List Block) → LieBetween from blocks end → from ≤ end
last_edge from end [] lie = lie
last_edge from end (block ∷ rest) lie =
    let low : from ≤ block.base = lie.0 in
    let more : edge_of block ≤ end = last_edge (edge_of block) end rest lie.1 in
    omega arith

pub between : (addr from end : ℕ) (blocks : List Block) (found : Block) → LieBetween from blocks end → find (covers addr 1) blocks ≡ Some found → (from ≤ addr) × (addr < end)
between addr from end [] found lie here = cc
between addr from end (block ∷ rest) found lie here =
    between_if (covers addr 1 block) addr from end block rest found refl lie here (between addr (edge_of block) end rest found lie.1) (last_edge (edge_of block) end rest lie.1)

-- in one block
next_if : (more : Bool) (addr : ℕ) (base size at : ℕ) (bytes : List ℕ) (rest : List Block) → (nat_le base (addr + 1) && nat_le (addr + 1 + 1) (base + size)) ≡ more
    → length bytes ≡ size → base ≤ addr → addr < base + size → at ≡ addr - base
    → drop at bytes ++ readable_in (base + size) rest
    ≡ get_or bytes at 0 ∷ cond more (drop (addr + 1 - base) bytes ++ readable_in (base + size) rest) (readable_in (addr + 1) rest)
next_if true addr base size at bytes rest is len low high place =
    let within : at < length bytes = omega arith in
    let next : addr + 1 - base ≡ suc at = omega arith in
    rw (drop-cons bytes at 0 within, next) refl
next_if false addr base size at bytes rest is len low high place =
    let within : at < length bytes = omega arith in
    let end : base + size ≡ addr + 1 = grind (arith, nat_tests, is) in
    let all : drop (suc at) bytes ≡ [] = drop_all (suc at) bytes (omega arith) in
    rw (drop-cons bytes at 0 within, all, end) refl

first_taken : (at : ℕ) (bytes found : List ℕ) → at < length bytes → take 1 (drop at bytes) ≡ found → get_or bytes at 0 ≡ get_or found 0 0
first_taken at bytes found within is =
    let one : get_or bytes at 0 ∷ [] ≡ found = rw (drop-cons bytes at 0 within) at is in ap (λ list. get_or list 0 0) one

open_length_if : (may : Bool) (size : ℕ) (kind : Kind) (contents : Option (List ℕ)) (bytes : List ℕ) → HasItsBytes size kind contents → (if may then contents else None) ≡ Some bytes
    → length bytes ≡ size
open_length_if true size kind None bytes whole is = cc
open_length_if true size kind (Some all) bytes whole is = let same : all ≡ bytes = cc in rw (← same) whole
open_length_if false size kind contents bytes whole is = cc

-- a block's bytes, where they can be read, have its size
open_length : (block : Block) (bytes : List ℕ) → IsWhole block → open_bytes may_read block ≡ Some bytes → length bytes ≡ block.size
open_length block bytes whole is = open_length_if block.rights.r block.size block.kind block.contents bytes whole is

-- from the block that covers the address, whose bytes are `contents`
first_of : (contents : Option (List ℕ)) (addr : ℕ) (block : Block) (rest : List Block) (found : List ℕ) → open_bytes may_read block ≡ contents → IsWhole block
    → covers addr 1 block ≡ true → option_map (part addr 1 block) contents ≡ Some found
    → then_more contents (addr - block.base) (readable_in (block.base + block.size) rest)
    ≡ get_or found 0 0 ∷ cond (covers (addr + 1) 1 block) (then_more contents (addr + 1 - block.base) (readable_in (block.base + block.size) rest)) (readable_in (addr + 1) rest)
first_of None addr block rest found opened whole here is = cc
first_of (Some bytes) addr block rest found opened whole here is =
    let len : length bytes ≡ block.size = open_length block bytes whole opened in
    let low : block.base ≤ addr = grind (arith, nat_tests, here) in
    let high : addr < block.base + block.size = grind (arith, nat_tests, here) in
    let taken : take 1 (drop (addr - block.base) bytes) ≡ found = cc in
    rw (← first_taken (addr - block.base) bytes found (omega arith) taken)
    (next_if (covers (addr + 1) 1 block) addr block.base block.size (addr - block.base) bytes rest refl len low high refl)

-- a block that ends at or below an address doesn't cover the next
not_covered : (addr : ℕ) (block : Block) → edge_of block ≤ addr → covers (addr + 1) 1 block ≡ false
not_covered addr block below = grind (arith, nat_tests)

found_between : (found : Option Block) (addr from end : ℕ) (blocks : List Block) (bytes : List ℕ) → find (covers addr 1) blocks ≡ found → LieBetween from blocks end
    → bytes_in addr 1 found ≡ Some bytes → from ≤ addr
found_between None addr from end blocks bytes is lie some = cc
found_between (Some block) addr from end blocks bytes is lie some = (between addr from end blocks block lie is).0

next_in_if : (here : Bool) (addr from end : ℕ) (block : Block) (rest : List Block) (bytes : List ℕ) → covers addr 1 block ≡ here → LieBetween from (block ∷ rest) end → IsWhole block
    → bytes_in addr 1 (cond here (Some block) (find (covers addr 1) rest)) ≡ Some bytes
    → (bytes_in addr 1 (find (covers addr 1) rest) ≡ Some bytes → readable_in addr rest ≡ get_or bytes 0 0 ∷ readable_in (addr + 1) rest)
    → cond here (then_more (open_bytes may_read block) (addr - block.base) (readable_in (block.base + block.size) rest)) (readable_in addr rest)
    ≡ get_or bytes 0 0 ∷ readable_in (addr + 1) (block ∷ rest)
next_in_if true addr from end block rest bytes is lie whole some others = first_of (open_bytes may_read block) addr block rest bytes refl whole is some
next_in_if false addr from end block rest bytes is lie whole some others =
    let below : edge_of block ≤ addr = found_between (find (covers addr 1) rest) addr (edge_of block) end rest bytes refl lie.1 some in
    rw (not_covered addr block below) (others some)

next_in : (addr from end : ℕ) (blocks : List Block) (bytes : List ℕ) → LieBetween from blocks end → All IsWhole blocks
    → bytes_in addr 1 (find (covers addr 1) blocks) ≡ Some bytes → readable_in addr blocks ≡ get_or bytes 0 0 ∷ readable_in (addr + 1) blocks
next_in addr from end [] bytes lie whole some = cc
next_in addr from end (block ∷ rest) bytes lie whole some =
    next_in_if (covers addr 1 block) addr from end block rest bytes refl lie (whole 0 block (omega arith)) some
    (next_in addr (edge_of block) end rest bytes lie.1 (λ k d within. whole (suc k) d (omega arith)))

pub next_readable : (space : AddressSpace) (addr : ℕ) (bytes : List ℕ) → IsSound space → bytes_at may_read space addr 1 ≡ Some bytes
    → readable_from space addr ≡ get_or bytes 0 0 ∷ readable_from space (addr + 1)
unfolding bytes_at readable_from
next_readable space addr bytes sound some = next_in addr lowest space.edge space.blocks bytes sound.apart sound.whole some

low_if : (found : Option Block) (space : AddressSpace) (addr : ℕ) (bytes : List ℕ) → IsSound space → find (covers addr 1) space.blocks ≡ found → bytes_in addr 1 found ≡ Some bytes
    → addr < 2 ^ 46
low_if None space addr bytes sound is some = cc
low_if (Some block) space addr bytes sound is some =
    let below : addr < space.edge = (between addr lowest space.edge space.blocks block sound.apart is).1 in
    let top : space.next ≤ 2 ^ 46 = sound.next in
    let edge : space.edge ≤ space.next = sound.edge in
    omega arith

-- an address that can be read lies below the top
pub low_readable : (space : AddressSpace) (addr : ℕ) (bytes : List ℕ) → IsSound space → bytes_at may_read space addr 1 ≡ Some bytes → addr < 2 ^ 46
unfolding bytes_at
low_readable space addr bytes sound some = low_if (find (covers addr 1) space.blocks) space addr bytes sound refl some
