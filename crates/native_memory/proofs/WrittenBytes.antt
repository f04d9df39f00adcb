-- A write changes the bytes of its range and no others.
use Rattle.std.proofs.Common.{◌≡◌, ℕ, zero, suc, ◌+◌, ◌-◌, ◌<◌, ◌≤◌, nat_le, nat_lt, nat_eq, Bool, true, false, ◌&&◌, cond, if◌then◌else◌, List, [], ◌∷◌, ◌++◌, length, get_or, take, drop, map, Option, Some, None, arith, ap, ◌∙◌, refl, subst}
use Rattle.std.specs.Prelude.{is_some, option_map, option_and_then, slice_get}
use Rattle.std.specs.List.{find}
use Rattle.std.proofs.lemmas.Bool.Decides.{nat_tests}
use Rattle.std.proofs.lemmas.List.{length-append, length-take}
use Rattle.native_memory.specs.declared.kind.Kind.{Kind}
use Rattle.native_memory.specs.AddressSpace.{Block, AddressSpace, changed}
use Rattle.native_memory.specs.Ranges.{covers, overwritten, open_bytes, part, write_in, may_write, bytes_at, with_written, written_at}
use Rattle.native_memory.specs.Placement.{edge_of, holds_address}
use Rattle.native_memory.specs.Sound.{HasItsBytes, IsWhole, LieBetween, IsSound}
use Rattle.native_memory.specs.Search.{PicksAt}
use Rattle.native_memory.specs.Laws.{byte_at}
use Rattle.native_memory.proofs.Picks.{AsksFor, asks_address, find_picked, first_base, fails_above}
use Rattle.native_memory.proofs.Kept.{KeepsPlace, changed_keeps, writes_keep}

-- lists, element by element

get-left : (xs ys : List ℕ) (k : ℕ) → k < length xs → slice_get (xs ++ ys) k ≡ slice_get xs k
get-left [] ys k within = absurd (omega arith)
get-left (x ∷ xs) ys zero within = refl
get-left (x ∷ xs) ys (suc k) within = get-left xs ys k (omega arith)

get-right : (xs ys : List ℕ) (n k : ℕ) → length xs ≡ n → slice_get (xs ++ ys) (n + k) ≡ slice_get ys k
get-right [] ys n k len = let e : n + k ≡ k = omega arith in rw e refl
get-right (x ∷ xs) ys zero k len = absurd (omega arith)
get-right (x ∷ xs) ys (suc n) k len = let e : suc n + k ≡ suc (n + k) = omega arith in rw e (get-right xs ys n k (omega arith))

get-take : (n k : ℕ) (xs : List ℕ) → k < n → slice_get (take n xs) k ≡ slice_get xs k
get-take zero k xs within = absurd (omega arith)
get-take (suc n) k [] within = refl
get-take (suc n) zero (x ∷ xs) within = refl
get-take (suc n) (suc k) (x ∷ xs) within = get-take n k xs (omega arith)

get-drop : (n k : ℕ) (xs : List ℕ) → slice_get (drop n xs) k ≡ slice_get xs (n + k)
get-drop zero k xs = let e : 0 + k ≡ k = omega arith in rw e refl
get-drop (suc n) k [] = refl
get-drop (suc n) k (x ∷ xs) = let e : suc n + k ≡ suc (n + k) = omega arith in rw e (get-drop n k xs)

get-before : (bytes : List ℕ) (at : ℕ) (from : List ℕ) (k : ℕ) → at ≤ length bytes → k < at → slice_get (overwritten bytes at from) k ≡ slice_get bytes k
get-before bytes at from k fits before =
    let first : k < length (take at bytes) = simp length-take (omega arith) in
    get-left (take at bytes ++ from) (drop (at + length from) bytes) k (simp length-append (omega arith)) ∙ get-left (take at bytes) from k first ∙ get-take at k bytes before

get-within : (bytes : List ℕ) (at : ℕ) (from : List ℕ) (k : ℕ) → at ≤ length bytes → k < length from → slice_get (overwritten bytes at from) (at + k) ≡ slice_get from k
get-within bytes at from k fits within =
    let len : length (take at bytes) ≡ at = simp length-take (omega arith) in
    get-left (take at bytes ++ from) (drop (at + length from) bytes) (at + k) (simp length-append (omega arith)) ∙ get-right (take at bytes) from at k len

get-behind : (bytes : List ℕ) (at : ℕ) (from : List ℕ) (k : ℕ) → at ≤ length bytes → slice_get (overwritten bytes at from) (at + length from + k) ≡ slice_get bytes (at + length from + k)
get-behind bytes at from k fits =
    let len : length (take at bytes ++ from) ≡ at + length from = simp (length-append, length-take) (omega arith) in
    get-right (take at bytes ++ from) (drop (at + length from) bytes) (at + length from) k len ∙ get-drop (at + length from) k bytes

-- the byte that a block has at an address
abbrev byte_of : ℕ → Block → Option ℕ
byte_of place block = option_and_then (λ bytes. slice_get bytes (place - block.base)) block.contents

contents_inside : (addr : ℕ) (from : List ℕ) (place base size : ℕ) (kind : Kind) (contents : Option (List ℕ)) → HasItsBytes size kind contents → base ≤ addr → addr + length from ≤ base + size
    → addr ≤ place → place < addr + length from → is_some contents ≡ true
    → option_and_then (λ bytes. slice_get bytes (place - base)) (option_map (λ bytes. overwritten bytes (addr - base) from) contents) ≡ slice_get from (place - addr)
contents_inside addr from place base size kind None whole low high after before some = cc
contents_inside addr from place base size kind (Some bytes) whole low high after before some =
    let len : length bytes ≡ size = whole in
    let e : place - base ≡ (addr - base) + (place - addr) = omega arith in
    rw e (get-within bytes (addr - base) from (place - addr) (omega arith) (omega arith))

outside_on : (before : Bool) (addr : ℕ) (from : List ℕ) (place base : ℕ) (bytes : List ℕ) → nat_lt place addr ≡ before → addr - base ≤ length bytes → base ≤ addr → base ≤ place
    → (nat_le addr place && nat_lt place (addr + length from)) ≡ false → slice_get (overwritten bytes (addr - base) from) (place - base) ≡ slice_get bytes (place - base)
outside_on true addr from place base bytes is fits low here out =
    let first : place < addr = grind (arith, nat_tests, is) in get-before bytes (addr - base) from (place - base) fits (omega arith)
outside_on false addr from place base bytes is fits low here out =
    let last : addr + length from ≤ place = grind (arith, nat_tests, is, out) in
    let e : place - base ≡ (addr - base) + length from + (place - (addr + length from)) = omega arith in
    rw e (get-behind bytes (addr - base) from (place - (addr + length from)) fits)

contents_outside : (addr : ℕ) (from : List ℕ) (place base size : ℕ) (kind : Kind) (contents : Option (List ℕ)) → HasItsBytes size kind contents → base ≤ addr → addr + length from ≤ base + size
    → base ≤ place → (nat_le addr place && nat_lt place (addr + length from)) ≡ false
    → option_and_then (λ bytes. slice_get bytes (place - base)) (option_map (λ bytes. overwritten bytes (addr - base) from) contents) ≡ option_and_then (λ bytes. slice_get bytes (place - base)) contents
contents_outside addr from place base size kind None whole low high here out = refl
contents_outside addr from place base size kind (Some bytes) whole low high here out =
    let len : length bytes ≡ size = whole in
    outside_on (nat_lt place addr) addr from place base bytes refl (omega arith) low here out

-- a block after the write, at an address outside of the range
block_outside : (covered : Bool) (addr : ℕ) (from : List ℕ) (place : ℕ) (block : Block) → covers addr (length from) block ≡ covered → IsWhole block → holds_address place block ≡ true
    → (nat_le addr place && nat_lt place (addr + length from)) ≡ false → byte_of place (if covered then write_in addr from block else block) ≡ byte_of place block
block_outside true addr from place block is whole holds out =
    contents_outside addr from place block.base block.size block.kind block.contents whole (grind (arith, nat_tests, is)) (grind (arith, nat_tests, is)) (grind (arith, nat_tests, holds)) out
block_outside false addr from place block is whole holds out = refl

-- what a search finds stands in the list and passes the test
pub record Found (test : Block → Bool) (blocks : List Block) (block : Block) : Type 0 where
  pub at : ℕ
  pub within : at < length blocks
  pub is : (d : Block) → get_or blocks at d ≡ block
  pub passes : test block ≡ true

found_if : (passes : Bool) (test : Block → Bool) (first : Block) (rest : List Block) (block : Block) → test first ≡ passes → cond passes (Some first) (find test rest) ≡ Some block
    → (find test rest ≡ Some block → Found test rest block) → Found test (first ∷ rest) block
found_if true test first rest block is found others =
    let e : first ≡ block = cc in
    record { at = 0; within = omega arith; is = λ d. e; passes = rw (← e) is }
found_if false test first rest block is found others =
    let more : Found test rest block = others found in
    record { at = suc more.at; within = omega (arith, more.within); is = more.is; passes = more.passes }

found_in : (test : Block → Bool) (blocks : List Block) (block : Block) → find test blocks ≡ Some block → Found test blocks block
found_in test [] block found = cc
found_in test (first ∷ rest) block found = found_if (test first) test first rest block refl found (found_in test rest block)

not_below_if : (below : Bool) (addr edge : ℕ) → nat_le edge addr ≡ below → (edge ≤ addr → ⊥) → addr < edge
not_below_if true addr edge is never = absurd (never (grind (arith, nat_tests, is)))
not_below_if false addr edge is never = grind (arith, nat_tests, is)

not_below : (test : Block → Bool) (addr : ℕ) (block : Block) → AsksFor test addr → test block ≡ true → addr < edge_of block
not_below test addr block asks passes =
    not_below_if (nat_le (edge_of block) addr) addr (edge_of block) refl (λ past. let fails : test block ≡ false = asks.below block past in cc)

not_above_if : (low : Bool) (addr base : ℕ) → nat_le base addr ≡ low → (addr < base → ⊥) → base ≤ addr
not_above_if true addr base is never = grind (arith, nat_tests, is)
not_above_if false addr base is never = absurd (never (grind (arith, nat_tests, is)))

not_above : (test : Block → Bool) (addr : ℕ) (block : Block) → AsksFor test addr → test block ≡ true → block.base ≤ addr
not_above test addr block asks passes =
    not_above_if (nat_le block.base addr) addr block.base refl (λ above. let fails : test block ≡ false = asks.above block above in cc)

-- in a list of blocks that lie apart, the one that passes is the only one
alone : (test : Block → Bool) (addr from end : ℕ) (blocks : List Block) (at : ℕ) → AsksFor test addr → LieBetween from blocks end → at < length blocks
    → ((d : Block) → test (get_or blocks at d) ≡ true) → PicksAt test blocks at
alone test addr from end [] at asks lie within passes = absurd (omega arith)
alone test addr from end (block ∷ rest) zero asks lie within passes = (
  passes block,
  fails_above test addr rest asks (λ k d more.
      let first : edge_of block ≤ (get_or rest k d).base = first_base (edge_of block) end rest k d lie.1 more in
      let holds : addr < edge_of block = not_below test addr block asks (passes block) in omega arith),
)
alone test addr from end (block ∷ rest) (suc at) asks lie within passes =
    let first : edge_of block ≤ (get_or rest at block).base = first_base (edge_of block) end rest at block lie.1 (omega arith) in
    let low : (get_or rest at block).base ≤ addr = not_above test addr (get_or rest at block) asks (passes block) in
    (asks.below block (omega arith), alone test addr (edge_of block) end rest at asks lie.1 (omega arith) passes)

mapped_if : (passes : Bool) (test : Block → Bool) (change : Block → Block) (block : Block) (rest : List Block) → find test (map change rest) ≡ option_map change (find test rest)
    → cond passes (Some (change block)) (find test (map change rest)) ≡ option_map change (cond passes (Some block) (find test rest))
mapped_if true test change block rest more = refl
mapped_if false test change block rest more = more

find_mapped : (test : Block → Bool) (change : Block → Block) (blocks : List Block) → ((block : Block) → test (change block) ≡ test block)
    → find test (map change blocks) ≡ option_map change (find test blocks)
find_mapped test change [] keeps = refl
find_mapped test change (block ∷ rest) keeps = rw (keeps block) (mapped_if (test block) test change block rest (find_mapped test change rest keeps))

-- the change that a write makes of each block
abbrev write_of : ℕ → List ℕ → Block → Block
write_of addr from = changed (covers addr (length from)) (write_in addr from)

byte_new : (old : AddressSpace) (addr : ℕ) (from : List ℕ) (place : ℕ)
    → byte_at (with_written old addr from) place ≡ option_and_then (byte_of place) (option_map (write_of addr from) (find (holds_address place) old.blocks))
byte_new old addr from place =
    let keeps : KeepsPlace (write_of addr from) = changed_keeps (covers addr (length from)) (write_in addr from) (writes_keep addr from) in
    ap (option_and_then (byte_of place)) (find_mapped (holds_address place) (write_of addr from) old.blocks (λ block. rw (keeps.base block, keeps.size block) refl))

whole_in : (old : AddressSpace) (test : Block → Bool) (block : Block) → IsSound old → Found test old.blocks block → IsWhole block
whole_in old test block sound found = let P : Block → Type 0 = λ b. IsWhole b in subst P (found.is block) (sound.whole found.at block found.within)

outside_found : (old : AddressSpace) (addr : ℕ) (from : List ℕ) (place : ℕ) (found : Option Block) → IsSound old → find (holds_address place) old.blocks ≡ found
    → (nat_le addr place && nat_lt place (addr + length from)) ≡ false → option_and_then (byte_of place) (option_map (write_of addr from) found) ≡ option_and_then (byte_of place) found
outside_found old addr from place None sound is out = refl
outside_found old addr from place (Some block) sound is out =
    let here : Found (holds_address place) old.blocks block = found_in (holds_address place) old.blocks block is in
    block_outside (covers addr (length from) block) addr from place block refl (whole_in old (holds_address place) block sound here) here.passes out

-- the block that a write changes
record Writes (old : AddressSpace) (addr len : ℕ) : Type 0 where
  block : Block
  found : find (covers addr len) old.blocks ≡ Some block
  here : is_some block.contents ≡ true

open_if : (right : Bool) (contents : Option (List ℕ)) (f : List ℕ → List ℕ) → is_some (option_map f (if right then contents else None)) ≡ true → is_some contents ≡ true
open_if true (Some bytes) f some = refl
open_if true None f some = some
open_if false contents f some = cc

writes_if : (old : AddressSpace) (addr len : ℕ) (found : Option Block) → find (covers addr len) old.blocks ≡ found
    → is_some (option_and_then (λ block. option_map (part addr len block) (open_bytes may_write block)) found) ≡ true → Writes old addr len
writes_if old addr len None is some = cc
writes_if old addr len (Some block) is some = record { block = block; found = is; here = open_if block.rights.w block.contents (part addr len block) some }

zero_of : (len : ℕ) → nat_eq len 0 ≡ true → len ≡ 0
zero_of len is = grind (arith, nat_tests, is)

zero_not : (len : ℕ) → nat_eq len 0 ≡ true → 0 < len → ⊥
zero_not len is more = omega (arith, zero_of len is)

some_if : (none : Bool) (space : AddressSpace) (addr len : ℕ) → nat_eq len 0 ≡ none → 0 < len
    → is_some (if none then Some [] else option_and_then (λ block. option_map (part addr len block) (open_bytes may_write block)) (find (covers addr len) space.blocks)) ≡ true → Writes space addr len
some_if true space addr len is more some = absurd (zero_not len is more)
some_if false space addr len is more some = writes_if space addr len (find (covers addr len) space.blocks) refl some

writes_of : (space : AddressSpace) (addr len : ℕ) → 0 < len → is_some (bytes_at may_write space addr len) ≡ true → Writes space addr len
unfolding bytes_at
writes_of space addr len more some = some_if (nat_eq len 0) space addr len refl more some

inside_is : (old : AddressSpace) (addr : ℕ) (from : List ℕ) (place : ℕ) → IsSound old → Writes old addr (length from) → addr ≤ place → place < addr + length from
    → option_and_then (byte_of place) (option_map (write_of addr from) (find (holds_address place) old.blocks)) ≡ slice_get from (place - addr)
inside_is old addr from place sound writes after before =
    let block : Block = writes.block in
    let here : Found (covers addr (length from)) old.blocks block = found_in (covers addr (length from)) old.blocks block writes.found in
    let low : block.base ≤ addr = grind (arith, nat_tests, here.passes) in
    let high : addr + length from ≤ block.base + block.size = grind (arith, nat_tests, here.passes) in
    let holds : holds_address place block ≡ true = grind (arith, nat_tests) in
    let picks : PicksAt (holds_address place) old.blocks here.at =
    alone (holds_address place) place _ _ old.blocks here.at (asks_address place) sound.apart here.within (λ d. rw (here.is d) holds) in
    rw (find_picked (holds_address place) old.blocks here.at block picks, here.is block, here.passes)
    (contents_inside addr from place block.base block.size block.kind block.contents (whole_in old (covers addr (length from)) block sound here) low high after before writes.here)

range_if : (inside : Bool) (old : AddressSpace) (addr : ℕ) (from : List ℕ) (place : ℕ) → (nat_le addr place && nat_lt place (addr + length from)) ≡ inside → IsSound old → Writes old addr (length from)
    → byte_at (with_written old addr from) place ≡ (if inside then slice_get from (place - addr) else byte_at old place)
range_if true old addr from place is sound writes =
    byte_new old addr from place ∙ inside_is old addr from place sound writes (grind (arith, nat_tests, is)) (grind (arith, nat_tests, is))
range_if false old addr from place is sound writes =
    byte_new old addr from place ∙ outside_found old addr from place (find (holds_address place) old.blocks) sound refl is

abbrev byte_after : AddressSpace → ℕ → List ℕ → ℕ → Option ℕ
byte_after old addr from place = if nat_le addr place && nat_lt place (addr + length from) then slice_get from (place - addr) else byte_at old place

past : (low : Bool) (addr place : ℕ) → nat_le addr place ≡ low → (low && nat_lt place (addr + 0)) ≡ false
past true addr place is = grind (arith, nat_tests, is)
past false addr place is = refl

none_after : (old : AddressSpace) (addr : ℕ) (from : List ℕ) (place : ℕ) → length from ≡ 0 → byte_at old place ≡ byte_after old addr from place
none_after old addr from place none =
    let out : (nat_le addr place && nat_lt place (addr + length from)) ≡ false = rw none (past (nat_le addr place) addr place refl) in rw out refl

-- by the two tests of a write: it is of no bytes, or a block may be written
written_if : (none some : Bool) (old new : AddressSpace) (addr : ℕ) (from : List ℕ) (place : ℕ) → nat_eq (length from) 0 ≡ none → is_some (bytes_at may_write old addr (length from)) ≡ some
    → (if none then Some old else if some then Some (with_written old addr from) else None) ≡ Some new → IsSound old → byte_at new place ≡ byte_after old addr from place
written_if true some old new addr from place none here is sound =
    let e : old ≡ new = cc in rw (← e) (none_after old addr from place (grind (arith, nat_tests, none)))
written_if false true old new addr from place none here is sound =
    let e : with_written old addr from ≡ new = cc in
    rw (← e) (range_if (nat_le addr place && nat_lt place (addr + length from)) old addr from place refl sound
    (writes_of old addr (length from) (grind (arith, nat_tests, none)) here))
written_if false false old new addr from place none here is sound = cc

pub written_bytes : (old new : AddressSpace) (addr : ℕ) (from : List ℕ) → IsSound old → written_at old addr from ≡ Some new → (place : ℕ) → byte_at new place ≡ byte_after old addr from place
unfolding written_at
written_bytes old new addr from sound is place =
    written_if (nat_eq (length from) 0) (is_some (bytes_at may_write old addr (length from))) old new addr from place refl refl is sound
