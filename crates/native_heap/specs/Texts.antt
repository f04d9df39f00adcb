-- Texts that end with a zero (ISO/IEC 9899 7.24). A text stands in one block. Where that standard
-- leaves room: `strcpy` copies as `memmove` does, also where the text and the copy overlap;
-- `strcmp` answers -1, 0 or 1, as a word of 64 bits, and asks for no byte after those that decide.
use Rattle.std.specs.Prelude.{ℕ, ◌+◌, ◌-◌, Bool, List, [], ◌∷◌, ◌++◌, length, take, drop}
use Rattle.std.specs.Prelude.{Option, Some, None, option_map, if◌then◌else◌, ◌==◌}
use Rattle.std.specs.List.{position}
use Rattle.std.specs.Ordering.{nat_cmp}
use Rattle.native_memory.specs.AddressSpace.{Block, AddressSpace}
use Rattle.native_memory.specs.Ranges.{covers, may_read, open_bytes, rest_at, written_at}
use Rattle.native_heap.specs.Outcome.{Outcome, ◌>>=◌, reading, answering}
use Rattle.native_heap.specs.Bytes.{sign}

-- the byte that ends a text
abbrev pub is_zero : ℕ → Bool
is_zero byte = byte == 0

-- the bytes before the first zero; None where there is none
abbrev pub text_of : List ℕ → Option (List ℕ)
text_of bytes = option_map (λ len. take len bytes) (position is_zero bytes)

-- the text at an address
unfoldable pub text_at : AddressSpace → ℕ → Option (List ℕ)
text_at space s = rest_at space s >>= text_of

-- `strlen` (7.24.6.3): how many bytes the text has
unfoldable pub strlen : AddressSpace → ℕ → Outcome
strlen space s = reading space (option_map (λ text. length text) (text_at space s))

-- `strcpy` (7.24.2.3): the text that stood at `from` stands at `to`, and its zero
unfoldable pub strcpy : AddressSpace → ℕ → ℕ → Outcome
strcpy space to from =
    text_at space from >>= λ text. answering to (written_at space to (text ++ 0 ∷ []))

-- the bytes of a block from one of its addresses on, and more after them; none where it can't be
-- read
abbrev pub then_more : Option (List ℕ) → ℕ → List ℕ → List ℕ
then_more (Some bytes) at more = drop at bytes ++ more
then_more None at more = []

-- the bytes from an address on, as far as each can be read: to the end of its block, and on in a
-- block that begins there
abbrev pub readable_in : ℕ → List Block → List ℕ
readable_in addr [] = []
readable_in addr (block ∷ rest) =
    if covers addr 1 block
    then
    then_more (open_bytes may_read block) (addr - block.base)
    (readable_in (block.base + block.size) rest)
    else readable_in addr rest

-- the same among the live blocks
unfoldable pub readable_from : AddressSpace → ℕ → List ℕ
readable_from space addr = readable_in addr space.blocks

-- texts in order: by the first bytes that differ, equal where both end before; None where the bytes
-- end first
abbrev pub text_order : List ℕ → List ℕ → Option ℕ
text_order [] right = None
text_order (a ∷ left) [] = None
text_order (a ∷ left) (b ∷ right) =
    if a == b then (if is_zero a then Some 0 else text_order left right)
    else Some (sign (nat_cmp a b))

-- `strcmp` (7.24.4.2)
unfoldable pub strcmp : AddressSpace → ℕ → ℕ → Outcome
strcmp space a b =
    reading space (text_order (readable_from space a) (readable_from space b))
