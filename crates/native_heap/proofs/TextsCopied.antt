-- A text and its zero read as that text.
use Rattle.std.proofs.Common.{◌≡◌, ◌∙◌, ℕ, suc, ◌+◌, ◌-◌, ◌<◌, nat_eq, nat_lt, Bool, true, false, not, cond, if◌then◌else◌, List, [], ◌∷◌, ◌++◌, length, take, drop, Option, Some, None, arith, refl, sym, append_assoc}
use Rattle.std.specs.Prelude.{is_some, IsSome, option_map, option_and_then}
use Rattle.std.specs.List.{find, position_or_len}
use Rattle.std.proofs.lemmas.List.{take-append-drop, length-append}
use Rattle.std.proofs.lemmas.Bool.Decides.{nat_tests}
use Rattle.native_memory.specs.AddressSpace.{Block, AddressSpace, lowest, changed}
use Rattle.native_memory.specs.Ranges.{covers, may_read, may_write, open_bytes, part, bytes_at, rest_at, write_in, with_written, written_at}
use Rattle.native_memory.specs.Placement.{edge_of}
use Rattle.native_memory.specs.Sound.{LieBetween, IsSound}
use Rattle.native_memory.specs.Laws.{Writes}
use Rattle.native_memory.proofs.Reached.{follows_on}
use Rattle.native_heap.specs.Outcome.{◌>>=◌, answering}
use Rattle.native_heap.specs.Texts.{is_zero, text_of, text_at, strcpy}
use Rattle.native_heap.specs.Laws.{TextsReadTheSame}
use Rattle.native_heap.proofs.Refusals.{answered_new}
use Rattle.native_heap.proofs.Readable.{between}
use Rattle.native_heap.proofs.ReadBack.{bytes_back, same_covers}
use Rattle.native_heap.proofs.Found.{find_changed}

found_if : (within : Bool) (byte at len : ℕ) (bytes : List ℕ) → nat_lt at len ≡ within
    → option_map (λ n. take n (byte ∷ bytes)) (cond (nat_lt (1 + at) (suc len)) (Some (1 + at)) None) ≡ option_map (λ text. byte ∷ text) (option_map (λ n. take n bytes) (cond within (Some at) None))
found_if true byte at len bytes is =
    let more : nat_lt (1 + at) (suc len) ≡ true = grind (arith, nat_tests, is) in
    let next : 1 + at ≡ suc at = omega arith in
    rw (more, next) refl
found_if false byte at len bytes is = let more : nat_lt (1 + at) (suc len) ≡ false = grind (arith, nat_tests, is) in rw more refl

-- a text byte by byte
next_if : (ends : Bool) (byte at len : ℕ) (bytes : List ℕ)
    → option_map (λ n. take n (byte ∷ bytes)) (cond (nat_lt (cond (not ends) (1 + at) 0) (suc len)) (Some (cond (not ends) (1 + at) 0)) None)
    ≡ (if ends then Some [] else option_map (λ text. byte ∷ text) (option_map (λ n. take n bytes) (cond (nat_lt at len) (Some at) None)))
next_if true byte at len bytes = let some : nat_lt 0 (suc len) ≡ true = grind (arith, nat_tests) in rw some refl
next_if false byte at len bytes = found_if (nat_lt at len) byte at len bytes refl

pub text_of-cons : (byte : ℕ) (bytes : List ℕ) → text_of (byte ∷ bytes) ≡ (if is_zero byte then Some [] else option_map (λ text. byte ∷ text) (text_of bytes))
text_of-cons byte bytes = next_if (is_zero byte) byte (position_or_len is_zero bytes) (length bytes) bytes

again_if : (ends : Bool) (byte : ℕ) (bytes text more : List ℕ) (rest : Option (List ℕ)) → is_zero byte ≡ ends → (if ends then Some [] else option_map (λ text. byte ∷ text) rest) ≡ Some text
    → ((found : List ℕ) → rest ≡ Some found → text_of (found ++ 0 ∷ more) ≡ Some found) → text_of (text ++ 0 ∷ more) ≡ Some text
again_if true byte bytes text more rest is found others =
    let same : [] ≡ text = cc in rw (← same) (text_of-cons 0 more)
again_if false byte bytes text more None is found others = cc
again_if false byte bytes text more (Some tail) is found others =
    let same : byte ∷ tail ≡ text = cc in
    rw (← same, text_of-cons byte (tail ++ 0 ∷ more), is, others tail refl) refl

-- a text that was found is found again where its bytes and a zero stand
pub text_again : (bytes text more : List ℕ) → text_of bytes ≡ Some text → text_of (text ++ 0 ∷ more) ≡ Some text
text_again [] text more found = cc
text_again (byte ∷ bytes) text more found =
    again_if (is_zero byte) byte bytes text more (text_of bytes) refl (sym (text_of-cons byte bytes) ∙ found) (λ tail is. text_again bytes tail more is)

-- the block that covers a range is the one that covers its first byte
one_if : (here first : Bool) (addr len from end : ℕ) (block found : Block) (rest : List Block) → covers addr len block ≡ here → covers addr 1 block ≡ first → 0 < len
    → LieBetween from (block ∷ rest) end → cond here (Some block) (find (covers addr len) rest) ≡ Some found
    → (find (covers addr len) rest ≡ Some found → find (covers addr 1) rest ≡ Some found)
    → cond first (Some block) (find (covers addr 1) rest) ≡ Some found
one_if true true addr len from end block found rest is also some lie read others = read
one_if true false addr len from end block found rest is also some lie read others =
    absurd (grind (arith, nat_tests, is, also))
one_if false true addr len from end block found rest is also some lie read others =
    let behind = (between addr (edge_of block) end rest found lie.1 (others read)).0 in
    absurd (grind (arith, nat_tests, also, behind))
one_if false false addr len from end block found rest is also some lie read others = others read

one : (addr len from end : ℕ) (blocks : List Block) (found : Block) → 0 < len → LieBetween from blocks end → find (covers addr len) blocks ≡ Some found → find (covers addr 1) blocks ≡ Some found
one addr len from end [] found some lie read = cc
one addr len from end (block ∷ rest) found some lie read =
    one_if (covers addr len block) (covers addr 1 block) addr len from end block found rest refl refl some lie read (one addr len (edge_of block) end rest found some lie.1)

covered_if : (none may : Bool) (found : Option Block) (old new : AddressSpace) (addr : ℕ) (from : List ℕ) → nat_eq (length from) 0 ≡ none → 0 < length from
    → find (covers addr (length from)) old.blocks ≡ found
    → is_some (cond none (Some []) (option_and_then (λ block. option_map (part addr (length from) block) (open_bytes may_write block)) found)) ≡ may
    → cond none (Some old) (cond may (Some (with_written old addr from)) None) ≡ Some new → is_some (find (covers addr (length from)) new.blocks) ≡ true
covered_if true may found old new addr from none some is held written = absurd (grind (arith, nat_tests, none))
covered_if false false found old new addr from none some is held written = cc
covered_if false true None old new addr from none some is held written = cc
covered_if false true (Some block) old new addr from none some is held written =
    let same : with_written old addr from ≡ new = cc in
    let keeps = find_changed (covers addr (length from)) (changed (covers addr (length from)) (write_in addr from)) old.blocks (same_covers addr (length from) addr (length from) from) in
    rw (← same, keeps, is) refl

-- a range that was written lies in a block
covered : (old new : AddressSpace) (addr : ℕ) (from : List ℕ) → 0 < length from → written_at old addr from ≡ Some new → is_some (find (covers addr (length from)) new.blocks) ≡ true
unfolding written_at bytes_at
covered old new addr from some written =
    covered_if (nat_eq (length from) 0) (is_some (bytes_at may_write old addr (length from))) (find (covers addr (length from)) old.blocks) old new addr from refl some refl refl written

front_of : (opened : Option (List ℕ)) (at len : ℕ) (rest : List ℕ) → option_map (drop at) opened ≡ Some rest → option_map (λ all. take len (drop at all)) opened ≡ Some (take len rest)
front_of None at len rest is = cc
front_of (Some all) at len rest is = let same : drop at all ≡ rest = cc in rw same refl

front_if : (found : Option Block) (space : AddressSpace) (addr len : ℕ) (rest : List ℕ) → find (covers addr len) space.blocks ≡ found → is_some found ≡ true → 0 < len → IsSound space
    → option_and_then (λ block. option_map (drop (addr - block.base)) (open_bytes may_read block)) (find (covers addr 1) space.blocks) ≡ Some rest
    → option_and_then (λ block. option_map (part addr len block) (open_bytes may_read block)) found ≡ Some (take len rest)
front_if None space addr len rest is here some sound read = cc
front_if (Some block) space addr len rest is here some sound read =
    let first = one addr len lowest space.edge space.blocks block some sound.apart is in
    front_of (open_bytes may_read block) (addr - block.base) len rest (rw first at read)

-- the front of what can be read from an address on, where it lies in a block
front : (space : AddressSpace) (addr len : ℕ) (rest : List ℕ) → is_some (find (covers addr len) space.blocks) ≡ true → 0 < len → IsSound space → rest_at space addr ≡ Some rest
    → bytes_at may_read space addr len ≡ Some (take len rest)
unfolding rest_at bytes_at
front space addr len rest here some sound read =
    let none : nat_eq len 0 ≡ false = grind (arith, nat_tests) in
    rw none (front_if (find (covers addr len) space.blocks) space addr len rest refl here some sound read)

-- the text and its zero stand at the front
stands_if : (rest : Option (List ℕ)) (old new : AddressSpace) (to : ℕ) (bytes text : List ℕ) → rest_at new to ≡ rest → IsSome rest → IsSound old → text_of bytes ≡ Some text
    → written_at old to (text ++ 0 ∷ []) ≡ Some new → (rest >>= text_of) ≡ Some text
stands_if None old new to bytes text is some sound found written = cc
stands_if (Some rest) old new to bytes text is some sound found written =
    let copy : List ℕ = text ++ 0 ∷ [] in
    let long : 0 < length copy = grind (arith, length-append) in
    let after = follows_on old new sound (Writes old new to copy written) in
    let read = front new to (length copy) rest (covered old new to copy long written) long after.sound is in
    let same : take (length copy) rest ≡ copy = bytes_back old new to copy (take (length copy) rest) sound written read in
    let whole : copy ++ drop (length copy) rest ≡ rest = rw same at (take-append-drop (length copy) rest) in
    let parts : text ++ 0 ∷ drop (length copy) rest ≡ rest = sym (append_assoc text (0 ∷ []) (drop (length copy) rest)) ∙ whole in
    rw (← parts) (text_again bytes text (drop (length copy) rest) found)

copied_if : (text rest : Option (List ℕ)) (old new : AddressSpace) (to from answer : ℕ) (bytes : List ℕ) → text_of bytes ≡ text → rest_at new to ≡ rest → IsSome rest → IsSound old
    → (text >>= λ found. answering to (written_at old to (found ++ 0 ∷ []))) ≡ Some (answer, new) → (rest >>= text_of) ≡ text
copied_if None rest old new to from answer bytes is there some sound done = cc
copied_if (Some text) rest old new to from answer bytes is there some sound done =
    stands_if rest old new to bytes text there some sound is (answered_new to answer (written_at old to (text ++ 0 ∷ [])) new done)

copied_from : (source : Option (List ℕ)) (old new : AddressSpace) (to from answer : ℕ) → rest_at old from ≡ source → IsSome (rest_at new to) → IsSound old
    → ((source >>= text_of) >>= λ found. answering to (written_at old to (found ++ 0 ∷ []))) ≡ Some (answer, new) → (rest_at new to >>= text_of) ≡ (source >>= text_of)
copied_from None old new to from answer is some sound done = cc
copied_from (Some bytes) old new to from answer is some sound done =
    copied_if (text_of bytes) (rest_at new to) old new to from answer bytes refl refl some sound done

pub texts_copied : TextsReadTheSame
unfolding strcpy text_at
texts_copied old new to from answer sound done some = copied_from (rest_at old from) old new to from answer refl some sound done
