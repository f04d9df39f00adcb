-- Where host functions stand.
use Rattle.std.proofs.Common.{◌≡◌, ℕ, ◌+◌, ◌<◌, ◌≤◌, Bool, true, false, List, [], ◌∷◌, length, get_or, Option, Some, None, refl, sym, ap, ◌∙◌, arith}
use Rattle.std.specs.Prelude.{position, find, bytes_eq, option_map, nat_le, nat_lt, ◌&&◌}
use Rattle.std.specs.List.{position_or_len, All}
use Rattle.std.proofs.lemmas.List.Elements.{All-nil, All-cons}
use Rattle.std.proofs.lemmas.List.Folds.{find_at as find_by_place}
use Rattle.std.proofs.lemmas.Option.{cond_some, same_Some, slice_get-get_or}
use Rattle.std.proofs.lemmas.Slice.Eq.{bytes_eq-Decides}
use borrow.Author.Tests.{ltb-true, leb-true}
use Rattle.native_memory.specs.AddressSpace.{Block, AddressSpace, lowest}
use Rattle.native_memory.specs.Placement.{base_of, edge_of, holds_address}
use Rattle.native_memory.specs.Sound.{LieBetween, IsSound}
use Rattle.host_functions.specs.HostFunctions.{host_functions, host_names, host_place, place_named}
use Rattle.elf_binder.specs.Laws.{IsHostPlace}
use Rattle.elf_binder.proofs.Finding.{find_none, found_passes}

-- what stands at the place of a text
placed_text : (texts : List (List ℕ)) (text : List ℕ) (k : ℕ) → position (λ t. bytes_eq t text) texts ≡ Some k → (k < length texts) × (get_or texts k [] ≡ text)
placed_text texts text k is =
    let test = λ (t : List ℕ). bytes_eq t text in
    let both = cond_some (nat_lt (position_or_len test texts) (length texts)) (position_or_len test texts) k is in
    let within : position_or_len test texts < length texts = ltb-true _ _ both.0 in
    let here : find test texts ≡ Some (get_or texts k []) = find_by_place test texts ∙ slice_get-get_or texts (position_or_len test texts) [] within ∙ ap (λ (j : ℕ). Some (get_or texts j [])) both.1 in
    (omega (arith, both.1), (bytes_eq-Decides (get_or texts k []) text).0 (found_passes test texts (get_or texts k []) here))

-- the number of the function at an address
numbered : (found : Option ℕ) (address : ℕ) → option_map host_place found ≡ Some address → (k : ℕ) × (found ≡ Some k) × (host_place k ≡ address)
numbered None address is = cc
numbered (Some k) address is = (k, refl, same_Some (host_place k) address is)

above : (addr : ℕ) (block : Block) (b : Bool) → nat_le block.base addr ≡ b → addr < block.base → (b && nat_le (addr + 1) (block.base + block.size)) ≡ false
above addr block true is less = absurd (omega (arith, leb-true block.base addr is))
above addr block false is less = refl

-- no block that lies from a place on holds an address below it
none_below : (addr from end : ℕ) (blocks : List Block) → LieBetween from blocks end → addr < from → All (λ block. holds_address addr block ≡ false) blocks
none_below addr from end [] lie less = All-nil (λ (block : Block). holds_address addr block ≡ false)
none_below addr from end (block ∷ rest) lie less =
    let low : from ≤ block.base = lie.0 in
    All-cons (λ (b : Block). holds_address addr b ≡ false) block rest
    (above addr block (nat_le block.base addr) refl (omega arith))
    (none_below addr (edge_of block) end rest lie.1 (omega arith))

outside_blocks : (address : ℕ) (space : AddressSpace) → IsSound space → address < lowest → base_of space address ≡ None
unfolding base_of
outside_blocks address space sound less =
    ap (option_map (λ (block : Block). block.base)) (find_none (holds_address address) space.blocks (none_below address lowest space.edge space.blocks sound.apart less))

module _ (name : List ℕ) (address : ℕ) (is : place_named name ≡ Some address) where
  pub host_place_is : IsHostPlace name address
  host_place_is =
      let here = numbered (position (λ host. bytes_eq host name) host_names) address is in
      let named = placed_text host_names name here.0 here.1 in
      let counted : here.0 < length host_functions = named.0 in
      record {
        alone = λ other there.
            let his = numbered (position (λ host. bytes_eq host other) host_names) address there in
            let same : his.0 ≡ here.0 = omega (arith, his.2, here.2) in
            sym (placed_text host_names other his.0 his.1).1 ∙ ap (λ (k : ℕ). get_or host_names k []) same ∙ named.1;
        number = here.0;
        counted = counted;
        there = sym here.2;
        outside = λ space sound. outside_blocks address space sound (omega (arith, here.2));
      }
