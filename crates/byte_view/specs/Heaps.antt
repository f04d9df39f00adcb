-- The heaps of metadata and their entries (ECMA-335 II.24.2.3 and II.24.2.4).
use Rattle.std.specs.Prelude.{ℕ, ◌+◌, ◌*◌, ◌/◌, ◌==◌, nat_le, List, length, map, take, drop, position, Option, Some, None, option_map, option_and_then, if◌then◌else◌}
use Rattle.std.specs.List.{range_with_len}
use Rattle.byte_view.specs.Numbers.{le, compressed_at}

-- the bytes at a place up to a zero, where there is one
unfoldable pub text_at : List ℕ → ℕ → Option (List ℕ)
text_at bytes at =
    option_map (λ n. take n (drop at bytes)) (position (λ byte. byte == 0) (drop at bytes))

-- the bytes of the entry at a place of `#Blob` or `#US`: a compressed length, and so many bytes
unfoldable pub blob_at : List ℕ → ℕ → Option (List ℕ)
blob_at heap at =
    option_and_then (λ size.
    if nat_le (at + size.1 + size.0) (length heap)
    then Some (take size.0 (drop (at + size.1) heap))
    else None)
    (compressed_at heap at)

-- bytes as UTF-16 units, lowest byte first; an odd last byte belongs to none
abbrev pub units_of : List ℕ → List ℕ
units_of bytes = map (λ k. le bytes (2 * k) 2) (range_with_len 0 (length bytes / 2))

-- the units of the entry at a place of `#US`
abbrev pub user_string_at : List ℕ → ℕ → Option (List ℕ)
user_string_at heap at = option_map units_of (blob_at heap at)
