-- Shifts of a word that lose nothing, and what stands behind them.
use Rattle.std.proofs.Common.{◌≡◌, ℕ, ◌+◌, ◌*◌, ◌%◌, ◌^◌, ◌<◌, bit_or, arith}
use Rattle.std.proofs.lemmas.Nat.{one_shl, or_shifted, pow_below}

-- `1 << width` of a width that a signed number has room for
pub one_shifted : (width : ℕ) → width < 31 → (1 * 2 ^ width % 4294967296 ≡ 2 ^ width) × (2 ^ width < 2 ^ 31)
one_shifted width small = (one_shl width 32 (omega arith), pow_below width 31 small)

-- `high << width | low`, where the whole fits
pub behind : (high low width : ℕ) → low < 2 ^ width → high * 2 ^ width + low < 4294967296 → bit_or (high * 2 ^ width % 4294967296) low ≡ high * 2 ^ width + low
behind high low width low_lt fits =
    let whole : high * 2 ^ width % 4294967296 ≡ high * 2 ^ width = omega arith in
    rw whole (or_shifted high width low low_lt)
