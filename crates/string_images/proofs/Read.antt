-- What is read of any bytes: characters alone.
use Rattle.std.proofs.Common.{◌≡◌, ◌⊎◌, ℕ, zero, suc, ◌<◌, ◌≤◌, Bool, true, false, cond, List, [], ◌∷◌, ◌++◌, length, take, refl, sym, ap, ◌∙◌, subst, arith}
use Rattle.std.proofs.Math.Logic.{⊎_elim}
use Rattle.std.proofs.Math.Utf8.{encode}
use Rattle.std.proofs.lemmas.List.{take_all}
use Rattle.std.proofs.lemmas.Str.{IsUtf8-nil, IsUtf8-append, IsUtf8-from_is_utf8, scalars-chars, utf8_lossy-IsUtf8, utf8_lossy_step, utf8_lossy_empty, utf8_valid_len_le}
use Rattle.std.proofs.str.Laws.{order}
use Rattle.std.proofs.str.Lossy.{length-after_first_chunk}
use Rattle.std.specs.Prelude.{chars}
use Rattle.std.specs.Str.{IsUtf8, is_utf8}
use Rattle.std.specs.Str.Lossy.{valid_len_up_to, utf8_valid_len, utf8_lossy, after_first_chunk, replacement_bytes}
use Rattle.string_images.specs.Laws.{ReadSurrogatesArePaired}
use Rattle.string_images.proofs.Characters.{paired_units}

valid_front_by : (bs : List ℕ) (m n : ℕ) (b : Bool) → is_utf8 (take m bs) ≡ b → IsUtf8 (take n bs) → IsUtf8 (take (cond b m n) bs)
valid_front_by bs m n true is shorter = IsUtf8-from_is_utf8 (take m bs) is
valid_front_by bs m n false is shorter = shorter

valid_front_up_to : (bs : List ℕ) (m : ℕ) → IsUtf8 (take (valid_len_up_to bs m) bs)
valid_front_up_to bs zero = IsUtf8-nil
valid_front_up_to bs (suc m) = valid_front_by bs (suc m) (valid_len_up_to bs m) (is_utf8 (take (suc m) bs)) refl (valid_front_up_to bs m)

valid_front : (bs : List ℕ) → IsUtf8 (take (utf8_valid_len bs) bs)
unfolding utf8_valid_len
valid_front bs = valid_front_up_to bs (length bs)

replacement : IsUtf8 replacement_bytes
unfolding encode
replacement = (0xFFFD ∷ [], (refl, refl))

lossy_is_utf8 : (most : ℕ) (bs : List ℕ) → length bs ≤ most → IsUtf8 (utf8_lossy bs)
lossy_is_utf8 zero bs small = subst IsUtf8 (sym (utf8_lossy_empty bs (omega arith))) IsUtf8-nil
lossy_is_utf8 (suc most) bs small =
    ⊎_elim
    (λ cut.
    let faulty : ¬ (utf8_valid_len bs ≡ length bs) = λ e. omega arith in
    let shorter = length-after_first_chunk bs faulty in
    let rest = lossy_is_utf8 most (after_first_chunk bs) (omega arith) in
    subst IsUtf8 (sym (utf8_lossy_step bs faulty)) (IsUtf8-append _ _ (valid_front bs) (IsUtf8-append replacement_bytes _ replacement rest)))
    (λ whole.
    let all = subst IsUtf8 (take_all (utf8_valid_len bs) bs whole) (valid_front bs) in
    subst IsUtf8 (sym (utf8_lossy-IsUtf8 bs all)) all)
    (order (utf8_valid_len bs) (length bs))

pub read_surrogates_are_paired : ReadSurrogatesArePaired
read_surrogates_are_paired bytes =
    paired_units (chars (utf8_lossy bytes)) (scalars-chars (utf8_lossy bytes) (lossy_is_utf8 (length bytes) bytes (omega arith)))
