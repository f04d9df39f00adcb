-- The laws, from both halves: each word that decodes is its instruction's, and each instruction is read back.
use Rattle.std.proofs.Common.{◌≡◌, ◌≢◌, ℕ, Option, Some, None, refl, subst}
use Rattle.rv_decode.specs.declared.instr.Instr.{Instr}
use Rattle.rv_decode.specs.Encoding.{encoding}
use Rattle.rv_decode.specs.Decoding.{misc_mem, decoded}
use Rattle.rv_decode.specs.Laws.{DecodedIsEncoded, UndecodedIsNoEncoding, EncodedIsReadBack, EncodingsDiffer, EncodingsAreWords, FencesKeepFields}
use Rattle.rv_decode.proofs.Sound.{Has, decoded_has}
use Rattle.rv_decode.proofs.Decodes.{is_word_of}

pub encoded_is_read_back : EncodedIsReadBack
encoded_is_read_back i word given = (is_word_of i word given).decodes

found_has : (word : ℕ) (found : Option Instr) (i : Instr) → Has word found → found ≡ Some i → encoding i ≡ Some word
found_has word found i has is = subst (Has word) is has

pub decoded_is_encoded : DecodedIsEncoded
decoded_is_encoded word small i = (found_has word (decoded word) i (decoded_has word small), encoded_is_read_back i word)

none_from : (word : ℕ) (found : Option Instr) → Has word found → ((i : Instr) → encoding i ≢ Some word) → found ≡ None
none_from word None has none = refl
none_from word (Some i) has none = absurd (none i has)

pub undecoded_is_no_encoding : UndecodedIsNoEncoding
undecoded_is_no_encoding word small =
    (λ none i given. let back = encoded_is_read_back i word given in cc, none_from word (decoded word) (decoded_has word small))

pub encodings_differ : EncodingsDiffer
encodings_differ i j word first second =
    let a = encoded_is_read_back i word first in
    let b = encoded_is_read_back j word second in
    cc

pub encodings_are_words : EncodingsAreWords
encodings_are_words i word given = let is = is_word_of i word given in (is.small, is.low)

pub fences_keep_fields : FencesKeepFields
unfolding misc_mem decoded
fences_keep_fields word opcode_is funct3_is = rw (opcode_is, funct3_is) refl
