-- The worked examples, by computing the definitions on them.
use Rattle.std.proofs.Common.{refl}
use Rattle.rv_decode.specs.Formats.{r_type, i_type, s_type, b_type, u_type, j_type, shift64_type, shift32_type, fence_type}
use Rattle.rv_decode.specs.Decoding.{branch, store, op_imm, op_imm_32, op_32, op_32_base, jump_register, misc_mem, decoded}
use Rattle.rv_decode.specs.Examples.{WorkedWords, WordsOfNone, FieldsOutOfRange}

pub worked_words : WorkedWords
unfolding r_type i_type s_type b_type u_type j_type shift64_type shift32_type fence_type branch store op_imm op_imm_32 op_32 op_32_base jump_register misc_mem decoded
worked_words =
    ((refl, refl), (refl, refl), (refl, refl), (refl, refl), (refl, refl), (refl, refl), (refl, refl), (refl, refl), (refl, refl), (refl, refl))

pub words_of_none : WordsOfNone
unfolding op_imm_32 misc_mem decoded
words_of_none = (refl, refl)

pub fields_out_of_range : FieldsOutOfRange
unfolding r_type i_type s_type b_type u_type j_type shift64_type shift32_type fence_type
fields_out_of_range = (refl, refl, refl, refl, refl, refl, refl, refl, refl, refl, refl, refl)
