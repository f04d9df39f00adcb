use Rattle.stub_maker.proofs.Computed.{laid_int, laid_native, laid_bool, laid_char, laid_text, laid_thunk, flat_int, flat_native, flat_bool, flat_char, flat_text, flat_thunk}
use Rattle.stub_maker.proofs.StructsComputed.{two_laid, two_flat, two_plain, two_small, two_without_text, three_laid, three_plain, three_large, text_laid, text_not_flat, text_within, text_small, text_holds_text, empty_not_laid, empty_plain}
use Rattle.stub_maker.proofs.laws.rows_are_answered.Goals as goal

pub returns : goal.returns
returns c = record {
  imports = simp (laid_int, laid_native, laid_bool, laid_char, laid_text, laid_thunk, flat_int, flat_bool, flat_char, flat_text);
  unicode = simp (laid_int, laid_native, laid_bool, laid_char, laid_text, laid_thunk, flat_int, flat_native, flat_bool, flat_char, flat_text, flat_thunk);
  results = simp (laid_int, laid_native, laid_bool, laid_char, laid_text, laid_thunk, flat_int, flat_native, flat_bool, flat_char, flat_text, flat_thunk);
  callbacks = simp (laid_int, laid_native, laid_text, laid_char, laid_bool, flat_int, flat_bool, flat_char, flat_text);
  callback_results = simp (laid_int, laid_native, laid_bool, laid_char, laid_text, laid_thunk, flat_int, flat_native, flat_bool, flat_char, flat_text, flat_thunk);
  in_structs = simp (laid_int, laid_native, laid_bool, laid_char, laid_text, laid_thunk, flat_int, flat_native, flat_bool, flat_char, flat_text, flat_thunk);
  structs = simp (two_laid, two_flat, text_laid, text_not_flat, empty_not_laid);
  struct_results = simp (two_laid, two_plain, three_laid, three_plain, text_within, empty_not_laid, empty_plain);
  struct_callbacks = simp (two_laid, two_flat, two_plain, text_laid, text_not_flat, text_within, empty_not_laid);
  struct_callback_results = simp (two_laid, two_plain, three_laid, three_plain, text_within, empty_not_laid, empty_plain);
  structs_in_structs = simp (two_flat, text_not_flat);
  stubs = simp (two_laid, two_flat, two_plain, two_small, two_without_text, three_laid, three_plain, three_large, text_laid, text_not_flat, text_within, text_small, text_holds_text, laid_int, laid_native, flat_int);
}
