-- The file of a library reads back as its plan.
use Rattle.std.proofs.Common.{◌≡◌, ℕ, zero, suc, ◌+◌, ◌-◌, ◌*◌, List, [], ◌∷◌, ◌++◌, length, take, Option, Some, None, Ok, refl, sym, ap, ◌∙◌, subst, arith}
use Rattle.std.specs.Prelude.{slice_get, IsSome, unwrap_or}
use Rattle.std.specs.List.{range_with_len, flat_map}
use Rattle.std.proofs.lemmas.List.{length-append, append-nil}
use Rattle.std.proofs.lemmas.List.FromFn.{length-range_with_len}
use Rattle.std.proofs.lemmas.Option.{none-some, same_Some, slice_get_within, get_or_from_slice_get}
use Rattle.std.proofs.lemmas.List.Sums.{sum_by-cons}
use Rattle.rv_decode.specs.declared.instr.Instr.{Instr}
use Rattle.rv_decode.specs.Encoding.{encoding}
use Rattle.rv_decode.proofs.Exact.{encodings_are_words}
use Rattle.byte_view.specs.Numbers.{le}
use Rattle.byte_view.specs.ElfLoads.{identified, program_headers, loads, without_tls}
use Rattle.byte_view.specs.ElfDynamic.{dynamic_header, dynamic_table, entry_of, value_of}
use Rattle.byte_view.specs.ElfSymbols.{symbols}
use Rattle.byte_view.specs.ElfRelocations.{relocation_table, relocations}
use Rattle.byte_view.specs.Library.{Library, library}
use Rattle.byte_view.proofs.Reading.{bind_read}
use Rattle.image_kit.specs.declared.library_plan.LibraryPlan.{LibraryPlan}
use Rattle.image_kit.specs.LibraryFile.{u32, elf_header, program_header_table, dynamic_section, symbol_table, hash_table, code_bytes, word_of, instruction_size, code_size, string_table, hash_offset, code_offset, bytes_offset, strings_offset, file_end, library_file}
use Rattle.image_kit.specs.LibraryReads.{Fits, planned_library, instruction_offset, LibrariesReadBack}
use Rattle.image_kit.proofs.CodeSizes.{code_size_is}
use Rattle.image_kit.proofs.Stands.{Stands, stands_front, stands_back, le_u32, length-u32, range_stands}
use Rattle.image_kit.proofs.Head.{length-elf_header, length-program_header_table, length-dynamic_section, one_load, written_entries, identified_reads, headers_read, Programs, programs, loads_read, without_tls_reads, dynamic_header_reads, dynamic_table_reads}
use Rattle.image_kit.proofs.Symbols.{length-symbol_table, SymbolsStand, written_symbols, symbols_read}

-- pieces of one length
length-pieces : {X : Type 0} (f : X → List ℕ) (width : ℕ) (xs : List X) → ((x : X) → length (f x) ≡ width) → length (flat_map f xs) ≡ width * length xs
length-pieces f width [] each = (omega arith)
length-pieces f width (x ∷ xs) each =
    let first : length (f x) ≡ width = each x in
    let rest : length (flat_map f xs) ≡ width * length xs = length-pieces f width xs each in
    let both : length (f x ++ flat_map f xs) ≡ length (f x) + length (flat_map f xs) = length-append (f x) (flat_map f xs) in
    omega arith

length-code_bytes : (code : List Instr) → length (code_bytes code) ≡ code_size code
unfolding code_bytes
length-code_bytes code =
    length-pieces (λ instr. u32 (word_of instr)) 4 code (λ instr. length-u32 (word_of instr)) ∙ sym (code_size_is code)

length-hash_table : (count : ℕ) → length (hash_table count) ≡ 4 * (count + 4)
unfolding hash_table
length-hash_table count =
    let chain : List ℕ = flat_map (λ k. u32 (k - 1)) (range_with_len 0 (count + 1)) in
    let words : length chain ≡ 4 * length (range_with_len 0 (count + 1)) = length-pieces (λ k. u32 (k - 1)) 4 (range_with_len 0 (count + 1)) (λ k. length-u32 (k - 1)) in
    let steps : length (range_with_len 0 (count + 1)) ≡ count + 1 = length-range_with_len 0 (count + 1) in
    let a = length-u32 1 in
    let b = length-u32 (count + 1) in
    let c = length-u32 count in
    let ab = length-append (u32 1) (u32 (count + 1)) in
    let abc = length-append (u32 1 ++ u32 (count + 1)) (u32 count) in
    let all = length-append (u32 1 ++ u32 (count + 1) ++ u32 count) chain in
    omega arith

-- where the parts of a file stand
record PartsStand (plan : LibraryPlan) (file : List ℕ) : Type 0 where
  pub size : length file ≡ file_end plan
  pub header : Stands file 0 elf_header
  pub programs_at : Stands file 64 (program_header_table (file_end plan))
  pub dynamic : Stands file 176 (dynamic_section (hash_offset (length plan.names)) (strings_offset plan) (length (string_table plan.names)))
  pub table : Stands file 384 (symbol_table (code_offset (length plan.names)) plan.names)
  pub hashes : Stands file (hash_offset (length plan.names)) (hash_table (length plan.names))
  pub code : Stands file (code_offset (length plan.names)) (code_bytes plan.code)
  pub data_at : Stands file (bytes_offset plan) plan.bytes
  pub texts : Stands file (strings_offset plan) (string_table plan.names)

-- a list of eight parts, and where each stands
record EightParts (file a b c d e f g h : List ℕ) : Type 0 where
  pub size : length file ≡ length a + length b + length c + length d + length e + length f + length g + length h
  pub first : Stands file 0 a
  pub second : Stands file (length a) b
  pub third : Stands file (length a + length b) c
  pub fourth : Stands file (length a + length b + length c) d
  pub fifth : Stands file (length a + length b + length c + length d) e
  pub sixth : Stands file (length a + length b + length c + length d + length e) f
  pub seventh : Stands file (length a + length b + length c + length d + length e + length f) g
  pub eighth : Stands file (length a + length b + length c + length d + length e + length f + length g) h

eight_parts : (a b c d e f g h : List ℕ) → EightParts (a ++ b ++ c ++ d ++ e ++ f ++ g ++ h) a b c d e f g h
eight_parts a b c d e f g h =
    let ab : List ℕ = a ++ b in
    let abc : List ℕ = ab ++ c in
    let abcd : List ℕ = abc ++ d in
    let to_e : List ℕ = abcd ++ e in
    let to_f : List ℕ = to_e ++ f in
    let to_g : List ℕ = to_f ++ g in
    let file : List ℕ = to_g ++ h in
    let s8 : Stands file 0 file = record { rest = []; from = sym (append-nil file) } in
    let s7 = stands_front file 0 to_g h s8 in
    let s6 = stands_front file 0 to_f g s7 in
    let s5 = stands_front file 0 to_e f s6 in
    let s4 = stands_front file 0 abcd e s5 in
    let s3 = stands_front file 0 abc d s4 in
    let s2 = stands_front file 0 ab c s3 in
    let l2 : length ab ≡ length a + length b = length-append a b in
    let l3 : length abc ≡ length a + length b + length c = length-append ab c ∙ ap (λ n. n + length c) l2 in
    let l4 : length abcd ≡ length a + length b + length c + length d = length-append abc d ∙ ap (λ n. n + length d) l3 in
    let l5 : length to_e ≡ length a + length b + length c + length d + length e = length-append abcd e ∙ ap (λ n. n + length e) l4 in
    let l6 : length to_f ≡ length a + length b + length c + length d + length e + length f = length-append to_e f ∙ ap (λ n. n + length f) l5 in
    let l7 : length to_g ≡ length a + length b + length c + length d + length e + length f + length g = length-append to_f g ∙ ap (λ n. n + length g) l6 in
    record {
      size = length-append to_g h ∙ ap (λ n. n + length h) l7;
      first = stands_front file 0 a b s2;
      second = stands_back file 0 (length a) a b s2 (omega arith);
      third = stands_back file 0 (length a + length b) ab c s3 (omega (arith, l2));
      fourth = stands_back file 0 (length a + length b + length c) abc d s4 (omega (arith, l3));
      fifth = stands_back file 0 (length a + length b + length c + length d) abcd e s5 (omega (arith, l4));
      sixth = stands_back file 0 (length a + length b + length c + length d + length e) to_e f s6 (omega (arith, l5));
      seventh = stands_back file 0 (length a + length b + length c + length d + length e + length f) to_f g s7 (omega (arith, l6));
      eighth = stands_back file 0 (length a + length b + length c + length d + length e + length f + length g) to_g h s8 (omega (arith, l7));
    }

moved : (file piece : List ℕ) (from to : ℕ) → from ≡ to → Stands file from piece → Stands file to piece
moved file piece from to e s = subst (λ (n : ℕ). Stands file n piece) e s

parts_stand : (plan : LibraryPlan) → PartsStand plan (library_file plan)
unfolding library_file
parts_stand plan =
    let names : ℕ = length plan.names in
    let header : List ℕ = elf_header in
    let program : List ℕ = program_header_table (file_end plan) in
    let dynamic : List ℕ = dynamic_section (hash_offset names) (strings_offset plan) (length (string_table plan.names)) in
    let table : List ℕ = symbol_table (code_offset names) plan.names in
    let hashes : List ℕ = hash_table names in
    let code : List ℕ = code_bytes plan.code in
    let texts : List ℕ = string_table plan.names in
    let p = eight_parts header program dynamic table hashes code plan.bytes texts in
    let l1 : length header ≡ 64 = length-elf_header in
    let l2 : length program ≡ 112 = length-program_header_table (file_end plan) in
    let l3 : length dynamic ≡ 208 = length-dynamic_section (hash_offset names) (strings_offset plan) (length (string_table plan.names)) in
    let l4 : length table ≡ 24 * (names + 1) = length-symbol_table (code_offset names) plan.names in
    let l5 : length hashes ≡ 4 * (names + 4) = length-hash_table names in
    let l6 : length code ≡ code_size plan.code = length-code_bytes plan.code in
    let file : List ℕ = library_file plan in
    record {
      size = let n = p.size in omega arith;
      header = p.first;
      programs_at = moved file program (length header) 64 (omega arith) p.second;
      dynamic = moved file dynamic (length header + length program) 176 (omega arith) p.third;
      table = moved file table (length header + length program + length dynamic) 384 (omega arith) p.fourth;
      hashes = moved file hashes (length header + length program + length dynamic + length table) (hash_offset names) (omega arith) p.fifth;
      code = moved file code (length header + length program + length dynamic + length table + length hashes) (code_offset names) (omega arith) p.sixth;
      data_at = moved file plan.bytes (length header + length program + length dynamic + length table + length hashes + length code) (bytes_offset plan) (omega arith) p.seventh;
      texts = moved file texts (length header + length program + length dynamic + length table + length hashes + length code + length plan.bytes) (strings_offset plan) (omega arith) p.eighth;
    }

-- the library that is read, by the size of the file
abbrev read_back : LibraryPlan → ℕ → Library
read_back plan size = record {
  loads = one_load size ∷ [];
  symbols = written_symbols (code_offset (length plan.names)) plan.names;
  relocations = [];
  init = 0;
  init_array = record { at = 0; addr = 0; size = 0 };
}

library_reads : (plan : LibraryPlan) (file : List ℕ) → PartsStand plan file → Fits plan → library file ≡ Ok (planned_library plan)
unfolding library relocations relocation_table entry_of value_of
library_reads plan file p fits =
    let names : ℕ = length plan.names in
    let size = p.size in
    let small = fits.small in
    let load = one_load (length file) ∷ [] in
    let hash : ℕ = hash_offset names in
    let strings : ℕ = strings_offset plan in
    let strings_size : ℕ = length (string_table plan.names) in
    let both : Programs file (length file) = subst (Programs file) (sym size) (programs file (file_end plan) p.programs_at (omega arith)) in
    let known : SymbolsStand file strings (code_offset names) plan.names = record { table = p.table; texts = p.texts; free = fits.names; small = omega arith } in
    bind_read (identified file) _ 0 (identified_reads file p.header (omega arith))
    ∙ bind_read (program_headers file) _ (64, 2) (headers_read file p.header (omega arith))
    ∙ bind_read (loads file 64 2) _ load (loads_read file (length file) both refl (omega arith))
    ∙ bind_read (without_tls file 64 2) _ 0 (without_tls_reads file (length file) both)
    ∙ bind_read (dynamic_header file 64 2) _ 120 (dynamic_header_reads file (length file) both)
    ∙ bind_read (dynamic_table file 120) _ (written_entries hash strings strings_size) (dynamic_table_reads file (length file) hash strings strings_size both p.dynamic (omega arith) (omega arith) (omega arith) (omega arith))
    ∙ bind_read (symbols file load 120 (written_entries hash strings strings_size)) _ (written_symbols (code_offset names) plan.names) (symbols_read file hash strings strings_size (code_offset names) plan.names known p.hashes (omega arith))
    ∙ ap (λ (n : ℕ). Ok (read_back plan n)) size

-- a word of the code
word_stands : (bytes : List ℕ) (at : ℕ) (code : List Instr) → Stands bytes at (code_bytes code) → (k place : ℕ) (instr : Instr) → slice_get code k ≡ Some instr → at + code_size (take k code) ≡ place → Stands bytes place (u32 (word_of instr))
unfolding code_bytes
word_stands bytes at [] s k place instr e h = absurd (none-some instr e)
word_stands bytes at (first ∷ more) s zero place instr e h =
    let none : code_size (take zero (first ∷ more)) ≡ 0 = refl in
    let here : at ≡ place = omega arith in
    let same : first ≡ instr = same_Some first instr e in
    let there : Stands bytes at (u32 (word_of first)) = stands_front bytes at (u32 (word_of first)) (code_bytes more) s in
    subst (λ (i : Instr). Stands bytes place (u32 (word_of i))) same (moved bytes (u32 (word_of first)) at place here there)
word_stands bytes at (first ∷ more) s (suc k) place instr e h =
    let size : length (u32 (word_of first)) ≡ 4 = length-u32 (word_of first) in
    let before : code_size (take (suc k) (first ∷ more)) ≡ 4 + code_size (take k more) = sum_by-cons instruction_size first (take k more) in
    word_stands bytes (at + 4) more (stands_back bytes at (at + 4) (u32 (word_of first)) (code_bytes more) s (omega arith)) k place instr e (omega arith)

has_word : (o : Option ℕ) → IsSome o → o ≡ Some (unwrap_or o 0)
has_word (Some word) h = refl
has_word None h = absurd (cc)

word_reads : (plan : LibraryPlan) (file : List ℕ) → PartsStand plan file → Fits plan → (k : ℕ) (instr : Instr) → slice_get plan.code k ≡ Some instr → encoding instr ≡ Some (le file (instruction_offset plan k) (instruction_size instr))
word_reads plan file p fits k instr e =
    let place : ℕ = instruction_offset plan k in
    let some : IsSome (encoding instr) = subst (λ (i : Instr). IsSome (encoding i)) (get_or_from_slice_get plan.code k instr instr e) (fits.encode k instr (slice_get_within plan.code k instr e)) in
    let word : encoding instr ≡ Some (word_of instr) = has_word (encoding instr) some in
    let small = (encodings_are_words instr (word_of instr) word).0 in
    let there = word_stands file (code_offset (length plan.names)) plan.code p.code k place instr e refl in
    word ∙ ap Some (sym (le_u32 file place (word_of instr) there small))

pub libraries_read_back : LibrariesReadBack
libraries_read_back plan fits =
    let file : List ℕ = library_file plan in
    let p = parts_stand plan in
    record {
      size = p.size;
      library_is = library_reads plan file p fits;
      aligned = omega arith;
      code = word_reads plan file p fits;
      data_is = range_stands file (bytes_offset plan) plan.bytes p.data_at;
    }
