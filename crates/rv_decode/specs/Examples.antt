-- Words that the GNU assembler gives, worked out by the definitions.
use Rattle.std.specs.Prelude.{◌≡◌, ℕ, pos, negsuc, Some, None}
use Rattle.rv_decode.specs.declared.instr.Instr.{Instr}
use Rattle.rv_decode.specs.declared.instr.Instr.TheVariants.{Add, Addw, Jalr, Addi, Lui, Sb, Sd, Slli, Srai, Sraiw, Beq, Bltu, Jal, Fence}
use Rattle.rv_decode.specs.Encoding.{encoding}
use Rattle.rv_decode.specs.Decoding.{decoded}

-- the word and the instruction give each other
abbrev pub GiveEachOther : ℕ → Instr → Type 0
GiveEachOther word i = (encoding i ≡ Some word) × (decoded word ≡ Some i)

-- addw a0,a0,a1; ret; addi sp,sp,-16; lui a5,0x80000; sd ra,-8(sp); srai a0,a0,63; sraiw a1,a1,31; bltu t0,t1,.-2044;
-- jal .-2048; fence.tso
abbrev pub WorkedWords : Type 0
WorkedWords =
    GiveEachOther 0x00B5053B (Addw 10 10 11)
    × GiveEachOther 0x00008067 (Jalr 0 1 (pos 0))
    × GiveEachOther 0xFF010113 (Addi 2 2 (negsuc 15))
    × GiveEachOther 0x800007B7 (Lui 15 (negsuc 524287))
    × GiveEachOther 0xFE113C23 (Sd 2 1 (negsuc 7))
    × GiveEachOther 0x43F55513 (Srai 10 10 63)
    × GiveEachOther 0x41F5D59B (Sraiw 11 11 31)
    × GiveEachOther 0x8062E2E3 (Bltu 5 6 (negsuc 2043))
    × GiveEachOther 0x801FF06F (Jal 0 (negsuc 2047))
    × GiveEachOther 0x8330000F (Fence 8 3 3 0 0)

-- FENCE.I; slliw a2,a3,0 with bit 25 set
abbrev pub WordsOfNone : Type 0
WordsOfNone = (decoded 0x0000100F ≡ None) × (decoded 0x0206961B ≡ None)

-- fields that are past the ranges of their bits by one, or odd distances, have no word
abbrev pub FieldsOutOfRange : Type 0
FieldsOutOfRange =
    (encoding (Jal 1 (pos 3)) ≡ None)
    × (encoding (Addw 32 0 0) ≡ None)
    × (encoding (Sraiw 1 1 32) ≡ None)
    × (encoding (Add 32 0 0) ≡ None)
    × (encoding (Addi 1 1 (pos 2048)) ≡ None)
    × (encoding (Sb 1 1 (negsuc 2048)) ≡ None)
    × (encoding (Beq 1 1 (pos 3)) ≡ None)
    × (encoding (Beq 1 1 (pos 4096)) ≡ None)
    × (encoding (Jal 1 (negsuc 1048577)) ≡ None)
    × (encoding (Lui 1 (pos 524288)) ≡ None)
    × (encoding (Slli 1 1 64) ≡ None)
    × (encoding (Fence 0 16 0 0 0) ≡ None)
