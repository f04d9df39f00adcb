-- What holds of every word and every instruction.
use Rattle.std.specs.Prelude.{◌≡◌, ◌≢◌, ◌↔◌, ℕ, ◌%◌, ◌^◌, ◌<◌, Some, None}
use Rattle.rv_decode.specs.declared.instr.Instr.{Instr}
use Rattle.rv_decode.specs.declared.instr.Instr.TheVariants.{Fence}
use Rattle.rv_decode.specs.Encoding.{encoding}
use Rattle.rv_decode.specs.Fields.{bits}
use Rattle.rv_decode.specs.Decoding.{opcode_of, funct3_of, rd_of, rs1_of, decoded}

-- a word decodes to the instruction whose encoding it is
abbrev pub DecodedIsEncoded : Type 0
DecodedIsEncoded =
    (word : ℕ) → word < 2 ^ 32 → (i : Instr) → (decoded word ≡ Some i) ↔ (encoding i ≡ Some word)

-- a word decodes to nothing where no instruction has it
abbrev pub UndecodedIsNoEncoding : Type 0
UndecodedIsNoEncoding =
    (word : ℕ) → word < 2 ^ 32 → (decoded word ≡ None) ↔ ((i : Instr) → encoding i ≢ Some word)

-- an instruction is read back from its word
abbrev pub EncodedIsReadBack : Type 0
EncodedIsReadBack = (i : Instr) (word : ℕ) → encoding i ≡ Some word → decoded word ≡ Some i

-- no two instructions have one word
abbrev pub EncodingsDiffer : Type 0
EncodingsDiffer = (i j : Instr) (word : ℕ) → encoding i ≡ Some word → encoding j ≡ Some word → i ≡ j

-- an encoding has 32 bits, and the lowest two are set, which tells it from a compressed one
abbrev pub EncodingsAreWords : Type 0
EncodingsAreWords =
    (i : Instr) (word : ℕ) → encoding i ≡ Some word → (word < 2 ^ 32) × (word % 4 ≡ 3)

-- a word of opcode MISC-MEM and funct3 0 is a FENCE, whatever its other fields are, and keeps them
abbrev pub FencesKeepFields : Type 0
FencesKeepFields =
    (word : ℕ)
    → opcode_of word ≡ 0x0F
    → funct3_of word ≡ 0x0
    → decoded word
    ≡ Some (Fence (bits word 28 4) (bits word 24 4) (bits word 20 4) (rs1_of word) (rd_of word))
