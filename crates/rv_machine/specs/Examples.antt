-- A step that was worked out by hand.
use Rattle.std.specs.Prelude.{◌≡◌, ℕ, true, false, [], ◌∷◌, ◌++◌, replicate, Some}
use Rattle.native_memory.specs.declared.kind.Kind.TheVariants.{Segment}
use Rattle.native_memory.specs.AddressSpace.{Block, AddressSpace}
use Rattle.rv_machine.specs.declared.outcome.Step.TheVariants.{Went}
use Rattle.rv_machine.specs.Machine.{State, rv_step}

-- `addw a0,a0,a1`, the word 0x00B5053B, in a block of four bytes that may be read and executed
abbrev pub addw_block : Block
addw_block = record {
  base = 65536;
  size = 4;
  rights = record { r = true; w = false; x = true };
  kind = Segment;
  contents = Some (0x3B ∷ 0x05 ∷ 0xB5 ∷ 0x00 ∷ []);
}

abbrev pub addw_memory : AddressSpace
addw_memory = record { limit = 4; next = 65568; edge = 65540; blocks = addw_block ∷ [] }

-- at that instruction, with two words in a0 and a1
abbrev pub at_addw : ℕ → ℕ → State
at_addw a b = record {
  pc = 65536;
  x = replicate 10 0 ++ a ∷ b ∷ replicate 20 0;
  memory = addw_memory;
}

-- 0x7FFFFFFF and 1 make -2^31, sign-extended
abbrev pub AddwWraps : Type 0
AddwWraps =
    rv_step (at_addw 0x7FFFFFFF 1)
    ≡ (
      Went,
      record (at_addw 0x7FFFFFFF 1) {
        pc = 65540;
        x = replicate 10 0 ++ 0xFFFFFFFF80000000 ∷ 1 ∷ replicate 20 0;
      },
    )
