-- A small library that was worked out by hand, byte by byte, and what reading gives for it.
use Rattle.std.specs.Prelude.{◌≡◌, ℕ, true, false, List, [], ◌∷◌, ◌++◌, codes, Ok, Err}
use Rattle.byte_view.specs.Examples.{u16, u32, zeros}
use Rattle.byteorder.specs.Endian.{little_bytes}
use Rattle.byte_view.specs.ElfParts as parts
use Rattle.byte_view.specs.Library.{library}

abbrev pub u64 : ℕ → List ℕ
u64 n = little_bytes 8 n

-- an ELF header of a machine and flags: 64 bytes, with two program headers after it
abbrev pub elf_header : ℕ → ℕ → List ℕ
elf_header machine flags =
    0x7F ∷ codes "ELF" ++ 2 ∷ 1 ∷ 1 ∷ [] ++ zeros 9
    ++ u16 3 ++ u16 machine ++ u32 1 ++ zeros 8 ++ u64 64 ++ zeros 8
    ++ u32 flags ++ u16 64 ++ u16 56 ++ u16 2 ++ u16 64 ++ u16 0 ++ u16 0

-- The program headers of a load of 352 bytes, readable and executable, and of the dynamic section
-- at 176; the dynamic section, up to 240: a hash table at 240, symbols at 264, their names at 312;
-- a hash table of one bucket and two chains; symbol number 0, and `add`, a global function whose
-- code stands at 344; the names, with zeros to 344; the code, `addw a0,a0,a1` and `ret`.
abbrev pub after_header : List ℕ
after_header =
    u32 1 ++ u32 5 ++ u64 0 ++ u64 0 ++ u64 0 ++ u64 352 ++ u64 352 ++ u64 65536
    ++ u32 2 ++ u32 4 ++ u64 176 ++ u64 176 ++ u64 176 ++ u64 64 ++ u64 64 ++ u64 8
    ++ u64 4 ++ u64 240 ++ u64 6 ++ u64 264 ++ u64 5 ++ u64 312 ++ u64 0 ++ u64 0
    ++ u32 1 ++ u32 2 ++ u32 1 ++ u32 0 ++ u32 0 ++ zeros 4
    ++ zeros 24
    ++ u32 1 ++ 0x12 ∷ 0 ∷ [] ++ u16 1 ++ u64 344 ++ u64 8
    ++ 0 ∷ [] ++ codes "add" ++ zeros 28
    ++ 0x3B ∷ 0x05 ∷ 0xB5 ∷ 0x00 ∷ 0x67 ∷ 0x80 ∷ 0x00 ∷ 0x00 ∷ []

abbrev pub AddLibrary : Type 0
AddLibrary =
    library (elf_header 243 0 ++ after_header)
    ≡ Ok (record {
      loads =
          (record {
            at = 64;
            file_at = 0;
            file_size = 352;
            vaddr = 0;
            size = 352;
            readable = true;
            writable = false;
            executable = true;
          })
          ∷ [];
      symbols =
          (record { name = []; value = 0; binding = 0; kind = 0; visibility = 0; section = 0 })
          ∷ (record {
            name = codes "add";
            value = 344;
            binding = 1;
            kind = 2;
            visibility = 0;
            section = 1;
          })
          ∷ [];
      relocations = [];
      init = 0;
      init_array = record { at = 0; addr = 0; size = 0 };
    })

-- of another machine, here x86-64, the file is refused at 18
abbrev pub OtherMachine : Type 0
OtherMachine = library (elf_header 62 0 ++ after_header) ≡ Err (parts.machine, 18)

-- with compressed instructions the file is refused at 48
abbrev pub CompressedCode : Type 0
CompressedCode = library (elf_header 243 1 ++ after_header) ≡ Err (parts.flags, 48)
