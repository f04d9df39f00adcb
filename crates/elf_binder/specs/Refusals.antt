-- What binding answers, by the definition.
use Rattle.std.specs.Prelude.{◌≡◌, ℕ, List, map, Option, Some, None, Ok}
use Rattle.byte_view.specs.Library.{library}
use Rattle.elf_reader.specs.declared.elf.Elf.{Elf}
use Rattle.elf_reader.specs.Elf.{library_of}
use Rattle.elf_reader.specs.Refusals.{part_place}
use Rattle.elf_binder.specs.declared.refusal.BindBad.{BindBad}
use Rattle.elf_binder.specs.declared.refusal.BindBad.TheVariants.{BadLib, Memory}
use Rattle.elf_binder.specs.Unbound.{Unbound}

-- each was read from the file of its place
abbrev pub AreRead : List Elf → List (List ℕ) → Type 0
AreRead elfs files = map library files ≡ map (λ elf. Ok (library_of elf)) elfs

-- what an error says: which library is broken, and where; want of memory says nothing
abbrev pub refusal : BindBad → Option Unbound
refusal (BadLib which part at) = Some (which, part_place part, at)
refusal Memory = None
