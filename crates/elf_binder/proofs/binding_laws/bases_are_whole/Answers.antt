use Rattle.std.proofs.Common.{◌≡◌, ℕ, ◌%◌, []}
use Rattle.elf_binder.specs.Loading.{Placed, place_library, place_all}
use Rattle.elf_binder.proofs.KeptBySteps.{kept}
use Rattle.elf_binder.proofs.InFile.{Each}
use Rattle.elf_binder.proofs.Standing.{library_whole, each_true, all_from_each}
use Rattle.elf_binder.proofs.binding_laws.bases_are_whole.Goals as goal

pub returns : goal.returns
unfolding place_all
returns c = λ space sources placed e.
    all_from_each (λ (base : ℕ). base % 65536 ≡ 0) placed.bases
    (kept (λ (placed : Placed). Each (λ base. base % 65536 ≡ 0) placed.bases) (λ source. Unit {0}) place_library (λ before source after. library_whole before source after)
    (record { bases = []; space = space }) sources placed (each_true sources) tt e)
