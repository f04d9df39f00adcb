-- How many bytes code takes.
use Rattle.std.proofs.Common.{◌≡◌, ℕ, ◌+◌, ◌*◌, ◌<◌, List, [], ◌∷◌, length, take, refl, arith}
use Rattle.std.proofs.lemmas.List.{length-take}
use Rattle.std.proofs.lemmas.List.Sums.{sum_by-cons}
use Rattle.rv_decode.specs.declared.instr.Instr.{Instr}
use Rattle.image_kit.specs.LibraryFile.{instruction_size, code_size}

-- each instruction takes 4 bytes
pub code_size_is : (code : List Instr) → code_size code ≡ 4 * length code
code_size_is [] = refl
code_size_is (instr ∷ more) =
    let step : code_size (instr ∷ more) ≡ 4 + code_size more = sum_by-cons instruction_size instr more in
    omega (arith, step, code_size_is more)

-- one more instruction
pub code_size_more : (code : List Instr) (k : ℕ) → k < length code
    → code_size (take (k + 1) code) ≡ code_size (take k code) + 4
code_size_more code k within =
    omega (arith, code_size_is (take (k + 1) code), code_size_is (take k code), length-take (k + 1) code, length-take k code)
