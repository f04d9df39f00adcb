use Rattle.std.proofs.Common.{◌≡◌, ◌-◌, ◌^◌, length, take}
use Rattle.std.specs.Prelude.{min}
use Rattle.image_kit.specs.LibraryFile.{string_table}
use Rattle.image_kit.proofs.library_plan.strings_size.Given as goal

abbrev pub invariant-loop-place : goal.invariant-loop-place
invariant-loop-place l = l.size ≡ min (length (string_table (take l.place-index l.names))) (2 ^ 64 - 1)
