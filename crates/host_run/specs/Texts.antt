-- The lines that plhost prints beside a program's output. A line ends with 10.
use Rattle.std.specs.Prelude.{ℕ, ◌-◌, false, List, [], ◌∷◌, ◌++◌, length, replicate, slice_index_or, codes}
use Rattle.std.specs.Fmt.{decimal, digits}
use Rattle.bound_base.specs.Names.{escaped}
use Rattle.bound_base.specs.Image as image
use Rattle.elf_reader.specs.Refusals as library

abbrev pub line : List ℕ → List ℕ
line text = text ++ 10 ∷ []

unfoldable pub usage_line : List ℕ
usage_line =
    line (codes "usage: plhost imports FILE | stubs FILE | native LIB SYMBOL WORD.. | run FILE [--lib F].. [--fuel N] [--report] [--log] [-- WORD..] | drill N")

-- a line about a file, by its name
unfoldable pub line_on : List ℕ → List ℕ → List ℕ
line_on says name = says ++ escaped name ++ 10 ∷ []

unfoldable pub absent_line : List ℕ → List ℕ
absent_line name = line_on (codes "plhost: absent: ") name

unfoldable pub unreadable_line : List ℕ → List ℕ
unreadable_line name = line_on (codes "plhost: cannot read: ") name

unfoldable pub too_large_line : List ℕ → List ℕ
too_large_line name = line_on (codes "plhost: too large: ") name

-- a broken part of an image, by its place in the reading order, and the file offset
unfoldable pub bad_image_line : ℕ → ℕ → List ℕ
bad_image_line part at =
    codes "plhost: bad image: " ++ slice_index_or image.part_names part []
    ++ codes " at " ++ decimal at ++ 10 ∷ []

-- a broken part of a library, by the library's name, the part's place in the reading order, and the
-- file offset
unfoldable pub bad_library_line : List ℕ → ℕ → ℕ → List ℕ
bad_library_line name part at =
    codes "plhost: bad library " ++ escaped name ++ codes ": "
    ++ slice_index_or library.part_names part [] ++ codes " at " ++ decimal at ++ 10 ∷ []

unfoldable pub no_symbol_line : List ℕ → List ℕ
no_symbol_line name = line_on (codes "plhost: no symbol: ") name

unfoldable pub fuel_line : List ℕ
fuel_line = line (codes "plhost: fuel spent")

-- the hexadecimal digits of a number of 64 bits in lower case, after as many zeros as make sixteen
unfoldable pub sixteen_digits : ℕ → List ℕ
sixteen_digits n = replicate (16 - length (digits 16 false n)) 48 ++ digits 16 false n

-- native code faulted at this pc
unfoldable pub native_fault_line : ℕ → List ℕ
native_fault_line pc = line (codes "plhost: native fault at 0x" ++ sixteen_digits pc)

-- a number as `native` prints it
unfoldable pub number_line : ℕ → List ℕ
number_line number = line (codes "0x" ++ sixteen_digits number)

unfoldable pub memory_line : List ℕ
memory_line = line (codes "plhost: out of memory")
