-- The parts of a library file, each by its place in the reading order, from 0; the last four are
-- found where libraries are bound.
use Rattle.std.specs.Prelude.{ℕ}

abbrev pub ident : ℕ
ident = 0

abbrev pub file_type : ℕ
file_type = 1

abbrev pub machine : ℕ
machine = 2

abbrev pub flags : ℕ
flags = 3

abbrev pub program_headers : ℕ
program_headers = 4

abbrev pub load : ℕ
load = 5

abbrev pub tls : ℕ
tls = 6

abbrev pub dynamic : ℕ
dynamic = 7

abbrev pub symbols : ℕ
symbols = 8

abbrev pub relocs : ℕ
relocs = 9

abbrev pub reloc_type : ℕ
reloc_type = 10

abbrev pub reloc_target : ℕ
reloc_target = 11

abbrev pub unresolved : ℕ
unresolved = 12

abbrev pub init : ℕ
init = 13
