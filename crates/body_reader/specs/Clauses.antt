-- The clauses of a method: the sections after its code (ECMA-335 II.25.4.5 and II.25.4.6). A clause is
-- for a catch, finally or fault block; a filter isn't read. It protects whole instructions, and its
-- handler is whole instructions, at least one of each.
use Rattle.std.specs.Prelude.{ℕ, zero, suc, ◌+◌, ◌-◌, ◌*◌, ◌/◌, ◌%◌, Bool, ◌&&◌, ◌||◌, not, nat_le, ◌==◌, List, ◌++◌, length, Option, Some, None, option_map, bit_and, Result, Ok, Err, if◌then◌else◌}
use Rattle.std.specs.Option.{ok_or}
use Rattle.byte_view.specs.Numbers.{le, number_at}
use Rattle.byte_view.specs.Reading.{◌>>=◌, must, listed}
use Rattle.body_reader.specs.declared.clause.Clause.{Clause}
use Rattle.body_reader.specs.declared.clause.ClauseKind.{ClauseKind}
use Rattle.body_reader.specs.declared.clause.ClauseKind.TheVariants.{Catch, Finally, Fault}
use Rattle.body_reader.specs.Code.{is_marked}

-- the number of n bytes at a place, which is refused there where it isn't there
abbrev pub number_in : List ℕ → ℕ → ℕ → Result ℕ ℕ
number_in bytes at n = ok_or (number_at bytes at n) at

-- the fields of a clause, small or fat
pub record Fields : Type 0 where
  pub flags : ℕ
  pub try_at : ℕ
  pub try_size : ℕ
  pub at : ℕ
  pub size : ℕ
  pub token : ℕ

abbrev pub small_fields : List ℕ → ℕ → Fields
small_fields bytes at = record {
  flags = le bytes at 2;
  try_at = le bytes (at + 2) 2;
  try_size = le bytes (at + 4) 1;
  at = le bytes (at + 5) 2;
  size = le bytes (at + 7) 1;
  token = le bytes (at + 8) 4;
}

abbrev pub fat_fields : List ℕ → ℕ → Fields
fat_fields bytes at = record {
  flags = le bytes at 4;
  try_at = le bytes (at + 4) 4;
  try_size = le bytes (at + 8) 4;
  at = le bytes (at + 12) 4;
  size = le bytes (at + 16) 4;
  token = le bytes (at + 20) 4;
}

-- the bytes of a clause
abbrev pub clause_size : Bool → ℕ
clause_size is_fat = if is_fat then 24 else 12

abbrev pub fields_at : Bool → List ℕ → ℕ → Fields
fields_at is_fat bytes at = if is_fat then fat_fields bytes at else small_fields bytes at

-- the kind of a clause by its flags; a filter's, 1, isn't among them
abbrev pub kind_of : ℕ → ℕ → Option ClauseKind
kind_of flags token =
    if flags == 0 then Some (Catch token)
    else if flags == 2 then Some Finally
    else if flags == 4 then Some Fault
    else None

-- an offset is that of an instruction, or the end of the code
abbrev pub is_end : List Bool → ℕ → Bool
is_end starts at = is_marked starts at || at == length starts

-- so many bytes from an offset on are whole instructions, at least one
abbrev pub are_instructions : List Bool → ℕ → ℕ → Bool
are_instructions starts at size = not (size == 0) && (is_marked starts at && is_end starts (at + size))

abbrev pub are_blocks : List Bool → Fields → Bool
are_blocks starts f =
    are_instructions starts f.try_at f.try_size && are_instructions starts f.at f.size

-- the clause that fields say, over code whose instructions are marked
unfoldable pub clause_of : List Bool → Fields → Option ClauseKind → Option Clause
clause_of starts f None = None
clause_of starts f (Some kind) =
    if are_blocks starts f
    then Some (record {
      kind = kind;
      try_at = f.try_at;
      try_end = f.try_at + f.try_size;
      at = f.at;
      end = f.at + f.size;
    })
    else None

-- the clause at a place
unfoldable pub clause_at : Bool → List ℕ → List Bool → ℕ → Result Clause ℕ
clause_at is_fat bytes starts at =
    if nat_le (at + clause_size is_fat) (length bytes)
    then (let f = fields_at is_fat bytes at in
    ok_or (clause_of starts f (kind_of f.flags f.token)) at)
    else Err at

-- the header of a section: whether its clauses are fat, whether another section follows, its size
pub record Section : Type 0 where
  pub is_fat : Bool
  pub is_last : Bool
  pub size : ℕ

abbrev pub is_table : ℕ → Bool
is_table kind = kind % 64 == 1

abbrev pub fits_clauses : Bool → ℕ → Bool
fits_clauses is_fat size = nat_le 4 size && (size - 4) % clause_size is_fat == 0

-- the size of a small section: the byte after its kind; two reserved bytes follow
unfoldable pub small_size : List ℕ → ℕ → Result ℕ ℕ
small_size bytes at = do
  size ← number_in bytes (at + 1) 1
  _ ← number_in bytes (at + 2) 2
  Ok size

-- the size of a fat section: the upper three bytes of its header of four
abbrev pub fat_size : List ℕ → ℕ → Result ℕ ℕ
fat_size bytes at = ok_or (option_map (λ header. header / 256) (number_at bytes at 4)) (at + 1)

abbrev pub section_size : Bool → List ℕ → ℕ → Result ℕ ℕ
section_size is_fat bytes at = if is_fat then fat_size bytes at else small_size bytes at

-- the header of the section at a place: a table of clauses, and its size, that of the header and whole
-- clauses
unfoldable pub section_at : List ℕ → ℕ → Result Section ℕ
section_at bytes at = do
  kind ← number_in bytes at 1
  _ ← must (is_table kind) at
  let is_fat : Bool = not (bit_and kind 0x40 == 0)
  size ← section_size is_fat bytes at
  _ ← must (fits_clauses is_fat size) (at + 1)
  Ok (record { is_fat = is_fat; is_last = bit_and kind 0x80 == 0; size = size })

-- the clauses of a section at a place
abbrev pub clauses_at : List ℕ → List Bool → ℕ → Section → Result (List Clause) ℕ
clauses_at bytes starts at section =
    listed (λ k. clause_at section.is_fat bytes starts (at + 4 + clause_size section.is_fat * k))
    ((section.size - 4) / clause_size section.is_fat)

-- the clauses of the sections from a place on, of which there are at most so many
unfoldable pub sections_from : ℕ → List ℕ → List Bool → ℕ → Result (List Clause) ℕ
sections_from zero bytes starts at = Err at
sections_from (suc most) bytes starts at =
    section_at bytes at >>= λ section. clauses_at bytes starts at section >>= λ clauses.
    if section.is_last then Ok clauses
    else (sections_from most bytes starts (at + section.size) >>= λ others. Ok (clauses ++ others))
