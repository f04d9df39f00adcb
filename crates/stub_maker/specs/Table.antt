-- The marshalling table: how the types of a row cross, by where they stand. What crosses is outside of it where its row's cell
-- says so, and where no row speaks of it.
use Rattle.std.specs.Prelude.{ℕ, Bool, true, false, not, List, [], ◌∷◌, slice_index_or}
use Rattle.stub_maker.specs.declared.table.Row.{Row}
use Rattle.stub_maker.specs.declared.table.Row.TheVariants.{Integers, Booleans, Characters, Pointers, Texts, InlineTexts, Structs, FlatArrays, OtherArrays, InlineArrays, Delegates, Handles}
use Rattle.stub_maker.specs.declared.table.Column.{Column}
use Rattle.stub_maker.specs.declared.table.Column.TheVariants as column
use Rattle.stub_maker.specs.declared.table.Cell.{Cell}
use Rattle.stub_maker.specs.declared.table.Cell.TheVariants.{Outside, Word, Text, Value, PlainValue, Place, PlainPlace, Lend, Copy, CountedCopy, Thunk, Hold, Part, FlatPart}

-- the columns in order: of an import, of what holds a value, of a callback
abbrev pub column_place : Column → ℕ
column_place column.ByValue = 0
column_place column.ByReference = 1
column_place column.Returned = 2
column_place column.Field = 3
column_place column.Element = 4
column_place column.InlineElement = 5
column_place column.CallbackValue = 6
column_place column.CallbackReference = 7
column_place column.CallbackReturned = 8

abbrev pub cells : Row → List Cell
cells Integers = Word ∷ Place ∷ Word ∷ Part ∷ Part ∷ Part ∷ Word ∷ Place ∷ Word ∷ []
cells Booleans = Word ∷ Place ∷ Word ∷ Part ∷ Part ∷ Part ∷ Word ∷ Place ∷ Word ∷ []
cells Characters = Word ∷ Place ∷ Word ∷ Part ∷ Part ∷ Part ∷ Word ∷ Place ∷ Word ∷ []
cells Pointers = Word ∷ Place ∷ Word ∷ Part ∷ Part ∷ Part ∷ Word ∷ Outside ∷ Word ∷ []
cells Texts = Text ∷ Place ∷ Text ∷ Part ∷ Part ∷ Outside ∷ Text ∷ Outside ∷ Outside ∷ []
cells InlineTexts = Outside ∷ Outside ∷ Outside ∷ Part ∷ Outside ∷ Outside ∷ Outside ∷ Outside ∷ Outside ∷ []
cells Structs = Value ∷ Place ∷ PlainValue ∷ Part ∷ Part ∷ FlatPart ∷ Value ∷ PlainPlace ∷ PlainValue ∷ []
cells FlatArrays = Lend ∷ Outside ∷ Outside ∷ Outside ∷ Outside ∷ Outside ∷ CountedCopy ∷ Outside ∷ Outside ∷ []
cells OtherArrays = Copy ∷ Outside ∷ Outside ∷ Outside ∷ Outside ∷ Outside ∷ Outside ∷ Outside ∷ Outside ∷ []
cells InlineArrays = Outside ∷ Outside ∷ Outside ∷ Part ∷ Outside ∷ Outside ∷ Outside ∷ Outside ∷ Outside ∷ []
cells Delegates = Thunk ∷ Outside ∷ Outside ∷ Part ∷ Outside ∷ Outside ∷ Outside ∷ Outside ∷ Outside ∷ []
cells Handles = Hold ∷ Outside ∷ Outside ∷ Outside ∷ Outside ∷ Outside ∷ Outside ∷ Outside ∷ Outside ∷ []

abbrev pub cell_at : Row → Column → Cell
cell_at row column = slice_index_or (cells row) (column_place column) Outside

-- the rows in order
abbrev pub rows : List Row
rows =
    Integers ∷ Booleans ∷ Characters ∷ Pointers ∷ Texts ∷ InlineTexts ∷ Structs ∷ FlatArrays ∷ OtherArrays ∷ InlineArrays
    ∷ Delegates ∷ Handles ∷ []

-- whether a cell lets a type cross whose shape is flat, or whose shape holds pointers
abbrev pub admits : Cell → Bool → Bool → Bool
admits Outside is_flat has_pointers = false
admits PlainValue is_flat has_pointers = not has_pointers
admits PlainPlace is_flat has_pointers = not has_pointers
admits FlatPart is_flat has_pointers = is_flat
admits _ is_flat has_pointers = true
