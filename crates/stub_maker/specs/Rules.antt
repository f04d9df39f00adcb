-- The rule over the marshalling table: what one argument or one result of an import is answered, the import's stub, and why
-- an import has none.
use Rattle.std.specs.Prelude.{ℕ, ◌+◌, Bool, true, false, ◌&&◌, ◌||◌, not, nat_lt, if◌then◌else◌, List, [], ◌∷◌, reverse, map, filter, Option, Some, None, Result, Ok, Err, bit_and}
use Rattle.stub_maker.specs.Answers.{and_then, map_ok}
use Rattle.native_layout.specs.declared.shapes.Shape as shape
use Rattle.native_layout.specs.declared.shapes.Shape.{Shape}
use Rattle.native_layout.specs.declared.shapes.Enc.{Enc}
use Rattle.native_layout.specs.declared.shapes.Enc.TheVariants.{Utf8}
use Rattle.stub_maker.specs.declared.kinds.Passed.{Passed}
use Rattle.stub_maker.specs.declared.table.Column.{Column}
use Rattle.stub_maker.specs.declared.table.Column.TheVariants as column
use Rattle.stub_maker.specs.declared.table.Cell.{Cell}
use Rattle.stub_maker.specs.declared.table.Cell.TheVariants as cell
use Rattle.stub_maker.specs.declared.stub.Mark.{Mark}
use Rattle.stub_maker.specs.declared.stub.Mark.TheVariants.{Give, Take, Both}
use Rattle.stub_maker.specs.declared.stub.Step.{Step}
use Rattle.stub_maker.specs.declared.stub.Step.TheVariants as step
use Rattle.stub_maker.specs.declared.stub.Res.{Res}
use Rattle.stub_maker.specs.declared.stub.Res.TheVariants as res
use Rattle.stub_maker.specs.declared.stub.Stub.{Stub}
use Rattle.stub_maker.specs.declared.signature.Signature.{Signature}
use Rattle.stub_maker.specs.declared.signature.Imported.{Imported}
use Rattle.stub_maker.specs.declared.refused.Param.{Param}
use Rattle.stub_maker.specs.declared.refused.Param.TheVariants.{Arg, Result as TheResult, Whole}
use Rattle.stub_maker.specs.declared.refused.Why.{Why}
use Rattle.stub_maker.specs.declared.refused.Why.TheVariants as why
use Rattle.stub_maker.specs.Shapes.{Known, Entry, entry_by, crosses}
use Rattle.native_layout.specs.Shapes.{texts_in}
use Rattle.stub_maker.specs.Extents.{is_laid_out, size}
use Rattle.stub_maker.specs.Steps.{argument_of}

-- the flags In and Out of a parameter (ECMA-335 II.23.1.13)
abbrev pub is_in : ℕ → Bool
is_in flags = nat_lt 0 (bit_and flags 1)

abbrev pub is_out : ℕ → Bool
is_out flags = nat_lt 0 (bit_and flags 2)

-- what is copied both ways unless a flag says otherwise
abbrev pub place_mark : ℕ → Mark
place_mark flags = if is_out flags then (if is_in flags then Both else Take) else if is_in flags then Give else Both

-- what is given to native code alone unless a flag says otherwise
abbrev pub array_mark : ℕ → Mark
array_mark flags = if is_out flags then (if is_in flags then Both else Take) else Give

abbrev pub value_mark : ℕ → Option Mark
value_mark flags = if is_out flags then None else Some Give

-- the mark of what crosses in a cell, None where its flags aren't allowed there; a lent array is one memory for both sides
abbrev pub mark_in : Cell → ℕ → Option Mark
mark_in cell.Place flags = Some (place_mark flags)
mark_in cell.PlainPlace flags = Some (place_mark flags)
mark_in cell.Lend flags = Some Give
mark_in cell.Copy flags = Some (array_mark flags)
mark_in cell.CountedCopy flags = Some (array_mark flags)
mark_in _ flags = value_mark flags

-- why a type without an entry has none: it crosses under no descriptor, or under another one
abbrev pub refusal : Known → Bool → Column → Passed → Why
refusal known unicode column p = if crosses known unicode column p.kind then why.Descriptor else why.Type0

abbrev pub found_entry : Known → Bool → Column → Passed → Option Entry → Result Entry Why
found_entry known unicode column p (Some e) = Ok e
found_entry known unicode column p None = Err (refusal known unicode column p)

abbrev pub entry_in : Known → Bool → Column → Passed → Result Entry Why
entry_in known unicode column p = found_entry known unicode column p (entry_by known unicode column p.kind p.descriptor)

-- an entry and its mark
pub record Marked : Type 0 where
  pub entry : Entry
  pub mark : Mark

abbrev pub with_mark : Entry → Option Mark → Result Marked Why
with_mark e None = Err why.Mark
with_mark e (Some m) = Ok (record { entry = e; mark = m })

abbrev pub laid : {A : Type 0} → Shape → A → Result A Why
laid s value = if is_laid_out s then Ok value else Err why.Layout

-- a parameter in a column: its entry, then its mark, then its layout
abbrev pub marked_in : Known → Bool → Column → Passed → Result Marked Why
marked_in known unicode column p =
    and_then (λ m. laid m.entry.shape m)
    (and_then (λ e. with_mark e (mark_in e.cell p.flags)) (entry_in known unicode column p))

-- the same by the columns of what is passed by value and by reference
abbrev pub marked : Known → Bool → Column → Column → Passed → Result Marked Why
marked known unicode by_value by_reference p =
    marked_in known unicode (if p.reference then by_reference else by_value) p

-- how a text is written; no other shape stands where a text does
abbrev pub encoding_in : Shape → Enc
encoding_in (shape.Text encoding) = encoding
encoding_in _ = Utf8

abbrev pub step_by : ℕ → Marked → Step
step_by k m = by_cell m.entry.cell
  where
    by_cell : Cell → Step
    by_cell cell.Text = step.Text k (encoding_in m.entry.shape)
    by_cell cell.Value = step.Value k m.entry.shape
    by_cell cell.PlainValue = step.Value k m.entry.shape
    by_cell cell.Place = step.Place k m.mark m.entry.shape
    by_cell cell.PlainPlace = step.Place k m.mark m.entry.shape
    by_cell cell.Lend = step.Lend k m.entry.shape
    by_cell cell.Copy = step.Copy k m.mark m.entry.shape
    by_cell cell.CountedCopy = step.Copy k m.mark m.entry.shape
    by_cell cell.Thunk = step.Thunk k
    by_cell cell.Hold = step.Hold k
    by_cell _ = step.Word k m.entry.shape

-- the step of argument k
abbrev pub step_of : Known → Bool → ℕ → Passed → Result Step Why
step_of known unicode k p = map_ok (step_by k) (marked known unicode column.ByValue column.ByReference p)

-- what has no row, and why
pub record Refused : Type 0 where
  pub param : Param
  pub why : Why

abbrev pub refused_at : {A : Type 0} → Param → Result A Why → Result A Refused
refused_at param (Ok value) = Ok value
refused_at param (Err w) = Err (record { param = param; why = w })

-- an answer for each parameter in order, from number k on, or the first one that has none
abbrev pub each_from : {A : Type 0} → (ℕ → Passed → Result A Why) → ℕ → List Passed → Result (List A) Refused
each_from answer k [] = Ok []
each_from answer k (p ∷ ps) =
    and_then (λ a. map_ok (λ rest. a ∷ rest) (each_from answer (k + 1) ps)) (refused_at (Arg k) (answer k p))

-- a result that isn't void, by its column; its flags aren't looked at, and none is returned by reference
abbrev pub returned_by : Entry → Res
returned_by e = by_cell e.cell
  where
    by_cell : Cell → Res
    by_cell cell.Text = res.Text (encoding_in e.shape)
    by_cell cell.Value = res.Value e.shape
    by_cell cell.PlainValue = res.Value e.shape
    by_cell _ = res.Word e.shape

abbrev pub returned : Known → Bool → Column → Option Passed → Result Res Why
returned known unicode column None = Ok res.Void
returned known unicode column (Some p) =
    if p.reference then Err why.Type0
    else map_ok returned_by (and_then (λ e. laid e.shape e) (entry_in known unicode column p))

-- what is read back after the call: a place or a copy that native code may have written for us
abbrev pub is_read_back : Step → Bool
is_read_back (step.Place k Give s) = false
is_read_back (step.Place k _ s) = true
is_read_back (step.Copy k Give s) = false
is_read_back (step.Copy k _ s) = true
is_read_back _ = false

-- the greatest size of a struct that is passed in words
abbrev pub greatest_in_words : ℕ
greatest_in_words = 16

-- a step that may make a loan: a block of its own, a lent array, a held handle
abbrev pub may_lend : Step → Bool
may_lend (step.Word k s) = false
may_lend (step.Thunk k) = false
may_lend (step.Value k s) = nat_lt greatest_in_words (size s) || texts_in s
may_lend _ = true

abbrev pub read_back : List Step → List ℕ
read_back steps = map argument_of (filter is_read_back steps)

abbrev pub ended : List Step → List ℕ
ended steps = reverse (map argument_of (filter may_lend steps))

-- a signature that can be passed at all: of a fixed number of parameters, and not generic
abbrev pub is_plain_signature : Signature → Bool
is_plain_signature s = not s.vararg && not (nat_lt 0 s.generic)

abbrev pub whole : {A : Type 0} → Why → Result A Refused
whole w = Err (record { param = Whole; why = w })

abbrev pub stub_by : Bool → List Step → Res → Stub
stub_by saves_error steps result_way = record {
  steps = steps;
  back = read_back steps;
  ends = ended steps;
  result = result_way;
  errno = saves_error;
}

-- the stub of what is passed, by the charset and by whether the native error number is saved
abbrev pub stub_of_passed : Known → Bool → Bool → Signature → Result Stub Refused
stub_of_passed known unicode saves_error s =
    and_then
    (λ steps. map_ok (stub_by saves_error steps) (refused_at TheResult (returned known unicode column.Returned s.result)))
    (each_from (step_of known unicode) 0 s.params)

abbrev pub stub_of_signature : Known → Imported → Signature → Result Stub Refused
stub_of_signature known i s = stub_of_passed known i.unicode i.saves_error s

abbrev pub stub_by_signature : Known → Imported → Option Signature → Result Stub Refused
stub_by_signature known i None = whole why.Type0
stub_by_signature known i (Some s) =
    if i.is_static && is_plain_signature s then stub_of_signature known i s else whole why.Type0

-- The stub of an import, or what of it has no row in the table and why: that its signature isn't preserved, then its method
-- and its signature as a whole, then the first parameter from the left, then the result.
abbrev pub stub_of : Known → Imported → Result Stub Refused
stub_of known i =
    if i.preserves_signature then stub_by_signature known i i.signature else whole why.PreserveSig
