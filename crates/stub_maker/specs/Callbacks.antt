-- The rule over the marshalling table for callbacks: how the parameters and the result of a delegate's Invoke cross.
use Rattle.std.specs.Prelude.{ℕ, ◌%◌, ◌==◌, Bool, true, false, ◌&&◌, not, if◌then◌else◌, List, map, slice_get, Option, Some, None, is_some, Result, Ok, Err}
use Rattle.native_layout.specs.declared.shapes.Shape.{Shape}
use Rattle.marshal_spec.specs.declared.spec.Spec.TheVariants.{LpArray}
use Rattle.stub_maker.specs.declared.kinds.Kind.TheVariants as kind
use Rattle.stub_maker.specs.declared.kinds.TypeKind.{TypeKind}
use Rattle.stub_maker.specs.declared.kinds.TypeKind.TheVariants.{One, Array}
use Rattle.stub_maker.specs.declared.kinds.Descriptor.{Descriptor}
use Rattle.stub_maker.specs.declared.kinds.Descriptor.TheVariants.{Is}
use Rattle.stub_maker.specs.declared.kinds.Passed.{Passed}
use Rattle.stub_maker.specs.declared.backs.ReceivedMark.{ReceivedMark}
use Rattle.stub_maker.specs.declared.backs.ReceivedParams.{ReceivedParams}
use Rattle.stub_maker.specs.declared.callbacks.Counted.{Counted}
use Rattle.stub_maker.specs.declared.table.Column.TheVariants as column
use Rattle.stub_maker.specs.declared.table.Cell.{Cell}
use Rattle.stub_maker.specs.declared.table.Cell.TheVariants as cell
use Rattle.stub_maker.specs.declared.stub.Received.{Received}
use Rattle.stub_maker.specs.declared.stub.Received.TheVariants as received
use Rattle.stub_maker.specs.declared.stub.Res.{Res}
use Rattle.stub_maker.specs.declared.stub.Back.{Back}
use Rattle.stub_maker.specs.declared.refused.Param.TheVariants.{Result as TheResult}
use Rattle.stub_maker.specs.declared.refused.Why.{Why}
use Rattle.stub_maker.specs.declared.refused.Why.TheVariants as why
use Rattle.stub_maker.specs.Answers.{and_then, map_ok}
use Rattle.stub_maker.specs.Shapes.{Known, Entry}
use Rattle.stub_maker.specs.declared.signature.Signature.{Signature}
use Rattle.stub_maker.specs.Rules.{Marked, Refused, encoding_in, each_from, entry_in, is_plain_signature, laid, mark_in, refused_at, returned, whole, with_mark}

-- bit 0 of the flag, 1 where there is no flag, says that the parameter's number is used
abbrev pub is_used : Option ℕ → Bool
is_used None = true
is_used (Some flag) = flag % 2 == 1

abbrev pub counted_by : Descriptor → Counted
counted_by (Is (LpArray code parameter count flag)) =
    record { count = count; parameter = if is_used flag then parameter else None }
counted_by _ = record { count = None; parameter = None }

abbrev pub is_integer : TypeKind → Bool
is_integer (One (kind.Integer width signed)) = true
is_integer (One (kind.NativeInteger signed)) = true
is_integer _ = false

-- a parameter that may give a length: an integer that is passed by value
abbrev pub gives_length : Option Passed → Bool
gives_length None = false
gives_length (Some p) = not p.reference && is_integer p.kind

-- an array has a length: the parameter that is named may give one, or a number of elements is there
abbrev pub has_length : List Passed → Counted → Bool
has_length params c = by_parameter c.parameter
  where
    by_parameter : Option ℕ → Bool
    by_parameter (Some k) = gives_length (slice_get params k)
    by_parameter None = is_some c.count

-- an array that is copied for a callback must have a length
abbrev pub length_is_there : Cell → List Passed → Descriptor → Bool
length_is_there cell.CountedCopy params d = has_length params (counted_by d)
length_is_there _ params d = true

-- it is refused for its descriptor where that gives no length
abbrev pub with_length : List Passed → Passed → Entry → Result Entry Why
with_length params p e = if length_is_there e.cell params p.descriptor then Ok e else Err why.Descriptor

-- a parameter of a callback: its entry with its length, then its mark, then its layout
abbrev pub marked_of : Known → List Passed → Passed → Result Marked Why
marked_of known params p =
    and_then (λ m. laid m.entry.shape m)
    (and_then (λ e. with_mark e (mark_in e.cell p.flags))
    (and_then (with_length params p)
    (entry_in known false (if p.reference then column.CallbackReference else column.CallbackValue) p)))

-- the `base` of an array's element
abbrev pub element_base : TypeKind → ℕ
element_base (Array base element) = base
element_base (One k) = 0

abbrev pub received_by : Passed → Cell → Shape → Received
received_by p cell.Text s = received.Text (encoding_in s)
received_by p cell.Value s = received.Value s
received_by p cell.PlainValue s = received.Value s
received_by p cell.Place s = received.Place s
received_by p cell.PlainPlace s = received.Place s
received_by p cell.CountedCopy s =
    let c = counted_by p.descriptor in received.Copy (element_base p.kind) s c.count c.parameter
received_by p _ s = received.Word s

-- a parameter of a callback, and its mark
abbrev pub received_of : Known → List Passed → ℕ → Passed → Result ReceivedMark Why
received_of known params k p =
    map_ok (λ m. record { received = received_by p m.entry.cell m.entry.shape; mark = m.mark }) (marked_of known params p)

abbrev pub in_lists : List ReceivedMark → ReceivedParams
in_lists params = record { received = map (λ r. r.received) params; marks = map (λ r. r.mark) params }

abbrev pub back_by : List ReceivedMark → Res → Back
back_by params result_way = record {
  params = (in_lists params).received;
  result = result_way;
  marks = (in_lists params).marks;
}

abbrev pub back_of_signature : Known → Signature → Result Back Refused
back_of_signature known s =
    and_then
    (λ params. map_ok (back_by params) (refused_at TheResult (returned known false column.CallbackReturned s.result)))
    (each_from (received_of known s.params) 0 s.params)

-- How a callback by this signature of Invoke crosses, None where there is no Invoke or its bytes are outside the grammar; or
-- what of it has no row in the table and why. Its charset is Ansi.
abbrev pub back_of : Known → Option Signature → Result Back Refused
back_of known None = whole why.Type0
back_of known (Some s) = if is_plain_signature s then back_of_signature known s else whole why.Type0
