-- What is printed of a stub, line by line, and of an import without one. A line ends with 10.
use Rattle.std.specs.Prelude.{ℕ, nat_le, Bool, List, [], ◌∷◌, ◌++◌, if◌then◌else◌, codes}
use Rattle.std.specs.Fmt.{decimal}
use Rattle.std.specs.List.{flat_map}
use Rattle.bound_base.specs.Names.{escaped}
use Rattle.lp64_convention.specs.Places.{word_count}
use Rattle.stub_maker.specs.Extents.{size}
use Rattle.native_layout.specs.declared.shapes.Shape.{Shape, Int, Native, Bool as BoolShape, Char}
use Rattle.native_layout.specs.declared.shapes.Enc.{Enc}
use Rattle.native_layout.specs.declared.shapes.Enc.TheVariants.{Utf8, Utf16}
use Rattle.stub_maker.specs.declared.stub.Mark.{Mark}
use Rattle.stub_maker.specs.declared.stub.Mark.TheVariants.{Give, Take, Both}
use Rattle.stub_maker.specs.declared.stub.Step.{Step}
use Rattle.stub_maker.specs.declared.stub.Step.TheVariants as step
use Rattle.stub_maker.specs.declared.stub.Res.{Res}
use Rattle.stub_maker.specs.declared.stub.Res.TheVariants as res
use Rattle.stub_maker.specs.declared.stub.Stub.{Stub}
use Rattle.stub_maker.specs.declared.refused.Param.{Param}
use Rattle.stub_maker.specs.declared.refused.Param.TheVariants.{Arg, Result, Whole}
use Rattle.stub_maker.specs.declared.refused.Why.{Why}
use Rattle.stub_maker.specs.declared.refused.Why.TheVariants.{Type0, Descriptor, Layout, PreserveSig}
use Rattle.stub_maker.specs.declared.refused.Why.TheVariants as why
use Rattle.stub_maker.specs.Steps.{argument_of}

abbrev pub encoding_text : Enc → List ℕ
encoding_text Utf8 = codes "utf8"
encoding_text Utf16 = codes "utf16"

abbrev pub mark_text : Mark → List ℕ
mark_text Give = codes "give"
mark_text Take = codes "take"
mark_text Both = codes "both"

-- whether an integer is signed
abbrev pub sign_text : Bool → List ℕ
sign_text signed = if signed then codes " s" else codes " u"

-- what stands in a word; no other shape stands in one
abbrev pub word_text : Shape → List ℕ
word_text (Int width signed) = codes "int " ++ decimal width ++ sign_text signed
word_text (Native signed) = codes "int " ++ decimal 8 ++ sign_text signed
word_text (BoolShape width) = codes "bool " ++ decimal width
word_text (Char width) = codes "char " ++ decimal width
word_text _ = []

-- a struct of this size: in words, or behind a pointer
abbrev pub value_text : ℕ → List ℕ
value_text bytes =
    codes "value " ++ decimal bytes
    ++ (if nat_le bytes 16 then codes " words " ++ decimal (word_count bytes) else codes " pointer")

abbrev pub step_text : Step → List ℕ
step_text (step.Hold k) = codes "hold"
step_text (step.Word k shape) = codes "word " ++ word_text shape
step_text (step.Text k encoding) = codes "text " ++ encoding_text encoding
step_text (step.Value k shape) = value_text (size shape)
step_text (step.Place k mark shape) = codes "place " ++ mark_text mark ++ 32 ∷ [] ++ decimal (size shape)
step_text (step.Lend k shape) = codes "lend " ++ decimal (size shape)
step_text (step.Copy k mark shape) = codes "copy " ++ mark_text mark ++ 32 ∷ [] ++ decimal (size shape)
step_text (step.Thunk k) = codes "thunk"

abbrev pub result_text : Res → List ℕ
result_text res.Void = codes "void"
result_text (res.Word shape) = codes "word " ++ word_text shape
result_text (res.Text encoding) = codes "text " ++ encoding_text encoding
result_text (res.Value shape) = value_text (size shape)

abbrev pub result_line : Res → List ℕ
result_line result_way = codes "result " ++ result_text result_way ++ 10 ∷ []

abbrev pub line : List ℕ → List ℕ
line text = text ++ 10 ∷ []

abbrev pub step_line : Step → List ℕ
step_line s = codes "arg " ++ decimal (argument_of s) ++ 32 ∷ [] ++ step_text s ++ 10 ∷ []

-- a word and a number
abbrev pub number_line : List ℕ → ℕ → List ℕ
number_line word number = word ++ decimal number ++ 10 ∷ []

-- a line for each number
abbrev pub number_lines : List ℕ → List ℕ → List ℕ
number_lines word numbers = flat_map (number_line word) numbers

-- a line's front: a word, and an import by its module and its entry
abbrev pub import_front : List ℕ → List ℕ → List ℕ → List ℕ
import_front word module_name entry_name =
    word ++ escaped module_name ++ 32 ∷ [] ++ escaped entry_name

-- the last lines: `errno` where the native error number is saved, and `done`
abbrev pub end_lines : Bool → List ℕ
end_lines saves_errno = (if saves_errno then line (codes "errno") else []) ++ line (codes "done")

-- a stub: the import, a line for each argument, for each that is read back and for each that ends, the result, the end
abbrev pub printed : List ℕ → List ℕ → Stub → List ℕ
printed module_name entry_name stub =
    import_front (codes "stub ") module_name entry_name ++ 10 ∷ []
    ++ flat_map step_line stub.steps
    ++ number_lines (codes "back ") stub.back
    ++ number_lines (codes "end ") stub.ends
    ++ result_line stub.result
    ++ end_lines stub.errno

abbrev pub param_text : Param → List ℕ
param_text (Arg number) = decimal number
param_text Result = codes "result"
param_text Whole = codes "whole"

abbrev pub why_text : Why → List ℕ
why_text Type0 = codes "type"
why_text Descriptor = codes "descriptor"
why_text why.Mark = codes "mark"
why_text Layout = codes "layout"
why_text PreserveSig = codes "preservesig"

-- an import without a stub: what has no row in the marshalling table, and why
abbrev pub printed_outside : List ℕ → List ℕ → Param → Why → List ℕ
printed_outside module_name entry_name param reason =
    import_front (codes "outside ") module_name entry_name ++ 32 ∷ [] ++ param_text param ++ 32 ∷ [] ++ why_text reason ++ 10 ∷ []
