-- What the code finds of a parameter or a result, against the rule over the table.
use Rattle.std.specs.Prelude.{◌≡◌, ℕ, Bool, if◌then◌else◌, Option, Some, None, Result, Ok, Err, IsTrue}
use Rattle.native_layout.specs.declared.shapes.Shape.{Shape}
use Rattle.stub_maker.specs.declared.entries.Found.{Found}
use Rattle.stub_maker.specs.declared.crossing.MarkedEntry.{MarkedEntry}
use Rattle.stub_maker.specs.declared.stub.Mark.{Mark}
use Rattle.stub_maker.specs.declared.stub.Step.{Step}
use Rattle.stub_maker.specs.declared.stub.Res.{Res}
use Rattle.stub_maker.specs.declared.table.Cell.{Cell}
use Rattle.stub_maker.specs.declared.refused.Param.{Param}
use Rattle.stub_maker.specs.declared.refused.StubBad.{StubBad}
use Rattle.stub_maker.specs.declared.refused.StubBad.TheVariants.{Outside, Memory}
use Rattle.stub_maker.specs.declared.refused.Why.{Why}
use Rattle.stub_maker.specs.declared.refused.Why.TheVariants as why
use Rattle.stub_maker.specs.Extents.{is_laid_out}
use Rattle.stub_maker.specs.Shapes.{Entry, Known}
use Rattle.stub_maker.specs.Entries.{IsEntry}
use Rattle.stub_maker.specs.Rules.{Marked, Refused, returned_by, step_by}

-- an entry, or the same reason
abbrev pub IsChosen : Known → Result Found Why → Result Entry Why → Type 0
IsChosen known (Ok f) (Ok e) = IsEntry known f e
IsChosen known (Err w) (Err v) = w ≡ v
IsChosen known (Ok f) (Err v) = ⊥
IsChosen known (Err w) (Ok e) = ⊥

-- an entry that is laid out, or the same reason
abbrev pub IsLaid : Known → Result Found Why → Result Entry Why → Type 0
IsLaid known (Ok f) (Ok e) = IsEntry known f e × IsTrue (is_laid_out e.shape)
IsLaid known (Err w) (Err v) = w ≡ v
IsLaid known (Ok f) (Err v) = ⊥
IsLaid known (Err w) (Ok e) = ⊥

-- an entry with its mark, or the same reason
pub record IsMarkedEntry (known : Known) (m : MarkedEntry) (n : Marked) : Type 0 where
  pub entry : IsEntry known m.found n.entry
  pub mark : m.mark ≡ n.mark
  pub laid : IsTrue (is_laid_out n.entry.shape)

-- what is found, with its mark, where it may have it and its shape is laid out
abbrev pub marked_if : Found → Option Mark → Bool → Result MarkedEntry Why
marked_if f None is_laid = Err why.Mark
marked_if f (Some m) is_laid = if is_laid then Ok (record { found = f; mark = m }) else Err why.Layout

abbrev pub IsMarked : Known → Result MarkedEntry Why → Result Marked Why → Type 0
IsMarked known (Ok m) (Ok n) = IsMarkedEntry known m n
IsMarked known (Err w) (Err v) = w ≡ v
IsMarked known (Ok m) (Err v) = ⊥
IsMarked known (Err w) (Ok n) = ⊥

-- the step of a cell
abbrev pub step_in : ℕ → Cell → Mark → Shape → Step
step_in k cell mark shape = step_by k (record { entry = record { cell = cell; shape = shape }; mark = mark })

-- the result of a cell
abbrev pub returned_in : Cell → Shape → Res
returned_in cell shape = returned_by (record { cell = cell; shape = shape })

-- a call answered what the rule says of this parameter or result; want of memory says nothing
abbrev pub IsStep : {A : Type 0} → Param → Result A StubBad → Result A Why → Type 0
IsStep param (Ok a) said = said ≡ Ok a
IsStep param (Err (Outside p w)) said = (p ≡ param) × (said ≡ Err w)
IsStep param (Err Memory) said = Unit {0}

abbrev pub IsReturned : {A : Type 0} → Result A StubBad → Result A Refused → Type 0
IsReturned (Ok a) said = said ≡ Ok a
IsReturned (Err (Outside p w)) said = said ≡ Err (record { param = p; why = w })
IsReturned (Err Memory) said = Unit {0}
