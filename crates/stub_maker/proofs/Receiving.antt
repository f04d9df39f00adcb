-- The parameters of a callback, one more at a time, in two lists.
use Rattle.std.proofs.Common.{◌≡◌, ℕ, ◌+◌, ◌<◌, List, [], ◌∷◌, ◌++◌, length, take, get_or, Some, Result, Ok, Err, refl, sym, ap, ◌∙◌}
use Rattle.native_layout.specs.declared.shapes.Shape.{Shape}
use Rattle.stub_maker.specs.declared.backs.ReceivedMark.{ReceivedMark}
use Rattle.stub_maker.specs.declared.backs.ReceivedParams.{ReceivedParams}
use Rattle.stub_maker.specs.declared.crossing.MarkedEntry.{MarkedEntry}
use Rattle.stub_maker.specs.declared.kinds.Passed.{Passed}
use Rattle.stub_maker.specs.declared.stub.Mark.{Mark}
use Rattle.stub_maker.specs.declared.stub.Received.{Received}
use Rattle.stub_maker.specs.declared.table.Cell.{Cell}
use Rattle.stub_maker.specs.declared.refused.Param.TheVariants.{Arg}
use Rattle.stub_maker.specs.declared.refused.StubBad.{StubBad}
use Rattle.stub_maker.specs.declared.refused.StubBad.TheVariants.{Outside, Memory}
use Rattle.stub_maker.specs.declared.refused.Why.{Why}
use Rattle.stub_maker.specs.Answers.{map_ok}
use Rattle.stub_maker.specs.Shapes.{Known, shape_of_form}
use Rattle.stub_maker.specs.Rules.{Marked, each_from}
use Rattle.stub_maker.specs.Callbacks.{in_lists, received_by}
use Rattle.stub_maker.specs.Crossing.{IsMarked, IsReturned, IsStep}
use Rattle.stub_maker.proofs.Orderly.{map_ok_ok}
use Rattle.stub_maker.proofs.Stepping.{step_stopped, step_taken}

-- what a parameter is answered, by its mark
pub mapped_err : {A : Type 0} (f : Marked → A) (known : Known) (w : Why) (r : Result Marked Why) → IsMarked known (Err w) r → map_ok f r ≡ Err w
mapped_err f known w (Err v) h = ap Err (sym h)
mapped_err f known w (Ok n) h = absurd h

abbrev made : Passed → Cell → Shape → Mark → ReceivedMark
made p c s m = record { received = received_by p c s; mark = m }

pub received_ok : (known : Known) (p : Passed) (m : MarkedEntry) (s : Shape) (r : Result Marked Why) → IsMarked known (Ok m) r
    → shape_of_form known m.found.form ≡ Some s
    → map_ok (λ (n : Marked). made p n.entry.cell n.entry.shape n.mark) r ≡ Ok (made p m.found.cell s m.mark)
received_ok known p m s (Err v) h e = absurd h
received_ok known p m s (Ok n) h e =
    let there : Some n.entry.shape ≡ Some s = sym h.entry.shape ∙ e in
    let same : n.entry.shape ≡ s = cc in
    ap (λ (c : Cell). Ok (made p c n.entry.shape n.mark)) (sym h.entry.cell)
    ∙ (ap (λ (x : Mark). Ok (made p m.found.cell n.entry.shape x)) (sym h.mark)
    ∙ ap (λ (x : Shape). Ok (made p m.found.cell x m.mark)) same)

abbrev pub lists : List Received → List Mark → ReceivedParams
lists received marks = record { received = received; marks = marks }

lists_more : (all : List ReceivedMark) (a : ReceivedMark)
    → in_lists (all ++ a ∷ []) ≡ record { received = (in_lists all).received ++ a.received ∷ []; marks = (in_lists all).marks ++ a.mark ∷ [] }
lists_more [] a = refl
lists_more (x ∷ all) a =
    ap (λ (l : ReceivedParams). record { received = x.received ∷ l.received; marks = x.mark ∷ l.marks }) (lists_more all a)

-- one parameter more
pub received_more : (f : ℕ → Passed → Result ReceivedMark Why) (ps : List Passed) (i : ℕ) (d : Passed) (l : ReceivedParams) (a : ReceivedMark)
    → i < length ps → map_ok in_lists (each_from f 0 (take i ps)) ≡ Ok l → f i (get_or ps i d) ≡ Ok a
    → map_ok in_lists (each_from f 0 (take (i + 1) ps)) ≡ Ok (record { received = l.received ++ a.received ∷ []; marks = l.marks ++ a.mark ∷ [] })
received_more f ps i d l a within e h =
    let m = map_ok_ok in_lists (each_from f 0 (take i ps)) l e in
    ap (map_ok in_lists) (step_taken f ps i d m.value a within m.was h)
    ∙ (ap Ok (lists_more m.value a)
    ∙ ap (λ (x : ReceivedParams). Ok (record { received = x.received ++ a.received ∷ []; marks = x.marks ++ a.mark ∷ [] })) m.is)

-- the lists when it has been pushed onto both
pub received_pushed : (f : ℕ → Passed → Result ReceivedMark Why) (ps : List Passed) (i : ℕ) (d : Passed) (l : ReceivedParams) (a : ReceivedMark) (rs : List Received) (ms : List Mark)
    → i < length ps → map_ok in_lists (each_from f 0 (take i ps)) ≡ Ok l → f i (get_or ps i d) ≡ Ok a
    → rs ≡ l.received ++ a.received ∷ [] → ms ≡ l.marks ++ a.mark ∷ []
    → map_ok in_lists (each_from f 0 (take (i + 1) ps)) ≡ Ok (lists rs ms)
received_pushed f ps i d l a rs ms within e h pushed marked =
    received_more f ps i d l a within e h
    ∙ (ap (λ (x : List Received). Ok (lists x (l.marks ++ a.mark ∷ []))) (sym pushed)
    ∙ ap (λ (y : List Mark). Ok (lists rs y)) (sym marked))

-- one that has no row
pub received_fails : (f : ℕ → Passed → Result ReceivedMark Why) (ps : List Passed) (i : ℕ) (d : Passed) (l : ReceivedParams) (bad : StubBad)
    → i < length ps → map_ok in_lists (each_from f 0 (take i ps)) ≡ Ok l → IsStep {A = ReceivedMark} (Arg i) (Err bad) (f i (get_or ps i d))
    → IsReturned {A = ReceivedParams} (Err bad) (map_ok in_lists (each_from f 0 ps))
received_fails f ps i d l Memory within e h = tt
received_fails f ps i d l (Outside p w) within e h =
    let m = map_ok_ok in_lists (each_from f 0 (take i ps)) l e in
    ap (map_ok in_lists) (step_stopped f ps i d m.value w within m.was h.1 ∙ ap (λ q. Err (record { param = q; why = w })) (sym h.0))
