use Rattle.std.proofs.Common.{◌≡◌, ◌<◌, Bool, true, false, refl, arith}
use Rattle.std.specs.Prelude.{IsTrue, ◌↔◌}
use Rattle.std.proofs.lemmas.Result.{IfOk-weaker}
use Rattle.graph_cycles.specs.Cycles.{Leads}
use Rattle.type_members.specs.Subtypes.{IsSubtype, type_edges, node}
use Rattle.type_members.proofs.SubtypeCases.{no_deeper, itself, told_of_arrays, told_plainly, told_by_elements}
use Rattle.type_members.proofs.members.Members.is_subtype.Goals as goal

pub returns-then-b-a : goal.returns-then-b-a
returns-then-b-a c = told_of_arrays c.args.self.now c.args.a c.args.b c.is_of_arrays.result c.if-b-a.true c.is_of_arrays.ensures

pub returns-then-a-b : goal.returns-then-a-b
returns-then-a-b c = (λ is. absurd (cc), λ below. absurd (no_deeper c.args.self.now c.args.a c.args.b c.if-a-b.true below))

pub returns-then-a-b-2 : goal.returns-then-a-b-2
returns-then-a-b-2 c =
    let same : c.args.a.arrays ≡ c.args.b.arrays = omega arith in
    (λ is. itself c.args.self.now c.args.a c.args.b same c.if-a-b-2.true, λ below. refl)

pub returns-then-a-eq0 : goal.returns-then-a-eq0
returns-then-a-eq0 c =
    let same : c.args.a.arrays ≡ c.args.b.arrays = omega arith in
    IfOk-weaker _ (λ (is : Bool). IsTrue is ↔ Leads (type_edges c.args.self.now false) (node c.args.a.base) (node c.args.b.base))
    (λ (is : Bool). IsTrue is ↔ IsSubtype c.args.self.now c.args.a c.args.b)
    (λ is tells. told_plainly c.args.self.now c.args.a c.args.b is c.if-a-eq0.true same c.if-a-b-2.false tells)
    c.leads_plainly.ensures

pub returns-else-a-eq0 : goal.returns-else-a-eq0
returns-else-a-eq0 c =
    let same : c.args.a.arrays ≡ c.args.b.arrays = omega arith in
    let some : 0 < c.args.a.arrays = omega arith in
    IfOk-weaker _ (λ (is : Bool). IsTrue is ↔ Leads (type_edges c.args.self.now true) (node c.args.a.base) (node c.args.b.base))
    (λ (is : Bool). IsTrue is ↔ IsSubtype c.args.self.now c.args.a c.args.b)
    (λ is tells. told_by_elements c.args.self.now c.args.a c.args.b is some same c.if-a-b-2.false tells)
    c.leads_by_elements.ensures
