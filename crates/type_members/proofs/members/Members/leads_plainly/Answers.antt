use Rattle.std.proofs.Common.{false, subst}
use Rattle.std.specs.List.Sorted.{IsPermutation}
use Rattle.type_model.specs.Module.{Module}
use Rattle.type_members.specs.Subtypes.{type_edges, node}
use Rattle.type_members.proofs.SubtypeCases.{nodes_told}
use Rattle.type_members.proofs.members.Members.leads_plainly.Goals as goal

pub returns : goal.returns
returns c =
    let moved : IsPermutation (type_edges c.args.self.now false) c.self.inside.plain.edges.items =
    subst (λ (m : Module). IsPermutation (type_edges m false) c.self.inside.plain.edges.items) c.self.view_is c.self.invariant.plain_edges in
    nodes_told (type_edges c.args.self.now false) c.self.inside.plain.edges.items moved
    c.in_ok-leads.field-0 c.node.result c.node-2.result (node c.args.a) (node c.args.b) c.node.ensures c.node-2.ensures c.in_ok-leads.ensures
