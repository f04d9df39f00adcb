use Rattle.std.proofs.Common.{ℕ}
use Rattle.std.specs.Ordering.{is_lt}
use Rattle.std.proofs.lemmas.List.Sorted.{IsPartitionPoint-from_clause}
use Rattle.type_model.specs.ByName.{compared}
use Rattle.type_model.proofs.TypeOrder.{names_parted}
use Rattle.type_model.proofs.by_name.first_not_below.Goals as goal

pub returns : goal.returns
returns c =
    IsPartitionPoint-from_clause (λ (t : ℕ). is_lt (compared c.args.image.now (c.args.name.now, c.args.namespace.now) t)) _ _
    c.partition_point.ensures.partitioned
    (names_parted c.args.image.now c.args.types.now (c.args.name.now, c.args.namespace.now) c.requires.sorted)
    (λ a r q k. (k.met.1, λ i. (k.met.0.0 i, k.met.0.1 i, k.met.0.2 i)))
