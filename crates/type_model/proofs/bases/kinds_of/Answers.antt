use Rattle.std.proofs.Common.{ℕ, subst}
use Rattle.type_model.specs.BaseTable.{TellsBelow}
use Rattle.type_model.proofs.bases.kinds_of.Goals as goal

pub returns : goal.returns
returns c = record {
  value = subst (λ (place : ℕ). TellsBelow c.args.names.now place c.in_ok-values.values) c.from.ensures c.in_ok-values.ensures;
  enum = subst (λ (place : ℕ). TellsBelow c.args.names.now place c.in_ok-enums.enums) c.from-2.ensures c.in_ok-enums.ensures;
  delegate = subst (λ (place : ℕ). TellsBelow c.args.names.now place c.in_ok-delegates.delegates) c.from-3.ensures c.in_ok-delegates.ensures;
  handle = subst (λ (place : ℕ). TellsBelow c.args.names.now place c.in_ok-handles.handles) c.from-4.ensures c.in_ok-handles.ensures;
}
