use Rattle.type_model.specs.Types.{is_instance}
use Rattle.type_model.proofs.Chains.{kept_more}
use Rattle.type_model.proofs.model.Types.push_declared.Goals as goal

pub loop-field-preserved : goal.loop-field-preserved
loop-field-preserved c = kept_more (is_instance c.args.self.now) c.from-first.result c.loop-field.field c.args.fields.now c.loop-field.fields _ c.loop-field.auto.field c.loop-field.invariant c.in_ok-push_field.ensures
