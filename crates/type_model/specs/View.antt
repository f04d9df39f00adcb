-- The code's values as those of the definitions.
use Rattle.type_model.specs.declared.core_types.CoreType.{CoreType as CodeType}
use Rattle.type_model.specs.Core.{CoreType}

abbrev pub view_core : CodeType → CoreType
view_core known = record {
  namespace = known.namespace.now;
  name = known.name.now;
  extends = known.extends;
  flags = known.flags;
  interfaces = known.interfaces.now;
}
