use Rattle.std.proofs.Common.{refl}
use Rattle.type_model.specs.Core.{core_named, core_types}
use Rattle.type_model.proofs.laws.core_places_are_named.Goals as goal

pub returns : goal.returns
unfolding core_named core_types
returns c = record {
  object = refl;
  value_type = refl;
  enum = refl;
  array = refl;
  string = refl;
  boolean = refl;
  char = refl;
  integers = record {
    sbyte = refl;
    byte = refl;
    int16 = refl;
    uint16 = refl;
    int32 = refl;
    uint32 = refl;
    int64 = refl;
    uint64 = refl;
    int_ptr = refl;
    uint_ptr = refl;
  };
  void = refl;
  delegate = refl;
  multicast_delegate = refl;
  disposable = refl;
  safe_handle = refl;
  exception = refl;
  system_exception = refl;
  count = refl;
}
