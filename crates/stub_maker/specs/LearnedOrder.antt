-- The fields of the structs that are known while a file's types are being found have widths in order.
use Rattle.std.specs.Prelude.{◌≡◌, Bool, true, false, Option, Some, None, is_some, if◌then◌else◌}
use Rattle.native_layout.specs.declared.shapes.StructShape.{StructShape}
use Rattle.stub_maker.specs.Described.{facts_of}
use Rattle.stub_maker.specs.InOrder.{known_in_order}
use Rattle.stub_maker.specs.Learned.{Learned, known_so_far, known_then, met, outline_at}
use Rattle.stub_maker.specs.Sized.{IsInOrder}

told : (b : Bool) (x : Option StructShape) (s : StructShape) → (if b then x else None) ≡ Some s → x ≡ Some s
told true x s is = is
told false x s is = absurd (cc)

pub learned_in_order : (l : Learned) → IsInOrder (known_so_far l)
unfolding known_so_far
learned_in_order l t s is = known_in_order (facts_of l.image) (met l) t s (told (is_some (outline_at l t)) ((known_then l).struct_of t) s is)
