-- The parts of steps.
use Rattle.std.specs.Prelude.{ℕ}
use Rattle.stub_maker.specs.declared.stub.Step.{Step}
use Rattle.stub_maker.specs.declared.stub.Step.TheVariants.{Hold, Word, Text, Value, Place, Lend, Copy, Thunk}

-- the number of a step's argument
abbrev pub argument_of : Step → ℕ
argument_of (Hold k) = k
argument_of (Word k shape) = k
argument_of (Text k encoding) = k
argument_of (Value k shape) = k
argument_of (Place k mark shape) = k
argument_of (Lend k shape) = k
argument_of (Copy k mark shape) = k
argument_of (Thunk k) = k
