-- The bytes that objects count. They are the project's own measure, and not those of the memory that
-- objects take.
use Rattle.std.specs.Prelude.{ℕ, ◌+◌, ◌-◌, ◌*◌, ◌^◌, ◌==◌, min, length, sum_by, if◌then◌else◌}
use Rattle.managed_value.specs.declared.value.Value.{Value, out-Value}
use Rattle.managed_value.specs.declared.value.Value.TheOpen.{Value-F}
use Rattle.object_store.specs.declared.body.Body0.{Body0}
use Rattle.object_store.specs.declared.body.Body0.TheVariants as bodies

-- a field, or the value in a box: its bytes where it is kept as bytes, else 8
abbrev pub size_in : Value-F Value → ℕ
size_in (Value-F.Flat t bytes) = length bytes
size_in _ = 8

abbrev pub size_of : Value → ℕ
size_of v = size_in (out-Value v)

-- an element of an array: its bytes where they are kept as bytes, else 8
abbrev pub element_size : ℕ → ℕ
element_size width = if width == 0 then 8 else width

-- an object: 16, and what is in it; a delegate 32
abbrev pub weight_of : Body0 → ℕ
weight_of (bodies.Object t fields) = sum_by size_of fields + 16
weight_of (bodies.Text units) = length units * 2 + 16
weight_of (bodies.Array elem width len bytes elements) = element_size width * len + 16
weight_of (bodies.Delegate t target method) = 32
weight_of (bodies.Box t v) = size_of v + 16
weight_of (bodies.Native t addr) = 32
weight_of (bodies.Builder units capacity) = capacity * 2 + 16

-- a number, as far as 64 bits hold it
abbrev pub capped : ℕ → ℕ
capped n = min n (2 ^ 64 - 1)
