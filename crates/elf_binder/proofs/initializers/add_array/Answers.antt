use Rattle.std.proofs.Common.{◌*◌, ◌∙◌, ap}
use Rattle.byteorder.specs.Endian.{little_number}
use Rattle.elf_binder.proofs.Initials.{one_entry, rest_is}
use Rattle.elf_binder.proofs.initializers.add_array.Goals as goal

pub loop-k-preserved : goal.loop-k-preserved
loop-k-preserved c =
    let value = c.read_u64.ensures ∙ ap (little_number 8) (rest_is (8 * c.loop-k.k) c.args.array.now) in
    one_entry c.args.array.now c.loop-k.k c.read_u64.result c.args.inits.now c.loop-k.inits c.add_entry.new.inits c.loop-k.invariant c.in_ok-add_entry.ensures value
