use Rattle.std.proofs.Common.{◌<◌, length, arith}
use Rattle.elf_binder.proofs.SourceLists.{count_joined}
use Rattle.elf_binder.proofs.source.Sources.at.Goals as goal

pub source_at-requires : goal.source_at-requires
source_at-requires c =
    let i = c.self.inside in
    let count = count_joined i.elfs.now i.files.now i.names.now c.self.invariant.0 c.self.invariant.1 in
    let here = rw (← c.self.view_is) at c.requires in
    let within : c.args.number < length i.elfs.now = omega (arith, count, here) in
    record {
      elf = within;
      file = omega (arith, within, c.self.invariant.0);
      name = omega (arith, within, c.self.invariant.1);
      few = omega (arith, within, c.self.invariant.2);
    }

pub returns : goal.returns
returns c = rw (← c.self.view_is) c.source_at.ensures
