use Rattle.std.proofs.Common.{rules}
use Rattle.std.specs.Prelude.{nat_le}
use Rattle.std.proofs.lemmas.List.Sorted.{IsPartitionPoint-from_clause, IsPartitionedBy-leb}
use Rattle.elf_reader.specs.declared.elf.Load.{Load}
use Rattle.elf_binder.specs.Sources.{load_end}
use Rattle.elf_binder.proofs.targets.count_ending_by.Goals as goal

pub returns : goal.returns
returns c =
    let parted = IsPartitionedBy-leb load_end c.args.loads.now c.args.addr c.requires in
    IsPartitionPoint-from_clause (λ (load : Load). nat_le (load_end load) c.args.addr) _ _ c.partition_point.ensures.partitioned parted (λ a r q k. search rules)
