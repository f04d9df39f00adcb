use Rattle.std.proofs.Common.{◌≡◌, ◌+◌, ◌-◌, arith}
use Rattle.std.proofs.lemmas.Grind.{common_steps}
use Rattle.elf_reader.specs.Elf.{load_of}
use Rattle.elf_binder.specs.Loading.{place_load}
use Rattle.elf_binder.specs.Sources.{source_of}
use Rattle.elf_binder.proofs.Placing.{placed, no_room}
use Rattle.elf_binder.proofs.loading.place_load.Goals as goal

pub returns-then-load-eq0 : goal.returns-then-load-eq0
unfolding place_load
returns-then-load-eq0 c = grind (arith, common_steps)

pub returns-in-Ok-clause-placed : goal.returns-in-Ok-clause-placed
returns-in-Ok-clause-placed c =
    let size : c.args.load.now.file_at + c.args.load.now.file_size - c.args.load.now.file_at ≡ c.args.load.now.file_size = omega arith in
    placed (source_of c.args.source.now) c.args.base c.args.memory.now.space (load_of c.args.load.now) c.place_at.new.self.space c.if-load-eq0.false (rw size at c.in-Ok.ensures.ok)

pub returns-in-Err-Room-clause-placed : goal.returns-in-Err-Room-clause-placed
returns-in-Err-Room-clause-placed c =
    let size : c.args.load.now.file_at + c.args.load.now.file_size - c.args.load.now.file_at ≡ c.args.load.now.file_size = omega arith in
    let none = rw (c.in-Err-Room.field-0-is, size) at c.in-Err-Room.ensures.err in
    rw c.broken.ensures (no_room (source_of c.args.source.now) c.args.base c.args.memory.now.space (load_of c.args.load.now) c.if-load-eq0.false none)

pub returns-in-Err-Memory-clause-memory : goal.returns-in-Err-Memory-clause-memory
returns-in-Err-Memory-clause-memory c =
    let size : c.args.load.now.file_at + c.args.load.now.file_size - c.args.load.now.file_at ≡ c.args.load.now.file_size = omega arith in
    λ _. rw (c.in-Err-Memory.field-0-is, size) at c.in-Err-Memory.ensures.err
