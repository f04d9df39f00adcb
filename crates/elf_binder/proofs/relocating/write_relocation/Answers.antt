use Rattle.std.proofs.Common.{◌≡◌, ◌+◌, ◌<◌, ◌^◌, true, false, map, Some, None, ◌∙◌, sym, arith}
use Rattle.elf_reader.specs.Elf.{load_of, symbol_of, relocation_of}
use Rattle.elf_binder.specs.Relocating.{is_writable, width_of, value_for}
use Rattle.elf_binder.specs.Sources.{source_of}
use Rattle.elf_binder.proofs.Writing.{target_low, no_target, unresolved, written, not_written}
use Rattle.elf_binder.proofs.relocating.write_relocation.Goals as goal

pub returns-then-not-is_writable : goal.returns-then-not-is_writable
returns-then-not-is_writable c =
    let target : is_writable (map load_of c.args.source.now.elf.now.loads) c.args.r.now.offset (width_of c.args.kind) ≡ false =
    rw (← c.width.ensures) (sym c.is_writable.ensures ∙ c.if-not-is_writable.true) in
    rw c.broken.ensures (no_target c.args.modules.now (source_of c.args.source.now) c.args.base c.args.memory.now.space (relocation_of c.args.r.now) c.args.kind target)

pub returns-in_default : goal.returns-in_default
returns-in_default c =
    let target : is_writable (map load_of c.args.source.now.elf.now.loads) c.args.r.now.offset (width_of c.args.kind) ≡ true =
    rw (← c.width.ensures) (sym c.is_writable.ensures ∙ c.if-not-is_writable.false) in
    let value : value_for c.args.modules.now (map symbol_of c.args.source.now.elf.now.symbols) c.args.kind c.args.r.now.symbol ≡ None =
    rw (← c.as_slice.ensures) (sym c.value_for.ensures ∙ c.in_default.is) in
    rw c.broken-in_default.ensures (unresolved c.args.modules.now (source_of c.args.source.now) c.args.base c.args.memory.now.space (relocation_of c.args.r.now) c.args.kind target value)

pub overflow_add-base : goal.overflow_add-base
overflow_add-base c =
    let target : is_writable (map load_of c.args.source.now.elf.now.loads) c.args.r.now.offset (width_of c.args.kind) ≡ true =
    rw (← c.width.ensures) (sym c.is_writable.ensures ∙ c.if-not-is_writable.false) in
    let low : c.args.r.now.offset + width_of c.args.kind < 2 ^ 32 = target_low (source_of c.args.source.now) c.args.r.now.offset (width_of c.args.kind) c.requires.read target in
    omega (arith, low, c.requires.low)

pub returns-in-Ok : goal.returns-in-Ok
returns-in-Ok c =
    let target : is_writable (map load_of c.args.source.now.elf.now.loads) c.args.r.now.offset (width_of c.args.kind) ≡ true =
    rw (← c.width.ensures) (sym c.is_writable.ensures ∙ c.if-not-is_writable.false) in
    let value : value_for c.args.modules.now (map symbol_of c.args.source.now.elf.now.symbols) c.args.kind c.args.r.now.symbol ≡ Some c.in-Some.symbol =
    rw (← c.as_slice.ensures) (sym c.value_for.ensures ∙ c.in-Some.is) in
    written c.args.modules.now (source_of c.args.source.now) c.args.base c.args.memory.now.space (relocation_of c.args.r.now) c.args.kind c.in-Some.symbol c.write_value.new.memory.space target value
    (rw (← c.addend_bits.ensures) c.in-Ok.ensures.ok)

pub returns-in-Err : goal.returns-in-Err
returns-in-Err c =
    let target : is_writable (map load_of c.args.source.now.elf.now.loads) c.args.r.now.offset (width_of c.args.kind) ≡ true =
    rw (← c.width.ensures) (sym c.is_writable.ensures ∙ c.if-not-is_writable.false) in
    let value : value_for c.args.modules.now (map symbol_of c.args.source.now.elf.now.symbols) c.args.kind c.args.r.now.symbol ≡ Some c.in-Some.symbol =
    rw (← c.as_slice.ensures) (sym c.value_for.ensures ∙ c.in-Some.is) in
    rw c.broken-in-Err.ensures
    (not_written c.args.modules.now (source_of c.args.source.now) c.args.base c.args.memory.now.space (relocation_of c.args.r.now) c.args.kind c.in-Some.symbol target value
    (rw (← c.addend_bits.ensures) c.in-Err.ensures.err))
