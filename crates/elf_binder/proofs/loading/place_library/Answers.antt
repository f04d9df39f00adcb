use Rattle.std.proofs.lemmas.Result.{err_from_is_err_and}
use Rattle.elf_binder.specs.Sources.{source_of}
use Rattle.elf_binder.proofs.Begun.{loads_began}
use Rattle.elf_binder.proofs.Placing.{library_placed, library_fails}
use Rattle.byte_view.proofs.Refusals.{refuses_as}
use Rattle.elf_binder.specs.Refusals.{refusal}
use Rattle.elf_binder.proofs.loading.place_library.Goals as goal

pub returns-in_err-place_loads-clause-placed : goal.returns-in_err-place_loads-clause-placed
returns-in_err-place_loads-clause-placed c =
    let p = err_from_is_err_and c.from_residual.result c.from_residual.ensures.1 in
    rw (p.1, p.2)
    (refuses_as refusal c.in_err-place_loads.field-0.0 _ _ (λ d fails. library_fails c.args.bases.now c.args.memory.now.space (source_of c.args.source.now) c.base_for-base.result d c.base_for-base.ensures.base fails)
    c.in_err-place_loads.ensures.placed)

pub returns-in_err-place_loads-clause-memory : goal.returns-in_err-place_loads-clause-memory
returns-in_err-place_loads-clause-memory c =
    let p = err_from_is_err_and c.from_residual.result c.from_residual.ensures.1 in
    rw (p.1, p.2, ← c.base_for-base.ensures.base) c.in_err-place_loads.ensures.memory

pub returns-in_err-push-clause-memory : goal.returns-in_err-push-clause-memory
returns-in_err-push-clause-memory c =
    let p = err_from_is_err_and c.from_residual-in_err-push.result c.from_residual-in_err-push.ensures.1 in
    rw (p.1, ← c.base_for-base.ensures.base)
    (λ m. loads_began (source_of c.args.source.now) c.base_for-base.result c.args.memory.now.space c.place_loads.new.memory.space
    c.in_ok-place_loads.ensures.placed)

pub returns-clause-placed : goal.returns-clause-placed
returns-clause-placed c =
    library_placed c.args.bases.now c.args.memory.now.space (source_of c.args.source.now) c.base_for-base.result c.place_loads.new.memory.space c.push.new.self c.base_for-base.ensures.base c.in_ok-place_loads.ensures.placed
    c.in_ok-push.ensures.ok
