use Rattle.std.proofs.lemmas.Result.{err_from_is_err_and}
use Rattle.byte_view.proofs.Refusals.{refuses_as}
use Rattle.elf_binder.specs.Refusals.{refusal}
use Rattle.elf_binder.proofs.Begun.{all_began}
use Rattle.elf_binder.proofs.Phases.{ArePlaced, not_placed, not_relocated, not_listed, all_bound}
use Rattle.elf_binder.proofs.binding.bind_all.Goals as goal

pub returns-in_err-bases-clause-bound : goal.returns-in_err-bases-clause-bound
returns-in_err-bases-clause-bound c =
    let p = err_from_is_err_and c.from_residual.result c.from_residual.ensures.1 in
    rw (p.1, p.2)
    (refuses_as refusal c.in_err-bases.field-0.0 _ _ (λ d fails. not_placed c.args.sources.now c.args.memory.now.space d fails) c.in_err-bases.ensures.placed)

pub returns-in_err-relocate_all-clause-bound : goal.returns-in_err-relocate_all-clause-bound
returns-in_err-relocate_all-clause-bound c =
    let p = err_from_is_err_and c.from_residual-in_err-relocate_all.result c.from_residual-in_err-relocate_all.ensures.1 in
    let placed : ArePlaced c.args.sources.now c.args.memory.now.space c.place_all.new.memory.space c.as_slice-bases.result.now c.in_ok-modules.modules =
    record { bases = c.in_ok-bases.bases; placing = c.in_ok-bases.ensures.placed; lending = c.as_slice-bases.ensures; naming = c.in_ok-modules.ensures.all } in
    rw (p.1, p.2)
    (refuses_as refusal c.in_err-relocate_all.field-0.0 _ _ (λ d fails. not_relocated c.args.sources.now c.args.memory.now.space
    c.place_all.new.memory.space c.as_slice-bases.result.now c.in_ok-modules.modules c.as_slice.result.now d placed c.as_slice.ensures fails)
    c.in_err-relocate_all.ensures)

pub returns-in_err-inits-clause-bound : goal.returns-in_err-inits-clause-bound
returns-in_err-inits-clause-bound c =
    let p = err_from_is_err_and c.from_residual-in_err-inits.result c.from_residual-in_err-inits.ensures.1 in
    let placed : ArePlaced c.args.sources.now c.args.memory.now.space c.place_all.new.memory.space c.as_slice-bases.result.now c.in_ok-modules.modules =
    record { bases = c.in_ok-bases.bases; placing = c.in_ok-bases.ensures.placed; lending = c.as_slice-bases.ensures; naming = c.in_ok-modules.ensures.all } in
    rw (p.1, p.2)
    (refuses_as refusal c.in_err-inits.field-0.0 _ _ (λ d fails. not_listed c.args.sources.now c.args.memory.now.space
    c.place_all.new.memory.space c.relocate_all.new.memory.space c.as_slice-bases.result.now c.in_ok-modules.modules c.as_slice.result.now d
    placed c.as_slice.ensures c.in_ok-relocate_all.ensures fails) c.in_err-inits.ensures)

pub returns-clause-bound : goal.returns-clause-bound
returns-clause-bound c =
    let placed : ArePlaced c.args.sources.now c.args.memory.now.space c.place_all.new.memory.space c.as_slice-bases.result.now c.in_ok-modules.modules =
    record { bases = c.in_ok-bases.bases; placing = c.in_ok-bases.ensures.placed; lending = c.as_slice-bases.ensures; naming = c.in_ok-modules.ensures.all } in
    rw c.new.ensures
    (all_bound c.args.sources.now c.args.memory.now.space c.place_all.new.memory.space c.relocate_all.new.memory.space
    c.as_slice-bases.result.now c.in_ok-modules.modules c.as_slice.result.now c.in_ok-inits.inits placed c.as_slice.ensures
    c.in_ok-relocate_all.ensures c.in_ok-inits.ensures)

pub returns-in_err-bases-clause-memory : goal.returns-in_err-bases-clause-memory
returns-in_err-bases-clause-memory c =
    let p = err_from_is_err_and c.from_residual.result c.from_residual.ensures.1 in
    rw (p.1, p.2) c.in_err-bases.ensures.memory

pub returns-in_err-modules-clause-memory : goal.returns-in_err-modules-clause-memory
returns-in_err-modules-clause-memory c =
    let p = err_from_is_err_and c.from_residual-in_err-modules.result c.from_residual-in_err-modules.ensures.1 in
    rw p.1 (λ m. all_began c.args.memory.now.space c.args.sources.now _ c.in_ok-bases.ensures.placed)

pub returns-in_err-relocate_all-clause-memory : goal.returns-in_err-relocate_all-clause-memory
returns-in_err-relocate_all-clause-memory c =
    let p = err_from_is_err_and c.from_residual-in_err-relocate_all.result c.from_residual-in_err-relocate_all.ensures.1 in
    rw p.1 (λ m. all_began c.args.memory.now.space c.args.sources.now _ c.in_ok-bases.ensures.placed)

pub returns-in_err-inits-clause-memory : goal.returns-in_err-inits-clause-memory
returns-in_err-inits-clause-memory c =
    let p = err_from_is_err_and c.from_residual-in_err-inits.result c.from_residual-in_err-inits.ensures.1 in
    rw p.1 (λ m. all_began c.args.memory.now.space c.args.sources.now _ c.in_ok-bases.ensures.placed)
