use Rattle.std.proofs.Common.{◌≤◌, [], length, arith}
use Rattle.std.proofs.lemmas.Result.{err_from_is_err_and}
use Rattle.byte_view.proofs.Refusals.{refuses_as}
use Rattle.elf_binder.specs.Loading.{Placed, place_library, place_all}
use Rattle.elf_binder.specs.Refusals.{refusal}
use Rattle.elf_binder.specs.Sources.{source_of, IsRead}
use Rattle.elf_binder.proofs.Begun.{begun_at, library_began}
use Rattle.elf_binder.proofs.SourceLists.{all_at}
use Rattle.elf_binder.proofs.StepByStep.{one_more, it_fails, all_done}
use Rattle.elf_binder.proofs.loading.place_all.Goals as goal

pub place_library-requires : goal.place_library-requires
place_library-requires c =
    all_at IsRead c.args.sources.now c.loop-number.number (source_of c.at-source.result) c.requires c.at-source.ensures

pub returns-in_err-place_library-clause-placed : goal.returns-in_err-place_library-clause-placed
unfolding place_all
returns-in_err-place_library-clause-placed c =
    let p = err_from_is_err_and c.from_residual.result c.from_residual.ensures.1 in
    let first : Placed = record { bases = []; space = c.args.memory.now.space } in
    rw (p.1, p.2)
    (refuses_as refusal c.in_err-place_library.field-0.0 _ _ (λ d fails. it_fails place_library first c.args.sources.now
    (record { bases = c.loop-number.bases; space = c.loop-number.memory.space }) c.loop-number.number (source_of c.at-source.result) d
    c.loop-number.invariant.came c.at-source.ensures fails) c.in_err-place_library.ensures.placed)

pub returns-in_err-place_library-clause-memory : goal.returns-in_err-place_library-clause-memory
returns-in_err-place_library-clause-memory c =
    let p = err_from_is_err_and c.from_residual.result c.from_residual.ensures.1 in
    rw (p.1, p.2)
    (λ m. begun_at c.args.memory.now.space c.loop-number.memory.space c.args.sources.now c.loop-number.number (source_of c.at-source.result)
    c.loop-number.invariant.start c.loop-number.invariant.begun c.at-source.ensures (c.in_err-place_library.ensures.memory m))

pub loop-number-preserved : goal.loop-number-preserved
loop-number-preserved c =
    let first : Placed = record { bases = []; space = c.args.memory.now.space } in
    record {
      came = one_more place_library first c.args.sources.now (record { bases = c.loop-number.bases; space = c.loop-number.memory.space })
          c.loop-number.number (source_of c.at-source.result) (record { bases = c.place_library.new.bases; space = c.place_library.new.memory.space })
          c.loop-number.invariant.came c.at-source.ensures c.in_ok-place_library.ensures.placed;
      count = omega (arith, c.in_ok-place_library.ensures.count);
      start = λ e. absurd (omega arith);
      begun = λ h. begun_at c.args.memory.now.space c.loop-number.memory.space c.args.sources.now c.loop-number.number
          (source_of c.at-source.result) c.loop-number.invariant.start c.loop-number.invariant.begun c.at-source.ensures
          (library_began (record { bases = c.loop-number.bases; space = c.loop-number.memory.space }) (source_of c.at-source.result)
          (record { bases = c.place_library.new.bases; space = c.place_library.new.memory.space }) c.in_ok-place_library.ensures.placed);
      low = c.in_ok-place_library.ensures.low c.loop-number.invariant.low;
    }

pub returns-clause-placed : goal.returns-clause-placed
unfolding place_all
returns-clause-placed c =
    let first : Placed = record { bases = []; space = c.args.memory.now.space } in
    let all : length c.args.sources.now ≤ c.loop-number.number = omega (arith, c.len-count.ensures.count) in
    all_done place_library first c.args.sources.now (record { bases = c.loop-number.bases; space = c.loop-number.memory.space })
    c.loop-number.number c.loop-number.invariant.came all
