use Rattle.std.proofs.Common.{◌≤◌, map, length, get_or, refl, arith}
use Rattle.std.proofs.lemmas.List.{length-map}
use Rattle.std.proofs.lemmas.Result.{err_from_is_err_and}
use Rattle.elf_reader.specs.Elf.{load_of}
use Rattle.elf_binder.specs.Loading.{place_load, place_loads}
use Rattle.elf_binder.specs.Sources.{source_of}
use Rattle.byte_view.proofs.Refusals.{refuses_as}
use Rattle.elf_binder.specs.Refusals.{refusal}
use Rattle.elf_binder.proofs.StepByStep.{none_yet, one_more, it_fails, all_done}
use Rattle.elf_binder.proofs.LoadPlaces.{no_load, load_is, stands, all_behind, next_behind}
use Rattle.elf_binder.proofs.Begun.{is_ok, begun_by, placing_ok}
use Rattle.elf_binder.proofs.loading.place_loads.Goals as goal

pub loop-load-init : goal.loop-load-init
loop-load-init c = record {
  came = none_yet (place_load (source_of c.args.source.now) c.args.base) c.args.memory.now.space (map load_of c.args.source.now.elf.now.loads);
  start = λ e. refl;
  begun = λ h. absurd (omega arith);
  behind = all_behind (map load_of c.args.source.now.elf.now.loads) c.args.base c.args.memory.now.space.edge c.requires.after;
}

pub place_load-requires : goal.place_load-requires
place_load-requires c =
    let loads = c.as_slice-load-items.result.now in
    let load = load_of (get_or loads c.loop-load.load-index no_load) in
    let is = load_is loads c.args.source.now.elf.now.loads c.loop-load.load-index c.as_slice-load-items.ensures c.loop-load-test.true in
    let at = stands (source_of c.args.source.now) c.loop-load.load-index load c.requires.read is in
    record {
      low = c.requires.low;
      header = at.header;
      file = at.file;
      sizes = at.sizes;
      end = at.low;
      after = c.loop-load.invariant.behind.all c.loop-load.load-index load (omega arith) is;
    }

pub returns-in_err-place_load-clause-placed : goal.returns-in_err-place_load-clause-placed
unfolding place_loads
returns-in_err-place_load-clause-placed c =
    let p = err_from_is_err_and c.from_residual.result c.from_residual.ensures.1 in
    let loads = c.as_slice-load-items.result.now in
    let load = load_of (get_or loads c.loop-load.load-index no_load) in
    let is = load_is loads c.args.source.now.elf.now.loads c.loop-load.load-index c.as_slice-load-items.ensures c.loop-load-test.true in
    rw (p.1, p.2)
    (refuses_as refusal c.in_err-place_load.field-0.0 _ _ (λ d fails. it_fails (place_load (source_of c.args.source.now) c.args.base) c.args.memory.now.space (map load_of c.args.source.now.elf.now.loads) c.loop-load.memory.space
    c.loop-load.load-index load d c.loop-load.invariant.came is fails) c.in_err-place_load.ensures.placed)

pub returns-in_err-place_load-clause-memory : goal.returns-in_err-place_load-clause-memory
returns-in_err-place_load-clause-memory c =
    let p = err_from_is_err_and c.from_residual.result c.from_residual.ensures.1 in
    let loads = c.as_slice-load-items.result.now in
    let load = load_of (get_or loads c.loop-load.load-index no_load) in
    let is = load_is loads c.args.source.now.elf.now.loads c.loop-load.load-index c.as_slice-load-items.ensures c.loop-load-test.true in
    rw (p.1, p.2)
    (λ m. begun_by (place_load (source_of c.args.source.now) c.args.base) c.args.memory.now.space c.loop-load.memory.space
    (map load_of c.args.source.now.elf.now.loads) c.loop-load.load-index load c.loop-load.invariant.start c.loop-load.invariant.begun is
    (placing_ok (source_of c.args.source.now) c.args.base c.loop-load.memory.space load (c.in_err-place_load.ensures.memory m)))

pub loop-load-preserved : goal.loop-load-preserved
loop-load-preserved c =
    let loads = c.as_slice-load-items.result.now in
    let load = load_of (get_or loads c.loop-load.load-index no_load) in
    let is = load_is loads c.args.source.now.elf.now.loads c.loop-load.load-index c.as_slice-load-items.ensures c.loop-load-test.true in
    record {
      came = one_more (place_load (source_of c.args.source.now) c.args.base) c.args.memory.now.space (map load_of c.args.source.now.elf.now.loads) c.loop-load.memory.space c.loop-load.load-index load c.place_load.new.memory.space
          c.loop-load.invariant.came is c.in_ok-place_load.ensures.placed;
      start = λ e. absurd (omega arith);
      begun = λ h. begun_by (place_load (source_of c.args.source.now) c.args.base) c.args.memory.now.space c.loop-load.memory.space
          (map load_of c.args.source.now.elf.now.loads) c.loop-load.load-index load c.loop-load.invariant.start c.loop-load.invariant.begun is
          (is_ok (place_load (source_of c.args.source.now) c.args.base c.loop-load.memory.space load) c.place_load.new.memory.space
          c.in_ok-place_load.ensures.placed);
      behind = next_behind (source_of c.args.source.now) c.args.base c.loop-load.memory.space c.place_load.new.memory.space c.loop-load.load-index load c.requires.read is c.in_ok-place_load.ensures.placed c.loop-load.invariant.behind;
    }

pub returns-clause-placed : goal.returns-clause-placed
unfolding place_loads
returns-clause-placed c =
    let all : length (map load_of c.args.source.now.elf.now.loads) ≤ c.loop-load.load-index = rw (length-map, ← c.as_slice-load-items.ensures) c.loop-load-test.false in
    all_done (place_load (source_of c.args.source.now) c.args.base) c.args.memory.now.space (map load_of c.args.source.now.elf.now.loads) c.loop-load.memory.space c.loop-load.load-index c.loop-load.invariant.came all
