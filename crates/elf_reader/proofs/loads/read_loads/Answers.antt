use Rattle.std.proofs.Common.{◌≡◌, ◌+◌, ◌*◌, map, length, true, false, sym, ◌∙◌, refl, arith}
use Rattle.std.proofs.lemmas.Bool.{eq-eqb, ne_eqb}
use Rattle.std.proofs.lemmas.List.{map_push}
use Rattle.std.proofs.lemmas.Result.{err_from_is_err_and}
use Rattle.byte_view.specs.ElfLoads as definition
use Rattle.elf_reader.specs.Elf.{load_of}
use Rattle.elf_reader.proofs.LoadSteps.{no_loads, one_more, passed, refused, last_end_push, sound_none, sound_push, before_push}
use Rattle.elf_reader.proofs.loads.read_loads.Goals as goal
use Rattle.elf_reader.proofs.loads.read_loads.Goals.{then-header_type-eq-PT_LOAD+in_ok-load+in_ok-push, else-header_type-eq-PT_LOAD}

pub loop-k-init : goal.loop-k-init
loop-k-init c = rw c.new-loads.ensures (record {
  read = no_loads c.args.bytes.now c.args.headers.start;
  last = refl;
  before = λ k d h. absurd (omega arith);
  sound = sound_none (length c.args.bytes.now);
})

pub returns-in_err-load-clause-loads : goal.returns-in_err-load-clause-loads
returns-in_err-load-clause-loads c =
    let p = err_from_is_err_and c.from_residual.result c.from_residual.ensures.1 in
    let here : definition.is_of_type definition.pt_load c.args.bytes.now (c.args.headers.start + 56 * c.loop-k.k) ≡ true = eq-eqb _ 1 (sym c.header_type.ensures ∙ c.if-header_type-eq-PT_LOAD.true) in
    let r = rw c.loop-k.invariant.last at c.in_err-load.ensures.load in
    rw (p.1, p.2) (refused c.args.bytes.now c.args.headers.start _ c.loop-k.k c.args.headers.count (map load_of c.loop-k.loads) c.loop-k.invariant.read c.loop-k-test.true here r)

pub loop-k-preserved : goal.loop-k-preserved
loop-k-preserved c =
    elim c.if-header_type-eq-PT_LOAD.branch [
      | then-header_type-eq-PT_LOAD+in_ok-load+in_ok-push w ↦
          (let here : definition.is_of_type definition.pt_load c.args.bytes.now (c.args.headers.start + 56 * c.loop-k.k) ≡ true = eq-eqb _ 1 (sym c.header_type.ensures ∙ w.if-header_type-eq-PT_LOAD.true) in
          let load = w.in_ok-load.load in
          let read = rw c.loop-k.invariant.last at w.in_ok-load.ensures.load in
          let more = map_push load_of c.loop-k.loads load in
          rw (w.loads-is, w.end-is, w.in_ok-push.ensures.ok) (record {
            read = rw more (one_more c.args.bytes.now c.args.headers.start c.loop-k.k (map load_of c.loop-k.loads) (load_of load) c.loop-k.invariant.read here read);
            last = rw more (sym (last_end_push (map load_of c.loop-k.loads) (load_of load)));
            before = before_push c.loop-k.end (load.vaddr + load.size) c.loop-k.loads load c.loop-k.invariant.before (omega (arith, w.in_ok-load.ensures.after)) (omega (arith, w.in_ok-load.ensures.sizes));
            sound = sound_push (length c.args.bytes.now) c.loop-k.end c.loop-k.loads load c.loop-k.invariant.sound c.loop-k.invariant.before w.in_ok-load.ensures.in_file (omega (arith, w.in_ok-load.ensures.sizes, w.in_ok-load.ensures.low)) w.in_ok-load.ensures.after;
          }))
      | else-header_type-eq-PT_LOAD w ↦
          (let here : definition.is_of_type definition.pt_load c.args.bytes.now (c.args.headers.start + 56 * c.loop-k.k) ≡ false = ne_eqb _ 1 (λ e. w.if-header_type-eq-PT_LOAD.false (c.header_type.ensures ∙ e)) in
          rw (w.loads-is, w.end-is) (record {
            read = passed c.args.bytes.now c.args.headers.start c.loop-k.k (map load_of c.loop-k.loads) c.loop-k.invariant.read here;
            last = c.loop-k.invariant.last;
            before = c.loop-k.invariant.before;
            sound = c.loop-k.invariant.sound;
          }))
    ]
