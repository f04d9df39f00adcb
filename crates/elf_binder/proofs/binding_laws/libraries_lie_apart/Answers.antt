use Rattle.std.proofs.Common.{[], arith}
use Rattle.elf_binder.specs.Loading.{Placed, place_all}
use Rattle.elf_binder.specs.Sources.{IsRead}
use Rattle.elf_binder.proofs.Standing.{Follow, all_follow, stand_apart, each_from_all}
use Rattle.elf_binder.proofs.binding_laws.libraries_lie_apart.Goals as goal

pub returns : goal.returns
unfolding place_all
returns c = λ space sources placed sound read e i j p q load other h first second there some later.
    let before : Placed = record { bases = []; space = space } in
    let found : Follow before placed sources = all_follow before placed sources sound (each_from_all IsRead sources read) e in
    let one = rw found.bases at first in
    let two = rw found.bases at second in
    omega (arith, stand_apart space.edge sources found.more placed.space.edge i j p q load found.stand h one two there some)
