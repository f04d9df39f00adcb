use Rattle.std.proofs.Common.{◌≡◌, ℕ, ◌<◌, false, sym, subst, arith, nat_le}
use Rattle.std.proofs.lemmas.Bool.{lt-leb}
use Rattle.type_model.specs.TypeIds.{row_limit}
use Rattle.stub_maker.specs.declared.kinds.Kind.TheVariants.{Other}
use Rattle.stub_maker.specs.Described.{kind_of}
use Rattle.stub_maker.proofs.Rowless.{kind_listed, kind_of_zero, kind_unlisted}
use Rattle.stub_maker.proofs.kinds_of_types.kind_of.Goals as goal

pub returns-then-base-eq0 : goal.returns-then-base-eq0
returns-then-base-eq0 c =
    let e : c.args.base ≡ 0 = omega arith in
    let P : ℕ → Type 0 = λ base. Other ≡ kind_of c.args.types.now base in
    subst P (sym e) (kind_of_zero c.args.types.now)

pub returns-in-Some : goal.returns-in-Some
returns-in-Some c =
    let below : c.args.base < row_limit = omega arith in
    let no_core : nat_le row_limit c.args.base ≡ false = lt-leb row_limit c.args.base below in
    let from_one : 0 < c.args.base = omega arith in
    rw no_core (kind_listed c.args.types.now c.args.kinds.now c.args.base c.requires from_one c.in-Some.kind.now (sym c.in-Some.ensures.value))

pub returns-in-None : goal.returns-in-None
returns-in-None c =
    let below : c.args.base < row_limit = omega arith in
    let no_core : nat_le row_limit c.args.base ≡ false = lt-leb row_limit c.args.base below in
    let from_one : 0 < c.args.base = omega arith in
    rw no_core (kind_unlisted c.args.types.now c.args.kinds.now c.args.base c.requires from_one below (sym c.in-None.ensures.value))
