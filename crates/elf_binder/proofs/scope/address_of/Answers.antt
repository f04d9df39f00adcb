use Rattle.std.proofs.Common.{◌∙◌, sym}
use Rattle.elf_binder.proofs.InScope.{place_defines, place_passed, past_all}
use Rattle.elf_binder.proofs.scope.address_of.Goals as goal

pub returns-in-Some : goal.returns-in-Some
returns-in-Some c =
    sym (place_defines c.args.modules.now c.args.name.now c.loop-module.module-index c.module-item.result c.in-Some.address c.loop-module-test.true c.module-item.is (sym c.in-Some.ensures))
    ∙ c.loop-module.invariant

pub loop-module-preserved : goal.loop-module-preserved
loop-module-preserved c =
    sym (place_passed c.args.modules.now c.args.name.now c.loop-module.module-index c.module-item.result c.loop-module-test.true c.module-item.is (sym c.in_default.ensures))
    ∙ c.loop-module.invariant

pub returns : goal.returns
returns c =
    c.place_named.ensures
    ∙ sym (past_all c.args.modules.now c.args.name.now c.loop-module.module-index c.loop-module-test.false)
    ∙ c.loop-module.invariant
