use Rattle.std.proofs.Common.{◌∙◌, sym, ap}
use Rattle.std.specs.Prelude.{List, ◌++◌, ◌∷◌, []}
use Rattle.elf_binder.specs.declared.module.Export.{Export}
use Rattle.elf_reader.specs.Elf.{symbol_of}
use Rattle.elf_binder.specs.Modules.{export_of}
use Rattle.elf_binder.proofs.Exports.{no_exports, next_exports, next_passed}
use Rattle.elf_binder.proofs.module.exports.Goals as goal
use Rattle.elf_binder.proofs.module.exports.Goals.{then-is_defined+in_ok-export_from+in_ok-push, else-is_defined}

pub loop-symbol-init : goal.loop-symbol-init
loop-symbol-init c = c.new-exports.ensures ∙ sym (no_exports c.args.base)

pub loop-symbol-preserved : goal.loop-symbol-preserved
loop-symbol-preserved c =
    elim c.if-is_defined.branch [
      | then-is_defined+in_ok-export_from+in_ok-push w ↦
          w.exports-is
          ∙ w.in_ok-push.ensures.ok
          ∙ ap (λ (e : Export). c.loop-symbol.exports ++ e ∷ []) w.in_ok-export_from.ensures
          ∙ ap (λ (l : List Export). l ++ export_of c.args.base (symbol_of c.symbol-item.result) ∷ []) c.loop-symbol.invariant
          ∙ sym (next_exports c.args.base c.args.symbols.now c.loop-symbol.symbol-index c.symbol-item.result c.loop-symbol-test.true c.symbol-item.is (sym c.is_defined.ensures ∙ w.if-is_defined.true))
      | else-is_defined w ↦
          w.exports-is
          ∙ c.loop-symbol.invariant
          ∙ sym (next_passed c.args.base c.args.symbols.now c.loop-symbol.symbol-index c.symbol-item.result c.loop-symbol-test.true c.symbol-item.is (sym c.is_defined.ensures ∙ w.if-is_defined.false))
    ]
