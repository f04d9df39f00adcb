use Rattle.std.proofs.Common.{sym, ◌∙◌, refl}
use Rattle.std.proofs.lemmas.Option.{slice_get_read, slice_get_past}
use Rattle.elf_binder.proofs.SymbolPlaces.{symbol_zero, value_of_symbol}
use Rattle.elf_binder.proofs.symbol_values.symbol_value.Goals as goal

pub returns-then-number-eq0 : goal.returns-then-number-eq0
returns-then-number-eq0 c = rw c.if-number-eq0.true (symbol_zero c.args.modules.now c.args.symbols.now c.args.kind)

pub returns-in_err-symbol : goal.returns-in_err-symbol
returns-in_err-symbol c =
    let none = slice_get_past c.args.symbols.now c.args.number c.in_err-symbol.ensures.lookup.3 in
    c.from_residual.ensures ∙ sym (value_of_symbol c.args.modules.now c.args.symbols.now c.args.kind c.args.number _ c.if-number-eq0.false none)

pub returns : goal.returns
returns c =
    let found = slice_get_read c.args.symbols.now _ c.args.number c.in_ok-symbol.symbol.now refl c.in_ok-symbol.ensures.lookup.3.0 c.in_ok-symbol.ensures.lookup.1 in
    c.named_value.ensures ∙ sym (value_of_symbol c.args.modules.now c.args.symbols.now c.args.kind c.args.number _ c.if-number-eq0.false found)
