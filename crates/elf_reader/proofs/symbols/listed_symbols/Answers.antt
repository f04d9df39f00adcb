use Rattle.std.proofs.Common.{◌≡◌, ◌+◌, ◌*◌, ◌++◌, ◌∷◌, [], ℕ, List, map, Result}
use Rattle.std.proofs.lemmas.List.{map_push}
use Rattle.std.proofs.lemmas.Result.{err_from_is_err_and}
use Rattle.byte_view.specs.Reading.{Broken}
use Rattle.byte_view.specs.ElfLoads.{Load}
use Rattle.byte_view.specs.ElfSymbols as definition
use Rattle.elf_reader.specs.Elf.{load_of, symbol_of}
use Rattle.byte_view.proofs.Reading.{listed_none, listed_more}
use Rattle.byte_view.proofs.Refusals.{listed_refused}
use Rattle.elf_reader.specs.Refusals.{refusal}
use Rattle.elf_reader.proofs.symbols.listed_symbols.Goals as goal

abbrev step : List ℕ → List Load → ℕ → ℕ → ℕ → Result definition.Symbol Broken
step bytes loads strings at k = definition.symbol_at bytes loads strings (at + 24 * k)

pub loop-k-init : goal.loop-k-init
loop-k-init c = rw c.in_ok-symbols.ensures (listed_none (step c.args.bytes.now (map load_of c.args.loads.now) c.args.table.strings c.args.table.at))

pub returns-in_err-symbol : goal.returns-in_err-symbol
returns-in_err-symbol c =
    let p = err_from_is_err_and c.from_residual-in_err-symbol.result c.from_residual-in_err-symbol.ensures.1 in
    rw (p.1, p.2) (listed_refused refusal c.in_err-symbol.field-0.0 (step c.args.bytes.now (map load_of c.args.loads.now) c.args.table.strings c.args.table.at) c.loop-k.k c.args.table.count (map symbol_of c.loop-k.symbols) c.loop-k.invariant c.loop-k-test.true c.in_err-symbol.ensures)

pub loop-k-preserved : goal.loop-k-preserved
loop-k-preserved c =
    let more : map symbol_of c.push.new.self ≡ map symbol_of c.loop-k.symbols ++ symbol_of c.in_ok-symbol.symbol ∷ [] = rw c.in_ok-push.ensures.ok (map_push symbol_of c.loop-k.symbols c.in_ok-symbol.symbol) in
    rw more (listed_more (step c.args.bytes.now (map load_of c.args.loads.now) c.args.table.strings c.args.table.at) c.loop-k.k (map symbol_of c.loop-k.symbols) (symbol_of c.in_ok-symbol.symbol) c.loop-k.invariant c.in_ok-symbol.ensures)
