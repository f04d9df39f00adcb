use Rattle.std.proofs.Common.{◌≡◌, length, take, arith}
use Rattle.image_kit.specs.LibraryFile.{string_table}
use Rattle.image_kit.proofs.Pieces.{size_within, size_more, table_grown}
use Rattle.image_kit.proofs.elf_symbols.put_symbol_table.Goals as goal

pub overflow_cast-name : goal.overflow_cast-name
overflow_cast-name c =
    let within = size_within c.args.names.now c.loop-place.place-index c.place-item.result c.loop-place-test.true c.place-item.is in
    omega arith

pub overflow_add-name : goal.overflow_add-name
overflow_add-name c =
    let within = size_within c.args.names.now c.loop-place.place-index c.place-item.result c.loop-place-test.true c.place-item.is in
    omega arith

pub overflow_add-name-in-loop-place : goal.overflow_add-name-in-loop-place
overflow_add-name-in-loop-place c =
    let within = size_within c.args.names.now c.loop-place.place-index c.place-item.result c.loop-place-test.true c.place-item.is in
    omega (arith, c.loop-place.invariant.1)

pub loop-place-preserved : goal.loop-place-preserved
loop-place-preserved c =
    let names = c.args.names.now in
    let i = c.loop-place.place-index in
    let more = size_more names i c.place-item.result c.loop-place-test.true c.place-item.is in
    let name : c.loop-place.name ≡ length (string_table (take i names)) = c.loop-place.invariant.1 in
    let table = table_grown c.args.out.now c.loop-place.out c.put_symbol.new.out c.args.code c.loop-place.name names i c.place-item.result c.loop-place-test.true c.place-item.is c.loop-place.invariant.0 name c.in_ok-put_symbol.ensures in
    (table, omega arith)
