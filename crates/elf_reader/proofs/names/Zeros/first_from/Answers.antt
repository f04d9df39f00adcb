use Rattle.std.proofs.Common.{◌≡◌, ◌+◌, ◌*◌, ◌/◌, ◌<◌, length, sym, arith}
use Rattle.std.specs.Prelude.{slice_index}
use Rattle.std.proofs.lemmas.List.{get_or_read}
use Rattle.elf_reader.specs.Names.{IsFirstZero}
use Rattle.elf_reader.proofs.Texts.{zero_inside, zero_behind, zero_at_end}
use Rattle.elf_reader.proofs.names.Zeros.first_from.Goals as goal

pub returns-in-Some : goal.returns-in-Some
returns-in-Some c = zero_inside c.args.bytes.now c.args.at c.min-end.result c.in-Some.n (omega arith) (omega arith) (sym c.in-Some.ensures)

pub returns-in-None : goal.returns-in-None
returns-in-None c =
    let block = c.args.at / 64 + 1 in
    let end : c.min-end.result ≡ 64 * (c.args.at / 64 + 1) = omega arith in
    let inside : c.args.at / 64 + 1 < length c.args.self.now.from_block.items = omega (arith, c.requires.zeros.count) in
    let value : c.index.result.now ≡ slice_index c.args.self.now.from_block.items (c.args.at / 64 + 1) = get_or_read c.args.self.now.from_block.items _ _ inside c.index.ensures 0 in
    let first : IsFirstZero c.args.bytes.now c.min-end.result c.index.result.now = rw (end, value) (c.requires.zeros.each block (omega arith)) in
    zero_behind c.args.bytes.now c.args.at c.min-end.result c.index.result.now (omega arith) (omega arith) (sym c.in-None.ensures) first

pub returns-in-None-2 : goal.returns-in-None-2
returns-in-None-2 c =
    let end : c.min-end.result ≡ length c.args.bytes.now = omega arith in
    let first : IsFirstZero c.args.bytes.now c.min-end.result (length c.args.bytes.now) = rw end (zero_at_end c.args.bytes.now) in
    zero_behind c.args.bytes.now c.args.at c.min-end.result (length c.args.bytes.now) (omega arith) (omega arith) (sym c.in-None-2.ensures) first
