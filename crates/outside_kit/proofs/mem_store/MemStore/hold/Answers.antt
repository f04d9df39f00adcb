-- What the map's insert ensures of every key, by the bytes of its text.
use Rattle.std.proofs.Common.{arith}
use Rattle.std.proofs.lemmas.Map.Text.{text_keys}
use Rattle.outside_kit.proofs.mem_store.MemStore.hold.Goals as goal

pub returns-clause-ok : goal.returns-clause-ok
returns-clause-ok c = grind (arith, text_keys)
