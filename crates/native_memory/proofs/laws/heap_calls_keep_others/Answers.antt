use Rattle.native_memory.proofs.HeapChanges.{heap_written, heap_block_placed, heap_ended, heap_changes_then, bytes_written}
use Rattle.native_memory.proofs.laws.heap_calls_keep_others.Goals as goal

pub returns : goal.returns
returns c = record {
  writes = heap_written;
  places = heap_block_placed;
  ends = heap_ended;
  joined = heap_changes_then;
  bytes = bytes_written;
}
