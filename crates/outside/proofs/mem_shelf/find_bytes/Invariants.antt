use Rattle.std.proofs.Common.{◌≡◌, map}
use Rattle.std.specs.Ordering.{nat_cmp}
use Rattle.std.specs.Cmp.Lexicographic.{slice_cmp}
use Rattle.std.specs.FinMap.{get, find}
use Rattle.std.specs.VecDeque.Iter.{deque_iter_rest}
use Rattle.outside.specs.Entries.{files_of}
use Rattle.outside.specs.declared.mem_shelf.StoredFile.{StoredFile}
use Rattle.outside.proofs.mem_shelf.find_bytes.Given as goal

abbrev pub invariant-loop-entry : goal.invariant-loop-entry
invariant-loop-entry l = get (files_of l.entries.items) l.name ≡ find (slice_cmp nat_cmp) l.name (map (λ (e : StoredFile). (e.name.items, e.bytes.items)) (deque_iter_rest l.entry-iterator))
