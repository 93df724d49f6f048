use Rattle.std.proofs.Common.{subst}
use Rattle.std.specs.List.Sorted.{IsPermutation}
use Rattle.std.proofs.lemmas.List.Sorted.{IsNonDecreasingBy-from_sort}
use Rattle.picture.proofs.fills.sorted_starts.Goals as goal

pub returns : goal.returns
returns c = record {
  once = subst (λ l. IsPermutation l c.sort_unstable.new.self.items) c.in_ok-keys.ensures.all c.sort_unstable.ensures.permutation;
  sorted = IsNonDecreasingBy-from_sort (λ x. x) c.sort_unstable.new.self.items c.sort_unstable.ensures.sorted;
  small = c.in_ok-keys.ensures.small;
}
