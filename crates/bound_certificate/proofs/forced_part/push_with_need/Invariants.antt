use Rattle.std.proofs.Common.{◌≡◌, ◌++◌, map, nat_eq, slice_index, filter}
use Rattle.std.specs.List.{range_with_len}
use Rattle.soc_model.specs.Chips.{soc_value}
use Rattle.bound_certificate.specs.Best.{number_at}
use Rattle.bound_certificate.proofs.forced_part.push_with_need.Given as goal

abbrev pub invariant-loop-place : goal.invariant-loop-place
invariant-loop-place l = l.order.items ≡ l.fn.order.items ++ map (number_at (soc_value l.soc)) (filter (λ place. nat_eq (slice_index l.needs place) l.needed) (range_with_len 0 l.place))
