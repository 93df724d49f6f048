use Rattle.std.proofs.Common.{◌∙◌, arith, rules, subst, suc, ◌+◌, ◌≡◌, ◌<◌, length, slice_index, slice_set}
use Rattle.std.proofs.lemmas.List.{length-set}
use Rattle.pack_leaves.proofs.Rows.{IsFilled, filled_next}
use Rattle.pack_leaves.proofs.sharing.fill_rest.Goals as goal

pub loop-x-preserved : goal.loop-x-preserved
loop-x-preserved c =
    let within : c.loop-x.x < length c.loop-x.row = search rules in
    let next : suc c.loop-x.x ≡ c.loop-x.x + 1 = omega arith in
    record {
      long = length-set c.loop-x.row c.loop-x.x c.most_with_bus.result ∙ c.loop-x.invariant.long;
      filled = subst (λ k. IsFilled (slice_index c.args.worth.now) c.args.high k (slice_set c.loop-x.row c.loop-x.x c.most_with_bus.result)) next
          (filled_next (slice_index c.args.worth.now) c.args.high c.loop-x.x c.most_with_bus.result c.loop-x.row c.requires.small within c.loop-x.invariant.filled
          (record { most = c.most_with_bus.ensures.most; reached = c.most_with_bus.ensures.reached }));
    }
