use Rattle.std.proofs.Common.{◌<◌, suc, length, sym, ap, subst, arith, slice_index_or}
use Rattle.bus_proofs.proofs.walk.off_ranks.Goals as goal

pub place_off-requires-clause-twins : goal.place_off-requires-clause-twins
place_off-requires-clause-twins c = λ k d within.
    subst (λ n. slice_index_or c.args.twins.now k d < n) (sym (ap length c.requires.forked.1.intervals)) (c.requires.forked.2.1 (suc k) d (omega (arith, within)))
