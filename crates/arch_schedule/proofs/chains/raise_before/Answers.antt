use Rattle.std.proofs.Common.{◌<◌, ℕ, subst, sym, All}
use Rattle.arch_schedule.proofs.Listing.{before_inside}
use Rattle.arch_schedule.proofs.chains.raise_before.Goals as goal

pub raise_chains-requires-clause-earlier : goal.raise_chains-requires-clause-earlier
raise_chains-requires-clause-earlier c =
    let so = c.requires.before in
    subst (λ (n : ℕ). All (λ test. test < n) c.earlier_than-earlier.result.now) so.many
    (before_inside so.job c.args.before.now c.earlier_than-earlier.result.now c.args.test so.sound so.are (subst (λ (n : ℕ). c.args.test < n) (sym so.many) c.requires.test) c.earlier_than-earlier.ensures)
