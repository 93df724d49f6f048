use Rattle.std.proofs.Common.{◌≡◌, arith}
use Rattle.plan_model.specs.Plans.{OfForced}
use Rattle.plan_model.specs.Certificates.{certificate_value}
use Rattle.plan_model.specs.Views.{why_value}
use Rattle.bound_certificate.specs.Winners.{names_of}
use Rattle.bound_certificate.proofs.Choice.{claimed_is, takes_forced, keeps_winner, winner_meets, claimed_accepted, forced_accepted, claimed-le}
use Rattle.bound_certificate.proofs.best.best_with.Goals as goal
use Rattle.bound_certificate.proofs.best.best_with.Goals.{then-shown-wanted+in_ok-modules+else-wanted-forced_sum, else-shown-wanted}

pub returns-then-wanted-forced_sum-clause-best : goal.returns-then-wanted-forced_sum-clause-best
unfolding certificate_value
returns-then-wanted-forced_sum-clause-best c =
    let is = claimed_is c.args.problem.now.soc c.args.problem.now.limits c.winner_of.result _ c.claimed-shown.result c.winner_of.ensures.seen c.winner_of.ensures.value c.claimed-shown.ensures.seen in
    let sum : c.forced_sum.result ≡ certificate_value c.args.problem.now.soc c.args.problem.now.limits (OfForced c.in_ok-modules.modules.items) = rw (← c.problem.view_is, ← c.deref.ensures.value) c.forced_sum.ensures in
    takes_forced c.args.problem.now.soc c.args.problem.now.limits c.args.cycles (names_of c.args.chain) c.claimed-shown.result.0 (why_value c.claimed-shown.result.1) c.in_ok-modules.modules.items is (omega (arith, c.if-shown-wanted.true, c.from-wanted.ensures)) c.in_ok-modules.ensures
    (omega (arith, c.if-wanted-forced_sum.true, c.from-wanted.ensures, sum))

pub returns-clause-best : goal.returns-clause-best
unfolding certificate_value
returns-clause-best c =
    let is = claimed_is c.args.problem.now.soc c.args.problem.now.limits c.winner_of.result _ c.claimed-shown.result c.winner_of.ensures.seen c.winner_of.ensures.value c.claimed-shown.ensures.seen in
    elim c.if-shown-wanted.branch [
      | then-shown-wanted+in_ok-modules+else-wanted-forced_sum w ↦
          let sum : w.forced_sum.result ≡ certificate_value c.args.problem.now.soc c.args.problem.now.limits (OfForced w.in_ok-modules.modules.items) = rw (← c.problem.view_is, ← w.deref.ensures.value) w.forced_sum.ensures in
          keeps_winner c.args.problem.now.soc c.args.problem.now.limits c.args.cycles (names_of c.args.chain) c.claimed-shown.result.0 (why_value c.claimed-shown.result.1) w.in_ok-modules.modules.items is (omega (arith, w.if-shown-wanted.true, c.from-wanted.ensures)) w.in_ok-modules.ensures
          (omega (arith, w.if-wanted-forced_sum.false, c.from-wanted.ensures, sum))
      | else-shown-wanted w ↦
          winner_meets c.args.problem.now.soc c.args.problem.now.limits c.args.cycles (names_of c.args.chain) c.claimed-shown.result.0 (why_value c.claimed-shown.result.1) is (omega (arith, w.if-shown-wanted.false, c.from-wanted.ensures))
    ]

pub returns-then-wanted-forced_sum-clause-accepted : goal.returns-then-wanted-forced_sum-clause-accepted
unfolding certificate_value
returns-then-wanted-forced_sum-clause-accepted c =
    let sum : c.forced_sum.result ≡ certificate_value c.args.problem.now.soc c.args.problem.now.limits (OfForced c.in_ok-modules.modules.items) = rw (← c.problem.view_is, ← c.deref.ensures.value) c.forced_sum.ensures in
    forced_accepted c.args.problem.now.soc c.args.problem.now.limits c.args.cycles c.in_ok-modules.modules.items c.in_ok-modules.ensures (omega (arith, c.if-wanted-forced_sum.true, c.from-wanted.ensures, sum))

pub returns-clause-accepted : goal.returns-clause-accepted
returns-clause-accepted c = claimed_accepted c.args.problem.now.soc c.args.problem.now.limits c.winner_of.result c.claimed-shown.result c.winner_of.ensures.value c.claimed-shown.ensures.seen

pub returns-clause-few : goal.returns-clause-few
returns-clause-few c = claimed-le c.args.problem.now.soc c.args.problem.now.limits c.args.cycles c.winner_of.result c.claimed-shown.result c.winner_of.ensures.value c.claimed-shown.ensures.seen c.requires.good
