use Rattle.std.proofs.Common.{◌≡◌, sym, subst, arith}
use Rattle.std.specs.{Prelude.IfSome, List.flat_map}
use Rattle.resource_table.specs.{Calm.IsCalm, Jobs.job_value, Resources.marks_of}
use Rattle.busy_times.specs.{Profiles.ArePoints, Draws.load_of}
use Rattle.resource_table.specs.Schedules.{TableValue, last_end}
use Rattle.resource_table.proofs.KeptStarts.{profile_now, calm_here}
use Rattle.resource_table.proofs.table.TableOf.calm_from.Goals as goal

pub calm_end-requires : goal.calm_end-requires
calm_end-requires g c =
    let last = rw (← c.self.view_is) at c.last-last.ensures.last in
    record { profile = (load_of c.self.inside.draws.items, profile_now c.self.invariant.0 c.self.inside.points.items c.deref.result.now c.last-last.result (rw c.in-Some.is at c.self.invariant.2.are) c.deref.ensures.value last) }

pub returns-clause-calm : goal.returns-clause-calm
returns-clause-calm g c =
    let last = subst (λ (t : TableValue). c.last-last.result ≡ last_end t.job t.placed) (sym c.self.view_is) c.last-last.ensures.last in
    let profile = profile_now c.self.invariant.0 c.self.inside.points.items c.deref.result.now c.last-last.result (subst (λ o. IfSome o (λ _. ArePoints c.self.inside.draws.items (flat_map (marks_of (job_value c.self.inside.own)) c.self.inside.trail.items) c.self.inside.points.items)) c.in-Some.is c.self.invariant.2.are) c.deref.ensures.value last in
    subst (λ (t : TableValue). IsCalm t.job t.placed c.args.most c.calm_end.result) c.self.view_is
    (calm_here c.self.invariant.0 c.in-Some.limit c.args.most c.calm_end.result c.in-Some.is
    (λ at late. (let low = c.calm_end.ensures.calm (load_of c.self.inside.draws.items) profile at late in omega (arith, low, c.saturating_sub.ensures))))
