use Rattle.std.proofs.Common.{◌≡◌, ◌∙◌, List, ℕ, length, refl, ap, subst, arith, not, sym}
use Rattle.resource_table.specs.Jobs.{job_value}
use Rattle.schedule_search.specs.Progress.{stand_of}
use Rattle.schedule_search.specs.Noted.{AreStarts}
use Rattle.schedule_search.specs.Orders.{IsTopological}
use Rattle.schedule_search.proofs.Counting.{topological_long}
use Rattle.schedule_search.proofs.Searching.{found}
use Rattle.schedule_search.proofs.search.search_all.Goals as goal

pub returns-then-are_same-clause-found : goal.returns-then-are_same-clause-found
returns-then-are_same-clause-found g c =
    let job = job_value c.args.job.now in
    let room = c.search_orders.new.room in
    let best : List ℕ = room.progress.best.items in
    let is : c.args.first.now ≡ best = sym (c.are_same.ensures c.if-are_same.true) ∙ c.deref.ensures.value in
    let starts : AreStarts job best room.starts.items = subst (λ (l : List ℕ). AreStarts job l room.starts.items) is c.search_orders.ensures.starts in
    found job c.args.tries.now.budget (stand_of room.progress) best room.starts.items room.progress.cycles (not room.progress.refused) c.search_orders.ensures.found starts refl refl refl

pub list_starts-requires-clause-room : goal.list_starts-requires-clause-room
list_starts-requires-clause-room g c =
    let best : List ℕ = c.search_orders.new.room.progress.best.items in
    let long : length best ≡ length (job_value c.args.job.now).tests = topological_long (job_value c.args.job.now) best c.search_orders.ensures.found.topological in
    let starts = c.search_orders.ensures.room.starts in
    omega (arith, long, ap length c.deref-2.ensures.value, starts)

pub returns-clause-found : goal.returns-clause-found
returns-clause-found g c =
    let job = job_value c.args.job.now in
    let room = c.search_orders.new.room in
    let best : List ℕ = room.progress.best.items in
    let starts : AreStarts job best c.list_starts.new.starts.items = subst (λ (l : List ℕ). AreStarts job l c.list_starts.new.starts.items) c.deref-2.ensures.value c.list_starts.ensures.starts in
    found job c.args.tries.now.budget (stand_of room.progress) best c.list_starts.new.starts.items room.progress.cycles (not room.progress.refused) c.search_orders.ensures.found starts refl refl refl

pub list_starts-requires-clause-topological : goal.list_starts-requires-clause-topological
list_starts-requires-clause-topological g c =
    subst (IsTopological (job_value c.args.job.now)) (sym c.deref-2.ensures.value) c.search_orders.ensures.found.topological
