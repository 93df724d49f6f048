-- Tests are taken one by one, each the longest that may be taken next.
use Rattle.std.proofs.Common.{◌≡◌, inl, inr, ℕ, zero, suc, ◌<◌, true, Some, List, [], ◌∷◌, ◌++◌, length, get_or, sym, ◌∙◌, ap, subst, arith, slice_get}
use Rattle.std.proofs.lemmas.Bool.{cases_Bool}
use Rattle.std.proofs.lemmas.Option.{slice_get-get_or, slice_get_within, get_or_from_slice_get}
use Rattle.plan_model.specs.Rules.{Each}
use Rattle.resource_table.specs.Jobs.{JobValue, cycles_of, IsSoundJob}
use Rattle.resource_table.proofs.Placed.{each_push}
use Rattle.schedule_search.specs.declared.prefix.Prefix.{Prefix}
use Rattle.schedule_search.specs.Orders.{GoesFirst, IsLongest, IsFirstOrder}
use Rattle.schedule_search.specs.Walks.{goes_before, is_in, may_follow}
use Rattle.schedule_search.specs.Prefixes.{outside, followers, IsAt}
use Rattle.schedule_search.proofs.Comparing.{goes_to, in_order_at}
use Rattle.schedule_search.proofs.Following.{ready_from, ready_to, in_to}
use Rattle.schedule_search.proofs.Outside.{outside_at, outside_has, passing_has, passing_order}
use Rattle.schedule_search.proofs.Waiting.{followers_at}
use Rattle.schedule_search.proofs.WalkOrders.{ready_below}

goes_first : (job : JobValue) (a b : ℕ) → goes_before job a b ≡ true → GoesFirst job a b
goes_first job a b goes = elim (goes_to job a b goes) [ inl more ↦ inl more | inr same ↦ inr (same.0, omega (arith, same.1)) ]

-- the first that may follow is the longest
longest_here : (job : JobValue) (path : List ℕ) (x : ℕ) → slice_get (followers job path) 0 ≡ Some x → IsLongest job path x
longest_here job path x at =
    let may = followers_at job path 0 x at in
    record {
      ready = ready_from job path x may.0 may.1;
      first = λ other ready. (let there = passing_has job (may_follow job path) other ready.in_job (ready_to job path other ready) in from_first other there.0 there.1);
    }
  where
    from_first : (other k : ℕ) → slice_get (followers job path) k ≡ Some other → GoesFirst job x other
    from_first other zero there = let same : x ≡ other = some_is (sym at ∙ there) in inr (ap (cycles_of job) same, omega (arith, same))
      where
        some_is : Some x ≡ Some other → x ≡ other
        some_is e = cc
    from_first other (suc k) there =
        goes_first job x other (subst (λ (n : ℕ). goes_before job n other ≡ true) (get_or_from_slice_get (followers job path) 0 x 0 at)
        (subst (λ (n : ℕ). goes_before job (get_or (followers job path) 0 0) n ≡ true) (get_or_from_slice_get (followers job path) (suc k) other 0 there)
        (in_order_at job (followers job path) 0 (suc k) 0 (passing_order job (may_follow job path)) (omega arith) (slice_get_within (followers job path) (suc k) other there))))

pub longest_more : (job : JobValue) (p q : Prefix) → IsAt job p.tests.items p → Each (IsLongest job) p.tests.items → 0 < length p.free.items → q.tests.items ≡ p.tests.items ++ get_or p.free.items 0 0 ∷ [] → Each (IsLongest job) q.tests.items
longest_more job p q at longest some is =
    let x : ℕ = get_or p.free.items 0 0 in
    let here : slice_get (followers job p.tests.items) 0 ≡ Some x = ap (λ (l : List ℕ). slice_get l 0) (sym at.free_are) ∙ slice_get-get_or p.free.items 0 0 some in
    subst (Each (IsLongest job)) (sym is) (each_push (IsLongest job) p.tests.items x longest (longest_here job p.tests.items x here))

-- where some are left, one is free
pub some_free : (job : JobValue) (path : List ℕ) → IsSoundJob job → 0 < length (outside job path) → 0 < length (followers job path)
some_free job path sound some =
    let x : ℕ = get_or (outside job path) 0 0 in
    let out = outside_at job path 0 x (slice_get-get_or (outside job path) 0 0 some) in
    let next = ready_below job path sound sound.acyclic.0 sound.acyclic.1 (suc (sound.acyclic.0 x)) x (omega arith) out.0 out.1 in
    let there = passing_has job (may_follow job path) next.0 next.1.in_job (ready_to job path next.0 next.1) in
    let less : there.0 < length (followers job path) = slice_get_within (followers job path) there.0 next.0 there.1 in
    omega (arith, less)

-- where none is free, all are taken
pub all_taken : (job : JobValue) (p : Prefix) → IsSoundJob job → IsAt job p.tests.items p → Each (IsLongest job) p.tests.items → length p.free.items ≡ 0 → IsFirstOrder job p.tests.items
all_taken job p sound at longest none = record {
  longest = longest;
  whole = λ test inside. elim (cases_Bool (is_in p.tests.items test)) [
    | inl yes' ↦ in_to p.tests.items test yes'
    | inr new ↦ absurd (
        let there = outside_has job p.tests.items test inside new in
        let some : 0 < length (outside job p.tests.items) = omega (arith, slice_get_within (outside job p.tests.items) there.0 test there.1) in
        omega (arith, some_free job p.tests.items sound some, ap length at.free_are, none))
  ];
}
