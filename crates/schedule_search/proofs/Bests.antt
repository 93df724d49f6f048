-- The order that is best so far, and the orders that aren't better.
use Rattle.std.proofs.Common.{◌≡◌, ◌⊎◌, inl, inr, ℕ, ◌+◌, ◌-◌, ◌<◌, ◌≤◌, Option, None, true, false, true≢false, Some, List, [], ◌∷◌, ◌++◌, length, get_or, take, drop, map, refl, sym, ◌∙◌, ap, subst, arith, append_assoc, length-append, slice_get, IfSome, Contains}
use Rattle.std.proofs.lemmas.Bool.{cases_Bool, cases_lt, cases_eq, eq-eqb}
use Rattle.std.proofs.lemmas.List.{take-append-le, take_at, take-take, take-append-drop, take-map}
use Rattle.std.proofs.lemmas.List.Sums.{sum_by-append}
use Rattle.plan_model.specs.Rules.{Each}
use Rattle.plan_model.proofs.Lists.{at_contains}
use Rattle.plan_model.proofs.Greatest.{le-greatest_at}
use Rattle.resource_table.specs.declared.Placement.{Placement}
use Rattle.resource_table.specs.Jobs.{JobValue, cycles_of, Precedes, IsSoundJob}
use Rattle.resource_table.specs.Schedules.{TableValue, end_of, is_placed, drawn, power_at, power_of, Fits, IsEarliest, IsSoundTable}
use Rattle.resource_table.proofs.Placed.{each_front, each_last, each_take, not_placed}
use Rattle.schedule_search.specs.Orders.{IsReady, IsTopological, GoesFirst, IsLongest, IsFirstOrder}
use Rattle.schedule_search.specs.OrderCycles.{Takes, HasPlaced}
use Rattle.schedule_search.specs.Walks.{goes_before, stands_before, IsShut, IsOpen, walk_from}
use Rattle.schedule_search.specs.Late.{IsLateAt, AreInTime}
use Rattle.schedule_search.specs.Progress.{AtMostFirst, NoneBefore}
use Rattle.schedule_search.proofs.PlacedOrders.{placed_has, placed_not, first_topological}
use Rattle.schedule_search.proofs.LeastStarts.{some_earliest}
use Rattle.schedule_search.proofs.CycleCounts.{same_placed}
use Rattle.schedule_search.proofs.Following.{in_placed, in_to, in_front}
use Rattle.schedule_search.proofs.Comparing.{stays_from, AreInOrder, in_order_at, later_stays, after_prefix, differ_here}
use Rattle.schedule_search.proofs.Counting.{topological_long}
use Rattle.schedule_search.proofs.Walking.{extends_in}
use Rattle.common_lemmas.proofs.Options.{if_fewer}
use Rattle.common_lemmas.proofs.Lists.{in_take, contains_at, from_map, at_left}

-- ---- placed tests are ready ones

placed_to : (placed : List Placement) (test : ℕ) → is_placed placed test ≡ true → Contains (map (λ (p : Placement). p.test) placed) test
placed_to placed test is = in_to (map (λ (p : Placement). p.test) placed) test (in_placed placed test ∙ is)

pub placed_ready : (t : TableValue) (path : List ℕ) → IsSoundTable t → map (λ (p : Placement). p.test) t.placed ≡ path → Each (IsReady t.job) path
placed_ready t path sound in_order n test at =
    let f = from_map (λ (p : Placement). p.test) t.placed n test (ap (λ (l : List ℕ). slice_get l n) in_order ∙ at) in
    let may = sound.placed n f.0 f.1 in
    let front : map (λ (p : Placement). p.test) (take n t.placed) ≡ take n path = sym (take-map (λ (p : Placement). p.test) n t.placed) ∙ ap (take n) in_order in
    subst (IsReady t.job (take n path)) f.2 (record {
      in_job = may.in_job;
      new = λ has. true≢false (sym (placed_has (take n t.placed) (take n path) (f.0).test front has) ∙ may.new);
      after = λ earlier before. subst (λ (l : List ℕ). Contains l earlier) front (placed_to (take n t.placed) earlier (may.ready earlier before));
    })

-- and none that must follow an unplaced one is placed
pub followers_unplaced : (t : TableValue) (test : ℕ) → IsSoundTable t → is_placed t.placed test ≡ false → (later : ℕ) → Precedes t.job test later → is_placed t.placed later ≡ false
followers_unplaced t test sound free later before = elim (cases_Bool (is_placed t.placed later)) [
  | inr no' ↦ no'
  | inl yes' ↦
      let path : List ℕ = map (λ (p : Placement). p.test) t.placed in
      let k = contains_at path later (placed_to t.placed later yes') in
      let has = (placed_ready t path sound refl k.0 later k.1).after test before in
      let early = contains_at (take k.0 path) test has in
      absurd (true≢false (sym (placed_has t.placed path test refl (at_contains path early.0 test (in_front path k.0 early.0 test early.1))) ∙ free))
]

-- ---- below a prefix with a late test

-- what fits beside more tests fits beside fewer
fits_fewer : (job : JobValue) (placed more : List Placement) (test start : ℕ) → Fits job (placed ++ more) test start → Fits job placed test start
fits_fewer job placed more test start fits = record {
  apart = λ n p c at. fits.apart n p c (at_left placed more n p at);
  power = λ c active. if_fewer job.power (power_at job placed c + power_of job test (c - start)) (power_at job (placed ++ more) c + power_of job test (c - start)) (omega (arith, sum_by-append (drawn job c) placed more)) (fits.power c active);
  after = λ n p at. fits.after n p (at_left placed more n p at);
}

front_of : (xs : List Placement) (k m : ℕ) → k ≤ m → take m xs ≡ take k xs ++ drop k (take m xs)
front_of xs k m le = sym (take-append-drop k (take m xs)) ∙ ap (λ (l : List Placement). l ++ drop k (take m xs)) (take-take k m xs le)

-- an order that begins with the placed tests takes as many cycles as a test is late
pub late_below : (t : TableValue) (path : List ℕ) (end cycles : ℕ) → IsSoundJob t.job → HasPlaced t path end → IsLateAt t cycles → (rest : List ℕ) (c : ℕ) → IsTopological t.job (path ++ rest) → Takes t.job (path ++ rest) c → cycles ≤ c
late_below t path end cycles sound has late rest c topological takes =
    let test_of : Placement → ℕ = λ p. p.test in
    let k : ℕ = length path in
    let front_tests : map test_of (take k takes.placed) ≡ path = sym (take-map test_of k takes.placed) ∙ ap (take k) takes.in_order ∙ take_at path rest k refl in
    let same : t.placed ≡ take k takes.placed = same_placed t.job t.placed (take k takes.placed) (has.in_order ∙ sym front_tests) has.list (each_take (λ earlier p. IsEarliest t.job earlier p.test p.start) k takes.placed takes.list) in
    let at = contains_at (path ++ rest) late.test (topological.whole late.test late.in_job) in
    let f = from_map test_of takes.placed at.0 late.test (ap (λ (l : List ℕ). slice_get l at.0) takes.in_order ∙ at.1) in
    let p : Placement = f.0 in
    let behind : k ≤ at.0 = elim (cases_lt at.0 k) [
      | inr ge ↦ ge
      | inl less ↦ absurd (not_placed t.placed late.test at.0 p late.unplaced (subst (λ (l : List Placement). slice_get l at.0 ≡ Some p) (sym same) (in_take takes.placed k at.0 p less f.1)) f.2)
    ] in
    let now = some_earliest t.job t.placed late.test sound late.in_job in
    let there : IsEarliest t.job (take at.0 takes.placed) p.test p.start = takes.list at.0 p f.1 in
    let beside : take at.0 takes.placed ≡ t.placed ++ drop k (take at.0 takes.placed) = front_of takes.placed k at.0 behind ∙ ap (λ (l : List Placement). l ++ drop k (take at.0 takes.placed)) (sym same) in
    let fits : Fits t.job t.placed late.test p.start = fits_fewer t.job t.placed (drop k (take at.0 takes.placed)) late.test p.start
    (subst (λ (l : List Placement). Fits t.job l late.test p.start) beside (subst (λ (n : ℕ). Fits t.job (take at.0 takes.placed) n p.start) f.2 there.fits)) in
    let least : now.0 ≤ p.start = now.1.least p.start fits in
    let most : cycles ≤ now.0 + cycles_of t.job late.test = late.late now.0 now.1 in
    let last = le-greatest_at (end_of t.job) takes.placed at.0 p f.1 in
    let own : cycles_of t.job p.test ≡ cycles_of t.job late.test = ap (cycles_of t.job) f.2 in
    let ends = takes.ends in
    omega (arith, least, most, last, own, ends)

-- ---- open prefixes

-- a prefix isn't shut where each test outside is in time
pub not_shut : (t : TableValue) (path : List ℕ) (end cycles : ℕ) → HasPlaced t path end → AreInTime t cycles → AtMostFirst t.job cycles → IsShut t.job path → ⊥
not_shut t path end cycles has in_time most shut =
    let same : t.placed ≡ shut.placed = same_placed t.job t.placed shut.placed (has.in_order ∙ sym shut.in_order) has.list shut.list in
    let early = in_time shut.test shut.in_job (placed_not t.placed path shut.test has.in_order shut.outside) in
    let first = most shut.first shut.cycles shut.is_first shut.takes in
    let late = shut.late in
    let early' = subst (λ (l : List Placement). Rattle.resource_table.specs.Schedules.ready_at t.job l shut.test + cycles_of t.job shut.test < cycles) same early in
    omega (arith, early', first, late)

pub open_more : (job : JobValue) (prefix : List ℕ) (test : ℕ) → IsOpen job prefix → (IsShut job prefix → ⊥) → IsOpen job (prefix ++ test ∷ [])
open_more job prefix test before here n less shut = elim (cases_lt n (length prefix)) [
  | inl within ↦ before n within (subst (IsShut job) (take-append-le n prefix (test ∷ []) (omega (arith, within))) shut)
  | inr ge ↦
      let n_is : n ≡ length prefix = omega (arith, less, ge, length-append prefix (test ∷ [])) in
      here (subst (IsShut job) (ap (λ k. take k (prefix ++ test ∷ [])) n_is ∙ take_at prefix (test ∷ []) (length prefix) refl) shut)
]

-- ---- orders that stand before others

here_longest : (job : JobValue) (prefix : List ℕ) (test : ℕ) (rest : List ℕ) → Each (IsLongest job) (prefix ++ test ∷ rest) → IsLongest job prefix test
here_longest job prefix test rest longest = each_last (IsLongest job) prefix test (each_front (IsLongest job) (prefix ++ test ∷ []) rest (subst (Each (IsLongest job)) (sym (append_assoc prefix (test ∷ []) rest)) longest))

here_ready : (job : JobValue) (prefix : List ℕ) (test : ℕ) (rest : List ℕ) → Each (IsReady job) (prefix ++ test ∷ rest) → IsReady job prefix test
here_ready job prefix test rest ready = each_last (IsReady job) prefix test (each_front (IsReady job) (prefix ++ test ∷ []) rest (subst (Each (IsReady job)) (sym (append_assoc prefix (test ∷ []) rest)) ready))

first_is_first : (job : JobValue) (prefix a b : List ℕ) → Each (IsReady job) (prefix ++ a) → Each (IsLongest job) (prefix ++ b) → stands_before job a b ≡ false
first_is_first job prefix [] b ready longest = refl
first_is_first job prefix (x ∷ a) [] ready longest = refl
first_is_first job prefix (x ∷ a) (y ∷ b) ready longest = elim (cases_eq x y) [
  | inl same ↦
      let longest' : Each (IsLongest job) (prefix ++ x ∷ b) = subst (λ (n : ℕ). Each (IsLongest job) (prefix ++ n ∷ b)) (sym same) longest in
      rw (eq-eqb x y same) (first_is_first job (prefix ++ x ∷ []) a b (subst (Each (IsReady job)) (sym (append_assoc prefix (x ∷ []) a)) ready) (subst (Each (IsLongest job)) (sym (append_assoc prefix (x ∷ []) b)) longest'))
  | inr apart ↦ differ_here job x y a b apart ∙ stays_from job x y (goes ((here_longest job prefix y b longest).first x (here_ready job prefix x a ready)))
]
  where
    goes : GoesFirst job y x → (cycles_of job x < cycles_of job y) ⊎ ((cycles_of job x ≡ cycles_of job y) × (y ≤ x))
    goes (inl more) = inl more
    goes (inr tie) = inr (sym tie.0, tie.1)

pub none_before_first : (job : JobValue) (first : List ℕ) → IsFirstOrder job first → NoneBefore job [] first
none_before_first job first is rest topological = first_is_first job [] rest first topological.ready is.longest

-- orders with a test that is tried later, where the best has an earlier one at its place
pub none_before_later : (job : JobValue) (more : ℕ) (path best tests : List ℕ) (i j : ℕ) → AreInOrder job tests → i < j → j < length tests → Contains (walk_from job more (path ++ get_or tests i 0 ∷ [])) best → NoneBefore job (path ++ get_or tests j 0 ∷ []) best
none_before_later job more path best tests i j order less within there rest topological =
    let s : ℕ = get_or tests i 0 in
    let u : ℕ = get_or tests j 0 in
    let e = extends_in job more (path ++ s ∷ []) best there in
    ap (stands_before job ((path ++ u ∷ []) ++ rest)) (e.1 ∙ append_assoc path (s ∷ []) e.0) ∙ ap (λ (l : List ℕ). stands_before job l (path ++ s ∷ e.0)) (append_assoc path (u ∷ []) rest)
    ∙ after_prefix job path (u ∷ rest) (s ∷ e.0) ∙ differ_here job u s rest e.0 (λ same. true≢false (sym (in_order_at job tests i j 0 order less within) ∙ ap (λ (n : ℕ). goes_before job s n) same ∙ ap (λ (n : ℕ). goes_before job n s) (sym same) ∙ later_stays job tests i j 0 order less within))
    ∙ later_stays job tests i j 0 order less within

pub none_before_more : (job : JobValue) (path best : List ℕ) (test : ℕ) → NoneBefore job path best → NoneBefore job (path ++ test ∷ []) best
none_before_more job path best test before rest topological =
    ap (λ (l : List ℕ). stands_before job l best) (append_assoc path (test ∷ []) rest) ∙ before (test ∷ rest) (subst (IsTopological job) (append_assoc path (test ∷ []) rest) topological)

-- ---- the first order is the only one

same_test : (job : JobValue) (x y : ℕ) → GoesFirst job x y → GoesFirst job y x → x ≡ y
same_test job x y (inl less) (inl less') = absurd (omega (arith, less, less'))
same_test job x y (inl less) (inr tie') = absurd (omega (arith, less, tie'.0))
same_test job x y (inr tie) (inl less') = absurd (omega (arith, tie.0, less'))
same_test job x y (inr tie) (inr tie') = omega (arith, tie.1, tie'.1)

same_longest : (job : JobValue) (prefix a b : List ℕ) → Each (IsLongest job) (prefix ++ a) → Each (IsLongest job) (prefix ++ b) → length a ≡ length b → a ≡ b
same_longest job prefix [] [] one other long = refl
same_longest job prefix [] (y ∷ b) one other long = absurd (omega (arith, long))
same_longest job prefix (x ∷ a) [] one other long = absurd (omega (arith, long))
same_longest job prefix (x ∷ a) (y ∷ b) one other long =
    let first = here_longest job prefix x a one in
    let first' = here_longest job prefix y b other in
    let same : x ≡ y = same_test job x y (first.first y first'.ready) (first'.first x first.ready) in
    let other' : Each (IsLongest job) (prefix ++ x ∷ b) = subst (λ (n : ℕ). Each (IsLongest job) (prefix ++ n ∷ b)) (sym same) other in
    let rest : a ≡ b = same_longest job (prefix ++ x ∷ []) a b (subst (Each (IsLongest job)) (sym (append_assoc prefix (x ∷ []) a)) one) (subst (Each (IsLongest job)) (sym (append_assoc prefix (x ∷ []) b)) other') (omega (arith, long)) in
    ap (λ (l : List ℕ). x ∷ l) rest ∙ ap (λ (n : ℕ). n ∷ b) same

pub one_first : (job : JobValue) (a b : List ℕ) → IsFirstOrder job a → IsFirstOrder job b → a ≡ b
one_first job a b one other = same_longest job [] a b one.longest other.longest (topological_long job a (first_topological job a one) ∙ sym (topological_long job b (first_topological job b other)))
