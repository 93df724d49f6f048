-- On a sound job an order takes exactly one number of cycles.
use Rattle.std.proofs.Common.{◌≡◌, ℕ, zero, suc, ◌+◌, ◌<◌, ◌≤◌, Some, List, [], ◌∷◌, ◌++◌, length, get_or, take, map, refl, sym, ◌∙◌, ap, subst, arith, slice_get, sum_by}
use Rattle.std.proofs.lemmas.List.{take_all, take_more, take-map, length-map, map-append}
use Rattle.std.proofs.lemmas.Option.{slice_get-get_or, slice_get-map}
use Rattle.plan_model.specs.Rules.{Each}
use Rattle.plan_model.proofs.Lists.{at_contains}
use Rattle.plan_model.proofs.Greatest.{le-greatest_at, greatest-least}
use Rattle.resource_table.specs.declared.Placement.{Placement}
use Rattle.resource_table.specs.Jobs.{TestValue, JobValue, IsSoundJob}
use Rattle.resource_table.specs.Schedules.{TableValue, at_start, end_of, last_end, IsEarliest, IsListSchedule}
use Rattle.resource_table.proofs.Placed.{AreTests, each_take}
use Rattle.resource_table.proofs.Schedules.{next_list, short_list}
use Rattle.schedule_search.specs.Orders.{IsReady}
use Rattle.schedule_search.specs.OrderCycles.{Takes, HasPlaced}
use Rattle.schedule_search.proofs.LeastStarts.{some_earliest}
use Rattle.common_lemmas.proofs.Lists.{in_take}

no_placement : Placement
no_placement = record { test = 0; start = 0 }

one_more : {X : Type 0} (xs : List X) (n : ℕ) (d : X) → n < length xs → take (suc n) xs ≡ take n xs ++ get_or xs n d ∷ []
one_more xs n d lt = ap (λ (k : ℕ). take k xs) (let e : suc n ≡ n + 1 = omega arith in e) ∙ take_more xs n d lt

-- ---- at most one

earliest_once : (job : JobValue) (placed : List Placement) (test a b : ℕ) → IsEarliest job placed test a → IsEarliest job placed test b → a ≡ b
earliest_once job placed test a b one other =
    let le : a ≤ b = one.least b other.fits in
    let ge : b ≤ a = other.least a one.fits in
    omega arith

same_test : (xs ys : List Placement) (n : ℕ) (p q : Placement) → map (λ (p : Placement). p.test) xs ≡ map (λ (p : Placement). p.test) ys → slice_get xs n ≡ Some p → slice_get ys n ≡ Some q → p.test ≡ q.test
same_test xs ys n p q same at at' =
    let a : slice_get (map (λ (p : Placement). p.test) xs) n ≡ Some p.test = slice_get-map (λ (p : Placement). p.test) xs n ∙ rw at refl in
    let b : slice_get (map (λ (p : Placement). p.test) ys) n ≡ Some q.test = slice_get-map (λ (p : Placement). p.test) ys n ∙ rw at' refl in
    let c : slice_get (map (λ (p : Placement). p.test) xs) n ≡ slice_get (map (λ (p : Placement). p.test) ys) n = ap (λ (l : List ℕ). slice_get l n) same in
    cc

same_placement : (p q : Placement) → p.test ≡ q.test → p.start ≡ q.start → p ≡ q
same_placement p q test start = ap (λ (t : ℕ). at_start t p.start) test ∙ ap (at_start q.test) start

same_front : (job : JobValue) (xs ys : List Placement) → map (λ (p : Placement). p.test) xs ≡ map (λ (p : Placement). p.test) ys → length xs ≡ length ys → IsListSchedule job xs → IsListSchedule job ys → (n : ℕ) → n ≤ length xs → take n xs ≡ take n ys
same_front job xs ys same long list list' zero le = refl
same_front job xs ys same long list list' (suc n) le =
    let ih : take n xs ≡ take n ys = same_front job xs ys same long list list' n (omega arith) in
    let p : Placement = get_or xs n no_placement in
    let q : Placement = get_or ys n no_placement in
    let at : slice_get xs n ≡ Some p = slice_get-get_or xs n no_placement (omega arith) in
    let at' : slice_get ys n ≡ Some q = slice_get-get_or ys n no_placement (omega arith) in
    let test : p.test ≡ q.test = same_test xs ys n p q same at at' in
    let here : IsEarliest job (take n ys) q.test p.start = subst (λ (v : List Placement). IsEarliest job v q.test p.start) ih (subst (λ (t : ℕ). IsEarliest job (take n xs) t p.start) test (list n p at)) in
    let start : p.start ≡ q.start = earliest_once job (take n ys) q.test p.start q.start here (list' n q at') in
    let one : p ≡ q = same_placement p q test start in
    one_more xs n no_placement (omega arith) ∙ ap (λ (l : List Placement). l ++ p ∷ []) ih ∙ ap (λ (v : Placement). take n ys ++ v ∷ []) one ∙ sym (one_more ys n no_placement (omega arith))

pub same_placed : (job : JobValue) (xs ys : List Placement) → map (λ (p : Placement). p.test) xs ≡ map (λ (p : Placement). p.test) ys → IsListSchedule job xs → IsListSchedule job ys → xs ≡ ys
same_placed job xs ys same list list' =
    let long : length xs ≡ length ys = sym (length-map xs (λ (p : Placement). p.test)) ∙ ap length same ∙ length-map ys (λ (p : Placement). p.test) in
    sym (take_all (length xs) xs (omega arith)) ∙ same_front job xs ys same long list list' (length xs) (omega arith) ∙ take_all (length xs) ys (omega arith)

pub takes_once : (job : JobValue) (order : List ℕ) (a b : ℕ) → Takes job order a → Takes job order b → a ≡ b
takes_once job order a b one other =
    let same = same_placed job one.placed other.placed (one.in_order ∙ sym other.in_order) one.list other.list in
    one.ends ∙ ap (last_end job) same ∙ sym other.ends

-- the first tests of an order end no later than all
pub front_least : (t : TableValue) (job : JobValue) (order : List ℕ) (k end cycles : ℕ) → t.job ≡ job → HasPlaced t (take k order) end → Takes job order cycles → end ≤ cycles
front_least t job order k end cycles same has takes =
    let test_of : Placement → ℕ = λ p. p.test in
    let list : IsListSchedule job t.placed = subst (λ (j : JobValue). IsListSchedule j t.placed) same has.list in
    let front : t.placed ≡ take k takes.placed = same_placed job t.placed (take k takes.placed) (has.in_order ∙ ap (take k) (sym takes.in_order) ∙ take-map test_of k takes.placed) list (each_take (λ earlier p. IsEarliest job earlier p.test p.start) k takes.placed takes.list) in
    let last = greatest-least (end_of job) cycles (take k takes.placed) (λ i p at. (let most = le-greatest_at (end_of job) takes.placed i p (from_take takes.placed k i p at) in let ends = takes.ends in omega (arith, most, ends))) in
    let is : end ≡ last_end job (take k takes.placed) = has.ends ∙ ap (λ (j : JobValue). last_end j t.placed) same ∙ ap (last_end job) front in
    omega (arith, is, last)
  where
    from_take : (xs : List Placement) (n i : ℕ) (x : Placement) → slice_get (take n xs) i ≡ Some x → slice_get xs i ≡ Some x
    from_take [] zero i x at = at
    from_take [] (suc n) i x at = at
    from_take (y ∷ xs) zero i x at = absurd cc
    from_take (y ∷ xs) (suc n) zero x at = at
    from_take (y ∷ xs) (suc n) (suc i) x at = from_take xs n i x at

-- ---- at least one

front_placed : (job : JobValue) (order : List ℕ) → IsSoundJob job → ((n : ℕ) (test : ℕ) → slice_get order n ≡ Some test → test < length job.tests) → (n : ℕ) → n ≤ length order →
    (placed : List Placement) × (map (λ (p : Placement). p.test) placed ≡ take n order) × IsListSchedule job placed
front_placed job order sound inside zero le = ([], refl, λ n p at. absurd cc)
front_placed job order sound inside (suc n) le =
    let front = front_placed job order sound inside n (omega arith) in
    let test : ℕ = get_or order n 0 in
    let here = some_earliest job front.0 test sound (inside n test (slice_get-get_or order n 0 (omega arith))) in
    (front.0 ++ at_start test here.0 ∷ [], map-append (λ (p : Placement). p.test) front.0 (at_start test here.0 ∷ []) ∙ ap (λ (l : List ℕ). l ++ test ∷ []) front.1 ∙ sym (one_more order n 0 (omega arith)), next_list job front.0 test here.0 front.2 here.1)

pub some_takes : (job : JobValue) (order : List ℕ) → IsSoundJob job → Each (IsReady job) order → (cycles : ℕ) × Takes job order cycles
some_takes job order sound ready =
    let all = front_placed job order sound (λ n test at. (ready n test at).in_job) (length order) (omega arith) in
    (last_end job all.0, record { placed = all.0; in_order = all.1 ∙ take_all (length order) order (omega arith); list = all.2; ends = refl })

-- ---- no more than the tests last together

are_tests : (job : JobValue) (order : List ℕ) (placed : List Placement) → Each (IsReady job) order → map (λ (p : Placement). p.test) placed ≡ order → AreTests job.tests placed
are_tests job order placed ready is = record {
  inside = (λ i p at. (ready i p.test (there i p at)).in_job);
  differ = (λ i j p q less at at' same. (ready j q.test (there j q at')).new (at_contains (take j order) i q.test (in_take order j i q.test less (subst (λ (t : ℕ). slice_get order i ≡ Some t) same (there i p at)))));
}
  where
    there : (i : ℕ) (p : Placement) → slice_get placed i ≡ Some p → slice_get order i ≡ Some p.test
    there i p at = ap (λ (l : List ℕ). slice_get l i) (sym is) ∙ slice_get-map (λ (p : Placement). p.test) placed i ∙ rw at refl

pub takes_short : (job : JobValue) (order : List ℕ) (cycles : ℕ) → IsSoundJob job → Each (IsReady job) order → Takes job order cycles → cycles ≤ sum_by (λ (t : TestValue). t.cycles) job.tests
takes_short job order cycles sound ready takes =
    let short = short_list job takes.placed sound (are_tests job order takes.placed ready takes.in_order) takes.list in
    let ends = takes.ends in
    omega arith
