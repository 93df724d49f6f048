-- Every good plan runs right, for every content.
use Rattle.std.proofs.Common.{◌≡◌, ℕ, zero, suc, ◌+◌, ◌-◌, ◌*◌, ◌≤◌, ◌<◌, max, min, true, false, Some, List, [], ◌∷◌, length, get_or, map, replicate, reverse, refl, ap, ◌∙◌, sym, subst, arith, inl, inr, ◌⊎◌}
use Rattle.std.specs.Prelude.{slice_get}
use Rattle.std.specs.List.{flat_map, Contains}
use Rattle.std.proofs.lemmas.Bool.{cases_Bool, leb-true, cases_order}
use Rattle.std.proofs.lemmas.List.{length-replicate, length-reverse, get_or-reverse}
use Rattle.std.proofs.lemmas.List.Sums.{length-filter}
use Rattle.std.proofs.lemmas.Option.{slice_get_within, slice_get-get_or, get_or_from_slice_get}
use Rattle.std.proofs.lemmas.List.Sorted.{Contains-permutation}
use Rattle.soc_model.specs.declared.Test.{Test}
use Rattle.soc_model.specs.Chips.{ModuleValue, SocValue, LiveTest, is_live, live_of, live_from}
use Rattle.plan_model.specs.Cells.{Cell, In, is_read, in_length, out_length, cells_of}
use Rattle.plan_model.specs.Operations.{Shift, Capture, SelfTest, ops_of}
use Rattle.plan_model.specs.Plans.{PlanValue, LimitsValue, PlannedTest, planned, planned_test, chains_of, operations_of, greatest, uses, users, end_of}
use Rattle.plan_model.specs.Runs.{Content, chain_at, operation_at}
use Rattle.plan_model.specs.OneTest.{from_end}
use Rattle.plan_model.specs.Right.{IsAt, AllStand, Loads, IsReadAt, IsRight, TestsItself, EndsAt, Meet, AreKin, KeepsLimits}
use Rattle.plan_model.specs.Rules.{IsGood, Busy, Parents, Precedences, Power, Cycles}
use Rattle.plan_model.proofs.OperationCounts.{ops_length}
use Rattle.plan_model.proofs.LoadsAndReads.{IsTamTest, IsShownAt, loads_all, shows_all, shifts_all, shown_at, shown_of, cell_of, chain_is, begun_at, one_cycle}
use Rattle.plan_model.proofs.ChainsInTheRun.{AreApart, uses_wire, at_operation}
use Rattle.plan_model.proofs.Sums.{at_most_one}
use Rattle.plan_model.proofs.Lists.{from_flat_map, from_filter, from_append, slice_get-replicate}
use Rattle.plan_model.proofs.PlannedTests.{Origin, origin, IsLive, live_at, live_here}
use Rattle.plan_model.proofs.TestsInGoodPlans.{is_tam_test, apart, all_stand}
use Rattle.plan_model.proofs.CellsOnce.{place_once}
use Rattle.plan_model.proofs.Greatest.{le-greatest_at, greatest-least}
use Rattle.common_lemmas.proofs.Lists.{contains_at}

-- ---- no two response bits at one place

-- the wire is used by the test that is read on it
read_uses : (content : Content) (tests : List PlannedTest) (apart : AreApart tests) (i : ℕ) (t : PlannedTest) → IsAt tests i t → (is : IsTamTest t) → (k j r c x : ℕ) → IsShownAt t k j r c x → uses c x t ≡ true
read_uses content tests apart i t at is k j r c x read =
    let s = shown_at content t is k j r c x read in
    let begun : t.start ≤ read.capture = s.0 in
    let cycle : c ≡ read.capture + 1 + r = read.cycle in
    let fit : length t.chains ≤ t.width = apart.fit i t at in
    let chain : j < length t.chains = read.chain in
    rw read.wire (uses_wire t c j (apart.tam i j t at chain) (omega arith) (slice_get_within t.operations (c - t.start) Shift s.1) (omega arith))

-- no Capture stands among the Shifts at which a response is read
not_before : (content : Content) (t : PlannedTest) (is : IsTamTest t) (k k' j j' r r' c x : ℕ) (a : IsShownAt t k j r c x) (b : IsShownAt t k' j' r' c x) → a.capture < b.capture → ⊥
not_before content t is k k' j j' r r' c x a b less =
    let cycle : c ≡ a.capture + 1 + r = a.cycle in
    let cycle' : c ≡ b.capture + 1 + r' = b.cycle in
    let back : c - (r' + 1) ≡ b.capture = omega arith in
    let shift : operation_at t b.capture ≡ Some Shift = rw back at (shifts_all content t is k j r c x a (r' + 1) (omega arith)) in
    let capture : operation_at t b.capture ≡ Some (Capture k') = b.captures in
    cc

one_capture : (content : Content) (t : PlannedTest) (is : IsTamTest t) (k k' j j' r r' c x : ℕ) (a : IsShownAt t k j r c x) (b : IsShownAt t k' j' r' c x) → (k ≡ k') × (j ≡ j') × (r ≡ r')
one_capture content t is k k' j j' r r' c x a b = elim (cases_order a.capture b.capture) [
  | inl same ↦
      let cycle : c ≡ a.capture + 1 + r = a.cycle in
      let cycle' : c ≡ b.capture + 1 + r' = b.cycle in
      let wire : x ≡ t.first_wire + j = a.wire in
      let wire' : x ≡ t.first_wire + j' = b.wire in
      let one : operation_at t b.capture ≡ Some (Capture k) = rw same at a.captures in
      let other : operation_at t b.capture ≡ Some (Capture k') = b.captures in
      (cc, omega arith, omega arith)
  | inr apart ↦ elim apart [
    | inl less ↦ absurd (not_before content t is k k' j j' r r' c x a b less)
    | inr more ↦ absurd (not_before content t is k' k j' j r' r c x b a more)
  ]
]

reads_apart : (content : Content) (tests : List PlannedTest) (apart : AreApart tests) (all : (i : ℕ) (t : PlannedTest) → IsAt tests i t → t.tam ≡ true → IsTamTest t) →
    (i i' : ℕ) (t t' : PlannedTest) (k k' j j' r r' c x : ℕ) → IsAt tests i t → IsAt tests i' t' → IsShownAt t k j r c x → IsShownAt t' k' j' r' c x → (i ≡ i') × (k ≡ k') × (j ≡ j') × (r ≡ r')
reads_apart content tests apart all i i' t t' k k' j j' r r' c x at at' a b =
    let is : IsTamTest t = all i t at (apart.tam i j t at a.chain) in
    let is' : IsTamTest t' = all i' t' at' (apart.tam i' j' t' at' b.chain) in
    let same : i' ≡ i = apart.alone c x i i' t t' at at' (read_uses content tests apart i t at is k j r c x a) (read_uses content tests apart i' t' at' is' k' j' r' c x b) in
    let at2 : slice_get tests i ≡ Some t' = rw same at at' in
    let one : t' ≡ t = cc in
    let rest = one_capture content t is k k' j j' r r' c x a (subst (λ v. IsShownAt v k' j' r' c x) one b) in
    (sym same, rest.0, rest.1, rest.2)

-- ---- the other parts

-- every live test is active at some cycle
ops_some : (setup si so p : ℕ) → 1 ≤ p → 1 ≤ length (ops_of setup si so p)
ops_some setup si so zero h = absurd (omega arith)
ops_some setup si so (suc m) h =
    let long : length (ops_of setup si so (suc m)) ≡ setup + (1 + max si so) * suc m + min si so = ops_length setup si so (suc m) h in
    let product : (1 + max si so) * suc m ≡ suc m + m * max si so + max si so = omega arith in
    omega arith

operations_some : (m : ModuleValue) (test : Test) (chains : List (List Cell)) → 1 ≤ test.patterns → 1 ≤ length (operations_of m test chains)
operations_some m test chains live = go (cases_Bool test.tam) where
  go : (test.tam ≡ true) ⊎ (test.tam ≡ false) → 1 ≤ length (operations_of m test chains)
  go (inl yes') = rw yes' (ops_some m.setup (greatest (map in_length chains)) (greatest (map out_length chains)) test.patterns live)
  go (inr no') = rw (no', length-replicate test.patterns SelfTest) live

pub planned_some : (plan : PlanValue) (place : ℕ) (m : ModuleValue) (test : Test) → 1 ≤ test.patterns → 1 ≤ length (planned_test plan place m test).operations
unfolding planned_test
planned_some plan place m test live = operations_some m test (chains_of plan m test) live

planned_self : (plan : PlanValue) (place : ℕ) (m : ModuleValue) (test : Test) → (planned_test plan place m test).tam ≡ false → (planned_test plan place m test).operations ≡ replicate (planned_test plan place m test).patterns SelfTest
unfolding planned_test
planned_self plan place m test no' = rw no' refl

live_some : (soc : SocValue) (plan : PlanValue) (i : ℕ) (t : PlannedTest) → IsAt (planned soc plan) i t → 1 ≤ length t.operations
live_some soc plan i t at =
    let o : Origin soc plan i t = origin soc plan i t at in
    let live : 0 < o.l.test.patterns = leb-true 1 o.l.test.patterns ((from_filter is_live o.l.core.tests o.n o.l.test o.test_at).2) in
    subst (λ (t : PlannedTest). 1 ≤ length t.operations) o.is (planned_some plan o.l.place o.l.core o.l.test live)

self_only : (soc : SocValue) (plan : PlanValue) (i : ℕ) (t : PlannedTest) → IsAt (planned soc plan) i t → t.tam ≡ false → t.operations ≡ replicate t.patterns SelfTest
self_only soc plan i t at no' =
    let o : Origin soc plan i t = origin soc plan i t at in
    subst (λ (t : PlannedTest). t.tam ≡ false → t.operations ≡ replicate t.patterns SelfTest) o.is (planned_self plan o.l.place o.l.core o.l.test) no'

tests_itself : (t : PlannedTest) → t.operations ≡ replicate t.patterns SelfTest → TestsItself t
tests_itself t is = record {
  does = λ c low high. at_operation t c low ∙ rw is (slice_get-replicate t.patterns (c - t.start) SelfTest (omega arith));
  only = λ c e.
      let b = begun_at t c SelfTest e in
      let within : c - t.start < length t.operations = slice_get_within t.operations (c - t.start) SelfTest b.1 in
      let long : length t.operations ≡ t.patterns = ap length is ∙ length-replicate t.patterns SelfTest in
      let begun : t.start ≤ c = b.0 in
      (begun, omega arith);
}

ends_at : (soc : SocValue) (plan : PlanValue) → plan.cycles ≡ greatest (map end_of (planned soc plan)) → EndsAt (planned soc plan) plan.cycles
ends_at soc plan is = record {
  over = λ i t c at active.
      let within : end_of t ≤ greatest (map end_of (planned soc plan)) = le-greatest_at end_of (planned soc plan) i t at in
      let before : c < end_of t = active.1 in
      omega arith;
  least = λ n h. rw is (greatest-least end_of n (planned soc plan) (λ i t at.
      let some : 1 ≤ length t.operations = live_some soc plan i t at in
      let last : t.start + length t.operations - 1 < n = h i t (t.start + length t.operations - 1) at (omega arith, omega arith) in
      omega arith));
}

-- ---- limits

pub planned_place : (plan : PlanValue) (place : ℕ) (m : ModuleValue) (test : Test) → (planned_test plan place m test).place ≡ place
unfolding planned_test
planned_place plan place m test = refl

-- live tests stand in the order of their modules
here_place : (base : ℕ) (m : ModuleValue) (i : ℕ) (l : LiveTest) → slice_get (live_of base m) i ≡ Some l → l.place ≡ base
here_place base m i l e =
    let o : IsLive (m ∷ []) base l = live_here base m [] i l e in
    let few : o.up < 1 = slice_get_within (m ∷ []) o.up l.core o.module_at in
    omega (arith, o.place_is)

in_place_order : (ms : List ModuleValue) (base i j : ℕ) (t u : LiveTest) → slice_get (live_from base ms) i ≡ Some t → slice_get (live_from base ms) j ≡ Some u → t.place < u.place → i < j
unfolding live_from
in_place_order [] base i j t u e f less = absurd cc
in_place_order (m ∷ ms) base i j t u e f less =
    go (from_append (live_of base m) (live_from (base + 1) ms) i t e) (from_append (live_of base m) (live_from (base + 1) ms) j u f) (λ i' j' e' f'. in_place_order ms (base + 1) i' j' t u e' f' less)
  where
    go : (slice_get (live_of base m) i ≡ Some t) ⊎ ((i' : ℕ) × (i ≡ length (live_of base m) + i') × (slice_get (live_from (base + 1) ms) i' ≡ Some t)) →
        (slice_get (live_of base m) j ≡ Some u) ⊎ ((j' : ℕ) × (j ≡ length (live_of base m) + j') × (slice_get (live_from (base + 1) ms) j' ≡ Some u)) →
        ((i' j' : ℕ) → slice_get (live_from (base + 1) ms) i' ≡ Some t → slice_get (live_from (base + 1) ms) j' ≡ Some u → i' < j') → i < j
    go (inl a) (inl b) ih = absurd (omega (arith, here_place base m i t a, here_place base m j u b))
    go (inl a) (inr b) ih = omega (arith, slice_get_within (live_of base m) i t a, b.1)
    go (inr a) (inl b) ih =
        let o : IsLive ms (base + 1) t = live_at ms (base + 1) a.0 t a.2 in
        absurd (omega (arith, o.place_is, here_place base m j u b))
    go (inr a) (inr b) ih =
        let next : a.0 < b.0 = ih a.0 b.0 a.2 b.2 in
        omega (arith, a.1, b.1)

pub planned_in_order : (soc : SocValue) (plan : PlanValue) (i j : ℕ) (t u : PlannedTest) → IsAt (planned soc plan) i t → IsAt (planned soc plan) j u → t.place < u.place → i < j
planned_in_order soc plan i j t u at at' less =
    let o : Origin soc plan i t = origin soc plan i t at in
    let o' : Origin soc plan j u = origin soc plan j u at' in
    let a : o.l.place ≡ t.place = sym (planned_place plan o.l.place o.l.core o.l.test) ∙ ap (λ (t : PlannedTest). t.place) o.is in
    let b : o'.l.place ≡ u.place = sym (planned_place plan o'.l.place o'.l.core o'.l.test) ∙ ap (λ (t : PlannedTest). t.place) o'.is in
    in_place_order soc.modules 0 i j o.l o'.l o.at o'.at (omega arith)

one_user_only : (tests : List PlannedTest) → AreApart tests → (c x : ℕ) → length (users tests c x) ≤ 1
one_user_only tests apart c x =
    rw (length-filter (uses c x) tests) (at_most_one (uses c x) tests (λ i j t u order at at' p q. let same : j ≡ i = apart.alone c x i j t u at at' p q in omega arith))

kin : (soc : SocValue) (limits : LimitsValue) (plan : PlanValue) → IsGood soc limits plan → (i j c : ℕ) (t u : PlannedTest) → IsAt (planned soc plan) i t → IsAt (planned soc plan) j u → (i ≡ j → ⊥) → Meet t u c → AreKin soc t u → ⊥
kin soc limits plan good i j c t u at at' differ meet (inl same) = elim (cases_order i j) [
  | inl here ↦ differ here
  | inr other ↦ elim other [
    | inl less ↦ good Busy i j c t u (record { first = at; second = at'; order = less; related = same; meet = meet })
    | inr more ↦ good Busy j i c u t (record { first = at'; second = at; order = more; related = sym same; meet = (meet.1, meet.0) })
  ]
]
kin soc limits plan good i j c t u at at' differ meet (inr is) =
    good Parents i j c t u (record { first = at; second = at'; order = planned_in_order soc plan i j t u at at' is.earlier; related = is; meet = meet })

limits_kept : (soc : SocValue) (limits : LimitsValue) (plan : PlanValue) → IsGood soc limits plan → KeepsLimits soc limits (planned soc plan)
limits_kept soc limits plan good = record {
  power = λ c. good Power c;
  none_beside = λ i j c two. kin soc limits plan good i j c two.first two.second two.first_at two.second_at two.differ two.meet two.kin;
  before = λ i j n t u c d at at' p active active'.
      let order : end_of t ≤ u.start = good Precedences n (t.id, u.id) p i j t u at at' refl in
      let first : c < end_of t = active.1 in
      let second : u.start ≤ d = active'.0 in
      omega arith;
}

-- a read is one of a test over the wires, and of a cell that has a response bit
tam_read : (tests : List PlannedTest) → AreApart tests → (i : ℕ) (t : PlannedTest) → IsAt tests i t → (k : ℕ) (x : Cell) (c w : ℕ) → IsReadAt t k x c w → t.tam ≡ true
tam_read tests a i t at k x c w read = a.tam i read.chain t at (slice_get_within t.chains read.chain read.cells read.there)

read_cell : (t : PlannedTest) (is : IsTamTest t) (k : ℕ) (x : Cell) (c w : ℕ) (read : IsReadAt t k x c w) → is_read x ≡ true
read_cell t is k x c w read = rw (← cell_of t k x c w read) (is.ends read.chain read.shifts (shown_of t k x c w read).within)

-- each response bit is read at the Shift that brings it to the end of its chain
read_somewhere : (content : Content) (tests : List PlannedTest) (apart : AreApart tests) (i : ℕ) (t : PlannedTest) (at : IsAt tests i t) (is : IsTamTest t) → AllStand t → (k : ℕ) (x : Cell) → 1 ≤ k → k ≤ t.patterns → Contains t.cells x → is_read x ≡ true → (c : ℕ) × (w : ℕ) × IsReadAt t k x c w
read_somewhere content tests apart i t at is stand k x first last there read =
    let loads : Loads content tests i t k = loads_all content tests apart i t at is k first last in
    let k' = contains_at (flat_map (λ cells. cells) t.chains) x (Contains-permutation t.cells (flat_map (λ cells. cells) t.chains) x stand there) in
    let place = from_flat_map (λ cells. cells) t.chains k'.0 x k'.1 in
    let q : ℕ = place.2 in
    let here : slice_get place.1 q ≡ Some x = place.4 in
    let same : chain_at t place.0 ≡ place.1 = chain_is t place.0 place.1 place.3 in
    let here' : slice_get (chain_at t place.0) q ≡ Some x = rw same here in
    let within : length (chain_at t place.0) - 1 - q < out_length (chain_at t place.0) = is.back place.0 q x here' read in (
      loads.cycle + 1 + (length place.1 - 1 - q),
      t.first_wire + place.0,
      record {
        chain = place.0;
        cells = place.1;
        there = place.3;
        shifts = length place.1 - 1 - q;
        within = rw same at within;
        cell = reversed place.1 q x here;
        capture = loads.cycle;
        captures = loads.captures;
        cycle = refl;
        wire = refl;
      },
    )
  where
    reversed : (cells : List Cell) (q : ℕ) (x : Cell) → slice_get cells q ≡ Some x → slice_get (reverse cells) (length cells - 1 - q) ≡ Some x
    reversed cells q x at =
        let within : q < length cells = slice_get_within cells q x at in
        let long : length (reverse cells) ≡ length cells = length-reverse cells in
        let back : length cells - 1 - (length cells - 1 - q) ≡ q = omega arith in
        slice_get-get_or (reverse cells) (length cells - 1 - q) (In 0) (omega arith)
        ∙ ap Some (get_or-reverse cells (length cells - 1 - q) (In 0) (omega arith) ∙ rw back (get_or_from_slice_get cells q x (In 0) at))

cells_apart : (content : Content) (tests : List PlannedTest) (apart : AreApart tests) (all : (i : ℕ) (t : PlannedTest) → IsAt tests i t → t.tam ≡ true → IsTamTest t) →
    (i i' : ℕ) (t t' : PlannedTest) (k k' : ℕ) (x x' : Cell) (c w : ℕ) → IsAt tests i t → IsAt tests i' t' → IsReadAt t k x c w → IsReadAt t' k' x' c w → (i ≡ i') × (k ≡ k') × (x ≡ x')
cells_apart content tests apart all i i' t t' k k' x x' c w at at' r r' =
    let p = reads_apart content tests apart all i i' t t' k k' r.chain r'.chain r.shifts r'.shifts c w at at' (shown_of t k x c w r) (shown_of t' k' x' c w r') in
    let at2 : slice_get tests i ≡ Some t' = rw p.0 at' in
    let one : t ≡ t' = cc in
    let cell : from_end (chain_at t r.chain) r.shifts ≡ x = cell_of t k x c w r in
    let cell' : from_end (chain_at t' r'.chain) r'.shifts ≡ x' = cell_of t' k' x' c w r' in
    (p.0, p.1, sym cell ∙ rw (one, p.2, p.3) cell')

-- each cell of the mode stands at one place of the chains of a test
planned_cells : (plan : PlanValue) (place : ℕ) (m : ModuleValue) (test : Test) → (planned_test plan place m test).cells ≡ cells_of m test.scan
unfolding planned_test
planned_cells plan place m test = refl

one_stand : (soc : SocValue) (plan : PlanValue) (i : ℕ) (t : PlannedTest) → IsAt (planned soc plan) i t → AllStand t →
    (j j' a b : ℕ) (cells cells' : List Cell) (x : Cell) → slice_get t.chains j ≡ Some cells → slice_get t.chains j' ≡ Some cells' → slice_get cells a ≡ Some x → slice_get cells' b ≡ Some x → (j ≡ j') × (a ≡ b)
one_stand soc plan i t at stand =
    let o : Origin soc plan i t = origin soc plan i t at in
    let cells : t.cells ≡ cells_of o.l.core o.l.test.scan = ap (λ (t : PlannedTest). t.cells) (sym o.is) ∙ planned_cells plan o.l.place o.l.core o.l.test in
    place_once o.l.core o.l.test.scan t.chains (rw cells at stand)

-- a cell at place `r` of the reversed list stands `r` places from the end
stands_at : (cells : List Cell) (r : ℕ) (x : Cell) → slice_get (reverse cells) r ≡ Some x → (r < length cells) × (slice_get cells (length cells - 1 - r) ≡ Some x)
stands_at cells r x at =
    let long : length (reverse cells) ≡ length cells = length-reverse cells in
    let before : r < length (reverse cells) = slice_get_within (reverse cells) r x at in
    let within : r < length cells = omega arith in
    let here : get_or cells (length cells - 1 - r) (In 0) ≡ x = sym (get_or-reverse cells r (In 0) within) ∙ get_or_from_slice_get (reverse cells) r x (In 0) at in
    (within, slice_get-get_or cells (length cells - 1 - r) (In 0) (omega arith) ∙ ap Some here)

-- a response bit is read at one cycle on one wire
read_once : (soc : SocValue) (plan : PlanValue) (content : Content) (i : ℕ) (t : PlannedTest) → IsAt (planned soc plan) i t → IsTamTest t → AllStand t → (k : ℕ) (x : Cell) (c c' w w' : ℕ) → (r : IsReadAt t k x c w) (r' : IsReadAt t k x c' w') → (c ≡ c') × (w ≡ w')
read_once soc plan content i t at is stand k x c c' w w' r r' =
    let a = stands_at r.cells r.shifts x r.cell in
    let b = stands_at r'.cells r'.shifts x r'.cell in
    let place = one_stand soc plan i t at stand r.chain r'.chain (length r.cells - 1 - r.shifts) (length r'.cells - 1 - r'.shifts) r.cells r'.cells x r.there r'.there a.1 b.1 in
    let there : slice_get t.chains r'.chain ≡ Some r.cells = rw place.0 at r.there in
    let there' : slice_get t.chains r'.chain ≡ Some r'.cells = r'.there in
    let same : r.cells ≡ r'.cells = cc in
    let long : length r.cells ≡ length r'.cells = ap length same in
    let capture : r.capture ≡ r'.capture = one_cycle t is k r.capture r'.capture r.captures r'.captures in
    (omega (arith, r.cycle, r'.cycle, a.0, b.0, place.1), omega (arith, r.wire, r'.wire, place.0))

-- the theorem
pub every_good_plan_is_right : (soc : SocValue) (limits : LimitsValue) (plan : PlanValue) (content : Content) → IsGood soc limits plan → IsRight soc limits plan content
every_good_plan_is_right soc limits plan content good =
    let tests : List PlannedTest = planned soc plan in
    let a : AreApart (planned soc plan) = apart soc limits plan good in
    record {
      stand = λ i t at tam. all_stand soc limits plan good i t at tam;
      loads = λ i t k at tam first last. loads_all content (planned soc plan) a i t at (is_tam_test soc plan i t at tam) k first last;
      reads = record {
        all_shifts = λ i t k x c w at read d after until.
            let back : c - (c - d) ≡ d = omega arith in
            subst (λ (cycle : ℕ). operation_at t cycle ≡ Some Shift) back
            (shifts_all content t (is_tam_test soc plan i t at (tam_read (planned soc plan) a i t at k x c w read)) k read.chain read.shifts c w (shown_of t k x c w read) (c - d) (omega (arith, read.cycle)));
        shows = λ i t k x c w at read.
            let is : IsTamTest t = is_tam_test soc plan i t at (tam_read (planned soc plan) a i t at k x c w read) in
            (read_cell t is k x c w read, shows_all content (planned soc plan) a i t at is k read.chain read.shifts c w (shown_of t k x c w read) ∙ ap (content.response t.id k) (cell_of t k x c w read));
        every = λ i t k x at tam first last there read. read_somewhere content (planned soc plan) a i t at (is_tam_test soc plan i t at tam) (all_stand soc limits plan good i t at tam) k x first last there read;
        once = λ i t k x c c' w w' at r r'.
            let tam : t.tam ≡ true = tam_read (planned soc plan) a i t at k x c w r in
            read_once soc plan content i t at (is_tam_test soc plan i t at tam) (all_stand soc limits plan good i t at tam) k x c c' w w' r r';
        apart = λ i i' t t' k k' x x' c w at at' r r'. cells_apart content (planned soc plan) a (λ i t at tam. is_tam_test soc plan i t at tam) i i' t t' k k' x x' c w at at' r r';
      };
      self_tests = λ i t at no'. tests_itself t (self_only soc plan i t at no');
      ends = ends_at soc plan (good Cycles);
      one_user = one_user_only (planned soc plan) a;
      limits_kept = limits_kept soc limits plan good;
    }
