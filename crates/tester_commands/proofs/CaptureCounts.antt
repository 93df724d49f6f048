-- A good plan captures each pattern of its tests over the wires once.
use Rattle.std.proofs.Common.{◌≡◌, ℕ, zero, suc, ◌+◌, ◌-◌, ◌≤◌, ◌<◌, ◌⊎◌, inl, inr, max, cond, Some, List, [], ◌∷◌, ◌++◌, map, length, take, get_or, replicate, refl, ap, sym, ◌∙◌, arith, add-one, slice_get, nat_lt, if◌then◌else◌, sum_by, flat_map}
use Rattle.std.specs.List.{range_with_len}
use Rattle.std.proofs.lemmas.List.{take_all}
use Rattle.std.proofs.lemmas.List.Sums.{sum_by-cons, sum_by-append, sum_by_more}
use Rattle.std.proofs.lemmas.Bool.{cases_Bool, cases_lt, lt-ltb, le-ltb, lt-leb, le-leb}
use Rattle.std.proofs.lemmas.Option.{slice_get-get_or, slice_get_past}
use Rattle.soc_model.specs.declared.Test.{Test}
use Rattle.soc_model.specs.Chips.{ModuleValue, SocValue, LiveTest, live_tests}
use Rattle.plan_model.specs.Bounds.{sum_below}
use Rattle.plan_model.specs.Operations.{Operation, Setup, Shift, Capture, SelfTest, capture_and_shifts, ops_of}
use Rattle.plan_model.specs.Plans.{PlanValue, LimitsValue, PlannedTest, planned, planned_test, end_of}
use Rattle.plan_model.specs.Right.{IsAt}
use Rattle.plan_model.specs.Rules.{IsGood, Cycles}
use Rattle.plan_model.specs.Runs.{operation_at}
use Rattle.plan_model.proofs.ChainsInTheRun.{idle_before, at_operation}
use Rattle.plan_model.proofs.Greatest.{le-greatest_at}
use Rattle.plan_model.proofs.Sums.{sum_by-filter}
use Rattle.plan_model.proofs.SumsOverCycles.{sum_below-same, sum_below-sum_by, while_active, sum_while_active}
use Rattle.bit_machine.specs.Chips.{is_capture}
use Rattle.tester_commands.specs.RunCounts.{captures_in, wired_patterns}

-- ---- the captures of a test

-- 1 for a capture
abbrev one_of : Operation → ℕ
one_of op = cond (is_capture (Some op)) 1 0

abbrev captures_of : List Operation → ℕ
captures_of ops = sum_by one_of ops

no_captures : (n : ℕ) (op : Operation) → one_of op ≡ 0 → captures_of (replicate n op) ≡ 0
no_captures zero op e = refl
no_captures (suc n) op e = omega (arith, e, sum_by-cons one_of op (replicate n op), no_captures n op e)

-- one for each pattern from `k` on
block_captures : (b l p k m : ℕ) → captures_of (flat_map (capture_and_shifts b l p) (range_with_len k m)) ≡ m
block_captures b l p k zero = refl
block_captures b l p k (suc m) =
    let shifts : ℕ = if nat_lt k p then b else l in
    let rest : List Operation = flat_map (capture_and_shifts b l p) (range_with_len (k + 1) m) in
    let none : captures_of (replicate shifts Shift) ≡ 0 = no_captures shifts Shift refl in
    let first : captures_of (capture_and_shifts b l p k) ≡ 1 + captures_of (replicate shifts Shift) = sum_by-cons one_of (Capture k) (replicate shifts Shift) in
    let all : captures_of (capture_and_shifts b l p k ++ rest) ≡ captures_of (capture_and_shifts b l p k) + captures_of rest = sum_by-append one_of (capture_and_shifts b l p k) rest in
    let others : captures_of rest ≡ m = block_captures b l p (k + 1) m in
    all ∙ omega arith

ops_captures : (setup si so p : ℕ) → captures_of (ops_of setup si so p) ≡ p
unfolding ops_of
ops_captures setup si so p =
    let blocks : List Operation = flat_map (capture_and_shifts (max si so) so p) (range_with_len 1 p) in
    let counted : captures_of blocks ≡ p = block_captures (max si so) so p 1 p in
    let idle : captures_of (replicate setup Setup) ≡ 0 = no_captures setup Setup refl in
    let shifts : captures_of (replicate si Shift) ≡ 0 = no_captures si Shift refl in
    let before : captures_of (replicate setup Setup ++ replicate si Shift) ≡ captures_of (replicate setup Setup) + captures_of (replicate si Shift) = sum_by-append one_of (replicate setup Setup) (replicate si Shift) in
    sum_by-append one_of (replicate setup Setup ++ replicate si Shift) blocks ∙ omega arith

planned_captures : (plan : PlanValue) (place : ℕ) (m : ModuleValue) (test : Test) → captures_of (planned_test plan place m test).operations ≡ (if test.tam then test.patterns else 0)
unfolding planned_test
planned_captures plan place m test = elim (cases_Bool test.tam) [
  | inl yes' ↦ rw yes' (ops_captures m.setup _ _ test.patterns)
  | inr no' ↦ rw no' (no_captures test.patterns SelfTest refl)
]

-- ---- counted cycle by cycle

-- a capture at a cycle
abbrev capture_at : PlannedTest → ℕ → ℕ
capture_at t c = cond (is_capture (operation_at t c)) 1 0

-- a capture, `n` cycles after the start
abbrev capture_after : List Operation → ℕ → ℕ
capture_after ops n = cond (is_capture (slice_get ops n)) 1 0

up_to : (ops : List Operation) (n : ℕ) → n ≤ length ops → sum_below (capture_after ops) n ≡ captures_of (take n ops)
unfolding sum_below
up_to ops zero h = refl
up_to ops (suc n) h =
    let ih : sum_below (capture_after ops) n ≡ captures_of (take n ops) = up_to ops n (omega arith) in
    let there : slice_get ops n ≡ Some (get_or ops n Shift) = slice_get-get_or ops n Shift (omega arith) in
    let more = rw add-one at (sum_by_more one_of ops n Shift (omega arith)) in
    rw there (omega (arith, ih, more))

at_cycle : (t : PlannedTest) (c : ℕ) → capture_at t c ≡ while_active (capture_after t.operations) t c
at_cycle t c = go (cases_lt c t.start) (cases_lt c (end_of t)) where
  go : (c < t.start) ⊎ (t.start ≤ c) → (c < end_of t) ⊎ (end_of t ≤ c) → capture_at t c ≡ while_active (capture_after t.operations) t c
  go (inl early) _ = rw (idle_before t c early, lt-leb t.start c early) refl
  go (inr begun) (inl active) = rw (at_operation t c begun, le-leb t.start c begun, lt-ltb c (t.start + length t.operations) active) refl
  go (inr begun) (inr over) = rw (at_operation t c begun, slice_get_past t.operations (c - t.start) (omega arith), le-leb t.start c begun, le-ltb c (t.start + length t.operations) over) refl

test_captures : (t : PlannedTest) (n : ℕ) → end_of t ≤ n → sum_below (capture_at t) n ≡ captures_of t.operations
test_captures t n within =
    sum_below-same (capture_at t) (while_active (capture_after t.operations) t) n (λ c less. at_cycle t c)
    ∙ sum_while_active (capture_after t.operations) t n within
    ∙ up_to t.operations (length t.operations) (omega arith)
    ∙ ap captures_of (take_all (length t.operations) t.operations (omega arith))

-- ---- of all tests

abbrev of_plan : PlanValue → LiveTest → PlannedTest
of_plan plan l = planned_test plan l.place l.core l.test

all_captures : (plan : PlanValue) (n : ℕ) (ls : List LiveTest) → ((i : ℕ) (t : PlannedTest) → IsAt (map (of_plan plan) ls) i t → end_of t ≤ n) → sum_by (λ t. sum_below (capture_at t) n) (map (of_plan plan) ls) ≡ sum_by (λ (l : LiveTest). if l.test.tam then l.test.patterns else 0) ls
all_captures plan n [] ends = refl
all_captures plan n (l ∷ ls) ends =
    let here : sum_below (capture_at (of_plan plan l)) n ≡ (if l.test.tam then l.test.patterns else 0) = test_captures (of_plan plan l) n (ends 0 (of_plan plan l) refl) ∙ planned_captures plan l.place l.core l.test in
    let others : sum_by (λ t. sum_below (capture_at t) n) (map (of_plan plan) ls) ≡ sum_by (λ (l : LiveTest). if l.test.tam then l.test.patterns else 0) ls = all_captures plan n ls (λ i t at. ends (suc i) t at) in
    sum_by-cons (λ t. sum_below (capture_at t) n) (of_plan plan l) (map (of_plan plan) ls)
    ∙ ap (λ v. v + sum_by (λ t. sum_below (capture_at t) n) (map (of_plan plan) ls)) here
    ∙ ap (λ v. (if l.test.tam then l.test.patterns else 0) + v) others
    ∙ sym (sum_by-cons (λ (l : LiveTest). if l.test.tam then l.test.patterns else 0) l ls)

ends_by : (soc : SocValue) (limits : LimitsValue) (plan : PlanValue) → IsGood soc limits plan → (i : ℕ) (t : PlannedTest) → IsAt (planned soc plan) i t → end_of t ≤ plan.cycles
ends_by soc limits plan good i t at =
    let cycles = good Cycles in
    omega (arith, cycles, le-greatest_at end_of (planned soc plan) i t at)

of_chip : (soc : SocValue) (plan : PlanValue) (n : ℕ) → ((i : ℕ) (t : PlannedTest) → IsAt (planned soc plan) i t → end_of t ≤ n) → sum_by (λ t. sum_below (capture_at t) n) (planned soc plan) ≡ sum_by (λ (l : LiveTest). if l.test.tam then l.test.patterns else 0) (live_tests soc)
unfolding planned
of_chip soc plan n ends = all_captures plan n (live_tests soc) ends

pub captures_are_patterns : (soc : SocValue) (limits : LimitsValue) (plan : PlanValue) → IsGood soc limits plan → captures_in (planned soc plan) plan.cycles ≡ wired_patterns soc
captures_are_patterns soc limits plan good =
    sum_below-sum_by capture_at (planned soc plan) plan.cycles
    ∙ of_chip soc plan plan.cycles (ends_by soc limits plan good)
    ∙ sym (sum_by-filter (λ (l : LiveTest). l.test.tam) (λ (l : LiveTest). l.test.patterns) (live_tests soc))
