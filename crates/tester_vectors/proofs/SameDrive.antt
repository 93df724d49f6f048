-- A run depends on what its wires carry alone.
use Rattle.std.proofs.Common.{◌≡◌, ℕ, zero, suc, ◌+◌, ◌≤◌, ◌<◌, Bool, List, [], ◌∷◌, length, map, refl, ap, ◌∙◌, arith}
use Rattle.std.specs.List.{range_with_len}
use Rattle.soc_model.specs.Chips.{SocValue}
use Rattle.plan_model.specs.Plans.{PlanValue, PlannedTest, planned, widths}
use Rattle.plan_model.specs.Right.{IsAt}
use Rattle.plan_model.specs.Runs.{Content, State, next_bits, bits_at, chain_at, operation_at, each_chain, step, run_with}
use Rattle.plan_model.proofs.ChainsInTheRun.{AreApart}
use Rattle.plan_model.proofs.TestsInGoodPlans.{on_bus}
use Rattle.vector_lines.specs.Wires.{wires_of}
use Rattle.common_lemmas.proofs.Lists.{taken_within}

pub same_over_range : {X : Type 0} (f g : ℕ → X) (a n : ℕ) → ((j : ℕ) → a ≤ j → j < a + n → f j ≡ g j) → map f (range_with_len a n) ≡ map g (range_with_len a n)
same_over_range f g a zero h = refl
same_over_range {X} f g a (suc n) h =
    ap (λ (x : X). x ∷ map f (range_with_len (a + 1) n)) (h a (omega arith) (omega arith))
    ∙ ap (λ (xs : List X). g a ∷ xs) (same_over_range f g (a + 1) n (λ j low high. h j (omega arith) (omega arith)))

each_chain_same : {X : Type 0} (f g : ℕ → PlannedTest → ℕ → X) (n : ℕ) (tests : List PlannedTest) → ((i m j : ℕ) (t : PlannedTest) → m ≡ n + i → IsAt tests i t → j < length t.chains → f m t j ≡ g m t j) → each_chain f n tests ≡ each_chain g n tests
each_chain_same f g n [] h = refl
each_chain_same {X} f g n (t ∷ tests) h =
    ap (λ (xs : List X). xs ∷ each_chain f (n + 1) tests) (same_over_range (f n t) (g n t) 0 (length t.chains) (λ j low high. h 0 n j t (omega arith) refl (omega arith)))
    ∙ ap (λ (xs : List (List X)). map (g n t) (range_with_len 0 (length t.chains)) ∷ xs) (each_chain_same f g (n + 1) tests (λ i m j u e at within. h (suc i) m j u (omega arith) at within))

-- the wires of the chains of the tests
abbrev pub ChainsWithin : List PlannedTest → ℕ → Type 0
ChainsWithin tests wires = (i j : ℕ) (t : PlannedTest) → IsAt tests i t → j < length t.chains → t.first_wire + j < wires

pub step_same : (content : Content) (tests : List PlannedTest) (wires c : ℕ) (drive drive' : ℕ → Bool) (state : State) → ChainsWithin tests wires → ((w : ℕ) → w < wires → drive w ≡ drive' w) →
    step content tests drive c state ≡ step content tests drive' c state
unfolding step
step_same content tests wires c drive drive' state chains same =
    each_chain_same (λ i t j. next_bits (content.response t.id) (chain_at t j) (operation_at t c) (drive (t.first_wire + j)) (bits_at state i j))
    (λ i t j. next_bits (content.response t.id) (chain_at t j) (operation_at t c) (drive' (t.first_wire + j)) (bits_at state i j)) 0 tests
    (λ i m j t e at within. ap (λ b. next_bits (content.response t.id) (chain_at t j) (operation_at t c) b (bits_at state m j)) (same (t.first_wire + j) (chains i j t at within)))

pub run_same : (content : Content) (tests : List PlannedTest) (wires cycles c : ℕ) (drive drive' : ℕ → ℕ → Bool) → ChainsWithin tests wires → ((c w : ℕ) → c < cycles → w < wires → drive c w ≡ drive' c w) → c ≤ cycles →
    run_with content tests drive c ≡ run_with content tests drive' c
unfolding run_with
run_same content tests wires cycles zero drive drive' chains same h = refl
run_same content tests wires cycles (suc c) drive drive' chains same h =
    ap (step content tests (drive c) c) (run_same content tests wires cycles c drive drive' chains same (omega arith))
    ∙ step_same content tests wires c (drive c) (drive' c) (run_with content tests drive' c) chains (λ w within. same c w (omega arith) within)

-- ---- the chains of a good plan are on its wires

pub chains_within : (soc : SocValue) (plan : PlanValue) → AreApart (planned soc plan) → ChainsWithin (planned soc plan) (wires_of plan)
chains_within soc plan stand i j t at within =
    let on = on_bus soc plan i t at in
    let fit = stand.fit i t at in
    omega (arith, on.first, on.wide, taken_within (widths plan) t.bus)
