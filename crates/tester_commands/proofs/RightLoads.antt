-- In the run of a good plan every capture finds its stimulus.
use Rattle.std.proofs.Common.{◌≡◌, ℕ, zero, suc, ◌+◌, ◌-◌, ◌≤◌, ◌<◌, Bool, cond, Option, None, Some, List, [], ◌∷◌, map, length, get_or, refl, ap, sym, subst, ◌∙◌, arith, slice_get, count_by, zip}
use Rattle.std.specs.List.{range_with_len}
use Rattle.std.proofs.lemmas.List.{length-map, get_or-map}
use Rattle.std.proofs.lemmas.List.FromFn.{fill_by_all}
use Rattle.std.proofs.lemmas.List.Sums.{sum_by-cons}
use Rattle.soc_model.specs.Chips.{SocValue}
use Rattle.plan_model.specs.Cells.{Cell}
use Rattle.plan_model.specs.Operations.{Operation, Setup, Shift, Capture, SelfTest}
use Rattle.plan_model.specs.Plans.{PlanValue, LimitsValue, PlannedTest, planned}
use Rattle.plan_model.specs.Right.{IsAt, HoldsStimulus}
use Rattle.plan_model.specs.Rules.{IsGood}
use Rattle.plan_model.specs.Runs.{Content, State, next_bits, bits_at, chain_at, operation_at, each_chain, first_state, step, carried, run_with, state_at}
use Rattle.plan_model.proofs.ChainShifts.{length-next_bits, length-bits_after}
use Rattle.plan_model.proofs.ChainsInTheRun.{AreApart, chain_test, projection}
use Rattle.plan_model.proofs.LoadsAndReads.{IsTamTest, begun_at, loaded_bit}
use Rattle.plan_model.proofs.SumsOverCycles.{sum_below-same}
use Rattle.plan_model.proofs.TestsInGoodPlans.{apart, is_tam_test}
use Rattle.bit_machine.specs.Chips.{HasAllBits, is_capture, loads_right, captures_at, right_loads_at}
use Rattle.vector_lines.specs.Wires.{AreOnWires}
use Rattle.vector_lines.proofs.GoodWires.{good_wires}
use Rattle.bit_machine.proofs.HeldStimuli.{stimulus_is_held}
use Rattle.tester_commands.specs.RunCounts.{right_loads_in, wired_patterns}
use Rattle.tester_commands.proofs.CaptureCounts.{captures_are_patterns}
use Rattle.common_lemmas.proofs.Lists.{map_twice}

-- ---- each cell has its bit

-- the lengths of the chains of a test
lengths_of : (t : PlannedTest) (bits : ℕ → List Bool) → ((j : ℕ) → j < length t.chains → length (bits j) ≡ length (chain_at t j)) → map (λ (b : List Bool). length b) (map bits (range_with_len 0 (length t.chains))) ≡ map (λ (cells : List Cell). length cells) t.chains
lengths_of t bits long =
    map_twice (λ (b : List Bool). length b) bits (range_with_len 0 (length t.chains))
    ∙ sym (fill_by_all (λ j. length (bits j)) (map (λ (cells : List Cell). length cells) t.chains) (length t.chains) 0 (length-map t.chains (λ (cells : List Cell). length cells))
    (λ j less. get_or-map (λ (cells : List Cell). length cells) t.chains j [] 0 less ∙ sym (long j less)))

all_bits : (f : ℕ → PlannedTest → ℕ → List Bool) (n : ℕ) (tests : List PlannedTest) → ((m i j : ℕ) (t : PlannedTest) → m ≡ n + i → IsAt tests i t → j < length t.chains → length (f m t j) ≡ length (chain_at t j)) → HasAllBits tests (each_chain f n tests)
all_bits f n [] long = refl
all_bits f n (t ∷ tests) long =
    let here = lengths_of t (f n t) (λ j less. long n 0 j t (omega arith) refl less) in
    let others : HasAllBits tests (each_chain f (n + 1) tests) = all_bits f (n + 1) tests (λ m i j u e at less. long m (suc i) j u (omega arith) at less) in
    ap (λ (ns : List ℕ). ns ∷ map (map (λ (bits : List Bool). length bits)) (each_chain f (n + 1) tests)) here
    ∙ ap (λ (rest : List (List ℕ)). map (λ (cells : List Cell). length cells) t.chains ∷ rest) others

-- a chain keeps its length
chain_long : (content : Content) (tests : List PlannedTest) → AreApart tests → (c i j : ℕ) (t : PlannedTest) → IsAt tests i t → j < length t.chains → length (bits_at (state_at content tests c) i j) ≡ length (chain_at t j)
chain_long content tests stand c i j t at less =
    ap (λ (bits : List Bool). length bits) (projection content tests stand c i j t at less)
    ∙ length-bits_after (chain_test content t j) (c - t.start)
    ∙ length-map (chain_at t j) (content.initial t.id)

first_bits : (content : Content) (tests : List PlannedTest) → HasAllBits tests (first_state content tests)
unfolding first_state
first_bits content tests = all_bits (λ i t j. map (content.initial t.id) (chain_at t j)) 0 tests (λ m i j t e at less. length-map (chain_at t j) (content.initial t.id))

next_all_bits : (content : Content) (tests : List PlannedTest) (drive : ℕ → Bool) (c : ℕ) (state : State) → ((i j : ℕ) (t : PlannedTest) → IsAt tests i t → j < length t.chains → length (bits_at state i j) ≡ length (chain_at t j)) → HasAllBits tests (step content tests drive c state)
unfolding step
next_all_bits content tests drive c state long =
    all_bits (λ i t j. next_bits (content.response t.id) (chain_at t j) (operation_at t c) (drive (t.first_wire + j)) (bits_at state i j)) 0 tests
    (λ m i j t e at less.
    let same : m ≡ i = omega arith in
    length-next_bits (content.response t.id) (chain_at t j) (operation_at t c) (drive (t.first_wire + j)) (bits_at state m j) ∙ ap (λ m. length (bits_at state m j)) same ∙ long i j t at less)

has_all_bits : (content : Content) (tests : List PlannedTest) → AreApart tests → (c : ℕ) → HasAllBits tests (state_at content tests c)
unfolding run_with
has_all_bits content tests stand zero = first_bits content tests
has_all_bits content tests stand (suc c) = next_all_bits content tests (carried content tests c) c (state_at content tests c) (λ i j t at less. chain_long content tests stand c i j t at less)

-- ---- each capture is one that finds its stimulus

-- a count over two lists side by side
count_zip : {X Y : Type 0} (p : X × Y → Bool) (q : X → Bool) (d : Y) (xs : List X) (ys : List Y) → length xs ≡ length ys → ((i : ℕ) (x : X) → slice_get xs i ≡ Some x → p (x, get_or ys i d) ≡ q x) → count_by p (zip xs ys) ≡ count_by q xs
count_zip p q d [] ys long same = refl
count_zip p q d (x ∷ xs) [] long same = absurd (omega arith)
count_zip p q d (x ∷ xs) (y ∷ ys) long same =
    let here : p (x, y) ≡ q x = same 0 x refl in
    let others : count_by p (zip xs ys) ≡ count_by q xs = count_zip p q d xs ys (omega arith) (λ i x' at. same (suc i) x' at) in
    sum_by-cons (λ z. cond (p z) 1 0) (x, y) (zip xs ys) ∙ ap (λ b. cond b 1 0 + count_by p (zip xs ys)) here ∙ ap (λ n. cond (q x) 1 0 + n) others ∙ sym (sum_by-cons (λ z. cond (q z) 1 0) x xs)

-- a capture in a good plan
holds_at : (soc : SocValue) (limits : LimitsValue) (plan : PlanValue) → IsGood soc limits plan → (content : Content) (c i k : ℕ) (t : PlannedTest) → IsAt (planned soc plan) i t → operation_at t c ≡ Some (Capture k) → HoldsStimulus content (state_at content (planned soc plan) c) i t k
holds_at soc limits plan good content c i k t at captures =
    let b = begun_at t c (Capture k) captures in
    let begun : t.start ≤ c = b.0 in
    let number : t.start + (c - t.start) ≡ c = omega arith in
    let wires : AreOnWires (planned soc plan) _ = good_wires soc limits plan good content in
    let is : IsTamTest t = is_tam_test soc plan i t at (wires.captures i c k t at captures) in
    subst (λ c. HoldsStimulus content (state_at content (planned soc plan) c) i t k) number (loaded_bit content (planned soc plan) (apart soc limits plan good) i t at is k (c - t.start) b.1)

loads_as_captures : (soc : SocValue) (limits : LimitsValue) (plan : PlanValue) → IsGood soc limits plan → (content : Content) (c i : ℕ) (t : PlannedTest) → IsAt (planned soc plan) i t →
    loads_right (content.stimulus t.id) (operation_at t c) t.chains (get_or (state_at content (planned soc plan) c) i []) ≡ is_capture (operation_at t c)
loads_as_captures soc limits plan good content c i t at = go (operation_at t c) refl where
  go : (op : Option Operation) → operation_at t c ≡ op → loads_right (content.stimulus t.id) op t.chains (get_or (state_at content (planned soc plan) c) i []) ≡ is_capture op
  go None e = refl
  go (Some Setup) e = refl
  go (Some Shift) e = refl
  go (Some SelfTest) e = refl
  go (Some (Capture k)) e =
      stimulus_is_held content (planned soc plan) (state_at content (planned soc plan) c) i t k at (has_all_bits content (planned soc plan) (apart soc limits plan good) c) (holds_at soc limits plan good content c i k t at e)

-- as many tests as there are lists of bits
as_many : (tests : List PlannedTest) (state : State) → HasAllBits tests state → length tests ≡ length state
as_many tests state all =
    sym (length-map tests (λ (t : PlannedTest). map (λ (cells : List Cell). length cells) t.chains)) ∙ sym (ap length all) ∙ length-map state (map (λ (bits : List Bool). length bits))

right_at : (soc : SocValue) (limits : LimitsValue) (plan : PlanValue) → IsGood soc limits plan → (content : Content) (c : ℕ) → right_loads_at content (planned soc plan) c (state_at content (planned soc plan) c) ≡ captures_at (planned soc plan) c
right_at soc limits plan good content c =
    count_zip (λ (p : PlannedTest × List (List Bool)). loads_right (content.stimulus p.0.id) (operation_at p.0 c) p.0.chains p.1) (λ t. is_capture (operation_at t c)) [] (planned soc plan) (state_at content (planned soc plan) c)
    (as_many (planned soc plan) (state_at content (planned soc plan) c) (has_all_bits content (planned soc plan) (apart soc limits plan good) c))
    (λ i t at. loads_as_captures soc limits plan good content c i t at)

pub right_loads_are_patterns : (soc : SocValue) (limits : LimitsValue) (plan : PlanValue) → IsGood soc limits plan → (content : Content) → right_loads_in content (planned soc plan) plan.cycles ≡ wired_patterns soc
right_loads_are_patterns soc limits plan good content =
    sum_below-same (λ c. right_loads_at content (planned soc plan) c (state_at content (planned soc plan) c)) (captures_at (planned soc plan)) plan.cycles (λ c less. right_at soc limits plan good content c)
    ∙ captures_are_patterns soc limits plan good
