-- In the run of the whole chip the chains of each test go as in that test alone.
use Rattle.std.proofs.Common.{◌≡◌, ℕ, zero, suc, ◌+◌, ◌-◌, ◌≤◌, ◌<◌, Bool, true, false, None, List, [], ◌∷◌, length, drop, map, refl, ◌∙◌, arith, zero-add, inl, inr, ◌⊎◌}
use Rattle.std.specs.Prelude.{slice_get}
use Rattle.std.proofs.lemmas.List.FromFn.{get_or-map-range_with_len}
use Rattle.std.proofs.lemmas.Option.{slice_get_past}
use Rattle.std.proofs.lemmas.Bool.{lt-ltb, le-leb, lt-leb, cases_lt, false_from_ne_true}
use Rattle.plan_model.specs.Plans.{PlannedTest, uses}
use Rattle.plan_model.specs.Runs.{Content, State, wanted, next_bits, last_bit, bits_at, chain_at, operation_at, each_chain, first_state, step, at_first_user, carried, shown, run_with, state_at}
use Rattle.plan_model.specs.OneTest.{ChainTest, bits_after}
use Rattle.plan_model.specs.Right.{IsAt}

-- a chain of a planned test, by itself
abbrev pub chain_test : Content → PlannedTest → ℕ → ChainTest
chain_test content t j = record {
  stimulus = content.stimulus t.id;
  response = content.response t.id;
  cells = chain_at t j;
  initial = map (content.initial t.id) (chain_at t j);
  operations = t.operations;
}

-- Chains of TAM tests stand on wires of their bus, and no wire has two users.
pub record AreApart (tests : List PlannedTest) : Type 0 where
  pub tam : (i j : ℕ) (t : PlannedTest) → IsAt tests i t → j < length t.chains → t.tam ≡ true
  pub fit : (i : ℕ) (t : PlannedTest) → IsAt tests i t → length t.chains ≤ t.width
  pub alone : (c x i i' : ℕ) (t t' : PlannedTest) → IsAt tests i t → IsAt tests i' t' → uses c x t ≡ true → uses c x t' ≡ true → i' ≡ i

pub bits_at-each_chain : (f : ℕ → PlannedTest → ℕ → List Bool) (n : ℕ) (tests : List PlannedTest) (i j : ℕ) (t : PlannedTest) →
    IsAt tests i t → j < length t.chains → bits_at (each_chain f n tests) i j ≡ f (n + i) t j
bits_at-each_chain f n [] i j t at h = absurd cc
bits_at-each_chain f n (u ∷ tests) zero j t at h =
    let same : u ≡ t = cc in
    let place : n + 0 ≡ n = omega arith in
    rw (same, place) (get_or-map-range_with_len (f n t) 0 (length t.chains) j j [] h (zero-add j))
bits_at-each_chain f n (u ∷ tests) (suc i) j t at h =
    let place : n + suc i ≡ (n + 1) + i = omega arith in
    rw place (bits_at-each_chain f (n + 1) tests i j t at h)

pub at_first_user_is : (f : ℕ → PlannedTest → ℕ → Bool) (c x n : ℕ) (tests : List PlannedTest) (i : ℕ) (t : PlannedTest) → IsAt tests i t → uses c x t ≡ true →
    ((i' : ℕ) (t' : PlannedTest) → IsAt tests i' t' → uses c x t' ≡ true → i' ≡ i) → at_first_user f c x n tests ≡ f (n + i) t (x - t.first_wire)
at_first_user_is f c x n [] i t at use' alone = absurd cc
at_first_user_is f c x n (u ∷ tests) zero t at use' alone =
    let same : u ≡ t = cc in
    let place : n + 0 ≡ n = omega arith in
    rw (same, use', place) refl
at_first_user_is f c x n (u ∷ tests) (suc i) t at use' alone =
    let place : n + suc i ≡ (n + 1) + i = omega arith in
    let other : uses c x u ≡ false = false_from_ne_true (uses c x u) (λ e. let wrong : 0 ≡ suc i = alone 0 u refl e in omega arith) in
    rw (other, place) (at_first_user_is f c x (n + 1) tests i t at use' (λ i' t' at' uses'. let next : suc i' ≡ suc i = alone (suc i') t' at' uses' in omega arith))

pub idle_before : (t : PlannedTest) (c : ℕ) → c < t.start → operation_at t c ≡ None
idle_before t c h = rw (lt-leb t.start c h) refl

pub at_operation : (t : PlannedTest) (c : ℕ) → t.start ≤ c → operation_at t c ≡ slice_get t.operations (c - t.start)
at_operation t c h = rw (le-leb t.start c h) refl

pub uses_wire : (t : PlannedTest) (c j : ℕ) → t.tam ≡ true → t.start ≤ c → c - t.start < length t.operations → j < t.width → uses c (t.first_wire + j) t ≡ true
uses_wire t c j tam begun active on_bus =
    rw (tam, le-leb t.start c begun, lt-ltb c (t.start + length t.operations) (omega arith), le-leb t.first_wire (t.first_wire + j) (omega arith), lt-ltb (t.first_wire + j) (t.first_wire + t.width) (omega arith)) refl

pub bits_at-step : (content : Content) (tests : List PlannedTest) (bits : ℕ → Bool) (c : ℕ) (state : State) (i j : ℕ) (t : PlannedTest) → IsAt tests i t → j < length t.chains →
    bits_at (step content tests bits c state) i j ≡ next_bits (content.response t.id) (chain_at t j) (operation_at t c) (bits (t.first_wire + j)) (bits_at state i j)
unfolding step
bits_at-step content tests bits c state i j t at h =
    bits_at-each_chain (λ i t j. next_bits (content.response t.id) (chain_at t j) (operation_at t c) (bits (t.first_wire + j)) (bits_at state i j)) 0 tests i j t at h ∙ rw (zero-add i) refl

-- what the wire of an active chain carries is what the chain wants
pub carried_is : (content : Content) (tests : List PlannedTest) (apart : AreApart tests) (c i j : ℕ) (t : PlannedTest) → IsAt tests i t → j < length t.chains → t.start ≤ c → c - t.start < length t.operations →
    carried content tests c (t.first_wire + j) ≡ wanted (content.stimulus t.id) (chain_at t j) (drop (c - t.start) t.operations)
unfolding carried
carried_is content tests apart c i j t at h begun active =
    let fit : length t.chains ≤ t.width = apart.fit i t at in
    let user : uses c (t.first_wire + j) t ≡ true = uses_wire t c j (apart.tam i j t at h) begun active (omega arith) in
    let number : t.first_wire + j - t.first_wire ≡ j = omega arith in
    at_first_user_is (λ i t j. wanted (content.stimulus t.id) (chain_at t j) (drop (c - t.start) t.operations)) c (t.first_wire + j) 0 tests i t at user (λ i' t' at' user'. apart.alone c (t.first_wire + j) i i' t t' at at' user user')
    ∙ rw number refl

pub shown_is : (tests : List PlannedTest) (apart : AreApart tests) (state : State) (c i j : ℕ) (t : PlannedTest) → IsAt tests i t → j < length t.chains → t.start ≤ c → c - t.start < length t.operations →
    shown tests state c (t.first_wire + j) ≡ last_bit (bits_at state i j)
unfolding shown
shown_is tests apart state c i j t at h begun active =
    let fit : length t.chains ≤ t.width = apart.fit i t at in
    let user : uses c (t.first_wire + j) t ≡ true = uses_wire t c j (apart.tam i j t at h) begun active (omega arith) in
    let number : t.first_wire + j - t.first_wire ≡ j = omega arith in
    at_first_user_is (λ i t j. last_bit (bits_at state i j)) c (t.first_wire + j) 0 tests i t at user (λ i' t' at' user'. apart.alone c (t.first_wire + j) i i' t t' at at' user user')
    ∙ rw (number, zero-add i) refl

-- the projection law
pub projection : (content : Content) (tests : List PlannedTest) (apart : AreApart tests) (c i j : ℕ) (t : PlannedTest) → IsAt tests i t → j < length t.chains →
    bits_at (state_at content tests c) i j ≡ bits_after (chain_test content t j) (c - t.start)
unfolding run_with first_state bits_after
projection content tests apart zero i j t at h =
    let begin : 0 - t.start ≡ 0 = omega arith in
    rw begin (bits_at-each_chain (λ i t j. map (content.initial t.id) (chain_at t j)) 0 tests i j t at h)
projection content tests apart (suc c) i j t at h =
    let ih : bits_at (state_at content tests c) i j ≡ bits_after (chain_test content t j) (c - t.start) = projection content tests apart c i j t at h in
    bits_at-step content tests (carried content tests c) c (state_at content tests c) i j t at h ∙ rw ih (one_more (cases_lt c t.start) (cases_lt (c - t.start) (length t.operations)))
  where
    one_more : (c < t.start) ⊎ (t.start ≤ c) → (c - t.start < length t.operations) ⊎ (length t.operations ≤ c - t.start) →
        next_bits (content.response t.id) (chain_at t j) (operation_at t c) (carried content tests c (t.first_wire + j)) (bits_after (chain_test content t j) (c - t.start)) ≡ bits_after (chain_test content t j) (suc c - t.start)
    one_more (inl early) _ =
        let a : suc c - t.start ≡ 0 = omega arith in
        let b : c - t.start ≡ 0 = omega arith in
        rw (idle_before t c early, a, b) refl
    one_more (inr begun) (inl active) =
        let a : suc c - t.start ≡ suc (c - t.start) = omega arith in
        rw (at_operation t c begun, a, carried_is content tests apart c i j t at h begun active) refl
    one_more (inr begun) (inr over) =
        let a : suc c - t.start ≡ suc (c - t.start) = omega arith in
        rw (at_operation t c begun, a, slice_get_past t.operations (c - t.start) over) refl
