-- What the wires carry depends only on the bits that cells load.
use Rattle.std.proofs.Common.{◌≡◌, ◌⊎◌, inl, inr, ℕ, zero, suc, ◌+◌, ◌-◌, ◌≤◌, ◌<◌, Bool, true, false, Option, None, Some, List, [], ◌∷◌, ◌++◌, length, get_or, drop, refl, ap, sym, subst, ◌∙◌, arith, slice_get, nat_lt, if◌then◌else◌, All, count_by, flat_map}
use Rattle.std.proofs.lemmas.Bool.{cases_Bool, ltb-true}
use Rattle.std.proofs.lemmas.List.{get_or_append_left}
use Rattle.std.proofs.lemmas.List.Sums.{sum_by-append}
use Rattle.std.proofs.lemmas.List.Elements.{All-append, All-get_or}
use Rattle.soc_model.specs.Chips.{SocValue}
use Rattle.plan_model.specs.Cells.{Cell, In, ChainValue, is_loaded, in_length, in_cells, out_cells, flops, dealt, scan_lengths, chain_cells}
use Rattle.plan_model.specs.Operations.{Operation, Setup, Shift, Capture, SelfTest, ahead}
use Rattle.plan_model.specs.Plans.{PlanValue, PlannedTest, planned, uses, of_first, wraps, chains_of}
use Rattle.plan_model.specs.Right.{IsAt}
use Rattle.plan_model.specs.Runs.{Content, wanted, chain_at, carried, at_first_user}
use Rattle.plan_model.proofs.CellOrder.{count_none, count_all}
use Rattle.plan_model.proofs.LoadsAndReads.{IsTamTest}
use Rattle.plan_model.proofs.OperationBlocks.{IsCaptured, capture_found}
use Rattle.plan_model.proofs.PlannedTests.{Origin, origin}
use Rattle.plan_model.proofs.TestsInGoodPlans.{uses_is, is_tam_test, planned_tam}
use Rattle.plan_model.proofs.TurnBounds.{planned_chains}
use Rattle.vector_lines.proofs.Numbering.{ins_loaded, flops_loaded, outs_unloaded}

-- ---- the operations ahead

at_drop : (n j : ℕ) (xs : List Operation) (o : Option Operation) → slice_get (drop n xs) j ≡ o → slice_get xs (n + j) ≡ o
at_drop zero j xs o e = let n : 0 + j ≡ j = omega arith in rw n e
at_drop (suc n) j [] o e = e
at_drop (suc n) j (x ∷ xs) o e = let m : suc n + j ≡ suc (n + j) = omega arith in rw m (at_drop n j xs o e)

-- what is ahead is a Capture of the list
ahead_there : (ops : List Operation) (a : ℕ × ℕ) → ahead ops ≡ Some a → (n : ℕ) × (slice_get ops n ≡ Some (Capture a.1))
ahead_there [] a e = absurd cc
ahead_there (Shift ∷ ops) a e = by (ahead ops) refl (λ b f. ahead_there ops b f)
  where
    by : (o : Option (ℕ × ℕ)) → ahead ops ≡ o → ((b : ℕ × ℕ) → ahead ops ≡ Some b → (n : ℕ) × (slice_get ops n ≡ Some (Capture b.1))) → (n : ℕ) × (slice_get (Shift ∷ ops) n ≡ Some (Capture a.1))
    by None none rest = absurd (let f = rw none at e in cc)
    by (Some b) some rest =
        let same : Some (suc b.0, b.1) ≡ Some a = rw some at e in
        let pattern : b.1 ≡ a.1 = cc in
        let r = rest b some in
        (suc r.0, r.1 ∙ ap (λ k. Some (Capture k)) pattern)
ahead_there (Capture k ∷ ops) a e = let same : k ≡ a.1 = cc in (0, ap (λ k. Some (Capture k)) same)
ahead_there (Setup ∷ ops) a e = absurd cc
ahead_there (SelfTest ∷ ops) a e = absurd cc

-- ---- a chain

-- contents that say the same bits for the cells that a chain loads, in the patterns from 1 to `p`
abbrev pub SameInChain : (s s' : ℕ → Cell → Bool) → List Cell → (p : ℕ) → Type 0
SameInChain s s' cells p =
    (k r : ℕ) → 1 ≤ k → k ≤ p → r < in_length cells → s k (get_or cells r (In 0)) ≡ s' k (get_or cells r (In 0))

wanted_same : (s s' : ℕ → Cell → Bool) (cells : List Cell) (p : ℕ) (ops : List Operation) → ((n k : ℕ) → slice_get ops n ≡ Some (Capture k) → (1 ≤ k) × (k ≤ p)) → SameInChain s s' cells p → wanted s cells ops ≡ wanted s' cells ops
wanted_same s s' cells p [] captures same = refl
wanted_same s s' cells p (Shift ∷ ops) captures same = by (ahead ops) refl
  where
    by : (o : Option (ℕ × ℕ)) → ahead ops ≡ o → wanted s cells (Shift ∷ ops) ≡ wanted s' cells (Shift ∷ ops)
    by None none = rw none refl
    by (Some a) some = elim (cases_Bool (nat_lt a.0 (in_length cells))) [
      | inl yes' ↦
          let there = ahead_there ops a some in
          let within = captures (suc there.0) a.1 there.1 in
          rw (some, yes') (same a.1 a.0 within.0 within.1 (ltb-true a.0 (in_length cells) yes'))
      | inr no' ↦ rw (some, no') refl
    ]
wanted_same s s' cells p (Capture k ∷ ops) captures same = refl
wanted_same s s' cells p (Setup ∷ ops) captures same = refl
wanted_same s s' cells p (SelfTest ∷ ops) captures same = refl

-- ---- all tests

-- so for all tests over the wires
abbrev pub SameLoads : (a b : Content) → List PlannedTest → Type 0
SameLoads a b tests = (i j : ℕ) (t : PlannedTest) → IsAt tests i t → t.tam ≡ true → SameInChain (a.stimulus t.id) (b.stimulus t.id) (chain_at t j) t.patterns

-- each of them does the operations of its patterns
abbrev pub AreTamTests : List PlannedTest → Type 0
AreTamTests tests = (i : ℕ) (t : PlannedTest) → IsAt tests i t → t.tam ≡ true → IsTamTest t

wanted_of_test : (a b : Content) (t : PlannedTest) (n j : ℕ) → IsTamTest t → SameInChain (a.stimulus t.id) (b.stimulus t.id) (chain_at t j) t.patterns → wanted (a.stimulus t.id) (chain_at t j) (drop n t.operations) ≡ wanted (b.stimulus t.id) (chain_at t j) (drop n t.operations)
wanted_of_test a b t n j is same =
    wanted_same (a.stimulus t.id) (b.stimulus t.id) (chain_at t j) t.patterns (drop n t.operations)
    (λ m k e. let f : IsCaptured is.setup is.si is.so t.patterns (n + m) k = capture_found is.setup is.si is.so t.patterns (n + m) k (ap (λ ops. slice_get ops (n + m)) (sym is.operations) ∙ at_drop n m t.operations (Some (Capture k)) e) in (f.first, f.last))
    same

first_user_same : (f g : ℕ → PlannedTest → ℕ → Bool) (c x i : ℕ) (tests : List PlannedTest) → ((n m j : ℕ) (t : PlannedTest) → IsAt tests n t → t.tam ≡ true → f m t j ≡ g m t j) → at_first_user f c x i tests ≡ at_first_user g c x i tests
first_user_same f g c x i [] same = refl
first_user_same f g c x i (t ∷ ts) same = by (cases_Bool (uses c x t)) (first_user_same f g c x (i + 1) ts (λ n m j u at tam. same (suc n) m j u at tam))
  where
    by : (uses c x t ≡ true) ⊎ (uses c x t ≡ false) → at_first_user f c x (i + 1) ts ≡ at_first_user g c x (i + 1) ts → at_first_user f c x i (t ∷ ts) ≡ at_first_user g c x i (t ∷ ts)
    by (inl yes') rest = rw yes' (same 0 i (x - t.first_wire) t refl (uses_is c x t yes').tam)
    by (inr no') rest = rw no' rest

pub carried_same : (a b : Content) (tests : List PlannedTest) (c x : ℕ) → AreTamTests tests → SameLoads a b tests → carried a tests c x ≡ carried b tests c x
unfolding carried
carried_same a b tests c x are same =
    first_user_same
    (λ i t j. wanted (a.stimulus t.id) (chain_at t j) (drop (c - t.start) t.operations))
    (λ i t j. wanted (b.stimulus t.id) (chain_at t j) (drop (c - t.start) t.operations))
    c x 0 tests
    (λ n m j t at tam. wanted_of_test a b t (c - t.start) j (are n t at tam) (same n j t at tam))

-- ---- the cells that a chain loads

front_loaded : (front outs : List Cell) (r : ℕ) → All (λ x. is_loaded x ≡ true) front → All (λ x. is_loaded x ≡ false) outs → r < in_length (front ++ outs) → is_loaded (get_or (front ++ outs) r (In 0)) ≡ true
front_loaded front outs r a b h =
    let n : in_length (front ++ outs) ≡ count_by is_loaded front + count_by is_loaded outs = sum_by-append (λ x. if is_loaded x then 1 else 0) front outs in
    let all : count_by is_loaded front ≡ length front = count_all is_loaded front a in
    let none : count_by is_loaded outs ≡ 0 = count_none is_loaded outs b in
    let within : r < length front = omega (arith, n, all, none, h) in
    rw (get_or_append_left front outs (In 0) r within) (All-get_or (λ x. is_loaded x ≡ true) front r (In 0) within a)

dealt_loaded : (lengths : List ℕ) (i o : ℕ) (cs : List ChainValue) (j r : ℕ) → r < in_length (get_or (dealt lengths i o cs) j []) → is_loaded (get_or (get_or (dealt lengths i o cs) j []) r (In 0)) ≡ true
dealt_loaded lengths i o [] j r h = absurd (omega arith)
dealt_loaded lengths i o (c ∷ cs) zero r h =
    front_loaded (in_cells i c.ins ++ flat_map (flops lengths) c.scans) (out_cells o c.outs) r (All-append (λ x. is_loaded x ≡ true) (in_cells i c.ins) (flat_map (flops lengths) c.scans) (ins_loaded i c.ins) (flops_loaded lengths c.scans)) (outs_unloaded o c.outs) h
dealt_loaded lengths i o (c ∷ cs) (suc j) r h = dealt_loaded lengths (i + c.ins) (o + c.outs) cs j r h

-- the first cells of a chain of a planned test, as many as it loads, are loaded
pub loaded_cell : (soc : SocValue) (plan : PlanValue) (i j r : ℕ) (t : PlannedTest) → IsAt (planned soc plan) i t → t.tam ≡ true → r < in_length (chain_at t j) → is_loaded (get_or (chain_at t j) r (In 0)) ≡ true
loaded_cell soc plan i j r t at tam h =
    let o : Origin soc plan i t = origin soc plan i t at in
    let tam' : o.l.test.tam ≡ true = sym (planned_tam plan o.l.place o.l.core o.l.test) ∙ ap (λ (t : PlannedTest). t.tam) o.is ∙ tam in
    let over : chains_of plan o.l.core o.l.test ≡ chain_cells o.l.core o.l.test.scan (of_first (wraps o.l.core.number o.l.test.scan) (λ w. w.chains) [] plan.wrappers) = rw tam' refl in
    let chains : t.chains ≡ dealt (scan_lengths o.l.core o.l.test.scan) 0 0 (of_first (wraps o.l.core.number o.l.test.scan) (λ w. w.chains) [] plan.wrappers) = ap (λ (t : PlannedTest). t.chains) (sym o.is) ∙ planned_chains plan o.l.place o.l.core o.l.test ∙ over in
    let same : chain_at t j ≡ get_or (dealt (scan_lengths o.l.core o.l.test.scan) 0 0 (of_first (wraps o.l.core.number o.l.test.scan) (λ w. w.chains) [] plan.wrappers)) j [] = ap (λ chains. get_or chains j []) chains in
    ap (λ cells. is_loaded (get_or cells r (In 0))) same ∙ dealt_loaded (scan_lengths o.l.core o.l.test.scan) 0 0 (of_first (wraps o.l.core.number o.l.test.scan) (λ w. w.chains) [] plan.wrappers) j r (subst (λ cells. r < in_length cells) same h)

pub tam_tests : (soc : SocValue) (plan : PlanValue) → AreTamTests (planned soc plan)
tam_tests soc plan i t at tam = is_tam_test soc plan i t at tam
