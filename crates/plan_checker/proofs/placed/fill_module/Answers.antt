use Rattle.std.proofs.Common.{◌≡◌, ◌+◌, ◌++◌, List, ◌∷◌, [], ◌<◌, ◌≤◌, true, false, Some, length, get_or, take, sym, ap, ◌∙◌, append_assoc, arith, slice_get, nat_lt}
use Rattle.std.proofs.lemmas.Bool.{lt-ltb}
use Rattle.std.proofs.lemmas.List.{take_all, take_more_set, length-append}
use Rattle.std.proofs.lemmas.Option.{slice_get-get_or}
use Rattle.soc_model.specs.declared.Test.{Test}
use Rattle.soc_model.specs.Chips.{is_live, module_value, soc_value}
use Rattle.plan_model.specs.Plans.{planned_test}
use Rattle.plan_model.specs.Views.{plan_value}
use Rattle.live_tests.specs.declared.placed.PlacedTest.{PlacedTest}
use Rattle.live_tests.specs.Placed.{placed_in, placed_of, placed_tests}
use Rattle.plan_checker.proofs.Filling.{front_left, front_taken, passing_at, passing_room, passing_within}
use Rattle.plan_checker.proofs.placed.fill_module.Goals as goal

none : Test
none = record { number = 0; scan = false; tam = false; patterns = 0; power = 0 }

pub placed_of-requires-clause-of_module : goal.placed_of-requires-clause-of_module
unfolding none
placed_of-requires-clause-of_module c = (c.loop-test.test-index, ap (λ (l : List Test). slice_get l c.loop-test.test-index) (sym c.deref-test-items.ensures.value) ∙ slice_get-get_or c.deref-test-items.result.now c.loop-test.test-index none (omega arith))

pub placed_of-requires-clause-called : goal.placed_of-requires-clause-called
unfolding none
placed_of-requires-clause-called c =
    let m = module_value c.args.«module».now in
    let plan = plan_value c.args.from.now.plan.now in
    let t = get_or c.deref-test-items.result.now c.loop-test.test-index none in
    let at : slice_get m.tests c.loop-test.test-index ≡ Some t = ap (λ (l : List Test). slice_get l c.loop-test.test-index) (sym c.deref-test-items.ensures.value) ∙ slice_get-get_or c.deref-test-items.result.now c.loop-test.test-index none c.loop-test-test.true in
    let live : is_live t ≡ true = lt-ltb 0 _ (omega (arith, c.if-test-eq0.false)) in
    ap (slice_get (placed_tests (soc_value c.args.from.now.soc.now) plan)) c.loop-test.invariant.count
    ∙ c.requires.first (length (placed_in plan c.args.place m (take c.loop-test.test-index m.tests))) (placed_of (planned_test plan c.args.place m t)) (passing_at (λ (t : Test). placed_of (planned_test plan c.args.place m t)) is_live m.tests c.loop-test.test-index t at live)

pub bounds-placed-next : goal.bounds-placed-next
unfolding none
bounds-placed-next c =
    let m = module_value c.args.«module».now in
    let t = get_or c.deref-test-items.result.now c.loop-test.test-index none in
    let at : slice_get m.tests c.loop-test.test-index ≡ Some t = ap (λ (l : List Test). slice_get l c.loop-test.test-index) (sym c.deref-test-items.ensures.value) ∙ slice_get-get_or c.deref-test-items.result.now c.loop-test.test-index none (omega arith) in
    let live : is_live t ≡ true = lt-ltb 0 _ (omega arith) in
    let room = passing_room (λ (t : Test). placed_of (planned_test (plan_value c.args.from.now.plan.now) c.args.place m t)) is_live m.tests c.loop-test.test-index _ at live in
    omega (arith, room, c.requires.room, c.loop-test.invariant.count, c.loop-test.auto.placed)

pub loop-test-preserved : goal.loop-test-preserved
unfolding none
loop-test-preserved c =
    let m = module_value c.args.«module».now in
    let plan = plan_value c.args.from.now.plan.now in
    let t = get_or c.deref-test-items.result.now c.loop-test.test-index none in
    let at : slice_get m.tests c.loop-test.test-index ≡ Some t = ap (λ (l : List Test). slice_get l c.loop-test.test-index) (sym c.deref-test-items.ensures.value) ∙ slice_get-get_or c.deref-test-items.result.now c.loop-test.test-index none (omega arith) in
    let live : is_live t ≡ true = lt-ltb 0 _ (omega arith) in
    let room = passing_room (λ (t : Test). placed_of (planned_test plan c.args.place m t)) is_live m.tests c.loop-test.test-index _ at live in
    let within : c.loop-test.next + 1 ≤ length c.loop-test.placed = omega (arith, room, c.requires.room, c.loop-test.invariant.count, c.loop-test.auto.placed) in
    let more : placed_in plan c.args.place m (take (c.loop-test.test-index + 1) m.tests) ≡ placed_in plan c.args.place m (take c.loop-test.test-index m.tests) ++ c.placed_of.result ∷ [] = front_taken (λ (t : Test). placed_of (planned_test plan c.args.place m t)) is_live m.tests c.loop-test.test-index t at live ∙ ap (λ p. placed_in plan c.args.place m (take c.loop-test.test-index m.tests) ++ p ∷ []) (sym c.placed_of.ensures) in
    record {
      count = omega (arith, c.loop-test.invariant.count, simp length-append at (ap length more));
      filled = take_more_set c.loop-test.placed c.loop-test.next c.placed_of.result (omega arith) ∙ rw (c.loop-test.invariant.filled, more) (append_assoc (take c.args.done c.args.placed.now) (placed_in plan c.args.place m (take c.loop-test.test-index m.tests)) (c.placed_of.result ∷ []));
    }

pub offset_bounds-placed-next : goal.offset_bounds-placed-next
unfolding none
offset_bounds-placed-next c =
    let m = module_value c.args.«module».now in
    let t = get_or c.deref-test-items.result.now c.loop-test.test-index none in
    let at : slice_get m.tests c.loop-test.test-index ≡ Some t = ap (λ (l : List Test). slice_get l c.loop-test.test-index) (sym c.deref-test-items.ensures.value) ∙ slice_get-get_or c.deref-test-items.result.now c.loop-test.test-index none c.loop-test-test.true in
    let live : is_live t ≡ true = lt-ltb 0 _ (omega (arith, c.if-test-eq0.false)) in
    let within : c.loop-test.next < length c.args.placed.now = passing_within (λ (t : Test). placed_of (planned_test (plan_value c.args.from.now.plan.now) c.args.place m t)) is_live m.tests c.loop-test.test-index _ c.args.done c.loop-test.next (length c.args.placed.now) at live c.loop-test.invariant.count c.requires.room in
    omega (arith, within, c.loop-test.auto.placed)

pub overflow_add-next : goal.overflow_add-next
unfolding none
overflow_add-next c =
    let m = module_value c.args.«module».now in
    let t = get_or c.deref-test-items.result.now c.loop-test.test-index none in
    let at : slice_get m.tests c.loop-test.test-index ≡ Some t = ap (λ (l : List Test). slice_get l c.loop-test.test-index) (sym c.deref-test-items.ensures.value) ∙ slice_get-get_or c.deref-test-items.result.now c.loop-test.test-index none c.loop-test-test.true in
    let live : is_live t ≡ true = lt-ltb 0 _ (omega (arith, c.if-test-eq0.false)) in
    let within : c.loop-test.next < length c.args.placed.now = passing_within (λ (t : Test). placed_of (planned_test (plan_value c.args.from.now.plan.now) c.args.place m t)) is_live m.tests c.loop-test.test-index _ c.args.done c.loop-test.next (length c.args.placed.now) at live c.loop-test.invariant.count c.requires.room in
    omega (arith, within, c.loop-test.auto.placed)

pub loop-test-preserved-then-test-eq0 : goal.loop-test-preserved-then-test-eq0
unfolding none
loop-test-preserved-then-test-eq0 c =
    let m = module_value c.args.«module».now in
    let plan = plan_value c.args.from.now.plan.now in
    let t = get_or c.deref-test-items.result.now c.loop-test.test-index none in
    let at : slice_get m.tests c.loop-test.test-index ≡ Some t = ap (λ (l : List Test). slice_get l c.loop-test.test-index) (sym c.deref-test-items.ensures.value) ∙ slice_get-get_or c.deref-test-items.result.now c.loop-test.test-index none c.loop-test-test.true in
    let dead : is_live t ≡ false = ap (nat_lt 0) c.if-test-eq0.true in
    let same : placed_in plan c.args.place m (take (c.loop-test.test-index + 1) m.tests) ≡ placed_in plan c.args.place m (take c.loop-test.test-index m.tests) = front_left (λ (t : Test). placed_of (planned_test plan c.args.place m t)) is_live m.tests c.loop-test.test-index t at dead in
    record {
      count = c.loop-test.invariant.count ∙ ap (λ (l : List PlacedTest). c.args.done + length l) (sym same);
      filled = c.loop-test.invariant.filled ∙ ap (λ (l : List PlacedTest). take c.args.done c.args.placed.now ++ l) (sym same);
    }

pub returns-clause-count : goal.returns-clause-count
returns-clause-count c =
    let all = take_all c.loop-test.test-index c.args.«module».now.tests.items (omega (arith, c.loop-test-test.false, ap length c.deref-test-items.ensures.value)) in
    c.loop-test.invariant.count ∙ ap (λ (l : List Test). c.args.done + length (placed_in (plan_value c.args.from.now.plan.now) c.args.place (module_value c.args.«module».now) l)) all

pub returns-clause-filled : goal.returns-clause-filled
returns-clause-filled c =
    let all = take_all c.loop-test.test-index c.args.«module».now.tests.items (omega (arith, c.loop-test-test.false, ap length c.deref-test-items.ensures.value)) in
    c.loop-test.invariant.filled ∙ ap (λ (l : List Test). take c.args.done c.args.placed.now ++ placed_in (plan_value c.args.from.now.plan.now) c.args.place (module_value c.args.«module».now) l) all
