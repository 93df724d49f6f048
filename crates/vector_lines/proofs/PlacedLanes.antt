-- The lane of a live test is that of its planned test.
use Rattle.std.proofs.Common.{◌≡◌, ◌≢◌, ℕ, zero, suc, ◌+◌, ◌*◌, ◌^◌, ◌≤◌, ◌<◌, ◌⊎◌, Bool, true, false, true≢false, max, min, None, Some, List, [], ◌∷◌, length, get_or, map, option_map, take, refl, ap, sym, subst, ◌∙◌, arith, inl, inr, slice_get, slice_index, nat_eq, sum, sum_by}
use Rattle.std.specs.List.{position_or_len}
use Rattle.std.proofs.Math.Path.{fun_ext}
use Rattle.std.proofs.lemmas.List.{length-map, get_or-map, get_or_past}
use Rattle.std.proofs.lemmas.Option.{slice_get_within, get_or_from_slice_get, same_Some, slice_get-map}
use Rattle.std.proofs.lemmas.Bool.{cases_lt, and_parts, eqb-true, eq-eqb, leb-true, ne_eqb}
use Rattle.soc_model.specs.declared.Test.{Test}
use Rattle.soc_model.specs.declared.TestId.{TestId}
use Rattle.soc_model.specs.Chips.{ModuleValue, SocValue, LiveTest, is_live, live_tests, id_of, same_test}
use Rattle.soc_model.specs.SoundChips.{IsSoundChip, IsSoundModule, AllDiffer}
use Rattle.soc_model.proofs.Places.{IsKeyed-from_sound, module-unique}
use Rattle.plan_model.specs.Cells.{Cell, ChainValue, IsProper, chain_cells, dealt, out_length}
use Rattle.soc_model.specs.Modes.{scan_lengths}
use Rattle.plan_model.specs.Operations.{ops_of}
use Rattle.plan_model.specs.Plans.{BusValue, PlanValue, LimitsValue, WrapperValue, PlannedTest, planned, planned_test, chains_of, operations_of, si_of, so_of, widths, bus_place}
use Rattle.plan_model.specs.declared.ChainPlan.{ChainPlan}
use Rattle.plan_model.specs.Rules.{IsGood, Wrappers}
use Rattle.plan_model.specs.declared.Bus.{Bus}
use Rattle.plan_model.specs.Views.{bus_value, chain_value, wrapper_value}
use Rattle.plan_model.specs.Runs.{Content, chain_at}
use Rattle.plan_model.proofs.CellOrder.{length-dealt}
use Rattle.plan_model.proofs.ProperByCounts.{proper_is_counted}
use Rattle.vector_lines.specs.Layouts.{layout_cells}
use Rattle.vector_lines.specs.declared.layout.Layout.{Layout}
use Rattle.plan_model.proofs.OperationCounts.{ops_length}
use Rattle.plan_model.proofs.Greatest.{le-greatest}
use Rattle.plan_model.proofs.Lists.{from_filter}
use Rattle.plan_model.proofs.PlannedTests.{live_at, of_first_is, wrapped}
use Rattle.plan_model.proofs.ShortTests.{short_planned}
use Rattle.plan_model.specs.Right.{IsAt}
use Rattle.live_tests.specs.declared.placed.PlacedTest.{PlacedTest}
use Rattle.live_tests.specs.Placed.{bus_over, placed_of}
use Rattle.live_tests.specs.declared.wrapped.ModeWrapper.{ModeWrapper}
use Rattle.live_tests.specs.Wrapped.{IsModeWrapper}
use Rattle.plan_model.specs.declared.Wrapper.{Wrapper}
use Rattle.live_tests.proofs.BusWidths.{widths_are}
use Rattle.live_tests.proofs.Placing.{the_live, in_live}
use Rattle.vector_lines.specs.Made.{of_live}
use Rattle.vector_lines.specs.Places.{test_place}
use Rattle.vector_lines.specs.Paths.{IsPath}
use Rattle.plan_model.specs.Moments.{ArePhases, phase_ops}
use Rattle.vector_lines.specs.Lanes.{IsFilled, IsKeyed, IsRouted}
use Rattle.vector_lines.specs.Marks.{Keys, Marks}
use Rattle.vector_lines.specs.Building.{ArePaths}
use Rattle.vector_lines.specs.Placed.{inputs_of, lengths_of, IsPlacedLane, IsSelfLane, StandFor}
use Rattle.vector_lines.specs.declared.lane.Lane.{Lane}
use Rattle.vector_lines.specs.declared.path.Path.{Path}
use Rattle.common_lemmas.proofs.Lists.{slice_at, in_filter}

-- ---- the live test of a name

-- a number stands at one place
differ_tail : (n : ℕ) (ns : List ℕ) → AllDiffer (n ∷ ns) → AllDiffer ns
differ_tail n ns d p q k a b = let e = d (suc p) (suc q) k a b in omega arith

first_place : (ts : List Test) (q : ℕ) {t : Test} → AllDiffer (map (λ (t : Test). t.number) ts) → slice_get ts q ≡ Some t →
    position_or_len (λ (u : Test). nat_eq u.number t.number) ts ≡ q
first_place [] q d at = absurd cc
first_place (u ∷ ts) zero {t} d at =
    let same = same_Some _ _ at in
    rw (same, eq-eqb t.number t.number refl) refl
first_place (u ∷ ts) (suc q) {t} d at =
    let there : slice_get (map (λ (t : Test). t.number) ts) q ≡ Some t.number = slice_get-map (λ (t : Test). t.number) ts q ∙ rw at refl in
    let other : u.number ≢ t.number = λ e. omega (arith, d 0 (suc q) t.number (ap Some e) there) in
    rw (ne_eqb u.number t.number other) (ap (λ v. 1 + v) (first_place ts q (differ_tail u.number (map (λ (t : Test). t.number) ts) d) at) ∙ omega arith)

sound_module : {soc : SocValue} → IsSoundChip soc → (p : ℕ) {m : ModuleValue} → slice_get soc.modules p ≡ Some m → IsSoundModule m
sound_module {soc} sound p {m} at = subst IsSoundModule (get_or_from_slice_get soc.modules p m m at) (sound.modules p m (slice_get_within soc.modules p m at))

same_live : (y : LiveTest) (p : ℕ) (m : ModuleValue) (t : Test) → y.place ≡ p → y.core ≡ m → y.test ≡ t → y ≡ the_live p m t
same_live y p m t a b c = rw (← a, ← b, ← c) refl

-- the tests of a name are one
one_live : {soc : SocValue} → IsSoundChip soc → (p q : ℕ) {m : ModuleValue} {t : Test} → slice_get soc.modules p ≡ Some m →
    slice_get m.tests q ≡ Some t → (j : ℕ) {y : LiveTest} → slice_get (live_tests soc) j ≡ Some y →
    same_test (id_of y) (id_of (the_live p m t)) ≡ true → y ≡ the_live p m t
one_live {soc} sound p q {m} {t} at there j {y} here same =
    let names = and_parts (nat_eq y.core.number m.number) (nat_eq y.test.number t.number) same in
    let module_is = eqb-true y.core.number m.number names.0 in
    let test_is = eqb-true y.test.number t.number names.1 in
    let o = live_at soc.modules 0 j y here in
    let place = module-unique (IsKeyed-from_sound sound) o.up p y.core m o.module_at at module_is in
    let core = same_Some _ _ (sym o.module_at ∙ ap (slice_get soc.modules) place ∙ at) in
    let f = from_filter is_live y.core.tests o.n y.test o.test_at in
    let there' : slice_get m.tests f.0 ≡ Some y.test = subst (λ (m : ModuleValue). slice_get m.tests f.0 ≡ Some y.test) core f.1 in
    let number' : slice_get (map (λ (t : Test). t.number) m.tests) f.0 ≡ Some t.number = slice_get-map (λ (t : Test). t.number) m.tests f.0 ∙ rw there' (ap Some test_is) in
    let number : slice_get (map (λ (t : Test). t.number) m.tests) q ≡ Some t.number = slice_get-map (λ (t : Test). t.number) m.tests q ∙ rw there refl in
    let q_is : f.0 ≡ q = (sound_module sound p at).tests_differ f.0 q t.number number' number in
    let test = same_Some _ _ (sym there' ∙ ap (slice_get m.tests) q_is ∙ there) in
    same_live y p m t (let e = o.place_is in omega arith) core test

itself : (id : TestId) → same_test id id ≡ true
itself id = rw (eq-eqb id.module id.module refl, eq-eqb id.test id.test refl) refl

pub of_the_live : (soc : SocValue) → IsSoundChip soc → (p q : ℕ) (m : ModuleValue) (t : Test) → slice_get soc.modules p ≡ Some m → slice_get m.tests q ≡ Some t → is_live t ≡ true → (f : LiveTest → Bool) →
    of_live soc (id_of (the_live p m t)) f ≡ f (the_live p m t)
of_the_live soc sound p q m t at there live f =
    let n = in_filter is_live m.tests q t there live in
    let i = in_live soc.modules 0 p n.0 p m t (omega arith) at n.1 in
    let here = i.1 in
    let r = of_first_is (λ (l : LiveTest). same_test (id_of l) (id_of (the_live p m t))) f false (live_tests soc) i.0 (the_live p m t) here (itself (id_of (the_live p m t))) in
    r.4 ∙ ap f (one_live sound p q at there r.0 r.2 r.3)

-- what the live tests say of the name of one of them
pub live_content : {soc : SocValue} → IsSoundChip soc → (i : ℕ) {l : LiveTest} → slice_get (live_tests soc) i ≡ Some l → (f : LiveTest → Bool) →
    of_live soc (id_of l) f ≡ f l
live_content {soc} sound i {l} at f =
    let o = live_at soc.modules 0 i l at in
    let g = from_filter is_live l.core.tests o.n l.test o.test_at in
    let same : l ≡ the_live o.up l.core l.test = same_live l o.up l.core l.test (let e : l.place ≡ 0 + o.up = o.place_is in omega arith) refl refl in
    of_the_live soc sound o.up g.0 l.core l.test o.module_at g.1 g.2 f ∙ ap f (sym same)

-- ---- the fields of a planned test

record PlannedIs (plan : PlanValue) (p : ℕ) (m : ModuleValue) (t : Test) (u : PlannedTest) : Type 0 where
  pub id : u.id ≡ id_of (the_live p m t)
  pub place : u.place ≡ p
  pub tam : u.tam ≡ t.tam
  pub bus : u.bus ≡ bus_place m.number 0 plan.buses
  pub first_wire : u.first_wire ≡ sum (take (bus_place m.number 0 plan.buses) (widths plan))
  pub width : u.width ≡ slice_index (widths plan) (bus_place m.number 0 plan.buses)
  pub chains : u.chains ≡ chains_of plan m t
  pub operations : u.operations ≡ operations_of m t (chains_of plan m t)

planned_is : (plan : PlanValue) (p : ℕ) (m : ModuleValue) (t : Test) → PlannedIs plan p m t (planned_test plan p m t)
unfolding planned_test
planned_is plan p m t = record { id = refl; place = refl; tam = refl; bus = refl; first_wire = refl; width = refl; chains = refl; operations = refl }

-- ---- self tests

over_none : (tam : Bool) (bus : ℕ) → bus_over tam bus ≡ None → tam ≡ false
over_none true bus e = cc
over_none false bus e = refl

over_some : (tam : Bool) (bus : ℕ) {over : ℕ} → bus_over tam bus ≡ Some over → (tam ≡ true) × (bus ≡ over)
over_some true bus {over} e = (refl, same_Some bus over e)
over_some false bus e = absurd cc

self_new : (keys : Keys) (soc : SocValue) {plan : PlanValue} (i : ℕ) {live : LiveTest} {u : PlannedTest} {placed : PlacedTest} {l : Lane} →
    slice_get (live_tests soc) i ≡ Some live → u ≡ planned_test plan live.place live.core live.test →
    PlannedIs plan live.place live.core live.test u → placed ≡ placed_of u → placed.bus ≡ None → IsSelfLane placed l → IsPlacedLane keys soc plan u l
self_new keys soc i {live} {u} there planned is same none lane =
    let self' = over_none u.tam u.bus (ap (λ (q : PlacedTest). q.bus) (sym same) ∙ none) in
    let self : live.test.tam ≡ false = sym is.tam ∙ self' in
    record {
      place = i;
      live = live;
      there = there;
      planned = planned;
      key = λ tam. absurd (true≢false (sym tam ∙ self'));
      none = λ _. lane.key;
      fitted = record {
        phases = lane.phases;
        tam = lane.tam ∙ sym self';
        start = lane.start_is ∙ ap (λ (q : PlacedTest). q.start) same;
        ends = lane.ends ∙ ap (λ (q : PlacedTest). q.end) same;
        wired = λ tam. absurd (true≢false (sym tam ∙ self'));
        alone = λ none. (lane.none, ap length is.chains ∙ rw self refl);
      };
    }

-- ---- tests over the wires

-- the lane of a test over the wires of a bus; `at` is its place in its module
pub record IsWiredLane (keys : Keys) (plan : PlanValue) (place bus at : ℕ) (placed : PlacedTest) (m : ModuleValue) (test : Test) (l : Lane) : Type 0 where
  pub tam : l.tam ≡ true
  pub key : l.key ≡ keys place at (id_of (the_live place m test))
  pub start_is : l.start ≡ placed.start
  pub ends : l.end ≡ placed.end
  pub setup : l.phases.setup ≡ m.setup
  pub si : l.phases.si ≡ si_of (chains_of plan m test)
  pub so : l.phases.so ≡ so_of (chains_of plan m test)
  pub patterns : l.phases.patterns ≡ test.patterns
  pub first_wire : l.first_wire ≡ sum (take bus (widths plan))
  pub width : l.width ≡ slice_index (widths plan) bus
  pub paths : ArePaths (m.inputs + m.bidirs) (scan_lengths m test.scan) (chains_of plan m test) (length (chains_of plan m test)) l.paths.items

long_ops : (setup si so p n : ℕ) → 1 ≤ p → setup + (1 + max si so) * p + min si so ≤ n → (p ≤ n) × (setup + (1 + max si so) ≤ n)
long_ops setup si so zero n some h = absurd (omega arith)
long_ops setup si so (suc p) n some h = (omega arith, omega arith)

wired_new : {keys : Keys} {soc : SocValue} (sound : IsSoundChip soc) {plan : PlanValue} {p q : ℕ} (i : ℕ) {m : ModuleValue} {t : Test}
    {u : PlannedTest} {placed : PlacedTest} {over : ℕ} {l : Lane} → slice_get soc.modules p ≡ Some m → slice_get m.tests q ≡ Some t →
    is_live t ≡ true → slice_get (live_tests soc) i ≡ Some (the_live p m t) → length (operations_of m t (chains_of plan m t)) ≤ 10 ^ 18 →
    u ≡ planned_test plan p m t → PlannedIs plan p m t u → placed ≡ placed_of u → placed.bus ≡ Some over →
    IsWiredLane keys plan p over q placed m t l → IsPlacedLane keys soc plan u l
wired_new {keys} sound {plan} {p} {q} i {m} {t} {u} {over} {l} at there live here fits planned is same on lane = record {
  place = i;
  live = the_live p m t;
  there = here;
  planned = planned;
  key = λ _. lane.key ∙ ap (λ n. keys p n (id_of (the_live p m t))) (sym (first_place m.tests q (sound_module sound p at).tests_differ there));
  none = λ none. absurd (true≢false (sym (is.tam ∙ tam) ∙ none));
  fitted = record {
    phases = phases;
    tam = lane.tam ∙ sym (is.tam ∙ tam);
    start = lane.start_is ∙ ap (λ (q : PlacedTest). q.start) same;
    ends = lane.ends ∙ ap (λ (q : PlacedTest). q.end) same;
    wired = λ _. wired;
    alone = λ none. absurd (true≢false (sym (is.tam ∙ tam) ∙ none));
  };
}
  where
    over_it : (u.tam ≡ true) × (u.bus ≡ over)
    over_it = over_some u.tam u.bus (ap (λ (q : PlacedTest). q.bus) (sym same) ∙ on)

    tam : t.tam ≡ true
    tam = sym is.tam ∙ over_it.0

    bus : over ≡ bus_place m.number 0 plan.buses
    bus = sym over_it.1 ∙ is.bus

    some : 1 ≤ t.patterns
    some = leb-true 1 t.patterns live

    ops : ops_of m.setup (si_of (chains_of plan m t)) (so_of (chains_of plan m t)) t.patterns ≡ phase_ops l.phases
    ops = rw (lane.setup, lane.si, lane.so, lane.patterns) refl

    of_test : operations_of m t (chains_of plan m t) ≡ ops_of m.setup (si_of (chains_of plan m t)) (so_of (chains_of plan m t)) t.patterns
    of_test = rw tam refl

    short : l.phases.setup + (1 + max l.phases.si l.phases.so) * l.phases.patterns + min l.phases.si l.phases.so ≤ 10 ^ 18
    short =
        let long = ops_length l.phases.setup l.phases.si l.phases.so l.phases.patterns (rw lane.patterns some) in
        let few = fits in
        let same : length (operations_of m t (chains_of plan m t)) ≡ length (phase_ops l.phases) = ap length (of_test ∙ ops) in
        omega arith

    phases : ArePhases l.phases
    phases =
        let some' : 1 ≤ l.phases.patterns = rw lane.patterns some in
        let parts = long_ops l.phases.setup l.phases.si l.phases.so l.phases.patterns (10 ^ 18) some' short in
        record { some = some'; few = parts.0; fit = let wide = parts.1 in omega arith }

    chain : (j : ℕ) → chain_at u j ≡ get_or (chains_of plan m t) j []
    chain j = ap (λ (c : List (List Cell)). get_or c j []) is.chains

    wired : IsRouted (m.inputs + m.bidirs) (scan_lengths m t.scan) u l
    wired = record {
      operations = is.operations ∙ of_test ∙ ops;
      out_fits = λ j. rw (chain j, lane.so) (le-greatest out_length [] refl (chains_of plan m t) j);
      first_wire = lane.first_wire ∙ ap (λ b. sum (take b (widths plan))) bus ∙ sym is.first_wire;
      width = lane.width ∙ ap (slice_index (widths plan)) bus ∙ sym is.width;
      chains = lane.paths.long ∙ sym (ap length is.chains);
      path = λ j r at'. rw (chain j) (lane.paths.each j r at');
    }

-- ---- what is looked up

module _ {plan : PlanValue} {m : ModuleValue} {scan : Bool} {long : ModeWrapper} (ws : List Wrapper) (are : plan.wrappers ≡ map wrapper_value ws)
    (is : IsModeWrapper plan m scan long) where
  pub wrapper_within : long.place < length ws
  wrapper_within = omega (arith, slice_get_within plan.wrappers long.place is.wrapper is.at, ap (λ (vs : List WrapperValue). length vs) are, length-map ws wrapper_value)

  -- the wrapper that was found, walked once
  pub found_wrapper : {w : Wrapper} → w ≡ get_or ws long.place w → is.wrapper ≡ wrapper_value w
  found_wrapper {w} at =
      same_Some is.wrapper (wrapper_value w)
      (sym is.at ∙ ap (λ (vs : List WrapperValue). slice_get vs long.place) are ∙ slice_get-map wrapper_value ws long.place ∙ ap (option_map wrapper_value) (slice_at ws long.place w wrapper_within at))

module _ {plan : PlanValue} {m : ModuleValue} (t : Test) {long : ModeWrapper} (tam : t.tam ≡ true) (is : IsModeWrapper plan m t.scan long) where
  -- the cells of its chains
  pub mode_cells : chains_of plan m t ≡ chain_cells m t.scan is.wrapper.chains
  mode_cells = rw (tam, is.first) refl

  -- the chains of a test are those of its wrapper
  pub own_paths : (w : Wrapper) {paths : List Path} → is.wrapper ≡ wrapper_value w →
      ArePaths (m.inputs + m.bidirs) (scan_lengths m w.scan) (chain_cells m w.scan (map chain_value w.chains.items)) (length w.chains.items) paths →
      ArePaths (m.inputs + m.bidirs) (scan_lengths m t.scan) (chains_of plan m t) (length (chains_of plan m t)) paths
  own_paths w same made =
      let mode : w.scan ≡ t.scan = ap (λ (v : WrapperValue). v.scan) (sym same) ∙ is.mode in
      let cells : chain_cells m w.scan (map chain_value w.chains.items) ≡ chains_of plan m t =
      ap (λ (v : WrapperValue). chain_cells m v.scan v.chains) (sym same) ∙ ap (λ scan. chain_cells m scan is.wrapper.chains) is.mode ∙ sym mode_cells in
      let many : length w.chains.items ≡ length (chains_of plan m t) = sym (length-map w.chains.items chain_value) ∙ sym (length-dealt (scan_lengths m w.scan) 0 0 (map chain_value w.chains.items)) ∙ ap length cells in
      record {
        long = made.long ∙ many;
        each = λ j p at. subst (λ (v : List (List Cell)). IsPath (m.inputs + m.bidirs) (scan_lengths m t.scan) (get_or v j []) p) cells
            (subst (λ scan. IsPath (m.inputs + m.bidirs) (scan_lengths m scan) (get_or (chain_cells m w.scan (map chain_value w.chains.items)) j []) p) mode (made.each j p at));
      }

-- the chains of a layout are those of its wrapper
pub layout_paths : {n : ℕ} {lengths : List ℕ} (ws : List ChainPlan) (layout : Layout) {paths : List Path} → layout.lengths.items ≡ lengths →
    map chain_value layout.chains.items ≡ map chain_value ws →
    ArePaths n layout.lengths.items (layout_cells layout) (length layout.chains.items) paths →
    ArePaths n lengths (dealt lengths 0 0 (map chain_value ws)) (length ws) paths
layout_paths {n} {lengths} ws layout same chains made = record {
  long = made.long ∙ sym (length-map layout.chains.items chain_value) ∙ ap (λ (cs : List ChainValue). length cs) chains ∙ length-map ws chain_value;
  each = λ j p at.
      subst (λ (cs : List ChainValue). IsPath n lengths (get_or (dealt lengths 0 0 cs) j []) p) chains (subst (λ (ls : List ℕ). IsPath n ls (get_or (dealt ls 0 0 (map chain_value layout.chains.items)) j []) p) same (made.each j p at));
}

-- the chains of a layout take as many terminals as the module has
pub terminals : {m : ModuleValue} {scan : Bool} {cs : List ChainValue} (chains : List ChainPlan) → IsProper m scan cs → map chain_value chains ≡ cs →
    (sum_by (λ (c : ChainPlan). c.ins) chains ≡ m.inputs + m.bidirs) × (sum_by (λ (c : ChainPlan). c.outs) chains ≡ m.outputs + m.bidirs)
terminals {m} {scan} chains proper are =
    let counted = proper_is_counted m scan chains (subst (IsProper m scan) (sym are) proper) in
    (counted.ins, counted.outs)

-- ---- the lane of a planned test

module _ (p : ℕ) (m : ModuleValue) (t : Test) where
  -- a test over the wires of a bus
  pub over_wires : (plan : PlanValue) {placed : PlacedTest} {over : ℕ} → placed ≡ placed_of (planned_test plan p m t) → placed.bus ≡ Some over →
      (t.tam ≡ true) × (over ≡ bus_place m.number 0 plan.buses)
  over_wires plan same on =
      let u = planned_test plan p m t in
      let o = over_some u.tam u.bus (ap (λ (q : PlacedTest). q.bus) (sym same) ∙ on) in
      let is = planned_is plan p m t in
      (sym is.tam ∙ o.0, sym o.1 ∙ is.bus)

  -- a live test is one of the chip's, and is planned
  live_there : (soc : SocValue) (q : ℕ) → slice_get soc.modules p ≡ Some m → slice_get m.tests q ≡ Some t → is_live t ≡ true →
      (i : ℕ) × (slice_get (live_tests soc) i ≡ Some (the_live p m t))
  live_there soc q at there live =
      let n = in_filter is_live m.tests q t there live in
      let i = in_live soc.modules 0 p n.0 p m t (omega arith) at n.1 in
      (i.0, i.1)

  planned_there : (soc : SocValue) (plan : PlanValue) (i : ℕ) → slice_get (live_tests soc) i ≡ Some (the_live p m t) →
      IsAt (planned soc plan) i (planned_test plan p m t)
  unfolding planned
  planned_there soc plan i here =
      slice_get-map (λ (l : LiveTest). planned_test plan l.place l.core l.test) (live_tests soc) i ∙ ap (option_map (λ (l : LiveTest). planned_test plan l.place l.core l.test)) here

module _ (soc : SocValue) (plan : PlanValue) (p q : ℕ) {m : ModuleValue} {t : Test} (at : slice_get soc.modules p ≡ Some m)
    (there : slice_get m.tests q ≡ Some t) (live : is_live t ≡ true) where
  module _ (keys : Keys) {placed : PlacedTest} (l : Lane) (same : placed ≡ placed_of (planned_test plan p m t)) where
    pub self_placed : placed.bus ≡ None → IsSelfLane placed l → IsPlacedLane keys soc plan (planned_test plan p m t) l
    self_placed none lane =
        let i = live_there p m t soc q at there live in
        self_new keys soc i.0 i.1 refl (planned_is plan p m t) same none lane

    pub wired_placed : (sound : IsSoundChip soc) (limits : LimitsValue) → IsGood soc limits plan → {over : ℕ} → placed.bus ≡ Some over →
        IsWiredLane keys plan p over q placed m t l → IsPlacedLane keys soc plan (planned_test plan p m t) l
    wired_placed sound limits good on lane =
        wired_new sound i.0 at there live i.1 short refl is same on lane
      where
        is : PlannedIs plan p m t (planned_test plan p m t)
        is = planned_is plan p m t

        i : (i : ℕ) × (slice_get (live_tests soc) i ≡ Some (the_live p m t))
        i = live_there p m t soc q at there live

        short : length (operations_of m t (chains_of plan m t)) ≤ 10 ^ 18
        short = omega (arith, ap length is.operations, short_planned soc limits plan i.0 (planned_test plan p m t) sound.size good (planned_there p m t soc plan i.0 i.1))

  -- the bus of a test over the wires is one of the plan's
  pub bus_there : (limits : LimitsValue) → IsGood soc limits plan → t.tam ≡ true → bus_place m.number 0 plan.buses < length plan.buses
  bus_there limits good tam =
      let n = in_filter is_live m.tests q t there live in
      let w = wrapped soc limits plan good p n.0 m t at n.1 tam in
      let fits = ((good Wrappers).0 w.n w.w w.at) in
      let some = fits.some_chain in
      let on : length (w.w).chains ≤ slice_index (widths plan) (bus_place m.number 0 plan.buses) = rw w.module_is at fits.on_wires in
      go (cases_lt (bus_place m.number 0 plan.buses) (length plan.buses)) some on
    where
      many : length (widths plan) ≡ length plan.buses
      many = length-map plan.buses _

      go : {n : ℕ} → (bus_place m.number 0 plan.buses < length plan.buses) ⊎ (length plan.buses ≤ bus_place m.number 0 plan.buses) → 1 ≤ n → n ≤ slice_index (widths plan) (bus_place m.number 0 plan.buses) →
          bus_place m.number 0 plan.buses < length plan.buses
      go (inl less) some on = less
      go (inr past) some on = let none = get_or_past (widths plan) (bus_place m.number 0 plan.buses) 0 (omega (arith, many)) in absurd (omega arith)

pub width_is : (buses : List Bus) (bus : ℕ) {b : Bus} → b ≡ get_or buses bus b → bus < length buses →
    b.width ≡ slice_index (map (λ (b : BusValue). b.width) (map bus_value buses)) bus
width_is buses bus {b} at within = ap (λ (b : Bus). b.width) at ∙ sym (get_or-map (λ (b : Bus). b.width) buses bus b 0 within) ∙ rw (widths_are buses) refl

-- ---- lanes with contents

module _ {keys : Keys} {soc : SocValue} {plan : PlanValue} {t : PlannedTest} {l : Lane} (is : IsPlacedLane keys soc plan t l) where
  -- the name of the test of a lane
  pub placed_id : t.id ≡ id_of is.live
  placed_id = (subst (PlannedIs plan is.live.place is.live.core is.live.test) (sym is.planned) (planned_is plan is.live.place is.live.core is.live.test)).id

  module _ {drive : ℕ → ℕ → ℕ → Bool} {mark : ℕ → ℕ → ℕ → ℕ} {content : Content} {marks : Marks} (stand : StandFor keys drive mark soc content marks) where
    -- what a lane is filled with by contents that stand for the tests of the chip
    filled : PlannedIs plan is.live.place is.live.core is.live.test t → IsFilled drive mark content marks t l
    filled planned = record {
      inputs = inputs_of is.live;
      lengths = lengths_of is.live;
      fitted = is.fitted;
      stimulus = λ tam. rw (planned.id, is.key tam) (fun_ext (λ k. fun_ext (λ x. stand.stimulus is.place is.live is.there (sym planned.tam ∙ tam) k x)));
      answers = λ tam. rw (planned.id, is.key tam) (fun_ext (λ k. fun_ext (λ x. stand.answers is.place is.live is.there (sym planned.tam ∙ tam) k x)));
    }

    pub filled_lane : IsFilled drive mark content marks t l
    filled_lane =
        filled (subst (PlannedIs plan is.live.place is.live.core is.live.test) (sym is.planned) (planned_is plan is.live.place is.live.core is.live.test))

  -- its test is known by its key
  pub keyed_lane : IsKeyed keys t l
  keyed_lane = record {
    inputs = inputs_of is.live;
    lengths = lengths_of is.live;
    fitted = is.fitted;
    key = λ tam. record { place = is.live.place; at = test_place is.live; id = id_of is.live; is = is.key (sym is.fitted.tam ∙ tam) };
  }
