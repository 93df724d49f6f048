-- What is found at a cycle on a wire is what is read there, and where nothing is found nothing is read.
use Rattle.std.proofs.Common.{◌≡◌, ℕ, zero, suc, ◌+◌, ◌-◌, ◌*◌, ◌≤◌, ◌<◌, ◌⊎◌, inl, inr, max, min, true, false, Option, Some, None, List, [], length, get_or, map, take, option_map, refl, ap, sym, subst, ◌∙◌, arith, slice_get, slice_index, sum}
use Rattle.std.specs.List.Sorted.{IsNonDecreasing}
use Rattle.std.proofs.lemmas.Bool.{cases_lt}
use Rattle.std.proofs.lemmas.List.{get_or_past, take-take}
use Rattle.std.proofs.lemmas.List.Sorted.{IsNonDecreasingBy-from_default}
use Rattle.std.proofs.lemmas.List.Sums.{sum_by_more, sum_by-take-le}
use Rattle.std.proofs.lemmas.Option.{slice_get_within, slice_get-get_or, get_or_from_slice_get, same_Some}
use Rattle.soc_model.specs.declared.TestId.{TestId}
use Rattle.soc_model.specs.Chips.{ModuleValue, SocValue}
use Rattle.plan_model.specs.declared.moments.Phases.{Phases}
use Rattle.plan_model.specs.declared.moments.NearCapture.{NearCapture}
use Rattle.plan_model.specs.Cells.{chain_cells, out_length}
use Rattle.plan_model.specs.declared.moments.Moment.{Moment}
use Rattle.plan_model.specs.declared.Wrapper.{Wrapper}
use Rattle.plan_model.specs.Moments.{ArePhases, IsMoment, moment_behind, phase_ops, near_capture}
use Rattle.plan_model.specs.Operations.{Shift, Capture, ops_of}
use Rattle.plan_model.specs.Plans.{WrapperValue, PlanValue, PlannedTest, planned, uses, widths}
use Rattle.plan_model.specs.Right.{IsAt, IsReadAt, IsRight}
use Rattle.plan_model.specs.Rules.{IsGoodAlone, bare_limits}
use Rattle.plan_model.specs.Runs.{Content, chain_at, operation_at}
use Rattle.plan_model.specs.Views.{chain_value, wrapper_value}
use Rattle.plan_model.proofs.ChainsInTheRun.{AreApart, uses_wire}
use Rattle.plan_model.proofs.GoodPlansRunRight.{every_good_plan_is_right}
use Rattle.plan_model.proofs.LoadsAndReads.{at_start_plus, begun_at, chain_is}
use Rattle.plan_model.proofs.OperationCounts.{ops_length}
use Rattle.plan_model.proofs.TestsInGoodPlans.{OnBus, on_bus, apart}
use Rattle.live_tests.specs.Wires.{AreFirstWires}
use Rattle.fail_locate.specs.declared.Cell.{Cell}
use Rattle.fail_locate.specs.declared.Cell.TheVariants.{Flop, Out}
use Rattle.fail_locate.specs.declared.Spot.{Spot}
use Rattle.fail_locate.specs.declared.wired.WiredTest.{WiredTest}
use Rattle.fail_locate.specs.Chains.{IsFromEnd, cells_at}
use Rattle.fail_locate.specs.Laws.{SpotsAreOne}
use Rattle.fail_locate.specs.Locating.{IsBehind, IsLast, IsLocator, IsOnWire, IsNearCapture}
use Rattle.fail_locate.specs.Spots.{IsNoSpot, IsSpot, cell_value}
use Rattle.fail_locate.specs.Wired.{IsKept, IsPlanned, IsWired}
use Rattle.common_lemmas.proofs.Lists.{from_map}
use Rattle.plan_model.specs.Cells as cells

-- ---- first wires

firsts_rise : (widths : List ℕ) (i j : ℕ) → i ≤ j → sum (take i widths) ≤ sum (take j widths)
firsts_rise widths i j h =
    let front : take i (take j widths) ≡ take i widths = take-take i j widths h in
    subst (λ xs. sum xs ≤ sum (take j widths)) front (sum_by-take-le (λ x. x) (take j widths) i)

pub in_order : (widths firsts : List ℕ) → AreFirstWires widths firsts → IsNonDecreasing firsts
in_order widths firsts are = IsNonDecreasingBy-from_default (λ x. x) firsts 0 (λ i j h within.
    let long : length firsts ≡ length widths + 1 = are.long in
    let low : get_or firsts i 0 ≡ sum (take i widths) = are.first i (omega arith) in
    let high : get_or firsts j 0 ≡ sum (take j widths) = are.first j (omega arith) in
    let rise : sum (take i widths) ≤ sum (take j widths) = firsts_rise widths i j h in
    omega arith)

-- a wire of a bus is before each later bus
before_later : (widths : List ℕ) (b b' x : ℕ) → b < b' → sum (take b' widths) ≤ x → x < sum (take b widths) + slice_index widths b → ⊥
before_later widths b b' x less low high = elim (cases_lt b (length widths)) [
  | inl within ↦
      let more : sum (take (b + 1) widths) ≡ sum (take b widths) + get_or widths b 0 = sum_by_more (λ x. x) widths b 0 within in
      let rise : sum (take (b + 1) widths) ≤ sum (take b' widths) = firsts_rise widths (b + 1) b' (omega arith) in
      omega arith
  | inr past ↦
      let none : get_or widths b 0 ≡ 0 = get_or_past widths b 0 past in
      let rise : sum (take b widths) ≤ sum (take b' widths) = firsts_rise widths b b' (omega arith) in
      omega arith
]

-- ---- a read of a good plan

pub no_bits : Content
no_bits = record { initial = λ id x. false; stimulus = λ id k x. false; response = λ id k x. false }

-- what a read says of its test
record Reading (plan : PlanValue) (u : PlannedTest) (k : ℕ) (x : cells.Cell) (c w : ℕ) (read : IsReadAt u k x c w) : Type 0 where
  pub tam : u.tam ≡ true
  pub begun : u.start ≤ c
  pub going : c - u.start < length u.operations
  pub capture_begun : u.start ≤ read.capture
  pub captures : slice_get u.operations (read.capture - u.start) ≡ Some (Capture k)
  pub wide : read.chain < u.width
  pub bus_there : u.bus < length (widths plan)
  pub first : u.first_wire ≡ sum (take u.bus (widths plan))
  pub width : u.width ≡ slice_index (widths plan) u.bus

reading : (soc : SocValue) (plan : PlanValue) → IsGoodAlone soc plan → (i k c w : ℕ) (u : PlannedTest) (x : cells.Cell) → IsAt (planned soc plan) i u → (read : IsReadAt u k x c w) → Reading plan u k x c w read
reading soc plan good i k c w u x at read =
    let right : IsRight soc (bare_limits plan) plan no_bits = every_good_plan_is_right soc (bare_limits plan) plan no_bits good in
    let stand : AreApart (planned soc plan) = apart soc (bare_limits plan) plan good in
    let shift : operation_at u c ≡ Some Shift = right.reads.all_shifts i u k x c w at read c (omega (arith, read.cycle)) (omega arith) in
    let b = begun_at u c Shift shift in
    let s = begun_at u read.capture (Capture k) read.captures in
    let chain : read.chain < length u.chains = slice_get_within u.chains read.chain read.cells read.there in
    let fit : length u.chains ≤ u.width = stand.fit i u at in
    let on : OnBus plan u = on_bus soc plan i u at in
    let wide : read.chain < u.width = omega arith in
    record {
      tam = stand.tam i read.chain u at chain;
      begun = b.0;
      going = slice_get_within u.operations (c - u.start) Shift b.1;
      capture_begun = s.0;
      captures = s.1;
      wide = wide;
      bus_there = there u.width (slice_index (widths plan) u.bus) on.wide (omega arith) (cases_lt u.bus (length (widths plan)));
      first = on.first;
      width = on.wide;
    }
  where
    there : (n m : ℕ) → n ≡ m → 1 ≤ n → (u.bus < length (widths plan)) ⊎ (length (widths plan) ≤ u.bus) → u.bus < length (widths plan)
    there n m same some (inl less) = less
    there n m same some (inr past) = absurd (some_wire (get_or_past (widths plan) u.bus 0 past))
      where
        some_wire : slice_index (widths plan) u.bus ≡ 0 → ⊥
        some_wire none = let on : OnBus plan u = on_bus soc plan i u at in let stand : AreApart (planned soc plan) = apart soc (bare_limits plan) plan good in let fit : length u.chains ≤ u.width = stand.fit i u at in let chain : read.chain < length u.chains = slice_get_within u.chains read.chain read.cells read.there in let wide = on.wide in omega arith

-- ---- the bus of a read

first_at : (soc : SocValue) (plan : PlanValue) (firsts : List ℕ) (tests : List WiredTest) → IsLocator soc plan firsts tests → (b : ℕ) → b < length firsts → slice_index firsts b ≡ sum (take b (widths plan))
first_at soc plan firsts tests l b h =
    let long : length firsts ≡ length (widths plan) + 1 = l.firsts_are.long in
    l.firsts_are.first b (omega arith)

pub on_no_bus : (soc : SocValue) (plan : PlanValue) (firsts : List ℕ) (tests : List WiredTest) → IsLocator soc plan firsts tests → (cycle wire : ℕ) → ((b : ℕ) → b < length firsts → wire < slice_index firsts b) → IsNoSpot soc plan cycle wire
on_no_bus soc plan firsts tests l cycle wire none i k u x at read =
    let r : Reading plan u k x cycle wire read = reading soc plan l.good i k cycle wire u x at read in
    let long : length firsts ≡ length (widths plan) + 1 = l.firsts_are.long in
    let within : u.bus < length firsts = let there = r.bus_there in omega arith in
    let first = first_at soc plan firsts tests l u.bus within in
    let before = none u.bus within in
    omega (arith, first, before, r.first, read.wire)

-- a read is on the bus that is found
record OnFound (u : PlannedTest) (bus chain place : ℕ) : Type 0 where
  pub bus_is : bus ≡ u.bus
  pub chain_is : chain ≡ place

on_found : (soc : SocValue) (plan : PlanValue) (firsts : List ℕ) (tests : List WiredTest) → IsLocator soc plan firsts tests → (i k c w bus chain : ℕ) (u : PlannedTest) (x : cells.Cell) → IsAt (planned soc plan) i u → (read : IsReadAt u k x c w) → IsOnWire firsts w bus chain → OnFound u bus chain read.chain
on_found soc plan firsts tests l i k c w bus chain u x at read on =
    let r : Reading plan u k x c w read = reading soc plan l.good i k c w u x at read in
    let long : length firsts ≡ length (widths plan) + 1 = l.firsts_are.long in
    let within : u.bus < length firsts = let there = r.bus_there in omega arith in
    let first : slice_index firsts u.bus ≡ sum (take u.bus (widths plan)) = first_at soc plan firsts tests l u.bus within in
    let begins : slice_index firsts bus ≡ sum (take bus (widths plan)) = first_at soc plan firsts tests l bus on.bus_there in
    let low : u.bus ≤ bus = on.last u.bus within (omega (arith, first, r.first, read.wire)) in
    let same : bus ≡ u.bus = equal low (cases_lt u.bus bus) (omega (arith, begins, on.wire_is)) (omega (arith, r.wide, r.width, r.first, read.wire)) in
    let both : slice_index firsts bus ≡ slice_index firsts u.bus = ap (slice_index firsts) same in
    record { bus_is = same; chain_is = omega (arith, both, on.wire_is, read.wire, r.first, first) }
  where
    equal : u.bus ≤ bus → (u.bus < bus) ⊎ (bus ≤ u.bus) → sum (take bus (widths plan)) ≤ w → w < sum (take u.bus (widths plan)) + slice_index (widths plan) u.bus → bus ≡ u.bus
    equal low (inl less) starts ends = absurd (before_later (widths plan) u.bus bus w less starts ends)
    equal low (inr high) starts ends = omega arith

-- ---- the test of a read

pub none_begun : (soc : SocValue) (plan : PlanValue) (firsts : List ℕ) (tests : List WiredTest) → IsLocator soc plan firsts tests → (cycle wire bus chain : ℕ) → IsOnWire firsts wire bus chain → ((n : ℕ) (t : WiredTest) → slice_get tests n ≡ Some t → t.bus ≡ bus → t.start ≤ cycle → ⊥) → IsNoSpot soc plan cycle wire
none_begun soc plan firsts tests l cycle wire bus chain on none i k u x at read =
    let r : Reading plan u k x cycle wire read = reading soc plan l.good i k cycle wire u x at read in
    let found : OnFound u bus chain read.chain = on_found soc plan firsts tests l i k cycle wire bus chain u x at read on in
    let kept : IsKept tests u = l.wired.kept i u at r.tam in
    none kept.place kept.test kept.at (kept.bus ∙ sym found.bus_is) (omega (arith, kept.start, r.begun))

ops_some : (p : Phases) → ArePhases p → 1 ≤ length (phase_ops p)
ops_some p are = go p.patterns refl are.some where
  go : (n : ℕ) → n ≡ p.patterns → 1 ≤ n → 1 ≤ length (phase_ops p)
  go zero is some = absurd (omega arith)
  go (suc n) is some =
      let long : length (ops_of p.setup p.si p.so p.patterns) ≡ p.setup + (1 + max p.si p.so) * p.patterns + min p.si p.so = ops_length p.setup p.si p.so p.patterns (omega arith) in
      let product : (1 + max p.si p.so) * suc n ≡ suc n + max p.si p.so * suc n = omega arith in
      let same : (1 + max p.si p.so) * suc n ≡ (1 + max p.si p.so) * p.patterns = ap (λ n. (1 + max p.si p.so) * n) is in
      omega arith

-- it is the last one of its bus that has begun
same_test : (soc : SocValue) (plan : PlanValue) (firsts : List ℕ) (tests : List WiredTest) → IsLocator soc plan firsts tests → (i k c w bus chain : ℕ) (u : PlannedTest) (x : cells.Cell) → IsAt (planned soc plan) i u → (read : IsReadAt u k x c w) → IsOnWire firsts w bus chain → (t : WiredTest) → IsLast tests bus c t → IsWired soc plan u t
same_test soc plan firsts tests l i k c w bus chain u x at read on t last =
    let r : Reading plan u k x c w read = reading soc plan l.good i k c w u x at read in
    let found : OnFound u bus chain read.chain = on_found soc plan firsts tests l i k c w bus chain u x at read on in
    let kept : IsKept tests u = l.wired.kept i u at r.tam in
    let later : kept.test.start ≤ t.start = last.latest kept.place kept.test kept.at (kept.bus ∙ sym found.bus_is) (omega (arith, kept.start, r.begun)) in
    let p : IsPlanned soc plan (planned soc plan) t = l.wired.planned last.place t last.at in
    let v : IsWired soc plan p.test t = p.wired in
    let bus_is : p.test.bus ≡ u.bus = sym v.bus ∙ last.same_bus ∙ found.bus_is in
    let on' : OnBus plan p.test = on_bus soc plan p.place p.test p.at in
    let first : p.test.first_wire ≡ u.first_wire = on'.first ∙ ap (λ b. sum (take b (widths plan))) bus_is ∙ sym r.first in
    let wide : p.test.width ≡ u.width = on'.wide ∙ ap (slice_index (widths plan)) bus_is ∙ sym r.width in
    let long : length p.test.operations ≡ length (phase_ops t.phases) = ap length v.operations in
    let some : 1 ≤ length (phase_ops t.phases) = ops_some t.phases v.phases in
    let starts : t.start ≡ p.test.start = v.start in
    let here : uses t.start (u.first_wire + 0) u ≡ true = uses_wire u t.start 0 r.tam (omega (arith, kept.start, later)) (omega (arith, last.begun, r.going, r.begun)) (omega (arith, r.wide)) in
    let there : uses t.start (p.test.first_wire + 0) p.test ≡ true = uses_wire p.test t.start 0 v.tam (omega arith) (omega arith) (omega (arith, r.wide)) in
    let there' : uses t.start (u.first_wire + 0) p.test ≡ true = subst (λ n. uses t.start (n + 0) p.test ≡ true) first there in
    let stand : AreApart (planned soc plan) = apart soc (bare_limits plan) plan l.good in
    let same : p.place ≡ i = stand.alone t.start (u.first_wire + 0) i p.place u p.test at p.at here there' in
    let one : p.test ≡ u = same_Some p.test u (sym p.at ∙ ap (slice_get (planned soc plan)) same ∙ at) in
    subst (λ q. IsWired soc plan q t) one v

-- ---- the capture and the cell of a read

behind_read : (soc : SocValue) (plan : PlanValue) (u : PlannedTest) (k : ℕ) (x : cells.Cell) (c w : ℕ) (read : IsReadAt u k x c w) → Reading plan u k x c w read → (t : WiredTest) → IsWired soc plan u t → (near : Option NearCapture) → IsNearCapture t.phases (c - t.start) near → option_map near_capture near ≡ Some (read.shifts, k)
behind_read soc plan u k x c w read r t is near all_near =
    let start : t.start ≡ u.start = is.start in
    let b : IsBehind t.phases (c - t.start) read.shifts k = record { at = read.capture - u.start; captures = ap (λ ops. slice_get ops (read.capture - u.start)) (sym is.operations) ∙ r.captures; before = omega (arith, read.cycle, r.capture_begun) } in
    let long : length u.operations ≡ length (phase_ops t.phases) = ap length is.operations in
    let same : chain_at u read.chain ≡ read.cells = chain_is u read.chain read.cells read.there in
    let short : out_length read.cells ≤ t.phases.so = subst (λ cells. out_length cells ≤ t.phases.so) same (is.out_fits read.chain) in
    all_near.every read.shifts k b (omega (arith, r.going)) (omega (arith, read.within))

pub none_behind : (soc : SocValue) (plan : PlanValue) (firsts : List ℕ) (tests : List WiredTest) → IsLocator soc plan firsts tests → (cycle wire bus chain : ℕ) → IsOnWire firsts wire bus chain → (t : WiredTest) → IsLast tests bus cycle t → IsNearCapture t.phases (cycle - t.start) None → IsNoSpot soc plan cycle wire
none_behind soc plan firsts tests l cycle wire bus chain on t last all_near i k u x at read =
    let r : Reading plan u k x cycle wire read = reading soc plan l.good i k cycle wire u x at read in
    let is : IsWired soc plan u t = same_test soc plan firsts tests l i k cycle wire bus chain u x at read on t last in
    let wrong : option_map near_capture None ≡ Some (read.shifts, k) = behind_read soc plan u k x cycle wire read r t is None all_near in
    cc

shifts_are : (near : NearCapture) (s k : ℕ) → Some (near_capture near) ≡ Some (s, k) → near.shifts ≡ s
shifts_are near s k e = let pair : near_capture near ≡ (s, k) = same_Some (near_capture near) (s, k) e in ap (λ (p : ℕ × ℕ). p.0) pair

pub none_there : (soc : SocValue) (plan : PlanValue) (firsts : List ℕ) (tests : List WiredTest) → IsLocator soc plan firsts tests → (cycle wire bus chain : ℕ) → IsOnWire firsts wire bus chain → (t : WiredTest) → IsLast tests bus cycle t → (near : NearCapture) → IsNearCapture t.phases (cycle - t.start) (Some near) →
    ((u : PlannedTest) → IsWired soc plan u t → IsFromEnd (cells_at u.chains chain) near.shifts None) → IsNoSpot soc plan cycle wire
none_there soc plan firsts tests l cycle wire bus chain on t last near all_near none i k u x at read =
    let r : Reading plan u k x cycle wire read = reading soc plan l.good i k cycle wire u x at read in
    let is : IsWired soc plan u t = same_test soc plan firsts tests l i k cycle wire bus chain u x at read on t last in
    let found : OnFound u bus chain read.chain = on_found soc plan firsts tests l i k cycle wire bus chain u x at read on in
    let shifts : near.shifts ≡ read.shifts = shifts_are near read.shifts k (behind_read soc plan u k x cycle wire read r t is (Some near) all_near) in
    let cells' : cells_at u.chains chain ≡ read.cells = ap (cells_at u.chains) found.chain_is ∙ get_or_from_slice_get u.chains read.chain read.cells [] read.there in
    let past : out_length read.cells ≤ near.shifts = subst (λ cells. out_length cells ≤ near.shifts) cells' (none u is) in
    omega (arith, past, shifts, read.within)

-- ---- a read that is found

pub found_spot : (soc : SocValue) (plan : PlanValue) (firsts : List ℕ) (tests : List WiredTest) → IsLocator soc plan firsts tests → (cycle wire bus chain : ℕ) → IsOnWire firsts wire bus chain → (t : WiredTest) → IsLast tests bus cycle t → (near : NearCapture) → IsNearCapture t.phases (cycle - t.start) (Some near) → (cell : Cell) →
    ((u : PlannedTest) → IsWired soc plan u t → IsFromEnd (cells_at u.chains chain) near.shifts (Some cell)) → IsSpot soc plan cycle wire (record { test = t.id; pattern = near.pattern; cell = cell })
found_spot soc plan firsts tests l cycle wire bus chain on t last near all_near cell at =
    let p : IsPlanned soc plan (planned soc plan) t = l.wired.planned last.place t last.at in
    go p.place p.test p.at p.wired
  where
    go : (place : ℕ) (u : PlannedTest) → IsAt (planned soc plan) place u → IsWired soc plan u t → IsSpot soc plan cycle wire (record { test = t.id; pattern = near.pattern; cell = cell })
    go place u there v =
        let b : IsBehind t.phases (cycle - t.start) near.shifts near.pattern = all_near.behind near.shifts near.pattern refl in
        let here = at u v in
        let bus_is : bus ≡ u.bus = sym last.same_bus ∙ v.bus in
        let on' : OnBus plan u = on_bus soc plan place u there in
        let first : slice_index firsts bus ≡ sum (take bus (widths plan)) = first_at soc plan firsts tests l bus on.bus_there in
        let first' : sum (take bus (widths plan)) ≡ u.first_wire = ap (λ b. sum (take b (widths plan))) bus_is ∙ sym on'.first in
        record {
          place = place;
          test = u;
          at = there;
          name = v.id;
          read = record {
            chain = chain;
            cells = cells_at u.chains chain;
            there = slice_get-get_or u.chains chain [] (listed u here.0 (cases_lt chain (length u.chains)));
            shifts = near.shifts;
            within = here.0;
            cell = here.1;
            capture = u.start + b.at;
            captures = at_start_plus u b.at (Capture near.pattern) (ap (λ ops. slice_get ops b.at) v.operations ∙ b.captures);
            cycle = omega (arith, b.before, last.begun, v.start);
            wire = omega (arith, on.wire_is, first, first');
          };
        }
      where
        listed : (u : PlannedTest) → near.shifts < out_length (cells_at u.chains chain) → (chain < length u.chains) ⊎ (length u.chains ≤ chain) → chain < length u.chains
        listed u within (inl less) = less
        listed u within (inr past) =
            let none : cells_at u.chains chain ≡ [] = get_or_past u.chains chain [] past in
            let within' = rw none at within in
            absurd (omega (arith, within'))

-- ---- what the calls need

pub last_planned : (soc : SocValue) (plan : PlanValue) (firsts : List ℕ) (tests : List WiredTest) → IsLocator soc plan firsts tests → (bus cycle : ℕ) (t : WiredTest) → IsLast tests bus cycle t → IsPlanned soc plan (planned soc plan) t
last_planned soc plan firsts tests l bus cycle t last = l.wired.planned last.place t last.at

pub end_is : (soc : SocValue) (plan : PlanValue) (u : PlannedTest) (t : WiredTest) → IsWired soc plan u t → t.end ≡ t.start + length (phase_ops t.phases)
end_is soc plan u t is = let long : length u.operations ≡ length (phase_ops t.phases) = ap length is.operations in omega (arith, is.ends, is.start)

pub turn_is : (p : Phases) (n : ℕ) (m : Moment) (near : Option NearCapture) → IsMoment p n m → option_map near_capture near ≡ moment_behind m → IsNearCapture p n near
turn_is p n m near is same = record {
  behind = λ s k e. let b = is.behind s k (sym same ∙ e) in record { at = b.0; captures = b.1; before = b.2 };
  every = λ s k b within short. same ∙ is.every s k b.at b.captures b.before short;
}

-- the chains of a test, by what is looked up
pub chains_at : (soc : SocValue) (plan : PlanValue) (u : PlannedTest) (t : WiredTest) → IsWired soc plan u t → (m : ModuleValue) → slice_get soc.modules t.place ≡ Some m → (ws : List Wrapper) (w : Wrapper) → plan.wrappers ≡ map wrapper_value ws → w ≡ get_or ws t.wrapper w → u.chains ≡ chain_cells m w.scan (map chain_value w.chains.items)
chains_at soc plan u t is m at ws w are here =
    let v = is.wrapped in
    let core : v.core ≡ m = same_Some v.core m (sym v.core_at ∙ at) in
    let from = from_map wrapper_value ws t.wrapper v.wrapper (ap (λ (xs : List WrapperValue). slice_get xs t.wrapper) (sym are) ∙ v.wrapper_at) in
    let own : from.0 ≡ w = sym (get_or_from_slice_get ws t.wrapper from.0 w from.1) ∙ sym here in
    let wrapper : v.wrapper ≡ wrapper_value w = sym from.2 ∙ ap wrapper_value own in
    v.chains ∙ ap (λ (m : ModuleValue). chain_cells m v.wrapper.scan v.wrapper.chains) core ∙ ap (λ (x : WrapperValue). chain_cells m x.scan x.chains) wrapper

-- ---- at most one

same_cell : (a b : Cell) → cell_value a ≡ cell_value b → a ≡ b
same_cell (Flop c p) (Flop d q) e = cc
same_cell (Flop c p) (Out n) e = absurd cc
same_cell (Out n) (Flop c p) e = absurd cc
same_cell (Out n) (Out m) e = cc

same_spot : (a b : Spot) → a.test ≡ b.test → a.pattern ≡ b.pattern → a.cell ≡ b.cell → a ≡ b
same_spot a b x y z =
    ap (λ (t : TestId). spot t a.pattern a.cell) x ∙ ap (λ (k : ℕ). spot b.test k a.cell) y ∙ ap (λ (c : Cell). spot b.test b.pattern c) z
  where
    spot : TestId → ℕ → Cell → Spot
    spot t k c = record { test = t; pattern = k; cell = c }

pub one_spot : SpotsAreOne
one_spot soc plan cycle wire a b good x y =
    let right : IsRight soc (bare_limits plan) plan no_bits = every_good_plan_is_right soc (bare_limits plan) plan no_bits good in
    let one = right.reads.apart x.place y.place x.test y.test a.pattern b.pattern (cell_value a.cell) (cell_value b.cell) cycle wire x.at y.at x.read y.read in
    let test : x.test ≡ y.test = same_Some x.test y.test (sym x.at ∙ ap (slice_get (planned soc plan)) one.0 ∙ y.at) in
    same_spot a b (x.name ∙ ap (λ (t : PlannedTest). t.id) test ∙ sym y.name) one.1 (same_cell a.cell b.cell one.2)
