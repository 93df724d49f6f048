-- Places of times in a table, and the cycles of self tests.
use Rattle.std.proofs.Common.{◌≡◌, ◌≢◌, ℕ, ◌+◌, ◌*◌, ◌≤◌, ◌<◌, ◌^◌, Bool, true, false, List, [], ◌∷◌, length, refl, ◌∙◌, sym, ap, subst, arith, inl, inr, ◌⊎◌, suc, ◌-◌, Some, slice_get, slice_index, slice_set, not, ◌&&◌, if◌then◌else◌, sum, sum_by}
use Rattle.std.proofs.lemmas.Bool.{cases_eq, cases_lt}
use Rattle.std.proofs.lemmas.List.{get_or-set_same, get_or-set_other, length-map, length-set, take_all}
use Rattle.std.proofs.lemmas.Option.{slice_get_within}
use Rattle.soc_model.specs.Lookups.{module_place}
use Rattle.soc_model.specs.SoundChips.{IsSoundChip}
use Rattle.soc_model.proofs.Places.{slice_get-from_position}
use Rattle.std.proofs.lemmas.List.Sums.{sum_by-cons}
use Rattle.soc_model.specs.Chips.{ModuleValue, SocValue, LiveTest, live_tests}
use Rattle.plan_model.specs.Bounds.{lower, is_of, module_bound, lower_tam_time, sum_below}
use Rattle.plan_model.proofs.LowerTimes.{least_self_test}
use Rattle.width_tree.specs.Tables.{place_of_time, HasRow, own_time, chip_of, IsTable}
use Rattle.std.proofs.Math.Nat.{mul-le-mul, mul-le-mul_right}
use Rattle.soc_model.proofs.Limits.{modules-le}
use Rattle.plan_model.proofs.SumsOverCycles.{sum_below-same, sum_below-indices}
use Rattle.width_tree.specs.declared.areas.Widths.{Widths}
use Rattle.width_tree.specs.declared.intervals.Interval.{Interval}
use Rattle.width_tree.specs.declared.tables.ChipTimes.{ChipTimes}
use Rattle.width_tree.specs.Cases.{Case, interval, interval_at, area_in}
use Rattle.width_tree.specs.Findings.{area_by, IsInterval, AreIntervals, AreWidths, IsFinding}
use Rattle.width_tree.specs.Trees.{NodeValue, OfLeaf, OfBus}
use Rattle.width_tree.specs.declared.leaves.Finding.{Finding}
use Rattle.plan_model.specs.Certificates.{on}
use Rattle.width_tree.proofs.CaseFacts.{set_same, set_other, set_intervals, least_over-le, least_over-same}

module _ (soc : SocValue) where
  module _ (p : ℕ) where
    -- the row of a module up to a width, where the rows before it stay
    pub record RowSoFar (width : ℕ) (before times : List ℕ) : Type 0 where
      pub time : (v : ℕ) → 1 ≤ v → v < width → slice_index times (place_of_time p v) ≡ lower_tam_time soc p v
      pub small : (v : ℕ) → 1 ≤ v → v < width → slice_index times (place_of_time p v) ≤ 10 ^ 18
      pub earlier : (k : ℕ) → k < p * 256 → slice_index times k ≡ slice_index before k

    pub row_begins : (times : List ℕ) → RowSoFar 1 times times
    row_begins times = record { time = λ v a b. absurd (omega arith); small = λ v a b. absurd (omega arith); earlier = λ k less. refl }

    pub row_more : (width : ℕ) (before times : List ℕ) (at time : ℕ) → RowSoFar width before times → 1 ≤ width → at ≡ place_of_time p width →
        at < length times → time ≡ lower_tam_time soc p width → time ≤ 10 ^ 18 → RowSoFar (width + 1) before (slice_set times at time)
    row_more width before times at time so_far some at_is within time_is few = record {
      time = λ v a b. time_at v a b (cases_eq v width);
      small = λ v a b. small_at v a b (cases_eq v width);
      earlier = λ k less. get_or-set_other times at k time 0 (λ e. omega arith) ∙ so_far.earlier k less;
    }
      where
        here : slice_index (slice_set times at time) (place_of_time p width) ≡ time
        here = ap (slice_index (slice_set times at time)) (sym at_is) ∙ get_or-set_same times at time 0 within

        there : (v : ℕ) → 1 ≤ v → v ≢ width → slice_index (slice_set times at time) (place_of_time p v) ≡ slice_index times (place_of_time p v)
        there v a other = get_or-set_other times at (place_of_time p v) time 0 (λ e. other (omega arith))

        time_at : (v : ℕ) → 1 ≤ v → v < width + 1 → (v ≡ width) ⊎ (v ≢ width) → slice_index (slice_set times at time) (place_of_time p v) ≡ lower_tam_time soc p v
        time_at v a b (inl same) = rw same (here ∙ time_is)
        time_at v a b (inr other) = let less : v < width = omega arith in there v a other ∙ so_far.time v a less

        small_at : (v : ℕ) → 1 ≤ v → v < width + 1 → (v ≡ width) ⊎ (v ≢ width) → slice_index (slice_set times at time) (place_of_time p v) ≤ 10 ^ 18
        small_at v a b (inl same) = rw (same, here) few
        small_at v a b (inr other) = let less : v < width = omega arith in rw (there v a other) (so_far.small v a less)

  module _ (w : ℕ) where
    -- all live tests of a module: those over the wires, and the self tests
    pub bound_splits : (place : ℕ) → module_bound soc w place ≡ lower_tam_time soc place w + own_time soc place
    bound_splits place = go (live_tests soc)
      where
        each : (l : LiveTest) (tam here : Bool) → l.test.tam ≡ tam → (if here then lower w l else 0) ≡ (if tam && here then lower w l else 0) + (if not tam && here then l.test.patterns else 0)
        each l true true is = omega arith
        each l true false is = omega arith
        each l false true is = omega (arith, least_self_test l.core l.test w is)
        each l false false is = omega arith

        go : (ls : List LiveTest) → sum_by (λ l. if is_of place l then lower w l else 0) ls ≡ sum_by (λ l. if l.test.tam && is_of place l then lower w l else 0) ls + sum_by (λ l. if not l.test.tam && is_of place l then l.test.patterns else 0) ls
        go [] = refl
        go (l ∷ ls) =
            let ih = go ls in
            let here : (if is_of place l then lower w l else 0) ≡ (if l.test.tam && is_of place l then lower w l else 0) + (if not l.test.tam && is_of place l then l.test.patterns else 0) = each l l.test.tam (is_of place l) refl in
            let a = sum_by-cons (λ l. if is_of place l then lower w l else 0) l ls in
            let b = sum_by-cons (λ l. if l.test.tam && is_of place l then lower w l else 0) l ls in
            let d = sum_by-cons (λ l. if not l.test.tam && is_of place l then l.test.patterns else 0) l ls in
            omega arith

    -- ---- a table that is filled

    module _ (p : ℕ) where
      pub row_whole : (before times : List ℕ) (width : ℕ) → RowSoFar p width before times → w < width → HasRow soc w times p
      row_whole before times width so_far past = record { time = λ v a b. so_far.time v a (omega arith); small = λ v a b. so_far.small v a (omega arith) }

      -- the rows before another one stay
      pub row_stays : (q : ℕ) (before times : List ℕ) → w ≤ 256 → q < p → ((k : ℕ) → k < p * 256 → slice_index times k ≡ slice_index before k) →
          HasRow soc w before q → HasRow soc w times q
      row_stays q before times few less same row = record {
        time = λ v a b. same (place_of_time q v) (omega arith) ∙ row.time v a b;
        small = λ v a b. rw (same (place_of_time q v) (omega arith)) (row.small v a b);
      }

      pub rows_more : (before times : List ℕ) → w ≤ 256 → ((k : ℕ) → k < p * 256 → slice_index times k ≡ slice_index before k) →
          ((q : ℕ) → q < p → HasRow soc w before q) → HasRow soc w times p → (q : ℕ) → q < p + 1 → HasRow soc w times q
      rows_more before times few same rows row q less = elim (cases_lt q p) [
        | inl earlier ↦ row_stays q before times few earlier same (rows q earlier)
        | inr last ↦ let here : p ≡ q = omega arith in rw (← here) row
      ]

  -- the cycles of self tests up to a module
  pub record OwnSoFar (n : ℕ) (own : List ℕ) : Type 0 where
    pub time : (p : ℕ) → p < n → slice_index own p ≡ own_time soc p
    pub small : (p : ℕ) → p < n → slice_index own p ≤ 10 ^ 18

  pub own_begins : (own : List ℕ) → OwnSoFar 0 own
  own_begins own = record { time = λ p less. absurd (omega arith); small = λ p less. absurd (omega arith) }

  pub own_more : (n : ℕ) (own : List ℕ) (time : ℕ) → OwnSoFar n own → n < length own → time ≡ own_time soc n → time ≤ 10 ^ 18 → OwnSoFar (n + 1) (slice_set own n time)
  own_more n own time so_far within time_is few = record { time = λ p less. time_at p less (cases_eq p n); small = λ p less. small_at p less (cases_eq p n) }
    where
      here : slice_index (slice_set own n time) n ≡ time
      here = get_or-set_same own n time 0 within

      time_at : (p : ℕ) → p < n + 1 → (p ≡ n) ⊎ (p ≢ n) → slice_index (slice_set own n time) p ≡ own_time soc p
      time_at p less (inl same) = rw same (here ∙ time_is)
      time_at p less (inr other) = let before : p < n = omega arith in get_or-set_other own n p time 0 other ∙ so_far.time p before

      small_at : (p : ℕ) → p < n + 1 → (p ≡ n) ⊎ (p ≢ n) → slice_index (slice_set own n time) p ≤ 10 ^ 18
      small_at p less (inl same) = rw (same, here) few
      small_at p less (inr other) = let before : p < n = omega arith in rw (get_or-set_other own n p time 0 other) (so_far.small p before)

  -- a module that is found stands in the chip
  pub place_within : IsSoundChip soc → (number place : ℕ) → module_place soc number ≡ Some place → place < length soc.modules
  place_within sound number place at =
      let there = slice_get-from_position soc.keys number place at in
      let long = ap length sound.keyed ∙ length-map soc.modules (λ (m : ModuleValue). m.number) in
      omega (arith, slice_get_within soc.keys place number there)

-- ---- the least areas of modules within their intervals, and their sum

-- ---- one area

sum_few : (xs : List ℕ) (m : ℕ) → ((k : ℕ) → k < length xs → slice_index xs k ≤ m) → sum xs ≤ length xs * m
sum_few [] m each = omega arith
sum_few (x ∷ xs) m each =
    let first = each 0 (omega arith) in
    let rest = sum_few xs m (λ k less. each (suc k) (omega arith)) in
    let split = sum_by-cons (λ x. x) x xs in
    omega arith

pub put_widths : (w n : ℕ) (times : List ℕ) (old new : Widths) (p : ℕ) (i : Interval) (area : ℕ) → AreWidths w n times old → p < n → IsInterval w i →
    area ≡ area_by times i p →
    new.intervals.items ≡ slice_set old.intervals.items p i → new.areas.items ≡ slice_set old.areas.items p area → new.total ≡ sum new.areas.items →
    AreWidths w n times new
put_widths w n times old new p i area are within int area_is intervals areas total = record {
  intervals = rw intervals (set_intervals w n old.intervals.items p i are.intervals int);
  long = ap length areas ∙ length-set old.areas.items p area ∙ are.long;
  areas = λ q less. at q less (cases_eq q p);
  total = total;
}
  where
    at : (q : ℕ) → q < n → (q ≡ p) ⊎ (q ≢ p) → slice_index new.areas.items q ≡ area_by times (interval_at new.intervals.items q) q
    at q less (inl same) =
        let left = ap (λ l. slice_index l p) areas ∙ get_or-set_same old.areas.items p area 0 (omega arith) in
        rw same (left ∙ area_is ∙ ap (λ x. area_by times x p) (sym (ap (λ l. interval_at l p) intervals ∙ set_same old.intervals.items p i (omega arith))))
    at q less (inr other) =
        let left = ap (λ l. slice_index l q) areas ∙ get_or-set_other old.areas.items p q area 0 other in
        left ∙ are.areas q less ∙ ap (λ x. area_by times x q) (sym (ap (λ l. interval_at l q) intervals ∙ set_other old.intervals.items p q i other))

pub bus_found : (soc : SocValue) (w : ℕ) (c c' : Case) (n : NodeValue) (ms ms' : List ℕ) (f : Finding) → n ≡ OfLeaf (OfBus ms) → c' ≡ c → ms' ≡ ms →
    IsFinding soc w c' (OfLeaf (OfBus ms')) f → IsFinding soc w c n f
bus_found soc w c c' n ms ms' f node case_is modules_is h =
    rw node (rw (← case_is) (rw (← modules_is) h))

module _ (t : ChipTimes) where
  pub area_few : (i : Interval) (p : ℕ) → IsTable t → p < length (chip_of t).modules → IsInterval t.wires i → area_by t.times.now i p ≤ 256 * 10 ^ 18
  area_few i p is within int =
      let row = is.times p within in
      let least = least_over-le (λ v. v * slice_index t.times.now (place_of_time p v)) i.low (i.high - i.low) i.low (omega arith) (omega arith) in
      let narrow : i.low ≤ 256 = omega arith in
      let short = row.small i.low (omega arith) (omega arith) in
      let product = mul-le-mul narrow short in
      omega arith

  -- by the table or by the times themselves
  pub area_same : (c : Case) (p : ℕ) → IsTable t → p < length (chip_of t).modules → IsInterval t.wires (interval_at c p) →
      area_by t.times.now (interval_at c p) p ≡ area_in (chip_of t) c p
  area_same c p is within int =
      let row = is.times p within in
      least_over-same (λ v. v * slice_index t.times.now (place_of_time p v)) (λ v. v * lower_tam_time (chip_of t) p v) (interval_at c p).low ((interval_at c p).high - (interval_at c p).low)
      (λ v a b. ap (λ n. v * n) (row.time v (omega arith) (omega arith)))

  -- ---- all areas

  pub areas_few : (c : Case) (areas : List ℕ) → IsTable t → AreIntervals t.wires (length (chip_of t).modules) c → length areas ≡ length (chip_of t).modules →
      ((p : ℕ) → p < length (chip_of t).modules → slice_index areas p ≡ area_by t.times.now (interval_at c p) p) → sum areas ≤ 1000 * (256 * 10 ^ 18)
  areas_few c areas is ints long each =
      let all : sum areas ≤ length areas * (256 * 10 ^ 18) = sum_few areas (256 * 10 ^ 18) (λ k less. let p : k < length (chip_of t).modules = omega arith in omega (arith, each k p, area_few (interval_at c k) k is p (ints.each k p))) in
      let few : length areas ≤ 1000 = omega (arith, modules-le (chip_of t) is.sound.size) in
      let product = mul-le-mul_right (256 * 10 ^ 18) few in
      omega arith

  module _ (widths : Widths) (is : IsTable t) (are : AreWidths t.wires (length (chip_of t).modules) t.times.now widths) where
    pub total_few : widths.total ≤ 1000 * (256 * 10 ^ 18)
    total_few = omega (arith, areas_few widths.intervals.items widths.areas.items is are.intervals are.long are.areas)

    -- the sum over the modules of a chip
    pub total_is : widths.total ≡ sum_below (area_in (chip_of t) widths.intervals.items) (length (chip_of t).modules)
    total_is =
        let indices = sum_below-indices widths.areas.items (length widths.areas.items) (omega arith) in
        are.total
        ∙ sym (indices ∙ ap sum (take_all (length widths.areas.items) widths.areas.items (omega arith)))
        ∙ ap (sum_below (slice_index widths.areas.items)) are.long
        ∙ sum_below-same (slice_index widths.areas.items) (area_in (chip_of t) widths.intervals.items) (length (chip_of t).modules)
        (λ p less. are.areas p less ∙ area_same widths.intervals.items p is less (are.intervals.each p less))

  -- ---- another interval for one module

  -- ---- what leaves show

  pub time_shown : (c : Case) (m p a b : ℕ) → IsTable t → AreIntervals t.wires (length (chip_of t).modules) c → module_place (chip_of t) m ≡ Some p →
      a ≡ slice_index t.times.now (place_of_time p (interval_at c p).high) → b ≡ slice_index t.own.now p →
      on (module_place (chip_of t) m) (λ place. module_bound (chip_of t) (interval_at c place).high place) ≡ a + b
  time_shown c m p a b is ints here a_is b_is =
      let within = place_within (chip_of t) is.sound m p here in
      let row = is.times p within in
      let int = ints.each p within in
      let found = ap (λ o. on o (λ place. module_bound (chip_of t) (interval_at c place).high place)) here in
      let split = bound_splits (chip_of t) (interval_at c p).high p in
      omega (arith, row.time (interval_at c p).high (omega arith) int.few, is.own.time p within)

  -- ---- more room than a sum wants

  pub put_fits : (widths : Widths) (i : Interval) (p area : ℕ) → IsTable t → AreWidths t.wires (length (chip_of t).modules) t.times.now widths →
      p < length (chip_of t).modules → IsInterval t.wires i → area ≡ area_by t.times.now i p → widths.total + area < 2 ^ 128
  put_fits widths i p area is are within int area_is = omega (arith, total_few widths is are, area_few i p is within int)

module _ (w : ℕ) (old : Interval) where
  pub narrow_interval : (i : Interval) (width : ℕ) → IsInterval w i → old ≡ i → i.low ≤ width → width < i.high → IsInterval w (interval old.low width)
  narrow_interval i width int is some below =
      let same = ap (λ (x : Interval). x.low) is in
      record { some = omega arith; order = omega arith; few = omega arith }

  pub wide_interval : (width : ℕ) → IsInterval w old → width < old.high → IsInterval w (interval (width + 1) old.high)
  wide_interval width int below = record { some = omega arith; order = omega arith; few = int.few }
