-- No proper wrapper of at most `w` chains makes a test shorter than its packed time on `w` wires, and this never grows with `w`.
use Rattle.std.proofs.Common.{◌≡◌, ℕ, ◌+◌, ◌-◌, ◌*◌, ◌≤◌, ◌<◌, max, min, Bool, true, false, Some, List, [], ◌∷◌, map, length, take, drop, eqb, refl, arith, inl, inr, ◌⊎◌}
use Rattle.std.specs.Prelude.{slice_get, if◌then◌else◌}
use Rattle.std.specs.List.{sum, sum_by, count_by}
use Rattle.std.proofs.lemmas.Bool.{cases_Bool, eq-eqb, eqb-true}
use Rattle.std.proofs.lemmas.List.{map-id}
use Rattle.std.proofs.lemmas.Option.{slice_get_within}
use Rattle.std.proofs.lemmas.List.Sums.{sum_by-cons}
use Rattle.plan_model.proofs.Sums.{one_if, item-le-sum_by}
use Rattle.std.proofs.Math.Nat.{mul-le-mul_left, max-le}
use Rattle.soc_model.specs.declared.Test.{Test}
use Rattle.soc_model.specs.Chips.{ModuleValue}
use Rattle.soc_model.specs.Sizes.{test_work}
use Rattle.plan_model.specs.Cells.{Cell, ChainValue, IsProper, is_loaded, is_read, in_length, out_length, chain_cells, scan_lengths}
use Rattle.plan_model.specs.Operations.{ops_of}
use Rattle.plan_model.specs.Plans.{operations_of, greatest}
use Rattle.plan_model.specs.Bounds.{quotient_up, least_length, lower_time}
use Rattle.plan_model.proofs.ChainLengths.{mode_flops, time_within}
use Rattle.plan_model.proofs.Greatest.{greatest-least}
use Rattle.plan_model.proofs.LowerTimes.{Counts, if_so, loaded_counts, read_counts, least_length-le, ops_mono, quotient_up-le}
use Rattle.plan_model.proofs.OperationCounts.{ops_length}
use Rattle.proof_facts.specs.Packed.{rising, crowd, counting, packed, packed_length, packed_time}
use Rattle.proof_facts.proofs.Rising.{Rises, rising-rises, length-rising, sum_by-rising}
use Rattle.proof_facts.proofs.Counting.{crowd_at-le, counting-falls, counting-le-sum}
use Rattle.proof_facts.proofs.Averages.{quotient_up-falls, averaging-falls, averaging-le-sum}
use Rattle.proof_facts.proofs.Beside.{beside-falls, beside-le-sum}
use Rattle.proof_facts.proofs.WrapperChains.{packed-le}

-- ---- in a proper wrapper

packed_length-le : (p : Cell → Bool) (a b : Bool) → Counts p a b → (m : ModuleValue) (t : Test) (chains : List ChainValue) → IsProper m t.scan chains → (ends w : ℕ) → 1 ≤ w → length chains ≤ w →
    ends ≤ if_so a (m.inputs + m.bidirs) + if_so b (m.outputs + m.bidirs) → packed_length m t ends w ≤ greatest (map (count_by p) (chain_cells m t.scan chains))
packed_length-le p a b counts m t chains proper ends w some few h =
    let least : least_length m t ends w ≤ greatest (map (count_by p) (chain_cells m t.scan chains)) = least_length-le p a b counts m t chains proper ends w some few h in
    max-le (packed-le p a b counts m t.scan chains proper w few) (omega arith)

pub packed_over_wires : (m : ModuleValue) (t : Test) (chains : List ChainValue) (w : ℕ) → t.tam ≡ true → 1 ≤ t.patterns → 1 ≤ length chains → length chains ≤ w → IsProper m t.scan chains → packed_time m t w ≤ length (operations_of m t (chain_cells m t.scan chains))
unfolding packed_time
packed_over_wires m t chains w tam live some few proper =
    rw tam (ops_mono m.setup (packed_length m t (m.inputs + m.bidirs) w) (packed_length m t (m.outputs + m.bidirs) w) (greatest (map in_length (chain_cells m t.scan chains))) (greatest (map out_length (chain_cells m t.scan chains))) t.patterns live
    (packed_length-le is_loaded true false loaded_counts m t chains proper (m.inputs + m.bidirs) w (omega arith) few (omega arith))
    (packed_length-le is_read false true read_counts m t chains proper (m.outputs + m.bidirs) w (omega arith) few (omega arith)))

pub packed_self_test : (m : ModuleValue) (t : Test) (w : ℕ) → t.tam ≡ false → packed_time m t w ≡ t.patterns
unfolding packed_time
packed_self_test m t w self = rw self refl

-- ---- it never grows

packed-falls : (lengths : List ℕ) (v w : ℕ) → 1 ≤ v → v ≤ w → packed lengths w ≤ packed lengths v
unfolding packed
packed-falls lengths v w some less = omega (arith, counting-falls lengths v w some less, averaging-falls lengths v w some less, beside-falls lengths v w some less)

pub packed_length-falls : (m : ModuleValue) (t : Test) (ends v w : ℕ) → 1 ≤ v → v ≤ w → packed_length m t ends w ≤ packed_length m t ends v
packed_length-falls m t ends v w some less =
    omega (arith, packed-falls (scan_lengths m t.scan) v w some less, quotient_up-falls (ends + sum (scan_lengths m t.scan)) v w some less)

pub packed_time-falls : (m : ModuleValue) (t : Test) (v w : ℕ) → 1 ≤ t.patterns → 1 ≤ v → v ≤ w → packed_time m t w ≤ packed_time m t v
unfolding packed_time
packed_time-falls m t v w live some less = go (cases_Bool t.tam) where
  go : (t.tam ≡ true) ⊎ (t.tam ≡ false) → (if t.tam then length (ops_of m.setup (packed_length m t (m.inputs + m.bidirs) w) (packed_length m t (m.outputs + m.bidirs) w) t.patterns) else t.patterns)
      ≤ (if t.tam then length (ops_of m.setup (packed_length m t (m.inputs + m.bidirs) v) (packed_length m t (m.outputs + m.bidirs) v) t.patterns) else t.patterns)
  go (inl yes') = rw yes' (ops_mono m.setup (packed_length m t (m.inputs + m.bidirs) w) (packed_length m t (m.outputs + m.bidirs) w) (packed_length m t (m.inputs + m.bidirs) v) (packed_length m t (m.outputs + m.bidirs) v) t.patterns live
      (packed_length-falls m t (m.inputs + m.bidirs) v w some less) (packed_length-falls m t (m.outputs + m.bidirs) v w some less))
  go (inr no') = rw no' (omega arith)

-- ---- it is within the work of the test

pub packed-le-sum : (lengths : List ℕ) (w : ℕ) → 1 ≤ w → packed lengths w ≤ sum lengths
unfolding packed
packed-le-sum lengths w some = omega (arith, counting-le-sum lengths w, averaging-le-sum lengths w some, beside-le-sum lengths w)

pub up-le : (a w : ℕ) → 1 ≤ w → quotient_up a w ≤ a
up-le a w some =
    let product : a * 1 ≤ a * w = mul-le-mul_left a some in
    quotient_up-le a a w some (omega arith)

pub packed_length-le-cells : (m : ModuleValue) (t : Test) (ends w : ℕ) → 1 ≤ w → packed_length m t ends w ≤ ends + sum m.chains
packed_length-le-cells m t ends w some =
    omega (arith, packed-le-sum (scan_lengths m t.scan) w some, up-le (ends + sum (scan_lengths m t.scan)) w some, mode_flops m t.scan)

pub packed_time-le : (m : ModuleValue) (t : Test) (w : ℕ) → 1 ≤ t.patterns → 1 ≤ w → packed_time m t w ≤ test_work m t
unfolding packed_time
packed_time-le m t w live some = elim (cases_Bool t.tam) [
  | inl tam ↦
      let si : ℕ = packed_length m t (m.inputs + m.bidirs) w in
      let so : ℕ = packed_length m t (m.outputs + m.bidirs) w in
      let size : ℕ = 1 + (m.inputs + m.bidirs) + (m.outputs + m.bidirs) + 2 * sum m.chains in
      let ins : si ≤ m.inputs + m.bidirs + sum m.chains = packed_length-le-cells m t (m.inputs + m.bidirs) w some in
      let outs : so ≤ m.outputs + m.bidirs + sum m.chains = packed_length-le-cells m t (m.outputs + m.bidirs) w some in
      let long : length (ops_of m.setup si so t.patterns) ≡ m.setup + (1 + max si so) * t.patterns + min si so = ops_length m.setup si so t.patterns live in
      let short : m.setup + (1 + max si so) * t.patterns + min si so ≤ t.patterns * size + m.setup = time_within m.setup si so t.patterns size (t.patterns * size + m.setup) live (omega (arith, ins, outs)) (omega arith) in
      rw tam (omega (arith, long, short))
  | inr self ↦
      let product : t.patterns * (1 + (m.inputs + m.bidirs) + (m.outputs + m.bidirs) + 2 * sum m.chains) ≡ t.patterns + t.patterns * ((m.inputs + m.bidirs) + (m.outputs + m.bidirs) + 2 * sum m.chains) = omega arith in
      rw self (omega arith)
]

-- ---- and no less than the lower time

last-least : (y : ℕ) (ys : List ℕ) → Rises (y ∷ ys) → y ≤ sum (take 1 (drop (length ys) (y ∷ ys)))
last-least y [] rises = omega (arith, sum_by-cons (λ v. v) y [])
last-least y (z ∷ zs) rises = omega (arith, (rises.0).0, last-least z zs rises.1)

last-most : (x y : ℕ) (ys : List ℕ) → Rises (y ∷ ys) → 1 ≤ sum_by (λ v. one_if (eqb v x)) (y ∷ ys) → x ≤ sum (take 1 (drop (length ys) (y ∷ ys)))
last-most x y [] rises some = elim (cases_Bool (eqb y x)) [
  | inl yes' ↦ let same : y ≡ x = eqb-true y x yes' in omega (arith, last-least y [] rises)
  | inr no' ↦
      let split : sum_by (λ v. one_if (eqb v x)) (y ∷ []) ≡ one_if (eqb y x) + 0 = sum_by-cons (λ v. one_if (eqb v x)) y [] in
      let none : one_if (eqb y x) ≡ 0 = rw no' refl in
      absurd (omega arith)
]
last-most x y (z ∷ zs) rises some = elim (cases_Bool (eqb y x)) [
  | inl yes' ↦ let same : y ≡ x = eqb-true y x yes' in omega (arith, last-least y (z ∷ zs) rises)
  | inr no' ↦
      let split : sum_by (λ v. one_if (eqb v x)) (y ∷ z ∷ zs) ≡ one_if (eqb y x) + sum_by (λ v. one_if (eqb v x)) (z ∷ zs) = sum_by-cons (λ v. one_if (eqb v x)) y (z ∷ zs) in
      let none : one_if (eqb y x) ≡ 0 = rw no' refl in
      last-most x z zs rises.1 (omega arith)
]

greatest-le-counting : (lengths : List ℕ) (w : ℕ) → greatest lengths ≤ counting lengths w
greatest-le-counting lengths w =
    let same : map (λ x. x) lengths ≡ lengths = map-id lengths in
    let most : greatest (map (λ x. x) lengths) ≤ counting lengths w = greatest-least (λ x. x) (counting lengths w) lengths (λ i x at. each i x at) in
    rw same at most
  where
    last : (x : ℕ) (ys : List ℕ) (n : ℕ) → length ys ≡ n → Rises ys → 1 ≤ sum_by (λ v. one_if (eqb v x)) ys → x ≤ sum (take 1 (drop (n - 1) ys))
    last x [] n long rises some = absurd (omega arith)
    last x (y ∷ ys) n long rises some =
        let less : n - 1 ≡ length ys = omega arith in
        rw less (last-most x y ys rises some)

    each : (i x : ℕ) → slice_get lengths i ≡ Some x → x ≤ counting lengths w
    each i x at =
        let within : i < length lengths = slice_get_within lengths i x at in
        let one : one_if (eqb x x) ≡ 1 = rw (eq-eqb x x refl) refl in
        let counted : one_if (eqb x x) ≤ sum_by (λ v. one_if (eqb v x)) lengths = item-le-sum_by (λ v. one_if (eqb v x)) lengths i x at in
        let sorted : sum_by (λ v. one_if (eqb v x)) (rising lengths) ≡ sum_by (λ v. one_if (eqb v x)) lengths = sum_by-rising (λ v. one_if (eqb v x)) lengths in
        let none : 0 * w ≡ 0 = omega arith in
        let value : crowd lengths w 0 ≡ sum (take 1 (drop (length lengths - 1) (rising lengths))) = rw none refl in
        omega (arith, last x (rising lengths) (length lengths) (length-rising lengths) (rising-rises lengths) (omega arith), crowd_at-le lengths w 0 (omega arith) (omega arith))

greatest-le : (lengths : List ℕ) (w : ℕ) → greatest lengths ≤ packed lengths w
unfolding packed
greatest-le lengths w = omega (arith, greatest-le-counting lengths w)

pub lower-le-packed : (m : ModuleValue) (t : Test) (w : ℕ) → 1 ≤ t.patterns → lower_time m t w ≤ packed_time m t w
unfolding lower_time packed_time
lower-le-packed m t w live = elim (cases_Bool t.tam) [
  | inl tam ↦
      rw tam (ops_mono m.setup (least_length m t (m.inputs + m.bidirs) w) (least_length m t (m.outputs + m.bidirs) w) (packed_length m t (m.inputs + m.bidirs) w) (packed_length m t (m.outputs + m.bidirs) w) t.patterns live
      (omega (arith, greatest-le (scan_lengths m t.scan) w)) (omega (arith, greatest-le (scan_lengths m t.scan) w)))
  | inr self ↦ rw self (omega arith)
]
