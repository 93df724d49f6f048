-- The packed time of a test from what it is made of, and sums over the tests of a module.
use Rattle.std.proofs.Common.{◌≡◌, ℕ, ◌+◌, ◌*◌, ◌≤◌, ◌<◌, max, min, Bool, true, false, List, [], length, get_or, take, refl, arith, inl, inr}
use Rattle.std.specs.Prelude.{not, if◌then◌else◌}
use Rattle.std.specs.List.{sum}
use Rattle.std.proofs.lemmas.Bool.{cases_Bool, and_parts}
use Rattle.std.proofs.lemmas.List.Sums.{sum_by_more_le, sum_by-take-le}
use Rattle.soc_model.specs.declared.Test.{Test}
use Rattle.soc_model.specs.Chips.{ModuleValue, is_live}
use Rattle.soc_model.specs.Modes.{is_tam}
use Rattle.soc_model.specs.Sizes.{test_work}
use Rattle.plan_model.specs.Cells.{scan_lengths}
use Rattle.plan_model.specs.Operations.{ops_of}
use Rattle.plan_model.specs.Bounds.{quotient_up}
use Rattle.plan_model.proofs.OperationCounts.{ops_length}
use Rattle.plan_model.proofs.Sums.{sum_by-le_at}
use Rattle.bound_rules.proofs.Works.{live_patterns}
use Rattle.proof_facts.specs.declared.times.Packing.{Packing}
use Rattle.proof_facts.specs.Packed.{counting, averaging, beside, packed, packed_length, packed_time}
use Rattle.proof_facts.specs.Times.{longest_chain, IsPackingOf, is_self, tam_times_of, self_times_of, works_of}
use Rattle.proof_facts.proofs.LeastTimes.{packed_time-le}

-- ---- one test

packed_nothing : (w : ℕ) → packed [] w ≡ 0
unfolding packed counting averaging beside
packed_nothing w = refl

chain_of : (m : ModuleValue) (p : Packing) → IsPackingOf m p → (scan : Bool) (ends : ℕ) → longest_chain p scan ends ≡ max (packed (scan_lengths m scan) p.width) (quotient_up (ends + sum (scan_lengths m scan)) p.width)
chain_of m p is true ends = rw (is.flops_are, is.packed_is) (omega arith)
chain_of m p is false ends =
    let none : ends + 0 ≡ ends = omega arith in
    rw (packed_nothing p.width, none) (omega arith)

pub packed_chain : (m : ModuleValue) (t : Test) (p : Packing) → IsPackingOf m p → (ends : ℕ) → longest_chain p t.scan ends ≡ packed_length m t ends p.width
packed_chain m t p is ends = chain_of m p is t.scan ends

pub tam_packed : (m : ModuleValue) (t : Test) (w : ℕ) → t.tam ≡ true →
    packed_time m t w ≡ length (ops_of m.setup (packed_length m t (m.inputs + m.bidirs) w) (packed_length m t (m.outputs + m.bidirs) w) t.patterns)
unfolding packed_time
tam_packed m t w tam = rw tam refl

-- the formula of its time is within its work
pub formula-le : (m : ModuleValue) (t : Test) (w si so : ℕ) → t.tam ≡ true → 1 ≤ t.patterns → 1 ≤ w → si ≡ packed_length m t (m.inputs + m.bidirs) w → so ≡ packed_length m t (m.outputs + m.bidirs) w →
    m.setup + (1 + max si so) * t.patterns + min si so ≤ test_work m t
formula-le m t w si so tam live some ins outs =
    rw (ins, outs) (omega (arith, packed_time-le m t w live some, tam_packed m t w tam, ops_length m.setup (packed_length m t (m.inputs + m.bidirs) w) (packed_length m t (m.outputs + m.bidirs) w) t.patterns live))

-- ---- the tests of a module

tam_live : (t : Test) → is_tam t ≡ true → is_live t ≡ true
tam_live t tam = (and_parts (is_live t) t.tam tam).0

tam_item-le : (m : ModuleValue) (w : ℕ) (t : Test) → 1 ≤ w → (if is_tam t then packed_time m t w else 0) ≤ (if is_live t then test_work m t else 0)
tam_item-le m w t some = elim (cases_Bool (is_tam t)) [
  | inl yes' ↦ rw (yes', tam_live t yes') (packed_time-le m t w (live_patterns t (tam_live t yes')) some)
  | inr no' ↦ rw no' (omega arith)
]

pub tam_times-le : (m : ModuleValue) (w : ℕ) (ts : List Test) → 1 ≤ w → tam_times_of m w ts ≤ works_of m ts
tam_times-le m w ts some = sum_by-le_at (λ t. if is_tam t then packed_time m t w else 0) (λ t. if is_live t then test_work m t else 0) ts (λ i t at. tam_item-le m w t some)

patterns-le : (m : ModuleValue) (t : Test) → t.patterns ≤ test_work m t
patterns-le m t =
    let product : t.patterns * (1 + (m.inputs + m.bidirs) + (m.outputs + m.bidirs) + 2 * sum m.chains) ≡ t.patterns + t.patterns * ((m.inputs + m.bidirs) + (m.outputs + m.bidirs) + 2 * sum m.chains) = omega arith in
    omega arith

self_item-le : (m : ModuleValue) (t : Test) → (if is_self t then t.patterns else 0) ≤ (if is_live t then test_work m t else 0)
self_item-le m t = elim (cases_Bool (is_self t)) [
  | inl yes' ↦ rw (yes', (and_parts (is_live t) (not t.tam) yes').0) (patterns-le m t)
  | inr no' ↦ rw no' (omega arith)
]

pub self_times-le : (m : ModuleValue) (ts : List Test) → self_times_of ts ≤ works_of m ts
self_times-le m ts = sum_by-le_at (λ t. if is_self t then t.patterns else 0) (λ t. if is_live t then test_work m t else 0) ts (λ i t at. self_item-le m t)

-- the front of the tests, and one more
pub next_tam : (m : ModuleValue) (w : ℕ) (ts : List Test) (i : ℕ) (d : Test) → 1 ≤ w → i < length ts → is_tam (get_or ts i d) ≡ true → tam_times_of m w (take i ts) + packed_time m (get_or ts i d) w ≤ works_of m ts
next_tam m w ts i d some within tam =
    let more = rw tam at (sum_by_more_le (λ t. if is_tam t then packed_time m t w else 0) ts i d within) in
    omega (arith, more, tam_times-le m w ts some)

pub next_self : (m : ModuleValue) (ts : List Test) (i : ℕ) (d : Test) → i < length ts → is_self (get_or ts i d) ≡ true → self_times_of (take i ts) + (get_or ts i d).patterns ≤ works_of m ts
next_self m ts i d within self =
    let more = rw self at (sum_by_more_le (λ t. if is_self t then t.patterns else 0) ts i d within) in
    omega (arith, more, self_times-le m ts)

pub self_from : (t : Test) → is_live t ≡ true → t.tam ≡ false → is_self t ≡ true
self_from t live self = rw (live, self) refl

pub tam_front-le : (m : ModuleValue) (w : ℕ) (ts : List Test) (n : ℕ) → 1 ≤ w → tam_times_of m w (take n ts) ≤ works_of m ts
tam_front-le m w ts n some = omega (arith, sum_by-take-le (λ t. if is_tam t then packed_time m t w else 0) ts n, tam_times-le m w ts some)

pub self_front-le : (m : ModuleValue) (ts : List Test) (n : ℕ) → self_times_of (take n ts) ≤ works_of m ts
self_front-le m ts n = omega (arith, sum_by-take-le (λ t. if is_self t then t.patterns else 0) ts n, self_times-le m ts)
