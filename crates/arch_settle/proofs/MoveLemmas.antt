-- Costs of moves.
use Rattle.std.proofs.Common.{◌≡◌, ℕ, zero, suc, ◌+◌, ◌-◌, ◌^◌, ◌<◌, ◌≤◌, List, [], ◌∷◌, ◌++◌, length, map, max, get_or, set, take, remove, slice_index, refl, sym, ◌∙◌, ap, subst, arith}
use Rattle.std.proofs.lemmas.List.{get_or-map, map-set, length-set, take_more}
use Rattle.std.proofs.lemmas.List.Sums.{get_or-le-sum_by, sum_by-remove, sum_by_push}
use Rattle.width_table.specs.Tables.{TableValue, IsTable, places_of, time_of}
use Rattle.bus_model.specs.Sound.{IsSoundArch}
use Rattle.bus_model.proofs.SoundLemmas.{sound_bus}
use Rattle.bus_model.proofs.Times.{listed-in_range, places_time-bound}
use Rattle.bus_model.specs.Buses.{BusValue, bus_at, no_bus, bus_time_of, places_time, cost_of}
use Rattle.bus_model.specs.Start.{with_place}
use Rattle.bus_model.proofs.Greatest.{cost_of-append}
use Rattle.arch_settle.specs.Neighbours.{moved, split_off, reduced}
use Rattle.arch_settle.specs.declared.moving.MoveWeights.{MoveWeights}
use Rattle.std.proofs.lemmas.Grind.{get_or_default_zero}
use Rattle.arch_settle.specs.Moves.{AreWeights, greatest_of}

greatest_of-append : (xs ys : List ℕ) → greatest_of (xs ++ ys) ≡ max (greatest_of xs) (greatest_of ys)
greatest_of-append [] ys = omega arith
greatest_of-append (x ∷ xs) ys = let e = greatest_of-append xs ys in omega arith

pub greatest_of_more : (xs : List ℕ) (i : ℕ) → i < length xs → greatest_of (take (i + 1) xs) ≡ max (greatest_of (take i xs)) (get_or xs i 0)
greatest_of_more xs i h = ap greatest_of (take_more xs i 0 h) ∙ (greatest_of-append (take i xs) (get_or xs i 0 ∷ []) ∙ omega arith)

-- the cost is the greatest time
pub greatest_times : (table : TableValue) (arch : List BusValue) → greatest_of (map (bus_time_of table) arch) ≡ cost_of table arch
greatest_times table [] = refl
greatest_times table (bus ∷ rest) = ap (max (bus_time_of table bus)) (greatest_times table rest)

pub greatest_besides_two : (table : TableValue) (arch : List BusValue) (b c : ℕ) → greatest_of (set (set (map (bus_time_of table) arch) b 0) c 0) ≡ cost_of table (set (set arch b no_bus) c no_bus)
greatest_besides_two table arch b c =
    ap greatest_of (ap (λ xs. set xs c 0) (sym (map-set (bus_time_of table) arch b no_bus)) ∙ sym (map-set (bus_time_of table) (set arch b no_bus) c no_bus))
    ∙ greatest_times table (set (set arch b no_bus) c no_bus)

set-twice : {X : Type 0} (xs : List X) (i : ℕ) (x y : X) → set (set xs i x) i y ≡ set xs i y
set-twice [] i x y = refl
set-twice (z ∷ xs) zero x y = refl
set-twice (z ∷ xs) (suc i) x y = ap (λ zs. z ∷ zs) (set-twice xs i x y)

pub greatest_besides_one : (table : TableValue) (arch : List BusValue) (b : ℕ) → greatest_of (set (set (map (bus_time_of table) arch) b 0) b 0) ≡ cost_of table (set arch b no_bus)
greatest_besides_one table arch b = greatest_besides_two table arch b b ∙ ap (cost_of table) (set-twice arch b no_bus no_bus)

pub set-apart : {X : Type 0} (xs : List X) (i k : ℕ) (x y : X) → (i ≡ k → ⊥) → set (set xs i x) k y ≡ set (set xs k y) i x
set-apart [] i k x y ne = refl
set-apart (z ∷ xs) zero zero x y ne = absurd (ne refl)
set-apart (z ∷ xs) zero (suc k) x y ne = refl
set-apart (z ∷ xs) (suc i) zero x y ne = refl
set-apart (z ∷ xs) (suc i) (suc k) x y ne = ap (λ zs. z ∷ zs) (set-apart xs i k x y (λ e. ne (omega arith)))

-- one bus apart from the others
pub cost_of-set : (table : TableValue) (arch : List BusValue) (i : ℕ) (bus : BusValue) → i < length arch → cost_of table (set arch i bus) ≡ max (cost_of table (set arch i no_bus)) (bus_time_of table bus)
cost_of-set table [] i bus h = absurd (omega arith)
cost_of-set table (x ∷ xs) zero bus h = omega arith
cost_of-set table (x ∷ xs) (suc i) bus h = let e = cost_of-set table xs i bus (omega arith) in omega arith

-- a bus without one of its modules
pub reduced_time : (table : TableValue) (bus : BusValue) (k u width : ℕ) → k < length bus.places → bus.width - u ≡ width → bus_time_of table (reduced bus k u) ≡ places_time table width bus.places - time_of table (slice_index bus.places k) width
reduced_time table bus k u width h e =
    ap (λ w. places_time table w (remove bus.places k)) e
    ∙ (let s = sum_by-remove (λ p. time_of table p width) bus.places k 0 h in omega arith)

pub cost_of-moved : (table : TableValue) (arch : List BusValue) (b k c : ℕ) → b < length arch → c < length arch → (b ≡ c → ⊥) → k < length (bus_at arch b).places
    → cost_of table (moved arch b k c) ≡ max (max (cost_of table (set (set arch b no_bus) c no_bus)) (bus_time_of table (bus_at arch b) - time_of table (slice_index (bus_at arch b).places k) (bus_at arch b).width))
    (bus_time_of table (bus_at arch c) + time_of table (slice_index (bus_at arch b).places k) (bus_at arch c).width)
unfolding moved
cost_of-moved table arch b k c hb hc ne hk =
    let r = reduced (bus_at arch b) k 0 in
    let p = with_place (bus_at arch c) (slice_index (bus_at arch b).places k) in
    let n = length-set arch b r in
    let m = length-set arch c no_bus in
    let one = cost_of-set table (set arch b r) c p (omega arith) in
    let swap = ap (cost_of table) (set-apart arch b c r no_bus ne) in
    let two = cost_of-set table (set arch c no_bus) b r (omega arith) in
    let back = ap (cost_of table) (set-apart arch b c no_bus no_bus ne) in
    let left = reduced_time table (bus_at arch b) k 0 (bus_at arch b).width hk (omega arith) in
    let reached = sum_by_push (λ q. time_of table q (bus_at arch c).width) (bus_at arch c).places (slice_index (bus_at arch b).places k) in
    omega arith

pub cost_of-split_off : (table : TableValue) (arch : List BusValue) (b k u left : ℕ) → b < length arch → k < length (bus_at arch b).places → (bus_at arch b).width - u ≡ left
    → cost_of table (split_off arch b k u) ≡ max (max (cost_of table (set arch b no_bus)) (places_time table left (bus_at arch b).places - time_of table (slice_index (bus_at arch b).places k) left)) (time_of table (slice_index (bus_at arch b).places k) u)
unfolding split_off
cost_of-split_off table arch b k u left hb hk e =
    let r = reduced (bus_at arch b) k u in
    let new : BusValue = record { width = u; places = slice_index (bus_at arch b).places k ∷ [] } in
    let a = cost_of-append table (set arch b r) (new ∷ []) in
    let one = cost_of-set table arch b r hb in
    let less = reduced_time table (bus_at arch b) k u left hk e in
    omega arith

-- a module of a bus is in the chip
pub place_in_range : (table : TableValue) (arch : List BusValue) (b k place : ℕ) → IsTable table → IsSoundArch table arch → b < length arch → k < length (bus_at arch b).places → place ≡ get_or (bus_at arch b).places k place → place < places_of table
place_in_range table arch b k place laws sound h hk e =
    let low = listed-in_range table (bus_at arch b).places laws (sound_bus table arch b no_bus sound h).listed k place hk in
    subst (λ p. p < places_of table) (sym e) low

-- a module takes no longer than all of its bus
pub place_time-le : (table : TableValue) (places : List ℕ) (k width : ℕ) → k < length places → time_of table (slice_index places k) width ≤ places_time table width places
place_time-le table places k width h = get_or-le-sum_by (λ p. time_of table p width) places k 0 h

-- times are bounded on a sound bus
pub bus_places-bound : (table : TableValue) (arch : List BusValue) (b width : ℕ) → IsTable table → IsSoundArch table arch → b < length arch → 1 ≤ width → width ≤ table.wires → places_time table width (bus_at arch b).places ≤ 10 ^ 18
bus_places-bound table arch b width laws sound h some within = places_time-bound table width (bus_at arch b).places laws (sound_bus table arch b no_bus sound h).listed some within

-- the time that was kept for a bus
pub kept_time : (table : TableValue) (arch : List BusValue) (times : List ℕ) (i time : ℕ) → times ≡ map (bus_time_of table) arch → i < length arch → time ≡ get_or times i time → time ≡ bus_time_of table (bus_at arch i)
kept_time table arch times i time e h read = read ∙ (ap (λ xs. get_or xs i time) e ∙ get_or-map (bus_time_of table) arch i no_bus time h)

-- the time that was kept for a width
pub kept_row : (table : TableValue) (arch : List BusValue) (weights : MoveWeights) (width time : ℕ) → AreWeights table arch weights → 1 ≤ width → width ≤ (bus_at arch weights.bus).width → time ≡ get_or weights.row.items (width - 1) time → time ≡ places_time table width (bus_at arch weights.bus).places
kept_row table arch weights width time are some within read =
    let n = are.widths in
    let h : width - 1 < length weights.row.items = omega arith in
    let e : width - 1 + 1 ≡ width = omega arith in
    read ∙ (get_or_default_zero weights.row.items (width - 1) time h ∙ (are.row (width - 1) (omega arith) ∙ ap (λ w. places_time table w (bus_at arch weights.bus).places) e))
