-- The buses of the start solution.
use Rattle.std.proofs.Common.{◌≡◌, ℕ, zero, suc, ◌-◌, ◌<◌, ◌≤◌, List, [], ◌∷◌, ◌++◌, length, set, map, take, drop, fold, nat_le, true, false, All, cond, nat_eq, refl, ◌∙◌, ap, arith}
use Rattle.std.proofs.lemmas.List.Sums.{sum_by-cons, sum_by-set, sum_by-append, sum_by-le, get_or-le-sum_by, sum_by-take-le, sum_by-take-drop}
use Rattle.std.proofs.lemmas.List.Elements.{All-map, All-set}
use Rattle.std.proofs.lemmas.List.{length-append}
use Rattle.width_table.specs.Tables.{TableValue}
use Rattle.bus_model.specs.Buses.{BusValue, bus_at, no_bus, spread_of}
use Rattle.bus_model.specs.Sound.{IsSoundBus, IsSoundArch, times_listed, times_on_buses, wires_used, due}
use Rattle.bus_model.specs.Start.{one_wire, with_place, placed_on_quickest, start_of}
use Rattle.bus_model.proofs.Keys.{listed_push}

-- the buses of one wire each, with the modules that were placed so far
pub record HoldsPlaces (placed : List ℕ) (arch : List BusValue) : Type 0 where
  pub on : (p : ℕ) → times_on_buses p arch ≡ times_listed p placed
  pub filled : All (λ bus. 1 ≤ length bus.places) arch
  pub narrow : All (λ bus. bus.width ≡ 1) arch

on_one_wire : (xs : List ℕ) (p : ℕ) → times_on_buses p (map one_wire xs) ≡ times_listed p xs
on_one_wire [] p = refl
on_one_wire (x ∷ xs) p =
    let e = on_one_wire xs p in
    let a = sum_by-cons (λ bus. times_listed p bus.places) (one_wire x) (map one_wire xs) in
    let b = sum_by-cons (λ q. cond (nat_eq q p) 1 0) x xs in
    omega arith

pub holds_one_wire : (xs : List ℕ) → HoldsPlaces xs (map one_wire xs)
holds_one_wire xs = record {
  on = on_one_wire xs;
  filled = All-map (λ bus. 1 ≤ length bus.places) one_wire xs (λ k d h. omega arith);
  narrow = All-map (λ bus. bus.width ≡ 1) one_wire xs (λ k d h. refl);
}

-- one module more, on any bus
pub holds_more : (placed : List ℕ) (arch : List BusValue) (at place : ℕ) → HoldsPlaces placed arch → at < length arch → HoldsPlaces (placed ++ place ∷ []) (set arch at (with_place (bus_at arch at) place))
holds_more placed arch at place old h = record {
  on = λ p.
      let a = sum_by-set (λ bus. times_listed p bus.places) arch at (with_place (bus_at arch at) place) no_bus h in
      let b = listed_push p (bus_at arch at).places place in
      let c = listed_push p placed place in
      let e = old.on p in
      omega arith;
  filled = All-set (λ bus. 1 ≤ length bus.places) arch at (with_place (bus_at arch at) place) (let e = length-append (bus_at arch at).places (place ∷ []) in omega arith) old.filled;
  narrow = All-set (λ bus. bus.width ≡ 1) arch at (with_place (bus_at arch at) place) (old.narrow at no_bus h) old.narrow;
}

-- such buses are sound
pub holds_sound_buses : (table : TableValue) (placed : List ℕ) (arch : List BusValue) → 1 ≤ table.wires → ((p : ℕ) → times_listed p placed ≤ due table p) → HoldsPlaces placed arch → All (IsSoundBus table) arch
holds_sound_buses table placed arch some few holds k d h = record {
  listed = λ p. let e = holds.on p in let m = few p in let g = get_or-le-sum_by (λ bus. times_listed p bus.places) arch k d h in omega arith;
  some = let e = holds.narrow k d h in omega arith;
  within = let e = holds.narrow k d h in omega arith;
}

pub holds_sound : (table : TableValue) (placed : List ℕ) (arch : List BusValue) → ((p : ℕ) → times_listed p placed ≡ due table p) → length arch ≤ table.wires → HoldsPlaces placed arch → IsSoundArch table arch
holds_sound table placed arch once few holds = record {
  once = λ p. holds.on p ∙ once p;
  filled = holds.filled;
  wide = λ k d h. let e = holds.narrow k d h in omega arith;
  fits = let e = sum_by-le (λ bus. bus.width) 1 arch (λ k d h. let e = holds.narrow k d h in omega arith) in omega arith;
}

pub used_one_wire : (placed : List ℕ) (arch : List BusValue) → HoldsPlaces placed arch → wires_used arch ≤ length arch
used_one_wire placed arch holds = let e = sum_by-le (λ bus. bus.width) 1 arch (λ k d h. let e = holds.narrow k d h in omega arith) in omega arith

-- no bus, nothing to widen
pub spread_of-none : (table : TableValue) (n : ℕ) → spread_of table n [] ≡ []
spread_of-none table zero = refl
spread_of-none table (suc n) = spread_of-none table n

pub start_of-roomy : (table : TableValue) (order : List ℕ) → length order ≤ table.wires → start_of table order ≡ spread_of table (table.wires - length order) (map one_wire order)
unfolding start_of
start_of-roomy table order room =
    ap (λ b. cond b (spread_of table (table.wires - length order) (map one_wire order)) (fold (placed_on_quickest table) (map one_wire (take table.wires order)) (drop table.wires order)))
    (le_true (length order) table.wires room)
  where
    le_true : (a b : ℕ) → a ≤ b → nat_le a b ≡ true
    le_true a b h = grind arith

pub start_of-crowded : (table : TableValue) (order : List ℕ) → table.wires < length order → start_of table order ≡ fold (placed_on_quickest table) (map one_wire (take table.wires order)) (drop table.wires order)
unfolding start_of
start_of-crowded table order room =
    ap (λ b. cond b (spread_of table (table.wires - length order) (map one_wire order)) (fold (placed_on_quickest table) (map one_wire (take table.wires order)) (drop table.wires order)))
    (le_false (length order) table.wires room)
  where
    le_false : (a b : ℕ) → b < a → nat_le a b ≡ false
    le_false a b h = grind arith

pub none_of_no_length : {X : Type 0} (xs : List X) → length xs ≡ 0 → xs ≡ []
none_of_no_length [] e = refl
none_of_no_length (x ∷ xs) e = absurd (omega arith)

-- a first part of the order lists no place too often
pub listed_part : (table : TableValue) (order first rest : List ℕ) (i : ℕ) → ((p : ℕ) → times_listed p order ≡ due table p) → first ≡ take table.wires order → rest ≡ drop table.wires order → (p : ℕ) → times_listed p (first ++ take i rest) ≤ due table p
listed_part table order first rest i once ef er p =
    let a = sum_by-append (λ q. cond (nat_eq q p) 1 0) first (take i rest) in
    let b = sum_by-take-le (λ q. cond (nat_eq q p) 1 0) rest i in
    let c = sum_by-take-drop (λ q. cond (nat_eq q p) 1 0) order table.wires in
    let f = ap (times_listed p) ef in
    let r = ap (times_listed p) er in
    let e = once p in
    omega arith
