-- The buses of a sound architecture keep the rules of plans that speak of buses.
use Rattle.std.proofs.Common.{◌≡◌, ℕ, ◌≤◌, ◌<◌, true, cond, nat_eq, Some, List, [], ◌∷◌, length, map, take, refl, ap, ◌∙◌, arith, eq-eqb, slice_get, IsTrue, All, Contains, sum_by, flat_map}
use Rattle.std.proofs.lemmas.Bool.{eqb-true}
use Rattle.std.proofs.lemmas.List.{map-append, length-map}
use Rattle.std.proofs.lemmas.List.Sums.{sum_by-cons, sum_by-append, sum_by_more_le}
use Rattle.std.proofs.lemmas.Option.{get_or_from_slice_get, slice_get_within, slice_get-get_or, slice_get-map}
use Rattle.soc_model.specs.Chips.{ModuleValue, SocValue, numbers}
use Rattle.soc_model.specs.SoundChips.{AllDiffer}
use Rattle.plan_model.specs.Plans.{BusValue, LimitsValue, has_module}
use Rattle.plan_model.specs.Rules.{Each, FitsWires, IsNew}
use Rattle.soc_model.specs.Modes.{has_tam}
use Rattle.plan_model.specs.Certificates.{passes, has_tam_at}
use Rattle.plan_model.proofs.Lists.{from_flat_map, at_contains, any_from}
use Rattle.plan_model.proofs.Sums.{item-le-sum_by, two-le-sum_by, some_passes}
use Rattle.plan_model.proofs.PlannedTests.{of_first_is}
use Rattle.width_table.specs.Tables.{TableValue, IsTable, places_of}
use Rattle.bus_model.specs.Sound.{IsSoundArch, times_listed, times_on_buses, wires_used, due}
use Rattle.bus_model.proofs.Times.{listed-in_range}
use Rattle.planner.specs.Buses.{number_at, plan_bus, plan_buses}
use Rattle.planner.specs.Wrapping.{bus_width}
use Rattle.common_lemmas.proofs.Lists.{from_take, all_at, all_from, from_map, contains_at, sum_map}
use Rattle.bus_model.specs.Buses as arch

-- ---- the places on all buses, and the numbers at places

abbrev pub all_places : List arch.BusValue → List ℕ
all_places buses = flat_map (λ (b : arch.BusValue). b.places) buses

times_all : (p : ℕ) (buses : List arch.BusValue) → times_listed p (all_places buses) ≡ times_on_buses p buses
times_all p [] = refl
times_all p (b ∷ buses) =
    let ih : times_listed p (all_places buses) ≡ times_on_buses p buses = times_all p buses in
    sum_by-append (λ q. cond (nat_eq q p) 1 0) b.places (all_places buses) ∙ omega (arith, sum_by-cons (λ (bus : arch.BusValue). times_listed p bus.places) b buses)

counts_one : (p q : ℕ) → p ≡ q → cond {A = ℕ} (nat_eq p q) 1 0 ≡ 1
counts_one p q e = rw (eq-eqb p q e) refl

module _ (soc : SocValue) where
  pub numbers_listed : (buses : List arch.BusValue) → flat_map (λ (v : BusValue). v.modules) (plan_buses soc buses) ≡ map (number_at soc) (all_places buses)
  numbers_listed [] = refl
  numbers_listed (b ∷ buses) = rw (numbers_listed buses, map-append) refl

  pub number_there : (p n : ℕ) → p < length soc.modules → number_at soc p ≡ n → slice_get (numbers soc) p ≡ Some n
  number_there p n h e =
      let long : length (numbers soc) ≡ length soc.modules = length-map soc.modules (λ (m : ModuleValue). m.number) in
      slice_get-get_or (numbers soc) p 0 (omega arith) ∙ ap Some e

  pub number_of : (p : ℕ) (m : ModuleValue) → slice_get soc.modules p ≡ Some m → number_at soc p ≡ m.number
  number_of p m at = get_or_from_slice_get (numbers soc) p m.number 0 (rw (slice_get-map (λ (m : ModuleValue). m.number) soc.modules p, at) refl)

  -- no number is listed twice
  pub differ_new : (places : List ℕ) → AllDiffer (numbers soc) → All (λ p. p < length soc.modules) places → ((p : ℕ) → times_listed p places ≤ 1) → Each IsNew (map (number_at soc) places)
  differ_new places differ low few n x at c =
      let k = contains_at (take n (map (number_at soc) places)) x c in
      let f = from_take (map (number_at soc) places) n k.0 x k.1 in
      let p = from_map (number_at soc) places k.0 x f.1 in
      let q = from_map (number_at soc) places n x at in
      let same : p.0 ≡ q.0 = differ p.0 q.0 x (number_there p.0 x (all_at (λ p. p < length soc.modules) places k.0 p.0 low p.1) p.2) (number_there q.0 x (all_at (λ p. p < length soc.modules) places n q.0 low q.1) q.2) in
      let two = two-le-sum_by (λ r. cond (nat_eq r q.0) 1 0) places k.0 n p.0 q.0 f.0 p.1 q.1 in
      absurd (omega (arith, few q.0, counts_one p.0 q.0 same, counts_one q.0 q.0 refl))

-- ---- a sound architecture

module _ (table : TableValue) (buses : List arch.BusValue) (sound : IsSoundArch table buses) where
  pub fit_wires : (limits : LimitsValue) → limits.wires ≡ table.wires → Each (FitsWires limits) (plan_buses table.soc buses)
  fit_wires limits same n x at =
      let b = from_map (plan_bus table.soc) buses n x at in
      let wide : 1 ≤ (b.0).width = all_at (λ (bus : arch.BusValue). 1 ≤ bus.width) buses n b.0 sound.wide b.1 in
      let here : (b.0).width ≡ x.width = ap (λ (v : BusValue). v.width) b.2 in
      let front = rw (get_or_from_slice_get (plan_buses table.soc buses) n x x at) at (sum_by_more_le (λ (v : BusValue). v.width) (plan_buses table.soc buses) n x (slice_get_within (plan_buses table.soc buses) n x at)) in
      let all : sum_by (λ (v : BusValue). v.width) (plan_buses table.soc buses) ≡ wires_used buses = sum_map (λ (v : BusValue). v.width) (plan_bus table.soc) buses in
      (omega arith, omega (arith, sound.fits))

  -- each due place once, and no other
  pub once_all : (p : ℕ) → times_listed p (all_places buses) ≡ due table p
  once_all p = times_all p buses ∙ sound.once p

  pub all_in_range : IsTable table → All (λ p. p < places_of table) (all_places buses)
  all_in_range laws = listed-in_range table (all_places buses) laws (λ p. omega (arith, once_all p))

  -- so those of each bus are in range
  pub buses_in_range : IsTable table → All (λ (bus : arch.BusValue). All (λ p. p < places_of table) bus.places) buses
  buses_in_range laws = all_from (λ (bus : arch.BusValue). All (λ p. p < places_of table) bus.places) buses (λ i bus at.
      listed-in_range table bus.places laws (λ p. omega (arith, sound.once p, item-le-sum_by (λ (bus : arch.BusValue). times_listed p bus.places) buses i bus at)))

  -- a module with a test over the wires is listed
  pub listed_number : (place : ℕ) (m : ModuleValue) → slice_get table.soc.modules place ≡ Some m → IsTrue (has_tam m) → Contains (map (number_at table.soc) (all_places buses)) m.number
  listed_number place m at tam =
      let has : has_tam_at table.soc place ≡ true = ap (passes has_tam) at ∙ tam in
      let one : due table place ≡ 1 = rw has refl in
      let s = some_passes (λ q. nat_eq q place) (all_places buses) (omega (arith, once_all place, one)) in
      at_contains (map (number_at table.soc) (all_places buses)) s.0 m.number (rw (slice_get-map (number_at table.soc) (all_places buses) s.0, s.2, eqb-true s.1 place s.3, number_of table.soc place m at) refl)

  -- the width of its bus
  pub width_within : (number : ℕ) → Contains (map (number_at table.soc) (all_places buses)) number → (1 ≤ bus_width (plan_buses table.soc buses) number) × (bus_width (plan_buses table.soc buses) number ≤ table.wires)
  width_within number listed =
      let k = contains_at (flat_map (λ (v : BusValue). v.modules) (plan_buses table.soc buses)) number (rw (numbers_listed table.soc buses) listed) in
      let f = from_flat_map (λ (v : BusValue). v.modules) (plan_buses table.soc buses) k.0 number k.1 in
      let has : has_module number f.1 ≡ true = any_from (nat_eq number) (f.1).modules f.2 number f.4 (eq-eqb number number refl) in
      let r = of_first_is (has_module number) (λ (b : BusValue). b.width) 0 (plan_buses table.soc buses) f.0 f.1 f.3 has in
      let b = from_map (plan_bus table.soc) buses r.0 r.1 r.2 in
      let wide : 1 ≤ (b.0).width = all_at (λ (bus : arch.BusValue). 1 ≤ bus.width) buses r.0 b.0 sound.wide b.1 in
      let same : (b.0).width ≡ (r.1).width = ap (λ (v : BusValue). v.width) b.2 in
      let part = item-le-sum_by (λ (bus : arch.BusValue). bus.width) buses r.0 b.0 b.1 in
      (omega (arith, r.4), omega (arith, r.4, sound.fits))
