-- Room of which lists are written over, or are others.
use Rattle.std.proofs.Common.{◌≡◌, ◌∙◌, ℕ, ◌<◌, List, length, sym, ap, subst, All}
use Rattle.std.specs.Global.{Vec}
use Rattle.std.specs.List.Sorted.{IsPermutation}
use Rattle.std.specs.Vec.{with_items}
use Rattle.std.proofs.lemmas.List.{with_items_is}
use Rattle.std.proofs.lemmas.List.Sorted.{All-permutation, length_permutation}
use Rattle.arch_schedule.specs.declared.room.ScheduleRoom.{ScheduleRoom}
use Rattle.arch_schedule.specs.declared.sorting.Keyed.{Keyed}
use Rattle.arch_schedule.specs.Rooms.{HasRoom}

-- a list that is written over keeps its length
pub as_long : {X : Type 0} (v : Vec X) (items : List X) → length (with_items v items).items ≡ length v.items
as_long v items = sym (with_items v items).ok.0 ∙ v.ok.0

-- room with other chains
pub with_chains : (tests : ℕ) (r : ScheduleRoom) (chains : List ℕ) → HasRoom tests r → HasRoom tests (record r { chains = with_items r.chains chains })
with_chains tests r chains has = record {
  slots = has.slots;
  cycles = has.cycles;
  chains = as_long r.chains chains ∙ has.chains;
  starts = has.starts;
  keys = has.keys;
  second = has.second;
  in_slots = has.in_slots;
  small_starts = has.small_starts;
  in_second = has.in_second;
}

-- room with another order of the tests
pub with_second : (tests : ℕ) (r : ScheduleRoom) (v order : Vec ℕ) → v ≡ order → HasRoom tests r → length order.items ≡ tests → All (λ test. test < tests) order.items → HasRoom tests (record r { second = v })
with_second tests r v order is has long within = record {
  slots = has.slots;
  cycles = has.cycles;
  chains = has.chains;
  starts = has.starts;
  keys = has.keys;
  second = ap (λ (o : Vec ℕ). length o.items) is ∙ long;
  in_slots = has.in_slots;
  small_starts = has.small_starts;
  in_second = subst (λ (o : Vec ℕ). All (λ test. test < tests) o.items) (sym is) within;
}

-- the places of keys that were written and sorted
pub places_sorted : (tests : ℕ) (v : Vec Keyed) (chains : List ℕ) (keys from sorted lent : List Keyed) → length chains ≡ tests → length keys ≡ length v.items → All (λ (k : Keyed). k.place < length chains) keys →
    from ≡ (with_items v keys).items → IsPermutation from sorted → lent ≡ (with_items (with_items v keys) sorted).items → All (λ (k : Keyed). k.place < tests) lent
places_sorted tests v chains keys from sorted lent chains_long keys_long places from_is moved lent_is =
    let written : from ≡ keys = from_is ∙ with_items_is v keys (keys_long ∙ sym v.ok.0) in
    let all : All (λ (k : Keyed). k.place < tests) keys = subst (λ (n : ℕ). All (λ (k : Keyed). k.place < n) keys) chains_long places in
    let sorted_all : All (λ (k : Keyed). k.place < tests) sorted = All-permutation (λ (k : Keyed). k.place < tests) from sorted moved (subst (λ (l : List Keyed). All (λ (k : Keyed). k.place < tests) l) (sym written) all) in
    let long : length sorted ≡ (with_items v keys).len = length_permutation from sorted moved ∙ ap length from_is ∙ sym (with_items v keys).ok.0 in
    let is : lent ≡ sorted = lent_is ∙ with_items_is (with_items v keys) sorted long in
    subst (λ (l : List Keyed). All (λ (k : Keyed). k.place < tests) l) (sym is) sorted_all

-- room with other keys, and an order that was written from them
pub with_keys : (tests : ℕ) (r : ScheduleRoom) (keys sorted : List Keyed) (order : List ℕ) → length order ≡ length r.second.items → All (λ test. test < tests) order → HasRoom tests r →
    HasRoom tests (record r { keys = with_items (with_items r.keys keys) sorted; second = with_items r.second order })
with_keys tests r keys sorted order long within has = record {
  slots = has.slots;
  cycles = has.cycles;
  chains = has.chains;
  starts = has.starts;
  keys = as_long (with_items r.keys keys) sorted ∙ as_long r.keys keys ∙ has.keys;
  second = as_long r.second order ∙ has.second;
  in_slots = has.in_slots;
  small_starts = has.small_starts;
  in_second = subst (λ (l : List ℕ). All (λ test. test < tests) l) (sym (with_items_is r.second order (long ∙ sym r.second.ok.0))) within;
}
