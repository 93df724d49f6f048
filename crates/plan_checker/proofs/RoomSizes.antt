-- The sizes of the checker's room against those of a chip.
use Rattle.std.proofs.Common.{◌≡◌, ℕ, ◌+◌, ◌*◌, ◌≤◌, Some, List, [], ◌∷◌, ◌++◌, Result, Ok, Err, Bool, true, false, length, take, refl, sym, ap, ◌∙◌, arith, inl, inr, Vec, Global, slice_get, IfOk, OnOk, flat_map, filter, sum_by}
use Rattle.std.proofs.lemmas.Bool.{cases_Bool}
use Rattle.std.specs.Vec.{with_items}
use Rattle.std.proofs.lemmas.List.{length-append, with_items_is}
use Rattle.std.proofs.lemmas.List.Sums.{sum_by_more}
use Rattle.std.proofs.lemmas.Option.{slice_get_within, get_or_from_slice_get}
use Rattle.soc_model.specs.Chips.{ModuleValue, SocValue, is_live}
use Rattle.plan_model.specs.Rules.{mode_pair, used_pairs, uses_mode}
use Rattle.plan_checker.specs.Room.{AreSizes, HasNamedRoom, HasNamedRoomFor, HasRoom, IsNamedRoom, RoomValue, room_value}
use Rattle.plan_checker.specs.declared.check.NamedRooms.{NamedRooms}
use Rattle.plan_checker.specs.declared.space.CheckSizes.{CheckSizes}

-- ---- a written list

-- as many numbers written over a list leave it as long
pub with_long : {X : Type 0} (v : Vec X Global) (xs : List X) → length xs ≡ length v.items → length (with_items v xs).items ≡ length v.items
with_long v xs e = ap length (with_items_is v xs (omega (arith, e, v.ok.0))) ∙ e

-- and the list is what was written
pub with_same : {X : Type 0} (v : Vec X Global) (xs : List X) → length xs ≡ length v.items → (with_items v xs).items ≡ xs
with_same v xs e = with_items_is v xs (omega (arith, e, v.ok.0))

-- ---- pairs

one_pair : (scan : Bool) (m : ModuleValue) → length (mode_pair scan m) ≤ 1
one_pair scan m = elim (cases_Bool (uses_mode scan m)) [
  | inl yes' ↦ rw yes' (omega arith)
  | inr no' ↦ rw no' (omega arith)
]

abbrev pairs_of : List ModuleValue → List (ℕ × Bool)
pairs_of ms = flat_map (λ (m : ModuleValue). mode_pair true m ++ mode_pair false m) ms

pairs_le : (ms : List ModuleValue) → length (pairs_of ms) ≤ length ms * 2
pairs_le [] = omega arith
pairs_le (m ∷ ms) =
    let rest : length (pairs_of ms) ≤ length ms * 2 = pairs_le ms in
    let scan : length (mode_pair true m) ≤ 1 = one_pair true m in
    let terminals : length (mode_pair false m) ≤ 1 = one_pair false m in
    rw (length-append (mode_pair true m ++ mode_pair false m) (pairs_of ms), length-append (mode_pair true m) (mode_pair false m)) (omega (arith, rest, scan, terminals))

pub pairs_fit : (soc : SocValue) (modules pairs : ℕ) → modules ≡ length soc.modules → pairs ≡ modules * 2 → length (used_pairs soc) ≤ pairs
pairs_fit soc modules pairs a b = omega (arith, a, b, pairs_le soc.modules)

-- room by the sizes of a chip
pub has_room : {E : Type 0} (r : Result RoomValue E) (soc : SocValue) (sizes : CheckSizes) → IfOk r (λ room. (room.modules ≡ sizes.modules) × (sizes.pairs ≤ room.pairs) × (room.tests ≡ sizes.tests)) → AreSizes soc sizes → IfOk r (HasRoom soc)
has_room (Ok room) soc sizes is are = record {
  modules = is.0 ∙ are.modules;
  pairs = omega (arith, is.1, are.pairs);
  tests = is.2 ∙ are.tests;
}
has_room (Err e) soc sizes is are = tt

-- ---- live tests

pub live_more : (ms : List ModuleValue) (i : ℕ) (m : ModuleValue) (count n next : ℕ) → slice_get ms i ≡ Some m → count ≡ sum_by (λ (m : ModuleValue). length (filter is_live m.tests)) (take i ms) → n ≡ length (filter is_live m.tests) → next ≡ count + n → next ≡ sum_by (λ (m : ModuleValue). length (filter is_live m.tests)) (take (i + 1) ms)
live_more ms i m count n next at so here is =
    let more = sum_by_more (λ (m : ModuleValue). length (filter is_live m.tests)) ms i m (slice_get_within ms i m at) in
    let more' = rw (get_or_from_slice_get ms i m m at) at more in
    omega (arith, more', so, here, is)

-- ---- room with a set of names

-- room for a chip is room for what it wants
pub room_for : (rooms : NamedRooms) (soc : SocValue) → HasRoom soc (room_value rooms) → IsNamedRoom rooms → HasNamedRoomFor soc rooms
room_for rooms soc has is = record {
  rules = record {
    marks = has.modules;
    wrappers = has.pairs;
    starts = is.rules.starts ∙ has.tests;
    placed = record {
      parents = is.rules.placed.parents ∙ has.modules;
      wrappers = is.rules.placed.wrappers ∙ has.modules;
      tests = has.tests;
      begins = is.rules.placed.begins ∙ has.tests;
      ends = omega (arith, is.rules.placed.ends, has.modules);
      profiles = is.rules.placed.profiles ∙ has.tests;
      events = omega (arith, is.rules.placed.events, has.tests);
    };
  };
  names = omega (arith, is.names, has.tests);
}

pub value_for : (rooms : NamedRooms) (soc : SocValue) → HasNamedRoomFor soc rooms → HasRoom soc (room_value rooms)
value_for rooms soc has = record { modules = has.rules.marks; pairs = has.rules.wrappers; tests = has.rules.placed.tests }

-- room for anything is room for what it says
pub is_named : (rooms : NamedRooms) (modules pairs live : ℕ) → HasNamedRoom modules pairs live rooms → IsNamedRoom rooms
is_named rooms modules pairs live has = record {
  rules = record {
    marks = refl;
    wrappers = omega arith;
    starts = has.rules.starts ∙ sym has.rules.placed.tests;
    placed = record {
      parents = has.rules.placed.parents ∙ sym has.rules.marks;
      wrappers = has.rules.placed.wrappers ∙ sym has.rules.marks;
      tests = refl;
      begins = has.rules.placed.begins ∙ sym has.rules.placed.tests;
      ends = omega (arith, has.rules.placed.ends, has.rules.marks);
      profiles = has.rules.placed.profiles ∙ sym has.rules.placed.tests;
      events = omega (arith, has.rules.placed.events, has.rules.placed.tests);
    };
  };
  names = omega (arith, has.names, has.rules.placed.tests);
}

-- ---- what follows for an answer that is good

pub on_good : {A E : Type 0} (r : Result A E) (P Q : Type 0) → (P → Q) → OnOk r P → OnOk r Q
on_good (Ok a) P Q f p = f p
on_good (Err e) P Q f p = tt
