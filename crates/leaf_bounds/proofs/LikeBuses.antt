-- Buses on which priced modules are worth the same, and wider ones.
use Rattle.std.proofs.Common.{◌≡◌, ℕ, ◌*◌, ◌≤◌, Bool, true, Option, Some, List, [], ◌∷◌, refl, arith, mul-le-mul, zero, suc, ◌+◌, ◌-◌, ◌/◌, ◌<◌, ◌⊎◌, false, None, length, replicate, sym, ap, ◌∙◌, subst, inl, inr, slice_get, ◌&&◌, if◌then◌else◌, nat_lt, slice_index, slice_set, sum_by}
use Rattle.std.proofs.lemmas.Bool.{leb-true, cases_eq, cases_lt, le-ltb, lt-ltb}
use Rattle.std.proofs.lemmas.List.Sums.{sum_by-cons}
use Rattle.soc_model.specs.declared.Test.{Test}
use Rattle.soc_model.specs.Chips.{ModuleValue, SocValue, LiveTest, is_live, live_tests}
use Rattle.plan_model.specs.Bounds.{is_of}
use Rattle.plan_model.proofs.Lists.{from_filter, slice_get-replicate}
use Rattle.plan_model.proofs.PlannedTests.{live_at}
use Rattle.plan_model.proofs.Sums.{sum_by-le_at}
use Rattle.proof_facts.specs.Packed.{packed_time, packed_tam_time, self_test_time}
use Rattle.plan_model.specs.Plans.{LimitsValue}
use Rattle.plan_model.specs.Proofs.{ListValue, WeightsValue, PricingValue}
use Rattle.leaf_bounds.specs.Lists.{use_of}
use Rattle.leaf_bounds.specs.Leaves.{slot, is_rank, module_use, weighed, is_short}
use Rattle.leaf_bounds.specs.Laws.{WiderSlotsCostNoLess}
use Rattle.leaf_bounds.proofs.WeighedSums.{weighed-le, use_of-mono}
use Rattle.common_lemmas.proofs.Tests.{if_le}
use Rattle.std.proofs.lemmas.List.{get_or-set_other, get_or-set_same, length-replicate}
use Rattle.std.proofs.lemmas.Option.{slice_get_within}
use Rattle.live_tests.proofs.WrittenParents.{set_else}
use Rattle.pack_leaves.specs.Knapsacks.{most_worth, with_item}
use Rattle.pack_leaves.proofs.Loads.{worth_next, worth_none}
use Rattle.pack_leaves.proofs.Rows.{item_same}
use Rattle.leaf_bounds.specs.declared.basis.Basis.{Basis}
use Rattle.leaf_bounds.specs.declared.case.CaseRoom.{CaseRoom}
use Rattle.leaf_bounds.specs.declared.leaf_costs.Weighed.{Weighed}
use Rattle.leaf_bounds.specs.declared.pack_room.KeptWorths.{KeptWorths}
use Rattle.leaf_bounds.specs.Cases.{Case, known_ranks}
use Rattle.leaf_bounds.specs.Bases.{chip_of, claim_of, limits_of, lists_of}
use Rattle.leaf_bounds.specs.LeafCosts.{IsWeighed}
use Rattle.leaf_bounds.specs.PackLeaves.{ArePlaces, bus_at, bus_rank, cells_of, cells_taken, has_slot, list_weights, may_be, net_worth, price_at, priced_place}
use Rattle.leaf_bounds.specs.PackBuses.{AreKept, IsKeptAt, IsLikeItem, IsLikeRank, IsWorth, bus_most}
use Rattle.leaf_bounds.proofs.LeafAnswers.{HasNoList, IsAside, known_aside, lower_rate}
use Rattle.common_lemmas.proofs.Lists.{set_here}

-- ==== where a module takes one time on two widths, it costs no less on the wider

-- terms that are no greater, and as great together
same_terms : {X : Type 0} (f g : X → ℕ) (xs : List X) → ((i : ℕ) (x : X) → slice_get xs i ≡ Some x → g x ≤ f x) → sum_by f xs ≤ sum_by g xs → (i : ℕ) {x : X} →
    slice_get xs i ≡ Some x → f x ≤ g x
same_terms f g [] less all i at = absurd cc
same_terms f g (y ∷ xs) less all zero {x} at =
    let here : f y ≤ g y = omega (arith, all, sum_by-le_at g f xs (λ i z at. less (suc i) z at), sum_by-cons f y xs, sum_by-cons g y xs) in
    let same : y ≡ x = cc in
    rw (← same) here
same_terms f g (y ∷ xs) less all (suc i) at =
    let here : g y ≤ f y = less 0 y refl in
    same_terms f g xs (λ i z at. less (suc i) z at) (omega (arith, all, here, sum_by-cons f y xs, sum_by-cons g y xs)) i at

-- packed times never grow with the width
abbrev pub PackedTimesFall : Type 0
PackedTimesFall = (m : ModuleValue) (t : Test) (v w : ℕ) → 1 ≤ t.patterns → 1 ≤ v → v ≤ w → packed_time m t w ≤ packed_time m t v

live_patterns : (soc : SocValue) (i : ℕ) {l : LiveTest} → slice_get (live_tests soc) i ≡ Some l → 1 ≤ l.test.patterns
live_patterns soc i {l} at =
    let o = live_at soc.modules 0 i l at in
    leb-true 1 l.test.patterns (from_filter is_live l.core.tests o.n l.test o.test_at).2

-- each test takes as long on the wider
each-le : PackedTimesFall → (soc : SocValue) (p v w : ℕ) → 1 ≤ v → v ≤ w → packed_tam_time soc p v ≤ packed_tam_time soc p w → (i : ℕ) {l : LiveTest} →
    slice_get (live_tests soc) i ≡ Some l → l.test.tam && is_of p l ≡ true → packed_time l.core l.test v ≤ packed_time l.core l.test w
each-le falls soc p v w some wide same i {l} at here =
    taken (l.test.tam && is_of p l) here (same_terms (λ l. if l.test.tam && is_of p l then packed_time l.core l.test v else 0) (λ l. if l.test.tam && is_of p l then packed_time l.core l.test w else 0) (live_tests soc)
    (λ i l at. if_le (l.test.tam && is_of p l) (packed_time l.core l.test w) (packed_time l.core l.test v) (λ e. falls l.core l.test v w (live_patterns soc i at) some wide)) same i at)
  where
    taken : (b : Bool) → b ≡ true → (if b then packed_time l.core l.test v else 0) ≤ (if b then packed_time l.core l.test w else 0) → packed_time l.core l.test v ≤ packed_time l.core l.test w
    taken b e h = rw e at h

pub wider_costs : PackedTimesFall → WiderSlotsCostNoLess
wider_costs falls soc limits lists weights p rank v w rate rate' some wide same more =
    let products : rate * packed_tam_time soc p v ≤ rate' * packed_tam_time soc p w = mul-le-mul more (omega arith) in
    let uses : weighed lists weights (module_use soc limits p (slot rank v rate)) ≤ weighed lists weights (module_use soc limits p (slot rank w rate')) =
    weighed-le lists weights (module_use soc limits p (slot rank v rate)) (module_use soc limits p (slot rank w rate')) (λ n list there.
    sum_by-le_at (λ l. if l.test.tam && is_of p l then use_of soc limits (is_rank rank) list (packed_time l.core l.test v) l else 0) (λ l. if l.test.tam && is_of p l then use_of soc limits (is_rank rank) list (packed_time l.core l.test w) l else 0) (live_tests soc)
    (λ i l at. if_le (l.test.tam && is_of p l) (use_of soc limits (is_rank rank) list (packed_time l.core l.test v) l) (use_of soc limits (is_rank rank) list (packed_time l.core l.test w) l)
    (λ here. use_of-mono soc limits (is_rank rank) list (packed_time l.core l.test v) (packed_time l.core l.test w) l (each-le falls soc p v w some wide (omega arith) i at here)))) in
    omega (arith, products, uses)

-- and uses no more of the lists on the wider
pub wider_uses : PackedTimesFall → (soc : SocValue) (limits : LimitsValue) (lists : List ListValue) (weights : WeightsValue) (p : ℕ) (rank : Option ℕ) (v w : ℕ) → 1 ≤ v → v ≤ w →
    weighed lists weights (module_use soc limits p (slot rank w 0)) ≤ weighed lists weights (module_use soc limits p (slot rank v 0))
wider_uses falls soc limits lists weights p rank v w some wide =
    weighed-le lists weights (module_use soc limits p (slot rank w 0)) (module_use soc limits p (slot rank v 0)) (λ n list there.
    sum_by-le_at (λ l. if l.test.tam && is_of p l then use_of soc limits (is_rank rank) list (packed_time l.core l.test w) l else 0) (λ l. if l.test.tam && is_of p l then use_of soc limits (is_rank rank) list (packed_time l.core l.test v) l else 0) (live_tests soc)
    (λ i l at. if_le (l.test.tam && is_of p l) (use_of soc limits (is_rank rank) list (packed_time l.core l.test w) l) (use_of soc limits (is_rank rank) list (packed_time l.core l.test v) l)
    (λ here. use_of-mono soc limits (is_rank rank) list (packed_time l.core l.test w) (packed_time l.core l.test v) l (falls l.core l.test v w (live_patterns soc i at) some wide))))

-- ==== buses on which priced modules are worth the same

-- ---- items that are alike

-- one item more
item_like : (b b' : Bool) (time time' net net' : ℕ) (f h : ℕ → ℕ) (x : ℕ) → b ≡ b' → (b ≡ true → time ≡ time') → (b ≡ true → net ≡ net') → ((y : ℕ) → f y ≡ h y) → with_item b time net f x ≡ with_item b' time' net' h x
item_like false false time time' net net' f h x slot cells nets same = same x
item_like false true time time' net net' f h x slot cells nets same = absurd cc
item_like true false time time' net net' f h x slot cells nets same = absurd cc
item_like true true time time' net net' f h x slot cells nets same =
    ap (λ t. with_item true t net f x) (cells refl) ∙ ap (λ n. with_item true time' n f x) (nets refl) ∙ item_same time' net' x f h (λ y less. same y)

most_like : (may may' : ℕ → Bool) (time time' net net' : ℕ → ℕ) (count cells : ℕ) → ((i : ℕ) → i < count → may i ≡ may' i) → ((i : ℕ) → i < count → may i ≡ true → time i ≡ time' i) →
    ((i : ℕ) → i < count → may i ≡ true → net i ≡ net' i) → most_worth may time net count cells ≡ most_worth may' time' net' count cells
most_like may may' time time' net net' zero cells slots takes nets = worth_none may time net cells ∙ sym (worth_none may' time' net' cells)
most_like may may' time time' net net' (suc i) cells slots takes nets =
    worth_next may time net i cells
    ∙ item_like (may i) (may' i) (time i) (time' i) (net i) (net' i) (most_worth may time net i) (most_worth may' time' net' i) cells (slots i (omega arith)) (takes i (omega arith)) (nets i (omega arith))
    (λ y. most_like may may' time time' net net' i y (λ k less. slots k (omega (arith, less))) (λ k less. takes k (omega (arith, less))) (λ k less. nets k (omega (arith, less))))
    ∙ sym (worth_next may' time' net' i cells)

-- so the buses are worth the same
pub like_most : (g : Basis) (c : Case) (pricing : PricingValue) (rank width other before : ℕ) →
    ((i : ℕ) → i < length pricing.prices → IsLikeItem g c pricing (priced_place (chip_of g) pricing i) (price_at pricing i) rank width other before) →
    bus_most g c pricing rank width ≡ bus_most g c pricing other before
like_most g c pricing rank width other before like =
    most_like (λ item. has_slot (chip_of g) (claim_of g) c (priced_place (chip_of g) pricing item) rank width) (λ item. has_slot (chip_of g) (claim_of g) c (priced_place (chip_of g) pricing item) other before)
    (λ item. cells_taken (chip_of g) pricing (priced_place (chip_of g) pricing item) width) (λ item. cells_taken (chip_of g) pricing (priced_place (chip_of g) pricing item) before)
    (λ item. net_worth (chip_of g) (limits_of g) (lists_of g) c pricing item rank width) (λ item. net_worth (chip_of g) (limits_of g) (lists_of g) c pricing item other before)
    (length pricing.prices) (cells_of (claim_of g) pricing) (λ i less. (like i less).slot) (λ i less. (like i less).cells) (λ i less. (like i less).net)

-- ---- widths

-- a module whose tests take as long on both widths
pub time_like : PackedTimesFall → (g : Basis) (c : Case) (pricing : PricingValue) (place price rank before width : ℕ) → 1 ≤ before → before ≤ width →
    packed_tam_time (chip_of g) place before ≡ packed_tam_time (chip_of g) place width → IsLikeItem g c pricing place price rank width rank before
time_like falls g c pricing place price rank before width some wide same = record {
  slot = slots (lt-ltb 0 width (omega (arith, some, wide))) (lt-ltb 0 before (omega (arith, some)));
  cells = λ e. ap (λ t. t / pricing.grain) (sym same);
  net = λ e. ap (λ u. price - u) uses;
}
  where
    slots : nat_lt 0 width ≡ true → nat_lt 0 before ≡ true → has_slot (chip_of g) (claim_of g) c place rank width ≡ has_slot (chip_of g) (claim_of g) c place rank before
    slots wide' some' =
        ap (λ b. may_be c place rank && (b && is_short (chip_of g) (claim_of g) place (bus_at c rank width))) (wide' ∙ sym some')
        ∙ ap (λ t. may_be c place rank && (nat_lt 0 before && nat_lt (t + self_test_time (chip_of g) place) (claim_of g))) (sym same)

    uses : weighed (lists_of g) (list_weights pricing) (module_use (chip_of g) (limits_of g) place (slot (bus_rank (known_ranks c) rank) width 0))
        ≡ weighed (lists_of g) (list_weights pricing) (module_use (chip_of g) (limits_of g) place (slot (bus_rank (known_ranks c) rank) before 0))
    uses =
        let less = wider_uses falls (chip_of g) (limits_of g) (lists_of g) (list_weights pricing) place (bus_rank (known_ranks c) rank) before width some wide in
        let more =
        wider_costs falls (chip_of g) (limits_of g) (lists_of g) (list_weights pricing) place (bus_rank (known_ranks c) rank) before width 0 0 some wide same (omega arith) in
        omega (arith, less, more)

-- ---- ranks

-- no list speaks of its bus
bus_aside : (room : Weighed) (known rank : ℕ) → HasNoList room rank → IsAside room (bus_rank known rank)
bus_aside room known rank none = elim (cases_lt rank known) [
  | inl is ↦ rw (lt-ltb rank known is) (known_aside room rank none)
  | inr rest ↦ rw (le-ltb rank known rest) (λ i d less. refl)
]

-- what a module uses of the lists
uses_like : {g : Basis} (pricing : PricingValue) {room : Weighed} (place : ℕ) (own other : Option ℕ) (width : ℕ) → IsWeighed g (list_weights pricing) room →
    IsAside room own → IsAside room other →
    weighed (lists_of g) (list_weights pricing) (module_use (chip_of g) (limits_of g) place (slot own width 0)) ≡ weighed (lists_of g) (list_weights pricing) (module_use (chip_of g) (limits_of g) place (slot other width 0))
uses_like {g} pricing place own other width w none none_other =
    omega (arith, lower_rate place own other width 0 0 w none (omega arith), lower_rate place other own width 0 0 w none_other (omega arith))

rank_like : {g : Basis} (c : Case) (pricing : PricingValue) {room : Weighed} (place price rank other width : ℕ) → IsWeighed g (list_weights pricing) room →
    HasNoList room rank → HasNoList room other → may_be c place rank ≡ may_be c place other → IsLikeItem g c pricing place price rank width other width
rank_like {g} c pricing {room} place price rank other width w none none_other may = record {
  slot = ap (λ b. b && (nat_lt 0 width && nat_lt (packed_tam_time (chip_of g) place width + self_test_time (chip_of g) place) (claim_of g))) may;
  cells = λ e. refl;
  net = λ e. ap (λ u. price - u)
      (uses_like pricing place (bus_rank (known_ranks c) rank) (bus_rank (known_ranks c) other) width w (bus_aside room (known_ranks c) rank none) (bus_aside room (known_ranks c) other none_other));
}

-- what was kept of a like rank
pub like_kept : {g : Basis} (case : CaseRoom) (pricing : PricingValue) {room : Weighed} (places : List ℕ) (old new : KeptWorths) {rank : ℕ} →
    IsWeighed g (list_weights pricing) room → ArePlaces (chip_of g) pricing.prices (length pricing.prices) places → AreKept g case pricing old → new.rank ≡ rank →
    ((width worth : ℕ) → IsKeptAt new width worth → IsKeptAt old width worth × IsLikeRank case room places (length pricing.prices) old.rank rank) →
    AreKept g case pricing new
like_kept {g} case pricing places old new {rank} w are kept rank_is from width worth at c of =
    let f = from width worth at in
    let like = f.1 in
    kept width worth f.0 c of
    ∙ like_most g c pricing old.rank width rank width (λ i less. rank_like c pricing (priced_place (chip_of g) pricing i) (price_at pricing i) old.rank rank width w like.none like.none_other
    (subst (λ p. may_be c p old.rank ≡ may_be c p rank) (are i less) (like.may c of i less)))
    ∙ ap (λ r. bus_most g c pricing r width) (sym rank_is)

-- ---- what is kept

pub none_kept : {X : Type 0} {xs : List (Option X)} (n i : ℕ) {x : X} → xs ≡ replicate n None → slice_get xs i ≡ Some (Some x) → ⊥
none_kept {xs} n i {x} is at =
    let within = slice_get_within xs i (Some x) at in
    let here = ap (λ l. slice_get l i) is ∙ slice_get-replicate n i None (omega (arith, within, ap length is ∙ length-replicate n None)) in
    let both = sym at ∙ here in
    absurd cc

-- one worth more
pub one_kept : (g : Basis) (case : CaseRoom) (pricing : PricingValue) (old new : KeptWorths) {rank : ℕ} (width worth : ℕ) → AreKept g case pricing old → old.rank ≡ rank →
    new.rank ≡ rank → width < length old.worths.items → new.worths.items ≡ slice_set old.worths.items width (Some worth) → IsWorth g case pricing rank width worth →
    AreKept g case pricing new
one_kept g case pricing old new width worth kept old_is new_is within set is w n at c of = by (cases_eq w width)
  where
    now : slice_get (slice_set old.worths.items width (Some worth)) w ≡ Some (Some n)
    now = sym (ap (λ l. slice_get l w) set) ∙ at

    by : (w ≡ width) ⊎ (w ≡ width → ⊥) → n ≡ bus_most g c pricing new.rank w
    by (inl here) =
        let at_width = subst (λ k. slice_get (slice_set old.worths.items width (Some worth)) k ≡ Some (Some n)) here now in
        let both = sym (set_here old.worths.items width (Some worth) within) ∙ at_width in
        let same : n ≡ worth = cc in
        same ∙ is c of ∙ ap (λ r. bus_most g c pricing r width) (sym new_is) ∙ ap (bus_most g c pricing new.rank) (sym here)
    by (inr other) =
        kept w n (sym (set_else old.worths.items width w (Some worth) other) ∙ now) c of
        ∙ ap (λ r. bus_most g c pricing r w) (old_is ∙ sym new_is)

-- one number more of a row
pub noted_more : (P : ℕ → ℕ → Type 0) (before : List ℕ) (at n : ℕ) → at < length before → ((d : ℕ) → d < at → P d (slice_index before d)) → P at n → (d : ℕ) → d < at + 1 → P d (slice_index (slice_set before at n) d)
noted_more P before at n within was here d less = elim (cases_eq d at) [
  | inl same ↦ subst (λ k. P k (slice_index (slice_set before at n) k)) (sym same) (subst (P at) (sym (get_or-set_same before at n 0 within)) here)
  | inr other ↦ subst (P d) (sym (get_or-set_other before at d n 0 other)) (was d (omega (arith, less, other)))
]
