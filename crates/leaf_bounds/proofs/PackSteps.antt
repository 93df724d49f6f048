-- What modules are worth on buses, rank by rank, and the most that all buses are worth.
use Rattle.std.proofs.Common.{◌≡◌, ℕ, zero, suc, ◌+◌, ◌-◌, ◌≤◌, ◌<◌, Bool, Some, None, List, [], ◌∷◌, length, refl, sym, ap, ◌∙◌, arith, inl, inr, ◌*◌, ◌^◌, true, false, Option, map, subst, ◌⊎◌, nat_lt, ◌&&◌, if◌then◌else◌, slice_index, All}
use Rattle.std.proofs.lemmas.List.Sums.{sum_by-cons}
use Rattle.std.proofs.lemmas.Bool.{cases_lt, lt-ltb, le-ltb}
use Rattle.plan_model.specs.Bounds.{sum_below}
use Rattle.plan_model.proofs.SumsOverCycles.{sum_below-same, sum_below-add, sum_below-le_by, sum_below-le, sum_below-one}
use Rattle.pack_leaves.specs.Greatest.{IsGreatest}
use Rattle.pack_leaves.specs.Knapsacks.{most_worth, with_item}
use Rattle.pack_leaves.specs.Sharings.{Sharing, IsSharing, sharing_worth, IsMostShared, IsWithRank, IsWithRest}
use Rattle.pack_leaves.proofs.Loads.{loads_are_most, worth_next, worth_none, worth-le}
use Rattle.pack_leaves.proofs.Sums.{sum_next, sum_none}
use Rattle.plan_model.specs.Proofs.{PricingValue}
use Rattle.leaf_bounds.specs.declared.basis.Basis.{Basis}
use Rattle.leaf_bounds.specs.Cases.{Case, Interval, interval_of, known_ranks, least_wires, low_at, high_at, spare, IsEmpty}
use Rattle.leaf_bounds.specs.Leaves.{slot, is_short, module_use, rest_high, weighed, cost}
use Rattle.leaf_bounds.specs.Bases.{chip_of, limits_of, lists_of, claim_of, IsBasis}
use Rattle.leaf_bounds.specs.PackLeaves.{Filling, IsBusLoad, IsFilling, IsMostFilled, bus_worth, cells_of, cells_taken, filling_worth, has_slot, list_weights, net_worth, price_at, priced_place, ArePricedOnce, bus_at, bus_rank}
use Rattle.leaf_bounds.specs.PackBuses.{bus_most, rank_worth, rest_worth, span_at, IsWiresRow, most_of, net_at}
use Rattle.soc_model.specs.Chips.{SocValue}
use Rattle.pack_leaves.proofs.Rows.{item_same}
use Rattle.pack_leaves.proofs.Shares.{rest_most, rank_most}
use Rattle.plan_model.specs.Sayable.{ArePrices, IsPrice}
use Rattle.leaf_bounds.specs.declared.case.CaseRoom.{CaseRoom}
use Rattle.leaf_bounds.specs.CaseRooms.{IsCaseOf}
use Rattle.leaf_bounds.proofs.Priced.{items-le}
use Rattle.leaf_bounds.proofs.LeafAnswers.{few_modules}

-- ==== the most that all buses are worth, from what wires are shared out to them

-- ---- sums

sum_split : (f : ℕ → ℕ) (m n : ℕ) → sum_below f (m + n) ≡ sum_below f m + sum_below (λ j. f (m + j)) n
sum_split f m zero = (let same : m + 0 ≡ m = omega arith in ap (sum_below f) same ∙ omega (arith, sum_none (λ j. f (m + j))))
sum_split f m (suc n) =
    let same : m + suc n ≡ suc (m + n) = omega arith in
    ap (sum_below f) same ∙ omega (arith, sum_next f (m + n), sum_split f m n, sum_next (λ j. f (m + j)) n)

module _ (f : ℕ → ℕ) where
  pub sum_below-first : (n : ℕ) → sum_below f (suc n) ≡ f 0 + sum_below (λ k. f (suc k)) n
  unfolding sum_below
  sum_below-first zero = omega arith
  sum_below-first (suc n) = omega (arith, sum_below-first n)

-- the least widths, rank by rank
lows_are : (is : List Interval) → sum_below (λ k. (interval_of is k).low) (length is) ≡ least_wires is
lows_are [] = sum_none (λ k. (interval_of [] k).low)
lows_are (i ∷ is) =
    let first = sum_below-first (λ k. (interval_of (i ∷ is) k).low) (length is) in
    first ∙ ap (λ n. i.low + n) (lows_are is) ∙ sym (sum_by-cons (λ (j : Interval). j.low) i is)

-- ---- one bus

-- the most on a bus, by whether its rank is known
abbrev most_by : Basis → Case → PricingValue → (known : Bool) (rank width : ℕ) → ℕ
most_by g c pricing known rank width =
    most_worth (λ item. (if known then c.may (priced_place (chip_of g) pricing item) rank else c.may_rest (priced_place (chip_of g) pricing item)) && (nat_lt 0 width && is_short (chip_of g) (claim_of g) (priced_place (chip_of g) pricing item) (slot (if known then Some rank else None) width 0)))
    (λ item. cells_taken (chip_of g) pricing (priced_place (chip_of g) pricing item) width)
    (λ item. price_at pricing item - weighed (lists_of g) (list_weights pricing) (module_use (chip_of g) (limits_of g) (priced_place (chip_of g) pricing item) (slot (if known then Some rank else None) width 0)))
    (length pricing.prices) (cells_of (claim_of g) pricing)

module _ (g : Basis) (c : Case) (pricing : PricingValue) (rank width : ℕ) where
  most_is : bus_most g c pricing rank width ≡ most_by g c pricing (nat_lt rank (known_ranks c)) rank width
  most_is = refl

  -- all ranks that aren't known are alike
  pub rest_alike : known_ranks c ≤ rank → bus_most g c pricing rank width ≡ rest_worth g c pricing width
  rest_alike from =
      ap (λ b. most_by g c pricing b rank width) (le-ltb rank (known_ranks c) from)
      ∙ sym (ap (λ b. most_by g c pricing b (known_ranks c) width) (le-ltb (known_ranks c) (known_ranks c) (omega arith)))

  -- the greatest worth of a load of a bus
  abbrev IsMostLoad : ℕ → Type 0
  IsMostLoad n = IsGreatest (IsBusLoad (chip_of g) (claim_of g) c pricing rank width) (bus_worth (chip_of g) (limits_of g) (lists_of g) c pricing rank width) n

  most_load : IsMostLoad (bus_most g c pricing rank width)
  most_load =
      loads_are_most (λ item. has_slot (chip_of g) (claim_of g) c (priced_place (chip_of g) pricing item) rank width)
      (λ item. cells_taken (chip_of g) pricing (priced_place (chip_of g) pricing item) width)
      (λ item. net_worth (chip_of g) (limits_of g) (lists_of g) c pricing item rank width) (length pricing.prices) (cells_of (claim_of g) pricing)

-- ---- from a sharing to a filling

module _ (c : Case) (s : Sharing) where
  -- the width of each bus
  abbrev width_of : ℕ → ℕ
  width_of k = if nat_lt k (known_ranks c) then low_at c k + s.ranks k else s.rest (k - known_ranks c)

  width_known : (k : ℕ) → k < known_ranks c → width_of k ≡ low_at c k + s.ranks k
  width_known k less = rw (lt-ltb k (known_ranks c) less) refl

  width_rest : (j : ℕ) → width_of (known_ranks c + j) ≡ s.rest j
  width_rest j =
      let same : known_ranks c + j - known_ranks c ≡ j = omega arith in
      rw (le-ltb (known_ranks c + j) (known_ranks c) (omega arith)) (ap s.rest same)

-- a sum over all buses, by the known ranks and the rest
widths_split : (F : ℕ → ℕ → ℕ) (c : Case) (s : Sharing) → sum_below (λ k. F k (width_of c s k)) (known_ranks c + s.buses) ≡ sum_below (λ k. F k (low_at c k + s.ranks k)) (known_ranks c) + sum_below (λ j. F (known_ranks c + j) (s.rest j)) s.buses
widths_split F c s =
    let split = sum_split (λ k. F k (width_of c s k)) (known_ranks c) s.buses in
    let front = sum_below-same (λ k. F k (width_of c s k)) (λ k. F k (low_at c k + s.ranks k)) (known_ranks c) (λ k less. ap (F k) (width_known c s k less)) in
    let back = sum_below-same (λ j. F (known_ranks c + j) (width_of c s (known_ranks c + j))) (λ j. F (known_ranks c + j) (s.rest j)) s.buses (λ j less. ap (F (known_ranks c + j)) (width_rest c s j)) in
    omega (arith, split, front, back)

abbrev filled_by : Basis → Case → PricingValue → Sharing → Filling
filled_by g c pricing s = record { buses = known_ranks c + s.buses; widths = width_of c s; taken = λ k. (most_load g c pricing k (width_of c s k)).best }

abbrev Shares : Case → (w : ℕ) → Sharing → Type 0
Shares c w s = IsSharing (span_at c) (rest_high w c (known_ranks c)) (known_ranks c) (spare w c.intervals) s

filled_is : (g : Basis) (w : ℕ) (c : Case) (pricing : PricingValue) (s : Sharing) → (IsEmpty w c → ⊥) → Shares c w s → IsFilling (chip_of g) w (claim_of g) c pricing (filled_by g c pricing s)
filled_is g w c pricing s some is = record {
  known = omega arith;
  low = λ k less. omega (arith, width_known c s k less);
  high = λ k less. omega (arith, width_known c s k less, is.ranks k less, crossed k less);
  rest = λ k from less. rest k from less;
  fits = fits;
  loads = λ k less. (most_load g c pricing k (width_of c s k)).is;
}
  where
    crossed : (k : ℕ) → k < known_ranks c → low_at c k ≤ high_at c k
    crossed k less = elim (cases_lt (high_at c k) (low_at c k)) [
      | inl cross ↦ absurd (some (inr (k, less, cross)))
      | inr fine ↦ fine
    ]

    least : least_wires c.intervals ≤ w
    least = elim (cases_lt w (least_wires c.intervals)) [
      | inl much ↦ absurd (some (inl much))
      | inr fine ↦ fine
    ]

    rest : (k : ℕ) → known_ranks c ≤ k → k < known_ranks c + s.buses → width_of c s k ≤ rest_high w c (known_ranks c)
    rest k from less =
        let same : known_ranks c + (k - known_ranks c) ≡ k = omega (arith, from) in
        let at = ap (width_of c s) (sym same) ∙ width_rest c s (k - known_ranks c) in
        omega (arith, at, is.rest (k - known_ranks c) (omega (arith, from, less)))

    fits : sum_below (width_of c s) (known_ranks c + s.buses) ≤ w
    fits =
        omega (arith, widths_split (λ k x. x) c s, sum_below-add (low_at c) s.ranks (known_ranks c), lows_are c.intervals, is.fits, least)

-- what it is worth
filled_worth : (g : Basis) (c : Case) (pricing : PricingValue) (s : Sharing) → filling_worth (chip_of g) (limits_of g) (lists_of g) c pricing (filled_by g c pricing s) ≡ sharing_worth (rest_worth g c pricing) (rank_worth g c pricing) (known_ranks c) s
filled_worth g c pricing s =
    let each =
    sum_below-same (λ k. bus_worth (chip_of g) (limits_of g) (lists_of g) c pricing k (width_of c s k) ((filled_by g c pricing s).taken k)) (λ k. bus_most g c pricing k (width_of c s k)) (known_ranks c + s.buses) (λ k less. (most_load g c pricing k (width_of c s k)).reached) in
    let rest : sum_below (λ j. bus_most g c pricing (known_ranks c + j) (s.rest j)) s.buses ≡ sum_below (λ j. rest_worth g c pricing (s.rest j)) s.buses =
    sum_below-same (λ j. bus_most g c pricing (known_ranks c + j) (s.rest j)) (λ j. rest_worth g c pricing (s.rest j)) s.buses (λ j less. rest_alike g c pricing (known_ranks c + j) (s.rest j) (omega arith)) in
    omega (arith, each, widths_split (bus_most g c pricing) c s, rest)

-- ---- from a filling to a sharing

abbrev shared_by : Case → Filling → Sharing
shared_by c x = record { buses = x.buses - known_ranks c; rest = λ j. x.widths (known_ranks c + j); ranks = λ k. x.widths k - low_at c k }

ranks_and_lows : (c : Case) (x : Filling) → ((k : ℕ) → k < known_ranks c → low_at c k ≤ x.widths k) → sum_below (λ k. x.widths k - low_at c k) (known_ranks c) + least_wires c.intervals ≡ sum_below x.widths (known_ranks c)
ranks_and_lows c x low =
    let two = sum_below-add (λ k. x.widths k - low_at c k) (low_at c) (known_ranks c) in
    let same : sum_below (λ k. x.widths k - low_at c k + low_at c k) (known_ranks c) ≡ sum_below x.widths (known_ranks c) = sum_below-same (λ k. x.widths k - low_at c k + low_at c k) x.widths (known_ranks c) (λ k less. omega (arith, low k less)) in
    omega (arith, two, same, lows_are c.intervals)

module _ (g : Basis) {w : ℕ} {c : Case} {pricing : PricingValue} {x : Filling} (is : IsFilling (chip_of g) w (claim_of g) c pricing x) where
  shared_is : Shares c w (shared_by c x)
  shared_is = record {
    rest = λ j less. is.rest (known_ranks c + j) (omega arith) (omega (arith, less));
    ranks = λ k less. omega (arith, is.high k less);
    fits =
        let all : known_ranks c + (x.buses - known_ranks c) ≡ x.buses = omega (arith, is.known) in
        omega (arith, sum_split x.widths (known_ranks c) (x.buses - known_ranks c), ap (sum_below x.widths) all, is.fits, ranks_and_lows c x is.low);
  }

  shared_worth : filling_worth (chip_of g) (limits_of g) (lists_of g) c pricing x ≤ sharing_worth (rest_worth g c pricing) (rank_worth g c pricing) (known_ranks c) (shared_by c x)
  shared_worth =
      let each =
      sum_below-le_by (λ k. bus_worth (chip_of g) (limits_of g) (lists_of g) c pricing k (x.widths k) (x.taken k)) (λ k. bus_most g c pricing k (x.widths k)) x.buses (λ k less. (most_load g c pricing k (x.widths k)).most (x.taken k) (is.loads k less)) in
      let all : known_ranks c + (x.buses - known_ranks c) ≡ x.buses = omega (arith, is.known) in
      let whole = ap (sum_below (λ k. bus_most g c pricing k (x.widths k))) all in
      let split = sum_split (λ k. bus_most g c pricing k (x.widths k)) (known_ranks c) (x.buses - known_ranks c) in
      let front : sum_below (λ k. bus_most g c pricing k (x.widths k)) (known_ranks c) ≡ sum_below (λ k. rank_worth g c pricing k (x.widths k - low_at c k)) (known_ranks c) =
      sum_below-same (λ k. bus_most g c pricing k (x.widths k)) (λ k. rank_worth g c pricing k (x.widths k - low_at c k)) (known_ranks c) (λ k less. ap (bus_most g c pricing k) (let low = is.low k less in omega (arith, low))) in
      let back : sum_below (λ j. bus_most g c pricing (known_ranks c + j) (x.widths (known_ranks c + j))) (x.buses - known_ranks c) ≡ sum_below (λ j. rest_worth g c pricing (x.widths (known_ranks c + j))) (x.buses - known_ranks c) =
      sum_below-same (λ j. bus_most g c pricing (known_ranks c + j) (x.widths (known_ranks c + j))) (λ j. rest_worth g c pricing (x.widths (known_ranks c + j))) (x.buses - known_ranks c) (λ j less. rest_alike g c pricing (known_ranks c + j) (x.widths (known_ranks c + j)) (omega arith)) in
      omega (arith, each, whole, split, front, back)

-- ---- both ways

-- what is shared out at best is the most on all buses
pub most_filled : (g : Basis) (c : Case) (pricing : PricingValue) (n : ℕ) → (IsEmpty (limits_of g).wires c → ⊥) →
    IsMostShared (rest_worth g c pricing) (rank_worth g c pricing) (span_at c) (rest_high (limits_of g).wires c (known_ranks c)) (known_ranks c) (spare (limits_of g).wires c.intervals) n →
    IsMostFilled (chip_of g) (limits_of g) (lists_of g) (claim_of g) c pricing n
most_filled g c pricing n some shared = record {
  best = filled_by g c pricing shared.best;
  is = filled_is g (limits_of g).wires c pricing shared.best some shared.is;
  reached = filled_worth g c pricing shared.best ∙ shared.reached;
  most = λ x is. (omega (arith, shared_worth g is, shared.most (shared_by c x) (shared_is g is)));
}

-- ==== what modules are worth on buses, module by module and rank by rank

-- ---- how many modules, and what they are worth at most

pub few_priced : {soc : SocValue} (pricing : PricingValue) → ArePricedOnce soc pricing.prices → length pricing.prices ≤ length soc.modules
few_priced {soc} pricing once =
    omega (arith, items-le pricing (λ p. 1) once, sum_below-one (length pricing.prices), sum_below-one (length soc.modules))

-- no more than a chip has modules
pub few_modules_priced : {g : Basis} (pricing : PricingValue) → IsBasis g → ArePricedOnce (chip_of g) pricing.prices → length pricing.prices ≤ 1000
few_modules_priced {g} pricing basis once = omega (arith, few_priced pricing once, few_modules basis.sound)

pub price-le : {pricing : PricingValue} (item : ℕ) → ArePrices pricing → price_at pricing item ≤ 10 ^ 15
price-le {pricing} item are = by pricing.prices item are.prices
  where
    by : (ps : List (ℕ × ℕ)) (i : ℕ) → All IsPrice ps → slice_index (map (λ (p : ℕ × ℕ). p.1) ps) i ≤ 10 ^ 15
    by [] i all = omega arith
    by (p ∷ ps) zero all = (omega (arith, all 0 p (omega arith)))
    by (p ∷ ps) (suc i) all = by ps i (λ k d less. all (suc k) d (omega (arith, less)))

module _ (g : Basis) (c : Case) {pricing : PricingValue} (rank width : ℕ) where
  -- so many priced modules are worth no more
  pub most-le : (count cells : ℕ) → ArePrices pricing → most_of g c pricing rank width count cells ≤ count * 10 ^ 15
  most-le count cells are =
      let all = worth-le (λ item. has_slot (chip_of g) (claim_of g) c (priced_place (chip_of g) pricing item) rank width) (λ item. cells_taken (chip_of g) pricing (priced_place (chip_of g) pricing item) width)
      (λ item. net_worth (chip_of g) (limits_of g) (lists_of g) c pricing item rank width) count cells in
      let each : sum_below (λ item. net_worth (chip_of g) (limits_of g) (lists_of g) c pricing item rank width) count ≤ count * 10 ^ 15 =
      sum_below-le (λ item. net_worth (chip_of g) (limits_of g) (lists_of g) c pricing item rank width) (10 ^ 15) count (λ item less. omega (arith, price-le item are)) in
      omega (arith, all, each)

  pub bus_most-le : IsBasis g → ArePricedOnce (chip_of g) pricing.prices → ArePrices pricing → bus_most g c pricing rank width ≤ 10 ^ 18
  bus_most-le basis once are =
      omega (arith, most-le (length pricing.prices) (cells_of (claim_of g) pricing) are, few_modules_priced pricing basis once)

-- ---- one module more

-- what a price leaves beyond the uses that were found
pub net_is : (g : Basis) (c : Case) (pricing : PricingValue) (place price rank width known uses net : ℕ) (own : Option ℕ) → net ≡ price - uses → uses ≡ cost (chip_of g) (limits_of g) (lists_of g) (list_weights pricing) place (slot own width 0) →
    own ≡ bus_rank known rank → known ≡ known_ranks c → net ≡ net_at g c pricing place price rank width
net_is g c pricing place price rank width known uses net own less_is uses_is own_is known_is =
    let alone : cost (chip_of g) (limits_of g) (lists_of g) (list_weights pricing) place (slot own width 0) ≡ weighed (lists_of g) (list_weights pricing) (module_use (chip_of g) (limits_of g) place (slot own width 0)) = omega arith in
    less_is ∙ ap (λ u. price - u) (uses_is ∙ alone ∙ ap (λ r. weighed (lists_of g) (list_weights pricing) (module_use (chip_of g) (limits_of g) place (slot r width 0))) (own_is ∙ ap (λ n. bus_rank n rank) known_is))

-- the item that was added
pub item_is : {b : Bool} {time time' net net' : ℕ} (row : ℕ → ℕ) (x : ℕ) {n : ℕ} → true ≡ b → time ≡ time' → net ≡ net' → n ≡ with_item true time net row x →
    n ≡ with_item b time' net' row x
item_is {time'} {net} {net'} row x b_is time_is net_is is =
    is ∙ ap (λ t. with_item true t net row x) time_is ∙ ap (λ m. with_item true time' m row x) net_is ∙ ap (λ c. with_item c time' net' row x) b_is

module _ (g : Basis) (c : Case) (pricing : PricingValue) (rank : ℕ) where
  -- a row of a bus with one module more
  pub row_more : (width item : ℕ) {place price : ℕ} (before after : ℕ → ℕ) (end : ℕ) → place ≡ priced_place (chip_of g) pricing item → price ≡ price_at pricing item →
      ((x : ℕ) → x < end → before x ≡ most_of g c pricing rank width item x) →
      ((x : ℕ) → x < end → after x ≡ with_item (has_slot (chip_of g) (claim_of g) c place rank width) (cells_taken (chip_of g) pricing place width) (net_at g c pricing place price rank width) before x) →
      (x : ℕ) → x < end → after x ≡ most_of g c pricing rank width (item + 1) x
  row_more width item {price} before after end place_is price_is was now x less =
      let next : suc item ≡ item + 1 = omega arith in
      let step = worth_next (λ item. has_slot (chip_of g) (claim_of g) c (priced_place (chip_of g) pricing item) rank width) (λ item. cells_taken (chip_of g) pricing (priced_place (chip_of g) pricing item) width)
      (λ item. net_worth (chip_of g) (limits_of g) (lists_of g) c pricing item rank width) item x in
      now x less
      ∙ ap (λ p. with_item (has_slot (chip_of g) (claim_of g) c p rank width) (cells_taken (chip_of g) pricing p width) (net_at g c pricing p price rank width) before x) place_is
      ∙ ap (λ n. with_item (has_slot (chip_of g) (claim_of g) c (priced_place (chip_of g) pricing item) rank width) (cells_taken (chip_of g) pricing (priced_place (chip_of g) pricing item) width) (net_at g c pricing (priced_place (chip_of g) pricing item) n rank width) before x) price_is
      ∙ with_same (has_slot (chip_of g) (claim_of g) c (priced_place (chip_of g) pricing item) rank width) (cells_taken (chip_of g) pricing (priced_place (chip_of g) pricing item) width) (net_worth (chip_of g) (limits_of g) (lists_of g) c pricing item rank width) before (most_of g c pricing rank width item) x (λ y h. was y (omega (arith, h, less)))
      ∙ sym step ∙ ap (λ n. most_of g c pricing rank width n x) next
    where
      with_same : (b : Bool) (time net : ℕ) (f h : ℕ → ℕ) (x : ℕ) → ((y : ℕ) → y ≤ x → f y ≡ h y) → with_item b time net f x ≡ with_item b time net h x
      with_same false time net f h x same = same x (omega arith)
      with_same true time net f h x same = item_same time net x f h same

  pub row_none : (width x : ℕ) → 0 ≡ most_of g c pricing rank width 0 x
  row_none width x =
      sym (worth_none (λ item. has_slot (chip_of g) (claim_of g) c (priced_place (chip_of g) pricing item) rank width) (λ item. cells_taken (chip_of g) pricing (priced_place (chip_of g) pricing item) width)
      (λ item. net_worth (chip_of g) (limits_of g) (lists_of g) c pricing item rank width) x)

  -- on a bus without a wire nothing is
  pub no_wire : bus_most g c pricing rank 0 ≡ 0
  no_wire = by (length pricing.prices)
    where
      by : (n : ℕ) → most_of g c pricing rank 0 n (cells_of (claim_of g) pricing) ≡ 0
      by zero = worth_none (λ item. has_slot (chip_of g) (claim_of g) c (priced_place (chip_of g) pricing item) rank 0) (λ item. cells_taken (chip_of g) pricing (priced_place (chip_of g) pricing item) 0)
          (λ item. net_worth (chip_of g) (limits_of g) (lists_of g) c pricing item rank 0) (cells_of (claim_of g) pricing)
      by (suc n) =
          worth_next (λ item. has_slot (chip_of g) (claim_of g) c (priced_place (chip_of g) pricing item) rank 0) (λ item. cells_taken (chip_of g) pricing (priced_place (chip_of g) pricing item) 0)
          (λ item. net_worth (chip_of g) (limits_of g) (lists_of g) c pricing item rank 0) n (cells_of (claim_of g) pricing)
          ∙ ap (λ b. with_item b (cells_taken (chip_of g) pricing (priced_place (chip_of g) pricing n) 0) (net_worth (chip_of g) (limits_of g) (lists_of g) c pricing n rank 0) (most_of g c pricing rank 0 n) (cells_of (claim_of g) pricing)) (off (if nat_lt rank (known_ranks c) then c.may (priced_place (chip_of g) pricing n) rank else c.may_rest (priced_place (chip_of g) pricing n)) (is_short (chip_of g) (claim_of g) (priced_place (chip_of g) pricing n) (bus_at c rank 0)))
          ∙ by n
        where
          off : (b d : Bool) → b && (false && d) ≡ false
          off true d = refl
          off false d = refl

-- ---- all buses

-- where a case has a plan, no rank is without a width
pub not_crossed : (w : ℕ) {room : CaseRoom} {c : Case} (rank : ℕ) → IsCaseOf room c → (IsEmpty w c → ⊥) → rank < length room.widths.intervals.items →
    (interval_of room.widths.intervals.items rank).low ≤ (interval_of room.widths.intervals.items rank).high
not_crossed w {room} {c} rank of some within =
    subst (λ l. (interval_of l rank).low ≤ (interval_of l rank).high) (sym of.intervals) (by (cases_lt (high_at c rank) (low_at c rank)))
  where
    long : length room.widths.intervals.items ≡ known_ranks c
    long = ap length of.intervals

    by : (high_at c rank < low_at c rank) ⊎ (low_at c rank ≤ high_at c rank) → low_at c rank ≤ high_at c rank
    by (inl cross) = absurd (some (inr (rank, omega (arith, within, long), cross)))
    by (inr fine) = fine

abbrev pub WithRow : Basis → Case → PricingValue → (known x n : ℕ) → Type 0
WithRow g c pricing known x n = IsMostShared (rest_worth g c pricing) (rank_worth g c pricing) (span_at c) (rest_high (limits_of g).wires c (known_ranks c)) known x n

module _ (worth noted row : ℕ → ℕ) where
  -- what a bus is worth by the numbers that were noted
  rest_noted : (high : ℕ) {x n : ℕ} → ((w : ℕ) → w ≤ high → noted w ≡ worth w) → IsWithRest noted row high x n → IsWithRest worth row high x n
  rest_noted high same h = record {
    reached = λ some. (let r = h.reached some in (r.0, r.1, omega (arith, same r.0 r.1.to, r.2)));
    most = λ width is. (omega (arith, same width is.to, h.most width is));
  }

  rank_noted : (span x n : ℕ) → ((w : ℕ) → w ≤ span → noted w ≡ worth w) → IsWithRank noted row span x n → IsWithRank worth row span x n
  rank_noted span x n same h = record {
    best = h.best;
    is = h.is;
    reached = (omega (arith, same h.best h.is.to, h.reached));
    most = λ w is. (omega (arith, same w is.to, h.most w is));
  }

-- no number of a row with one rank more is much greater
pub rank_small : (worth row : ℕ → ℕ) (span x n most : ℕ) → IsWithRank worth row span x n → ((w : ℕ) → w ≤ span → worth w ≤ 10 ^ 18) → ((y : ℕ) → y ≤ x → row y ≤ most) → n ≤ most + 10 ^ 18
rank_small worth row span x n most g few low =
    omega (arith, few g.best g.is.to, low (x - g.best) (omega arith), g.reached)

module _ (g : Basis) (c : Case) (pricing : PricingValue) where
  pub rest_rows : (noted row : List ℕ) {high : ℕ} (end : ℕ) → high ≡ rest_high (limits_of g).wires c (known_ranks c) → end ≡ spare (limits_of g).wires c.intervals + 1 →
      ((w : ℕ) → w ≤ high → slice_index noted w ≡ bus_most g c pricing (known_ranks c) (0 + w)) →
      ((x : ℕ) → x < end → IsWithRest (slice_index noted) (slice_index row) high x (slice_index row x)) → IsWiresRow g c pricing 0 row
  rest_rows noted row {high} end high_is end_is same filled x less =
      let noted_is : (w : ℕ) → slice_index noted w ≡ bus_most g c pricing (known_ranks c) (0 + w) → slice_index noted w ≡ bus_most g c pricing (known_ranks c) w = (λ w e. let zero : 0 + w ≡ w = omega arith in e ∙ ap (bus_most g c pricing (known_ranks c)) zero) in
      subst (λ h. IsMostShared (rest_worth g c pricing) (rank_worth g c pricing) (span_at c) h 0 x (slice_index row x)) high_is
      (rest_most (rest_worth g c pricing) (slice_index row) (rank_worth g c pricing) (span_at c) high end (no_wire g c pricing (known_ranks c))
      (λ y h. rest_noted (rest_worth g c pricing) (slice_index noted) (slice_index row) high (λ w l. noted_is w (same w l)) (filled y h)) x (omega (arith, less, end_is)))

  pub rank_rows : (rank : ℕ) (noted before after : List ℕ) {span : ℕ} (end : ℕ) → span ≡ span_at c rank → end ≡ spare (limits_of g).wires c.intervals + 1 →
      ((w : ℕ) → w ≤ span → slice_index noted w ≡ bus_most g c pricing rank (low_at c rank + w)) →
      ((x : ℕ) → x < end → IsWithRank (slice_index noted) (slice_index before) span x (slice_index after x)) → IsWiresRow g c pricing rank before →
      IsWiresRow g c pricing (rank + 1) after
  rank_rows rank noted before after {span} end span_is end_is same filled was x less =
      let next : suc rank ≡ rank + 1 = omega arith in
      subst (λ k. WithRow g c pricing k x (slice_index after x)) next
      (rank_most (rest_worth g c pricing) (slice_index before) (rank_worth g c pricing) (span_at c) (rest_high (limits_of g).wires c (known_ranks c)) rank (spare (limits_of g).wires c.intervals + 1) was x (slice_index after x) less
      (subst (λ s. IsWithRank (rank_worth g c pricing rank) (slice_index before) s x (slice_index after x)) span_is
      (rank_noted (rank_worth g c pricing rank) (slice_index noted) (slice_index before) span x (slice_index after x) same (filled x (omega (arith, less, end_is))))))
