-- What is found at a leaf of prices, and its rule module by module.
use Rattle.std.proofs.Common.{◌≡◌, ℕ, zero, suc, ◌+◌, ◌≤◌, ◌<◌, false, Some, List, [], ◌∷◌, length, refl, sym, ap, ◌∙◌, subst, arith, inl, inr, ◌⊎◌, ◌*◌, ◌^◌, Option, None, get_or, slice_get, slice_index, slice_set, ◌||◌, nat_lt, MatchOption, All}
use Rattle.std.specs.List.{list_any}
use Rattle.std.proofs.lemmas.Bool.{cases_lt, cases_eq, cases_order, le-ltb}
use Rattle.std.proofs.lemmas.List.{get_or_default, get_or-set_same, get_or-set_other, length-map}
use Rattle.std.proofs.lemmas.Option.{slice_get-get_or, slice_get_within, get_or_from_slice_get}
use Rattle.soc_model.specs.Chips.{SocValue}
use Rattle.plan_model.specs.Certificates.{HasTamTest}
use Rattle.leaf_bounds.specs.Cases.{Case, Interval, interval_of, least_wires, IsEmpty, known_ranks}
use Rattle.leaf_bounds.specs.Leaves.{rest_high, AreNamedLists, IsKnownList}
use Rattle.leaf_bounds.specs.PackLeaves.{ArePlaces, ArePricedOnce, IsNewPrice, is_empty_case, numbers_priced, place_called, IsPack, PaysTooMuch, list_weights}
use Rattle.std.proofs.lemmas.List.Elements.{All-nil}
use Rattle.pack_leaves.specs.Greatest.{IsGreatest}
use Rattle.plan_model.specs.Proofs.{ListValue, PricingValue, OfPack}
use Rattle.plan_model.specs.Sayable.{ArePrices, IsUse, IsWeight}
use Rattle.leaf_bounds.specs.declared.basis.Basis.{Basis}
use Rattle.leaf_bounds.specs.declared.leaf.LeafAnswer.TheVariants.{Holds, Shows}
use Rattle.leaf_bounds.specs.Bases.{chip_of, limits_of, lists_of, claim_of}
use Rattle.leaf_bounds.specs.LeafAnswers.{IsLeafAnswer, no_weights}
use Rattle.leaf_bounds.specs.LeafCosts.{AreUses}
use Rattle.leaf_bounds.specs.LeafSlots.{HasNoBusIn, IsNamed}

-- ==== the rule of a leaf of prices, module by module, and how much there is to work out

-- ---- modules

module _ (soc : SocValue) (prices : List (ℕ × ℕ)) where
  pub all_new_prices : ((k : ℕ) → k < length prices → IsNewPrice soc prices k) → ArePricedOnce soc prices
  all_new_prices each = record {
    wired = λ k d within. subst (HasTamTest soc) (get_or_default (numbers_priced prices) k 0 d within) (each k (inside k within)).wired;
    differ = λ p q n at at'. differ p q n at at';
  }
    where
      inside : (k : ℕ) → k < length (numbers_priced prices) → k < length prices
      inside k within = omega (arith, within, length-map prices (λ (p : ℕ × ℕ). p.0))

      order : (p q n : ℕ) → p < q → slice_get (numbers_priced prices) p ≡ Some n → slice_get (numbers_priced prices) q ≡ Some n → ⊥
      order p q n less at at' = (each q (inside q (slice_get_within (numbers_priced prices) q n at'))).new p less (get_or_from_slice_get (numbers_priced prices) p n 0 at ∙ sym (get_or_from_slice_get (numbers_priced prices) q n 0 at'))

      differ : (p q n : ℕ) → slice_get (numbers_priced prices) p ≡ Some n → slice_get (numbers_priced prices) q ≡ Some n → p ≡ q
      differ p q n at at' = elim (cases_order p q) [
        | inl same ↦ same
        | inr other ↦ elim other [
          | inl less ↦ absurd (order p q n less at at')
          | inr more ↦ absurd (order q p n more at' at)
        ]
      ]

  pub each_new_price : (k : ℕ) → ArePricedOnce soc prices → k < length prices → IsNewPrice soc prices k
  each_new_price k are within = record {
    wired = subst (HasTamTest soc) (get_or_default (numbers_priced prices) k 0 0 inside) (are.wired k 0 inside);
    new = λ q less e. apart q less (are.differ q k (slice_index (numbers_priced prices) k) (slice_get-get_or (numbers_priced prices) q 0 (omega (arith, less, inside)) ∙ ap Some e) (slice_get-get_or (numbers_priced prices) k 0 inside));
  }
    where
      inside : k < length (numbers_priced prices)
      inside = omega (arith, within, length-map prices (λ (p : ℕ × ℕ). p.0))

      apart : (q : ℕ) → q < k → q ≡ k → ⊥
      apart q less e = omega (arith, less, e)

  -- one more of the prices was looked at
  pub record SeenTo (at : ℕ) (before places : List ℕ) : Type 0 where
    pub long : length places ≡ length before
    pub new : (k : ℕ) → k < at → IsNewPrice soc prices k
    pub places_are : ArePlaces soc prices at places

  pub seen_none : (places : List ℕ) → SeenTo 0 places places
  seen_none places = record { long = refl; new = λ k less. absurd (omega (arith, less)); places_are = λ k less. absurd (omega (arith, less)) }

  pub seen_more : {at : ℕ} {before places : List ℕ} (next : List ℕ) {place : ℕ} → SeenTo at before places → at < length before → IsNewPrice soc prices at →
      place ≡ place_called soc (slice_index (numbers_priced prices) at) → next ≡ slice_set places at place → length next ≡ length places → SeenTo (at + 1) before next
  seen_more {at} {places} next {place} s room new is set long = record {
    long = long ∙ s.long;
    new = λ k less. elim (cases_eq k at) [
      | inl here ↦ subst (IsNewPrice soc prices) (sym here) new
      | inr other ↦ s.new k (omega (arith, less, other))
    ];
    places_are = λ k less. ap (λ l. slice_index l k) set ∙ there k less;
  }
    where
      there : (k : ℕ) → k < at + 1 → slice_index (slice_set places at place) k ≡ place_called soc (slice_index (numbers_priced prices) k)
      there k less = elim (cases_eq k at) [
        | inl here ↦ subst (λ n. slice_index (slice_set places at place) n ≡ place_called soc (slice_index (numbers_priced prices) n)) (sym here) (get_or-set_same places at place 0 (omega (arith, room, s.long)) ∙ is)
        | inr other ↦ get_or-set_other places at k place 0 other ∙ s.places_are k (omega (arith, less, other))
      ]

-- ---- work

module _ (w : ℕ) (c : Case) where
  -- a bus of the rest is on the wires
  pub rest_high-le : (known : ℕ) → rest_high w c known ≤ w
  rest_high-le zero = omega arith
  rest_high-le (suc last) = omega arith

  pub some_is : (IsEmpty w c → ⊥) → is_empty_case w c ≡ false
  some_is some = ap (λ b. b || list_any (λ (i : Interval). nat_lt i.high i.low) c.intervals) (le-ltb w (least_wires c.intervals) least) ∙ no_cross c.intervals (λ k less cross. some (inr (k, less, cross)))
    where
      least : least_wires c.intervals ≤ w
      least = elim (cases_lt w (least_wires c.intervals)) [
        | inl much ↦ absurd (some (inl much))
        | inr fine ↦ fine
      ]

      no_cross : (is : List Interval) → ((k : ℕ) → k < length is → (interval_of is k).high < (interval_of is k).low → ⊥) → list_any (λ (i : Interval). nat_lt i.high i.low) is ≡ false
      no_cross [] none = refl
      no_cross (i ∷ is) none =
          let rest = no_cross is (λ k less cross. none (suc k) (omega (arith, less)) cross) in
          let first = le-ltb i.high i.low (fine (cases_lt i.high i.low)) in
          ap (λ b. b || list_any (λ (i : Interval). nat_lt i.high i.low) is) first ∙ rest
        where
          fine : (i.high < i.low) ⊎ (i.low ≤ i.high) → i.low ≤ i.high
          fine (inl cross) = absurd (none 0 (omega arith) cross)
          fine (inr h) = h

-- ==== what is found at a leaf of prices, from what is found of its rule, its slots and its prices

-- ---- the prices

-- a greatest value is one
pub one_greatest : {X : Type 0} (Is : X → Type 0) {value : X → ℕ} {m n : ℕ} → IsGreatest Is value m → IsGreatest Is value n → m ≡ n
one_greatest Is a b =
    omega (arith, a.reached, b.reached, a.most b.best b.is, b.most a.best a.is)

-- what is paid, and what buses and lists are worth
pub pays_is : (most : ℕ) {rooms rooms' : ℕ} (claim prices prices' : ℕ) {selfs selfs' : ℕ} → rooms ≡ rooms' → prices ≡ prices' → selfs ≡ selfs' →
    most + rooms * claim < prices + selfs + rooms → most + rooms' * claim < prices' + selfs' + rooms'
pays_is most {rooms} {rooms'} claim prices prices' rooms_is prices_is selfs_is more =
    omega (arith, ap (λ n. n * claim) rooms_is, rooms_is, prices_is, selfs_is, more)

-- ---- the whole leaf

abbrev KeepsPack : Basis → (done : ℕ) → Case → PricingValue → Type 0
KeepsPack g done c pricing = IsPack (chip_of g) (limits_of g).wires (lists_of g) (claim_of g) done c pricing

module _ (g : Basis) (c : Case) (pricing : PricingValue) where
  abbrev Pays : Type 0
  Pays = PaysTooMuch (chip_of g) (limits_of g) (lists_of g) (claim_of g) c pricing

  -- whether a module has a slot doesn't hang on the lists
  no_bus : HasNoBusIn g c no_weights → HasNoBusIn g c (list_weights pricing)
  no_bus none = record { place = none.place; tam = none.tam; none = none.none }

  no_bus_back : HasNoBusIn g c (list_weights pricing) → HasNoBusIn g c no_weights
  no_bus_back none = record { place = none.place; tam = none.tam; none = none.none }

module _ (g : Basis) (done : ℕ) (c : Case) (pricing : PricingValue) (rule : KeepsPack g done c pricing) where
  pub found_no_bus : HasNoBusIn g c no_weights → IsLeafAnswer g done c (OfPack pricing) Holds
  found_no_bus none = (rule, inr (inl (no_bus g c pricing none)))

  pub found_pays : Pays g c pricing → IsLeafAnswer g done c (OfPack pricing) Holds
  found_pays pays = (rule, inr (inr pays))

  pub found_empty : IsEmpty (limits_of g).wires c → IsLeafAnswer g done c (OfPack pricing) Holds
  found_empty empty = (rule, inl empty)

  pub found_short : (IsEmpty (limits_of g).wires c → ⊥) → (HasNoBusIn g c no_weights → ⊥) → (Pays g c pricing → ⊥) → IsLeafAnswer g done c (OfPack pricing) (Shows 0)
  found_short some slots pays = record {
    rule = rule;
    less = λ h. elim h [
      | inl empty ↦ some empty
      | inr other ↦ elim other [
        | inl none ↦ slots (no_bus_back g c pricing none)
        | inr more ↦ pays more
      ]
    ];
    shown_is = refl;
  }

-- ---- weights made ready

-- lists that are named are there
named_within : (lists : List ListValue) (known : ℕ) (os : List (ℕ × ℕ)) → All (IsNamed lists known) os → All (λ (o : ℕ × ℕ). o.0 < length lists) os
named_within lists known os named k d within = by (slice_get lists (get_or os k d).0) refl (named k d within)
  where
    by : (o : Option ListValue) → slice_get lists (get_or os k d).0 ≡ o → MatchOption o ⊥ (IsKnownList known) → (get_or os k d).0 < length lists
    by None at h = absurd h
    by (Some list) at h = slice_get_within lists (get_or os k d).0 list at

pub pack_uses : (g : Basis) (c : Case) {pricing : PricingValue} → AreNamedLists (lists_of g) c pricing.lists → ArePrices pricing → length pricing.lists ≤ 2 ^ 24 →
    AreUses g (list_weights pricing)
pack_uses g c {pricing} named prices few = record {
  named = named_within (lists_of g) (known_ranks c) pricing.lists named;
  small = record { wire = omega arith; ranks = All-nil IsWeight; lists = prices.lists };
  few = few;
}

pub no_uses : (g : Basis) → AreUses g no_weights
no_uses g = record {
  named = All-nil (λ (o : ℕ × ℕ). o.0 < length (lists_of g));
  small = record { wire = omega arith; ranks = All-nil IsWeight; lists = All-nil IsUse };
  few = omega arith;
}
