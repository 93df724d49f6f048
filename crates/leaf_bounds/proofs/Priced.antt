-- The places of priced modules.
use Rattle.std.proofs.Common.{◌≡◌, ℕ, ◌-◌, ◌≤◌, ◌<◌, true, Option, Some, None, List, length, sym, ap, ◌∙◌, subst, arith, slice_get, slice_index}
use Rattle.std.proofs.lemmas.List.{length-map, get_or_default}
use Rattle.std.proofs.lemmas.Option.{slice_get-get_or}
use Rattle.soc_model.specs.Chips.{SocValue}
use Rattle.soc_model.specs.Lookups.{module_place}
use Rattle.soc_model.proofs.Places.{slice_get-from_position}
use Rattle.plan_model.specs.Bounds.{sum_below}
use Rattle.plan_model.specs.Certificates.{on, passes, has_tam_at, HasTamTest}
use Rattle.plan_model.proofs.CertificatesAreBounds.{some_place}
use Rattle.pack_leaves.proofs.Sums.{differing-le}
use Rattle.plan_model.specs.Proofs.{PricingValue}
use Rattle.leaf_bounds.specs.PackLeaves.{ArePricedOnce, numbers_priced, place_called, priced_place}
use Rattle.leaf_bounds.proofs.LeafAnswers.{wired_within}

module _ (soc : SocValue) (m : ℕ) (tam : HasTamTest soc m) where
  -- a module that the chip has
  found_number : module_place soc m ≡ Some (place_called soc m)
  found_number = some_place soc (has_tam_at soc) m tam

  pub called_wired : has_tam_at soc (place_called soc m) ≡ true
  called_wired = by (module_place soc m) tam
    where
      by : (o : Option ℕ) → (passes (has_tam_at soc) o ≡ true) → has_tam_at soc (on o (λ place. place)) ≡ true
      by None h = absurd cc
      by (Some p) h = h

  pub called_within : place_called soc m < length soc.modules
  called_within = wired_within soc (place_called soc m) called_wired

-- one place is that of one number
called_once : (soc : SocValue) (m n : ℕ) → HasTamTest soc m → HasTamTest soc n → place_called soc m ≡ place_called soc n → m ≡ n
called_once soc m n tam tam' same =
    let p = slice_get-from_position soc.keys m (place_called soc m) (found_number soc m tam) in
    let q = slice_get-from_position soc.keys n (place_called soc n) (found_number soc n tam') in
    let p' : slice_get soc.keys (place_called soc n) ≡ Some m = rw same at p in
    cc

-- the number at a place among the prices
pub number_there : (prices : List (ℕ × ℕ)) (i : ℕ) → i < length prices → slice_get (numbers_priced prices) i ≡ Some (slice_index (numbers_priced prices) i)
number_there prices i within = slice_get-get_or (numbers_priced prices) i 0 (omega (arith, within, length-map prices (λ (p : ℕ × ℕ). p.0)))

module _ {soc : SocValue} (pricing : PricingValue) (i : ℕ) (once : ArePricedOnce soc pricing.prices) (within : i < length pricing.prices) where
  pub item_wired : HasTamTest soc (slice_index (numbers_priced pricing.prices) i)
  item_wired = subst (HasTamTest soc) (get_or_default (numbers_priced pricing.prices) i 0 0 inside) (once.wired i 0 inside)
    where
      inside : i < length (numbers_priced pricing.prices)
      inside = omega (arith, within, length-map pricing.prices (λ (p : ℕ × ℕ). p.0))

  pub item_within : priced_place soc pricing i < length soc.modules
  item_within = called_within soc (slice_index (numbers_priced pricing.prices) i) item_wired

module _ {soc : SocValue} (pricing : PricingValue) where
  -- priced modules are all at different places
  items_differ : ArePricedOnce soc pricing.prices → (i j : ℕ) → i < length pricing.prices → j < length pricing.prices →
      priced_place soc pricing i ≡ priced_place soc pricing j → i ≡ j
  items_differ once i j within within' same =
      let one =
      called_once soc (slice_index (numbers_priced pricing.prices) i) (slice_index (numbers_priced pricing.prices) j) (item_wired pricing i once within) (item_wired pricing j once within') same in
      once.differ i j (slice_index (numbers_priced pricing.prices) i) (number_there pricing.prices i within) (number_there pricing.prices j within' ∙ ap Some (sym one))

  -- so that they have no more together than all modules
  pub items-le : (g : ℕ → ℕ) → ArePricedOnce soc pricing.prices → sum_below (λ i. g (priced_place soc pricing i)) (length pricing.prices) ≤ sum_below g (length soc.modules)
  items-le g once =
      differing-le (priced_place soc pricing) g (length pricing.prices) (length soc.modules) (λ i within. item_within pricing i once within) (items_differ once)
