-- One more candidate, and one more place.
use Rattle.std.proofs.Common.{◌≡◌, ℕ, suc, ◌+◌, ltb, Option, Some, None, option_map, List, [], ◌∷◌, ◌++◌, refl, ap, ◌∙◌, arith, inl, inr, slice_get, fold, flat_map}
use Rattle.std.specs.List.{range_with_len}
use Rattle.std.proofs.lemmas.Bool.{cases_Bool}
use Rattle.std.proofs.lemmas.Option.{slice_get-map, get_or_from_slice_get}
use Rattle.plan_model.specs.declared.Why.{Why}
use Rattle.soc_model.specs.Chips.{SocValue, ModuleValue, numbers, parent_place}
use Rattle.plan_model.specs.Plans.{LimitsValue, OfModule, OfPair}
use Rattle.plan_model.specs.Bounds.{module_bound, pair_bound}
use Rattle.bound_certificate.proofs.Checks.{family_some}
use Rattle.plan_model.specs.Certificates.{KeepsList, certificate_value}
use Rattle.plan_model.specs.Rules.{IsBound}
use Rattle.soc_model.specs.SoundChips.{IsSoundChip}
use Rattle.plan_model.specs.Views.{why_value}
use Rattle.soc_model.specs.Lookups.{module_place}
use Rattle.soc_model.proofs.Places.{IsKeyed-from_sound, place-from_module}
use Rattle.bound_certificate.specs.Best.{better, number_at}
use Rattle.bound_certificate.specs.Winners.{considered, seen, HasValue}
use Rattle.common_lemmas.proofs.Lists.{flat_map_push}
use Rattle.common_lemmas.proofs.Ranges.{range_next}

pub seen_considered : (soc : SocValue) (limits : LimitsValue) (best : Option (ℕ × Why)) (shown : ℕ) (why : Why) → HasValue soc limits best → shown ≡ certificate_value soc limits (why_value why) → seen (considered best shown why) ≡ better (certificate_value soc limits) (seen best) (why_value why)
seen_considered soc limits None shown why has is = refl
seen_considered soc limits (Some b) shown why has is = elim (cases_Bool (ltb b.0 shown)) [
  | inl less ↦ let less' = rw (has.0, is) at less in rw (less, less') refl
  | inr more ↦ let more' = rw (has.0, is) at more in rw (more, more') refl
]

pub value_considered : (soc : SocValue) (limits : LimitsValue) (best : Option (ℕ × Why)) (shown : ℕ) (why : Why) → HasValue soc limits best → shown ≡ certificate_value soc limits (why_value why) → IsBound soc limits shown → KeepsList soc limits shown (why_value why) → HasValue soc limits (considered best shown why)
value_considered soc limits None shown why has is bound keeps = (is, bound, keeps)
value_considered soc limits (Some b) shown why has is bound keeps = elim (cases_Bool (ltb b.0 shown)) [
  | inl less ↦ rw less (is, bound, keeps)
  | inr more ↦ rw more has
]

pub fold-append : {X Y : Type 0} (g : Y → X → Y) (o : Y) (xs ys : List X) → fold g o (xs ++ ys) ≡ fold g (fold g o xs) ys
fold-append g o [] ys = refl
fold-append g o (x ∷ xs) ys = fold-append g (g o x) xs ys

-- one more place
pub next_place : {X Y : Type 0} (g : Y → X → Y) (h : ℕ → List X) (o : Y) (n m : ℕ) → m ≡ n + 1 → fold g o (flat_map h (range_with_len 0 m)) ≡ fold g (fold g o (flat_map h (range_with_len 0 n))) (h n)
next_place g h o n m is =
    let same : m ≡ suc n = omega arith in
    let here : 0 + n ≡ n = omega arith in
    let cut : range_with_len 0 (suc n) ≡ range_with_len 0 n ++ n ∷ [] = range_next 0 n ∙ ap (λ k. range_with_len 0 n ++ k ∷ []) here in
    ap (λ k. fold g o (flat_map h (range_with_len 0 k))) same ∙ ap (λ r. fold g o (flat_map h r)) cut ∙ ap (fold g o) (flat_map_push h (range_with_len 0 n) n) ∙ fold-append g o (flat_map h (range_with_len 0 n)) (h n)

-- ---- by the number of a module

pub number_is : (soc : SocValue) (p : ℕ) (m : ModuleValue) → slice_get soc.modules p ≡ Some m → number_at soc p ≡ m.number
number_is soc p m at = get_or_from_slice_get (numbers soc) p m.number 0 (slice_get-map (λ (m : ModuleValue). m.number) soc.modules p ∙ rw at refl)

own_place_of : (soc : SocValue) (p : ℕ) (m : ModuleValue) → IsSoundChip soc → slice_get soc.modules p ≡ Some m → module_place soc m.number ≡ Some p
own_place_of soc p m sound at = place-from_module (IsKeyed-from_sound sound) p m at

pub module_value_of : (soc : SocValue) (limits : LimitsValue) (p : ℕ) (m : ModuleValue) → IsSoundChip soc → slice_get soc.modules p ≡ Some m → module_bound soc limits.wires p ≡ certificate_value soc limits (OfModule m.number)
unfolding certificate_value
module_value_of soc limits p m sound at = rw (own_place_of soc p m sound at) refl

pub pair_bound_of : (soc : SocValue) (limits : LimitsValue) (p shown : ℕ) (m : ModuleValue) → IsSoundChip soc → slice_get soc.modules p ≡ Some m → Some shown ≡ option_map (λ parent. pair_bound soc limits.wires parent p) (parent_place soc.modules p) → shown ≡ certificate_value soc limits (OfPair m.number)
unfolding certificate_value
pair_bound_of soc limits p shown m sound at is = rw (own_place_of soc p m sound at) (family_some soc limits.wires p shown is).1

pub module_keeps : (soc : SocValue) (limits : LimitsValue) (p claim : ℕ) (m : ModuleValue) → IsSoundChip soc → slice_get soc.modules p ≡ Some m → KeepsList soc limits claim (OfModule m.number)
module_keeps soc limits p claim m sound at = rw (own_place_of soc p m sound at) refl

pub pair_keeps : (soc : SocValue) (limits : LimitsValue) (p shown : ℕ) (m : ModuleValue) → IsSoundChip soc → slice_get soc.modules p ≡ Some m → Some shown ≡ option_map (λ parent. pair_bound soc limits.wires parent p) (parent_place soc.modules p) → KeepsList soc limits shown (OfPair m.number)
pair_keeps soc limits p shown m sound at is = rw (own_place_of soc p m sound at) (family_some soc limits.wires p shown is).0
