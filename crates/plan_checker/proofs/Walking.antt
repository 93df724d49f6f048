-- The wrappers of modules are walked one by one.
use Rattle.std.proofs.Common.{◌≡◌, ◌⊎◌, inl, inr, ℕ, ◌+◌, ◌<◌, ◌≤◌, Some, List, length, set, sym, ap, ◌∙◌, subst, arith, slice_get}
use Rattle.std.proofs.lemmas.Bool.{cases_eq}
use Rattle.std.proofs.lemmas.Option.{slice_get_within}
use Rattle.soc_model.specs.Chips.{ModuleValue, SocValue}
use Rattle.plan_model.specs.Plans.{PlanValue}
use Rattle.live_tests.specs.Placed.{AreWalked}
use Rattle.live_tests.specs.Wrapped.{AreModeWrappers}
use Rattle.live_tests.specs.declared.wrapped.ModeWrappers.{ModeWrappers}
use Rattle.live_tests.proofs.WrittenParents.{set_else}
use Rattle.plan_checker.proofs.Finding.{some_same}
use Rattle.common_lemmas.proofs.Lists.{set_here}

-- those of the first modules
abbrev pub AreWalkedTo : SocValue → PlanValue → ℕ → List ModeWrappers → Type 0
AreWalkedTo soc plan n walked = (p : ℕ) (m : ModuleValue) (w : ModeWrappers) → p < n → slice_get soc.modules p ≡ Some m → slice_get walked p ≡ Some w → AreModeWrappers plan m w

-- one module more
pub walked_more : (soc : SocValue) (plan : PlanValue) (walked : List ModeWrappers) (n next : ℕ) (m : ModuleValue) (w : ModeWrappers) → next ≡ n + 1 → n < length walked → slice_get soc.modules n ≡ Some m → AreModeWrappers plan m w → AreWalkedTo soc plan n walked → AreWalkedTo soc plan next (set walked n w)
walked_more soc plan walked n next m w is within at here before p k v less there found = by (cases_eq p n) where
  by : (p ≡ n) ⊎ (p ≡ n → ⊥) → AreModeWrappers plan k v
  by (inl same) =
      let one : m ≡ k = some_same (sym at ∙ ap (slice_get soc.modules) (sym same) ∙ there) in
      let two : w ≡ v = some_same (sym (set_here walked n w within) ∙ ap (slice_get (set walked n w)) (sym same) ∙ found) in
      subst (λ (x : ModeWrappers). AreModeWrappers plan k x) two (subst (λ (x : ModuleValue). AreModeWrappers plan x w) one here)
  by (inr other) = before p k v (omega (arith, less, is, other)) there (sym (set_else walked n p w other) ∙ found)

-- all of them
pub all_walked : (soc : SocValue) (plan : PlanValue) (walked : List ModeWrappers) (n : ℕ) → length walked ≡ length soc.modules → length soc.modules ≤ n → AreWalkedTo soc plan n walked → AreWalked soc plan walked
all_walked soc plan walked n long past are = record { long = long; are = λ p m w at found. are p m w (omega (arith, past, slice_get_within soc.modules p m at)) at found }
