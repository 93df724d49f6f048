-- The limits of made chips are sound for them.
use Rattle.std.proofs.Common.{◌≡◌, ℕ, ◌<◌, ◌≤◌, ◌⊎◌, inl, inr, ◌||◌, Bool, true, false, Some, [], slice_get, nat_eq, nat_lt, refl, subst, arith, All, Contains}
use Rattle.std.proofs.lemmas.Bool.Decides.{nat_tests}
use Rattle.std.proofs.lemmas.List.Elements.{All-nil}
use Rattle.std.proofs.lemmas.Option.{slice_get_within, get_or_from_slice_get}
use Rattle.soc_model.specs.declared.TestId.{TestId}
use Rattle.soc_model.specs.Chips.{SocValue, LiveTest, live_tests}
use Rattle.plan_model.specs.SoundLimits.{HasTest, IsSoundProfile, IsSoundLimits}
use Rattle.plan_commands.specs.Procedures.{sample_refusal}
use Rattle.plan_commands.specs.Samples.{sample_limits, sample_line}
use Rattle.common_lemmas.proofs.Lists.{contains_at}

weak : (soc : SocValue) → All (λ (l : LiveTest). l.test.power ≤ 99) (live_tests soc) → (i : ℕ) (l : LiveTest) → slice_get (live_tests soc) i ≡ Some l → l.test.power ≤ 300
weak soc all i l at =
    let le : l.test.power ≤ 99 = subst (λ (x : LiveTest). x.test.power ≤ 99) (get_or_from_slice_get (live_tests soc) i l l at) (all i l (slice_get_within (live_tests soc) i l at)) in
    omega arith

none_held : {X : Type 0} (p : ℕ) (x : X) → slice_get [] p ≡ Some x → ⊥
none_held p x at = let lt = slice_get_within [] p x at in omega arith

no_item : (p : TestId × TestId) → Contains {X = TestId × TestId} [] p → ⊥
no_item p held = let at = contains_at [] p held in let lt = slice_get_within [] at.0 p at.1 in omega arith

pub limits_sound : (soc : SocValue) → All (λ (l : LiveTest). l.test.power ≤ 99) (live_tests soc) → IsSoundLimits soc sample_limits
limits_sound soc all = record {
  some_wire = omega arith;
  few_wires = omega arith;
  power = omega arith;
  budget = omega arith;
  before = All-nil (λ (p : TestId × TestId). HasTest soc p.0 × HasTest soc p.1);
  profiles = All-nil (IsSoundProfile soc);
  one_profile = λ p q x y atp atq same. absurd (none_held p x atp);
  acyclic = (λ id. 0, λ a b before la lb. absurd (no_item (a, b) before));
  within = λ i l at r. weak soc all i l at;
}

-- ---- which numbers of modules are refused

lt_true : (a b : ℕ) → a < b → nat_lt a b ≡ true
lt_true a b lt = grind (arith, nat_tests)

either : (b : Bool) → (b || true) ≡ true
either true = refl
either false = refl

pub refused : (n : ℕ) → (n ≡ 0) ⊎ (200 < n) → sample_refusal n ≡ Some (sample_line n)
refused n (inl is) = rw is refl
refused n (inr many) = rw (lt_true 200 n many, either (nat_eq n 0)) refl
