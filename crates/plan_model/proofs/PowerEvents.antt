-- Power rises only where a test starts or a step of its profile begins.
use Rattle.std.proofs.Common.{◌≡◌, ℕ, zero, suc, ◌+◌, ◌-◌, ◌≤◌, ◌<◌, Bool, true, false, List, [], ◌∷◌, length, leb, ltb, refl, arith, inl, inr, ◌⊎◌}
use Rattle.std.specs.Prelude.{nat_eq, nat_le, ◌||◌, ◌&&◌, if◌then◌else◌}
use Rattle.std.specs.List.{sum_by, list_any}
use Rattle.std.proofs.lemmas.Bool.{cases_lt, cases_Bool, cases_eq, eqb-false, leb-true, le-leb, lt-leb, or_parts, and_parts, ltb-true, lt-ltb}
use Rattle.soc_model.specs.declared.TestId.{TestId}
use Rattle.soc_model.specs.Chips.{same_test}
use Rattle.plan_model.specs.Plans.{ProfileValue, LimitsValue, PlannedTest, is_active, end_of, of_first, step_power, power_of, power_at}
use Rattle.plan_model.proofs.Sums.{sum_by-le_at, sum_by-filter}
use Rattle.plan_model.proofs.Lists.{none_of}

-- a step begins `r` cycles after the start
abbrev pub begins : ℕ → List (ℕ × ℕ) → Bool
begins r steps = list_any (λ (s : ℕ × ℕ). nat_eq s.0 r) steps

step_power_same : (r now : ℕ) (steps : List (ℕ × ℕ)) → begins (suc r) steps ≡ false → step_power (suc r) now steps ≡ step_power r now steps
step_power_same r now [] h = refl
step_power_same r now (s ∷ steps) h =
    let p = or_parts (nat_eq s.0 (suc r)) (begins (suc r) steps) h in
    go (cases_lt r s.0) (λ e. eqb-false s.0 (suc r) p.0 e) (step_power_same r s.1 steps p.1) (step_power_same r now steps p.1)
  where
    go : (r < s.0) ⊎ (s.0 ≤ r) → (s.0 ≡ suc r → ⊥) → step_power (suc r) s.1 steps ≡ step_power r s.1 steps → step_power (suc r) now steps ≡ step_power r now steps →
        step_power (suc r) now (s ∷ steps) ≡ step_power r now (s ∷ steps)
    go (inl later) other a b = elim (cases_eq s.0 (suc r)) [
      | inl same ↦ absurd (other same)
      | inr apart ↦ rw (lt-leb s.0 (suc r) (omega (arith, apart)), lt-leb s.0 r later) b
    ]
    go (inr begun) other a b = rw (le-leb s.0 (suc r) (omega arith), le-leb s.0 r begun) a

-- the steps of a test, none where it has no profile
abbrev pub steps_of : LimitsValue → TestId → List (ℕ × ℕ)
steps_of limits id = of_first (λ (p : ProfileValue). same_test p.test id) (λ p. p.steps) [] limits.profiles

of_first_same : (p : ProfileValue → Bool) (r own : ℕ) (ps : List ProfileValue) → begins (suc r) (of_first p (λ p. p.steps) [] ps) ≡ false → of_first p (λ p. step_power (suc r) 0 p.steps) own ps ≡ of_first p (λ p. step_power r 0 p.steps) own ps
of_first_same p r own [] h = refl
of_first_same p r own (x ∷ ps) h = elim (cases_Bool (p x)) [
  | inl yes' ↦ let h' = rw yes' at h in rw yes' (step_power_same r 0 x.steps h')
  | inr no' ↦ let h' = rw no' at h in rw no' (of_first_same p r own ps h')
]

-- a test starts or one of its steps begins
abbrev pub is_event_of : LimitsValue → ℕ → PlannedTest → Bool
is_event_of limits c t = nat_eq t.start c || (nat_le t.start c && begins (c - t.start) (steps_of limits t.id))

-- what a test draws at a cycle, 0 where it is not active
abbrev pub drawn : LimitsValue → ℕ → PlannedTest → ℕ
drawn limits c t = if is_active c t then power_of limits t (c - t.start) else 0

falls : (limits : LimitsValue) (c : ℕ) (t : PlannedTest) → is_event_of limits (suc c) t ≡ false → drawn limits (suc c) t ≤ drawn limits c t
falls limits c t h = go (cases_Bool (is_active (suc c) t)) where
  go : (is_active (suc c) t ≡ true) ⊎ (is_active (suc c) t ≡ false) → drawn limits (suc c) t ≤ drawn limits c t
  go (inr no') = rw no' (omega arith)
  go (inl yes') =
      let p = or_parts (nat_eq t.start (suc c)) (leb t.start (suc c) && begins (suc c - t.start) (steps_of limits t.id)) h in
      let a = and_parts (leb t.start (suc c)) (ltb (suc c) (end_of t)) yes' in
      let begun : t.start ≤ suc c = leb-true t.start (suc c) a.0 in
      let active : suc c < end_of t = ltb-true (suc c) (end_of t) a.1 in
      let other = eqb-false t.start (suc c) p.0 in
      let before : t.start ≤ c = earlier begun other in
      let number : suc c - t.start ≡ suc (c - t.start) = omega arith in
      let none = rw (a.0, number) at p.1 in
      let same : power_of limits t (suc (c - t.start)) ≡ power_of limits t (c - t.start) = of_first_same (λ (p : ProfileValue). same_test p.test t.id) (c - t.start) t.power limits.profiles none in
      rw (yes', number, same, le-leb t.start c before, lt-ltb c (t.start + length t.operations) (omega arith)) (omega arith)
    where
      earlier : t.start ≤ suc c → (t.start ≡ suc c → ⊥) → t.start ≤ c
      earlier begun other = elim (cases_eq t.start (suc c)) [ inl same ↦ absurd (other same) | inr apart ↦ omega (arith, apart) ]
