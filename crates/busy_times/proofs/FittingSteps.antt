-- The steps of a test that fit, one after another.
use Rattle.std.proofs.Common.{◌≡◌, ℕ, zero, suc, ◌+◌, ◌<◌, ◌≤◌, List, [], ◌∷◌, length, drop, get_or, arith, refl, sym, add-one, drop-cons, subst}
use Rattle.busy_times.specs.Draws.{step_end, StepsFit, StepFits}

module _ (load : ℕ → ℕ) where
  pub steps_fit-drop : (most start length i : ℕ) (steps : List (ℕ × ℕ)) → StepsFit load most start length steps → StepsFit load most start length (drop i steps)
  steps_fit-drop most start length zero steps fit = fit
  steps_fit-drop most start length (suc i) [] fit = tt
  steps_fit-drop most start length (suc i) (s ∷ steps) fit = steps_fit-drop most start length i steps fit.1

  -- the load in the window of the step at a place
  pub window_at : (limit other length' at : ℕ) (steps : List (ℕ × ℕ)) → at < length steps → StepsFit load limit other length' steps → (c : ℕ) →
      other + (get_or steps at (0, 0)).0 ≤ c → c < other + step_end length' (drop (at + 1) steps) → load c + (get_or steps at (0, 0)).1 ≤ limit
  window_at limit other length' at steps lt fit =
      let parts : drop at steps ≡ get_or steps at (0, 0) ∷ drop (at + 1) steps = rw (add-one, drop-cons steps at (0, 0)) refl in
      let here = rw parts at (steps_fit-drop limit other length' at steps fit) in
      here.0

module _ (load : ℕ → ℕ) (limit start length' : ℕ) where
  -- one step more
  pub steps_fit_more : (at : ℕ) (steps : List (ℕ × ℕ)) → at < length steps →
      ((c : ℕ) → start + (get_or steps at (0, 0)).0 ≤ c → c < start + step_end length' (drop (at + 1) steps) → load c + (get_or steps at (0, 0)).1 ≤ limit) →
      StepsFit load limit start length' (drop (at + 1) steps) → StepsFit load limit start length' (drop at steps)
  steps_fit_more at steps lt here rest =
      let parts : drop at steps ≡ get_or steps at (0, 0) ∷ drop (at + 1) steps = rw (add-one, drop-cons steps at (0, 0)) refl in
      subst (StepsFit load limit start length') (sym parts) (here, rest)

  -- no step is left past the last
  pub steps_fit_end : (at : ℕ) (steps : List (ℕ × ℕ)) → length steps ≤ at → StepsFit load limit start length' (drop at steps)
  steps_fit_end zero [] le = tt
  steps_fit_end (suc at) [] le = tt
  steps_fit_end zero (s ∷ steps) le = absurd (omega arith)
  steps_fit_end (suc at) (s ∷ steps) le = steps_fit_end at steps (omega arith)

  -- the steps from a place on fit where each of them does
  pub steps_fit_all : (n at : ℕ) (steps : List (ℕ × ℕ)) → at + n ≡ length steps → ((k : ℕ) → at ≤ k → k < length steps → StepFits load limit start length' k steps) →
      StepsFit load limit start length' (drop at steps)
  steps_fit_all zero at steps ends each = steps_fit_end at steps (omega (arith, ends))
  steps_fit_all (suc n) at steps ends each =
      steps_fit_more at steps (omega (arith, ends)) (each at (omega arith) (omega (arith, ends)))
      (steps_fit_all n (at + 1) steps (omega (arith, ends)) (λ k low lt. each k (omega (arith, low)) lt))
