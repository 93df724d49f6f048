-- How long a test over the wires goes on with what it does.
use Rattle.std.proofs.Common.{◌≡◌, ℕ, zero, suc, ◌+◌, ◌-◌, ◌*◌, ◌/◌, ◌%◌, ◌≤◌, ◌<◌, max, Some, length, refl, ap, ◌∙◌, arith, slice_get, Option}
use Rattle.std.proofs.Math.Nat.{mod-add-div}
use Rattle.plan_model.specs.Operations.{Operation, Setup, Shift, Capture}
use Rattle.plan_model.specs.Moments.{phase_ops}
use Rattle.plan_model.specs.declared.moments.Phases.{Phases}
use Rattle.plan_model.proofs.ByDivision.{block_within, capture_moment, first_moment, setup_moment, shift_moment}
use Rattle.controls.specs.Spells.{GoesOn, IsAction}
use Rattle.controls.specs.declared.spells.Action.TheVariants as action

rests : {op : Option Operation} → op ≡ Some Setup → IsAction op action.Rest
rests e = rw e (record { shift = refl; capture = refl })

moves : {op : Option Operation} → op ≡ Some Shift → IsAction op action.Shift
moves e = rw e (record { shift = refl; capture = refl })

holds : {op : Option Operation} (k : ℕ) → op ≡ Some (Capture k) → IsAction op action.Capture
holds k e = rw e (record { shift = refl; capture = refl })

-- at rest before the first Shift
pub goes_on_resting : (f : Phases) (n : ℕ) → n < f.setup → GoesOn f n (record { action = action.Rest; cycles = f.setup - n })
goes_on_resting f n h i within there = rests (setup_moment f (n + i) (omega arith)).operation

module _ (f : Phases) (some : 1 ≤ f.patterns) where
  -- the Shifts before the first Capture
  pub goes_on_loading : (n : ℕ) → f.setup ≤ n → n - f.setup < f.si → GoesOn f n (record { action = action.Shift; cycles = f.si - (n - f.setup) })
  goes_on_loading n begun h i within there =
      moves (first_moment f (n + i) (n - f.setup + i) some (omega arith) (omega arith)).operation

  -- a Capture, and the Shifts behind it, by the block and the place in it
  capture_here : {cycle : ℕ} (d i : ℕ) → cycle ≡ d * (1 + max f.si f.so) → i < 1 → f.setup + f.si + cycle + i < length (phase_ops f) →
      IsAction (slice_get (phase_ops f) (f.setup + f.si + cycle + i)) action.Capture
  capture_here {cycle} d zero parts within there =
      let inside = block_within f (f.setup + f.si + cycle) cycle d 0 some refl (omega arith) (omega arith) (omega arith) in
      let same : f.setup + f.si + cycle + 0 ≡ f.setup + f.si + cycle = omega arith in
      rw same (holds (d + 1) (capture_moment f (f.setup + f.si + cycle) d (d + 1) inside.0 (omega arith) refl).operation)
  capture_here d (suc i) parts within there = absurd (omega arith)

  shift_here : {cycle : ℕ} (d r : ℕ) → cycle ≡ d * (1 + max f.si f.so) + suc r → suc r < 1 + max f.si f.so →
      f.setup + f.si + cycle < length (phase_ops f) → IsAction (slice_get (phase_ops f) (f.setup + f.si + cycle)) action.Shift
  shift_here {cycle} d r parts within there =
      let inside = block_within f (f.setup + f.si + cycle) cycle d (suc r) some refl there parts within in
      moves (shift_moment f (f.setup + f.si + cycle) d r _ inside.0 (omega arith) (omega (arith, inside.1)) refl).operation

  pub goes_on_capturing : (cycle : ℕ) {w : ℕ} → w ≡ max f.si f.so → cycle % (1 + w) ≡ 0 →
      GoesOn f (f.setup + f.si + cycle) (record { action = action.Capture; cycles = 1 })
  goes_on_capturing cycle {w} wide none i within there =
      let split = mod-add-div cycle (1 + w) in
      let parts : cycle ≡ cycle / (1 + w) * (1 + w) = omega arith in
      let parts' : cycle ≡ cycle / (1 + w) * (1 + max f.si f.so) = parts ∙ ap (λ v. cycle / (1 + w) * (1 + v)) wide in
      capture_here (cycle / (1 + w)) i parts' within there

  pub goes_on_shifting : (cycle : ℕ) {w : ℕ} → w ≡ max f.si f.so → 1 ≤ cycle % (1 + w) →
      GoesOn f (f.setup + f.si + cycle) (record { action = action.Shift; cycles = (1 + w) - cycle % (1 + w) })
  goes_on_shifting cycle {w} wide later i within there =
      let split = mod-add-div cycle (1 + w) in
      let parts : cycle + i ≡ cycle / (1 + w) * (1 + w) + suc (cycle % (1 + w) - 1 + i) = omega arith in
      let parts' : cycle + i ≡ cycle / (1 + w) * (1 + max f.si f.so) + suc (cycle % (1 + w) - 1 + i) = parts ∙ ap (λ v. cycle / (1 + w) * (1 + v) + suc (cycle % (1 + w) - 1 + i)) wide in
      let same : f.setup + f.si + cycle + i ≡ f.setup + f.si + (cycle + i) = omega arith in
      let there' = rw same at there in
      rw same (shift_here (cycle / (1 + w)) (cycle % (1 + w) - 1 + i) parts' (omega arith) there')
