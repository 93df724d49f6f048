-- A wire without a user, and the response bit that is read on a wire.
use Rattle.std.proofs.Common.{◌≡◌, ℕ, suc, ◌+◌, ◌-◌, ◌≤◌, ◌<◌, Bool, true, false, Option, Some, None, List, [], ◌∷◌, length, reverse, refl, ap, ◌∙◌, arith, inl, inr, slice_get}
use Rattle.std.proofs.lemmas.List.{get_or_past, get_or-reverse, length-reverse}
use Rattle.std.proofs.lemmas.List.Sums.{count_by-le-length}
use Rattle.std.proofs.lemmas.Option.{slice_get-get_or}
use Rattle.std.proofs.lemmas.Bool.{cases_lt, false_from_ne_true, ltb-true}
use Rattle.plan_model.specs.Cells.{Cell, In, is_read, out_length}
use Rattle.plan_model.specs.Operations.{Capture}
use Rattle.plan_model.specs.Plans.{PlannedTest, uses}
use Rattle.plan_model.specs.Runs.{chain_at, at_first_user}
use Rattle.plan_model.specs.OneTest.{from_end}
use Rattle.plan_model.specs.Right.{IsAt, IsReadAt}
use Rattle.plan_model.proofs.LoadsAndReads.{at_start_plus}
use Rattle.vector_lines.specs.Paths.{is_answered}
use Rattle.plan_model.specs.Moments.{phase_ops, moment_behind, IsMoment}
use Rattle.plan_model.specs.declared.moments.Moment.{Moment}
use Rattle.vector_lines.specs.declared.lane.Lane.{Lane}

-- a wire without a user
pub nobody : (f : ℕ → PlannedTest → ℕ → Bool) (c x n : ℕ) (tests : List PlannedTest) → ((i : ℕ) (t : PlannedTest) → IsAt tests i t → uses c x t ≡ true → ⊥) → at_first_user f c x n tests ≡ false
nobody f c x n [] none = refl
nobody f c x n (t ∷ tests) none =
    let other = false_from_ne_true (uses c x t) (λ e. none 0 t refl e) in
    rw other (nobody f c x (n + 1) tests (λ i u at e. none (suc i) u at e))

-- ---- the response bit that is read

pub from_answered : (cells : List Cell) (a : Option (ℕ × ℕ)) → is_answered cells a ≡ true → (s : ℕ) × (k : ℕ) × (a ≡ Some (s, k)) × (s < out_length cells)
from_answered cells None e = absurd cc
from_answered cells (Some a) e = (a.0, a.1, refl, ltb-true a.0 (out_length cells) e)

pub at_end : (cells : List Cell) (s : ℕ) → s < out_length cells → slice_get (reverse cells) s ≡ Some (from_end cells s)
at_end cells s h =
    let few = count_by-le-length is_read cells in
    slice_get-get_or (reverse cells) s (In 0) (rw (length-reverse cells) (omega arith)) ∙ ap Some (get_or-reverse cells s (In 0) (omega arith))

pub read_there : (t : PlannedTest) (l : Lane) (c : ℕ) {n : ℕ} (w j s k : ℕ) {m : Moment} → t.operations ≡ phase_ops l.phases → t.start ≤ c →
    c - t.start ≡ n → w ≡ t.first_wire + j → IsMoment l.phases n m → moment_behind m ≡ Some (s, k) → s < out_length (chain_at t j) →
    IsReadAt t k (from_end (chain_at t j) s) c w
read_there t l c w j s k operations begun at wire now behind few =
    let q = now.behind s k behind in
    record {
      chain = j;
      cells = chain_at t j;
      there = chain_there t j s few;
      shifts = s;
      within = few;
      cell = at_end (chain_at t j) s few;
      capture = t.start + q.0;
      captures = at_start_plus t q.0 (Capture k) (rw (← operations) at q.1);
      cycle = omega (arith, q.2);
      wire = wire;
    }
  where
    chain_there : (t : PlannedTest) (j s : ℕ) → s < out_length (chain_at t j) → slice_get t.chains j ≡ Some (chain_at t j)
    chain_there t j s h = elim (cases_lt j (length t.chains)) [
      | inl less ↦ slice_get-get_or t.chains j [] less
      | inr past ↦
          let empty = get_or_past t.chains j [] past in
          let h' = rw empty at h in
          absurd (omega arith)
    ]
