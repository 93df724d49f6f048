-- A run that is driven with the bits of the text reads the bits that the text compares.
use Rattle.std.proofs.Common.{◌≡◌, ℕ, ◌+◌, ◌-◌, ◌<◌, Bool, true, false, Some, List, refl, ap, ◌∙◌, sym, arith, inl, inr, slice_get}
use Rattle.std.proofs.lemmas.Option.{same_Some, slice_get_within}
use Rattle.soc_model.specs.declared.TestId.{TestId}
use Rattle.soc_model.specs.Chips.{SocValue}
use Rattle.plan_model.specs.Cells.{Cell}
use Rattle.plan_model.specs.Operations.{Capture}
use Rattle.plan_model.specs.Plans.{PlanValue, LimitsValue, PlannedTest, planned}
use Rattle.plan_model.specs.Right.{IsAt, HoldsStimulus}
use Rattle.plan_model.specs.Rules.{IsGood}
use Rattle.plan_model.specs.Runs.{Content, bits_at, operation_at, carried, shown, run_with, state_at}
use Rattle.plan_model.proofs.LoadsAndReads.{begun_at, loaded_bit}
use Rattle.plan_model.proofs.TestsInGoodPlans.{apart, is_tam_test}
use Rattle.plan_model.proofs.GoodPlansRunRight.{every_good_plan_is_right}
use Rattle.vector_lines.specs.Wires.{wires_of}
use Rattle.tester_vectors.specs.Marks.{digit, response_digits, Marks, MarksReads}
use Rattle.tester_vectors.specs.VectorText.{marked_text, vector_text}
use Rattle.tester_vectors.specs.DrivenRuns.{IsDriven, with_initial, RunsAsShown}
use Rattle.tester_vectors.proofs.ReadBits.{marks_stand_in}
use Rattle.tester_vectors.proofs.TextPlaces.{text_driven, text_compared}
use Rattle.tester_vectors.proofs.SameDrive.{run_same, chains_within}

-- the digits of two bits differ
same_bit : (a b : Bool) → digit a ≡ digit b → a ≡ b
same_bit true true e = refl
same_bit true false e = absurd (omega arith)
same_bit false true e = absurd (omega arith)
same_bit false false e = refl

-- what stands in the cells at first has no part in what the wires carry
carried_with : (content : Content) (initial : TestId → Cell → Bool) (tests : List PlannedTest) (c w : ℕ) → carried (with_initial content initial) tests c w ≡ carried content tests c w
unfolding carried
carried_with content initial tests c w = refl

module _ (soc : SocValue) (plan : PlanValue) (content : Content) (marks : Marks) (initial : TestId → Cell → Bool) (drive : ℕ → ℕ → Bool)
    (driven : IsDriven plan (marked_text soc plan content marks) drive) where
  -- the driven bits are those that the wires carry
  pub driven_is : (c w : ℕ) → c < plan.cycles → w < wires_of plan → drive c w ≡ carried (with_initial content initial) (planned soc plan) c w
  driven_is c w h within =
      same_bit (drive c w) (carried content (planned soc plan) c w) (same_Some (digit (drive c w)) (digit (carried content (planned soc plan) c w)) (sym (driven c w h within) ∙ text_driven soc plan content marks c w h within))
      ∙ sym (carried_with content initial (planned soc plan) c w)

  -- so the run is the plan's own
  pub run_is : (limits : LimitsValue) → IsGood soc limits plan → (c : ℕ) → c < plan.cycles →
      run_with (with_initial content initial) (planned soc plan) drive c ≡ state_at (with_initial content initial) (planned soc plan) c
  run_is limits good c h =
      run_same (with_initial content initial) (planned soc plan) (wires_of plan) plan.cycles c drive (carried (with_initial content initial) (planned soc plan)) (chains_within soc plan (apart soc limits plan good)) driven_is (omega arith)

  -- each Capture finds its stimulus
  pub loads_as_shown : (limits : LimitsValue) → IsGood soc limits plan → (i k c : ℕ) {t : PlannedTest} → IsAt (planned soc plan) i t →
      operation_at t c ≡ Some (Capture k) → HoldsStimulus content (run_with (with_initial content initial) (planned soc plan) drive c) i t k
  loads_as_shown limits good i k c {t} at captures j r cells x there place loaded =
      let b = begun_at t c (Capture k) captures in
      let begun = b.0 in
      let within = slice_get_within t.operations (c - t.start) (Capture k) b.1 in
      let number : t.start + (c - t.start) ≡ c = omega arith in
      let right = every_good_plan_is_right soc limits plan content good in
      let stand = apart soc limits plan good in
      let is = is_tam_test soc plan i t at (stand.tam i j t at (slice_get_within t.chains j cells there)) in
      let holds = loaded_bit (with_initial content initial) (planned soc plan) stand i t at is k (c - t.start) b.1 j r cells x there place loaded in
      let now = rw number at holds in
      ap (λ state. slice_get (bits_at state i j) r) (run_is limits good c (right.ends.over i t c at (begun, omega arith))) ∙ now

pub runs_as_shown : (soc : SocValue) (limits : LimitsValue) (plan : PlanValue) (content : Content) → IsGood soc limits plan → RunsAsShown soc plan content (vector_text soc plan content)
runs_as_shown soc limits plan content good =
    let marks : MarksReads soc plan content = marks_stand_in soc limits plan (response_digits content) good in
    record {
      driven = λ c w h within. text_driven soc plan content (response_digits content) c w h within;
      loads = λ drive initial driven i k c t at captures. loads_as_shown soc plan content (response_digits content) initial drive driven limits good i k c at captures;
      reads = λ drive initial driven c w h within r.
          let right = every_good_plan_is_right soc limits plan (with_initial content initial) good in
          let shows = (right.reads.shows r.place r.test r.pattern r.cell c w r.at r.read).1 in
          text_compared soc plan content (response_digits content) c w h within
          ∙ ap Some (marks.bits r.place r.test r.pattern r.cell c w r.at r.read ∙ ap digit (sym shows ∙ ap (λ state. shown (planned soc plan) state c w) (sym (run_is soc plan content (response_digits content) initial drive driven limits good c h))));
      rest = λ c w h within none.
          text_compared soc plan content (response_digits content) c w h within
          ∙ elim (marks.only c w) [ inl dash ↦ ap Some dash | inr r ↦ absurd (none r) ];
    }
