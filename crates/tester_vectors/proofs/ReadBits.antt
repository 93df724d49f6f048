-- A wire's mark is that of the response bit that is read there: counting back to the last Capture finds it.
use Rattle.std.proofs.Common.{◌≡◌, ℕ, ◌-◌, ◌⊎◌, false, List, ◌∙◌, ap, arith, inl, inr}
use Rattle.soc_model.specs.Chips.{SocValue}
use Rattle.plan_model.specs.Cells.{Cell}
use Rattle.plan_model.specs.Plans.{PlanValue, LimitsValue, PlannedTest, planned, uses}
use Rattle.plan_model.specs.Right.{IsAt}
use Rattle.plan_model.specs.Rules.{IsGood}
use Rattle.plan_model.specs.Runs.{Content}
use Rattle.plan_model.proofs.ChainsInTheRun.{AreApart}
use Rattle.plan_model.proofs.TestsInGoodPlans.{uses_is, apart}
use Rattle.plan_model.proofs.GoodPlansRunRight.{every_good_plan_is_right}
use Rattle.live_tests.specs.Reads.{read_of}
use Rattle.live_tests.proofs.CountedBack.{Reading, reading, of_read, of_first_cases, unread}
use Rattle.tester_vectors.specs.Marks.{mark_of, mark, Marks, MarksStand}
use Rattle.vector_lines.specs.Wires.{IsCompared}

module _ (marks : Marks) (c w : ℕ) where
  -- the mark that a test gives a wire
  test_mark : PlannedTest → ℕ
  test_mark t = mark_of (marks t.id) (read_of c w t)

  marked : {tests : List PlannedTest} (stand : AreApart tests) (i : ℕ) {t : PlannedTest} {k : ℕ} {x : Cell} → IsAt tests i t → Reading t k x c w →
      mark marks tests c w ≡ marks t.id k x
  unfolding test_mark
  marked {tests} stand i {t} {k} {x} at r = of_read test_mark 45 tests stand i t k x c w at r ∙ ap (mark_of (marks t.id)) r.found

  -- a wire without the mark `-` is one that is read
  only_reads : (tests : List PlannedTest) → (mark marks tests c w ≡ 45) ⊎ IsCompared tests c w
  unfolding test_mark
  only_reads tests = elim (of_first_cases (uses c w) test_mark 45 tests) [
    | inl none ↦ inl none
    | inr f ↦ elim (unread f.1 c w (uses_is c w f.1 f.3)) [
      | inl none ↦ inl (f.4 ∙ ap (mark_of (marks (f.1).id)) none)
      | inr r ↦ inr (record { place = f.0; test = f.1; pattern = r.pattern; cell = r.cell; at = f.2; read = r.read })
    ]
  ]

pub marks_stand_in : (soc : SocValue) (limits : LimitsValue) (plan : PlanValue) (marks : Marks) → IsGood soc limits plan → MarksStand soc plan marks
marks_stand_in soc limits plan marks good =
    let content : Content = record { initial = λ id x. false; stimulus = λ id k x. false; response = λ id k x. false } in
    let right = every_good_plan_is_right soc limits plan content good in
    record {
      bits = λ i t k x c w at r. marked marks c w (apart soc limits plan good) i at (reading (planned soc plan) (apart soc limits plan good) i t k x c w at r
          (λ s h. right.reads.all_shifts i t k x c w at r (c - s) (omega (arith, r.cycle)) (omega arith)));
      only = λ c w. only_reads marks c w (planned soc plan);
    }

-- a response bit is read on a wire at a cycle, or none is
pub compared_or_not : {soc : SocValue} {plan : PlanValue} → MarksStand soc plan (λ id k x. 48) → (c w : ℕ) →
    IsCompared (planned soc plan) c w ⊎ (IsCompared (planned soc plan) c w → ⊥)
compared_or_not stand c w = elim (stand.only c w) [
  | inr r ↦ inl r
  | inl dash ↦ inr (λ r. let zero' = stand.bits r.place r.test r.pattern r.cell c w r.at r.read in omega arith)
]
