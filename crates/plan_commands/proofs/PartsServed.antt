-- The command over parts: its refusal, its answer, and that each pattern of the chip that was cut is loaded and read once.
use Rattle.std.proofs.Common.{◌≡◌, ℕ, ◌+◌, ◌-◌, ◌≤◌, true, List, Option, None, Some, option_map, refl, sym, ap, ◌∙◌, subst, arith, slice_get}
use Rattle.std.specs.FinMap.{get}
use Rattle.std.proofs.lemmas.Option.{same_Some}
use Rattle.outside.specs.Held.{Files, Appended}
use Rattle.soc_model.specs.declared.SocLimit.{SocLimit}
use Rattle.soc_model.specs.declared.TestId.{TestId}
use Rattle.soc_model.specs.declared.Which.{Which}
use Rattle.soc_model.specs.declared.Which.TheVariants.{Modules, Tests, Chains, Power, Work}
use Rattle.soc_model.specs.Chips.{SocValue, LiveTest, live_tests, id_of}
use Rattle.soc_model.specs.Sizes.{IsWithinSize, IsFirstPassed, passed}
use Rattle.soc_model.specs.SoundChips.{IsSoundChip}
use Rattle.plan_model.specs.Cells.{Cell}
use Rattle.plan_model.specs.Plans.{LimitsValue, PlanValue, PlannedTest, planned, planned_test}
use Rattle.plan_model.specs.Right.{IsAt, Loads, IsRight}
use Rattle.plan_model.specs.Runs.{Content}
use Rattle.plan_model.proofs.TestsInGoodPlans.{planned_tam}
use Rattle.soc_reader.specs.ChipForm.{SaysChip}
use Rattle.soc_reader.proofs.ChipsSaid.{sound_chip}
use Rattle.planner.specs.Plans.{IsPlanned}
use Rattle.live_tests.proofs.LiveIds.{ids_differ}
use Rattle.split_plan.specs.declared.Part.{Part}
use Rattle.split_plan.specs.Laws.{IsInOnePart, IsPart}
use Rattle.split_plan.specs.Parts.{split_chip, split_limits, split_parts, split_of}
use Rattle.split_plan.proofs.PartContents.{contents}
use Rattle.split_plan.proofs.PartLaws.{each_once, are_parts}
use Rattle.commands.specs.declared.FileKind.TheVariants.{Soc, Limits}
use Rattle.commands.specs.declared.Status.TheVariants.{Done}
use Rattle.commands.specs.Answers.{Answers}
use Rattle.commands.specs.Procedures.{Unless}
use Rattle.plan_commands.specs.Procedures.{done_with_split, split_procedure}
use Rattle.commands.specs.Readings.{IsRead, SaysLimits}
use Rattle.plan_commands.specs.SplitEnds.{HasPatternsOf, IsLoadedAndRead, IsServedOnce, IsTrustworthySplit}
use Rattle.plan_commands.specs.SplitText.{passed_as, first_passed, split_refusal, split_text}
use Rattle.commands.specs.Trusted.{TrustLaws}
use Rattle.commands.proofs.Trusted.{both_done, not_refused}
use Rattle.common_lemmas.proofs.Lists.{map_at}

-- ---- the first limit that is passed

none_as : (soc : SocValue) (w : Which) → passed soc w ≡ None → passed_as soc w ≡ None
none_as soc w none = ap (option_map (λ (n : ℕ). limit_of w n)) none
  where
    limit_of : Which → ℕ → SocLimit
    limit_of w n = record { which = w; value = n }

some_as : (soc : SocValue) (w : Which) (n : ℕ) → passed soc w ≡ Some n → passed_as soc w ≡ Some (record { which = w; value = n })
some_as soc w n some = ap (option_map (λ (n : ℕ). limit_of w n)) some
  where
    limit_of : Which → ℕ → SocLimit
    limit_of w n = record { which = w; value = n }

pub none_passed : (soc : SocValue) → IsWithinSize soc → first_passed soc ≡ None
none_passed soc within =
    rw (none_as soc Modules (within Modules), none_as soc Tests (within Tests), none_as soc Chains (within Chains), none_as soc Power (within Power), none_as soc Work (within Work)) refl

pub passed_first : (soc : SocValue) (which : Which) (n : ℕ) → IsFirstPassed soc (record { which = which; value = n }) → first_passed soc ≡ Some (record { which = which; value = n })
passed_first soc Modules n first = rw (some_as soc Modules n first.passes) refl
passed_first soc Tests n first =
    let a = none_as soc Modules (first.earlier Modules (omega arith)) in
    rw (a, some_as soc Tests n first.passes) refl
passed_first soc Chains n first =
    let a = none_as soc Modules (first.earlier Modules (omega arith)) in
    let b = none_as soc Tests (first.earlier Tests (omega arith)) in
    rw (a, b, some_as soc Chains n first.passes) refl
passed_first soc Power n first =
    let a = none_as soc Modules (first.earlier Modules (omega arith)) in
    let b = none_as soc Tests (first.earlier Tests (omega arith)) in
    let c = none_as soc Chains (first.earlier Chains (omega arith)) in
    rw (a, b, c, some_as soc Power n first.passes) refl
passed_first soc Work n first =
    let a = none_as soc Modules (first.earlier Modules (omega arith)) in
    let b = none_as soc Tests (first.earlier Tests (omega arith)) in
    let c = none_as soc Chains (first.earlier Chains (omega arith)) in
    let d = none_as soc Power (first.earlier Power (omega arith)) in
    rw (a, b, c, d, some_as soc Work n first.passes) refl

-- ---- each pattern of the chip that was cut

planned_id : (plan : PlanValue) (l : LiveTest) → (planned_test plan l.place l.core l.test).id ≡ id_of l
unfolding planned_test
planned_id plan l = refl

planned_patterns : (plan : PlanValue) (l : LiveTest) → (planned_test plan l.place l.core l.test).patterns ≡ l.test.patterns
unfolding planned_test
planned_patterns plan l = refl

planned_at : (soc : SocValue) (plan : PlanValue) (i : ℕ) (l : LiveTest) → slice_get (live_tests soc) i ≡ Some l → IsAt (planned soc plan) i (planned_test plan l.place l.core l.test)
unfolding planned
planned_at soc plan i l at = map_at (λ (l : LiveTest). planned_test plan l.place l.core l.test) (live_tests soc) i l at

-- a live test by its name
live_is : (soc : SocValue) → IsSoundChip soc → (i j : ℕ) (l k : LiveTest) → slice_get (live_tests soc) i ≡ Some l → slice_get (live_tests soc) j ≡ Some k → id_of l ≡ id_of k → l ≡ k
live_is soc sound i j l k at there same =
    let place : i ≡ j = ids_differ soc sound i j (id_of k) (map_at id_of (live_tests soc) i l at ∙ ap Some same) (map_at id_of (live_tests soc) j k there) in
    same_Some l k (sym at ∙ ap (slice_get (live_tests soc)) place ∙ there)

-- capture `k` of a part is pattern `n` of its test
loaded_and_read : (parts : SocValue) (limits : LimitsValue) (plan : PlanValue) (list : List Part) (whole content : Content) → IsRight parts limits plan content → HasPatternsOf list whole content → (i : ℕ) (p : Part) (t : PlannedTest) (id : TestId) (n k : ℕ) →
    slice_get list i ≡ Some p → IsAt (planned parts plan) i t → t.id ≡ p.part → p.whole ≡ id → p.first + k - 1 ≡ n → 1 ≤ k → k ≤ t.patterns → t.tam ≡ true → IsLoadedAndRead whole content (planned parts plan) i t id n k
loaded_and_read parts limits plan list whole content right has i p t id n k there at named wholes number some within tam =
    let loads : Loads content (planned parts plan) i t k = right.loads i t k at tam some within in
    let stimulus : (x : Cell) → content.stimulus t.id k x ≡ whole.stimulus id n x = λ x.
    ap (λ (d : TestId). content.stimulus d k x) named ∙ has.stimulus i p k x there some ∙ ap (λ (d : TestId). whole.stimulus d (p.first + k - 1) x) wholes ∙ ap (λ (m : ℕ). whole.stimulus id m x) number in
    let response : (x : Cell) → content.response t.id k x ≡ whole.response id n x = λ x.
    ap (λ (d : TestId). content.response d k x) named ∙ has.response i p k x there some ∙ ap (λ (d : TestId). whole.response d (p.first + k - 1) x) wholes ∙ ap (λ (m : ℕ). whole.response id m x) number in
    record {
      cycle = loads.cycle;
      captures = loads.captures;
      once = loads.once;
      holds = λ j r cells x chain cell loaded. loads.holds j r cells x chain cell loaded ∙ ap Some (stimulus x);
      reads = λ x stands read.
          let e = right.reads.every i t k x at tam some within stands read in
          (e.0, e.1, e.2, (right.reads.shows i t k x e.0 e.1 at e.2).1 ∙ response x, λ c' w' r'. right.reads.once i t k x c' e.0 w' e.1 at r' e.2);
    }

pub served : (chip : SocValue) (bounds : LimitsValue) (most : ℕ) (plan : PlanValue) → 1 ≤ most → IsSoundChip chip → ((content : Content) → IsRight (split_chip bounds most chip) (split_limits bounds most chip) plan content) →
    (whole content : Content) → HasPatternsOf (split_parts bounds most chip) whole content → (i : ℕ) (l : LiveTest) (n : ℕ) → slice_get (live_tests chip) i ≡ Some l → 1 ≤ n → n ≤ l.test.patterns →
    IsServedOnce whole content (planned (split_chip bounds most chip) plan) (split_parts bounds most chip) l n
served chip bounds most plan some sound right whole content has i l n at one most_n =
    let o : IsInOnePart (split_parts bounds most chip) (id_of l) n = each_once bounds most chip some sound i l n at one most_n in
    let a : IsPart chip (split_chip bounds most chip) o.place o.part = (are_parts bounds most chip some sound).each o.place o.part o.there in
    let same : a.whole ≡ l = live_is chip sound a.at i a.whole l a.whole_at at (a.whole_is ∙ o.has.0) in
    let t : PlannedTest = planned_test plan a.part.place a.part.core a.part.test in
    let t_at : IsAt (planned (split_chip bounds most chip) plan) o.place (planned_test plan a.part.place a.part.core a.part.test) = planned_at (split_chip bounds most chip) plan o.place a.part a.part_at in
    let named : (planned_test plan a.part.place a.part.core a.part.test).id ≡ o.part.part = planned_id plan a.part ∙ a.part_is in
    let many : (planned_test plan a.part.place a.part.core a.part.test).patterns ≡ a.part.test.patterns = planned_patterns plan a.part in
    let patterns = a.patterns in
    let low = o.has.1 in
    let high = o.has.2 in
    let first = a.from_one in
    let number : o.part.first + (n + 1 - o.part.first) ≡ n + 1 = omega (arith, low) in
    let number' : o.part.first + (n + 1 - o.part.first) - 1 ≡ n = omega (arith, low) in
    let some_number : 1 ≤ n + 1 - o.part.first = omega (arith, low) in
    let within : n + 1 - o.part.first ≤ (planned_test plan a.part.place a.part.core a.part.test).patterns = omega (arith, many, patterns, low, high) in
    let tam : (planned_test plan a.part.place a.part.core a.part.test).tam ≡ l.test.tam = planned_tam plan a.part.place a.part.core a.part.test ∙ a.tam ∙ ap (λ (l : LiveTest). l.test.tam) same in
    record {
      place = o.place;
      part = o.part;
      there = o.there;
      has = o.has;
      only = o.only;
      test = planned_test plan a.part.place a.part.core a.part.test;
      test_at = t_at;
      test_is = named;
      number = n + 1 - o.part.first;
      number_is = number;
      some = some_number;
      within = within;
      over_wires = λ wires. loaded_and_read (split_chip bounds most chip) (split_limits bounds most chip) plan (split_parts bounds most chip) whole content (right content) has o.place o.part (planned_test plan a.part.place a.part.core a.part.test) (id_of l) n (n + 1 - o.part.first) o.there t_at named o.has.0 number' some_number within (tam ∙ wires);
      by_itself = λ self. (right content).self_tests o.place (planned_test plan a.part.place a.part.core a.part.test) t_at (tam ∙ self);
    }

-- ---- what is printed

pub parts_printed : TrustLaws → (files : Files) (soc limits : List ℕ) (most : ℕ) → 1 ≤ most → (text : List ℕ) (old new : Option (List ℕ)) → Answers (split_procedure soc limits most) files Done text → Appended old text new → IsTrustworthySplit files soc limits most old new
parts_printed laws files soc limits most some text old new answer put =
    let b = both_done files soc limits text (λ chip bounds. Unless (split_refusal chip bounds most) (done_with_split chip bounds most)) answer in
    let m = (not_refused files (split_refusal b.0 b.1 most) (done_with_split b.0 b.1 most) text b.4).1 in
    go b.0 b.1 m.0 b.2 b.3 m.1 m.2
  where
    go : (chip : SocValue) (bounds : LimitsValue) (value : PlanValue) → IsRead Soc SaysChip (get files soc) chip → IsRead Limits (SaysLimits chip) (get files limits) bounds → IsPlanned (split_chip bounds most chip) (split_limits bounds most chip) value → text ≡ split_text (split_of chip bounds most) value →
        IsTrustworthySplit files soc limits most old new
    go chip bounds value a b planned is = record {
      chip = chip;
      bounds = bounds;
      value = value;
      chip_read = a;
      limits_read = b;
      right = λ content. laws.right (split_chip bounds most chip) (split_limits bounds most chip) value content planned.good;
      each = served chip bounds most value some (sound_chip a.bytes chip a.says) (λ content. laws.right (split_chip bounds most chip) (split_limits bounds most chip) value content planned.good);
      contents = contents bounds most chip (sound_chip a.bytes chip a.says);
      bound = laws.bound (split_chip bounds most chip) (split_limits bounds most chip) value.bound b.says.sound.some_wire planned.accepted;
      written = subst (λ t. Appended old t new) is put;
    }
