-- What the calls that load answer, by the loads that they made.
use Rattle.std.proofs.Common.{◌≡◌, ℕ, inl, inr, List, Result, Ok, Err, refl, sym, subst}
use Rattle.outside.specs.declared.shelf.Loaded.TheVariants as loaded
use Rattle.soc_model.specs.declared.Soc.{Soc as SocModel}
use Rattle.soc_model.specs.Chips.{SocValue}
use Rattle.limits_text.specs.declared.read.Bounds.{Bounds}
use Rattle.commands.specs.declared.loading.PlanPlaces.{PlanPlaces}
use Rattle.plan_model.specs.Plans.{LimitsValue, PlanValue}
use Rattle.soc_reader.specs.declared.SocFault.{SocFault}
use Rattle.soc_reader.specs.declared.SocFault.TheVariants as soc_fault
use Rattle.soc_reader.specs.ChipForm.{SaysChip}
use Rattle.soc_reader.specs.Refusals.{Refuses}
use Rattle.limits_text.specs.declared.LimFault.{LimFault}
use Rattle.limits_text.specs.declared.LimFault.TheVariants as limits_fault
use Rattle.limits_text.specs.Answers.{LimitsRead, refused_line, unknown_line, shown_loop, passing_power}
use Rattle.plan_text.specs.declared.PlanTextFault.{PlanTextFault}
use Rattle.plan_text.specs.declared.PlanTextFault.TheVariants as plan_fault
use Rattle.plan_text.specs.Answers.{SaysPlan, PlanRead}
use Rattle.commands.specs.declared.FileKind.TheVariants.{Soc, Limits, Plan}
use Rattle.commands.specs.declared.Verdict.{Verdict}
use Rattle.live_tests.specs.Problems.{ProblemValue}
use Rattle.commands.specs.AcceptedPlans.{AcceptedValue}
use Rattle.commands.specs.Texts.{chip_line, chip_limit_line, limits_line, unknown_test_line, loop_line, test_power_line, plan_line, fault_line}
use Rattle.commands.specs.Readings.{most_of, RefusesChip, RefusesLimits, SaysAccepted, RefusesPlan}
use Rattle.commands.specs.Decides.{RefusesSoc, RefusesBounds, RefusesValue, AnswersCheck}
use Rattle.commands.specs.Loads.{LoadsOf, IsLoaded, DecidesAlone, StopsAt, OfVerdict, AreLoaded, StopsAtBoth, StopsAtAll, LoadsFile, LoadsSoc, LoadsBounds, LoadsPlan, LoadsTwo, LoadsThree}
use Rattle.commands.proofs.LoadStages.{of_weaker, refused_alone, stops, any_refusal}

-- ---- files whose bytes aren't there

pub chip_stops : {S : Type 0} (is_load : LoadsOf S) (name : List ℕ) (first last : S) (verdict : Verdict) (result : Result SocModel Verdict) →
    LoadsFile is_load Soc name first (Err verdict) last → result ≡ Err verdict → LoadsSoc is_load name first result last
chip_stops is_load name first last verdict result d is = rw is (any_refusal is_load Soc RefusesChip name first last verdict d)

pub limits_stop : {S : Type 0} (is_load : LoadsOf S) (chip : SocValue) (name : List ℕ) (first last : S) (verdict : Verdict) (result : Result Bounds Verdict) →
    LoadsFile is_load Limits name first (Err verdict) last → result ≡ Err verdict → LoadsBounds is_load chip name first result last
limits_stop is_load chip name first last verdict result d is = rw is (any_refusal is_load Limits (RefusesLimits chip) name first last verdict d)

pub plan_stops : {S : Type 0} (is_load : LoadsOf S) (chip : SocValue) (bounds : LimitsValue) (name : List ℕ) (first last : S) (verdict : Verdict) (result : Result PlanPlaces Verdict) →
    LoadsFile is_load Plan name first (Err verdict) last → result ≡ Err verdict → LoadsPlan is_load chip bounds name first result last
plan_stops is_load chip bounds name first last verdict result d is = rw is (any_refusal is_load Plan (RefusesPlan chip bounds) name first last verdict d)

-- ---- texts that are refused

-- by what they say
soc_alone : (bytes : List ℕ) (fault : SocFault) (verdict : Verdict) → Refuses bytes fault → RefusesSoc fault verdict → OfVerdict (DecidesAlone Soc RefusesChip loaded.Whole bytes) verdict
soc_alone bytes (soc_fault.Text line) verdict why d = refused_alone Soc RefusesChip bytes (chip_line line) verdict (inl (line, why, refl)) d
soc_alone bytes (soc_fault.Limit which value) verdict why d =
    refused_alone Soc RefusesChip bytes (chip_limit_line (record { which = which; value = value })) verdict (inr (record { which = which; value = value }, why, refl)) d
soc_alone bytes soc_fault.NoMemory verdict why d = rw d (inl (refl, refl))

limits_alone : (chip : SocValue) (bytes : List ℕ) (fault : LimFault) (verdict : Verdict) → LimitsRead bytes chip (Err fault) → RefusesBounds fault verdict → OfVerdict (DecidesAlone Limits (RefusesLimits chip) loaded.Whole bytes) verdict
limits_alone chip bytes (limits_fault.Text line) verdict why d = refused_alone Limits (RefusesLimits chip) bytes (limits_line line) verdict (refused_line line, why, refl) d
limits_alone chip bytes (limits_fault.UnknownTest line) verdict why d = refused_alone Limits (RefusesLimits chip) bytes (unknown_test_line line) verdict (unknown_line line, why, refl) d
limits_alone chip bytes (limits_fault.Cycle tests) verdict why d = refused_alone Limits (RefusesLimits chip) bytes (loop_line tests.items) verdict (shown_loop tests.items, why, refl) d
limits_alone chip bytes (limits_fault.TestPower test power) verdict why d =
    refused_alone Limits (RefusesLimits chip) bytes (test_power_line test power) verdict (passing_power test power, why, refl) d
limits_alone chip bytes limits_fault.NoMemory verdict why d = rw d (inl (refl, refl))

plan_alone : (chip : SocValue) (bounds : LimitsValue) (bytes : List ℕ) (fault : PlanTextFault) (verdict : Verdict) → PlanRead bytes (Err fault) → RefusesValue fault verdict → OfVerdict (DecidesAlone Plan (RefusesPlan chip bounds) loaded.Whole bytes) verdict
plan_alone chip bounds bytes (plan_fault.Text line) verdict why d = refused_alone Plan (RefusesPlan chip bounds) bytes (plan_line line) verdict (inl (line, why, refl)) d
plan_alone chip bounds bytes plan_fault.NoMemory verdict why d = rw d (inl (refl, refl))

-- and so from the load on
pub chip_load_refused : {S : Type 0} (is_load : LoadsOf S) (name bytes : List ℕ) (first last : S) (fault : SocFault) (verdict : Verdict) →
    is_load first name (most_of Soc) loaded.Whole bytes last → Refuses bytes fault → RefusesSoc fault verdict → LoadsSoc is_load name first (Err verdict) last
chip_load_refused is_load name bytes first last fault verdict load why d = stops is_load Soc RefusesChip name first loaded.Whole bytes last verdict load (soc_alone bytes fault verdict why d)

pub limits_load_refused : {S : Type 0} (is_load : LoadsOf S) (chip : SocValue) (name bytes : List ℕ) (first last : S) (fault : LimFault) (verdict : Verdict) →
    is_load first name (most_of Limits) loaded.Whole bytes last → LimitsRead bytes chip (Err fault) → RefusesBounds fault verdict → LoadsBounds is_load chip name first (Err verdict) last
limits_load_refused is_load chip name bytes first last fault verdict load why d =
    stops is_load Limits (RefusesLimits chip) name first loaded.Whole bytes last verdict load (limits_alone chip bytes fault verdict why d)

pub plan_load_refused : {S : Type 0} (is_load : LoadsOf S) (chip : SocValue) (bounds : LimitsValue) (name bytes : List ℕ) (first last : S) (fault : PlanTextFault) (verdict : Verdict) →
    is_load first name (most_of Plan) loaded.Whole bytes last → PlanRead bytes (Err fault) → RefusesValue fault verdict → LoadsPlan is_load chip bounds name first (Err verdict) last
plan_load_refused is_load chip bounds name bytes first last fault verdict load why d =
    stops is_load Plan (RefusesPlan chip bounds) name first loaded.Whole bytes last verdict load (plan_alone chip bounds bytes fault verdict why d)

-- a plan that is checked: it is accepted, or its fault is the refusal
pub plan_load_checked : {S : Type 0} (is_load : LoadsOf S) (chip : SocValue) (bounds : LimitsValue) (name bytes : List ℕ) (first last : S) (value : PlanValue) (result : Result PlanPlaces Verdict) →
    is_load first name (most_of Plan) loaded.Whole bytes last → SaysPlan bytes value → AnswersCheck chip bounds value result → LoadsPlan is_load chip bounds name first result last
plan_load_checked is_load chip bounds name bytes first last value (Ok found) load says d =
    record { bytes = bytes; load = load; says = subst (SaysAccepted chip bounds bytes) (sym d.0) (says, d.1) }
plan_load_checked is_load chip bounds name bytes first last value (Err verdict) load says (inl d) =
    stops is_load Plan (RefusesPlan chip bounds) name first loaded.Whole bytes last verdict load
    (refused_alone Plan (RefusesPlan chip bounds) bytes (fault_line d.0) verdict (inr (value, says, (d.0, d.1, refl))) d.2)
plan_load_checked is_load chip bounds name bytes first last value (Err verdict) load says (inr d) =
    stops is_load Plan (RefusesPlan chip bounds) name first loaded.Whole bytes last verdict load (rw d (inl (refl, refl)))

-- ---- several files

-- the loads stop at the chip, or at the limits
pub two_without_chip : {S : Type 0} (is_load : LoadsOf S) (soc limits : List ℕ) (first last : S) (verdict : Verdict) (result : Result ProblemValue Verdict) →
    LoadsSoc is_load soc first (Err verdict) last → result ≡ Err verdict → LoadsTwo is_load soc limits first result last
two_without_chip is_load soc limits first last verdict result d is =
    rw is (of_weaker (λ status text. StopsAt is_load Soc RefusesChip soc first status text last) (λ status text. StopsAtBoth is_load soc limits first status text last) verdict (λ status text s. inl s) d)

pub two_without_limits : {S : Type 0} (is_load : LoadsOf S) (soc limits : List ℕ) (chip : SocValue) (first mid last : S) (verdict : Verdict) (result : Result ProblemValue Verdict) →
    IsLoaded is_load Soc SaysChip soc chip first mid → LoadsBounds is_load chip limits mid (Err verdict) last → result ≡ Err verdict → LoadsTwo is_load soc limits first result last
two_without_limits is_load soc limits chip first mid last verdict result load d is =
    rw is (of_weaker (λ status text. StopsAt is_load Limits (RefusesLimits chip) limits mid status text last) (λ status text. StopsAtBoth is_load soc limits first status text last) verdict (λ status text s. inr (chip, mid, load, s)) d)

-- and so with the plan
pub three_without_both : {S : Type 0} (is_load : LoadsOf S) (soc limits plan : List ℕ) (first last : S) (verdict : Verdict) (result : Result AcceptedValue Verdict) →
    LoadsTwo is_load soc limits first (Err verdict) last → result ≡ Err verdict → LoadsThree is_load soc limits plan first result last
three_without_both is_load soc limits plan first last verdict result d is =
    rw is (of_weaker (λ status text. StopsAtBoth is_load soc limits first status text last) (λ status text. StopsAtAll is_load soc limits plan first status text last) verdict (λ status text s. inl s) d)

pub three_without_plan : {S : Type 0} (is_load : LoadsOf S) (soc limits plan : List ℕ) (chip : SocValue) (bounds : LimitsValue) (first mid last : S) (verdict : Verdict) (result : Result AcceptedValue Verdict) →
    AreLoaded is_load soc limits chip bounds first mid → LoadsPlan is_load chip bounds plan mid (Err verdict) last → result ≡ Err verdict → LoadsThree is_load soc limits plan first result last
three_without_plan is_load soc limits plan chip bounds first mid last verdict result load d is =
    rw is (of_weaker (λ status text. StopsAt is_load Plan (RefusesPlan chip bounds) plan mid status text last) (λ status text. StopsAtAll is_load soc limits plan first status text last) verdict (λ status text s. inr (chip, bounds, mid, load, s)) d)
