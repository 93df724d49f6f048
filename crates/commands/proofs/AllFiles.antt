-- A chip, limits and a plan, loaded one after another.
use Rattle.std.proofs.Common.{◌≡◌, ℕ, ◌≤◌, List, Option, None, Some, IfSome, Result, Err, subst, sym, arith}
use Rattle.std.specs.FinMap.{get}
use Rattle.outside.specs.Held.{Files}
use Rattle.soc_model.specs.Chips.{SocValue}
use Rattle.plan_model.specs.Plans.{LimitsValue, PlanValue}
use Rattle.soc_reader.specs.ChipForm.{SaysChip}
use Rattle.commands.specs.declared.FileKind.TheVariants.{Soc, Limits, Plan}
use Rattle.commands.specs.declared.Verdict.{Verdict}
use Rattle.live_tests.specs.Problems.{ProblemValue}
use Rattle.commands.specs.AcceptedPlans.{AcceptedValue}
use Rattle.commands.specs.Readings.{IsRead, RefusesChip, SaysLimits, RefusesLimits, SaysAccepted, RefusesPlan}
use Rattle.commands.specs.Procedures.{Procedure, nothing, with_chip, with_limits, with_accepted, with_both, with_all}
use Rattle.commands.specs.Decides.{Follows, BothRead, LoadsBoth, AreRead, LoadsAll}
use Rattle.commands.proofs.FileStages.{after_file, covered, covers_read, covers_nothing, no_value}

-- ---- a chip and limits

-- a verdict without a chip is one without both
pub without_chip : (soc limits : List ℕ) (held : Option Files) (before after : ℕ) (verdict : Verdict) (result : Result ProblemValue Verdict) →
    Follows (with_chip soc (λ chip. nothing)) held before after verdict → result ≡ Err verdict → LoadsBoth soc limits held before after result
without_chip soc limits held before after verdict result d is =
    let both : Follows (with_both soc limits (λ chip bounds. nothing)) held before after verdict =
    no_value Soc SaysChip RefusesChip soc (λ chip. with_limits chip limits (λ bounds. nothing)) held before after verdict d in
    subst (LoadsBoth soc limits held before after) (sym is) both

-- a verdict without limits is one without both
pub without_limits : (soc limits : List ℕ) (held : Option Files) (before mid after : ℕ) (chip : SocValue) (verdict : Verdict) (result : Result ProblemValue Verdict) → before ≤ mid → IfSome held (λ files. IsRead Soc SaysChip (get files soc) chip) →
    Follows (with_limits chip limits (λ bounds. nothing)) held mid after verdict → result ≡ Err verdict → LoadsBoth soc limits held before after result
without_limits soc limits held before mid after chip verdict result order read d is =
    let both : Follows (with_both soc limits (λ chip bounds. nothing)) held before after verdict =
    after_file Soc SaysChip RefusesChip soc (λ chip. with_limits chip limits (λ bounds. nothing)) held before mid after chip verdict order read d in
    subst (LoadsBoth soc limits held before after) (sym is) both

chip_of : (held : Option Files) (soc limits : List ℕ) (both : ProblemValue) → IfSome held (λ files. BothRead files soc limits both) → IfSome held (λ files. IsRead Soc SaysChip (get files soc) both.soc)
chip_of None soc limits both read = tt
chip_of (Some files) soc limits both read = read.chip

bounds_of : (held : Option Files) (soc limits : List ℕ) (both : ProblemValue) → IfSome held (λ files. BothRead files soc limits both) → IfSome held (λ files. IsRead Limits (SaysLimits both.soc) (get files limits) both.limits)
bounds_of None soc limits both read = tt
bounds_of (Some files) soc limits both read = read.bounds

-- a verdict without both is one whatever is to be done with them
pub not_both : (soc limits : List ℕ) (next : SocValue → LimitsValue → Procedure) (held : Option Files) (before after : ℕ) (verdict : Verdict) →
    Follows (with_both soc limits (λ chip bounds. nothing)) held before after verdict → Follows (with_both soc limits next) held before after verdict
not_both soc limits next held before after verdict d =
    covered (with_both soc limits (λ chip bounds. nothing)) (with_both soc limits next) held before after verdict
    (covers_read Soc SaysChip RefusesChip soc (λ chip. with_limits chip limits (λ bounds. nothing)) (λ chip. with_limits chip limits (next chip))
    (λ chip. covers_read Limits (SaysLimits chip) (RefusesLimits chip) limits (λ bounds. nothing) (next chip) (λ bounds. covers_nothing (next chip bounds)))) d

-- the verdict on what comes after both is one from the first file on
pub after_both : (soc limits : List ℕ) (next : SocValue → LimitsValue → Procedure) (held : Option Files) (before mid after : ℕ) (both : ProblemValue) (verdict : Verdict) → before ≤ mid →
    IfSome held (λ files. BothRead files soc limits both) → Follows (next both.soc both.limits) held mid after verdict → Follows (with_both soc limits next) held before after verdict
after_both soc limits next held before mid after both verdict order read d =
    after_file Soc SaysChip RefusesChip soc (λ chip. with_limits chip limits (next chip)) held before mid after both.soc verdict order (chip_of held soc limits both read)
    (after_file Limits (SaysLimits both.soc) (RefusesLimits both.soc) limits (next both.soc) held mid mid after both.limits verdict (omega arith) (bounds_of held soc limits both read) d)

-- ---- and a plan

-- a verdict without both is one without all three
pub without_both : (soc limits plan : List ℕ) (held : Option Files) (before after : ℕ) (verdict : Verdict) (result : Result AcceptedValue Verdict) →
    Follows (with_both soc limits (λ chip bounds. nothing)) held before after verdict → result ≡ Err verdict → LoadsAll soc limits plan held before after result
without_both soc limits plan held before after verdict result d is =
    let all : Follows (with_all soc limits plan (λ chip bounds value. nothing)) held before after verdict =
    not_both soc limits (λ chip bounds. with_accepted chip bounds plan (λ value. nothing)) held before after verdict d in
    subst (LoadsAll soc limits plan held before after) (sym is) all

-- and so is one without the plan
pub without_plan : (soc limits plan : List ℕ) (held : Option Files) (before mid after : ℕ) (both : ProblemValue) (verdict : Verdict) (result : Result AcceptedValue Verdict) → before ≤ mid → IfSome held (λ files. BothRead files soc limits both) →
    Follows (with_accepted both.soc both.limits plan (λ value. nothing)) held mid after verdict → result ≡ Err verdict → LoadsAll soc limits plan held before after result
without_plan soc limits plan held before mid after both verdict result order read d is =
    let all : Follows (with_all soc limits plan (λ chip bounds value. nothing)) held before after verdict =
    after_both soc limits (λ chip bounds. with_accepted chip bounds plan (λ value. nothing)) held before mid after both verdict order read d in
    subst (LoadsAll soc limits plan held before after) (sym is) all

-- all three from one shelf
pub all_read : (held : Option Files) (soc limits plan : List ℕ) (both : ProblemValue) (all : AcceptedValue) (value : PlanValue) → all.soc ≡ both.soc → all.limits ≡ both.limits → all.plan ≡ value →
    IfSome held (λ files. BothRead files soc limits both) → IfSome held (λ files. IsRead Plan (SaysAccepted both.soc both.limits) (get files plan) value) → IfSome held (λ files. AreRead files soc limits plan all)
all_read None soc limits plan both all value chip bounds is read says = tt
all_read (Some files) soc limits plan both all value chip bounds is read says = record { chip = rw chip read.chip; bounds = rw (chip, bounds) read.bounds; value = rw (chip, bounds, is) says }

-- a verdict without them is one whatever is to be done with them
pub not_all : (soc limits plan : List ℕ) (next : SocValue → LimitsValue → PlanValue → Procedure) (held : Option Files) (before after : ℕ) (verdict : Verdict) →
    Follows (with_all soc limits plan (λ chip bounds value. nothing)) held before after verdict → Follows (with_all soc limits plan next) held before after verdict
not_all soc limits plan next held before after verdict d =
    covered (with_all soc limits plan (λ chip bounds value. nothing)) (with_all soc limits plan next) held before after verdict
    (covers_read Soc SaysChip RefusesChip soc (λ chip. with_limits chip limits (λ bounds. with_accepted chip bounds plan (λ value. nothing))) (λ chip. with_limits chip limits (λ bounds. with_accepted chip bounds plan (next chip bounds)))
    (λ chip. covers_read Limits (SaysLimits chip) (RefusesLimits chip) limits (λ bounds. with_accepted chip bounds plan (λ value. nothing)) (λ bounds. with_accepted chip bounds plan (next chip bounds))
    (λ bounds. covers_read Plan (SaysAccepted chip bounds) (RefusesPlan chip bounds) plan (λ value. nothing) (next chip bounds) (λ value. covers_nothing (next chip bounds value))))) d

both_of : (held : Option Files) (soc limits plan : List ℕ) (all : AcceptedValue) → IfSome held (λ files. AreRead files soc limits plan all) → IfSome held (λ files. BothRead files soc limits (record { soc = all.soc; limits = all.limits }))
both_of None soc limits plan all read = tt
both_of (Some files) soc limits plan all read = record { chip = read.chip; bounds = read.bounds }

value_of : (held : Option Files) (soc limits plan : List ℕ) (all : AcceptedValue) → IfSome held (λ files. AreRead files soc limits plan all) →
    IfSome held (λ files. IsRead Plan (SaysAccepted all.soc all.limits) (get files plan) all.plan)
value_of None soc limits plan all read = tt
value_of (Some files) soc limits plan all read = read.value

-- the verdict on what comes after all three is one from the first file on
pub after_all : (soc limits plan : List ℕ) (next : SocValue → LimitsValue → PlanValue → Procedure) (held : Option Files) (before mid after : ℕ) (all : AcceptedValue) (verdict : Verdict) → before ≤ mid →
    IfSome held (λ files. AreRead files soc limits plan all) → Follows (next all.soc all.limits all.plan) held mid after verdict → Follows (with_all soc limits plan next) held before after verdict
after_all soc limits plan next held before mid after all verdict order read d =
    after_both soc limits (λ chip bounds. with_accepted chip bounds plan (next chip bounds)) held before mid after (record { soc = all.soc; limits = all.limits }) verdict order (both_of held soc limits plan all read)
    (after_file Plan (SaysAccepted all.soc all.limits) (RefusesPlan all.soc all.limits) plan (next all.soc all.limits) held mid mid after all.plan verdict (omega arith) (value_of held soc limits plan all read) d)
