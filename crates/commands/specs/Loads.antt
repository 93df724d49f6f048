-- Which loads a procedure makes, and what they decide; given which loads there are: from a state, of a name within a limit, with an
-- answer and bytes, to a state.
use Rattle.std.specs.Prelude.{◌≡◌, ℕ, ◌⊎◌, List, [], Option, None, Some, Result, Ok, Err}
use Rattle.std.specs.Global.{Vec}
use Rattle.outside.specs.declared.shelf.Loaded.{Loaded}
use Rattle.outside.specs.declared.shelf.Loaded.TheVariants as loaded
use Rattle.soc_model.specs.declared.Soc.{Soc as SocModel}
use Rattle.soc_model.specs.Chips.{SocValue, soc_value}
use Rattle.plan_model.specs.Plans.{LimitsValue, PlanValue}
use Rattle.live_tests.specs.Problems.{ProblemValue}
use Rattle.plan_model.specs.Views.{limits_value, plan_value}
use Rattle.soc_reader.specs.ChipForm.{SaysChip}
use Rattle.limits_text.specs.declared.read.Bounds.{Bounds}
use Rattle.commands.specs.declared.FileKind.{FileKind}
use Rattle.commands.specs.declared.FileKind.TheVariants.{Soc, Limits, Plan}
use Rattle.commands.specs.declared.Status.{Status}
use Rattle.commands.specs.declared.Status.TheVariants.{Done, Refused, BadWords, ReadFault, TooLong, NoMemory}
use Rattle.commands.specs.declared.Verdict.{Verdict}
use Rattle.commands.specs.declared.Verdict.TheVariants.{Answered, CannotRead, NoMemory as OutOfMemory}
use Rattle.commands.specs.declared.loading.PlanPlaces.{PlanPlaces}
use Rattle.commands.specs.AcceptedPlans.{AcceptedValue}
use Rattle.commands.specs.Texts.{bad_words_line, unread_line, too_long_line}
use Rattle.commands.specs.Readings.{most_of, RefusesChip, SaysLimits, RefusesLimits, SaysAccepted, RefusesPlan}
use Rattle.commands.specs.Procedures.{Procedure, Read, Unless, Answer, NoCommand}
use Rattle.commands.specs.Ends.{IsWritten}

-- which loads there are, over the states of a shelf
abbrev pub LoadsOf : Type 0 → Type 1
LoadsOf S = S → List ℕ → ℕ → Loaded → List ℕ → S → Type 0

-- memory ran out, so that nothing is to be written
abbrev pub RunsOut : Status → List ℕ → Type 0
RunsOut status text = (status ≡ NoMemory) × (text ≡ [])

-- ---- one file

-- the file was loaded whole, and its bytes say the value
pub record IsLoaded {S V : Type 0} (is_load : LoadsOf S) (file : FileKind) (Says : List ℕ → V → Type 0) (name : List ℕ) (value : V)
    (first last : S) : Type 0 where
  pub bytes : List ℕ
  pub load : is_load first name (most_of file) loaded.Whole bytes last
  pub says : Says bytes value

-- what is decided by a load that gave no value, or after which memory ran out
abbrev pub DecidesAlone : FileKind → (Refuses : List ℕ → List ℕ → Type 0) → Loaded → (bytes : List ℕ) → Status → List ℕ → Type 0
DecidesAlone file Refuses loaded.Whole bytes status text = RunsOut status text ⊎ ((status ≡ Refused) × Refuses bytes text)
DecidesAlone file Refuses loaded.TooLong bytes status text = RunsOut status text ⊎ ((status ≡ TooLong) × (text ≡ too_long_line file))
DecidesAlone file Refuses loaded.Failed bytes status text = (status ≡ ReadFault) × (text ≡ unread_line file)
DecidesAlone file Refuses loaded.NoMemory bytes status text = RunsOut status text

-- the file was loaded, and no other after it
pub record StopsAt {S : Type 0} (is_load : LoadsOf S) (file : FileKind) (Refuses : List ℕ → List ℕ → Type 0) (name : List ℕ)
    (first : S) (status : Status) (text : List ℕ) (last : S) : Type 0 where
  pub answer : Loaded
  pub bytes : List ℕ
  pub load : is_load first name (most_of file) answer bytes last
  pub decides : DecidesAlone file Refuses answer bytes status text

-- ---- a procedure

-- The loads from the first state to the last decide this status and text. Each file is loaded once, within its limit, and the next one
-- only where its bytes say a value; nothing is loaded after the end.
abbrev pub LoadsDecide : {S : Type 0} → LoadsOf S → Procedure → S → Status → List ℕ → S → Type 0
LoadsDecide is_load NoCommand first status text last =
    (last ≡ first) × (RunsOut status text ⊎ ((status ≡ BadWords) × (text ≡ bad_words_line)))
LoadsDecide is_load (Answer May) first status text last = (last ≡ first) × (RunsOut status text ⊎ May status text)
LoadsDecide is_load (Unless None next) first status text last = LoadsDecide is_load next first status text last
LoadsDecide is_load (Unless (Some line) next) first status text last =
    (last ≡ first) × (RunsOut status text ⊎ ((status ≡ Refused) × (text ≡ line)))
LoadsDecide {S} is_load (Read {V} file Says Refuses name next) first status text last =
    StopsAt is_load file Refuses name first status text last
    ⊎ ((value : V) × (mid : S) × IsLoaded is_load file Says name value first mid
    × LoadsDecide is_load (next value) mid status text last)

-- P of the status and the text of a verdict
abbrev pub OfVerdict : (Status → List ℕ → Type 0) → Verdict → Type 0
OfVerdict P (Answered status text) = P status text.items
OfVerdict P (CannotRead file) = P ReadFault (unread_line file)
OfVerdict P OutOfMemory = P NoMemory []

-- the loads decide this verdict
abbrev pub LoadsGive : {S : Type 0} → LoadsOf S → Procedure → S → Verdict → S → Type 0
LoadsGive is_load steps first verdict last = OfVerdict (λ status text. LoadsDecide is_load steps first status text last) verdict

-- The loads decide the line that refuses, or else the text; or nothing, where memory runs out behind them.
abbrev pub LoadsUnless : {S : Type 0} → LoadsOf S → Procedure → S → Option (List ℕ) → List ℕ → S → Type 0
LoadsUnless is_load steps first None text last =
    LoadsDecide is_load steps first Done text last × LoadsDecide is_load steps first NoMemory [] last
LoadsUnless is_load steps first (Some line) text last =
    LoadsDecide is_load steps first Refused line last × LoadsDecide is_load steps first NoMemory [] last

-- What the loads of a call decide is what is written of it, by the count of the output's faults.
abbrev pub EndsByLoads : {S : Type 0} → LoadsOf S → Procedure → (first last : S) → ℕ → ℕ → Option (List ℕ) → Status →
    Option (List ℕ) → Type 0
EndsByLoads is_load steps first last before after old end new =
    (status : Status) × (text : List ℕ) × LoadsDecide is_load steps first status text last × IsWritten status text before after old end new

-- ---- several files

-- a chip and limits for it, loaded one after the other
pub record AreLoaded {S : Type 0} (is_load : LoadsOf S) (soc limits : List ℕ) (chip : SocValue) (bounds : LimitsValue)
    (first last : S) : Type 0 where
  pub mid : S
  pub chip_is : IsLoaded is_load Soc SaysChip soc chip first mid
  pub limits_are : IsLoaded is_load Limits (SaysLimits chip) limits bounds mid last

-- and then a plan that is accepted for both
pub record AllLoaded {S : Type 0} (is_load : LoadsOf S) (soc limits plan : List ℕ) (chip : SocValue) (bounds : LimitsValue)
    (value : PlanValue) (first last : S) : Type 0 where
  pub mid : S
  pub both : AreLoaded is_load soc limits chip bounds first mid
  pub plan_is : IsLoaded is_load Plan (SaysAccepted chip bounds) plan value mid last

-- the loads stop at one of the two files
abbrev pub StopsAtBoth : {S : Type 0} → LoadsOf S → (soc limits : List ℕ) → S → Status → List ℕ → S → Type 0
StopsAtBoth {S} is_load soc limits first status text last =
    StopsAt is_load Soc RefusesChip soc first status text last
    ⊎ ((chip : SocValue) × (mid : S) × IsLoaded is_load Soc SaysChip soc chip first mid
    × StopsAt is_load Limits (RefusesLimits chip) limits mid status text last)

-- and so with all three
abbrev pub StopsAtAll : {S : Type 0} → LoadsOf S → (soc limits plan : List ℕ) → S → Status → List ℕ → S → Type 0
StopsAtAll {S} is_load soc limits plan first status text last =
    StopsAtBoth is_load soc limits first status text last
    ⊎ ((chip : SocValue) × (bounds : LimitsValue) × (mid : S) × AreLoaded is_load soc limits chip bounds first mid
    × StopsAt is_load Plan (RefusesPlan chip bounds) plan mid status text last)

-- ---- what calls that load answer

-- the bytes of a file that was loaded whole, or a verdict at which the loads stop
abbrev pub LoadsFile : {S : Type 0} → LoadsOf S → FileKind → (name : List ℕ) → S → Result (Vec ℕ) Verdict → S → Type 0
LoadsFile is_load file name first (Ok bytes) last = is_load first name (most_of file) loaded.Whole bytes.items last
LoadsFile is_load file name first (Err verdict) last =
    OfVerdict (λ status text. StopsAt is_load file (λ bytes line. ⊥) name first status text last) verdict

abbrev pub LoadsSoc : {S : Type 0} → LoadsOf S → (soc : List ℕ) → S → Result SocModel Verdict → S → Type 0
LoadsSoc is_load soc first (Ok chip) last = IsLoaded is_load Soc SaysChip soc (soc_value chip) first last
LoadsSoc is_load soc first (Err verdict) last =
    OfVerdict (λ status text. StopsAt is_load Soc RefusesChip soc first status text last) verdict

abbrev pub LoadsBounds : {S : Type 0} → LoadsOf S → SocValue → (limits : List ℕ) → S → Result Bounds Verdict → S → Type 0
LoadsBounds is_load chip limits first (Ok bounds) last =
    IsLoaded is_load Limits (SaysLimits chip) limits (limits_value bounds.limits) first last
LoadsBounds is_load chip limits first (Err verdict) last =
    OfVerdict (λ status text. StopsAt is_load Limits (RefusesLimits chip) limits first status text last) verdict

abbrev pub LoadsPlan : {S : Type 0} → LoadsOf S → SocValue → LimitsValue → (plan : List ℕ) → S → Result PlanPlaces Verdict → S → Type 0
LoadsPlan is_load chip bounds plan first (Ok found) last =
    IsLoaded is_load Plan (SaysAccepted chip bounds) plan (plan_value found.plan) first last
LoadsPlan is_load chip bounds plan first (Err verdict) last =
    OfVerdict (λ status text. StopsAt is_load Plan (RefusesPlan chip bounds) plan first status text last) verdict

abbrev pub LoadsTwo : {S : Type 0} → LoadsOf S → (soc limits : List ℕ) → S → Result ProblemValue Verdict → S → Type 0
LoadsTwo is_load soc limits first (Ok both) last =
    AreLoaded is_load soc limits both.soc both.limits first last
LoadsTwo is_load soc limits first (Err verdict) last =
    OfVerdict (λ status text. StopsAtBoth is_load soc limits first status text last) verdict

abbrev pub LoadsThree : {S : Type 0} → LoadsOf S → (soc limits plan : List ℕ) → S → Result AcceptedValue Verdict → S → Type 0
LoadsThree is_load soc limits plan first (Ok all) last =
    AllLoaded is_load soc limits plan all.soc all.limits all.plan first last
LoadsThree is_load soc limits plan first (Err verdict) last =
    OfVerdict (λ status text. StopsAtAll is_load soc limits plan first status text last) verdict
