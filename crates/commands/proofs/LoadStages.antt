-- From the loads of one file to those of a procedure.
use Rattle.std.proofs.Common.{◌≡◌, ℕ, inl, inr, List, [], Option, None, Some, Result, IfOk, refl, sym, subst}
use Rattle.std.specs.FinMap.{empty}
use Rattle.std.specs.Global.{Vec}
use Rattle.outside.specs.declared.NoMemory.{NoMemory as MemoryFault}
use Rattle.outside.specs.Held.{Files}
use Rattle.outside.specs.declared.shelf.Loaded.{Loaded}
use Rattle.outside.specs.declared.shelf.Loaded.TheVariants as loaded
use Rattle.soc_model.specs.Chips.{SocValue}
use Rattle.plan_model.specs.Plans.{LimitsValue, PlanValue}
use Rattle.commands.specs.declared.FileKind.{FileKind}
use Rattle.commands.specs.declared.Status.{Status}
use Rattle.commands.specs.declared.Status.TheVariants.{Done, Refused, ReadFault, NoMemory}
use Rattle.commands.specs.declared.Verdict.{Verdict}
use Rattle.commands.specs.declared.Verdict.TheVariants.{Answered, CannotRead, NoMemory as OutOfMemory}
use Rattle.commands.specs.Texts.{unread_line}
use Rattle.commands.specs.Readings.{most_of}
use Rattle.commands.specs.Procedures.{Procedure, Read, Unless, Answer, NoCommand, done_with, done_with_any, with_both, with_all}
use Rattle.commands.specs.Decides.{Follows, GivesAny, GivesText, Refuses, AnswersBytes}
use Rattle.commands.specs.Loads.{LoadsOf, IsLoaded, DecidesAlone, StopsAt, LoadsDecide, LoadsUnless, OfVerdict, LoadsGive, AreLoaded, AllLoaded, StopsAtBoth, StopsAtAll}
use Rattle.commands.proofs.FileStages.{done_of, unless_any}

-- ---- verdicts

pub of_weaker : (P Q : Status → List ℕ → Type 0) (verdict : Verdict) → ((status : Status) (text : List ℕ) → P status text → Q status text) → OfVerdict P verdict → OfVerdict Q verdict
of_weaker P Q (Answered status text) f p = f status text.items p
of_weaker P Q (CannotRead file) f p = f ReadFault (unread_line file) p
of_weaker P Q OutOfMemory f p = f NoMemory [] p

-- ---- a load that gave no value

-- a line that refuses the bytes of a whole file
pub refused_alone : (file : FileKind) (Refused' : List ℕ → List ℕ → Type 0) (bytes line : List ℕ) (verdict : Verdict) → Refused' bytes line → Refuses line verdict → OfVerdict (DecidesAlone file Refused' loaded.Whole bytes) verdict
refused_alone file Refused' bytes line (Answered status text) why d = inr (d.0, subst (Refused' bytes) (sym d.1) why)
refused_alone file Refused' bytes line (CannotRead missed) why d = absurd d
refused_alone file Refused' bytes line OutOfMemory why d = inl (refl, refl)

-- the loads stop at the file
pub stops : {S : Type 0} (is_load : LoadsOf S) (file : FileKind) (Refused' : List ℕ → List ℕ → Type 0) (name : List ℕ) (first : S) (answer : Loaded) (bytes : List ℕ) (last : S) (verdict : Verdict) →
    is_load first name (most_of file) answer bytes last → OfVerdict (DecidesAlone file Refused' answer bytes) verdict → OfVerdict (λ status text. StopsAt is_load file Refused' name first status text last) verdict
stops is_load file Refused' name first answer bytes last verdict load d =
    of_weaker (DecidesAlone file Refused' answer bytes) (λ status text. StopsAt is_load file Refused' name first status text last) verdict (λ status text alone. record { answer = answer; bytes = bytes; load = load; decides = alone }) d

-- what is decided without the bytes of a file is decided whatever refuses them
pub any_refusal : {S : Type 0} (is_load : LoadsOf S) (file : FileKind) (Refused' : List ℕ → List ℕ → Type 0) (name : List ℕ) (first last : S) (verdict : Verdict) →
    OfVerdict (λ status text. StopsAt is_load file (λ bytes line. ⊥) name first status text last) verdict → OfVerdict (λ status text. StopsAt is_load file Refused' name first status text last) verdict
any_refusal is_load file Refused' name first last verdict d =
    of_weaker (λ status text. StopsAt is_load file (λ bytes line. ⊥) name first status text last) (λ status text. StopsAt is_load file Refused' name first status text last) verdict
    (λ status text s. record { answer = s.answer; bytes = s.bytes; load = s.load; decides = go s.answer s.bytes status text s.decides }) d where
      go : (answer : Loaded) (bytes : List ℕ) (status : Status) (text : List ℕ) → DecidesAlone file (λ bytes line. ⊥) answer bytes status text → DecidesAlone file Refused' answer bytes status text
      go loaded.Whole bytes status text (inl out) = inl out
      go loaded.Whole bytes status text (inr none) = absurd none.1
      go loaded.TooLong bytes status text alone = alone
      go loaded.Failed bytes status text alone = alone
      go loaded.NoMemory bytes status text alone = alone

-- ---- from a file on

-- loads that stop at the first file of a procedure
pub stops_here : {S V : Type 0} (is_load : LoadsOf S) (file : FileKind) (Says : List ℕ → V → Type 0) (Refused' : List ℕ → List ℕ → Type 0) (name : List ℕ) (next : V → Procedure) (first last : S) (verdict : Verdict) →
    OfVerdict (λ status text. StopsAt is_load file Refused' name first status text last) verdict → LoadsGive is_load (Read file Says Refused' name next) first verdict last
stops_here is_load file Says Refused' name next first last verdict d =
    of_weaker (λ status text. StopsAt is_load file Refused' name first status text last) (λ status text. LoadsDecide is_load (Read file Says Refused' name next) first status text last) verdict (λ status text s. inl s) d

-- the first file is loaded, and then what comes next
pub after_loaded : {S V : Type 0} (is_load : LoadsOf S) (file : FileKind) (Says : List ℕ → V → Type 0) (Refused' : List ℕ → List ℕ → Type 0) (name : List ℕ) (next : V → Procedure) (value : V) (first mid last : S) (verdict : Verdict) →
    IsLoaded is_load file Says name value first mid → LoadsGive is_load (next value) mid verdict last → LoadsGive is_load (Read file Says Refused' name next) first verdict last
after_loaded is_load file Says Refused' name next value first mid last verdict load d =
    of_weaker (λ status text. LoadsDecide is_load (next value) mid status text last) (λ status text. LoadsDecide is_load (Read file Says Refused' name next) first status text last) verdict (λ status text later. inr (value, mid, load, later)) d

-- ---- a chip and limits, and a plan

pub stops_both : {S : Type 0} (is_load : LoadsOf S) (soc limits : List ℕ) (next : SocValue → LimitsValue → Procedure) (first last : S) (verdict : Verdict) →
    OfVerdict (λ status text. StopsAtBoth is_load soc limits first status text last) verdict → LoadsGive is_load (with_both soc limits next) first verdict last
stops_both is_load soc limits next first last verdict d =
    of_weaker (λ status text. StopsAtBoth is_load soc limits first status text last) (λ status text. LoadsDecide is_load (with_both soc limits next) first status text last) verdict go d where
      go : (status : Status) (text : List ℕ) → StopsAtBoth is_load soc limits first status text last → LoadsDecide is_load (with_both soc limits next) first status text last
      go status text (inl s) = inl s
      go status text (inr (chip, mid, load, s)) = inr (chip, mid, load, inl s)

pub after_two : {S : Type 0} (is_load : LoadsOf S) (soc limits : List ℕ) (next : SocValue → LimitsValue → Procedure) (chip : SocValue) (bounds : LimitsValue) (first mid last : S) (verdict : Verdict) →
    AreLoaded is_load soc limits chip bounds first mid → LoadsGive is_load (next chip bounds) mid verdict last → LoadsGive is_load (with_both soc limits next) first verdict last
after_two is_load soc limits next chip bounds first mid last verdict load d =
    of_weaker (λ status text. LoadsDecide is_load (next chip bounds) mid status text last) (λ status text. LoadsDecide is_load (with_both soc limits next) first status text last) verdict
    (λ status text later. inr (chip, load.mid, load.chip_is, inr (bounds, mid, load.limits_are, later))) d

pub stops_all : {S : Type 0} (is_load : LoadsOf S) (soc limits plan : List ℕ) (next : SocValue → LimitsValue → PlanValue → Procedure) (first last : S) (verdict : Verdict) →
    OfVerdict (λ status text. StopsAtAll is_load soc limits plan first status text last) verdict → LoadsGive is_load (with_all soc limits plan next) first verdict last
stops_all is_load soc limits plan next first last verdict d =
    of_weaker (λ status text. StopsAtAll is_load soc limits plan first status text last) (λ status text. LoadsDecide is_load (with_all soc limits plan next) first status text last) verdict go d where
      go : (status : Status) (text : List ℕ) → StopsAtAll is_load soc limits plan first status text last → LoadsDecide is_load (with_all soc limits plan next) first status text last
      go status text (inl (inl s)) = inl s
      go status text (inl (inr (chip, mid, load, s))) = inr (chip, mid, load, inl s)
      go status text (inr (chip, bounds, mid, load, s)) = inr (chip, load.mid, load.chip_is, inr (bounds, mid, load.limits_are, inl s))

-- all three are loaded, and then what comes next
through_three : {S : Type 0} (is_load : LoadsOf S) (soc limits plan : List ℕ) (next : SocValue → LimitsValue → PlanValue → Procedure) (chip : SocValue) (bounds : LimitsValue) (value : PlanValue) (first mid last : S) (status : Status) (text : List ℕ) →
    AllLoaded is_load soc limits plan chip bounds value first mid → LoadsDecide is_load (next chip bounds value) mid status text last → LoadsDecide is_load (with_all soc limits plan next) first status text last
through_three is_load soc limits plan next chip bounds value first mid last status text load later =
    inr (chip, load.both.mid, load.both.chip_is, inr (bounds, load.mid, load.both.limits_are, inr (value, mid, load.plan_is, later)))

pub after_three : {S : Type 0} (is_load : LoadsOf S) (soc limits plan : List ℕ) (next : SocValue → LimitsValue → PlanValue → Procedure) (chip : SocValue) (bounds : LimitsValue) (value : PlanValue) (first mid last : S) (verdict : Verdict) →
    AllLoaded is_load soc limits plan chip bounds value first mid → LoadsGive is_load (next chip bounds value) mid verdict last → LoadsGive is_load (with_all soc limits plan next) first verdict last
after_three is_load soc limits plan next chip bounds value first mid last verdict load d =
    of_weaker (λ status text. LoadsDecide is_load (next chip bounds value) mid status text last) (λ status text. LoadsDecide is_load (with_all soc limits plan next) first status text last) verdict
    (λ status text later. through_three is_load soc limits plan next chip bounds value first mid last status text load later) d

-- the line that refuses, or else the text, behind all three
pub unless_loaded : {S : Type 0} (is_load : LoadsOf S) (soc limits plan : List ℕ) (next : SocValue → LimitsValue → PlanValue → Procedure) (chip : SocValue) (bounds : LimitsValue) (value : PlanValue) (first last : S) (refusal : Option (List ℕ)) (text : List ℕ) →
    AllLoaded is_load soc limits plan chip bounds value first last → next chip bounds value ≡ Unless refusal (done_with text) → LoadsUnless is_load (with_all soc limits plan next) first refusal text last
unless_loaded is_load soc limits plan next chip bounds value first last None text load is = (
  through_three is_load soc limits plan next chip bounds value first last last Done text load (subst (λ steps. LoadsDecide is_load steps last Done text last) (sym is) (refl, inr (refl, refl))),
  through_three is_load soc limits plan next chip bounds value first last last NoMemory [] load (subst (λ steps. LoadsDecide is_load steps last NoMemory [] last) (sym is) (refl, inl (refl, refl))),
)
unless_loaded is_load soc limits plan next chip bounds value first last (Some line) text load is = (
  through_three is_load soc limits plan next chip bounds value first last last Refused line load (subst (λ steps. LoadsDecide is_load steps last Refused line last) (sym is) (refl, inr (refl, refl))),
  through_three is_load soc limits plan next chip bounds value first last last NoMemory [] load (subst (λ steps. LoadsDecide is_load steps last NoMemory [] last) (sym is) (refl, inl (refl, refl))),
)

-- ---- the end

-- no file is read
abbrev pub ReadsNothing : Procedure → Type 0
ReadsNothing NoCommand = Unit {0}
ReadsNothing (Answer May) = Unit {0}
ReadsNothing (Unless None next) = ReadsNothing next
ReadsNothing (Unless (Some line) next) = Unit {0}
ReadsNothing (Read file Says Refused' name next) = ⊥

-- what follows without a file, whatever the shelf tells, is given without a load
pub at_end : {S : Type 0} (is_load : LoadsOf S) (steps : Procedure) (files : Files) (before after : ℕ) (verdict : Verdict) (state : S) → ReadsNothing steps → Follows steps (Some files) before after verdict → LoadsGive is_load steps state verdict state
at_end is_load NoCommand files before after (Answered status text) state none d = (refl, inr d.1)
at_end is_load NoCommand files before after (CannotRead missed) state none d = absurd d
at_end is_load NoCommand files before after OutOfMemory state none d = (refl, inl (refl, refl))
at_end is_load (Answer May) files before after (Answered status text) state none d = (refl, inr d.1)
at_end is_load (Answer May) files before after (CannotRead missed) state none d = absurd d
at_end is_load (Answer May) files before after OutOfMemory state none d = (refl, inl (refl, refl))
at_end is_load (Unless None next) files before after (Answered status text) state none d = at_end is_load next files before after (Answered status text) state none d
at_end is_load (Unless None next) files before after (CannotRead missed) state none d = at_end is_load next files before after (CannotRead missed) state none d
at_end is_load (Unless None next) files before after OutOfMemory state none d = at_end is_load next files before after OutOfMemory state none d
at_end is_load (Unless (Some line) next) files before after (Answered status text) state none d = (refl, inr d.1)
at_end is_load (Unless (Some line) next) files before after (CannotRead missed) state none d = absurd d
at_end is_load (Unless (Some line) next) files before after OutOfMemory state none d = (refl, inl (refl, refl))
at_end is_load (Read file Says Refused' name next) files before after verdict state none d = absurd none

-- an end that a line may refuse reads no file either
pub reads_nothing : (refusal : Option (List ℕ)) (next : Procedure) → ReadsNothing next → ReadsNothing (Unless refusal next)
reads_nothing None next none = none
reads_nothing (Some line) next none = tt

-- a text that is the answer, and a text that is allowed unless a line refuses it
pub done_loaded : {S : Type 0} (is_load : LoadsOf S) (answer : List ℕ) (made : Result (Vec ℕ) MemoryFault) (verdict : Verdict) (state : S) → IfOk made (λ text. text.items ≡ answer) → GivesText Done made verdict → LoadsGive is_load (done_with answer) state verdict state
done_loaded is_load answer made verdict state is d = at_end is_load (done_with answer) empty 0 0 verdict state tt (done_of answer made (Some empty) 0 0 verdict is d)

pub any_loaded : {S : Type 0} (is_load : LoadsOf S) (refusal : Option (List ℕ)) (May : List ℕ → Type 0) (verdict : Verdict) (state : S) → GivesAny refusal May verdict → LoadsGive is_load (Unless refusal (done_with_any May)) state verdict state
any_loaded is_load refusal May verdict state d =
    at_end is_load (Unless refusal (done_with_any May)) empty 0 0 verdict state (reads_nothing refusal (done_with_any May) tt) (unless_any refusal May (Some empty) 0 0 verdict d)

-- ---- a file of a command's own

-- the verdict on its bytes
pub own_loaded : {S V : Type 0} (is_load : LoadsOf S) (file : FileKind) (Says : List ℕ → V → Type 0) (Refused' : List ℕ → List ℕ → Type 0) (answer : V → List ℕ) (name bytes : List ℕ) (first last : S) (verdict : Verdict) →
    is_load first name (most_of file) loaded.Whole bytes last → AnswersBytes Says Refused' answer bytes verdict → LoadsGive is_load (Read file Says Refused' name (λ value. done_with (answer value))) first verdict last
own_loaded is_load file Says Refused' answer name bytes first last (Answered status text) load (inl (done, (value, says, is))) =
    inr (value, last, record { bytes = bytes; load = load; says = says }, (refl, inr (done, is)))
own_loaded is_load file Says Refused' answer name bytes first last (Answered status text) load (inr (refused, why, one)) =
    inl (record { answer = loaded.Whole; bytes = bytes; load = load; decides = inr (refused, why) })
own_loaded is_load file Says Refused' answer name bytes first last (CannotRead missed) load d = absurd d
own_loaded is_load file Says Refused' answer name bytes first last OutOfMemory load d =
    inl (record { answer = loaded.Whole; bytes = bytes; load = load; decides = inl (refl, refl) })

-- and the verdict without them
pub own_stops : {S V : Type 0} (is_load : LoadsOf S) (file : FileKind) (Says : List ℕ → V → Type 0) (Refused' : List ℕ → List ℕ → Type 0) (answer : V → List ℕ) (name : List ℕ) (first last : S) (verdict : Verdict) →
    OfVerdict (λ status text. StopsAt is_load file (λ bytes line. ⊥) name first status text last) verdict → LoadsGive is_load (Read file Says Refused' name (λ value. done_with (answer value))) first verdict last
own_stops is_load file Says Refused' answer name first last verdict d =
    stops_here is_load file Says Refused' name (λ value. done_with (answer value)) first last verdict (any_refusal is_load file Refused' name first last verdict d)
