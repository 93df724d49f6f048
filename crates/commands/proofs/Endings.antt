-- From how a call ends to what it promises.
use Rattle.std.proofs.Common.{◌≡◌, ℕ, ◌≤◌, inl, inr, Bool, List, Option, None, Some, IfSome, refl, sym, subst}
use Rattle.std.specs.FinMap.{empty, get}
use Rattle.outside.specs.Held.{Files, Rose}
use Rattle.outside.specs.declared.sink.Put.{Put}
use Rattle.soc_model.specs.Chips.{SocValue}
use Rattle.plan_model.specs.Plans.{LimitsValue, PlanValue}
use Rattle.soc_reader.specs.ChipForm.{SaysChip}
use Rattle.commands.specs.declared.FileKind.{FileKind}
use Rattle.commands.specs.declared.FileKind.TheVariants.{Soc, Limits, Plan}
use Rattle.commands.specs.declared.Status.{Status}
use Rattle.commands.specs.declared.Status.TheVariants.{Done, Refused}
use Rattle.commands.specs.AcceptedPlans.{AcceptedValue}
use Rattle.commands.specs.Answers.{Answers}
use Rattle.commands.specs.Decides.{AreRead}
use Rattle.commands.specs.Endings.{LongText, EndingValue, Continues, Closes, WritesEnding, LoadsEnding, PutsEnding}
use Rattle.commands.specs.Ends.{IsCommand, MayAnswer, MayUnless, Ends, OneLine, EndsByWords, SaysBadWords, MakesPuts}
use Rattle.commands.specs.Loads.{LoadsOf, IsLoaded, AllLoaded, LoadsUnless, EndsByLoads}
use Rattle.commands.specs.Procedures.{Procedure, Read, Unless, done_with, with_accepted, with_all, with_limits}
use Rattle.commands.specs.Promises.{IsTopCall}
use Rattle.commands.specs.Readings.{IsRead, RefusesChip, SaysLimits, RefusesLimits, SaysAccepted, RefusesPlan}
use Rattle.commands.specs.Settled.{IsSettled}
use Rattle.commands.proofs.AllFiles.{after_all}
use Rattle.commands.proofs.Completeness.{complete, finishes}
use Rattle.commands.proofs.FileStages.{after_file, go_on}
use Rattle.commands.proofs.LoadStages.{after_loaded, after_three, at_end, reads_nothing}
use Rattle.commands.proofs.LoadsWritten.{ends_by_loads as decided_by_loads, unless_by_loads, makes_puts as decided_puts}
use Rattle.commands.proofs.UnlessRefused.{unless_ends, unless_one_line, unless_never_bad, command_words}
use Rattle.commands.proofs.Written.{ends as decided_ends, one_line as decided_line, by_words as decided_words, says_bad_words as decided_bad}

-- ---- behind all files

-- a text that isn't refused may be answered
pub may_be_long : (refusal : Option (List ℕ)) (text : List ℕ) (held : Option Files) → refusal ≡ None → MayUnless (Unless refusal (done_with text)) held None text
may_be_long refusal text None short = tt
may_be_long refusal text (Some files) short = subst (λ r. Answers (Unless r (done_with text)) files Done text) (sym short) (refl, refl)

-- what may be answered whatever the shelf holds is decided without a load
decided_here : {S : Type 0} (is_load : LoadsOf S) (refusal : Option (List ℕ)) (answer : List ℕ) (long : LongText) (files : Files) (state : S) → MayUnless (Unless refusal (done_with answer)) (Some files) long.refusal long.text →
    LoadsUnless is_load (Unless refusal (done_with answer)) state long.refusal long.text state
decided_here is_load None answer long files state d = go long.refusal d where
  go : (r : Option (List ℕ)) → MayUnless (Unless None (done_with answer)) (Some files) r long.text → LoadsUnless is_load (Unless None (done_with answer)) state r long.text state
  go None d = ((refl, inr d), (refl, inl (refl, refl)))
  go (Some line) d = let wrong : Refused ≡ Done = d.0 in absurd cc
decided_here is_load (Some why) answer long files state d = go long.refusal d where
  go : (r : Option (List ℕ)) → MayUnless (Unless (Some why) (done_with answer)) (Some files) r long.text → LoadsUnless is_load (Unless (Some why) (done_with answer)) state r long.text state
  go None d = let wrong : Done ≡ Refused = d.0 in absurd cc
  go (Some line) d = ((refl, inr d), (refl, inl (refl, refl)))

pub loaded_here : {S : Type 0} (is_load : LoadsOf S) (refusal : Option (List ℕ)) (answer : List ℕ) (e : EndingValue) (state : S) → ((held : Option Files) (before after : ℕ) → Continues (Unless refusal (done_with answer)) held before after e) →
    LoadsEnding is_load (Unless refusal (done_with answer)) state e state
loaded_here is_load refusal answer (inl verdict) state d = at_end is_load (Unless refusal (done_with answer)) empty 0 0 verdict state (reads_nothing refusal (done_with answer) tt) (d (Some empty) 0 0)
loaded_here is_load refusal answer (inr long) state d = decided_here is_load refusal answer long empty state (d (Some empty) 0 0)

-- ---- from a file on

unless_read : {V : Type 0} (file : FileKind) (Says : List ℕ → V → Type 0) (Refused' : List ℕ → List ℕ → Type 0) (name : List ℕ) (next : V → Procedure) (held : Option Files) (value : V) (refusal : Option (List ℕ)) (text : List ℕ) →
    IfSome held (λ files. IsRead file Says (get files name) value) → MayUnless (next value) held refusal text → MayUnless (Read file Says Refused' name next) held refusal text
unless_read file Says Refused' name next None value None text read d = tt
unless_read file Says Refused' name next None value (Some line) text read d = tt
unless_read file Says Refused' name next (Some files) value None text read d = go_on file Says Refused' (λ v. Answers (next v) files) (get files name) value Done text read d
unless_read file Says Refused' name next (Some files) value (Some line) text read d = go_on file Says Refused' (λ v. Answers (next v) files) (get files name) value Refused line read d

unless_loaded : {S V : Type 0} (is_load : LoadsOf S) (file : FileKind) (Says : List ℕ → V → Type 0) (Refused' : List ℕ → List ℕ → Type 0) (name : List ℕ) (next : V → Procedure) (value : V) (first mid last : S) (refusal : Option (List ℕ)) (text : List ℕ) →
    IsLoaded is_load file Says name value first mid → LoadsUnless is_load (next value) mid refusal text last → LoadsUnless is_load (Read file Says Refused' name next) first refusal text last
unless_loaded is_load file Says Refused' name next value first mid last None text load d = (inr (value, mid, load, d.0), inr (value, mid, load, d.1))
unless_loaded is_load file Says Refused' name next value first mid last (Some line) text load d = (inr (value, mid, load, d.0), inr (value, mid, load, d.1))

pub after_read : {V : Type 0} (file : FileKind) (Says : List ℕ → V → Type 0) (Refused' : List ℕ → List ℕ → Type 0) (name : List ℕ) (next : V → Procedure) (held : Option Files) (before mid after : ℕ) (value : V) (e : EndingValue) → before ≤ mid →
    IfSome held (λ files. IsRead file Says (get files name) value) → Continues (next value) held mid after e → Continues (Read file Says Refused' name next) held before after e
after_read file Says Refused' name next held before mid after value (inl verdict) order read d = after_file file Says Refused' name next held before mid after value verdict order read d
after_read file Says Refused' name next held before mid after value (inr long) order read d = unless_read file Says Refused' name next held value long.refusal long.text read d

pub after_load : {S V : Type 0} (is_load : LoadsOf S) (file : FileKind) (Says : List ℕ → V → Type 0) (Refused' : List ℕ → List ℕ → Type 0) (name : List ℕ) (next : V → Procedure) (value : V) (first mid last : S) (e : EndingValue) →
    IsLoaded is_load file Says name value first mid → LoadsEnding is_load (next value) mid e last → LoadsEnding is_load (Read file Says Refused' name next) first e last
after_load is_load file Says Refused' name next value first mid last (inl verdict) load d = after_loaded is_load file Says Refused' name next value first mid last verdict load d
after_load is_load file Says Refused' name next value first mid last (inr long) load d = unless_loaded is_load file Says Refused' name next value first mid last long.refusal long.text load d

-- what continues from a file on closes a call
pub closes_read : {V : Type 0} (file : FileKind) (Says : List ℕ → V → Type 0) (Refused' : List ℕ → List ℕ → Type 0) (name : List ℕ) (next : V → Procedure) (held : Option Files) (before after : ℕ) (e : EndingValue) →
    Continues (Read file Says Refused' name next) held before after e → Closes (Read file Says Refused' name next) held before after e
closes_read file Says Refused' name next held before after (inl verdict) d = d
closes_read file Says Refused' name next held before after (inr long) d = (tt, d)

-- ---- from the chip on

has_chip : (soc limits plan : List ℕ) (all : AcceptedValue) (held : Option Files) → IfSome held (λ files. AreRead files soc limits plan all) → IfSome held (λ files. IsRead Soc SaysChip (get files soc) all.soc)
has_chip soc limits plan all None read = tt
has_chip soc limits plan all (Some files) read = read.chip

has_limits : (soc limits plan : List ℕ) (all : AcceptedValue) (held : Option Files) → IfSome held (λ files. AreRead files soc limits plan all) → IfSome held (λ files. IsRead Limits (SaysLimits all.soc) (get files limits) all.limits)
has_limits soc limits plan all None read = tt
has_limits soc limits plan all (Some files) read = read.bounds

has_plan : (soc limits plan : List ℕ) (all : AcceptedValue) (held : Option Files) → IfSome held (λ files. AreRead files soc limits plan all) → IfSome held (λ files. IsRead Plan (SaysAccepted all.soc all.limits) (get files plan) all.plan)
has_plan soc limits plan all None read = tt
has_plan soc limits plan all (Some files) read = read.value

pub after_taken : (soc limits plan : List ℕ) (next : SocValue → LimitsValue → PlanValue → Procedure) (held : Option Files) (before mid after : ℕ) (all : AcceptedValue) (e : EndingValue) → before ≤ mid →
    IfSome held (λ files. AreRead files soc limits plan all) → Continues (next all.soc all.limits all.plan) held mid after e → Continues (with_all soc limits plan next) held before after e
after_taken soc limits plan next held before mid after all (inl verdict) order read d = after_all soc limits plan next held before mid after all verdict order read d
after_taken soc limits plan next held before mid after all (inr long) order read d =
    unless_read Soc SaysChip RefusesChip soc (λ chip. with_limits chip limits (λ bounds. with_accepted chip bounds plan (next chip bounds))) held all.soc long.refusal long.text (has_chip soc limits plan all held read)
    (unless_read Limits (SaysLimits all.soc) (RefusesLimits all.soc) limits (λ bounds. with_accepted all.soc bounds plan (next all.soc bounds)) held all.limits long.refusal long.text (has_limits soc limits plan all held read)
    (unless_read Plan (SaysAccepted all.soc all.limits) (RefusesPlan all.soc all.limits) plan (next all.soc all.limits) held all.plan long.refusal long.text (has_plan soc limits plan all held read) d))

pub after_all_loads : {S : Type 0} (is_load : LoadsOf S) (soc limits plan : List ℕ) (next : SocValue → LimitsValue → PlanValue → Procedure) (chip : SocValue) (bounds : LimitsValue) (value : PlanValue) (first mid last : S) (e : EndingValue) →
    AllLoaded is_load soc limits plan chip bounds value first mid → LoadsEnding is_load (next chip bounds value) mid e last → LoadsEnding is_load (with_all soc limits plan next) first e last
after_all_loads is_load soc limits plan next chip bounds value first mid last (inl verdict) load d = after_three is_load soc limits plan next chip bounds value first mid last verdict load d
after_all_loads is_load soc limits plan next chip bounds value first mid last (inr long) load d =
    unless_loaded is_load Soc SaysChip RefusesChip soc (λ chip. with_limits chip limits (λ bounds. with_accepted chip bounds plan (next chip bounds))) chip first load.both.mid last long.refusal long.text load.both.chip_is
    (unless_loaded is_load Limits (SaysLimits chip) (RefusesLimits chip) limits (λ bounds. with_accepted chip bounds plan (next chip bounds)) bounds load.both.mid load.mid last long.refusal long.text load.both.limits_are
    (unless_loaded is_load Plan (SaysAccepted chip bounds) (RefusesPlan chip bounds) plan (next chip bounds) value load.mid mid last long.refusal long.text load.plan_is d))

-- ---- what every top call promises

module _ (steps : Procedure) (held : Option Files) (sb sa kb ka : ℕ) (old new : Option (List ℕ)) (end : Status) where
  pub ends : (e : EndingValue) → Closes steps held sb sa e → WritesEnding e kb ka old end new → Ends (MayAnswer steps held sb sa) kb ka old end new
  ends (inl verdict) d w = decided_ends steps held sb sa kb ka old new end verdict d w
  ends (inr long) d w = unless_ends steps held sb sa kb ka old new end long.refusal long.text d.1 w

  one_line : (e : EndingValue) → Closes steps held sb sa e → WritesEnding e kb ka old end new → OneLine old end new
  one_line (inl verdict) d w = decided_line steps held sb sa kb ka old new end verdict d w
  one_line (inr long) d w = unless_one_line kb ka old new end long.refusal long.text w

  by_words : (e : EndingValue) → Closes steps held sb sa e → WritesEnding e kb ka old end new → EndsByWords steps (Rose kb ka) end
  by_words (inl verdict) d w = decided_words steps held sb sa kb ka old new end verdict d w
  by_words (inr long) d w = command_words steps (Rose kb ka) end d.0 (unless_never_bad kb ka old new end long.refusal long.text w)

  says_bad_words : (e : EndingValue) → Closes steps held sb sa e → WritesEnding e kb ka old end new → SaysBadWords old end new
  says_bad_words (inl verdict) d w = decided_bad steps held sb sa kb ka old new end verdict d w
  says_bad_words (inr long) d w = λ bad. absurd (unless_never_bad kb ka old new end long.refusal long.text w bad)

ends_by_loads : {S : Type 0} (is_load : LoadsOf S) (steps : Procedure) (first last : S) (kb ka : ℕ) (old new : Option (List ℕ)) (end : Status) (e : EndingValue) → LoadsEnding is_load steps first e last → WritesEnding e kb ka old end new →
    EndsByLoads is_load steps first last kb ka old end new
ends_by_loads is_load steps first last kb ka old new end (inl verdict) d w = decided_by_loads is_load steps first last kb ka old new end verdict d w
ends_by_loads is_load steps first last kb ka old new end (inr long) d w = unless_by_loads is_load steps first last kb ka old new end long.refusal long.text d w

makes_puts : {S : Type 0} (is_put : S → List ℕ → Put → S → Type 0) (first last : S) (steps : Procedure) (held : Option Files) (sb sa : ℕ) (end : Status) (e : EndingValue) → Closes steps held sb sa e → PutsEnding is_put e first end last → MakesPuts is_put first end last
makes_puts is_put first last steps held sb sa end (inl verdict) d p = decided_puts is_put first last steps held sb sa end verdict d p
makes_puts is_put first last steps held sb sa end (inr long) d p = p

pub ending_promised : {S K : Type 0} {is_load : LoadsOf S} {is_put : K → List ℕ → Put → K → Type 0} {fixed : Bool} {steps : Procedure} {held : Option Files} {first last : S} {sb sa : ℕ} {out_first out_last : K} {kb ka : ℕ} {old new : Option (List ℕ)} {end : Status}
    (e : EndingValue) → IsSettled fixed steps → Closes steps held sb sa e → LoadsEnding is_load steps first e last → ((IsCommand steps → ⊥) → last ≡ first) → WritesEnding e kb ka old end new → PutsEnding is_put e out_first end out_last →
    IsTopCall is_load is_put fixed steps held first last sb sa out_first out_last kb ka old end new
ending_promised {S} {K} {is_load} {is_put} {fixed} {steps} {held} {first} {last} {sb} {sa} {out_first} {out_last} {kb} {ka} {old} {new} {end} e settled closed loaded untouched written put =
    let ended = ends steps held sb sa kb ka old new end e closed written in
    record {
      ends = ended;
      one_line = one_line steps held sb sa kb ka old new end e closed written;
      by_words = by_words steps held sb sa kb ka old new end e closed written;
      bad_words = says_bad_words steps held sb sa kb ka old new end e closed written;
      untouched = untouched;
      by_loads = ends_by_loads is_load steps first last kb ka old new end e loaded written;
      puts = makes_puts is_put out_first out_last steps held sb sa end e closed put;
      complete = complete fixed steps settled held sb sa kb ka old new end ended;
      finishes = finishes fixed steps settled held sb sa kb ka old new end ended;
    }
