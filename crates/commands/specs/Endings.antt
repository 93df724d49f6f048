-- How a call ends that has its text with a status, or writes a long text as it is made.
use Rattle.std.proofs.Common.{inl, inr}
use Rattle.std.specs.Prelude.{ℕ, ◌⊎◌, List, Option}
use Rattle.outside.specs.Held.{Files}
use Rattle.outside.specs.declared.sink.Put.{Put}
use Rattle.commands.specs.declared.Status.{Status}
use Rattle.commands.specs.declared.Verdict.{Verdict}
use Rattle.commands.specs.Decides.{Decides, Follows}
use Rattle.commands.specs.Ends.{IsCommand, MayUnless, Writes, WritesUnless, PutsVerdict, MakesPuts}
use Rattle.commands.specs.Loads.{LoadsOf, LoadsGive, LoadsUnless}
use Rattle.commands.specs.Procedures.{Procedure}

-- a text that is written as it is made, unless a line refuses it
pub record LongText : Type 0 where
  pub refusal : Option (List ℕ)
  pub text : List ℕ

-- a verdict, or a long text
abbrev pub EndingValue : Type 0
EndingValue = Verdict ⊎ LongText

-- how what comes behind some files is decided
abbrev pub Continues : Procedure → Option Files → ℕ → ℕ → EndingValue → Type 0
Continues steps held before after (inl verdict) = Follows steps held before after verdict
Continues steps held before after (inr long) = MayUnless steps held long.refusal long.text

-- how a call is decided
abbrev pub Closes : Procedure → Option Files → ℕ → ℕ → EndingValue → Type 0
Closes steps held before after (inl verdict) = Decides steps held before after verdict
Closes steps held before after (inr long) = IsCommand steps × MayUnless steps held long.refusal long.text

-- what is written of an ending
abbrev pub WritesEnding : EndingValue → ℕ → ℕ → Option (List ℕ) → Status → Option (List ℕ) → Type 0
WritesEnding (inl verdict) before after old end new = Writes verdict before after old end new
WritesEnding (inr long) before after old end new = WritesUnless long.refusal long.text before after old end new

-- the loads decide what is to be written of an ending
abbrev pub LoadsEnding : {S : Type 0} → LoadsOf S → Procedure → S → EndingValue → S → Type 0
LoadsEnding is_load steps first (inl verdict) last = LoadsGive is_load steps first verdict last
LoadsEnding is_load steps first (inr long) last = LoadsUnless is_load steps first long.refusal long.text last

-- the puts of what is written of an ending
abbrev pub PutsEnding : {S : Type 0} → (S → List ℕ → Put → S → Type 0) → EndingValue → S → Status → S → Type 0
PutsEnding is_put (inl verdict) first end last = PutsVerdict is_put verdict first end last
PutsEnding is_put (inr long) first end last = MakesPuts is_put first end last
