-- What was read of a text of limits.
use Rattle.std.specs.Prelude.{◌≡◌, List, Some}
use Rattle.outside.specs.Words.{Word}
use Rattle.limits_text.specs.declared.items.Items.{Items}
use Rattle.limits_text.specs.declared.whole.LimitsText.{LimitsText}
use Rattle.limits_text.specs.Grammar.{IsText}
use Rattle.limits_text.specs.Steps.{State, start, run}
use Rattle.limits_text.specs.Views.{done_of, part_of, InStep}

abbrev pub state_of : LimitsText → State
state_of text = record { form = text.read.value.items.second; done = done_of text.read.value.items; part = part_of text.read.value.part }

-- this is what was read of the words
pub record HasRead (text : LimitsText) (words : List Word) : Type 0 where
  pub read : run (Some start) words ≡ Some (state_of text)
  pub in_step : InStep text.read.value.items

-- the words are a whole text of these items
abbrev pub AreItems : List Word → Items → Type 0
AreItems words items = IsText items.second (done_of items) words
