-- What the reader of a chip's text answers.
use Rattle.std.specs.Prelude.{◌≡◌, ℕ, List, [], Some, Result, Ok, Err}
use Rattle.outside.specs.declared.reading.Unread.{Unread}
use Rattle.outside.specs.declared.reading.Unread.TheVariants.{Refused, NoMemory}
use Rattle.outside.specs.Words.{Word}
use Rattle.soc_model.specs.declared.Soc.{Soc}
use Rattle.soc_model.specs.Chips.{soc_value, SocValue}
use Rattle.soc_reader.specs.declared.whole.ChipText.{ChipText}
use Rattle.soc_reader.specs.declared.whole.ReadChip.{ReadChip}
use Rattle.soc_reader.specs.Table.{Item}
use Rattle.soc_reader.specs.Grammar.{IsText}
use Rattle.soc_reader.specs.ItemsValue.{ItemsValue, known_by, of_known}
use Rattle.soc_reader.specs.Steps.{StateOf, between, run}
use Rattle.soc_reader.specs.Meaning.{chip_of, first_wrong}
use Rattle.soc_reader.specs.ChipForm.{SaysModules}
use Rattle.soc_reader.specs.Drafts.{IsIndexed}
use Rattle.soc_reader.specs.Refusals.{IsRefusedLine}
use Rattle.soc_reader.specs.Views.{known_of, part_of, totals_of}

-- nothing was read
abbrev pub nothing_known : StateOf ItemsValue
nothing_known = record { done = known_by []; part = between }

abbrev pub state_of : ChipText → StateOf ItemsValue
state_of text = record { done = known_of text.read.value.kept; part = part_of text.read.value.part }

-- this is what was read of the words
pub record HasRead (text : ChipText) (words : List Word) : Type 0 where
  pub read : run of_known (Some nothing_known) words ≡ Some (state_of text)
  pub indexed : IsIndexed text.read.value.kept.draft

-- The words are items that say this chip, with these totals.
pub record SayChip (words : List Word) (chip : ReadChip) : Type 0 where
  pub items : List Item
  pub text : IsText items words
  pub said : soc_value chip.soc ≡ chip_of items
  pub totals : (c : SocValue) → first_wrong c (totals_of chip.totals.items) ≡ first_wrong c items

-- The text says this chip, of whatever size; or the grammar or a total refuses it at that line; or memory ran out.
abbrev pub ChipRead : List ℕ → Result Soc Unread → Type 0
ChipRead bytes (Ok soc) = SaysModules bytes (soc_value soc)
ChipRead bytes (Err (Refused line)) = IsRefusedLine bytes line
ChipRead bytes (Err NoMemory) = Unit {0}
