-- Why texts are refused.
use Rattle.std.specs.Prelude.{◌≡◌, ◌⊎◌, ℕ, List, Some}
use Rattle.outside.specs.Words.{words_of}
use Rattle.soc_model.specs.declared.SocLimit.{SocLimit}
use Rattle.soc_model.specs.Chips.{SocValue}
use Rattle.soc_model.specs.Sizes.{IsFirstPassed}
use Rattle.soc_reader.specs.declared.SocFault.{SocFault}
use Rattle.soc_reader.specs.declared.SocFault.TheVariants.{Text, Limit, NoMemory}
use Rattle.soc_reader.specs.Table.{Item}
use Rattle.outside.specs.Grammars.{IsRefused}
use Rattle.soc_reader.specs.Grammar.{IsText, InGrammar}
use Rattle.soc_reader.specs.Meaning.{chip_of, first_wrong}
use Rattle.soc_reader.specs.ChipForm.{SaysModules, SaysChip}

-- The words of the bytes are items, and the first of their totals that does not agree stands on this line.
pub record HasWrongTotal (bytes : List ℕ) (line : ℕ) : Type 0 where
  pub items : List Item
  pub text : IsText items (words_of bytes)
  pub first : first_wrong (chip_of items) items ≡ Some line

-- The grammar or a total refuses the bytes, at this line.
abbrev pub IsRefusedLine : List ℕ → ℕ → Type 0
IsRefusedLine bytes line = IsRefused InGrammar bytes line ⊎ HasWrongTotal bytes line

-- The bytes say a chip that is too large: this is the first limit that it passes, with the number that passes it.
pub record IsTooLarge (bytes : List ℕ) (limit : SocLimit) : Type 0 where
  pub soc : SocValue
  pub modules : SaysModules bytes soc
  pub passed : IsFirstPassed soc limit

-- Why the bytes are refused; it is not said when memory runs out.
abbrev pub Refuses : List ℕ → SocFault → Type 0
Refuses bytes (Text line) = IsRefusedLine bytes line
Refuses bytes (Limit which value) = IsTooLarge bytes (record { which = which; value = value })
Refuses bytes NoMemory = Unit {0}

-- The bytes say a chip, or are refused at a line, or pass a limit.
abbrev pub HasAnswer : List ℕ → Type 0
HasAnswer bytes =
    ((soc : SocValue) × SaysChip bytes soc) ⊎ (((line : ℕ) × IsRefusedLine bytes line) ⊎ ((limit : SocLimit) × IsTooLarge bytes limit))
