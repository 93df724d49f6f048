-- The chip that a text says.
use Rattle.std.specs.Prelude.{◌≡◌, ℕ, List, None}
use Rattle.outside.specs.Words.{words_of}
use Rattle.soc_model.specs.Chips.{SocValue}
use Rattle.soc_model.specs.Sizes.{IsWithinSize}
use Rattle.soc_reader.specs.Table.{Item}
use Rattle.soc_reader.specs.Grammar.{IsText}
use Rattle.soc_reader.specs.Meaning.{chip_of, first_wrong}

-- The words of the bytes are items, their totals agree, and this is their chip, of whatever size.
pub record SaysModules (bytes : List ℕ) (soc : SocValue) : Type 0 where
  pub items : List Item
  pub text : IsText items (words_of bytes)
  pub chip : soc ≡ chip_of items
  pub totals : first_wrong soc items ≡ None

-- The bytes say this chip, and it is within the limits on the size of a chip.
pub record SaysChip (bytes : List ℕ) (soc : SocValue) : Type 0 where
  pub modules : SaysModules bytes soc
  pub size : IsWithinSize soc
