-- The test data of the made contents of a seed, its text, and the line that refuses one that is too long.
use Rattle.std.specs.Prelude.{ℕ, List, ◌++◌, Option, None, Some, codes, decimal, length, nat_lt, if◌then◌else◌}
use Rattle.soc_model.specs.Chips.{SocValue}
use Rattle.vector_lines.specs.Made.{made_content}
use Rattle.test_data.specs.DataWords.{EntryValue}
use Rattle.commands.specs.declared.TheConstants.{DATA_FILE_MOST}
use Rattle.tester_commands.specs.DataText.{data_text}
use Rattle.tester_commands.specs.ContentEntries.{entries_of}

abbrev pub made_entries : SocValue → (seed : ℕ) → List EntryValue
made_entries soc seed = entries_of soc (made_content soc seed)

unfoldable pub made_text : SocValue → (seed : ℕ) → List ℕ
made_text soc seed = data_text (made_entries soc seed)

-- a text of `bytes` bytes, which are more than a file of test data may have
abbrev pub long_data_line : (bytes : ℕ) → List ℕ
long_data_line bytes = codes "refused data long " ++ decimal bytes ++ codes "\n"

abbrev pub long_data_refusal : List ℕ → Option (List ℕ)
long_data_refusal text = if nat_lt DATA_FILE_MOST (length text) then Some (long_data_line (length text)) else None
