-- Made data that is ready to be written.
use Rattle.std.specs.Prelude.{◌≡◌, ℕ, List, [], ◌++◌, codes, length, map}
use Rattle.std.specs.List.{All}
use Rattle.tester_commands.specs.declared.parts.Part.{Part}
use Rattle.tester_commands.specs.declared.made_text.MadeData.{MadeData}
use Rattle.tester_commands.specs.DataParts.{IsSmallPart, part_value, parts_text}
use Rattle.tester_commands.specs.Sending.{HasRoom, waiting}

-- its parts make the text, whose length is known, and nothing waits
pub record IsReady (text : List ℕ) (d : MadeData) : Type 0 where
  pub text_is : codes "Data 1\n" ++ parts_text (map part_value d.parts.items) ≡ text
  pub length_is : d.length ≡ length text
  pub small : All (λ (p : Part). IsSmallPart (part_value p)) d.parts.items
  pub room : HasRoom d.block
  pub empty : waiting d.block ≡ []
