-- What the test data of contents is.
use Rattle.std.specs.Prelude.{◌≡◌, None}
use Rattle.soc_model.specs.Chips.{SocValue}
use Rattle.plan_model.specs.Runs.{Content}
use Rattle.test_data.specs.Agreement.{Agrees, Suits}
use Rattle.test_data.specs.DataWords.{SaysData}
use Rattle.test_data.specs.Suiting.{misfit_of}
use Rattle.tester_commands.specs.DataText.{data_text}
use Rattle.tester_commands.specs.ContentEntries.{entries_of}

-- What is written of a content's data is read back as that data, which suits the chip, and the content agrees with it.
pub record IsDataOf (soc : SocValue) (content : Content) : Type 0 where
  pub read_back : SaysData (data_text (entries_of soc content)) (entries_of soc content)
  pub no_misfit : misfit_of soc (entries_of soc content) ≡ None
  pub suits : Suits soc (entries_of soc content)
  pub agrees : Agrees soc (entries_of soc content) content
