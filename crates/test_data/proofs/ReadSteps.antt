-- How far test data was read, and what refuses it.
use Rattle.std.proofs.Common.{◌≡◌, ℕ, List, [], ◌∷◌, ◌++◌, true, None, Some, Result, ◌∙◌}
use Rattle.outside.specs.declared.reading.Stop.{Stop}
use Rattle.outside.specs.Words.{Word}
use Rattle.outside.specs.Grammars.{Stops, EndsEarly}
use Rattle.outside.proofs.Runs.{run-one_more}
use Rattle.keyword_text.specs.Reads.{Makes}
use Rattle.soc_model.specs.declared.TestId.{TestId}
use Rattle.test_data.specs.declared.DataBit.{DataBit}
use Rattle.test_data.specs.declared.text.DataText.{DataText}
use Rattle.test_data.specs.DataWords.{bit_word, PatternValue, EntryValue, InData}
use Rattle.test_data.specs.DataReads.{State, empty, headed, within, loaded, entry_of, with_pattern, is_header, after, ended, IsAfterWords}
use Rattle.test_data.specs.DataPlaces.{state_in}
use Rattle.test_data.proofs.ReadTexts.{viable, stuck, early}

-- one word more
pub read_more : (s n : State) (front : List Word) (w : Word) → IsAfterWords s front → after s w ≡ Some n → IsAfterWords n (front ++ w ∷ [])
read_more s n front w read goes = run-one_more after (Some empty) front w s read ∙ goes

-- a word with which no text goes on
pub stops : (s : State) (front : List Word) (w : Word) → IsAfterWords s front → after s w ≡ None → Stops InData front w
stops s front w read none = record { before = viable s front read; refused = stuck (front ++ w ∷ []) (run-one_more after (Some empty) front w s read ∙ none) }

-- an end that comes too early
pub ends_early : (s : State) (ws : List Word) → IsAfterWords s ws → ended s ≡ None → EndsEarly InData ws
ends_early s ws read none = record { viable = viable s ws read; refused = early s ws read none }

-- ---- steps that another call makes

pub header_step : (bytes : List ℕ) (es : List EntryValue) (id : TestId) (ps : List PatternValue) (w : Word) (result : Result DataText Stop) → is_header w ≡ true →
    Makes (state_in bytes) (Some (headed (es ++ entry_of id ps ∷ []))) result → Makes (state_in bytes) (after (within es id ps) w) result
header_step bytes es id ps w result is made = rw is made

pub unload_step : (bytes : List ℕ) (es : List EntryValue) (id : TestId) (ps : List PatternValue) (l bs : List DataBit) (w : Word) (result : Result DataText Stop) → Some bs ≡ bit_word w.0 →
    Makes (state_in bytes) (Some (within es id (with_pattern ps l bs))) result → Makes (state_in bytes) (after (loaded es id ps l) w) result
unload_step bytes es id ps l bs w result is made = rw (← is) made
