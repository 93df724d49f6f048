use Rattle.std.proofs.Common.{sym, subst}
use Rattle.keyword_text.specs.Reads.{Makes}
use Rattle.test_data.specs.declared.text.DataText.{DataText}
use Rattle.test_data.specs.DataReads.{ended}
use Rattle.test_data.specs.DataPlaces.{kept_entries, state_in}
use Rattle.test_data.proofs.text.ended_text.Goals as goal

pub returns-in-Within : goal.returns-in-Within
returns-in-Within c = λ bytes.
    subst (λ (t : DataText). Makes (kept_entries bytes) (ended (state_in bytes t)) c.with_entry.result) (sym c.in-Within.is) (c.with_entry.ensures bytes)
