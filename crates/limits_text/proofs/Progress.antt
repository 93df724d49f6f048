-- How far a text was read.
use Rattle.std.proofs.Common.{◌≡◌, ◌≤◌, List, [], ◌∷◌, ◌++◌, length, Some, None, ◌∙◌, ap, subst, Result, Ok, Err, IfOk}
use Rattle.outside.specs.declared.reading.Stop.{Stop}
use Rattle.outside.specs.declared.reading.Stop.TheVariants.{Refused, NoMemory}
use Rattle.outside.specs.Words.{Word}
use Rattle.outside.specs.Grammars.{Steps as Goes, Ends}
use Rattle.soc_model.specs.declared.TheConstants.{NUMBER_WORD_MOST}
use Rattle.limits_text.specs.declared.items.Items.{Items}
use Rattle.limits_text.specs.declared.items.Part.{Part}
use Rattle.limits_text.specs.declared.items.ReadSoFar.{ReadSoFar}
use Rattle.limits_text.specs.declared.whole.LimitsText.{LimitsText}
use Rattle.limits_text.specs.Grammar.{InGrammar}
use Rattle.limits_text.specs.Steps.{start, step, step_at, ended_at, whole_of}
use Rattle.limits_text.specs.Views.{done_of, part_of, Steps, Closes}
use Rattle.limits_text.specs.Reads.{state_of, HasRead, AreItems}
use Rattle.outside.proofs.Runs.{run-one_more}
use Rattle.limits_text.proofs.Viable.{read_text, stops_here, ends_here}

module _ (front : List Word) (w : Word) (text : LimitsText) where
  pub goes_on : (next : LimitsText) (before : ReadSoFar) → before ≡ text.read.value → HasRead text front
      → Steps (step_at before.items.second (done_of before.items) (part_of before.part) w) (Ok tt) next.read.value.part next.read.value.items
      → HasRead next (front ++ w ∷ [])
  goes_on next before is has steps =
      let here = subst (λ (b : ReadSoFar). Steps (step_at b.items.second (done_of b.items) (part_of b.part) w) (Ok tt) next.read.value.part next.read.value.items) is steps in
      record { read = run-one_more step (Some start) front w (state_of text) has.read ∙ here.0; in_step = here.1 }

  pub stops : (before : ReadSoFar) (part : Part) (new : Items) (stop : Stop) → before ≡ text.read.value → length front ≤ NUMBER_WORD_MOST → HasRead text front
      → Steps (step_at before.items.second (done_of before.items) (part_of before.part) w) (Err stop) part new → Goes InGrammar HasRead front w (Err stop)
  stops before part new Refused is few has steps =
      stops_here front w (state_of text) few has.read (subst (λ (b : ReadSoFar). step_at b.items.second (done_of b.items) (part_of b.part) w ≡ None) is steps)
  stops before part new NoMemory is few has steps = tt

-- what an answer says of the end
pub ends : (words : List Word) (text : LimitsText) (before : ReadSoFar) (answer : Result Items Stop) → before ≡ text.read.value → length words ≤ NUMBER_WORD_MOST → HasRead text words →
    Closes (whole_of (ended_at (done_of before.items) (part_of before.part))) answer → IfOk answer (λ whole. whole.second ≡ before.items.second) → Ends InGrammar AreItems words answer
ends words text before (Ok whole) is few has closes form =
    let here = subst (λ (b : ReadSoFar). Closes (whole_of (ended_at (done_of b.items) (part_of b.part))) (Ok whole)) is closes in
    rw (form ∙ ap (λ (b : ReadSoFar). b.items.second) is) (read_text words (state_of text) (done_of whole) has.read here)
ends words text before (Err Refused) is few has closes form = ends_here words (state_of text) few has.read (subst (λ (b : ReadSoFar). Closes (whole_of (ended_at (done_of b.items) (part_of b.part))) (Err Refused)) is closes)
ends words text before (Err NoMemory) is few has closes form = tt
