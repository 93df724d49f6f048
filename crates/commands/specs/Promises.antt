-- What every top call promises of its answer.
use Rattle.std.specs.Prelude.{◌≡◌, ℕ, Bool, List, Option}
use Rattle.outside.specs.Held.{Files, Rose}
use Rattle.outside.specs.declared.sink.Put.{Put}
use Rattle.commands.specs.declared.Status.{Status}
use Rattle.commands.specs.Procedures.{Procedure}
use Rattle.commands.specs.Ends.{IsCommand, MayAnswer, Ends, OneLine, EndsByWords, SaysBadWords, MakesPuts, Complete, Finishes}
use Rattle.commands.specs.Loads.{LoadsOf, EndsByLoads}

-- A call that follows `steps`, over a shelf that tells `held`, and ends with a status. Of shelf and output it has the states and the
-- counts of faults before and after, and of the output what was written. `fixed`: the files fix the text of the answer.
pub record IsTopCall {S K : Type 0} (is_load : LoadsOf S) (is_put : K → List ℕ → Put → K → Type 0) (fixed : Bool) (steps : Procedure)
    (held : Option Files) (first last : S) (shelf_before shelf_after : ℕ) (out_first out_last : K) (out_before out_after : ℕ)
    (old : Option (List ℕ)) (end : Status) (new : Option (List ℕ)) : Type 0 where
  -- what is written is an answer to the words and files, each status where its cause is
  pub ends : Ends (MayAnswer steps held shelf_before shelf_after) out_before out_after old end new
  -- a refusal, bad words, and a file that can't be read or is too long give exactly one line, and out of memory nothing
  pub one_line : OneLine old end new
  -- words that are no command, and no others, end as bad words, unless memory runs out or the output fails
  pub by_words : EndsByWords steps (Rose out_before out_after) end
  -- they get their line, also where the shelf tells nothing
  pub bad_words : SaysBadWords old end new
  -- and they leave the shelf as it was
  pub untouched : (IsCommand steps → ⊥) → last ≡ first
  -- each file is loaded once and in turn, and the last one decides, also where the shelf tells nothing
  pub by_loads : EndsByLoads is_load steps first last out_before out_after old end new
  -- no put is empty, and none comes after one that failed
  pub puts : MakesPuts is_put out_first end out_last
  -- where the files give an answer and nothing fails, it comes, unless memory runs out; with its text, where the files fix that
  pub complete : Complete fixed steps held (Rose shelf_before shelf_after) (Rose out_before out_after) old end new
  -- where every file is read and taken and nothing fails, an answer comes, unless memory runs out
  pub finishes : Finishes steps held (Rose shelf_before shelf_after) (Rose out_before out_after) end
