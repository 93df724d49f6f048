-- What the reader's values stand for.
use Rattle.std.specs.Prelude.{◌≡◌, ℕ, ◌&&◌, ◌||◌, List, map, reverse, Bool, true, false, not, Option, None, Some, Result, Ok, Err}
use Rattle.soc_model.specs.Chips.{soc_value}
use Rattle.soc_reader.specs.declared.keys.Key.{Key}
use Rattle.soc_reader.specs.declared.keys.Key.TheVariants.{TotalModules, TotalTests}
use Rattle.soc_reader.specs.declared.keys.Subject.{Subject}
use Rattle.soc_reader.specs.declared.keys.Subject.TheVariants.{Chip, OfModule}
use Rattle.soc_reader.specs.declared.kept.ReadValue.{ReadValue}
use Rattle.soc_reader.specs.declared.kept.ReadValue.TheVariants.{Nothing, Word, Count, Flag}
use Rattle.soc_reader.specs.declared.kept.Total.{Total}
use Rattle.soc_reader.specs.declared.kept.Total.TheVariants.{Modules, Tests}
use Rattle.soc_reader.specs.declared.kept.ItemsSoFar.{ItemsSoFar}
use Rattle.soc_reader.specs.declared.kept.ReadPart.{ReadPart}
use Rattle.soc_reader.specs.declared.kept.ReadPart.TheVariants.{Between, Wants, Counted, Listing, WantsCoordinate, NameOrData}
use Rattle.outside.specs.declared.reading.Stop.{Stop}
use Rattle.outside.specs.declared.reading.Stop.TheVariants.{Refused, NoMemory}
use Rattle.soc_reader.specs.Table.{Value, nothing, word, count, flag, Item, entry, may_repeat}
use Rattle.soc_reader.specs.Grammar.{opens_item, after_item, gives_xy}
use Rattle.soc_reader.specs.Marks.{is_marked}
use Rattle.soc_reader.specs.Names.{name_in, is_other_name}
use Rattle.soc_reader.specs.Drafts.{IsIndexed}
use Rattle.soc_reader.specs.ItemsValue.{ItemsValue, of_known, is_given_once, with_total}
use Rattle.soc_reader.specs.Steps.{Part, between, wants, counted, listing, wants_coordinate, name_or_data, StateOf, step_at}

abbrev pub value_of : ReadValue → Value
value_of Nothing = nothing
value_of (Word w) = word w.now
value_of (Count n line) = count n line
value_of (Flag b) = flag b

abbrev pub total_item : Total → Item
total_item (Modules n line) = entry Chip TotalModules (count n line)
total_item (Tests m n line) = entry (OfModule m) TotalTests (count n line)

-- the latest first
abbrev pub totals_of : List Total → List Item
totals_of totals = reverse (map total_item totals)

-- what is known of the items by what is kept
unfoldable pub known_of : ItemsSoFar → ItemsValue
known_of kept = record {
  opened = kept.opened;
  place = kept.after;
  xy = kept.xy;
  given = λ s k. not (may_repeat k) && is_marked s k kept.given;
  renamed = λ m w. is_other_name (name_in kept.names m) w;
  chip = soc_value kept.draft.soc;
  totals = totals_of kept.totals.items;
}

-- Behind an item: all that is kept beside the chip and the names goes on, and these stay.
pub record WentOn (x : Item) (old new : ItemsSoFar) : Type 0 where
  pub draft : new.draft ≡ old.draft
  pub given : (s : Subject) (k : Key)
      → (not (may_repeat k) && is_marked s k new.given) ≡ (is_given_once s k x || (not (may_repeat k) && is_marked s k old.given))
  pub names : new.names ≡ old.names
  pub opened : new.opened ≡ opens_item x old.opened
  pub place : new.after ≡ after_item x
  pub xy : new.xy ≡ (gives_xy x || old.xy)
  pub totals : totals_of new.totals.items ≡ with_total x (totals_of old.totals.items)

abbrev pub part_of : ReadPart → Part
part_of Between = between
part_of (Wants s k shape) = wants s k shape
part_of (Counted s k n) = counted s k n
part_of (Listing s k read left) = listing s k read.items left
part_of WantsCoordinate = wants_coordinate
part_of (NameOrData m w) = name_or_data m w.now

-- whether lengths of a list are read
abbrev pub is_list : ReadPart → Bool
is_list (Listing s k read left) = true
is_list part = false

-- The next state is this part and what is kept; or there is none.
abbrev pub Steps : Option (StateOf ItemsValue) → Result (Unit {0}) Stop → ReadPart → ItemsSoFar → Type 0
Steps next (Ok _) part kept = (next ≡ Some (record { done = known_of kept; part = part_of part })) × IsIndexed kept.draft
Steps next (Err Refused) part kept = next ≡ None
Steps next (Err NoMemory) part kept = Unit {0}

-- What is known where the text ends here is what is kept; or it ends too early.
abbrev pub Closes : {U : Type 0} → Option ItemsValue → Result U Stop → ItemsSoFar → Type 0
Closes whole (Ok _) kept = whole ≡ Some (known_of kept)
Closes whole (Err Refused) kept = whole ≡ None
Closes whole (Err NoMemory) kept = Unit {0}

-- this word goes on with a list, and makes this part of that one
abbrev pub AddsLength : ReadPart → List ℕ → ReadPart → Type 0
AddsLength old bytes new =
    (done : ItemsValue) (line : ℕ) → step_at of_known done (part_of old) (bytes, line) ≡ Some (record { done = done; part = part_of new })
