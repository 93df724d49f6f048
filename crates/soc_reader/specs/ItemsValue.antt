-- What is known of the items so far: all that the next item is looked up in, their chip and their totals.
use Rattle.std.specs.Prelude.{ℕ, ◌||◌, ◌&&◌, List, ◌∷◌, Bool, true, false, not, if◌then◌else◌}
use Rattle.std.specs.List.{list_any, filter}
use Rattle.soc_model.specs.Chips.{SocValue}
use Rattle.soc_reader.specs.declared.keys.Key.{Key}
use Rattle.soc_reader.specs.declared.keys.Key.TheVariants.{TotalModules, TotalTests, ScanUse, TamUse, Patterns, Power}
use Rattle.soc_reader.specs.declared.keys.Subject.{Subject}
use Rattle.soc_reader.specs.declared.keys.Subject.TheVariants.{Chip, OfModule}
use Rattle.soc_reader.specs.declared.keys.After.{After}
use Rattle.soc_reader.specs.Table.{count, Item, entry, may_repeat}
use Rattle.soc_reader.specs.Grammar.{opens_item, open_after, after_item, after, gives_xy, has_xy, is_given, renames}
use Rattle.soc_reader.specs.Meaning.{says, chip_of}
use Rattle.soc_reader.specs.Steps.{Asked}

pub record ItemsValue : Type 0 where
  pub opened : Subject
  pub place : After
  pub xy : Bool
  pub given : Subject → Key → Bool
  pub renamed : ℕ → List ℕ → Bool
  pub chip : SocValue
  pub totals : List Item

-- the item is a total
abbrev pub is_total : Item → Bool
is_total (entry Chip TotalModules (count n line)) = true
is_total (entry (OfModule m) TotalTests (count n line)) = true
is_total x = false

-- totals with one item more
abbrev pub with_total : Item → List Item → List Item
with_total x totals = if is_total x then x ∷ totals else totals

-- the item gives this of that subject, and it may be given once
abbrev pub is_given_once : Subject → Key → Item → Bool
is_given_once s k x = not (may_repeat k) && is_given s k x

-- the keywords that say something of a test
abbrev pub is_of_test : Key → Bool
is_of_test ScanUse = true
is_of_test TamUse = true
is_of_test Patterns = true
is_of_test Power = true
is_of_test k = false

-- one item more
unfoldable pub add : Item → ItemsValue → ItemsValue
add x d = record {
  opened = opens_item x d.opened;
  place = after_item x;
  xy = gives_xy x || d.xy;
  given = λ s k. is_given_once s k x || d.given s k;
  renamed = λ m w. renames m w x || d.renamed m w;
  chip = says x d.chip;
  totals = with_total x d.totals;
}

-- what is known of these items, the latest first
unfoldable pub known_by : List Item → ItemsValue
known_by done = record {
  opened = open_after done;
  place = after done;
  xy = has_xy done;
  given = λ s k. list_any (is_given_once s k) done;
  renamed = λ m w. list_any (renames m w) done;
  chip = chip_of done;
  totals = filter is_total done;
}

abbrev pub may_give : Subject → Key → ItemsValue → Bool
may_give s k d = may_repeat k || not (d.given s k)

abbrev pub may_name : ℕ → List ℕ → ItemsValue → Bool
may_name m w d = not (d.renamed m w)

abbrev pub of_known : Asked ItemsValue
of_known = record { opened = λ d. d.opened; place = λ d. d.place; xy = λ d. d.xy; may_give = may_give; may_name = may_name; add = add }
