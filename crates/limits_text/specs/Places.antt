-- The tests of a chip and their places among its live tests.
use Rattle.std.specs.Prelude.{◌≡◌, ◌+◌, ◌++◌, ℕ, Option, None, Some, List, [], Bool, true, false, length, map, nat_eq, if◌then◌else◌, option_map, position, Result, Ok, Err}
use Rattle.std.specs.Global.{Vec}
use Rattle.std.specs.List.{flat_map, list_any, range_with_len}
use Rattle.soc_model.specs.declared.Module.{Module}
use Rattle.soc_model.specs.declared.Soc.{Soc}
use Rattle.soc_model.specs.declared.Test.{Test}
use Rattle.soc_model.specs.declared.TestId.{TestId}
use Rattle.soc_model.specs.Chips.{SocValue, same_test}
use Rattle.soc_model.specs.Lookups.{test_places}
use Rattle.plan_model.specs.Rules.{live_ids}
use Rattle.live_tests.specs.Names.{places_of}
use Rattle.limits_text.specs.declared.LimFault.{LimFault}
use Rattle.limits_text.specs.declared.LimFault.TheVariants as fault
use Rattle.limits_text.specs.declared.named.NamedTests.{NamedTests}
use Rattle.limits_text.specs.declared.places.Row.{Row}
use Rattle.limits_text.specs.Items.{Item, amount_item, before_item, profile_item}
use Rattle.limits_text.specs.Meaning.{unknown_line, first_line}

-- What is noted of a number beside a module's: where the name of these two stands among the names. Nothing where none of the
-- tests has that number.
abbrev pub entry_of : List TestId → ℕ → List Test → ℕ → Option (Option ℕ)
entry_of ids number tests n = if list_any (λ (t : Test). nat_eq n t.number) tests
    then Some (position (same_test (record { «module» = number; test = n })) ids) else None

-- what is noted of each number up to the count of the module's tests
abbrev pub row_of : List TestId → ℕ × Module → List (Option (Option ℕ))
row_of ids e = map (entry_of ids e.0 (e.1).tests.items) (range_with_len 0 (length (e.1).tests.items + 1))

abbrev pub entries_in : Row → List (Option (Option ℕ))
entries_in row = row.by_number.items

-- the rows are those of the chip's modules
abbrev pub AreRows : List TestId → Soc → List Row → Type 0
AreRows ids soc rows = map entries_in rows ≡ map (row_of ids) soc.modules.entries

-- where a name of the chip's tests stands among those of the live tests; nothing where it is none of the chip's
abbrev pub named : SocValue → TestId → Option (Option ℕ)
named soc id = option_map (λ (p : ℕ × ℕ). position (same_test id) (live_ids soc)) (test_places soc id)

-- ---- the tests that items name

-- the places of an item that is a precedence of live tests
abbrev pub pair_of : SocValue → Item → List (ℕ × ℕ)
pair_of soc (amount_item a n) = []
pair_of soc (before_item line a b) = places_of (live_ids soc) (a, b)
pair_of soc (profile_item line id steps) = []

-- An item names tests of the chip alone, and its places are added; or it names another on this line; or memory ran out.
abbrev pub Notes : SocValue → Item → List (ℕ × ℕ) → List (ℕ × ℕ) → Result (Unit {0}) LimFault → Type 0
Notes soc item old new (Ok done) = (unknown_line soc item ≡ None) × (new ≡ old ++ pair_of soc item)
Notes soc item old new (Err (fault.Text line)) = ⊥
Notes soc item old new (Err (fault.UnknownTest line)) = unknown_line soc item ≡ Some line
Notes soc item old new (Err (fault.Cycle tests)) = ⊥
Notes soc item old new (Err (fault.TestPower test power)) = ⊥
Notes soc item old new (Err fault.NoMemory) = Unit {0}

-- Of these items this is the line of the first that names a test which isn't in the chip; or memory ran out.
abbrev pub StopsAt : SocValue → List Item → LimFault → Type 0
StopsAt soc items (fault.Text line) = ⊥
StopsAt soc items (fault.UnknownTest line) = first_line soc items ≡ Some line
StopsAt soc items (fault.Cycle tests) = ⊥
StopsAt soc items (fault.TestPower test power) = ⊥
StopsAt soc items fault.NoMemory = Unit {0}

-- The items name tests of the chip alone, and these are the places of those that are precedences.
abbrev pub AreNoted : SocValue → List Item → Result (Vec (ℕ × ℕ)) LimFault → Type 0
AreNoted soc items (Ok pairs) = (first_line soc items ≡ None) × (pairs.items ≡ flat_map (pair_of soc) items)
AreNoted soc items (Err f) = StopsAt soc items f

abbrev pub names_test : Item → Bool
names_test (amount_item a n) = false
names_test (before_item line a b) = true
names_test (profile_item line id steps) = true

-- The items name tests of the chip alone; these are the live tests of the chip, and the places of the items that are precedences.
abbrev pub AreNamed : SocValue → List Item → Result NamedTests LimFault → Type 0
AreNamed soc items (Ok named) =
    (first_line soc items ≡ None) × (named.tests ≡ live_ids soc) × (named.precedences.items ≡ flat_map (pair_of soc) items)
AreNamed soc items (Err f) = StopsAt soc items f
