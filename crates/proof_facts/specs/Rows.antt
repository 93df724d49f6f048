-- What a chip and limits say of exclusions by the places of live tests, and the row of marks of a test.
use Rattle.std.specs.Prelude.{◌≡◌, ℕ, ◌+◌, ◌<◌, Bool, ◌&&◌, ◌||◌, Option, List, not, length, map, nat_eq}
use Rattle.soc_model.specs.declared.Test.{Test}
use Rattle.soc_model.specs.Chips.{SocValue, LiveTest, live_tests, parent_place}
use Rattle.plan_model.specs.Plans.{LimitsValue}
use Rattle.proof_facts.specs.declared.facts.TestFacts.{TestFacts}
use Rattle.proof_facts.specs.declared.exclusion_rows.ExclusionRows.{ExclusionRows}
use Rattle.proof_facts.specs.Exclusions.{least_power_of, is_place, is_passed}
use Rattle.live_tests.specs.Names.{precedences}
use Rattle.proof_facts.specs.Marks.{AreAfter, AreBefore}

-- what exclusions ask of a test of a module, whose place, parent and number are these
abbrev pub facts_at : LimitsValue → (place : ℕ) → (parent : Option ℕ) → (number : ℕ) → Test → TestFacts
facts_at limits place parent number t = record {
  place = place;
  parent = parent;
  least = least_power_of limits (record { «module» = number; test = t.number }) t.power;
}

-- what they ask of a live test
abbrev pub facts_of : SocValue → LimitsValue → LiveTest → TestFacts
facts_of soc limits l = facts_at limits l.place (parent_place soc.modules l.place) l.core.number l.test

-- that of all live tests
abbrev pub all_facts : SocValue → LimitsValue → List TestFacts
all_facts soc limits = map (facts_of soc limits) (live_tests soc)

-- two tests of these facts are of one module, or of a module and its parent
abbrev pub are_kin : TestFacts → TestFacts → Bool
are_kin a b = nat_eq a.place b.place || is_place b.parent a.place || is_place a.parent b.place

-- they are, or draw more than the limit together
abbrev pub are_apart : Option ℕ → TestFacts → TestFacts → Bool
are_apart power a b = are_kin a b || is_passed power (a.least + b.least)

-- the mark of the test at one place in the row of another, where precedences lead from that one as marked, and to it
abbrev pub mark_of : Option ℕ → (own other : TestFacts) → (test place : ℕ) → (behind ahead : Bool) → Bool
mark_of power own other test place behind ahead = not (nat_eq test place) && ((behind || ahead) || are_apart power own other)

-- all that rows are made from is that of the chip and the limits
pub record AreRowsOf (soc : SocValue) (limits : LimitsValue) (rows : ExclusionRows) : Type 0 where
  pub facts : rows.facts.items ≡ all_facts soc limits
  pub after : AreAfter (precedences soc limits) rows.after.items
  pub before : AreBefore (precedences soc limits) rows.before.items
  pub after_long : length rows.after.items ≡ length (live_tests soc)
  pub before_long : length rows.before.items ≡ length (live_tests soc)
  pub power : rows.power ≡ limits.power

-- a live test of the chip and the limits that rows are made from
pub record HasRow (rows : ExclusionRows) (test : ℕ) : Type 0 where
  pub soc : SocValue
  pub limits : LimitsValue
  pub are : AreRowsOf soc limits rows
  pub within : test < length (live_tests soc)
