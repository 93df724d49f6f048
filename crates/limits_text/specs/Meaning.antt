-- What the items of a text say: the limits, the tests that they name, and what a chip refuses of them.
use Rattle.std.specs.Prelude.{◌≡◌, ℕ, ◌<◌, ◌&&◌, ◌++◌, List, [], ◌∷◌, Bool, true, false, not, map, reverse, find, nat_lt, slice_get, is_some, Option, None, Some, IfSome}
use Rattle.soc_model.specs.declared.TestId.{TestId}
use Rattle.soc_model.specs.Chips.{SocValue, LiveTest, live_tests, id_of, same_test}
use Rattle.soc_model.specs.Lookups.{test_places}
use Rattle.plan_model.specs.Plans.{ProfileValue, LimitsValue, of_first}
use Rattle.limits_text.specs.declared.TheConstants.{BUDGET}
use Rattle.limits_text.specs.declared.items.Amount.TheVariants.{Wires, Power, Budget}
use Rattle.limits_text.specs.Items.{Item, amount_item, before_item, profile_item}

-- limits before any item
abbrev pub no_limits : LimitsValue
no_limits = record { wires = 0; power = None; before = []; budget = BUDGET; profiles = [] }

-- what an item says
abbrev pub says : Item → LimitsValue → LimitsValue
says (amount_item Wires n) l = record l { wires = n }
says (amount_item Power n) l = record l { power = Some n }
says (amount_item Budget n) l = record l { budget = n }
says (before_item line a b) l = record l { before = l.before ++ (a, b) ∷ [] }
says (profile_item line id steps) l = record l { profiles = l.profiles ++ record { test = id; steps = steps } ∷ [] }

-- the limits that items say, where the latest item is first
abbrev pub limits_of : List Item → LimitsValue
limits_of [] = no_limits
limits_of (x ∷ earlier) = says x (limits_of earlier)

-- ---- tests that aren't in the chip

abbrev pub is_known : SocValue → TestId → Bool
is_known soc id = is_some (test_places soc id)

abbrev pub line_if : Bool → ℕ → Option ℕ
line_if true line = Some line
line_if false line = None

-- the line of the item's keyword, where it names a test that isn't in the chip
abbrev pub unknown_line : SocValue → Item → Option ℕ
unknown_line soc (amount_item a n) = None
unknown_line soc (before_item line a b) = line_if (not (is_known soc a && is_known soc b)) line
unknown_line soc (profile_item line id steps) = line_if (not (is_known soc id)) line

abbrev pub or_first : {X : Type 0} → Option X → Option X → Option X
or_first None other = other
or_first (Some x) other = Some x

-- of the first such item, in the order of the text
abbrev pub first_line : SocValue → List Item → Option ℕ
first_line soc [] = None
first_line soc (x ∷ items) = or_first (unknown_line soc x) (first_line soc items)

abbrev pub first_unknown : SocValue → List Item → Option ℕ
first_unknown soc items = first_line soc (reverse items)

-- ---- powers

-- the powers of a test: of the steps of its profile, or its own where it has none
abbrev pub powers_named : List ProfileValue → TestId → (own : ℕ) → List ℕ
powers_named profiles id own =
    of_first (λ (p : ProfileValue). same_test p.test id) (λ p. map (λ (s : ℕ × ℕ). s.1) p.steps) (own ∷ []) profiles

abbrev pub powers_of : List ProfileValue → LiveTest → List ℕ
powers_of profiles l = powers_named profiles (id_of l) l.test.power

-- no live test has a power above the limit
abbrev pub NonePasses : SocValue → LimitsValue → Type 0
NonePasses soc limits = IfSome limits.power (λ most. (n : ℕ) (l : LiveTest) → slice_get (live_tests soc) n ≡ Some l →
    find (nat_lt most) (powers_of limits.profiles l) ≡ None)

-- The first live test that passes the limit: it stands at this place, this is the first of its powers above the limit, and no
-- earlier live test has one.
pub record IsFirstPassing (soc : SocValue) (limits : LimitsValue) (test : TestId) (power : ℕ) : Type 0 where
  pub most : ℕ
  pub limit : limits.power ≡ Some most
  pub place : ℕ
  pub live : LiveTest
  pub there : slice_get (live_tests soc) place ≡ Some live
  pub named : test ≡ id_of live
  pub passes : find (nat_lt most) (powers_of limits.profiles live) ≡ Some power
  pub earlier : (n : ℕ) (l : LiveTest) → n < place → slice_get (live_tests soc) n ≡ Some l →
      find (nat_lt most) (powers_of limits.profiles l) ≡ None
