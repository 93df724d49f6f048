-- Reading word by word: the items that were read, and what was read of the next.
use Rattle.std.specs.Prelude.{ℕ, ◌&&◌, ◌++◌, List, [], ◌∷◌, Bool, true, false, not, nat_eq, nat_lt, nat_le, length, Option, None, Some}
use Rattle.soc_model.specs.declared.TestId.{TestId}
use Rattle.soc_model.specs.declared.TheConstants.{POWER_MOST}
use Rattle.plan_model.specs.declared.TheConstants.{STEPS_MOST}
use Rattle.limits_text.specs.declared.items.Amount.{Amount}
use Rattle.limits_text.specs.declared.items.Amount.TheVariants.{Wires}
use Rattle.limits_text.specs.declared.items.Key.{Key}
use Rattle.limits_text.specs.declared.items.Key.TheVariants.{One, Before, Profile}
use Rattle.limits_text.specs.declared.items.Naming.{Naming}
use Rattle.limits_text.specs.declared.items.Naming.TheVariants.{First, Second, Profiled}
use Rattle.outside.specs.Runs.{step_after, run_by}
use Rattle.outside.specs.Words.{Word}
use Rattle.limits_text.specs.Items.{number, is_title, key_of, Item, amount_item, before_item, profile_item, is_in_range, has_amount, has_profile}

-- what was read of an unfinished item, or of the two words before the items
pub data Part : Type 0 where
  title : Part
  version : Part
  between : Part
  wants : Amount → Part
  module_for : Naming → Part
  test_for : Naming → ℕ → Part
  steps_for : ℕ → TestId → List (ℕ × ℕ) → Part
  power_for : ℕ → TestId → List (ℕ × ℕ) → ℕ → Part

pub record State : Type 0 where
  pub form : Bool
  pub done : List Item
  pub part : Part

abbrev pub start : State
start = record { form = false; done = []; part = title }

abbrev pub at : Bool → List Item → Part → Option State
at form done part = Some (record { form = form; done = done; part = part })

abbrev pub at_if : Bool → Option State → Option State
at_if true s = s
at_if false s = None

-- the first number of the last of these steps
abbrev pub last_from : ℕ → List (ℕ × ℕ) → ℕ
last_from from [] = from
last_from from (s ∷ steps) = last_from s.0 steps

-- a step from here may follow these steps
abbrev pub may_follow : List (ℕ × ℕ) → ℕ → Bool
may_follow [] from = nat_eq from 0
may_follow (s ∷ steps) from = nat_lt (last_from s.0 steps) from && nat_lt (length (s ∷ steps)) STEPS_MOST

abbrev pub begin_by : Bool → List Item → ℕ → Option Key → Option State
begin_by form done line None = None
begin_by form done line (Some (One a)) = at_if (not (has_amount a done)) (at form done (wants a))
begin_by form done line (Some Before) = at form done (module_for (First line))
begin_by form done line (Some Profile) = at_if form (at form done (module_for (Profiled line)))

-- the first word of an item
abbrev pub begin : Bool → List Item → Word → Option State
begin form done w = begin_by form done w.1 (key_of w.0)

abbrev pub after_title : Bool → List Item → Bool → Option State
after_title form done b = at_if b (at form done version)

abbrev pub after_version : List Item → Option ℕ → Option State
after_version done None = None
after_version done (Some n) = at_if (nat_le 1 n && nat_le n 2) (at (nat_eq n 2) done between)

abbrev pub after_amount : Bool → List Item → Amount → Option ℕ → Option State
after_amount form done a None = None
after_amount form done a (Some n) = at_if (is_in_range a n) (at form (amount_item a n ∷ done) between)

abbrev pub after_module : Bool → List Item → Naming → Option ℕ → Option State
after_module form done n None = None
after_module form done n (Some m) = at form done (test_for n m)

abbrev pub named : Bool → List Item → Naming → TestId → Option State
named form done (First line) id = at form done (module_for (Second line id))
named form done (Second line a) id = at form (before_item line a id ∷ done) between
named form done (Profiled line) id = at_if (not (has_profile id done)) (at form done (steps_for line id []))

abbrev pub after_test : Bool → List Item → Naming → ℕ → Option ℕ → Option State
after_test form done n m None = None
after_test form done n m (Some t) = named form done n (record { «module» = m; test = t })

-- after a word that is no number: an item begins, where the profile has a step
abbrev pub end_profile : Bool → List Item → ℕ → TestId → List (ℕ × ℕ) → Word → Option State
end_profile form done line id [] w = None
end_profile form done line id (s ∷ steps) w = begin form (profile_item line id (s ∷ steps) ∷ done) w

abbrev pub after_step : Bool → List Item → ℕ → TestId → List (ℕ × ℕ) → Word → Option ℕ → Option State
after_step form done line id steps w None = end_profile form done line id steps w
after_step form done line id steps w (Some n) = at_if (may_follow steps n) (at form done (power_for line id steps n))

abbrev pub after_power : Bool → List Item → ℕ → TestId → List (ℕ × ℕ) → ℕ → Option ℕ → Option State
after_power form done line id steps from None = None
after_power form done line id steps from (Some p) = at_if (nat_le p POWER_MOST) (at form done (steps_for line id (steps ++ (from, p) ∷ [])))

abbrev pub step_at : Bool → List Item → Part → Word → Option State
step_at form done title w = after_title form done (is_title w.0)
step_at form done version w = after_version done (number w.0)
step_at form done between w = begin form done w
step_at form done (wants a) w = after_amount form done a (number w.0)
step_at form done (module_for n) w = after_module form done n (number w.0)
step_at form done (test_for n m) w = after_test form done n m (number w.0)
step_at form done (steps_for line id steps) w = after_step form done line id steps w (number w.0)
step_at form done (power_for line id steps from) w = after_power form done line id steps from (number w.0)

abbrev pub step : State → Word → Option State
step s w = step_at s.form s.done s.part w

abbrev pub step_from : Option State → Word → Option State
step_from s w = step_after step s w

abbrev pub run : Option State → List Word → Option State
run s ws = run_by step s ws

-- the items, where the last of them may end here
abbrev pub ended_at : List Item → Part → Option (List Item)
ended_at done between = Some done
ended_at done (steps_for line id (s ∷ steps)) = Some (profile_item line id (s ∷ steps) ∷ done)
ended_at done part = None

abbrev pub ended : State → Option (List Item)
ended s = ended_at s.done s.part

abbrev pub whole_if : Bool → List Item → Option (List Item)
whole_if true items = Some items
whole_if false items = None

abbrev pub whole_of : Option (List Item) → Option (List Item)
whole_of None = None
whole_of (Some items) = whole_if (has_amount Wires items) items

-- the items, where the text may end here: wires are given
abbrev pub closed : State → Option (List Item)
closed s = whole_of (ended s)
