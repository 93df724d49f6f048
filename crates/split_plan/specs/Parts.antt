-- The chip of parts, the list of parts and the limits of the parts.
use Rattle.std.specs.Prelude.{ℕ, ◌+◌, ◌-◌, ◌&&◌, Option, None, Some, List, [], ◌∷◌, ◌++◌, map, nat_le, if◌then◌else◌}
use Rattle.std.specs.List.{flat_map, range_with_len}
use Rattle.soc_model.specs.declared.TestId.{TestId}
use Rattle.soc_model.specs.Chips.{ModuleValue, SocValue, is_live, soc_value}
use Rattle.plan_model.specs.Plans.{LimitsValue, ProfileValue}
use Rattle.plan_model.specs.Views.{limits_value}
use Rattle.split_plan.specs.declared.Part.{Part}
use Rattle.split_plan.specs.declared.Split.{Split}
use Rattle.split_plan.specs.declared.cuts.Cut.{Cut}
use Rattle.split_plan.specs.Cuts.{cuts_in, all_cuts, live_cuts, cut_named, pieces, part_id, part_test, part_at}

-- a chip of parts, its limits and the list of parts
pub record SplitValue : Type 0 where
  pub soc : SocValue
  pub limits : LimitsValue
  pub parts : List Part

abbrev pub split_value : Split → SplitValue
split_value s = record { soc = soc_value s.soc; limits = limits_value s.limits; parts = s.parts.items }

-- ---- the chip of parts

-- a module, with the parts of its tests in their place
abbrev pub split_module : LimitsValue → (most : ℕ) → ModuleValue → ModuleValue
split_module limits most m = record m { tests = map part_test (pieces (cuts_in limits most m)) }

abbrev pub split_chip : LimitsValue → (most : ℕ) → SocValue → SocValue
split_chip limits most soc = record soc { modules = map (split_module limits most) soc.modules }

-- ---- the list of parts

-- the parts of live tests, in the order of the chip
abbrev pub split_parts : LimitsValue → (most : ℕ) → SocValue → List Part
split_parts limits most soc = map part_at (pieces (live_cuts (all_cuts limits most soc)))

-- ---- the limits of the parts

-- each part before the next part of its test
abbrev pub chain : Cut → List (TestId × TestId)
chain c = map (λ (k : ℕ). (part_id c k, part_id c (k + 1))) (range_with_len 0 (c.count - 1))

-- the last part of a live test before the first part of another
abbrev pub joined : Option Cut → Option Cut → List (TestId × TestId)
joined (Some a) (Some b) = if is_live a.test && is_live b.test then (part_id a (a.count - 1), part_id b 0) ∷ [] else []
joined (Some a) None = []
joined None b = []

-- a test of one part keeps its profile under its new number, one that is cut loses it
abbrev pub kept_profile : Option Cut → ProfileValue → List ProfileValue
kept_profile (Some c) p = if nat_le c.count 1 then record { test = part_id c 0; steps = p.steps } ∷ [] else []
kept_profile None p = []

abbrev pub precedences_of : List Cut → List (TestId × TestId) → List (TestId × TestId)
precedences_of cuts before =
    flat_map chain cuts ++ flat_map (λ (p : TestId × TestId). joined (cut_named cuts p.0) (cut_named cuts p.1)) before

abbrev pub profiles_of : List Cut → List ProfileValue → List ProfileValue
profiles_of cuts profiles = flat_map (λ (p : ProfileValue). kept_profile (cut_named cuts p.test) p) profiles

-- wires, power and budget stay
abbrev pub split_limits : LimitsValue → (most : ℕ) → SocValue → LimitsValue
split_limits limits most soc = record limits {
  before = precedences_of (all_cuts limits most soc) limits.before;
  profiles = profiles_of (all_cuts limits most soc) limits.profiles;
}

-- all three
abbrev pub split_of : SocValue → LimitsValue → (most : ℕ) → SplitValue
split_of soc limits most =
    record { soc = split_chip limits most soc; limits = split_limits limits most soc; parts = split_parts limits most soc }
