-- How the tests of a chip are cut into parts, each of a run of patterns.
use Rattle.std.specs.Prelude.{ℕ, ◌+◌, ◌-◌, ◌*◌, Option, List, [], ◌∷◌, map, min, nat_le, if◌then◌else◌}
use Rattle.std.specs.Int.{div_ceil}
use Rattle.std.specs.List.{filter, find, flat_map, range_with_len}
use Rattle.soc_model.specs.declared.Test.{Test}
use Rattle.soc_model.specs.declared.TestId.{TestId}
use Rattle.soc_model.specs.Chips.{ModuleValue, SocValue, is_live, same_test}
use Rattle.soc_model.specs.Modes.{is_tam}
use Rattle.plan_model.specs.Plans.{LimitsValue, ProfileValue, greatest, of_first}
use Rattle.split_plan.specs.declared.Part.{Part}
use Rattle.split_plan.specs.declared.cuts.Cut.{Cut}

-- the parts of a test: of at most `most` patterns where it is live and goes over the wires, else one
abbrev pub part_count : (most : ℕ) → Test → ℕ
part_count most t = if is_tam t then div_ceil t.patterns most else 1

-- the patterns of each part but the last
abbrev pub part_size : (most : ℕ) → Test → ℕ
part_size most t = if is_tam t then most else t.patterns

-- the most that a test draws: the greatest power of its profile, its own where it has none
abbrev pub peak : LimitsValue → TestId → (own : ℕ) → ℕ
peak limits id own =
    of_first (λ (p : ProfileValue). same_test id p.test) (λ p. greatest (map (λ (s : ℕ × ℕ). s.1) p.steps)) own limits.profiles

-- the power of each part: a test of one part keeps its own
abbrev pub part_power : LimitsValue → TestId → Test → (count : ℕ) → ℕ
part_power limits id t count = if nat_le count 1 then t.power else peak limits id t.power

-- a test of a module and its parts, the first of which has that number
abbrev pub cut_of : LimitsValue → (most home number : ℕ) → Test → Cut
cut_of limits most home number t = record {
  whole = record { «module» = home; test = t.number };
  test = t;
  number = number;
  count = part_count most t;
  size = part_size most t;
  power = part_power limits (record { «module» = home; test = t.number }) t (part_count most t);
}

-- the tests of a module and their parts, which are numbered one after another
abbrev pub cuts_from : LimitsValue → (most home number : ℕ) → List Test → List Cut
cuts_from limits most home number [] = []
cuts_from limits most home number (t ∷ ts) = cut_of limits most home number t ∷ cuts_from limits most home (number + part_count most t) ts

-- parts are numbered from 1 in each module
abbrev pub cuts_in : LimitsValue → (most : ℕ) → ModuleValue → List Cut
cuts_in limits most m = cuts_from limits most m.number 1 m.tests

-- all tests of the chip and their parts, in the order of the chip
abbrev pub all_cuts : LimitsValue → (most : ℕ) → SocValue → List Cut
all_cuts limits most soc = flat_map (cuts_in limits most) soc.modules

-- those of live tests
abbrev pub live_cuts : List Cut → List Cut
live_cuts cuts = filter (λ (c : Cut). is_live c.test) cuts

-- the cut test of that name
abbrev pub cut_named : List Cut → TestId → Option Cut
cut_named cuts id = find (λ (c : Cut). same_test id c.whole) cuts

-- ---- parts by their places, from 0, among the parts of their test

-- the parts of these tests, each by its test and its place
abbrev pub pieces_of : Cut → List (Cut × ℕ)
pieces_of c = map (λ (k : ℕ). (c, k)) (range_with_len 0 c.count)

abbrev pub pieces : List Cut → List (Cut × ℕ)
pieces cuts = flat_map pieces_of cuts

-- the name of a part
abbrev pub part_id : Cut → ℕ → TestId
part_id c k = record { «module» = c.whole.module; test = c.number + k }

-- how many patterns a part has: of those that are left as many as a part has
abbrev pub patterns_of : Cut → ℕ → ℕ
patterns_of c k = min c.size (c.test.patterns - k * c.size)

-- the test that a part is
abbrev pub part_test : Cut × ℕ → Test
part_test e =
    record { number = e.0.number + e.1; scan = e.0.test.scan; tam = e.0.test.tam; patterns = patterns_of e.0 e.1; power = e.0.power }

-- the patterns of a part, from the first to the last, counted from 1
abbrev pub part_at : Cut × ℕ → Part
part_at e = record {
  whole = e.0.whole;
  first = e.1 * e.0.size + 1;
  last = e.1 * e.0.size + patterns_of e.0 e.1;
  part = part_id e.0 e.1;
}
