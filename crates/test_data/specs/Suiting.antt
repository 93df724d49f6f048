-- Which test data suits a chip, and what shows first that data doesn't.
use Rattle.std.specs.Prelude.{ℕ, ◌+◌, List, [], ◌∷◌, ◌++◌, Bool, ◌&&◌, not, nat_eq, length, map, find, Option, None, Some, option_map, is_some, slice_get, if◌then◌else◌}
use Rattle.std.specs.List.{flat_map, filter, list_any}
use Rattle.soc_model.specs.declared.Test.{Test}
use Rattle.soc_model.specs.declared.TestId.{TestId}
use Rattle.soc_model.specs.Chips.{ModuleValue, SocValue, same_test}
use Rattle.soc_model.specs.Lookups.{test_places}
use Rattle.soc_model.specs.Modes.{is_tam}
use Rattle.plan_model.specs.Cells.{stimulus_cells, response_cells}
use Rattle.test_data.specs.declared.Misfit.{Misfit}
use Rattle.test_data.specs.declared.Misfit.TheVariants as misfit
use Rattle.test_data.specs.declared.misfits.Wanted.{Wanted}
use Rattle.test_data.specs.DataWords.{PatternValue, EntryValue}

-- ---- what a chip wants of data

-- of a test: its patterns, the bits of its stimulus, and those of its response
abbrev pub wanted_for : ModuleValue → Test → Wanted
wanted_for m t = record {
  patterns = t.patterns;
  load = length (stimulus_cells m t.scan);
  unload = length (response_cells m t.scan);
}

abbrev pub tam_only : ModuleValue → Option Test → Option Wanted
tam_only m None = None
tam_only m (Some t) = if is_tam t then Some (wanted_for m t) else None

abbrev pub test_in : Option ModuleValue → ℕ → Option Wanted
test_in None at = None
test_in (Some m) at = tam_only m (slice_get m.tests at)

abbrev pub test_at : SocValue → Option (ℕ × ℕ) → Option Wanted
test_at soc None = None
test_at soc (Some at) = test_in (slice_get soc.modules at.0) at.1

-- of the live test over the wires of a name, where the chip has one
unfoldable pub wanted_by : SocValue → TestId → Option Wanted
wanted_by soc id = test_at soc (test_places soc id)

-- the names of the live tests over the wires, in the order of the chip
abbrev pub name_in : ModuleValue → Test → TestId
name_in m t = record { «module» = m.number; test = t.number }

abbrev pub tam_names_in : ModuleValue → List TestId
tam_names_in m = map (name_in m) (filter is_tam m.tests)

abbrev pub tam_names : SocValue → List TestId
tam_names soc = flat_map tam_names_in soc.modules

-- ---- the rule of names: each entry has the name of a live test over the wires, no two have one name, and each such test has an entry

-- the names of entries
abbrev pub entry_names : List EntryValue → List TestId
entry_names es = map (λ (e : EntryValue). e.test) es

-- it is one of the names
abbrev pub has_name : List TestId → TestId → Bool
has_name names id = list_any (same_test id) names

-- the first of the names behind others that is of no such test, or that stands before it already
abbrev pub misnamed_after : SocValue → (before names : List TestId) → Option TestId
misnamed_after soc before [] = None
misnamed_after soc before (id ∷ ids) =
    if is_some (wanted_by soc id) && not (has_name before id) then misnamed_after soc (before ++ id ∷ []) ids else Some id

abbrev pub first_misnamed : SocValue → List TestId → Option TestId
first_misnamed soc names = misnamed_after soc [] names

-- the first such test of the chip that no name is of
abbrev pub first_missing : SocValue → List TestId → Option TestId
first_missing soc names = find (λ id. not (has_name names id)) (tam_names soc)

-- ---- the rule of patterns: each entry has as many as its test

abbrev pub patterns_against : EntryValue → Option Wanted → Option Misfit
patterns_against e None = None
patterns_against e (Some w) = if nat_eq (length e.patterns) w.patterns then None else Some (misfit.Patterns e.test w.patterns)

abbrev pub wrong_patterns : SocValue → EntryValue → Option Misfit
wrong_patterns soc e = patterns_against e (wanted_by soc e.test)

-- ---- the rule of bits: each load word has as many as the stimulus of its test, each unload word as many as the response

-- the first word of patterns that hasn't, where the first of these patterns has a number
abbrev pub wrong_word : TestId → Wanted → (number : ℕ) → List PatternValue → Option Misfit
wrong_word id w k [] = None
wrong_word id w k (p ∷ ps) =
    if nat_eq (length p.load) w.load
    then (if nat_eq (length p.unload) w.unload then wrong_word id w (k + 1) ps else Some (misfit.Unload id k w.unload))
    else Some (misfit.Load id k w.load)

abbrev pub bits_against : EntryValue → Option Wanted → Option Misfit
bits_against e None = None
bits_against e (Some w) = wrong_word e.test w 1 e.patterns

abbrev pub wrong_bits : SocValue → EntryValue → Option Misfit
wrong_bits soc e = bits_against e (wanted_by soc e.test)

-- ---- the first rule that fails

-- the first misfit, or else the other
abbrev pub or_else : Option Misfit → Option Misfit → Option Misfit
or_else None other = other
or_else (Some m) other = Some m

-- of the first entry that has one
abbrev pub first_of : (EntryValue → Option Misfit) → List EntryValue → Option Misfit
first_of f [] = None
first_of f (e ∷ es) = or_else (f e) (first_of f es)

abbrev pub misnaming : Option TestId → Option Misfit
misnaming name = option_map (λ id. misfit.Test id) name

-- what shows first that the entries don't suit the chip: by names, then by patterns, then by bits
abbrev pub misfit_of : SocValue → List EntryValue → Option Misfit
misfit_of soc es =
    or_else (misnaming (first_misnamed soc (entry_names es)))
    (or_else (misnaming (first_missing soc (entry_names es))) (or_else (first_of (wrong_patterns soc) es) (first_of (wrong_bits soc) es)))
