-- What the checker counts, entry by entry. Only its own contracts speak of it.
use Rattle.std.specs.Prelude.{◌≡◌, ℕ, ◌+◌, Bool, true, false, ◌&&◌, ◌||◌, not, nat_eq, nat_lt, Option, None, Some, List, length, if◌then◌else◌}
use Rattle.std.specs.List.{All, list_any}
use Rattle.shift_program.specs.declared.Entry.{Entry}
use Rattle.shift_program.specs.declared.Entry.TheVariants as entry
use Rattle.shift_program.specs.declared.ProgramFault.{ProgramFault}
use Rattle.shift_program.specs.declared.ProgramFault.TheVariants as fault
use Rattle.shift_program.specs.declared.counting.Need.{Need}
use Rattle.shift_program.specs.declared.counting.Passed.{Passed}
use Rattle.shift_program.specs.Programs.{operations}
use Rattle.shift_program.specs.Faults.{Needed, shifts_since, Rests}

abbrev pub needed_by : Need → Needed
needed_by need = record { setup = need.setup; si = need.si; so = need.so; patterns = need.patterns }

-- what was counted of the entries: all operations, the Shifts since the last capture or the beginning, and whether one was no Rest
pub record AreCounted (entries : List Entry) (passed : Passed) : Type 0 where
  pub counted : passed.operations ≡ length (operations entries)
  pub shifts : passed.shifts ≡ shifts_since 0 (operations entries)
  pub resting : passed.acted ≡ false → All Rests entries
  pub acted : passed.acted ≡ true → All Rests entries → ⊥

-- what was passed with one entry more
abbrev pub passed_more : Passed → Entry → Passed
passed_more p (entry.Rest cycles) = record p { operations = p.operations + cycles }
passed_more p (entry.Shift cycles) = record { operations = p.operations + cycles; shifts = p.shifts + cycles; acted = true }
passed_more p (entry.Capture pattern) = record { operations = p.operations + 1; shifts = 0; acted = true }

-- the entry is the first that isn't a Rest, and comes early
abbrev pub starts_early : Need → Passed → Bool
starts_early need p = not p.acted && nat_lt p.operations need.setup

-- the pattern isn't one of the test's, or was captured before
abbrev pub is_wrong : Need → List ℕ → ℕ → Bool
is_wrong need seen k = nat_lt k 1 || (nat_lt need.patterns k || list_any (nat_eq k) seen)

-- there was a capture, and too few Shifts since
abbrev pub unloads_few : Need → List ℕ → Passed → Bool
unloads_few need seen p = nat_lt 0 (length seen) && nat_lt p.shifts need.so

abbrev pub shift_fault : Need → Passed → ℕ → Option ProgramFault
shift_fault need p place = if starts_early need p then Some (fault.Setup place) else None

abbrev pub capture_fault : Need → Passed → List ℕ → ℕ → ℕ → Option ProgramFault
capture_fault need p seen k place =
    if starts_early need p then Some (fault.Setup place)
    else (if is_wrong need seen k then Some (fault.Pattern place)
    else (if nat_lt p.shifts need.si then Some (fault.Load place)
    else (if unloads_few need seen p then Some (fault.Unload place) else None)))

-- the fault at an entry, behind what was passed
abbrev pub entry_fault : Need → Passed → List ℕ → Entry → ℕ → Option ProgramFault
entry_fault need p seen (entry.Rest cycles) place = None
entry_fault need p seen (entry.Shift cycles) place = shift_fault need p place
entry_fault need p seen (entry.Capture k) place = capture_fault need p seen k place

-- the fault at the end
abbrev pub end_fault : Need → Passed → List ℕ → ℕ → Option ProgramFault
end_fault need p seen place =
    if nat_lt (length seen) need.patterns then Some (fault.Missing place)
    else (if unloads_few need seen p then Some (fault.Unload place) else None)
