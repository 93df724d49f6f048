-- The text of a value change dump: its definitions, and the values that change at a cycle.
use Rattle.std.specs.Prelude.{ℕ, ◌+◌, ◌*◌, Bool, true, not, Option, None, Some, List, [], ◌∷◌, ◌++◌, length, nat_eq, slice_index, codes, decimal, if◌then◌else◌}
use Rattle.std.specs.List.{flat_map}
use Rattle.soc_model.specs.Chips.{SocValue}
use Rattle.plan_model.specs.Plans.{PlanValue}
use Rattle.cycle_texts.specs.Rows.{CycleRow}
use Rattle.tester_forms.specs.Variables.{Source, OfDriven, OfCompared, OfControl, Variable, Scope, scopes_of, sources_of}

-- ---- definitions

abbrev pub scope_line : (name : List ℕ) → List ℕ
scope_line name = codes "$scope module " ++ (name ++ codes " $end\n")

abbrev pub up_line : List ℕ
up_line = codes "$upscope $end\n"

-- the variable of a number
abbrev pub variable_line : (number : ℕ) → (name : List ℕ) → List ℕ
variable_line n name = codes "$var wire 1 s" ++ (decimal n ++ (codes " " ++ (name ++ codes " $end\n")))

-- variables, of which the first has this number
abbrev pub variable_lines : (number : ℕ) → List Variable → List ℕ
variable_lines n [] = []
variable_lines n (v ∷ vs) = variable_line n v.name ++ variable_lines (n + 1) vs

-- scopes, whose first variable has this number
abbrev pub scope_lines : (number : ℕ) → List Scope → List ℕ
scope_lines n [] = []
scope_lines n (s ∷ ss) = scope_line s.name ++ (variable_lines n s.variables ++ (up_line ++ scope_lines (n + length s.variables) ss))

-- all that stands before the first cycle
abbrev pub definitions : List Scope → List ℕ
definitions scopes =
    codes "$timescale 10 ns $end\n"
    ++ (scope_line (codes "soc") ++ (scope_lines 0 scopes ++ (up_line ++ codes "$enddefinitions $end\n")))

-- ---- values

-- `x` for `-`, where nothing is compared
abbrev pub shown_mark : ℕ → ℕ
shown_mark mark = if nat_eq mark 45 then 120 else mark

-- what a variable shows
abbrev pub value_of : CycleRow → Source → ℕ
value_of row (OfDriven w) = slice_index row.driven w
value_of row (OfCompared w) = shown_mark (slice_index row.compared w)
value_of row (OfControl p) = slice_index row.controls p

-- it shows something else than at the cycle before
abbrev pub has_changed : (before row : CycleRow) → Source → Bool
has_changed before row s = not (nat_eq (value_of before s) (value_of row s))

-- the variable of a number shows a value
pub record Change : Type 0 where
  pub number : ℕ
  pub value : ℕ

-- what the variables that pass show, of which the first has this number
abbrev pub changes : (passes : Source → Bool) → CycleRow → (number : ℕ) → List Source → List Change
changes p row n [] = []
changes p row n (s ∷ ss) = (if p s then record { number = n; value = value_of row s } ∷ [] else []) ++ changes p row (n + 1) ss

-- those of a cycle: all at the first one
abbrev pub changes_at : Option CycleRow → CycleRow → List Source → List Change
changes_at None row sources = changes (λ s. true) row 0 sources
changes_at (Some before) row sources = changes (has_changed before row) row 0 sources

-- the value, and the variable's code
abbrev pub change_line : Change → List ℕ
change_line c = c.value ∷ (codes "s" ++ (decimal c.number ++ codes "\n"))

abbrev pub time_line : (cycle : ℕ) → List ℕ
time_line c = codes "#" ++ (decimal (10 * c) ++ codes "\n")

-- behind the line of their time, where there are any
abbrev pub timed : (cycle : ℕ) → List Change → List ℕ
timed c [] = []
timed c (x ∷ xs) = time_line c ++ flat_map change_line (x ∷ xs)

-- the part of a cycle
abbrev pub part_text : List Source → (cycle : ℕ) → (before : Option CycleRow) → CycleRow → List ℕ
part_text sources c None row = time_line c ++ flat_map change_line (changes_at None row sources)
part_text sources c (Some before) row = timed c (changes_at (Some before) row sources)

-- ---- of a plan

abbrev pub dump_head : SocValue → PlanValue → List ℕ
dump_head soc plan = definitions (scopes_of soc plan)

abbrev pub dump_part : SocValue → PlanValue → (cycle : ℕ) → (before : Option CycleRow) → CycleRow → List ℕ
dump_part soc plan = part_text (sources_of (scopes_of soc plan))

-- the time at which the last cycle ends
abbrev pub dump_tail : PlanValue → List ℕ
dump_tail plan = time_line plan.cycles
