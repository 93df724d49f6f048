-- Lower bounds of the cycles of every good plan.
use Rattle.std.specs.Prelude.{ℕ, zero, suc, ◌+◌, ◌-◌, ◌*◌, ◌/◌, ◌&&◌, Bool, Option, Some, None, max, map, length, nat_eq, nat_lt, if◌then◌else◌}
use Rattle.std.specs.List.{sum_by, sum, position_or_len, range_with_len}
use Rattle.soc_model.specs.declared.Test.{Test}
use Rattle.soc_model.specs.Chips.{ModuleValue, SocValue, LiveTest, live_tests, id_of}
use Rattle.plan_model.specs.Cells.{scan_lengths}
use Rattle.plan_model.specs.Operations.{ops_of}
use Rattle.plan_model.specs.Plans.{LimitsValue, greatest, smallest, power_of_id}

-- f 0 + .. + f (n - 1)
unfoldable pub sum_below : (ℕ → ℕ) → ℕ → ℕ
sum_below f zero = 0
sum_below f (suc n) = sum_below f n + f n

-- a / b, rounded up
abbrev pub quotient_up : ℕ → ℕ → ℕ
quotient_up a b = (a + (b - 1)) / b

-- no proper wrapper of at most `w` chains has a smaller in-length or out-length
abbrev pub least_length : ModuleValue → Test → (ends w : ℕ) → ℕ
least_length m t ends w =
    let lengths = scan_lengths m t.scan in
    max (greatest lengths) (quotient_up (ends + sum lengths) w)

-- the cycles that a test takes at least on `w` wires
unfoldable pub lower_time : ModuleValue → Test → ℕ → ℕ
lower_time m t w =
    if t.tam then length (ops_of m.setup (least_length m t (m.inputs + m.bidirs) w) (least_length m t (m.outputs + m.bidirs) w) t.patterns)
    else t.patterns

-- the lower time of a live test
abbrev pub lower : ℕ → LiveTest → ℕ
lower w l = lower_time l.core l.test w

-- the sum over those live tests of the chip that pass
abbrev pub sum_where : (LiveTest → Bool) → (LiveTest → ℕ) → SocValue → ℕ
sum_where p f soc = sum_by (λ l. if p l then f l else 0) (live_tests soc)

-- the test is of the module at that place
abbrev pub is_of : ℕ → LiveTest → Bool
is_of place l = nat_eq l.place place

-- ---- what bounds the cycles on `w` wires; modules go by their places

-- the lower times of all live tests of a module: they take turns
abbrev pub module_bound : SocValue → ℕ → ℕ → ℕ
module_bound soc w place = sum_where (is_of place) (lower w) soc

-- a module and its parent take turns
abbrev pub pair_bound : SocValue → ℕ → (parent place : ℕ) → ℕ
pair_bound soc w parent place = module_bound soc w parent + module_bound soc w place

-- the lower times of a module's tests over the wires, together
abbrev pub lower_tam_time : SocValue → ℕ → ℕ → ℕ
lower_tam_time soc place w = sum_where (λ l. l.test.tam && is_of place l) (lower w) soc

-- the least of f 1 .. f n
abbrev pub least_from_one : (ℕ → ℕ) → ℕ → ℕ
least_from_one f n = smallest (map f (range_with_len 1 n))

-- the least area of wires and cycles that the module takes
abbrev pub module_area : SocValue → ℕ → ℕ → ℕ
module_area soc w place = least_from_one (λ v. v * lower_tam_time soc place v) w

-- all areas together lie on the wires
abbrev pub area_bound : SocValue → ℕ → ℕ
area_bound soc w = quotient_up (sum_below (module_area soc w) (length soc.modules)) w

-- what the live tests draw together in their lower times
abbrev pub least_energy : SocValue → LimitsValue → ℕ
least_energy soc limits = sum_by (λ l. sum_below (power_of_id limits (id_of l) l.test.power) (lower limits.wires l)) (live_tests soc)

-- no cycle has more than the limit
abbrev pub power_bound : SocValue → LimitsValue → Option ℕ → ℕ
power_bound soc limits None = 0
power_bound soc limits (Some zero) = 0
power_bound soc limits (Some (suc n)) = quotient_up (least_energy soc limits) (suc n)

-- the first of the widths from 1 to n at which f is less than b, or n + 1 where there is none
abbrev pub first_below : (ℕ → ℕ) → ℕ → ℕ → ℕ
first_below f b n = 1 + position_or_len (λ v. nat_lt (f v) b) (range_with_len 1 n)

-- the least width of a bus on which the module's tests take less than `b` cycles, or w + 1
abbrev pub need : SocValue → ℕ → ℕ → ℕ → ℕ
need soc w b place = first_below (lower_tam_time soc place) b w
