-- The lines of modules, one after another.
use Rattle.std.proofs.Common.{◌≡◌, ℕ, zero, suc, ◌+◌, ◌≤◌, Bool, true, false, Some, List, [], ◌∷◌, ◌++◌, drop, refl, sym, ap, ◌∙◌, append_assoc, arith, slice_get, slice_index, if◌then◌else◌, sum_by}
use Rattle.std.proofs.Math.Path.{fun_ext}
use Rattle.soc_model.specs.Chips.{ModuleValue}
use Rattle.soc_model.specs.Modes.{has_tam}
use Rattle.plan_model.specs.Plans.{PlanValue, bus_place, widths}
use Rattle.plan_model.proofs.Sums.{sum_by-le_at}
use Rattle.live_tests.specs.declared.placed.PlacedTest.{PlacedTest}
use Rattle.width_table.specs.Times.{time}
use Rattle.width_table.specs.Tables.{TableValue, time_of}
use Rattle.report.specs.Totals.{cycles_of}
use Rattle.report.specs.ModuleLines.{is_wired_of, line_if_wired, module_lines, module_text, wired_cycles}

-- the tests of one module take no more than all
pub wired-le : (tests : List PlacedTest) (place : ℕ) → wired_cycles tests place ≤ sum_by cycles_of tests
wired-le tests place = sum_by-le_at (λ (t : PlacedTest). if is_wired_of place t then cycles_of t else 0) cycles_of tests (λ i t at. part (is_wired_of place t) (cycles_of t)) where
  part : (b : Bool) (n : ℕ) → (if b then n else 0) ≤ n
  part true n = omega arith
  part false n = omega arith

-- the times of the module at a place
time_there : (table : TableValue) (place : ℕ) (m : ModuleValue) → slice_get table.soc.modules place ≡ Some m → (w : ℕ) → time_of table place w ≡ time m w
unfolding time_of
time_there table place m there w = rw there refl

pub times_are : (table : TableValue) (place : ℕ) (m : ModuleValue) → slice_get table.soc.modules place ≡ Some m → time_of table place ≡ time m
times_are table place m there = fun_ext (time_there table place m there)

-- the line of a module that has a test over the wires
pub wired_line : (wires : ℕ) (plan : PlanValue) (tests : List PlacedTest) (place : ℕ) (m : ModuleValue) (ws : List ℕ) (bus width taken : ℕ) (f : ℕ → ℕ) → has_tam m ≡ true → bus ≡ bus_place m.number 0 plan.buses → ws ≡ widths plan → width ≡ slice_index ws bus → taken ≡ wired_cycles tests place → f ≡ time m →
    module_text m.number bus width wires taken f ≡ line_if_wired wires plan tests place m
unfolding line_if_wired
wired_line wires plan tests place m ws bus width taken f has bus_is ws_are width_is taken_is f_is =
    ap (λ (k : ℕ). module_text m.number bus k wires taken f) width_is
    ∙ ap (λ (l : List ℕ). module_text m.number bus (slice_index l bus) wires taken f) ws_are
    ∙ ap (λ (b : ℕ). module_text m.number b (slice_index (widths plan) b) wires taken f) bus_is
    ∙ ap (λ (k : ℕ). module_text m.number (bus_place m.number 0 plan.buses) (slice_index (widths plan) (bus_place m.number 0 plan.buses)) wires k f) taken_is
    ∙ ap (λ (g : ℕ → ℕ). module_text m.number (bus_place m.number 0 plan.buses) (slice_index (widths plan) (bus_place m.number 0 plan.buses)) wires (wired_cycles tests place) g) f_is
    ∙ rw has refl

-- and of one that has none
pub no_line : (wires : ℕ) (plan : PlanValue) (tests : List PlacedTest) (place : ℕ) (m : ModuleValue) → has_tam m ≡ false → line_if_wired wires plan tests place m ≡ []
unfolding line_if_wired
no_line wires plan tests place m none = rw none refl

-- an item and those behind it
drop_at_item : {X : Type 0} (xs : List X) (i : ℕ) (x : X) → slice_get xs i ≡ Some x → drop i xs ≡ x ∷ drop (i + 1) xs
drop_at_item [] i x at = absurd cc
drop_at_item (y ∷ xs) zero x at = let same : y ≡ x = cc in ap (λ v. v ∷ xs) same
drop_at_item (y ∷ xs) (suc i) x at =
    let e : suc i + 1 ≡ suc (i + 1) = omega arith in
    drop_at_item xs i x at ∙ ap (λ n. x ∷ drop n (y ∷ xs)) (sym e)

pub lines_more : (wires : ℕ) (plan : PlanValue) (tests : List PlacedTest) (ms : List ModuleValue) (place : ℕ) (m : ModuleValue) (old new whole : List ℕ) → slice_get ms place ≡ Some m → new ≡ old ++ line_if_wired wires plan tests place m →
    old ++ module_lines wires plan tests place (drop place ms) ≡ whole → new ++ module_lines wires plan tests (place + 1) (drop (place + 1) ms) ≡ whole
lines_more wires plan tests ms place m old new whole at line so_far =
    ap (λ (l : List ℕ). l ++ module_lines wires plan tests (place + 1) (drop (place + 1) ms)) line
    ∙ append_assoc old (line_if_wired wires plan tests place m) (module_lines wires plan tests (place + 1) (drop (place + 1) ms))
    ∙ ap (λ (l : List ModuleValue). old ++ module_lines wires plan tests place l) (sym (drop_at_item ms place m at)) ∙ so_far
