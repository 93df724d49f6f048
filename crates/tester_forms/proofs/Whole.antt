-- The definitions as a whole: their text, what their variables show, and how many these are.
use Rattle.std.proofs.Common.{◌≡◌, ℕ, zero, suc, ◌+◌, ◌*◌, ◌≤◌, ◌<◌, Bool, true, false, List, [], ◌∷◌, ◌++◌, length, get_or, cond, sum, codes, refl, sym, ap, subst, ◌∙◌, arith, append_assoc}
use Rattle.std.specs.List.{filter, flat_map, range_with_len, sum_by}
use Rattle.std.proofs.lemmas.List.{length-append, length-map, map-append}
use Rattle.std.proofs.lemmas.List.Concat.{flat_map-append}
use Rattle.std.proofs.lemmas.List.Sums.{sum-map, sum_by-cons}
use Rattle.soc_model.specs.declared.Test.{Test}
use Rattle.soc_model.specs.Chips.{ModuleValue, SocValue, id_of, live_tests}
use Rattle.soc_model.specs.Modes.{has_tam}
use Rattle.soc_model.specs.SoundChips.{IsSoundChip}
use Rattle.soc_model.proofs.Limits.{modules-le}
use Rattle.plan_model.specs.Plans.{BusValue, PlanValue, widths}
use Rattle.plan_model.specs.Rules.{live_ids}
use Rattle.live_tests.proofs.HowMany.{live_tests-le}
use Rattle.controls.specs.Controls.{tam_numbers}
use Rattle.tester_forms.specs.declared.vcd_definitions.Listing.{Listing}
use Rattle.tester_forms.specs.Dumps.{definitions, scope_line, scope_lines, up_line}
use Rattle.tester_forms.specs.Forms.{control_sources, form_sources, sources_of_wire, wire_sources}
use Rattle.tester_forms.specs.Listings.{number_of, AreListed}
use Rattle.tester_forms.specs.Variables.{Source, OfDriven, OfCompared, OfControl, Variable, Scope, bus_scopes, live_of_module, module_scope, module_scopes, one_if, run_variables, scope_of_module, sources_in, sources_of, wire_variables, wired_variables}
use Rattle.tester_forms.proofs.Listed.{scope_lines-append, lives-length, tams-length}
use Rattle.common_lemmas.proofs.Ranges.{range_split}

-- ---- what the variables of wires show

wire_sources_in : (a n : ℕ) → sources_in (flat_map wire_variables (range_with_len a n)) ≡ flat_map sources_of_wire (range_with_len a n)
wire_sources_in a zero = refl
wire_sources_in a (suc n) = ap (λ t. OfDriven a ∷ OfCompared a ∷ t) (wire_sources_in (a + 1) n)

bus_sources : (place first : ℕ) (bs : List BusValue) → sources_of (bus_scopes place first bs) ≡ flat_map sources_of_wire (range_with_len first (sum_by (λ (b : BusValue). b.width) bs))
bus_sources place first [] = refl
bus_sources place first (b ∷ bs) =
    let rest = sum_by (λ (b : BusValue). b.width) bs in
    ap (λ t. t ++ sources_of (bus_scopes (place + 1) (first + b.width) bs)) (wire_sources_in first b.width)
    ∙ ap (λ t. flat_map sources_of_wire (range_with_len first b.width) ++ t) (bus_sources (place + 1) (first + b.width) bs)
    ∙ sym (flat_map-append sources_of_wire (range_with_len first b.width) (range_with_len (first + b.width) rest))
    ∙ ap (flat_map sources_of_wire) (sym (range_split first b.width rest))
    ∙ ap (λ k. flat_map sources_of_wire (range_with_len first k)) (sym (sum_by-cons (λ (b : BusValue). b.width) b bs))

pub bus_sources-all : (plan : PlanValue) (wires : ℕ) → wires ≡ sum (widths plan) → sources_of (bus_scopes 0 0 plan.buses) ≡ wire_sources wires
bus_sources-all plan wires is =
    let e : sum_by (λ (b : BusValue). b.width) plan.buses ≡ wires = sym (sum-map (λ (b : BusValue). b.width) plan.buses) ∙ sym is in
    bus_sources 0 0 plan.buses ∙ ap (λ k. flat_map sources_of_wire (range_with_len 0 k)) e

pub whole_sources : (plan : PlanValue) (wires : ℕ) (places : List ℕ) (scopes : List Scope) → wires ≡ sum (widths plan) → control_sources places ≡ sources_of scopes → form_sources wires places ≡ sources_of (bus_scopes 0 0 plan.buses ++ scopes)
whole_sources plan wires places scopes is places_are =
    ap (λ t. wire_sources wires ++ t) places_are
    ∙ ap (λ t. t ++ sources_of scopes) (sym (bus_sources-all plan wires is))
    ∙ sym (flat_map-append (λ (s : Scope). sources_in s.variables) (bus_scopes 0 0 plan.buses) scopes)

-- ---- the text

six : (a b c d e f : List ℕ) → (((((a ++ b) ++ c) ++ d) ++ e) ++ f) ≡ a ++ (b ++ ((c ++ d) ++ (e ++ f)))
six a b c d e f = simp append_assoc

pub definitions_text : (before after : Listing) (t0 t1 t2 u v : List ℕ) (buses modules : List Scope) → t0 ≡ [] → t1 ≡ t0 ++ codes "$timescale 10 ns $end\n" → t2 ≡ t1 ++ scope_line (codes "soc") → before.text.items ≡ t2 ++ scope_lines 0 buses →
    number_of before ≡ length (sources_of buses) → AreListed before after modules → u ≡ after.text.items ++ up_line → v ≡ u ++ codes "$enddefinitions $end\n" → v ≡ definitions (buses ++ modules)
definitions_text before after t0 t1 t2 u v buses modules none first second third number listed fourth fifth =
    let zeroth : 0 + length (sources_of buses) ≡ number_of before = omega (arith, number) in
    let a = codes "$timescale 10 ns $end\n" in
    let b = scope_line (codes "soc") in
    let c = scope_lines 0 buses in
    let d = scope_lines (number_of before) modules in
    let f = codes "$enddefinitions $end\n" in
    fifth ∙ ap (λ t. t ++ f) (fourth ∙ ap (λ t. t ++ up_line) (listed.text ∙ ap (λ t. t ++ d) (third ∙ ap (λ t. t ++ c) (second ∙ ap (λ t. t ++ b) (first ∙ ap (λ t. t ++ a) none)))))
    ∙ six a b c d up_line f
    ∙ ap (λ t. a ++ (b ++ (t ++ (up_line ++ f)))) (ap (λ k. c ++ scope_lines k modules) (sym zeroth) ∙ sym (scope_lines-append 0 buses modules))

-- ---- where the controls are

abbrev IsBelow : ℕ → Source → Type 0
IsBelow n (OfDriven w) = Unit {0}
IsBelow n (OfCompared w) = Unit {0}
IsBelow n (OfControl p) = p < n

abbrev AreBelow : ℕ → List Source → Type 0
AreBelow n [] = Unit {0}
AreBelow n (s ∷ ss) = IsBelow n s × AreBelow n ss

below-append : (n : ℕ) (xs ys : List Source) → AreBelow n xs → AreBelow n ys → AreBelow n (xs ++ ys)
below-append n [] ys some more = more
below-append n (x ∷ xs) ys some more = (some.0, below-append n xs ys some.1 more)

runs_below : (n number run : ℕ) (ts : List Test) → run + length ts ≤ n → AreBelow n (sources_in (run_variables number run ts))
runs_below n number run [] few = tt
runs_below n number run (t ∷ ts) few = (omega (arith, few), runs_below n number (run + 1) ts (omega (arith, few)))

wired_below : (n number shift wired : ℕ) (b : Bool) → shift + one_if b + wired ≤ n → AreBelow n (sources_in (wired_variables number shift (shift + wired) b))
wired_below n number shift wired true few = (omega (arith, few), (omega (arith, few), tt))
wired_below n number shift wired false few = tt

scope_below : (n number : ℕ) (variables : List Variable) (ts : List Test) → AreBelow n (sources_in variables) → AreBelow n (sources_of (module_scope number variables ts))
scope_below n number variables [] below = tt
scope_below n number variables (t ∷ ts) below = below-append n (sources_in variables) [] below tt

wired_first : (m : ModuleValue) (ms : List ModuleValue) → length (filter has_tam (m ∷ ms)) ≡ one_if (has_tam m) + length (filter has_tam ms)
wired_first m ms = by (has_tam m)
  where
    by : (b : Bool) → length (cond b (m ∷ filter has_tam ms) (filter has_tam ms)) ≡ one_if b + length (filter has_tam ms)
    by true = omega arith
    by false = omega arith

abbrev lives : List ModuleValue → ℕ
lives ms = sum_by (λ m. length (live_of_module m)) ms

modules_below : (n wired run shift : ℕ) (ms : List ModuleValue) → run + lives ms ≤ n → shift + length (filter has_tam ms) + wired ≤ n → AreBelow n (sources_of (module_scopes wired run shift ms))
modules_below n wired run shift [] few some = tt
modules_below n wired run shift (m ∷ ms) few some =
    let all : lives (m ∷ ms) ≡ length (live_of_module m) + lives ms = sum_by-cons (λ m. length (live_of_module m)) m ms in
    let runs = run_variables m.number run (live_of_module m) in
    let signals = wired_variables m.number shift (shift + wired) (has_tam m) in
    let here : AreBelow n (sources_in (runs ++ signals)) =
    subst (AreBelow n) (sym (map-append (λ (v : Variable). v.source) runs signals))
    (below-append n (sources_in runs) (sources_in signals) (runs_below n m.number run (live_of_module m) (omega (arith, few, all))) (wired_below n m.number shift wired (has_tam m) (omega (arith, some, wired_first m ms)))) in
    subst (AreBelow n) (sym (flat_map-append (λ (s : Scope). sources_in s.variables) (scope_of_module run shift wired m) (module_scopes wired (run + length (live_of_module m)) (shift + one_if (has_tam m)) ms)))
    (below-append n (sources_of (scope_of_module run shift wired m)) (sources_of (module_scopes wired (run + length (live_of_module m)) (shift + one_if (has_tam m)) ms))
    (scope_below n m.number (runs ++ signals) (live_of_module m) here)
    (modules_below n wired (run + length (live_of_module m)) (shift + one_if (has_tam m)) ms (omega (arith, few, all)) (omega (arith, some, wired_first m ms))))

pub places_below : (n : ℕ) (places : List ℕ) → AreBelow n (control_sources places) → (i : ℕ) → i < length places → get_or places i 0 < n
places_below n [] below i less = absurd (omega (arith, less))
places_below n (p ∷ ps) below zero less = below.0
places_below n (p ∷ ps) below (suc i) less = places_below n ps below.1 i (omega (arith, less))

-- ---- how many there are

runs-length : (number run : ℕ) (ts : List Test) → length (run_variables number run ts) ≡ length ts
runs-length number run [] = refl
runs-length number run (t ∷ ts) = ap suc (runs-length number (run + 1) ts)

wired-length : (number shift capture : ℕ) (b : Bool) → length (wired_variables number shift capture b) ≡ 2 * one_if b
wired-length number shift capture true = refl
wired-length number shift capture false = refl

scope-length : (number : ℕ) (variables : List Variable) (ts : List Test) → length (sources_of (module_scope number variables ts)) ≤ length variables
scope-length number variables [] = omega arith
scope-length number variables (t ∷ ts) = omega (arith, length-append (sources_in variables) [], length-map variables (λ (v : Variable). v.source))

modules-length : (wired run shift : ℕ) (ms : List ModuleValue) → length (sources_of (module_scopes wired run shift ms)) ≤ lives ms + 2 * length (filter has_tam ms)
modules-length wired run shift [] = omega arith
modules-length wired run shift (m ∷ ms) =
    let all : lives (m ∷ ms) ≡ length (live_of_module m) + lives ms = sum_by-cons (λ m. length (live_of_module m)) m ms in
    let runs = run_variables m.number run (live_of_module m) in
    let signals = wired_variables m.number shift (shift + wired) (has_tam m) in
    let scope = scope_of_module run shift wired m in
    let rest = module_scopes wired (run + length (live_of_module m)) (shift + one_if (has_tam m)) ms in
    let both : length (sources_of (scope ++ rest)) ≡ length (sources_of scope) + length (sources_of rest) = ap length (flat_map-append (λ (s : Scope). sources_in s.variables) scope rest) ∙ length-append (sources_of scope) (sources_of rest) in
    omega (
      arith,
      both,
      all,
      wired_first m ms,
      scope-length m.number (runs ++ signals) (live_of_module m),
      length-append runs signals,
      runs-length m.number run (live_of_module m),
      wired-length m.number shift (shift + wired) (has_tam m),
      modules-length wired (run + length (live_of_module m)) (shift + one_if (has_tam m)) ms,
    )

-- ---- of a chip

filter_le : (ms : List ModuleValue) → length (filter has_tam ms) ≤ length ms
filter_le [] = omega arith
filter_le (m ∷ ms) = omega (arith, wired_first m ms, one_le (has_tam m), filter_le ms)
  where
    one_le : (b : Bool) → one_if b ≤ 1
    one_le true = omega arith
    one_le false = omega arith

pub few_runs : (soc : SocValue) → IsSoundChip soc → length (live_ids soc) ≤ 4096
few_runs soc sound = omega (arith, length-map (live_tests soc) id_of, live_tests-le soc sound)

pub few_wired : (soc : SocValue) → IsSoundChip soc → length (tam_numbers soc) ≤ 1000
few_wired soc sound = omega (arith, tams-length soc, filter_le soc.modules, modules-le soc sound.size)

-- the places of the controls of a chip, and how many they are
pub chip_places : (soc : SocValue) (runs wired : ℕ) (places : List ℕ) → runs ≡ length (live_ids soc) → wired ≡ length (tam_numbers soc) → control_sources places ≡ sources_of (module_scopes wired 0 runs soc.modules) → (i : ℕ) → i < length places → get_or places i 0 < runs + 2 * wired
chip_places soc runs wired places runs_are wired_are is =
    places_below (runs + 2 * wired) places
    (subst (AreBelow (runs + 2 * wired)) (sym is) (modules_below (runs + 2 * wired) wired 0 runs soc.modules (omega (arith, runs_are, lives-length soc)) (omega (arith, wired_are, tams-length soc))))

pub chip_places-length : (soc : SocValue) (runs wired : ℕ) (places : List ℕ) → runs ≡ length (live_ids soc) → wired ≡ length (tam_numbers soc) → control_sources places ≡ sources_of (module_scopes wired 0 runs soc.modules) → length places ≤ runs + 2 * wired
chip_places-length soc runs wired places runs_are wired_are is =
    omega (arith, sym (length-map places OfControl) ∙ ap length is, modules-length wired 0 runs soc.modules, runs_are, lives-length soc, wired_are, tams-length soc)
