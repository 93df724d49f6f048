-- Each variable of a control has the name of the control at its place.
use Rattle.std.proofs.Common.{◌≡◌, ℕ, zero, suc, ◌+◌, Bool, true, false, Some, List, [], ◌∷◌, ◌++◌, length, map, cond, refl, sym, ap, subst, arith, slice_get, filter, flat_map}
use Rattle.std.specs.List.{range_with_len}
use Rattle.std.proofs.lemmas.List.{length-map}
use Rattle.soc_model.specs.declared.Test.{Test}
use Rattle.soc_model.specs.Chips.{ModuleValue, SocValue}
use Rattle.soc_model.specs.Modes.{has_tam}
use Rattle.plan_model.specs.Plans.{BusValue, PlanValue}
use Rattle.plan_model.specs.Rules.{live_ids}
use Rattle.controls.specs.declared.Control.{Control}
use Rattle.controls.specs.Controls.{controls, run_of, runs_in, shift_of, capture_of, tam_numbers}
use Rattle.controls.proofs.Listing.{runs_are}
use Rattle.tester_forms.specs.Naming.{AreNamed, ScopesNamed}
use Rattle.tester_forms.specs.Variables.{Variable, Scope, bus_scopes, live_of_module, module_scope, module_scopes, one_if, run_variables, scope_of_module, scopes_of, wire_variables, wired_variables}

-- the list has these items from a place on
abbrev HasFrom : List Control → ℕ → List Control → Type 0
HasFrom all at xs = (i : ℕ) (x : Control) → slice_get xs i ≡ Some x → slice_get all (at + i) ≡ Some x

first_is : (all xs : List Control) (at : ℕ) (x : Control) → HasFrom all at (x ∷ xs) → slice_get all at ≡ Some x
first_is all xs at x has =
    let e : at + 0 ≡ at = omega arith in
    subst (λ k. slice_get all k ≡ Some x) e (has 0 x refl)

rest_is : (all xs : List Control) (at : ℕ) (x : Control) → HasFrom all at (x ∷ xs) → HasFrom all (at + 1) xs
rest_is all xs at x has = λ i y here.
    let e : at + suc i ≡ at + 1 + i = omega arith in
    subst (λ k. slice_get all k ≡ Some y) e (has (suc i) y here)

behind_is : (all xs ys : List Control) (at n : ℕ) → n ≡ at + length xs → HasFrom all at (xs ++ ys) → HasFrom all n ys
behind_is all [] ys at n is has =
    let e : at ≡ n = omega (arith, is) in
    subst (λ k. HasFrom all k ys) e has
behind_is all (x ∷ xs) ys at n is has = behind_is all xs ys (at + 1) n (omega (arith, is)) (rest_is all (xs ++ ys) at x has)

front_is : (all xs ys : List Control) (at : ℕ) → HasFrom all at (xs ++ ys) → HasFrom all at xs
front_is all xs ys at has = λ i x here. has i x (in_front xs ys i x here)
  where
    in_front : (xs ys : List Control) (i : ℕ) (x : Control) → slice_get xs i ≡ Some x → slice_get (xs ++ ys) i ≡ Some x
    in_front [] ys i x here = cc
    in_front (z ∷ xs) ys zero x here = here
    in_front (z ∷ xs) ys (suc i) x here = in_front xs ys i x here

named-append : (all : List Control) (xs ys : List Variable) → AreNamed all xs → AreNamed all ys → AreNamed all (xs ++ ys)
named-append all [] ys one two = two
named-append all (x ∷ xs) ys one two = (one.0, named-append all xs ys one.1 two)

abbrev runs_of : ℕ → List Test → List Control
runs_of m ts = map (λ (t : Test). run_of (record { «module» = m; test = t.number })) ts

runs_named : (all : List Control) (m run : ℕ) (ts : List Test) → HasFrom all run (runs_of m ts) → AreNamed all (run_variables m run ts)
runs_named all m run [] has = tt
runs_named all m run (t ∷ ts) has =
    let x = run_of (record { «module» = m; test = t.number }) in
    ((x, first_is all (runs_of m ts) run x has, refl), runs_named all m (run + 1) ts (rest_is all (runs_of m ts) run x has))

scope_named : (all : List Control) (number : ℕ) (variables : List Variable) (ts : List Test) → AreNamed all variables → ScopesNamed all (module_scope number variables ts)
scope_named all number variables [] named = tt
scope_named all number variables (t ∷ ts) named = (named, tt)

scopes-append : (all : List Control) (xs ys : List Scope) → ScopesNamed all xs → ScopesNamed all ys → ScopesNamed all (xs ++ ys)
scopes-append all [] ys one two = two
scopes-append all (x ∷ xs) ys one two = (one.0, scopes-append all xs ys one.1 two)

-- the controls of modules of a kind
abbrev numbers_of : List ModuleValue → List ℕ
numbers_of ms = map (λ (m : ModuleValue). m.number) (filter has_tam ms)

signals_named : (all : List Control) (m shift capture : ℕ) (b : Bool) (ns : List ℕ) → HasFrom all shift (map shift_of (cond b (m ∷ ns) ns)) → HasFrom all capture (map capture_of (cond b (m ∷ ns) ns)) → AreNamed all (wired_variables m shift capture b)
signals_named all m shift capture true ns shifts captures =
    ((shift_of m, first_is all (map shift_of ns) shift (shift_of m) shifts, refl), ((capture_of m, first_is all (map capture_of ns) capture (capture_of m) captures, refl), tt))
signals_named all m shift capture false ns shifts captures = tt

signals_behind : (f : ℕ → Control) (all : List Control) (m at next : ℕ) (b : Bool) (ns : List ℕ) → next ≡ at + one_if b → HasFrom all at (map f (cond b (m ∷ ns) ns)) → HasFrom all next (map f ns)
signals_behind f all m at next true ns is has = subst (λ k. HasFrom all k (map f ns)) (sym is) (rest_is all (map f ns) at (f m) has)
signals_behind f all m at next false ns is has =
    let e : at ≡ next = omega (arith, is) in
    subst (λ k. HasFrom all k (map f ns)) e has

numbers_first : (m : ModuleValue) (ms : List ModuleValue) → numbers_of (m ∷ ms) ≡ cond (has_tam m) (m.number ∷ numbers_of ms) (numbers_of ms)
numbers_first m ms = by (has_tam m)
  where
    by : (b : Bool) → map (λ (m : ModuleValue). m.number) (cond b (m ∷ filter has_tam ms) (filter has_tam ms)) ≡ cond b (m.number ∷ numbers_of ms) (numbers_of ms)
    by true = refl
    by false = refl

modules_named : (all : List Control) (wired run shift : ℕ) (ms : List ModuleValue) → HasFrom all run (flat_map runs_in ms) → HasFrom all shift (map shift_of (numbers_of ms)) → HasFrom all (shift + wired) (map capture_of (numbers_of ms)) →
    ScopesNamed all (module_scopes wired run shift ms)
modules_named all wired run shift [] runs shifts captures = tt
modules_named all wired run shift (m ∷ ms) runs shifts captures =
    let here = subst (λ ns. HasFrom all shift (map shift_of ns)) (numbers_first m ms) shifts in
    let there = subst (λ ns. HasFrom all (shift + wired) (map capture_of ns)) (numbers_first m ms) captures in
    let many : run + length (live_of_module m) ≡ run + length (runs_of m.number (live_of_module m)) = ap (λ k. run + k) (sym (length-map (live_of_module m) (λ (t : Test). run_of (record { «module» = m.number; test = t.number })))) in
    scopes-append all (scope_of_module run shift wired m) (module_scopes wired (run + length (live_of_module m)) (shift + one_if (has_tam m)) ms)
    (scope_named all m.number (run_variables m.number run (live_of_module m) ++ wired_variables m.number shift (shift + wired) (has_tam m)) (live_of_module m)
    (named-append all (run_variables m.number run (live_of_module m)) (wired_variables m.number shift (shift + wired) (has_tam m))
    (runs_named all m.number run (live_of_module m) (front_is all (runs_of m.number (live_of_module m)) (flat_map runs_in ms) run runs))
    (signals_named all m.number shift (shift + wired) (has_tam m) (numbers_of ms) here there)))
    (modules_named all wired (run + length (live_of_module m)) (shift + one_if (has_tam m)) ms
    (behind_is all (runs_of m.number (live_of_module m)) (flat_map runs_in ms) run (run + length (live_of_module m)) many runs)
    (signals_behind shift_of all m.number shift (shift + one_if (has_tam m)) (has_tam m) (numbers_of ms) refl here)
    (signals_behind capture_of all m.number (shift + wired) (shift + one_if (has_tam m) + wired) (has_tam m) (numbers_of ms) (omega arith) there))

wires_named : (all : List Control) (a n : ℕ) → AreNamed all (flat_map wire_variables (range_with_len a n))
wires_named all a zero = tt
wires_named all a (suc n) = (tt, (tt, wires_named all (a + 1) n))

buses_named : (all : List Control) (place first : ℕ) (bs : List BusValue) → ScopesNamed all (bus_scopes place first bs)
buses_named all place first [] = tt
buses_named all place first (b ∷ bs) = (wires_named all first b.width, buses_named all (place + 1) (first + b.width) bs)

whole_from : (all : List Control) → HasFrom all 0 all
whole_from all = λ i x here.
    let e : i ≡ 0 + i = omega arith in
    subst (λ k. slice_get all k ≡ Some x) e here

pub all_named : (soc : SocValue) (plan : PlanValue) → ScopesNamed (controls soc) (scopes_of soc plan)
unfolding controls
all_named soc plan =
    let runs = map run_of (live_ids soc) in
    let shifts = map shift_of (tam_numbers soc) in
    let captures = map capture_of (tam_numbers soc) in
    let all = runs ++ (shifts ++ captures) in
    let first : length (live_ids soc) ≡ 0 + length runs = omega (arith, length-map (live_ids soc) run_of) in
    let second : length (live_ids soc) + length (tam_numbers soc) ≡ length (live_ids soc) + length shifts = ap (λ k. length (live_ids soc) + k) (sym (length-map (tam_numbers soc) shift_of)) in
    let behind = behind_is all runs (shifts ++ captures) 0 (length (live_ids soc)) first (whole_from all) in
    scopes-append all (bus_scopes 0 0 plan.buses) (module_scopes (length (tam_numbers soc)) 0 (length (live_ids soc)) soc.modules) (buses_named all 0 0 plan.buses)
    (modules_named all (length (tam_numbers soc)) 0 (length (live_ids soc)) soc.modules
    (subst (HasFrom all 0) (sym (runs_are soc)) (front_is all runs (shifts ++ captures) 0 (whole_from all)))
    (front_is all shifts captures (length (live_ids soc)) behind)
    (behind_is all shifts captures (length (live_ids soc)) (length (live_ids soc) + length (tam_numbers soc)) second behind))
