-- Definitions that are listed one behind the other.
use Rattle.std.proofs.Common.{◌≡◌, ℕ, suc, ◌+◌, ◌*◌, ◌-◌, ◌<◌, ◌≤◌, Bool, true, false, inl, inr, zero, List, [], ◌∷◌, ◌++◌, length, map, drop, get_or, cond, sum, codes, decimal, refl, sym, ap, ◌∙◌, subst, arith, append_assoc, append-nil}
use Rattle.std.specs.List.{filter, flat_map, list_any, range_with_len, sum_by}
use Rattle.std.proofs.lemmas.Bool.{cases_Bool, both_ways, false≢true}
use Rattle.std.proofs.lemmas.List.{length-append, length-map, map-append, at_drop_more, at_drop_all}
use Rattle.std.proofs.lemmas.List.Concat.{flat_map-append}
use Rattle.std.proofs.lemmas.List.Sums.{sum-map, sum_by-cons, sum_by-drop_more}
use Rattle.soc_model.specs.declared.Test.{Test}
use Rattle.soc_model.specs.Chips.{ModuleValue, SocValue, is_live, live_of, live_from, id_of}
use Rattle.soc_model.specs.Modes.{is_tam, has_tam}
use Rattle.plan_model.specs.declared.Bus.{Bus}
use Rattle.plan_model.specs.Rules.{live_ids}
use Rattle.plan_model.specs.Views.{bus_value}
use Rattle.controls.specs.Controls.{controls, run_of, shift_of, capture_of, tam_numbers}
use Rattle.tester_forms.specs.declared.vcd_definitions.Listing.{Listing}
use Rattle.tester_forms.specs.Dumps.{scope_line, scope_lines, up_line, variable_line, variable_lines}
use Rattle.tester_forms.specs.Forms.{control_sources}
use Rattle.tester_forms.specs.Listings.{number_of, IsListed, AreListed, GoesOn, ScopesGoOn}
use Rattle.tester_forms.specs.Variables.{Source, OfControl, Variable, Scope, bus_scope, bus_scopes, live_of_module, module_scope, module_scopes, one_if, run_variable, run_variables, scope_of_module, sources_in, sources_of, wire_variables}

-- ---- lines

pub variable_lines-append : (n : ℕ) (xs ys : List Variable) → variable_lines n (xs ++ ys) ≡ variable_lines n xs ++ variable_lines (n + length xs) ys
variable_lines-append n [] ys =
    let e : n + 0 ≡ n = omega arith in
    ap (λ k. variable_lines k ys) (sym e)
variable_lines-append n (x ∷ xs) ys =
    let e : n + 1 + length xs ≡ n + suc (length xs) = omega arith in
    ap (λ t. variable_line n x.name ++ t) (variable_lines-append (n + 1) xs ys)
    ∙ sym (append_assoc (variable_line n x.name) (variable_lines (n + 1) xs) (variable_lines (n + 1 + length xs) ys))
    ∙ ap (λ k. (variable_line n x.name ++ variable_lines (n + 1) xs) ++ variable_lines k ys) e

four : (a b c d e : List ℕ) → a ++ (b ++ (c ++ (d ++ e))) ≡ (a ++ (b ++ (c ++ d))) ++ e
four a b c d e = sym (simp append_assoc)

sources-length : (s : Scope) (ss : List Scope) → length (sources_of (s ∷ ss)) ≡ length s.variables + length (sources_of ss)
sources-length s ss =
    length-append (sources_in s.variables) (sources_of ss) ∙ ap (λ n. n + length (sources_of ss)) (length-map s.variables (λ (v : Variable). v.source))

pub scope_lines-append : (n : ℕ) (xs ys : List Scope) → scope_lines n (xs ++ ys) ≡ scope_lines n xs ++ scope_lines (n + length (sources_of xs)) ys
scope_lines-append n [] ys =
    let e : n + 0 ≡ n = omega arith in
    ap (λ k. scope_lines k ys) (sym e)
scope_lines-append n (s ∷ ss) ys =
    let e : n + length s.variables + length (sources_of ss) ≡ n + length (sources_of (s ∷ ss)) = omega (arith, sources-length s ss) in
    ap (λ t. scope_line s.name ++ (variable_lines n s.variables ++ (up_line ++ t))) (scope_lines-append (n + length s.variables) ss ys)
    ∙ four (scope_line s.name) (variable_lines n s.variables) up_line (scope_lines (n + length s.variables) ss) (scope_lines (n + length s.variables + length (sources_of ss)) ys)
    ∙ ap (λ k. scope_lines n (s ∷ ss) ++ scope_lines k ys) e

-- ---- wires

pub wires-length : (a n : ℕ) → length (flat_map wire_variables (range_with_len a n)) ≡ 2 * n
wires-length a zero = refl
wires-length a (suc n) =
    let rest : length (flat_map wire_variables (range_with_len (a + 1) n)) ≡ 2 * n = wires-length (a + 1) n in
    omega (arith, rest)

-- one wire more
pub wire_more : (text next whole : List ℕ) (wire end : ℕ) → wire < end →
    text ++ variable_lines (2 * wire) (flat_map wire_variables (range_with_len wire (end - wire))) ≡ whole →
    next ≡ text ++ variable_lines (2 * wire) (wire_variables wire) →
    next ++ variable_lines (2 * (wire + 1)) (flat_map wire_variables (range_with_len (wire + 1) (end - (wire + 1)))) ≡ whole
wire_more text next whole wire end more is now =
    let rest = flat_map wire_variables (range_with_len (wire + 1) (end - (wire + 1))) in
    let left : end - wire ≡ suc (end - (wire + 1)) = omega arith in
    let number : 2 * wire + 2 ≡ 2 * (wire + 1) = omega arith in
    let all : flat_map wire_variables (range_with_len wire (end - wire)) ≡ wire_variables wire ++ rest = ap (λ k. flat_map wire_variables (range_with_len wire k)) left in
    ap (λ t. t ++ variable_lines (2 * (wire + 1)) rest) now
    ∙ append_assoc text (variable_lines (2 * wire) (wire_variables wire)) (variable_lines (2 * (wire + 1)) rest)
    ∙ ap (λ k. text ++ (variable_lines (2 * wire) (wire_variables wire) ++ variable_lines k rest)) (sym number)
    ∙ ap (λ t. text ++ t) (sym (variable_lines-append (2 * wire) (wire_variables wire) rest))
    ∙ ap (λ vs. text ++ variable_lines (2 * wire) vs) (sym all)
    ∙ is

-- the scope of a bus
pub bus_listed : (text begun filled ended name : List ℕ) (first width wire : ℕ) → first + width ≤ wire → begun ≡ text ++ scope_line name →
    filled ++ variable_lines (2 * wire) (flat_map wire_variables (range_with_len wire (first + width - wire))) ≡ begun ++ variable_lines (2 * first) (flat_map wire_variables (range_with_len first width)) → ended ≡ filled ++ up_line →
    ended ≡ text ++ scope_lines (2 * first) (record { name = name; variables = flat_map wire_variables (range_with_len first width) } ∷ [])
bus_listed text begun filled ended name first width wire past line is up =
    let variables = variable_lines (2 * first) (flat_map wire_variables (range_with_len first width)) in
    let none : first + width - wire ≡ 0 = omega arith in
    let all : filled ≡ begun ++ variables = sym (append-nil filled) ∙ ap (λ k. filled ++ variable_lines (2 * wire) (flat_map wire_variables (range_with_len wire k))) (sym none) ∙ is in
    up ∙ ap (λ t. t ++ up_line) (all ∙ ap (λ t. t ++ variables) line) ∙ joined text (scope_line name) variables up_line
  where
    joined : (t a b c : List ℕ) → ((t ++ a) ++ b) ++ c ≡ t ++ (a ++ (b ++ (c ++ [])))
    joined t a b c = simp (append_assoc, append-nil)

-- one bus more
pub bus_more : (text next whole : List ℕ) (place first : ℕ) (buses : List Bus) (d : Bus) → place < length buses →
    text ++ scope_lines (2 * first) (bus_scopes place first (map bus_value (drop place buses))) ≡ whole →
    next ≡ text ++ scope_lines (2 * first) (bus_scope place first (get_or buses place d).width ∷ []) →
    next ++ scope_lines (2 * (first + (get_or buses place d).width)) (bus_scopes (place + 1) (first + (get_or buses place d).width) (map bus_value (drop (place + 1) buses))) ≡ whole
bus_more text next whole place first buses d more is now =
    let w = (get_or buses place d).width in
    let s = bus_scope place first w in
    let rest = bus_scopes (place + 1) (first + w) (map bus_value (drop (place + 1) buses)) in
    let number : 2 * first + length (sources_of (s ∷ [])) ≡ 2 * (first + w) = omega (arith, sources-length s [], wires-length first w) in
    ap (λ t. t ++ scope_lines (2 * (first + w)) rest) now
    ∙ append_assoc text (scope_lines (2 * first) (s ∷ [])) (scope_lines (2 * (first + w)) rest)
    ∙ ap (λ k. text ++ (scope_lines (2 * first) (s ∷ []) ++ scope_lines k rest)) (sym number)
    ∙ ap (λ t. text ++ t) (sym (scope_lines-append (2 * first) (s ∷ []) rest))
    ∙ ap (λ t. text ++ t) (sym (at_drop_more (λ bs. scope_lines (2 * first) (bus_scopes place first (map bus_value bs))) buses place d more))
    ∙ is

pub width_more : (first total place : ℕ) (buses : List Bus) (d : Bus) → place < length buses → first + sum (map (λ (b : Bus). b.width) (drop place buses)) ≡ total →
    first + (get_or buses place d).width + sum (map (λ (b : Bus). b.width) (drop (place + 1) buses)) ≡ total
width_more first total place buses d more is =
    let f : Bus → ℕ = λ b. b.width in
    omega (arith, sum-map f (drop place buses), sum-map f (drop (place + 1) buses), sum_by-drop_more f buses place d more, is)

pub buses_done : (text whole : List ℕ) (place first : ℕ) (buses : List Bus) → length buses ≤ place → text ++ scope_lines (2 * first) (bus_scopes place first (map bus_value (drop place buses))) ≡ whole → text ≡ whole
buses_done text whole place first buses past is =
    sym (append-nil text) ∙ ap (λ t. text ++ t) (sym (at_drop_all (λ bs. scope_lines (2 * first) (bus_scopes place first (map bus_value bs))) buses place past)) ∙ is

-- ---- listings

-- the number of the next variable
pub number_moves : (a b : Listing) (sources : List Source) → control_sources b.places.items ≡ control_sources a.places.items ++ sources → b.first ≡ a.first → number_of b ≡ number_of a + length sources
number_moves a b sources is first =
    let long : length b.places.items ≡ length a.places.items + length sources =
    sym (length-map b.places.items OfControl) ∙ ap length is ∙ length-append (control_sources a.places.items) sources ∙ ap (λ n. n + length sources) (length-map a.places.items OfControl) in
    omega (arith, long, first)

sources_in-length : (xs : List Variable) → length (sources_in xs) ≡ length xs
sources_in-length xs = length-map xs (λ (v : Variable). v.source)

-- one variable
pub listed_one : (old new : Listing) (number place : ℕ) (name : List ℕ) → number ≡ number_of old → new.text.items ≡ old.text.items ++ variable_line number name → new.places.items ≡ old.places.items ++ place ∷ [] → new.first ≡ old.first →
    IsListed old new (record { name = name; source = OfControl place } ∷ [])
listed_one old new number place name is text places first = record {
  text = text ∙ ap (λ t. old.text.items ++ t) (ap (λ k. variable_line k name) is ∙ sym (append-nil (variable_line (number_of old) name)));
  sources = ap control_sources places ∙ map-append OfControl old.places.items (place ∷ []);
  first = first;
}

pub listed_then : (a b c : Listing) (xs ys : List Variable) → IsListed a b xs → IsListed b c ys → IsListed a c (xs ++ ys)
listed_then a b c xs ys one two = record {
  text =
      let number : number_of b ≡ number_of a + length xs = number_moves a b (sources_in xs) one.sources one.first ∙ ap (λ n. number_of a + n) (sources_in-length xs) in
      two.text ∙ ap (λ t. t ++ variable_lines (number_of b) ys) one.text
      ∙ append_assoc a.text.items (variable_lines (number_of a) xs) (variable_lines (number_of b) ys)
      ∙ ap (λ k. a.text.items ++ (variable_lines (number_of a) xs ++ variable_lines k ys)) number
      ∙ ap (λ t. a.text.items ++ t) (sym (variable_lines-append (number_of a) xs ys));
  sources =
      two.sources ∙ ap (λ t. t ++ sources_in ys) one.sources ∙ append_assoc (control_sources a.places.items) (sources_in xs) (sources_in ys)
      ∙ ap (λ t. control_sources a.places.items ++ t) (sym (map-append (λ (v : Variable). v.source) xs ys));
  first = two.first ∙ one.first;
}

-- variables that are left
pub goes_on-begun : (a : Listing) (all : List Variable) → GoesOn a a all all
goes_on-begun a all = record { text = refl; sources = refl; first = refl }

pub goes_on-next : (old now next : Listing) (xs rest all : List Variable) → GoesOn old now (xs ++ rest) all → IsListed now next xs → GoesOn old next rest all
goes_on-next old now next xs rest all on listed = record {
  text =
      let number : number_of next ≡ number_of now + length xs = number_moves now next (sources_in xs) listed.sources listed.first ∙ ap (λ n. number_of now + n) (sources_in-length xs) in
      ap (λ t. t ++ variable_lines (number_of next) rest) listed.text
      ∙ append_assoc now.text.items (variable_lines (number_of now) xs) (variable_lines (number_of next) rest)
      ∙ ap (λ k. now.text.items ++ (variable_lines (number_of now) xs ++ variable_lines k rest)) number
      ∙ ap (λ t. now.text.items ++ t) (sym (variable_lines-append (number_of now) xs rest))
      ∙ on.text;
  sources =
      ap (λ t. t ++ sources_in rest) listed.sources ∙ append_assoc (control_sources now.places.items) (sources_in xs) (sources_in rest)
      ∙ ap (λ t. control_sources now.places.items ++ t) (sym (map-append (λ (v : Variable). v.source) xs rest))
      ∙ on.sources;
  first = listed.first ∙ on.first;
}

-- ---- scopes

-- a scope with its variables
pub scope_listed : (a begun filled ended : Listing) (name : List ℕ) (variables : List Variable) → begun.text.items ≡ a.text.items ++ scope_line name → begun.places.items ≡ a.places.items → begun.first ≡ a.first → IsListed begun filled variables →
    ended.text.items ≡ filled.text.items ++ up_line → ended.places.items ≡ filled.places.items → ended.first ≡ filled.first → AreListed a ended (record { name = name; variables = variables } ∷ [])
scope_listed a begun filled ended name variables line same first listed up same' first' = record {
  text =
      let number : number_of begun ≡ number_of a = omega (arith, first, ap length same) in
      up ∙ ap (λ t. t ++ up_line) (listed.text ∙ ap (λ t. t ++ variable_lines (number_of begun) variables) line ∙ ap (λ k. (a.text.items ++ scope_line name) ++ variable_lines k variables) number)
      ∙ joined a.text.items (scope_line name) (variable_lines (number_of a) variables) up_line;
  sources = ap control_sources same' ∙ listed.sources ∙ ap (λ t. control_sources t ++ sources_in variables) same ∙ ap (λ t. control_sources a.places.items ++ t) (sym (append-nil (sources_in variables)));
  first = first' ∙ listed.first ∙ first;
}
  where
    joined : (t a b c : List ℕ) → ((t ++ a) ++ b) ++ c ≡ t ++ (a ++ (b ++ (c ++ [])))
    joined t a b c = simp (append_assoc, append-nil)

pub scopes_none : (a : Listing) → AreListed a a []
scopes_none a = record { text = sym (append-nil a.text.items); sources = sym (append-nil (control_sources a.places.items)); first = refl }

-- scopes that are left
pub scopes_go_on-begun : (a : Listing) (all : List Scope) → ScopesGoOn a a all all
scopes_go_on-begun a all = record { text = refl; sources = refl; first = refl }

pub scopes_go_on-next : (old now next : Listing) (xs rest all : List Scope) → ScopesGoOn old now (xs ++ rest) all → AreListed now next xs → ScopesGoOn old next rest all
scopes_go_on-next old now next xs rest all on listed = record {
  text =
      let number : number_of next ≡ number_of now + length (sources_of xs) = number_moves now next (sources_of xs) listed.sources listed.first in
      ap (λ t. t ++ scope_lines (number_of next) rest) listed.text
      ∙ append_assoc now.text.items (scope_lines (number_of now) xs) (scope_lines (number_of next) rest)
      ∙ ap (λ k. now.text.items ++ (scope_lines (number_of now) xs ++ scope_lines k rest)) number
      ∙ ap (λ t. now.text.items ++ t) (sym (scope_lines-append (number_of now) xs rest))
      ∙ on.text;
  sources =
      ap (λ t. t ++ sources_of rest) listed.sources ∙ append_assoc (control_sources now.places.items) (sources_of xs) (sources_of rest)
      ∙ ap (λ t. control_sources now.places.items ++ t) (sym (flat_map-append (λ (s : Scope). sources_in s.variables) xs rest))
      ∙ on.sources;
  first = listed.first ∙ on.first;
}

pub scopes_go_on-ended : (old now : Listing) (all : List Scope) → ScopesGoOn old now [] all → AreListed old now all
scopes_go_on-ended old now all on = record {
  text = sym (append-nil now.text.items) ∙ on.text;
  sources = sym (append-nil (control_sources now.places.items)) ∙ on.sources;
  first = on.first;
}

-- ---- modules

-- a module without live tests has no scope, nor any test over the wires
pub no_live : (tests : List Test) → list_any is_live tests ≡ false → filter is_live tests ≡ []
no_live [] none = refl
no_live (t ∷ ts) none =
    elim (cases_Bool (is_live t)) [
      | inl yes' ↦ absurd (both_ways (list_any is_live (t ∷ ts)) none (rw yes' refl))
      | inr no' ↦ rw no' (no_live ts (rw no' at none))
    ]

pub no_scope : (number : ℕ) (variables : List Variable) (tests : List Test) → list_any is_live tests ≡ false → module_scope number variables (filter is_live tests) ≡ []
no_scope number variables tests none = ap (module_scope number variables) (no_live tests none)

pub no_tam : (tests : List Test) → list_any is_live tests ≡ false → list_any is_tam tests ≡ false
no_tam [] none = refl
no_tam (t ∷ ts) none =
    elim (cases_Bool (is_live t)) [
      | inl yes' ↦ absurd (both_ways (list_any is_live (t ∷ ts)) none (rw yes' refl))
      | inr no' ↦ rw no' (no_tam ts (rw no' at none))
    ]

-- each other one has one
pub some_scope : (number : ℕ) (variables : List Variable) (tests : List Test) → list_any is_live tests ≡ true →
    module_scope number variables (filter is_live tests) ≡ record { name = codes "module_" ++ decimal number; variables = variables } ∷ []
some_scope number variables [] some = absurd (false≢true some)
some_scope number variables (t ∷ ts) some =
    elim (cases_Bool (is_live t)) [
      | inl yes' ↦ rw yes' refl
      | inr no' ↦ rw no' (some_scope number variables ts (rw no' at some))
    ]

-- ---- tests of a module

-- one live test more
live_first : (tests : List Test) (i : ℕ) (d : Test) → i < length tests → is_live (get_or tests i d) ≡ true → filter is_live (drop i tests) ≡ get_or tests i d ∷ filter is_live (drop (i + 1) tests)
live_first tests i d more live =
    at_drop_more (filter is_live) tests i d more ∙ ap (λ b. cond b (get_or tests i d ∷ filter is_live (drop (i + 1) tests)) (filter is_live (drop (i + 1) tests))) live

dead_first : (tests : List Test) (i : ℕ) (d : Test) → i < length tests → is_live (get_or tests i d) ≡ false → filter is_live (drop i tests) ≡ filter is_live (drop (i + 1) tests)
dead_first tests i d more dead =
    at_drop_more (filter is_live) tests i d more ∙ ap (λ b. cond b (get_or tests i d ∷ filter is_live (drop (i + 1) tests)) (filter is_live (drop (i + 1) tests))) dead

pub some_live : (tests : List Test) (i : ℕ) (d : Test) → i < length tests → is_live (get_or tests i d) ≡ true → 1 ≤ length (filter is_live (drop i tests))
some_live tests i d more live = omega (arith, ap length (live_first tests i d more live))

pub run_more : (old now next last : Listing) (m place after i : ℕ) (tests : List Test) (d : Test) (all : List Variable) → i < length tests → is_live (get_or tests i d) ≡ true → GoesOn old now (run_variables m place (filter is_live (drop i tests))) all →
    IsListed now next (run_variable m (get_or tests i d).number place ∷ []) → last ≡ next → after ≡ place + 1 → GoesOn old last (run_variables m after (filter is_live (drop (i + 1) tests))) all
run_more old now next last m place after i tests d all more live on listed is moved =
    let t = get_or tests i d in
    let e : run_variables m place (filter is_live (drop i tests)) ≡ run_variable m t.number place ∷ run_variables m (place + 1) (filter is_live (drop (i + 1) tests)) = ap (run_variables m place) (live_first tests i d more live) in
    let gone : GoesOn old next (run_variables m (place + 1) (filter is_live (drop (i + 1) tests))) all =
    goes_on-next old now next (run_variable m t.number place ∷ []) (run_variables m (place + 1) (filter is_live (drop (i + 1) tests))) all (subst (λ vs. GoesOn old now vs all) e on) listed in
    subst (λ l. GoesOn old l (run_variables m after (filter is_live (drop (i + 1) tests))) all) (sym is)
    (subst (λ k. GoesOn old next (run_variables m k (filter is_live (drop (i + 1) tests))) all) (sym moved) gone)

pub run_count : (place after total i : ℕ) (tests : List Test) (d : Test) → i < length tests → is_live (get_or tests i d) ≡ true → place + length (filter is_live (drop i tests)) ≡ total → after ≡ place + 1 → after + length (filter is_live (drop (i + 1) tests)) ≡ total
run_count place after total i tests d more live is moved = omega (arith, ap length (live_first tests i d more live), is, moved)

pub run_less : (old now last : Listing) (m place after i : ℕ) (tests : List Test) (d : Test) (all : List Variable) → i < length tests → is_live (get_or tests i d) ≡ false → GoesOn old now (run_variables m place (filter is_live (drop i tests))) all →
    last ≡ now → after ≡ place → GoesOn old last (run_variables m after (filter is_live (drop (i + 1) tests))) all
run_less old now last m place after i tests d all more dead on is moved =
    subst (λ l. GoesOn old l (run_variables m after (filter is_live (drop (i + 1) tests))) all) (sym is)
    (subst (λ k. GoesOn old now (run_variables m k (filter is_live (drop (i + 1) tests))) all) (sym moved)
    (subst (λ ts. GoesOn old now (run_variables m place ts) all) (dead_first tests i d more dead) on))

pub same_count : (place after total i : ℕ) (tests : List Test) (d : Test) → i < length tests → is_live (get_or tests i d) ≡ false → place + length (filter is_live (drop i tests)) ≡ total → after ≡ place → after + length (filter is_live (drop (i + 1) tests)) ≡ total
same_count place after total i tests d more dead is moved = omega (arith, ap length (dead_first tests i d more dead), is, moved)

-- ---- modules of a chip

lives_from : (base : ℕ) (ms : List ModuleValue) → length (live_from base ms) ≡ sum_by (λ m. length (live_of_module m)) ms
unfolding live_from
lives_from base [] = refl
lives_from base (m ∷ ms) =
    let here : length (live_of base m) ≡ length (live_of_module m) = length-map (live_of_module m) (λ (t : Test). record { place = base; core = m; test = t }) in
    omega (arith, length-append (live_of base m) (live_from (base + 1) ms), here, lives_from (base + 1) ms, sum_by-cons (λ m. length (live_of_module m)) m ms)

pub lives-length : (soc : SocValue) → length (live_ids soc) ≡ sum_by (λ m. length (live_of_module m)) soc.modules
lives-length soc = length-map (live_from 0 soc.modules) id_of ∙ lives_from 0 soc.modules

pub tams-length : (soc : SocValue) → length (tam_numbers soc) ≡ length (filter has_tam soc.modules)
tams-length soc = length-map (filter has_tam soc.modules) (λ (m : ModuleValue). m.number)

pub controls-length : (soc : SocValue) → length (controls soc) ≡ length (live_ids soc) + 2 * length (tam_numbers soc)
unfolding controls
controls-length soc =
    omega (
      arith,
      length-append (map run_of (live_ids soc)) (map shift_of (tam_numbers soc) ++ map capture_of (tam_numbers soc)),
      length-append (map shift_of (tam_numbers soc)) (map capture_of (tam_numbers soc)),
      length-map (live_ids soc) run_of,
      length-map (tam_numbers soc) shift_of,
      length-map (tam_numbers soc) capture_of,
    )

wired_first : (m : ModuleValue) (ms : List ModuleValue) → length (filter has_tam (m ∷ ms)) ≡ one_if (has_tam m) + length (filter has_tam ms)
wired_first m ms = by (has_tam m)
  where
    by : (b : Bool) → length (cond b (m ∷ filter has_tam ms) (filter has_tam ms)) ≡ one_if b + length (filter has_tam ms)
    by true = omega arith
    by false = omega arith

pub module_more : (old now next : Listing) (wired run shift w after moved : ℕ) (m : ModuleValue) (ms left : List ModuleValue) (all : List Scope) → w ≡ wired → left ≡ m ∷ ms → after ≡ run + length (live_of_module m) → moved ≡ shift + one_if (has_tam m) →
    ScopesGoOn old now (module_scopes wired run shift left) all → AreListed now next (scope_of_module run shift w m) → ScopesGoOn old next (module_scopes wired after moved ms) all
module_more old now next wired run shift w after moved m ms left all is left_is after_is moved_is on listed =
    let gone : ScopesGoOn old next (module_scopes wired (run + length (live_of_module m)) (shift + one_if (has_tam m)) ms) all =
    scopes_go_on-next old now next (scope_of_module run shift wired m) (module_scopes wired (run + length (live_of_module m)) (shift + one_if (has_tam m)) ms) all
    (subst (λ l. ScopesGoOn old now (module_scopes wired run shift l) all) left_is on) (subst (λ k. AreListed now next (scope_of_module run shift k m)) is listed) in
    subst (λ k. ScopesGoOn old next (module_scopes wired k moved ms) all) (sym after_is)
    (subst (λ k. ScopesGoOn old next (module_scopes wired (run + length (live_of_module m)) k ms) all) (sym moved_is) gone)

pub module_first : (m : ModuleValue) (ms left : List ModuleValue) → left ≡ m ∷ ms → sum_by (λ m. length (live_of_module m)) left ≡ length (live_of_module m) + sum_by (λ m. length (live_of_module m)) ms
module_first m ms left is = ap (sum_by (λ m. length (live_of_module m))) is ∙ sum_by-cons (λ m. length (live_of_module m)) m ms

pub module_runs : (run after total : ℕ) (m : ModuleValue) (ms left : List ModuleValue) → left ≡ m ∷ ms → after ≡ run + length (live_of_module m) → run + sum_by (λ m. length (live_of_module m)) left ≡ total → after + sum_by (λ m. length (live_of_module m)) ms ≡ total
module_runs run after total m ms left left_is after_is is =
    omega (arith, module_first m ms left left_is, after_is, is)

pub module_shifts : (shift moved total : ℕ) (m : ModuleValue) (ms left : List ModuleValue) → left ≡ m ∷ ms → moved ≡ shift + one_if (has_tam m) → shift + length (filter has_tam left) ≡ total → moved + length (filter has_tam ms) ≡ total
module_shifts shift moved total m ms left left_is moved_is is =
    omega (arith, ap (λ l. length (filter has_tam l)) left_is, wired_first m ms, moved_is, is)

pub modules_done : (old now : Listing) (wired run shift : ℕ) (left : List ModuleValue) (all : List Scope) → left ≡ [] → ScopesGoOn old now (module_scopes wired run shift left) all → AreListed old now all
modules_done old now wired run shift left all none on = scopes_go_on-ended old now all (subst (λ l. ScopesGoOn old now (module_scopes wired run shift l) all) none on)
