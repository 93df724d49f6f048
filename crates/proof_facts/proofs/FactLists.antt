-- What exclusions ask of live tests, module by module.
use Rattle.std.proofs.Common.{◌≡◌, ℕ, ◌+◌, ◌≤◌, Option, Some, List, [], ◌∷◌, ◌++◌, length, map, drop, refl, sym, ap, ◌∙◌, append_assoc, append-nil, slice_get, filter}
use Rattle.std.proofs.lemmas.List.{drop_all, drop_more, map-append}
use Rattle.std.proofs.lemmas.Option.{get_or_from_slice_get, slice_get_within}
use Rattle.soc_model.specs.declared.Test.{Test}
use Rattle.soc_model.specs.Chips.{ModuleValue, SocValue, is_live, live_of, live_from, parent_place}
use Rattle.plan_model.specs.Plans.{LimitsValue}
use Rattle.proof_facts.specs.declared.facts.TestFacts.{TestFacts}
use Rattle.proof_facts.specs.Exclusions.{least_power_of}
use Rattle.proof_facts.specs.Rows.{facts_at, facts_of}

-- those of the live tests of a module
abbrev pub in_module : LimitsValue → (place : ℕ) → (parent : Option ℕ) → ModuleValue → List TestFacts
in_module limits place parent m = map (facts_at limits place parent m.number) (filter is_live m.tests)

-- facts, with the least given last
abbrev pub with_least : ℕ → Option ℕ → ℕ → TestFacts
with_least place parent least = record { place = place; parent = parent; least = least }

of_module : (soc : SocValue) (limits : LimitsValue) (place : ℕ) (m : ModuleValue) → map (facts_of soc limits) (live_of place m) ≡ in_module limits place (parent_place soc.modules place) m
of_module soc limits place m = go (filter is_live m.tests)
  where
    go : (ts : List Test) → map (facts_of soc limits) (map (λ (t : Test). record { place = place; core = m; test = t }) ts) ≡ map (facts_at limits place (parent_place soc.modules place) m.number) ts
    go [] = refl
    go (t ∷ ts) = ap (λ fs. facts_at limits place (parent_place soc.modules place) m.number t ∷ fs) (go ts)

-- one module more
pub facts_more : (soc : SocValue) (limits : LimitsValue) (old new whole : List TestFacts) (place next : ℕ) (parent : Option ℕ) (m : ModuleValue) → next ≡ place + 1 → slice_get soc.modules place ≡ Some m → parent ≡ parent_place soc.modules place
    → new ≡ old ++ in_module limits place parent m → old ++ map (facts_of soc limits) (live_from place (drop place soc.modules)) ≡ whole → new ++ map (facts_of soc limits) (live_from next (drop next soc.modules)) ≡ whole
unfolding live_from
facts_more soc limits old new whole place next parent m is at over added before =
    let here : map (facts_of soc limits) (live_of place m) ≡ in_module limits place parent m = of_module soc limits place m ∙ ap (λ o. in_module limits place o m) (sym over) in
    let first : drop place soc.modules ≡ m ∷ drop (place + 1) soc.modules = drop_more soc.modules place m (slice_get_within soc.modules place m at) ∙ ap (λ x. x ∷ drop (place + 1) soc.modules) (get_or_from_slice_get soc.modules place m m at) in
    let split : map (facts_of soc limits) (live_from place (drop place soc.modules)) ≡ in_module limits place parent m ++ map (facts_of soc limits) (live_from next (drop next soc.modules)) =
    ap (λ (l : List ModuleValue). map (facts_of soc limits) (live_from place l)) first
    ∙ map-append (facts_of soc limits) (live_of place m) (live_from (place + 1) (drop (place + 1) soc.modules))
    ∙ ap (λ l. l ++ map (facts_of soc limits) (live_from (place + 1) (drop (place + 1) soc.modules))) here
    ∙ ap (λ n. in_module limits place parent m ++ map (facts_of soc limits) (live_from n (drop n soc.modules))) (sym is) in
    ap (λ l. l ++ map (facts_of soc limits) (live_from next (drop next soc.modules))) added
    ∙ append_assoc old (in_module limits place parent m) (map (facts_of soc limits) (live_from next (drop next soc.modules)))
    ∙ ap (λ l. old ++ l) (sym split) ∙ before

-- after the last module
pub facts_done : (soc : SocValue) (limits : LimitsValue) (done whole : List TestFacts) (place : ℕ) → length soc.modules ≤ place → done ++ map (facts_of soc limits) (live_from place (drop place soc.modules)) ≡ whole → done ≡ whole
unfolding live_from
facts_done soc limits done whole place past before =
    let none : drop place soc.modules ≡ [] = drop_all place soc.modules past in
    let before' = rw none at before in
    sym (append-nil done) ∙ before'

-- from the least that a test draws
pub facts_are : (limits : LimitsValue) (place : ℕ) (parent : Option ℕ) (number : ℕ) (t : Test) (least : ℕ) → least ≡ least_power_of limits (record { «module» = number; test = t.number }) t.power → with_least place parent least ≡ facts_at limits place parent number t
facts_are limits place parent number t least is = ap (with_least place parent) is
