-- An accepted certificate bounds every good plan.
use Rattle.std.proofs.Common.{◌≡◌, ◌≢◌, ℕ, suc, ◌+◌, ◌≤◌, ◌<◌, Bool, true, false, Option, Some, None, List, [], ◌∷◌, length, map, take, refl, ap, ◌∙◌, sym, arith}
use Rattle.std.specs.Prelude.{slice_get, nat_eq, ◌||◌, ◌&&◌, IsTrue, if◌then◌else◌}
use Rattle.std.specs.List.{sum_by, Contains, list_any}
use Rattle.std.proofs.lemmas.Bool.{eqb-true, eq-eqb, and_parts}
use Rattle.std.proofs.lemmas.List.{length-take, get_or-take}
use Rattle.std.proofs.lemmas.List.Sums.{sum_by-cons}
use Rattle.std.proofs.lemmas.Option.{slice_get_within, get_or_from_slice_get}
use Rattle.soc_model.specs.declared.TestId.{TestId}
use Rattle.soc_model.specs.Chips.{SocValue, LiveTest, live_tests, same_test, id_of, parent_place}
use Rattle.soc_model.proofs.Parents.{IsParent-from_place}
use Rattle.soc_model.proofs.Places.{slice_get-from_position}
use Rattle.plan_model.specs.Plans.{LimitsValue, BoundValue, WhyValue, OfModule, OfPair, OfChain, OfArea, OfPower, OfForced}
use Rattle.plan_model.specs.Rules.{IsBound, Each, live_ids}
use Rattle.plan_model.specs.Bounds.{lower, sum_where, is_of, module_bound, pair_bound, lower_tam_time}
use Rattle.plan_model.specs.Certificates.{on, passes, pair_bound_of, is_called, lower_of_id, need_of, certificate_value, IsChainItem, IsForcedItem, KeepsList, IsAccepted, IsElementary}
use Rattle.soc_model.specs.Lookups.{module_place}
use Rattle.plan_model.proofs.CertificatesByPlace.{AllLive, IsChain, chain_bound, forced_bound, AreForced}
use Rattle.plan_model.proofs.Lists.{at_contains, last-take}
use Rattle.plan_model.proofs.PlannedTests.{of_first_is}
use Rattle.plan_model.proofs.TurnBounds.{module_bounds, pair_bounds, chain_bounds}
use Rattle.plan_model.proofs.Sums.{sum_by-or, sum_by-le_at}
use Rattle.plan_model.proofs.PowerAndAreaBounds.{area_bounds, power_bounds}
use Rattle.plan_model.proofs.ForcedBounds.{forced_bounds}
use Rattle.common_lemmas.proofs.Lists.{contains_at, from_map, any_at, sum_map}

nothing_bounds : (soc : SocValue) (limits : LimitsValue) → IsBound soc limits 0
nothing_bounds soc limits plan good = omega arith

-- ---- Module and Pair

family_bounds : (soc : SocValue) (limits : LimitsValue) → 1 ≤ limits.wires → (place : ℕ) → IsBound soc limits (pair_bound_of soc limits.wires place)
family_bounds soc limits some place = go (parent_place soc.modules place) refl where
  go : (o : Option ℕ) → parent_place soc.modules place ≡ o → IsBound soc limits (on o (λ parent. pair_bound soc limits.wires parent place))
  go None e = nothing_bounds soc limits
  go (Some parent) e = pair_bounds soc limits parent place some (IsParent-from_place soc.modules parent place e)

on_bounds : (soc : SocValue) (limits : LimitsValue) (f : ℕ → ℕ) → ((place : ℕ) → IsBound soc limits (f place)) → (o : Option ℕ) → IsBound soc limits (on o f)
on_bounds soc limits f each None = nothing_bounds soc limits
on_bounds soc limits f each (Some place) = each place

-- ---- Chain

-- each is the name of a live test
abbrev pub Lives : SocValue → List TestId → Type 0
Lives soc ids = (n : ℕ) (id : TestId) → slice_get ids n ≡ Some id → Contains (live_ids soc) id

-- each but the first stands behind its forerunner in a precedence
abbrev pub InLine : LimitsValue → List TestId → Type 0
InLine limits ids = (n : ℕ) (a b : TestId) → slice_get ids n ≡ Some a → slice_get ids (suc n) ≡ Some b → Contains limits.before (a, b)

pub same_test_is : (a b : TestId) → same_test a b ≡ true → a ≡ b
same_test_is a b h =
    let both = and_parts (nat_eq a.module b.module) (nat_eq a.test b.test) h in
    let m : a.module ≡ b.module = eqb-true a.module b.module both.0 in
    let t : a.test ≡ b.test = eqb-true a.test b.test both.1 in
    ap (λ (v : ℕ). the_id v a.test) m ∙ ap (λ (v : ℕ). the_id b.module v) t
  where
    the_id : ℕ → ℕ → TestId
    the_id m t = record { «module» = m; test = t }

pub is_same_test : (a : TestId) → same_test a a ≡ true
is_same_test a = rw (eq-eqb a.module a.module refl, eq-eqb a.test a.test refl) refl

-- the live test of a name
pub record Named (soc : SocValue) (w : ℕ) (id : TestId) : Type 0 where
  pub l : LiveTest
  pub live : Contains (live_tests soc) l
  pub id_is : id_of l ≡ id
  pub lower_is : lower_of_id soc w id ≡ lower w l

pub named : (soc : SocValue) (w : ℕ) (id : TestId) → Contains (live_ids soc) id → Named soc w id
named soc w id h =
    let k = contains_at (live_ids soc) id h in
    let q = from_map id_of (live_tests soc) k.0 id k.1 in
    let here : same_test (id_of q.0) id ≡ true = rw q.2 (is_same_test id) in
    let r = of_first_is (is_called id) (lower w) 0 (live_tests soc) k.0 q.0 q.1 here in
    record { l = r.1; live = at_contains (live_tests soc) r.0 r.1 r.2; id_is = same_test_is (id_of r.1) id r.3; lower_is = r.4 }

-- the live tests of these names
pub record NamedAll (soc : SocValue) (w : ℕ) (ids : List TestId) : Type 0 where
  pub ls : List LiveTest
  pub live : AllLive soc ls
  pub ids_are : map id_of ls ≡ ids
  pub value_is : sum_by (lower_of_id soc w) ids ≡ chain_bound w ls

named_all : (soc : SocValue) (w : ℕ) (ids : List TestId) → Lives soc ids → NamedAll soc w ids
named_all soc w [] live = record { ls = []; live = tt; ids_are = refl; value_is = refl }
named_all soc w (id ∷ ids) live =
    let one : Named soc w id = named soc w id (live 0 id refl) in
    let rest : NamedAll soc w ids = named_all soc w ids (λ n i at. live (suc n) i at) in
    let a : sum_by (lower_of_id soc w) (id ∷ ids) ≡ lower_of_id soc w id + sum_by (lower_of_id soc w) ids = sum_by-cons (lower_of_id soc w) id ids in
    let b : chain_bound w (one.l ∷ rest.ls) ≡ lower w one.l + chain_bound w rest.ls = sum_by-cons (lower w) one.l rest.ls in
    record { ls = one.l ∷ rest.ls; live = (one.live, rest.live); ids_are = rw (one.id_is, rest.ids_are) refl; value_is = omega (arith, one.lower_is, rest.value_is) }

in_line_chain : (limits : LimitsValue) (ls : List LiveTest) → InLine limits (map id_of ls) → IsChain limits ls
in_line_chain limits [] line = tt
in_line_chain limits (l ∷ []) line = tt
in_line_chain limits (l ∷ next ∷ ls) line = (line 0 (id_of l) (id_of next) refl refl, in_line_chain limits (next ∷ ls) (λ n a b at at'. line (suc n) a b at at'))

keeps_in_line : (soc : SocValue) (limits : LimitsValue) (ids : List TestId) → Each (IsChainItem soc limits) ids → InLine limits ids
keeps_in_line soc limits ids keeps n a b at at' = (keeps (suc n) b at').1 a (last-take ids n a at)

pub chains_bound : (soc : SocValue) (limits : LimitsValue) → 1 ≤ limits.wires → (ids : List TestId) → Each (IsChainItem soc limits) ids → IsBound soc limits (sum_by (lower_of_id soc limits.wires) ids)
chains_bound soc limits some ids keeps =
    let all : NamedAll soc limits.wires ids = named_all soc limits.wires ids (λ n id at. (keeps n id at).0) in
    let line : InLine limits ids = keeps_in_line soc limits ids keeps in
    let line' = rw (← all.ids_are) at line in
    rw all.value_is (chain_bounds soc limits all.ls some all.live (in_line_chain limits all.ls line'))

-- ---- Forced

-- the place of the module of a number, 0 where there is none
abbrev pub place_or : SocValue → ℕ → ℕ
place_or soc m = on (module_place soc m) (λ p. p)

-- the places of the modules of these numbers
abbrev pub places_of : SocValue → List ℕ → List ℕ
places_of soc ms = map (place_or soc) ms

pub some_place : (soc : SocValue) (q : ℕ → Bool) (m : ℕ) → IsTrue (passes q (module_place soc m)) → module_place soc m ≡ Some (place_or soc m)
some_place soc q m = go (module_place soc m) where
  go : (o : Option ℕ) → IsTrue (passes q o) → o ≡ Some (on o (λ p. p))
  go None h = absurd cc
  go (Some p) h = refl

-- no number stands twice
abbrev pub AreDistinct : List ℕ → Type 0
AreDistinct ps = (i j x y : ℕ) → slice_get ps i ≡ Some x → slice_get ps j ≡ Some y → i < j → x ≢ y

pub forced_sum : (soc : SocValue) (w : ℕ) (ps : List ℕ) → AreDistinct ps → sum_by (λ p. lower_tam_time soc p w) ps ≤ forced_bound soc w ps
forced_sum soc w [] apart = omega arith
forced_sum soc w (p ∷ ps) apart =
    let ih : sum_by (λ p. lower_tam_time soc p w) ps ≤ forced_bound soc w ps = forced_sum soc w ps (λ i j x y at at' less. apart (suc i) (suc j) x y at at' (omega arith)) in
    let split : sum_by (λ p. lower_tam_time soc p w) (p ∷ ps) ≡ lower_tam_time soc p w + sum_by (λ p. lower_tam_time soc p w) ps = sum_by-cons (λ p. lower_tam_time soc p w) p ps in
    let joined : lower_tam_time soc p w + forced_bound soc w ps ≡ sum_where (λ l. (l.test.tam && is_of p l) || (l.test.tam && list_any (nat_eq l.place) ps)) (lower w) soc =
    sum_by-or (λ (l : LiveTest). l.test.tam && is_of p l) (λ (l : LiveTest). l.test.tam && list_any (nat_eq l.place) ps) (lower w) (live_tests soc) never in
    let all : sum_where (λ l. (l.test.tam && is_of p l) || (l.test.tam && list_any (nat_eq l.place) ps)) (lower w) soc ≤ forced_bound soc w (p ∷ ps) =
    sum_by-le_at (λ (l : LiveTest). if (l.test.tam && is_of p l) || (l.test.tam && list_any (nat_eq l.place) ps) then lower w l else 0) (λ (l : LiveTest). if l.test.tam && list_any (nat_eq l.place) (p ∷ ps) then lower w l else 0) (live_tests soc)
    (λ i l at. same l.test.tam (nat_eq l.place p) (list_any (nat_eq l.place) ps) (lower w l)) in
    omega arith
  where
    same : (t a b : Bool) (n : ℕ) → (if (t && a) || (t && b) then n else 0) ≤ (if t && (a || b) then n else 0)
    same true true b n = omega arith
    same true false b n = omega arith
    same false a b n = omega arith

    never : (l : LiveTest) → l.test.tam && is_of p l ≡ true → l.test.tam && list_any (nat_eq l.place) ps ≡ true → ⊥
    never l a b =
        let one = and_parts l.test.tam (is_of p l) a in
        let two = and_parts l.test.tam (list_any (nat_eq l.place) ps) b in
        let at = any_at (nat_eq l.place) ps two.1 in
        let place : l.place ≡ p = eqb-true l.place p one.1 in
        apart 0 (suc at.0) p l.place refl (at.2 ∙ ap Some (sym (eqb-true l.place at.1 at.3))) (omega arith) (sym place)

forced_places : (soc : SocValue) (w b : ℕ) (ms : List ℕ) → Each (IsForcedItem soc w b) ms → AreForced soc w b (places_of soc ms)
forced_places soc w b ms keeps i j x y at at' less =
    let m = from_map (place_or soc) ms i x at in
    let n = from_map (place_or soc) ms j y at' in
    let one = keeps i m.0 m.1 in
    let two = keeps j n.0 n.1 in
    let here : module_place soc m.0 ≡ Some (place_or soc m.0) = some_place soc _ m.0 one.tam in
    let there : module_place soc n.0 ≡ Some (place_or soc n.0) = some_place soc _ n.0 two.tam in
    let here' : module_place soc m.0 ≡ Some x = here ∙ ap Some m.2 in
    let there' : module_place soc n.0 ≡ Some y = there ∙ ap Some n.2 in
    let earlier : Contains (take j ms) m.0 = contained i j m.0 m.1 less in
    let much : w < need_of soc w b m.0 + need_of soc w b n.0 = two.needs m.0 earlier in
    let much' = rw (here', there') at much in
    (λ same. two.new (rw (same_number m.0 n.0 x y here' there' same) at earlier), much')
  where
    contained : (i j m : ℕ) → slice_get ms i ≡ Some m → i < j → Contains (take j ms) m
    contained i j m at less =
        let within : i < length ms = slice_get_within ms i m at in
        (i, omega (arith, length-take j ms, slice_get_within ms i m at), get_or-take j ms i m less ∙ get_or_from_slice_get ms i m m at)

    same_number : (m n x y : ℕ) → module_place soc m ≡ Some x → module_place soc n ≡ Some y → x ≡ y → m ≡ n
    same_number m n x y a b same =
        let p : slice_get soc.keys x ≡ Some m = slice_get-from_position soc.keys m x a in
        let q : slice_get soc.keys y ≡ Some n = slice_get-from_position soc.keys n y b in
        let p' = rw same at p in
        cc

forced_list_bounds : (soc : SocValue) (limits : LimitsValue) (b : ℕ) (ms : List ℕ) → 1 ≤ limits.wires → Each (IsForcedItem soc limits.wires b) ms → b ≤ certificate_value soc limits (OfForced ms) → IsBound soc limits b
unfolding certificate_value
forced_list_bounds soc limits b ms some keeps enough =
    let forced : AreForced soc limits.wires b (places_of soc ms) = forced_places soc limits.wires b ms keeps in
    let by_places : sum_by (λ m. on (module_place soc m) (λ p. lower_tam_time soc p limits.wires)) ms ≤ sum_by (λ m. lower_tam_time soc (place_or soc m) limits.wires) ms =
    sum_by-le_at (λ m. on (module_place soc m) (λ p. lower_tam_time soc p limits.wires)) (λ m. lower_tam_time soc (place_or soc m) limits.wires) ms (λ i m at. least (module_place soc m)) in
    let mapped : sum_by (λ p. lower_tam_time soc p limits.wires) (places_of soc ms) ≡ sum_by (λ m. lower_tam_time soc (place_or soc m) limits.wires) ms = sum_map (λ p. lower_tam_time soc p limits.wires) (place_or soc) ms in
    let all : sum_by (λ p. lower_tam_time soc p limits.wires) (places_of soc ms) ≤ forced_bound soc limits.wires (places_of soc ms) = forced_sum soc limits.wires (places_of soc ms) (λ i j x y at at' less. (forced i j x y at at' less).0) in
    forced_bounds soc limits b (places_of soc ms) some forced (omega arith)
  where
    least : (o : Option ℕ) → on o (λ p. lower_tam_time soc p limits.wires) ≤ lower_tam_time soc (on o (λ p. p)) limits.wires
    least None = omega arith
    least (Some p) = omega arith

-- ---- all kinds

below : (soc : SocValue) (limits : LimitsValue) (b n : ℕ) → b ≤ n → IsBound soc limits n → IsBound soc limits b
below soc limits b n few bound plan good = omega (arith, bound plan good)

pub accepted_bounds : (soc : SocValue) (limits : LimitsValue) (bound : BoundValue) → 1 ≤ limits.wires → IsAccepted soc limits bound → IsBound soc limits bound.cycles
unfolding certificate_value
accepted_bounds soc limits bound some ok = go bound.why ok.keeps ok.enough where
  go : (why : WhyValue) → KeepsList soc limits bound.cycles why → bound.cycles ≤ certificate_value soc limits why → IsBound soc limits bound.cycles
  go (OfModule m) keeps enough = below soc limits bound.cycles _ enough (on_bounds soc limits (module_bound soc limits.wires) (λ place. module_bounds soc limits place some) (module_place soc m))
  go (OfPair m) keeps enough = below soc limits bound.cycles _ enough (on_bounds soc limits (pair_bound_of soc limits.wires) (λ place. family_bounds soc limits some place) (module_place soc m))
  go (OfChain tests) keeps enough = below soc limits bound.cycles _ enough (chains_bound soc limits some tests keeps)
  go OfArea keeps enough = below soc limits bound.cycles _ enough (area_bounds soc limits some)
  go OfPower keeps enough = below soc limits bound.cycles _ enough (power_bounds soc limits some)
  go (OfForced ms) keeps enough = forced_list_bounds soc limits bound.cycles ms some keeps enough

-- an elementary value can be claimed
pub elementary_bounds : (soc : SocValue) (limits : LimitsValue) (n : ℕ) → 1 ≤ limits.wires → IsElementary soc limits n → IsBound soc limits n
elementary_bounds soc limits n some e = accepted_bounds soc limits (record { cycles = n; why = e.why }) some (record { keeps = e.keeps; enough = omega (arith, e.value) })
