-- Chains under construction follow the parts that the design puts the scan chains into.
use Rattle.std.proofs.Common.{◌≡◌, ℕ, zero, suc, ◌+◌, ◌-◌, ◌≤◌, ◌<◌, max, min, Some, List, [], ◌∷◌, ◌++◌, length, map, take, drop, refl, ap, ◌∙◌, sym, arith, get_or, append_assoc, drop-cons}
use Rattle.std.specs.Prelude.{slice_get, slice_index, slice_set}
use Rattle.std.specs.List.{sum}
use Rattle.std.specs.Option.{option_map}
use Rattle.std.proofs.lemmas.Option.{get_or_from_slice_get, slice_get-map, slice_get-get_or}
use Rattle.std.proofs.lemmas.List.{take_all, drop_all, drop-drop, append-nil, map-set, map-append, take_more_set, drop-set-lt}
use Rattle.plan_model.specs.declared.ChainPlan.{ChainPlan}
use Rattle.plan_model.specs.Views.{chain_value}
use Rattle.plan_model.specs.Cells.{ChainValue}
use Rattle.plan_model.specs.Plans.{greatest}
use Rattle.wrapper_design.specs.Design.{scan_length, put_on_least, filled, scan_parts, longest_part, level, design}
use Rattle.plan_model.specs.Bounds.{quotient_up}
use Rattle.wrapper_design.specs.Loads.{IsFirstLeast}
use Rattle.wrapper_design.proofs.Parts.{put_first, push_length}

abbrev pub scans_of : ChainPlan → List ℕ
scans_of c = c.scans.items

pub put_step : (lengths : List ℕ) (ss : List (List ℕ)) (loads : List ℕ) (j c grown : ℕ) → loads ≡ map (scan_length lengths) ss → IsFirstLeast loads j → grown ≡ slice_index loads j + slice_index lengths c →
    (part : List ℕ) × (slice_get ss j ≡ Some part) × (put_on_least lengths c ss ≡ slice_set ss j (part ++ c ∷ [])) × (slice_set loads j grown ≡ map (scan_length lengths) (put_on_least lengths c ss))
put_step lengths ss loads j c grown e first is =
    let r = put_first lengths c ss j (rw e at first) in
    let here : slice_index (map (scan_length lengths) ss) j ≡ scan_length lengths r.0 = get_or_from_slice_get (map (scan_length lengths) ss) j (scan_length lengths r.0) 0 (slice_get-map (scan_length lengths) ss j ∙ ap (option_map (scan_length lengths)) r.1) in
    let same : slice_index loads j ≡ slice_index (map (scan_length lengths) ss) j = ap (λ v. slice_index v j) e in
    let new : grown ≡ scan_length lengths (r.0 ++ c ∷ []) = omega (arith, push_length lengths r.0 c) in
    (r.0, r.1, r.2, ap (λ v. slice_set v j grown) e ∙ ap (slice_set (map (scan_length lengths) ss) j) new ∙ sym (map-set (scan_length lengths) ss j (r.0 ++ c ∷ [])) ∙ ap (map (scan_length lengths)) (sym r.2))

pub chains_step : (ss : List (List ℕ)) (chains : List ChainPlan) (j c : ℕ) (d v : ChainPlan) (part : List ℕ) → map scans_of chains ≡ ss → slice_get ss j ≡ Some part → j < length chains → v.scans.items ≡ (get_or chains j d).scans.items ++ c ∷ [] → map scans_of (slice_set chains j v) ≡ slice_set ss j (part ++ c ∷ [])
chains_step ss chains j c d v part e at less is =
    let there : slice_get (map scans_of chains) j ≡ Some (scans_of (get_or chains j d)) = slice_get-map scans_of chains j ∙ ap (option_map scans_of) (slice_get-get_or chains j d less) in
    let other : slice_get (map scans_of chains) j ≡ Some part = ap (λ w. slice_get w j) e ∙ at in
    let same : scans_of (get_or chains j d) ≡ part = cc in
    map-set scans_of chains j v ∙ ap (λ w. slice_set w j v.scans.items) e ∙ ap (slice_set ss j) (is ∙ ap (λ w. w ++ c ∷ []) same)

pub greatest_grown : (xs : List ℕ) (j grown : ℕ) → j < length xs → slice_index xs j ≤ grown → greatest (slice_set xs j grown) ≡ max (greatest xs) grown
greatest_grown [] j grown less le = absurd (omega arith)
greatest_grown (x ∷ xs) zero grown less le = omega arith
greatest_grown (x ∷ xs) (suc j) grown less le = let ih : greatest (slice_set xs j grown) ≡ max (greatest xs) grown = greatest_grown xs j grown (omega arith) le in omega arith

pub fill_step : (lengths : List ℕ) (a b i o k load : ℕ) (chains : List ChainPlan) (d v : ChainPlan) (goal : List ChainValue) → k < length chains → load ≡ scan_length lengths (scans_of (get_or chains k d)) →
    v.ins ≡ min (a - load) i → v.outs ≡ min (b - load) o → scans_of v ≡ scans_of (get_or chains k d) →
    map chain_value (take k chains) ++ filled lengths a i b o (map scans_of (drop k chains)) ≡ goal →
    map chain_value (take (k + 1) (slice_set chains k v)) ++ filled lengths a (i - v.ins) b (o - v.outs) (map scans_of (drop (k + 1) (slice_set chains k v))) ≡ goal
unfolding filled
fill_step lengths a b i o k load chains d v goal less is ins outs scans done =
    let e : k + 1 ≡ suc k = omega arith in
    let split : drop k chains ≡ get_or chains k d ∷ drop (k + 1) chains = rw e (drop-cons chains k d less) in
    let front : take (k + 1) (slice_set chains k v) ≡ take k chains ++ v ∷ [] = take_more_set chains k v less in
    let back : drop (k + 1) (slice_set chains k v) ≡ drop (k + 1) chains = drop-set-lt (k + 1) chains k v (omega arith) in
    let ins' : v.ins ≡ min (a - scan_length lengths (scans_of (get_or chains k d))) i = ins ∙ ap (λ n. min (a - n) i) is in
    let outs' : v.outs ≡ min (b - scan_length lengths (scans_of (get_or chains k d))) o = outs ∙ ap (λ n. min (b - n) o) is in
    let old : map chain_value (take k chains) ++ filled lengths a i b o (scans_of (get_or chains k d) ∷ map scans_of (drop (k + 1) chains)) ≡ goal = ap (λ w. map chain_value (take k chains) ++ filled lengths a i b o (map scans_of w)) (sym split) ∙ done in
    let joined : map chain_value (take k chains ++ v ∷ []) ++ filled lengths a (i - v.ins) b (o - v.outs) (map scans_of (drop (k + 1) chains)) ≡ map chain_value (take k chains) ++ (chain_value v ∷ filled lengths a (i - v.ins) b (o - v.outs) (map scans_of (drop (k + 1) chains))) =
    ap (λ w. w ++ filled lengths a (i - v.ins) b (o - v.outs) (map scans_of (drop (k + 1) chains))) (map-append chain_value (take k chains) (v ∷ []))
    ∙ append_assoc (map chain_value (take k chains)) (chain_value v ∷ []) (filled lengths a (i - v.ins) b (o - v.outs) (map scans_of (drop (k + 1) chains))) in
    rw (front, back) (joined ∙ rw (ins', outs', scans) old)

pub fill_end : (lengths : List ℕ) (a i b o k : ℕ) (chains : List ChainPlan) (goal : List ChainValue) → length chains ≤ k →
    map chain_value (take k chains) ++ filled lengths a i b o (map scans_of (drop k chains)) ≡ goal → map chain_value chains ≡ goal
unfolding filled
fill_end lengths a i b o k chains goal h done =
    let all : take k chains ≡ chains = take_all k chains h in
    let none : drop k chains ≡ [] = drop_all k chains h in
    sym (append-nil (map chain_value chains)) ∙ (rw (all, none) at done)

pub drop_next : (chains before : List ChainPlan) (k : ℕ) (v : ChainPlan) → k < length chains → k < length before → drop k chains ≡ drop k before → drop (k + 1) (slice_set chains k v) ≡ drop (k + 1) before
drop_next chains before k v h h' e =
    drop-set-lt (k + 1) chains k v (omega arith) ∙ sym (drop-drop 1 k chains) ∙ ap (drop 1) e ∙ drop-drop 1 k before

pub load_at : (lengths loads : List ℕ) (chains before : List ChainPlan) (k : ℕ) (d : ChainPlan) → k < length chains → k < length before → drop k chains ≡ drop k before → loads ≡ map (λ (c : ChainPlan). scan_length lengths c.scans.items) before →
    get_or loads k 0 ≡ scan_length lengths (scans_of (get_or chains k d))
load_at lengths loads chains before k d h h' e is =
    let one : drop k chains ≡ get_or chains k d ∷ drop (suc k) chains = drop-cons chains k d h in
    let two : drop k before ≡ get_or before k d ∷ drop (suc k) before = drop-cons before k d h' in
    let same : get_or chains k d ≡ get_or before k d = cc in
    let there : slice_get (map (λ (c : ChainPlan). scan_length lengths c.scans.items) before) k ≡ Some (scan_length lengths (scans_of (get_or before k d))) = slice_get-map (λ (c : ChainPlan). scan_length lengths c.scans.items) before k ∙ ap (option_map (λ (c : ChainPlan). scan_length lengths c.scans.items)) (slice_get-get_or before k d h') in
    ap (λ v. get_or v k 0) is ∙ get_or_from_slice_get (map (λ (c : ChainPlan). scan_length lengths c.scans.items) before) k (scan_length lengths (scans_of (get_or before k d))) 0 there ∙ ap (λ (c : ChainPlan). scan_length lengths (scans_of c)) (sym same)

map_map : (f : List ℕ → ℕ) (cs : List ChainPlan) → map f (map scans_of cs) ≡ map (λ (c : ChainPlan). f c.scans.items) cs
map_map f [] = refl
map_map f (c ∷ cs) = ap (λ v. f (scans_of c) ∷ v) (map_map f cs)

pub design_from : (lengths : List ℕ) (flops ins outs w longest si so : ℕ) (loads : List ℕ) (before after : List ChainPlan) →
    loads ≡ map (scan_length lengths) (scan_parts lengths w) → map scans_of before ≡ scan_parts lengths w → longest ≡ greatest loads → flops ≡ sum lengths →
    si ≡ max longest (quotient_up (ins + flops) w) → so ≡ max longest (quotient_up (outs + flops) w) →
    (loads ≡ map (λ (c : ChainPlan). scan_length lengths c.scans.items) before → map chain_value after ≡ filled lengths si ins so outs (map scans_of before)) →
    map chain_value after ≡ design (record { lengths = lengths; ins = ins; outs = outs }) w
unfolding design
design_from lengths flops ins outs w longest si so loads before after is parts most sum_is si_is so_is fill =
    let loads_are : loads ≡ map (λ (c : ChainPlan). scan_length lengths c.scans.items) before = is ∙ ap (map (scan_length lengths)) (sym parts) ∙ map_map (scan_length lengths) before in
    let longest_is : longest ≡ longest_part lengths w = most ∙ ap greatest is in
    let a : si ≡ level lengths ins w = si_is ∙ rw (longest_is, sum_is) refl in
    let b : so ≡ level lengths outs w = so_is ∙ rw (longest_is, sum_is) refl in
    fill loads_are ∙ rw (a, b, parts) refl

pub at_most_greatest : (xs : List ℕ) (k d : ℕ) → k < length xs → get_or xs k d ≤ greatest xs
at_most_greatest [] k d h = absurd (omega arith)
at_most_greatest (x ∷ xs) zero d h = omega arith
at_most_greatest (x ∷ xs) (suc k) d h = let ih : get_or xs k d ≤ greatest xs = at_most_greatest xs k d (omega arith) in omega arith
