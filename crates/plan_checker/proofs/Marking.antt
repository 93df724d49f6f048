-- Marks of modules, module by module and bus by bus.
use Rattle.std.proofs.Common.{◌≡◌, ℕ, suc, ◌+◌, ◌≤◌, ◌<◌, true, false, eqb, Option, Some, None, List, [], ◌∷◌, ◌++◌, length, set, take, drop, refl, ap, ◌∙◌, sym, arith, inl, inr, ◌⊎◌, eq-eqb, true≢false, append_assoc, slice_get, slice_index, if◌then◌else◌, IfSome, flat_map, Contains}
use Rattle.std.specs.List.{list_any}
use Rattle.std.proofs.lemmas.Bool.{cases_Bool, cases_eq, eqb-true, ne_eqb}
use Rattle.std.proofs.lemmas.List.{take_more, take_all, length-take-le, append-nil}
use Rattle.std.proofs.lemmas.Option.{slice_get_within, get_or_from_slice_get}
use Rattle.soc_model.specs.Chips.{SocValue, ModuleValue, numbers}
use Rattle.plan_model.specs.Plans.{BusValue, PlanValue, bus_place}
use Rattle.plan_model.specs.Rules.{Each, IsFirstBreach, IsNew, IsListed, has_tam, listed}
use Rattle.plan_model.proofs.Lists.{any_from, in_flat_map}
use Rattle.plan_checker.specs.Marks.{AreMarks, IsUnlisted, AreMarked, AreMarkedTo, AreBusesBy}
use Rattle.plan_checker.proofs.Finding.{some_same, number_at}
use Rattle.plan_checker.specs.Broken.{EachOf}
use Rattle.plan_model.proofs.FirstBreaches.{EachTo}
use Rattle.plan_checker.proofs.Firsts.{Behind, each_append, first_front, first_behind}
use Rattle.plan_checker.proofs.Breaking.{flat_split, flat_more_at}
use Rattle.live_tests.proofs.WrittenParents.{set_else}
use Rattle.common_lemmas.proofs.Lists.{any_at, set_here, contains_from, contains_at}

pub any_contains : (n : ℕ) (xs : List ℕ) → list_any (eqb n) xs ≡ true → Contains xs n
any_contains n xs h =
    let r = any_at (eqb n) xs h in
    contains_from xs n r.0 (r.2 ∙ ap Some (sym (eqb-true n r.1 r.3)))

pub contains_any : (n : ℕ) (xs : List ℕ) → Contains xs n → list_any (eqb n) xs ≡ true
contains_any n xs c = let k = contains_at xs n c in any_from (eqb n) xs k.0 n k.1 (eq-eqb n n refl)

any_push : (n : ℕ) (xs : List ℕ) (x : ℕ) → list_any (eqb n) (xs ++ x ∷ []) ≡ (if eqb n x then true else list_any (eqb n) xs)
any_push n [] x = elim (cases_Bool (eqb n x)) [ inl yes' ↦ rw yes' refl | inr no' ↦ rw no' refl ]
any_push n (y ∷ ys) x = elim (cases_Bool (eqb n y)) [
  | inl yes' ↦ rw yes' (elim (cases_Bool (eqb n x)) [ inl a ↦ rw a refl | inr a ↦ rw a refl ])
  | inr no' ↦ rw no' (any_push n ys x)
]

abbrev pub mark_of : ℕ → List ℕ → ℕ → List ℕ → ℕ → ℕ
mark_of n listed bus old p = if list_any (eqb n) listed then bus else slice_index old p

-- the module at a place is unmarked: it is on no bus, and not among those before it
pub unmarked : (numbers : List ℕ) (count bus : ℕ) (old marks earlier : List ℕ) (q x : ℕ) → bus < count → AreMarks numbers count old → AreMarked numbers old bus earlier marks → ((i j y : ℕ) → slice_get numbers i ≡ Some y → slice_get numbers j ≡ Some y → i ≡ j) →
    slice_get numbers q ≡ Some x → count ≤ slice_index marks q → IsUnlisted numbers count old earlier x
unmarked numbers count bus old marks earlier q x less are marked differ at high p there =
    let same : p ≡ q = differ p q x there at in
    let m : slice_index marks q ≡ mark_of x earlier bus old q = get_or_from_slice_get marks q (mark_of x earlier bus old q) 0 (marked q x at) in
    let b = are q x at in
    let is : slice_index old q ≡ b.0 = get_or_from_slice_get old q b.0 0 b.1 in
    rw same (elim (cases_Bool (list_any (eqb x) earlier)) [
      | inl yes' ↦ let m' = rw yes' at m in absurd (omega arith)
      | inr no' ↦ let m' = rw no' at m in (omega (arith, b.2), λ c. true≢false (sym (contains_any x earlier c) ∙ no'))
    ])

-- a module with a mark is listed already
pub marked_before : (numbers : List ℕ) (count bus : ℕ) (old marks earlier : List ℕ) (q x : ℕ) → AreMarked numbers old bus earlier marks → slice_get numbers q ≡ Some x → slice_index marks q < count → IsUnlisted numbers count old earlier x → ⊥
marked_before numbers count bus old marks earlier q x marked at low unlisted =
    let m : slice_index marks q ≡ mark_of x earlier bus old q = get_or_from_slice_get marks q (mark_of x earlier bus old q) 0 (marked q x at) in
    let u = unlisted q at in
    elim (cases_Bool (list_any (eqb x) earlier)) [
      | inl yes' ↦ u.1 (any_contains x earlier yes')
      | inr no' ↦ let m' = rw no' at m in omega (arith, u.0)
    ]

pub mark_more : (numbers : List ℕ) (bus : ℕ) (old marks listed : List ℕ) (i q x : ℕ) → AreMarked numbers old bus (take i listed) marks → ((i j y : ℕ) → slice_get numbers i ≡ Some y → slice_get numbers j ≡ Some y → i ≡ j) →
    slice_get listed i ≡ Some x → slice_get numbers q ≡ Some x → AreMarked numbers old bus (take (i + 1) listed) (set marks q bus)
mark_more numbers bus old marks listed i q x marked differ at there p n here =
    let more : take (i + 1) listed ≡ take i listed ++ x ∷ [] = take_more listed i x (slice_get_within listed i x at) ∙ ap (λ v. take i listed ++ v ∷ []) (get_or_from_slice_get listed i x x at) in
    rw (more, any_push n (take i listed) x) (elim (cases_eq p q) [
      | inl same ↦
          let one : n ≡ x = some_same (sym here ∙ ap (slice_get numbers) same ∙ there) in
          let within : q < length marks = slice_get_within marks q (mark_of x (take i listed) bus old q) (marked q x there) in
          rw (same, eq-eqb n x one) (set_here marks q bus within)
      | inr other ↦
          let apart : eqb n x ≡ false = ne_eqb n x (λ e. other (differ p q x (here ∙ ap Some e) there)) in
          rw apart (set_else marks q p bus other ∙ marked p n here)
    ])

-- ---- bus by bus

any_append : (n : ℕ) (xs ys : List ℕ) → list_any (eqb n) (xs ++ ys) ≡ (if list_any (eqb n) xs then true else list_any (eqb n) ys)
any_append n [] ys = refl
any_append n (x ∷ xs) ys = elim (cases_Bool (eqb n x)) [
  | inl yes' ↦ rw yes' refl
  | inr no' ↦ rw no' (any_append n xs ys)
]

flat_push : (bs : List BusValue) (b : BusValue) → flat_map (λ (b : BusValue). b.modules) (bs ++ b ∷ []) ≡ flat_map (λ (b : BusValue). b.modules) bs ++ b.modules
flat_push [] b = append-nil b.modules
flat_push (c ∷ cs) b = rw (flat_push cs b) (sym (append_assoc c.modules (flat_map (λ (b : BusValue). b.modules) cs) b.modules))

place_found : (n base : ℕ) (bs : List BusValue) → list_any (eqb n) (flat_map (λ (b : BusValue). b.modules) bs) ≡ true → bus_place n base bs < base + length bs
place_found n base [] h = absurd (true≢false (sym h))
place_found n base (b ∷ bs) h = elim (cases_Bool (list_any (eqb n) b.modules)) [
  | inl yes' ↦ rw yes' (omega arith)
  | inr no' ↦
      let h' = rw (any_append n b.modules (flat_map (λ (b : BusValue). b.modules) bs), no') at h in
      let ih : bus_place n (base + 1) bs < base + 1 + length bs = place_found n (base + 1) bs h' in
      rw no' (omega arith)
]

place_missing : (n base : ℕ) (bs : List BusValue) → list_any (eqb n) (flat_map (λ (b : BusValue). b.modules) bs) ≡ false → bus_place n base bs ≡ base + length bs
place_missing n base [] h = omega arith
place_missing n base (b ∷ bs) h = elim (cases_Bool (list_any (eqb n) b.modules)) [
  | inl yes' ↦ absurd (true≢false (sym (rw (any_append n b.modules (flat_map (λ (b : BusValue). b.modules) bs), yes') refl) ∙ h))
  | inr no' ↦
      let h' = rw (any_append n b.modules (flat_map (λ (b : BusValue). b.modules) bs), no') at h in
      let ih : bus_place n (base + 1) bs ≡ base + 1 + length bs = place_missing n (base + 1) bs h' in
      rw no' (omega arith)
]

place_push : (n base : ℕ) (bs : List BusValue) (b : BusValue) → bus_place n base (bs ++ b ∷ []) ≡ (if list_any (eqb n) (flat_map (λ (b : BusValue). b.modules) bs) then bus_place n base bs else (if list_any (eqb n) b.modules then base + length bs else base + length bs + 1))
place_push n base [] b = elim (cases_Bool (list_any (eqb n) b.modules)) [ inl yes' ↦ rw yes' (omega arith) | inr no' ↦ rw no' (omega arith) ]
place_push n base (c ∷ cs) b = elim (cases_Bool (list_any (eqb n) c.modules)) [
  | inl yes' ↦ rw (any_append n c.modules (flat_map (λ (b : BusValue). b.modules) cs), yes') refl
  | inr no' ↦
      let a : base + suc (length cs) ≡ base + 1 + length cs = omega arith in
      rw (any_append n c.modules (flat_map (λ (b : BusValue). b.modules) cs), no', a) (place_push n (base + 1) cs b)
]

pub marks_bound : (numbers : List ℕ) (count : ℕ) (bs : List BusValue) (marks : List ℕ) → length bs ≤ count → AreMarkedTo numbers count bs marks → AreMarks numbers count marks
marks_bound numbers count bs marks few marked p n at = elim (cases_Bool (list_any (eqb n) (flat_map (λ (b : BusValue). b.modules) bs))) [
  | inl yes' ↦ let m = rw yes' at (marked p n at) in (bus_place n 0 bs, m, omega (arith, place_found n 0 bs yes'))
  | inr no' ↦ let m = rw no' at (marked p n at) in (count, m, omega arith)
]

-- a module without a mark isn't listed by the buses so far, and the other way round
pub is_new : (numbers : List ℕ) (count : ℕ) (bs : List BusValue) (marks earlier : List ℕ) (x : ℕ) → length bs ≤ count → AreMarkedTo numbers count bs marks → Contains numbers x → IsUnlisted numbers count marks earlier x → Contains (flat_map (λ (b : BusValue). b.modules) bs ++ earlier) x → ⊥
is_new numbers count bs marks earlier x few marked known unlisted c =
    let p = contains_at numbers x known in
    let u = unlisted p.0 p.1 in
    let any = contains_any x (flat_map (λ (b : BusValue). b.modules) bs ++ earlier) c in
    elim (cases_Bool (list_any (eqb x) (flat_map (λ (b : BusValue). b.modules) bs))) [
      | inl yes' ↦
          let m = rw yes' at (marked p.0 x p.1) in
          let is : slice_index marks p.0 ≡ bus_place x 0 bs = get_or_from_slice_get marks p.0 (bus_place x 0 bs) 0 m in
          omega (arith, u.0, place_found x 0 bs yes')
      | inr no' ↦
          let any' = rw (any_append x (flat_map (λ (b : BusValue). b.modules) bs) earlier, no') at any in
          u.1 (any_contains x earlier any')
    ]

pub is_unlisted : (numbers : List ℕ) (count : ℕ) (bs : List BusValue) (marks earlier : List ℕ) (x : ℕ) → AreMarkedTo numbers count bs marks → (Contains (flat_map (λ (b : BusValue). b.modules) bs ++ earlier) x → ⊥) → IsUnlisted numbers count marks earlier x
is_unlisted numbers count bs marks earlier x marked new p at =
    elim (cases_Bool (list_any (eqb x) (flat_map (λ (b : BusValue). b.modules) bs))) [
      | inl yes' ↦ absurd (new (any_contains x (flat_map (λ (b : BusValue). b.modules) bs ++ earlier) (any_append x (flat_map (λ (b : BusValue). b.modules) bs) earlier ∙ rw yes' refl)))
      | inr no' ↦
          let m = rw no' at (marked p x at) in
          (get_or_from_slice_get marks p count 0 m, λ c. new (any_contains x (flat_map (λ (b : BusValue). b.modules) bs ++ earlier) (any_append x (flat_map (λ (b : BusValue). b.modules) bs) earlier ∙ rw no' (contains_any x earlier c))))
    ]

-- one more bus
pub bus_more : (numbers : List ℕ) (count : ℕ) (bs : List BusValue) (b : BusValue) (old marks : List ℕ) → AreMarkedTo numbers count bs old → Each (IsUnlisted numbers count old) b.modules → length bs < count → AreMarked numbers old (length bs) b.modules marks → AreMarkedTo numbers count (bs ++ b ∷ []) marks
bus_more numbers count bs b old marks marked new few now p n at =
    let m = marked p n at in
    let is : slice_index old p ≡ (if list_any (eqb n) (flat_map (λ (b : BusValue). b.modules) bs) then bus_place n 0 bs else count) = get_or_from_slice_get old p _ 0 m in
    now p n at ∙ ap Some (rw (flat_push bs b, any_append n (flat_map (λ (b : BusValue). b.modules) bs) b.modules, place_push n 0 bs b, is) (go (cases_Bool (list_any (eqb n) (flat_map (λ (b : BusValue). b.modules) bs))) (cases_Bool (list_any (eqb n) b.modules)) is))
  where
    go : (list_any (eqb n) (flat_map (λ (b : BusValue). b.modules) bs) ≡ true) ⊎ (list_any (eqb n) (flat_map (λ (b : BusValue). b.modules) bs) ≡ false) → (list_any (eqb n) b.modules ≡ true) ⊎ (list_any (eqb n) b.modules ≡ false) →
        slice_index old p ≡ (if list_any (eqb n) (flat_map (λ (b : BusValue). b.modules) bs) then bus_place n 0 bs else count) →
        (if list_any (eqb n) b.modules then length bs else (if list_any (eqb n) (flat_map (λ (b : BusValue). b.modules) bs) then bus_place n 0 bs else count)) ≡
        (if (if list_any (eqb n) (flat_map (λ (b : BusValue). b.modules) bs) then true else list_any (eqb n) b.modules) then (if list_any (eqb n) (flat_map (λ (b : BusValue). b.modules) bs) then bus_place n 0 bs else (if list_any (eqb n) b.modules then 0 + length bs else 0 + length bs + 1)) else count)
    go (inl listed) (inl here) is =
        let k = contains_at b.modules n (any_contains n b.modules here) in
        let u = new k.0 n k.1 p at in
        let is' = rw listed at is in
        absurd (omega (arith, u.0, is', place_found n 0 bs listed))
    go (inl listed) (inr away) is = rw (listed, away) refl
    go (inr unlisted) (inl here) is = rw (unlisted, here) (omega arith)
    go (inr unlisted) (inr away) is = rw (unlisted, away) refl

abbrev pub modules_on : List BusValue → List ℕ
modules_on bs = flat_map (λ (b : BusValue). b.modules) bs

pub double_first : (numbers : List ℕ) (count : ℕ) (bs : List BusValue) (i : ℕ) (b : BusValue) (marks : List ℕ) (r : Option ℕ) → slice_get bs i ≡ Some b → length (take i bs) ≤ count → AreMarkedTo numbers count (take i bs) marks → EachOf (Contains numbers) b.modules → Each IsNew (modules_on (take i bs)) →
    IfSome r (λ m. (n : ℕ) × IsFirstBreach (IsUnlisted numbers count marks) b.modules n m) → IfSome r (λ m. (n : ℕ) × IsFirstBreach IsNew (modules_on bs) n m)
double_first numbers count bs i b marks None at few marked known new f = tt
double_first numbers count bs i b marks (Some m) at few marked known new f =
    let here : IsFirstBreach (Behind (modules_on (take i bs)) IsNew) b.modules f.0 m = record {
      there = f.1.there;
      breaks = λ h. f.1.breaks (is_unlisted numbers count (take i bs) marks (take f.0 b.modules) m marked h);
      earlier = λ k y less at'. is_new numbers count (take i bs) marks (take k b.modules) y few marked (known k y at') (f.1.earlier k y less at');
    } in
    let front = first_front (Behind (modules_on (take i bs)) IsNew) b.modules (modules_on (drop (suc i) bs)) f.0 m here in
    let whole = first_behind IsNew (modules_on (take i bs)) (b.modules ++ modules_on (drop (suc i) bs)) f.0 m new front in
    (length (modules_on (take i bs)) + f.0, rw (flat_split (λ (b : BusValue). b.modules) bs i b (slice_get_within bs i b at) (get_or_from_slice_get bs i b b at)) whole)

pub still_new : (numbers : List ℕ) (count : ℕ) (bs : List BusValue) (i : ℕ) (b : BusValue) (marks : List ℕ) → slice_get bs i ≡ Some b → length (take i bs) ≤ count → AreMarkedTo numbers count (take i bs) marks → EachOf (Contains numbers) b.modules → Each IsNew (modules_on (take i bs)) → Each (IsUnlisted numbers count marks) b.modules → Each IsNew (modules_on (take (i + 1) bs))
still_new numbers count bs i b marks at few marked known new here =
    rw (flat_more_at (λ (b : BusValue). b.modules) bs i b at) (each_append IsNew (modules_on (take i bs)) b.modules new (λ n x at'. is_new numbers count (take i bs) marks (take n b.modules) x few marked (known n x at') (here n x at')))

pub marked_more : (numbers : List ℕ) (count : ℕ) (bs : List BusValue) (i : ℕ) (b : BusValue) (old marks : List ℕ) → slice_get bs i ≡ Some b → length bs ≡ count → AreMarkedTo numbers count (take i bs) old → Each (IsUnlisted numbers count old) b.modules → AreMarked numbers old i b.modules marks → AreMarkedTo numbers count (take (i + 1) bs) marks
marked_more numbers count bs i b old marks at all marked new now =
    let within : i < length bs = slice_get_within bs i b at in
    let long : length (take i bs) ≡ i = length-take-le i bs (omega arith) in
    let more : take (i + 1) bs ≡ take i bs ++ b ∷ [] = take_more bs i b within ∙ ap (λ v. take i bs ++ v ∷ []) (get_or_from_slice_get bs i b b at) in
    rw more (bus_more numbers count (take i bs) b old marks marked new (omega arith) (rw long now))

pub known_on : (Q : ℕ → Type 0) (bs : List BusValue) (i : ℕ) (b : BusValue) → slice_get bs i ≡ Some b → EachOf Q (modules_on bs) → EachOf Q b.modules
known_on Q bs i b at known n x at' = let k = in_flat_map (λ (b : BusValue). b.modules) bs i n b x at at' in known k.0 x k.1

pub marked_all : (numbers : List ℕ) (bs : List BusValue) (marks : List ℕ) (i : ℕ) → length bs ≤ i → AreMarkedTo numbers (length bs) (take i bs) marks → AreBusesBy numbers bs marks
marked_all numbers bs marks i all marked p n at =
    let m = rw (take_all i bs all) at (marked p n at) in
    elim (cases_Bool (list_any (eqb n) (modules_on bs))) [
      | inl yes' ↦ rw yes' at m
      | inr no' ↦ let none : bus_place n 0 bs ≡ length bs = place_missing n 0 bs no' ∙ omega arith in rw none (rw no' at m)
    ]

-- ---- modules on no bus

pub is_placed : (soc : SocValue) (plan : PlanValue) (marks : List ℕ) (count p : ℕ) (m : ModuleValue) → AreBusesBy (numbers soc) plan.buses marks → count ≡ length plan.buses → slice_get soc.modules p ≡ Some m → slice_index marks p < count → Contains (listed plan) m.number
is_placed soc plan marks count p m marked all at less = elim (cases_Bool (list_any (eqb m.number) (modules_on plan.buses))) [
  | inl yes' ↦ any_contains m.number (modules_on plan.buses) yes'
  | inr no' ↦
      let is : slice_index marks p ≡ bus_place m.number 0 plan.buses = get_or_from_slice_get marks p (bus_place m.number 0 plan.buses) 0 (marked p m.number (number_at soc.modules p m at)) in
      absurd (omega (arith, place_missing m.number 0 plan.buses no'))
]

pub isnt_placed : (soc : SocValue) (plan : PlanValue) (marks : List ℕ) (count p : ℕ) (m : ModuleValue) → AreBusesBy (numbers soc) plan.buses marks → count ≡ length plan.buses → slice_get soc.modules p ≡ Some m → count ≤ slice_index marks p → Contains (listed plan) m.number → ⊥
isnt_placed soc plan marks count p m marked all at more there =
    let is : slice_index marks p ≡ bus_place m.number 0 plan.buses = get_or_from_slice_get marks p (bus_place m.number 0 plan.buses) 0 (marked p m.number (number_at soc.modules p m at)) in
    omega (arith, place_found m.number 0 plan.buses (contains_any m.number (modules_on plan.buses) there))

pub all_placed : (soc : SocValue) (plan : PlanValue) (marks : List ℕ) (count n : ℕ) → AreBusesBy (numbers soc) plan.buses marks → count ≡ length plan.buses → ((p : ℕ) (m : ModuleValue) → p < n → slice_get soc.modules p ≡ Some m → has_tam m ≡ true → slice_index marks p < count) → EachTo (IsListed plan) soc.modules n
all_placed soc plan marks count n marked all h p m less at wired = is_placed soc plan marks count p m marked all at (h p m less at wired)
