-- The chip of parts as it is made, module by module, and lists of parts as they grow.
use Rattle.std.proofs.Common.{◌≡◌, ℕ, zero, suc, ◌+◌, ◌<◌, ◌≤◌, ◌^◌, Bool, true, false, Some, None, List, [], ◌∷◌, ◌++◌, length, get_or, drop, map, take, position, nat_eq, refl, sym, ap, ◌∙◌, append_assoc, arith, slice_get, find, flat_map, All, sum_by}
use Rattle.std.specs.List.{list_any, range_with_len}
use Rattle.std.proofs.lemmas.Bool.Decides.{nat_tests}
use Rattle.std.proofs.lemmas.List.{map-append, append-nil, length-map, take_more, drop_more, get_or-map}
use Rattle.std.proofs.lemmas.List.Elements.{All-nil, All-tail}
use Rattle.std.proofs.lemmas.List.FromFn.{map-range_with_len_more}
use Rattle.std.proofs.lemmas.List.Quantifiers.{position-Some}
use Rattle.std.proofs.lemmas.Option.{slice_get_within}
use Rattle.soc_model.specs.declared.Test.{Test}
use Rattle.soc_model.specs.declared.TestId.{TestId}
use Rattle.soc_model.specs.Chips.{ModuleValue, SocValue, numbers, same_test, module_value}
use Rattle.soc_model.specs.Lookups.{has_module_number}
use Rattle.soc_model.specs.SoundChips.{AllDiffer, IsSoundChip}
use Rattle.soc_model.proofs.Sums.{IsBounded, small_module}
use Rattle.plan_model.specs.declared.Profile.{Profile}
use Rattle.plan_model.specs.Plans.{LimitsValue, ProfileValue, greatest, of_first}
use Rattle.plan_model.specs.Views.{profile_value}
use Rattle.plan_model.proofs.Finding.{none_passes}
use Rattle.live_tests.specs.Names.{AllDiffer as Differ}
use Rattle.split_plan.specs.declared.cuts.Cut.{Cut}
use Rattle.split_plan.specs.Cuts.{part_count, cut_of, cuts_from, cuts_in, all_cuts, cut_named, peak, part_id}
use Rattle.split_plan.specs.Parts.{split_module, split_chip}
use Rattle.split_plan.specs.Steps.{HasRoom, wholes, profiled}
use Rattle.split_plan.proofs.Lists.{find_none}
use Rattle.split_plan.proofs.CutTests.{are_parts, nth_part}
use Rattle.common_lemmas.proofs.Lists.{map_at, any_at, from_map, at_left}
use Rattle.std.proofs.lemmas.List.Sums.{sum_by-cons}
use Rattle.soc_model.specs.declared.Module.{Module}
use Rattle.soc_model.specs.Sizes.{HasSmall}

-- ---- lists that grow

-- the whole list after what is left of it was added
pub moved_on : {X : Type 0} (old new here rest whole : List X) → new ≡ old ++ here → old ++ (here ++ rest) ≡ whole → new ++ rest ≡ whole
moved_on old new here rest whole e f = ap (λ l. l ++ rest) e ∙ append_assoc old here rest ∙ f

-- one item more
pub map_more : {X Y : Type 0} (f : X → Y) (xs : List X) (i : ℕ) (d : X) (old new : List Y) → i < length xs → old ≡ map f (take i xs) →
    new ≡ old ++ f (get_or xs i d) ∷ [] → new ≡ map f (take (i + 1) xs)
map_more f xs i d old new less so_far added = rw (added, so_far, take_more xs i d less, map-append) refl

-- one part more
pub piece_more : {Y : Type 0} (f : Cut × ℕ → Y) (c : Cut) (k : ℕ) (start old new : List Y) →
    old ≡ start ++ map f (map (λ (k : ℕ). (c, k)) (range_with_len 0 k)) → new ≡ old ++ f (c, k) ∷ [] →
    new ≡ start ++ map f (map (λ (k : ℕ). (c, k)) (range_with_len 0 (k + 1)))
piece_more f c k start old new so_far added =
    rw (added, so_far, map-range_with_len_more (nth_part c) 0 k k (omega arith)) (simp (map-append, append_assoc))

-- ---- cut tests

module _ (limits : LimitsValue) (most : ℕ) where
  module _ (home number : ℕ) where
    -- the numbers of a cut test fit
    pub room_of : (t : Test) → 1 ≤ most → t.patterns < 10 ^ 12 → number ≤ 10 ^ 17 → HasRoom (cut_of limits most home number t)
    room_of t some small few =
        let parts = are_parts most t some in
        record { some = parts.some; patterns = small; begins = parts.begins; numbers = omega arith }

    -- one test more
    pub cuts_more : (ts : List Test) (i : ℕ) (d : Test) (cut : Cut) (old new whole : List Cut) → i < length ts →
        cut ≡ cut_of limits most home number (get_or ts i d) → old ++ cuts_from limits most home number (drop i ts) ≡ whole → new ≡ old ++ cut ∷ [] →
        new ++ cuts_from limits most home (number + cut.count) (drop (i + 1) ts) ≡ whole
    cuts_more ts i d cut old new whole less is so_far =
        rw is by
      where
        by : new ≡ old ++ cut_of limits most home number (get_or ts i d) ∷ [] → new ++ cuts_from limits most home (number + part_count most (get_or ts i d)) (drop (i + 1) ts) ≡ whole
        by added =
            let next = ap (cuts_from limits most home number) (drop_more ts i d less) in
            moved_on old new (cut_of limits most home number (get_or ts i d) ∷ []) (cuts_from limits most home (number + part_count most (get_or ts i d)) (drop (i + 1) ts)) whole added (ap (λ l. old ++ l) (sym next) ∙ so_far)

  -- ---- the chip

  module _ (soc : SocValue) where
    module _ (made : SocValue) where
      -- the modules that are left, the chip that was made of those before them, and their cut tests
      pub record IsMaking (cuts : List Cut) (left : List ModuleValue) : Type 0 where
        pub name : made.name ≡ soc.name
        pub power_flag : made.power_flag ≡ soc.power_flag
        pub xy_flag : made.xy_flag ≡ soc.xy_flag
        pub keys : made.keys ++ map (λ (m : ModuleValue). m.number) left ≡ soc.keys
        pub modules : made.modules ++ map (split_module limits most) left ≡ map (split_module limits most) soc.modules
        pub cut : cuts ++ flat_map (cuts_in limits most) left ≡ all_cuts limits most soc
        pub bounded : All IsBounded left
        pub room : All HasRoom cuts

      -- nothing is made yet
      pub making_starts : (cuts : List Cut) (left : List ModuleValue) → made ≡ record soc { keys = []; modules = [] } → cuts ≡ [] →
          soc.modules ≡ left → soc.keys ≡ numbers soc → All IsBounded soc.modules → IsMaking cuts left
      making_starts cuts left is none all keyed bounded =
          rw (← all)
          (rw none
          (rw is
          (record { name = refl; power_flag = refl; xy_flag = refl; keys = sym keyed; modules = refl; cut = refl; bounded = bounded; room = All-nil HasRoom })))

      -- the number of the next module isn't there
      pub next_is_new : (cuts : List Cut) (m : ModuleValue) (rest : List ModuleValue) → IsSoundChip soc → IsMaking cuts (m ∷ rest) →
          has_module_number made m.number ≡ false
      next_is_new cuts m rest sound making = by (list_any (nat_eq m.number) made.keys) refl
        where
          behind : (xs : List ℕ) (x : ℕ) (ys : List ℕ) → slice_get (xs ++ x ∷ ys) (length xs) ≡ Some x
          behind [] x ys = refl
          behind (y ∷ xs) x ys = behind xs x ys

          by : (b : Bool) → list_any (nat_eq m.number) made.keys ≡ b → b ≡ false
          by false e = refl
          by true e =
              let a = any_at (nat_eq m.number) made.keys e in
              let same : a.1 ≡ m.number = grind (arith, nat_tests) in
              let first = ap (λ l. slice_get l a.0) (sym making.keys) ∙ at_left made.keys (m.number ∷ map (λ (m : ModuleValue). m.number) rest) a.0 m.number (a.2 ∙ ap Some same) in
              let second = ap (λ l. slice_get l (length made.keys)) (sym making.keys) ∙ behind made.keys m.number (map (λ (m : ModuleValue). m.number) rest) in
              let differ : AllDiffer soc.keys = rw sound.keyed sound.modules_differ in
              let place = differ a.0 (length made.keys) m.number first second in
              let within = slice_get_within made.keys a.0 a.1 a.2 in
              absurd (omega arith)

    -- one module more
    pub making_goes_on : (old new : SocValue) (cuts cuts' : List Cut) (m : ModuleValue) (rest : List ModuleValue) → IsMaking old cuts (m ∷ rest) →
        new ≡ record old { keys = old.keys ++ m.number ∷ []; modules = old.modules ++ split_module limits most m ∷ [] } →
        cuts' ≡ cuts ++ cuts_in limits most m → All HasRoom cuts' → IsMaking new cuts' rest
    making_goes_on old new cuts cuts' m rest making is added room =
        rw is
        (record {
          name = making.name;
          power_flag = making.power_flag;
          xy_flag = making.xy_flag;
          keys = append_assoc old.keys (m.number ∷ []) (map (λ (m : ModuleValue). m.number) rest) ∙ making.keys;
          modules = append_assoc old.modules (split_module limits most m ∷ []) (map (split_module limits most) rest) ∙ making.modules;
          cut = moved_on cuts cuts' (cuts_in limits most m) (flat_map (cuts_in limits most) rest) (all_cuts limits most soc) added making.cut;
          bounded = All-tail IsBounded m rest making.bounded;
          room = room;
        })

    -- all is made
    pub all_made : (made : SocValue) (cuts : List Cut) → IsMaking made cuts [] → (made ≡ split_chip limits most soc) × (cuts ≡ all_cuts limits most soc)
    all_made made cuts making =
        let keys = sym (append-nil made.keys) ∙ making.keys in
        let modules = sym (append-nil made.modules) ∙ making.modules in
        let chip =
        ap (λ n. the_chip n made.power_flag made.xy_flag made.keys made.modules) making.name
        ∙ ap (λ b. the_chip soc.name b made.xy_flag made.keys made.modules) making.power_flag
        ∙ ap (λ b. the_chip soc.name soc.power_flag b made.keys made.modules) making.xy_flag
        ∙ ap (λ ks. the_chip soc.name soc.power_flag soc.xy_flag ks made.modules) keys
        ∙ ap (the_chip soc.name soc.power_flag soc.xy_flag soc.keys) modules in
        (chip, sym (append-nil cuts) ∙ making.cut)
      where
        the_chip : List ℕ → Bool → Bool → List ℕ → List ModuleValue → SocValue
        the_chip n p x ks ms = record { name = n; power_flag = p; xy_flag = x; keys = ks; modules = ms }

-- ---- what is found first

-- the place of a name finds its cut test
find_first : (p : Cut → Bool) (cs : List Cut) (k : ℕ) (d : Cut) → k < length cs → p (get_or cs k d) ≡ true →
    ((j : ℕ) → j < k → p (get_or cs j d) ≡ false) → find p cs ≡ Some (get_or cs k d)
find_first p [] k d within passes before' = absurd (omega arith)
find_first p (c ∷ cs) zero d within passes before' = rw passes refl
find_first p (c ∷ cs) (suc k) d within passes before' =
    let fails = before' 0 (omega arith) in
    rw fails (find_first p cs k d (omega arith) passes (λ j less. before' (suc j) (omega arith)))

no_id : TestId
no_id = record { «module» = 0; test = 0 }

module _ (cs : List Cut) (id : TestId) where
  pub named_at : (k : ℕ) (d : Cut) → position (same_test id) (wholes cs) ≡ Some k → cut_named cs id ≡ Some (get_or cs k d)
  named_at k d found =
      let r = position-Some (same_test id) (wholes cs) k (d.whole) found in
      let long = length-map cs (λ (c : Cut). c.whole) in
      let within : k < length cs = omega arith in
      find_first (λ (c : Cut). same_test id c.whole) cs k d within (seen k within ∙ r.1) (λ j less. seen j (omega arith) ∙ r.2 j less)
    where
      seen : (j : ℕ) → j < length cs → same_test id (get_or cs j d).whole ≡ same_test id (get_or (wholes cs) j d.whole)
      seen j less = ap (same_test id) (sym (get_or-map (λ (c : Cut). c.whole) cs j d d.whole less))

  pub named_nowhere : position (same_test id) (wholes cs) ≡ None → cut_named cs id ≡ None
  named_nowhere none = find_none (λ (c : Cut). same_test id c.whole) cs (λ i c at. none_passes (same_test id) (wholes cs) none i c.whole (map_at (λ (c : Cut). c.whole) cs i c at))

-- the first profile of a test, and none
first_profile : (id : TestId) (own : ℕ) (ps : List ProfileValue) (k : ℕ) (d : ProfileValue) → k < length ps →
    same_test id (get_or ps k d).test ≡ true → ((j : ℕ) → j < k → same_test id (get_or ps j d).test ≡ false) →
    of_first (λ (p : ProfileValue). same_test id p.test) (λ p. greatest (map (λ (s : ℕ × ℕ). s.1) p.steps)) own ps ≡ greatest (map (λ (s : ℕ × ℕ). s.1) (get_or ps k d).steps)
first_profile id own [] k d within passes before' = absurd (omega arith)
first_profile id own (p ∷ ps) zero d within passes before' = rw passes refl
first_profile id own (p ∷ ps) (suc k) d within passes before' =
    let fails = before' 0 (omega arith) in
    rw fails (first_profile id own ps k d (omega arith) passes (λ j less. before' (suc j) (omega arith)))

module _ (limits : LimitsValue) (id : TestId) (own : ℕ) where
  pub peak_at : (k : ℕ) (d : ProfileValue) → position (same_test id) (profiled limits.profiles) ≡ Some k →
      peak limits id own ≡ greatest (map (λ (s : ℕ × ℕ). s.1) (get_or limits.profiles k d).steps)
  peak_at k d found =
      let r = position-Some (same_test id) (profiled limits.profiles) k d.test found in
      let long = length-map limits.profiles (λ (p : ProfileValue). p.test) in
      let within : k < length limits.profiles = omega arith in
      first_profile id own limits.profiles k d within (seen k within ∙ r.1) (λ j less. seen j (omega arith) ∙ r.2 j less)
    where
      seen : (j : ℕ) → j < length limits.profiles → same_test id (get_or limits.profiles j d).test ≡ same_test id (get_or (profiled limits.profiles) j d.test)
      seen j less = ap (same_test id) (sym (get_or-map (λ (p : ProfileValue). p.test) limits.profiles j d d.test less))

  pub peak_own : position (same_test id) (profiled limits.profiles) ≡ None → peak limits id own ≡ own
  peak_own none = go limits.profiles (λ i p at. none_passes (same_test id) (profiled limits.profiles) none i p.test (map_at (λ (p : ProfileValue). p.test) limits.profiles i p at))
    where
      go : (ps : List ProfileValue) → ((i : ℕ) (p : ProfileValue) → slice_get ps i ≡ Some p → same_test id p.test ≡ false) → of_first (λ (p : ProfileValue). same_test id p.test) (λ p. greatest (map (λ (s : ℕ × ℕ). s.1) p.steps)) own ps ≡ own
      go [] none = refl
      go (p ∷ ps) none = rw (none 0 p refl) (go ps (λ i q at. none (suc i) q at))

-- ---- precedences

-- one part before the next, once more
pub chain_more : (c : Cut) (k : ℕ) (start old new : List (TestId × TestId)) →
    old ≡ start ++ map (λ (k : ℕ). (part_id c k, part_id c (k + 1))) (range_with_len 0 k) → new ≡ old ++ (part_id c k, part_id c (k + 1)) ∷ [] →
    new ≡ start ++ map (λ (k : ℕ). (part_id c k, part_id c (k + 1))) (range_with_len 0 (k + 1))
chain_more c k start old new so_far added =
    added ∙ ap (λ l. l ++ link k ∷ []) so_far
    ∙ append_assoc start (map (λ k. link k) (range_with_len 0 k)) (link k ∷ [])
    ∙ ap (λ l. start ++ l) (sym (map-range_with_len_more (λ k. link k) 0 k k (omega arith)))
  where
    link : ℕ → TestId × TestId
    link k = (part_id c k, part_id c (k + 1))

-- the profile that is found
pub peak_found : (limits : LimitsValue) (profiles : List Profile) (id : TestId) (own k : ℕ) (x : Profile) →
    limits.profiles ≡ map profile_value profiles → x ≡ get_or profiles k x → position (same_test id) (profiled limits.profiles) ≡ Some k →
    peak limits id own ≡ greatest (map (λ (s : ℕ × ℕ). s.1) x.steps.items)
peak_found limits profiles id own k x are is found =
    let r = position-Some (same_test id) (profiled limits.profiles) k x.test found in
    let long = length-map limits.profiles (λ (p : ProfileValue). p.test) ∙ ap length are ∙ length-map profiles profile_value in
    let item =
    ap (λ l. get_or l k (profile_value x)) are ∙ get_or-map profile_value profiles k x (profile_value x) (omega arith) ∙ ap profile_value (sym is) in
    peak_at limits id own k (profile_value x) found ∙ ap (λ (p : ProfileValue). greatest (map (λ (s : ℕ × ℕ). s.1) p.steps)) item

-- ---- profiles

-- the tests of profiles differ
pub profiles_differ : (ps : List ProfileValue) →
    ((p q : ℕ) (x y : ProfileValue) → slice_get ps p ≡ Some x → slice_get ps q ≡ Some y → x.test ≡ y.test → p ≡ q) → Differ (profiled ps)
profiles_differ ps one p q id at there =
    let a = from_map (λ (p : ProfileValue). p.test) ps p id at in
    let b = from_map (λ (p : ProfileValue). p.test) ps q id there in
    one p q a.0 b.0 a.1 b.1 (a.2 ∙ sym b.2)

-- ---- loops over the modules and tests of a chip that add up numbers

pub next_module : (f : ModuleValue → ℕ) (it rest : List Module) (m : Module) → it ≡ m ∷ rest →
    sum_by f (map module_value it) ≡ f (module_value m) + sum_by f (map module_value rest)
next_module f it rest m next = rw next (sum_by-cons f (module_value m) (map module_value rest))

pub small_tests : (m : ModuleValue) → HasSmall m → All (λ (t : Test). t.patterns < 10 ^ 12) m.tests
small_tests m h = (small_module m h).tests
