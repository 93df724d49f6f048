-- Live tests that are marked for the tests of a list, rule by rule, and rows of lists one behind the other.
use Rattle.std.proofs.Common.{◌≡◌, ◌≢◌, inl, inr, ℕ, zero, suc, ◌+◌, ◌≤◌, ◌<◌, Bool, true, false, true≢false, Some, List, [], ◌∷◌, ◌++◌, length, map, take, get_or, set, replicate, refl, sym, ap, ◌∙◌, subst, arith, append_assoc, ◌*◌, add-one, append-nil, Result, Ok, Err, slice_get, ◌&&◌, ◌||◌, position, Contains, flat_map}
use Rattle.std.specs.List.{list_all, position_or_len}
use Rattle.std.proofs.lemmas.Bool.{cases_lt, cases_Bool, lt-ltb, le-ltb, and_parts, false_from_ne_true}
use Rattle.std.proofs.lemmas.List.{length-map, take_all, take_more, map-append, length-append, length-take-le, get_or_append_left, get_or-append-add}
use Rattle.std.proofs.lemmas.List.Folds.{list_any-append, list_all-append}
use Rattle.std.proofs.lemmas.Option.{slice_get_within, slice_get-map, slice_get-get_or, get_or_from_slice_get, slice_get_read}
use Rattle.soc_model.specs.declared.TestId.{TestId}
use Rattle.soc_model.specs.Chips.{SocValue, LiveTest, live_tests, same_test, id_of}
use Rattle.soc_model.specs.SoundChips.{IsSoundChip}
use Rattle.plan_model.specs.Plans.{LimitsValue}
use Rattle.plan_model.specs.Rules.{live_ids, Each}
use Rattle.plan_model.proofs.CertificatesAreBounds.{same_test_is, is_same_test}
use Rattle.plan_model.specs.Certificates.{is_called}
use Rattle.plan_model.proofs.FirstBreaches.{EachTo, each_more, each_all}
use Rattle.plan_model.proofs.Lists.{at_contains, any_from}
use Rattle.plan_model.proofs.PlannedTests.{of_first_is}
use Rattle.proof_facts.specs.Exclusions.{excludes, least_power}
use Rattle.proof_facts.specs.Rows.{HasRow}
use Rattle.proof_facts.proofs.Decided.{turned}
use Rattle.leaf_bounds.specs.Takings.{bit_at}
use Rattle.leaf_bounds.specs.declared.list_rules.ListRules.{ListRules}
use Rattle.leaf_bounds.specs.declared.list_rules.TurnMarks.{TurnMarks}
use Rattle.leaf_bounds.specs.declared.list_rules.CrowdMarks.{CrowdMarks}
use Rattle.leaf_bounds.specs.Lists.{is_among, names_exclude, excludes_all, least_power_of, IsTurn, IsCrowdItem, IsCrowd}
use Rattle.leaf_bounds.specs.ListRules.{among_of, apart_of, both_marked, chip_ruled, limits_ruled, AreCrowdMarks, AreTurnMarks, IsListRules, MemberAdded, MembersMarked, TurnAdded, TurnsMarked, AreHeavy, member_role, roles_in, turn_role}
use Rattle.leaf_bounds.proofs.TestNames.{one_place, place_is, name_at}
use Rattle.common_lemmas.proofs.Lists.{contains_at, any_at, in_take, some_item}
use Rattle.std.specs.Result.{IfOk}
use Rattle.outside.specs.declared.NoMemory.{NoMemory}
use Rattle.plan_model.specs.Proofs.{ListValue, OfTurns, OfTurnsOn, OfCrowd, OfPower}
use Rattle.leaf_bounds.specs.declared.list_table.ListTable.{ListTable}
use Rattle.leaf_bounds.specs.declared.list_table.Role.{Role}
use Rattle.leaf_bounds.specs.declared.list_table.Role.TheVariants.{Out, Drawing}
use Rattle.leaf_bounds.specs.ListTables.{IsListTable, KeepFirst, role_of}

-- ==== live tests that are marked for the tests of a list, one by one, and lists that keep their rules one by one

-- ---- where a name stands

module _ (id : TestId) (xs : List TestId) where
  pub found_at : {p : ℕ} → position (same_test id) xs ≡ Some p → slice_get xs p ≡ Some id
  found_at {p} e = elim (cases_lt (position_or_len (same_test id) xs) (length xs)) [
    | inl less ↦
        let e' = rw (lt-ltb (position_or_len (same_test id) xs) (length xs) less) at e in
        let same : position_or_len (same_test id) xs ≡ p = cc in
        rw (← same) (passes xs less)
    | inr more ↦ let e' = rw (le-ltb (position_or_len (same_test id) xs) (length xs) more) at e in absurd cc
  ]
    where
      passes : (xs : List TestId) → position_or_len (same_test id) xs < length xs → slice_get xs (position_or_len (same_test id) xs) ≡ Some id
      passes [] h = absurd (omega arith)
      passes (x ∷ xs) h = elim (cases_Bool (same_test id x)) [
        | inl yes' ↦ rw yes' (ap Some (sym (same_test_is id x yes')))
        | inr no' ↦
            let e : 1 + position_or_len (same_test id) xs ≡ suc (position_or_len (same_test id) xs) = omega arith in
            let h' = rw (no', e) at h in
            rw (no', e) (passes xs (omega arith))
      ]

  pub is_found : Contains xs id → (p : ℕ) × (position (same_test id) xs ≡ Some p)
  is_found c = elim (cases_lt (position_or_len (same_test id) xs) (length xs)) [
    | inl less ↦ (position_or_len (same_test id) xs, rw (lt-ltb (position_or_len (same_test id) xs) (length xs) less) refl)
    | inr more ↦ let k = contains_at xs id c in absurd (true≢false (sym (is_same_test id) ∙ none xs more k.0 k.1))
  ]
    where
      none : (xs : List TestId) → length xs ≤ position_or_len (same_test id) xs → (i : ℕ) → slice_get xs i ≡ Some id → same_test id id ≡ false
      none [] h i at = absurd cc
      none (y ∷ xs) h i at = elim (cases_Bool (same_test id y)) [
        | inl yes' ↦ let h' = rw yes' at h in absurd (omega arith)
        | inr no' ↦
            let e : 1 + position_or_len (same_test id) xs ≡ suc (position_or_len (same_test id) xs) = omega arith in
            let h' = rw (no', e) at h in
            go i at no' (λ j at'. none xs (omega arith) j at')
      ]
        where
          go : (i : ℕ) → slice_get (y ∷ xs) i ≡ Some id → same_test id y ≡ false → ((j : ℕ) → slice_get xs j ≡ Some id → same_test id id ≡ false) → same_test id id ≡ false
          go zero at no' later = let same : y ≡ id = cc in rw same at no'
          go (suc i) at no' later = later i at

-- ---- marks

module _ {X : Type 0} (f g : X → Bool) where
  map_same_at : (xs : List X) → ((i : ℕ) (x : X) → slice_get xs i ≡ Some x → g x ≡ f x) → map f xs ≡ map g xs
  map_same_at [] h = refl
  map_same_at (x ∷ xs) h = ap (λ b. b ∷ map f xs) (sym (h 0 x refl)) ∙ ap (λ l. g x ∷ l) (map_same_at xs (λ i y at. h (suc i) y at))

  pub set_map : (xs : List X) (p : ℕ) → ((x : X) → slice_get xs p ≡ Some x → g x ≡ true) → ((i : ℕ) (x : X) → slice_get xs i ≡ Some x → i ≢ p → g x ≡ f x) →
      set (map f xs) p true ≡ map g xs
  set_map [] p here else' = refl
  set_map (x ∷ xs) zero here else' = ap (λ b. b ∷ map f xs) (sym (here x refl)) ∙ ap (λ l. g x ∷ l) (map_same_at xs (λ i y at. else' (suc i) y at (λ e. absurd (omega (arith, e)))))
  set_map (x ∷ xs) (suc p) here else' =
      ap (λ b. b ∷ set (map f xs) p true) (sym (else' 0 x refl (λ e. absurd (omega (arith, e)))))
      ∙ ap (λ l. g x ∷ l) (set_map xs p here (λ i y at other. else' (suc i) y at (λ e. other (omega (arith, e)))))

  pub both_map : (xs : List X) (row : List Bool) → length row ≡ length xs → ((i : ℕ) (x : X) → slice_get xs i ≡ Some x → g x ≡ (f x && bit_at row i)) →
      both_marked (map f xs) row ≡ map g xs
  both_map [] [] long h = refl
  both_map [] (o ∷ row) long h = refl
  both_map (x ∷ xs) [] long h = absurd (omega (arith, long))
  both_map (x ∷ xs) (o ∷ row) long h =
      ap (λ b. b ∷ both_marked (map f xs) row) (sym (h 0 x refl))
      ∙ ap (λ l. g x ∷ l) (both_map xs row (omega (arith, long)) (λ i y at. h (suc i) y at))

both_step : (marks others : List Bool) (i n : ℕ) → n ≡ i + 1 → i < length marks → i < length others →
    set (both_marked marks (take i others)) i (bit_at (both_marked marks (take i others)) i && bit_at others i) ≡ both_marked marks (take n others)
both_step marks others i zero is less within = absurd (omega (arith, is))
both_step [] others i (suc n) is less within = absurd (omega arith)
both_step (m ∷ marks) [] i (suc n) is less within = absurd (omega arith)
both_step (m ∷ marks) (o ∷ others) zero (suc n) is less within = let none : n ≡ 0 = omega (arith, is) in rw none refl
both_step (m ∷ marks) (o ∷ others) (suc i) (suc n) is less within = ap (λ l. (m && o) ∷ l) (both_step marks others i n (omega (arith, is)) (omega arith) (omega arith))

pub both_long : (marks others : List Bool) → length (both_marked marks others) ≡ length marks
both_long marks [] = refl
both_long [] (o ∷ others) = refl
both_long (m ∷ marks) (o ∷ others) = ap suc (both_long marks others)

pub both_more : (old others : List Bool) {now : List Bool} (i : ℕ) {z : Bool} → i < length old → i < length others → now ≡ both_marked old (take i others) →
    z ≡ (bit_at now i && bit_at others i) → set now i z ≡ both_marked old (take (i + 1) others)
both_more old others {now} i less within is z_is =
    ap (λ b. set now i b) z_is ∙ ap (λ l. set l i (bit_at l i && bit_at others i)) is ∙ both_step old others i (i + 1) refl less within

bit_map : {X : Type 0} (f : X → Bool) (xs : List X) (i : ℕ) {x : X} → slice_get xs i ≡ Some x → bit_at (map f xs) i ≡ f x
bit_map f xs i {x} at = get_or_from_slice_get (map f xs) i (f x) false (slice_get-map f xs i ∙ rw at refl)

-- ---- one test more

abbrev pub IsThere : SocValue → TestId → ℕ → Type 0
IsThere soc id place = (l : LiveTest) × (slice_get (live_tests soc) place ≡ Some l) × (id_of l ≡ id)

test_at : (ls : List LiveTest) {id : TestId} (place : ℕ) → slice_get (map id_of ls) place ≡ Some id → (l : LiveTest) × (slice_get ls place ≡ Some l) × (id_of l ≡ id)
test_at [] place at = absurd cc
test_at (l ∷ ls) {id} zero at = let same : id_of l ≡ id = cc in (l, refl, same)
test_at (l ∷ ls) (suc place) at = test_at ls place at

pub there : (soc : SocValue) (names : List TestId) (id : TestId) (place : ℕ) → names ≡ live_ids soc → position (same_test id) names ≡ Some place → IsThere soc id place
there soc names id place are found = test_at (live_tests soc) place (found_at id (live_ids soc) (ap (position (same_test id)) (sym are) ∙ found))

pub among_more : {soc : SocValue} (earlier : List TestId) (id : TestId) (place : ℕ) {before after : List Bool} → IsSoundChip soc → IsThere soc id place →
    before ≡ among_of soc earlier → after ≡ set before place true → after ≡ among_of soc (earlier ++ id ∷ [])
among_more {soc} earlier id place sound at was is =
    is ∙ ap (λ l. set l place true) was
    ∙ set_map (is_among earlier) (is_among (earlier ++ id ∷ [])) (live_tests soc) place
    (λ x here. any_from (same_test (id_of x)) (earlier ++ id ∷ []) (length earlier) id (last earlier) (let one : x ≡ at.0 = cc in subst (λ n. same_test n id ≡ true) (sym (ap id_of one ∙ at.2)) (is_same_test id)))
    (λ i x here other. list_any-append (same_test (id_of x)) earlier (id ∷ []) ∙ without (is_among earlier x) (same_test (id_of x) id) (false_from_ne_true (same_test (id_of x) id) (λ e. other (only i x here e))))
  where
    last : (xs : List TestId) → slice_get (xs ++ id ∷ []) (length xs) ≡ Some id
    last [] = refl
    last (x ∷ xs) = last xs

    without : (a b : Bool) → b ≡ false → (a || (b || false)) ≡ a
    without true false e = refl
    without false false e = refl
    without a true e = absurd cc

    only : (i : ℕ) (x : LiveTest) → slice_get (live_tests soc) i ≡ Some x → same_test (id_of x) id ≡ true → i ≡ place
    only i x here e =
        let same = same_test_is (id_of x) id e in
        sym (place_is sound i here) ∙ ap (λ n. position_or_len (same_test n) (live_ids soc)) (same ∙ sym at.2) ∙ place_is sound place at.1

pub apart_more : {soc : SocValue} (limits : LimitsValue) (earlier : List TestId) (id : TestId) (place : ℕ) {before after : List Bool} (row : List Bool) →
    IsSoundChip soc → IsThere soc id place → before ≡ apart_of soc limits earlier → after ≡ both_marked before row → length row ≡ length (live_tests soc) →
    ((j : ℕ) → bit_at row j ≡ excludes soc limits place j) → after ≡ apart_of soc limits (earlier ++ id ∷ [])
apart_more {soc} limits earlier id place row sound at was is long marks =
    is ∙ ap (λ l. both_marked l row) was
    ∙ both_map (excludes_all soc limits earlier) (excludes_all soc limits (earlier ++ id ∷ [])) (live_tests soc) row long
    (λ i x here. list_all-append (names_exclude soc limits (id_of x)) earlier (id ∷ []) ∙ ap (λ b. excludes_all soc limits earlier x && b) (with_true (names_exclude soc limits (id_of x) id) ∙ one i x here))
  where
    with_true : (b : Bool) → (b && true) ≡ b
    with_true true = refl
    with_true false = refl

    mine : position_or_len (same_test id) (live_ids soc) ≡ place
    mine = ap (λ n. position_or_len (same_test n) (live_ids soc)) (sym at.2) ∙ place_is sound place at.1

    one : (i : ℕ) (x : LiveTest) → slice_get (live_tests soc) i ≡ Some x → names_exclude soc limits (id_of x) id ≡ bit_at row i
    one i x here =
        ap (λ n. excludes soc limits n (position_or_len (same_test id) (live_ids soc))) (place_is sound i here) ∙ ap (excludes soc limits i) mine
        ∙ turned soc limits i place ∙ sym (marks i)

module _ (p : TestId → Bool) where
  all_at : (xs : List TestId) → list_all p xs ≡ true → (n : ℕ) {x : TestId} → slice_get xs n ≡ Some x → p x ≡ true
  all_at [] h n at = absurd cc
  all_at (y ∷ xs) h zero {x} at = let same : y ≡ x = cc in rw (← same) ((and_parts (p y) (list_all p xs) h).0)
  all_at (y ∷ xs) h (suc n) at = all_at xs ((and_parts (p y) (list_all p xs) h).1) n at

  all_from : (xs : List TestId) → ((n : ℕ) (x : TestId) → slice_get xs n ≡ Some x → p x ≡ true) → list_all p xs ≡ true
  all_from [] h = refl
  all_from (y ∷ xs) h = rw (h 0 y refl) (all_from xs (λ n x at. h (suc n) x at))

module _ (soc : SocValue) (earlier : List TestId) (id : TestId) (place : ℕ) {among : List Bool} (at : IsThere soc id place) (are : among ≡ among_of soc earlier) where
  -- an unmarked live test is new
  pub is_new : bit_at among place ≡ false → Contains earlier id → ⊥
  is_new new c =
      let k = contains_at earlier id c in
      let marked = any_from (same_test (id_of at.0)) earlier k.0 id k.1 (subst (λ n. same_test n id ≡ true) (sym at.2) (is_same_test id)) in
      true≢false (sym marked ∙ sym (bit_map (is_among earlier) (live_tests soc) place at.1) ∙ ap (λ l. bit_at l place) (sym are) ∙ new)

  -- a marked one isn't
  pub is_old : bit_at among place ≡ true → Contains earlier id
  is_old old =
      let marked = sym (bit_map (is_among earlier) (live_tests soc) place at.1) ∙ ap (λ l. bit_at l place) (sym are) ∙ old in
      let k = any_at (same_test (id_of at.0)) earlier marked in
      at_contains earlier k.0 id (k.2 ∙ ap Some (sym (same_test_is (id_of at.0) k.1 k.3) ∙ at.2))

module _ (soc : SocValue) where
  is_live_name : (id : TestId) (place : ℕ) → IsThere soc id place → Contains (live_ids soc) id
  is_live_name id place at = at_contains (live_ids soc) place id (name_at soc place at.1 ∙ ap Some at.2)

  pub turn_kept : (limits : LimitsValue) (earlier : List TestId) (id : TestId) (place : ℕ) {among apart : List Bool} → IsThere soc id place → among ≡ among_of soc earlier →
      apart ≡ apart_of soc limits earlier → bit_at among place ≡ false → bit_at apart place ≡ true → IsTurn soc limits earlier id
  turn_kept limits earlier id place {apart} at are are' new all = record {
    live = is_live_name id place at;
    new = is_new soc earlier id place at are new;
    apart = λ other c.
        let k = contains_at earlier other c in
        let marked = sym (bit_map (excludes_all soc limits earlier) (live_tests soc) place at.1) ∙ ap (λ l. bit_at l place) (sym are') ∙ all in
        subst (λ n. names_exclude soc limits n other ≡ true) at.2 (all_at (names_exclude soc limits (id_of at.0)) earlier marked k.0 k.1);
  }

  pub turn_near : {limits : LimitsValue} {earlier : List TestId} {id : TestId} (place : ℕ) {apart : List Bool} → IsThere soc id place →
      apart ≡ apart_of soc limits earlier → bit_at apart place ≡ false → IsTurn soc limits earlier id → ⊥
  turn_near {limits} {earlier} place at are not_all t =
      let all = all_from (names_exclude soc limits (id_of at.0)) earlier (λ n x here. subst (λ m. names_exclude soc limits m x ≡ true) (sym at.2) (t.apart x (at_contains earlier n x here))) in
      true≢false (sym all ∙ sym (bit_map (excludes_all soc limits earlier) (live_tests soc) place at.1) ∙ ap (λ l. bit_at l place) (sym are) ∙ not_all)

  pub member_kept : (earlier : List TestId) (id : TestId) (place : ℕ) {among : List Bool} → IsThere soc id place → among ≡ among_of soc earlier →
      bit_at among place ≡ false → IsCrowdItem soc earlier id
  member_kept earlier id place at are new = record { live = is_live_name id place at; new = is_new soc earlier id place at are new }

  -- a name that wasn't marked now is of no live test, or named before
  pub name_broken : {names : List TestId} (earlier : List TestId) (id : TestId) {among : List Bool} → names ≡ live_ids soc → among ≡ among_of soc earlier →
      ((p : ℕ) → position (same_test id) names ≡ Some p → bit_at among p ≡ true) → Contains (live_ids soc) id → (Contains earlier id → ⊥) → ⊥
  name_broken {names} earlier id are are' old live new =
      let f = is_found id (live_ids soc) live in
      let found = ap (position (same_test id)) are ∙ f.1 in
      new (is_old soc earlier id f.0 (there soc names id f.0 are found) are' (old f.0 found))

  -- the least power of a live test, by its name
  least_there : (limits : LimitsValue) (id : TestId) (place n : ℕ) → IsSoundChip soc → IsThere soc id place →
      ((l : LiveTest) → slice_get (live_tests soc) place ≡ Some l → n ≡ least_power limits l) → n ≡ least_power_of soc limits id
  least_there limits id place n sound at least =
      let f = of_first_is (is_called id) (least_power limits) 0 (live_tests soc) place at.0 at.1 (subst (λ m. same_test m id ≡ true) (sym at.2) (is_same_test id)) in
      let here = one_place sound f.0 place f.1 at.0 f.2 at.1 (same_test_is (id_of f.1) id f.3 ∙ sym at.2) in
      least f.1 (subst (λ m. slice_get (live_tests soc) m ≡ Some f.1) here f.2) ∙ sym f.4

  pub powers_more : (limits : LimitsValue) (earlier : List TestId) (id : TestId) (place n : ℕ) {before after : List ℕ} → IsSoundChip soc → IsThere soc id place →
      before ≡ map (least_power_of soc limits) earlier → after ≡ before ++ n ∷ [] →
      ((l : LiveTest) → slice_get (live_tests soc) place ≡ Some l → n ≡ least_power limits l) → after ≡ map (least_power_of soc limits) (earlier ++ id ∷ [])
  powers_more limits earlier id place n sound at was is least =
      is ∙ ap (λ l. l ++ n ∷ []) was
      ∙ ap (λ m. map (least_power_of soc limits) earlier ++ m ∷ []) (least_there limits id place n sound at least)
      ∙ sym (map-append (least_power_of soc limits) earlier (id ∷ []))

-- ---- the rules of lists

module _ {r : ListRules} {earlier : List TestId} (id : TestId) where
  pub turn_added : {place : ℕ} {before : TurnMarks} (after : TurnMarks) (row : List Bool) → IsListRules r → AreTurnMarks r earlier before →
      position (same_test id) r.names.now ≡ Some place → bit_at before.among.items place ≡ false → bit_at before.apart.items place ≡ true →
      after.among.items ≡ set before.among.items place true → after.apart.items ≡ both_marked before.apart.items row → length row ≡ length (live_tests (chip_ruled r)) →
      ((j : ℕ) → bit_at row j ≡ excludes (chip_ruled r) (limits_ruled r) place j) → TurnAdded r earlier id after true
  turn_added {place} after row rules are found new all is is' long marks =
      let at = there (chip_ruled r) r.names.now id place rules.names found in (
        turn_kept (chip_ruled r) (limits_ruled r) earlier id place at are.among are.apart new all,
        record {
          among = among_more earlier id place rules.sound at are.among is;
          apart = apart_more (limits_ruled r) earlier id place row rules.sound at are.apart is' long marks;
        },
      )

  pub turn_broken : {before : TurnMarks} (after : TurnMarks) → IsListRules r → AreTurnMarks r earlier before →
      ((p : ℕ) → position (same_test id) r.names.now ≡ Some p → bit_at before.among.items p ≡ true) → TurnAdded r earlier id after false
  turn_broken after rules are old t = name_broken (chip_ruled r) earlier id rules.names are.among old t.live t.new

  pub turn_meets : {place : ℕ} {before : TurnMarks} (after : TurnMarks) → IsListRules r → AreTurnMarks r earlier before → position (same_test id) r.names.now ≡ Some place →
      bit_at before.apart.items place ≡ false → TurnAdded r earlier id after false
  turn_meets {place} after rules are found not_all t =
      turn_near (chip_ruled r) place (there (chip_ruled r) r.names.now id place rules.names found) are.apart not_all t

  pub member_added : {place : ℕ} (n : ℕ) {before : CrowdMarks} (after : CrowdMarks) → IsListRules r → AreCrowdMarks r earlier before →
      position (same_test id) r.names.now ≡ Some place → bit_at before.among.items place ≡ false → after.among.items ≡ set before.among.items place true →
      after.powers.items ≡ before.powers.items ++ n ∷ [] → ((l : LiveTest) → slice_get (live_tests (chip_ruled r)) place ≡ Some l → n ≡ least_power (limits_ruled r) l) →
      MemberAdded r earlier id after true
  member_added {place} n after rules are found new is is' least =
      let at = there (chip_ruled r) r.names.now id place rules.names found in (
        member_kept (chip_ruled r) earlier id place at are.among new,
        record {
          among = among_more earlier id place rules.sound at are.among is;
          powers = powers_more (chip_ruled r) (limits_ruled r) earlier id place n rules.sound at are.powers is' least;
        },
      )

  pub member_broken : {before : CrowdMarks} (after : CrowdMarks) → IsListRules r → AreCrowdMarks r earlier before →
      ((p : ℕ) → position (same_test id) r.names.now ≡ Some p → bit_at before.among.items p ≡ true) → MemberAdded r earlier id after false
  member_broken after rules are old t = name_broken (chip_ruled r) earlier id rules.names are.among old t.live t.new

-- ---- rows

module _ {r : ListRules} (place : ℕ) where
  -- a live test has a row
  pub has_row : IsListRules r → place < length r.names.now → HasRow r.rows place
  has_row rules within =
      let less = subst (λ n. place < n) (ap length rules.names ∙ length-map (live_tests (chip_ruled r)) id_of) within in
      record { soc = chip_ruled r; limits = limits_ruled r; are = rules.rows; within = less }

  pub place_within : (bits : List Bool) → IsListRules r → length bits ≡ length (live_tests (chip_ruled r)) → place < length r.names.now → place < length bits
  place_within bits rules long within = subst (λ n. place < n) (ap length rules.names ∙ length-map (live_tests (chip_ruled r)) id_of ∙ sym long) within

-- a mark that was read
pub bit_read : (bits : List Bool) (place : ℕ) {bit : Bool} → place < length bits → bit ≡ get_or bits place bit → bit_at bits place ≡ bit
bit_read bits place {bit} within is = get_or_from_slice_get bits place bit false (slice_get-get_or bits place bit within ∙ ap Some (sym is))

-- ---- one entry more

one_more : {X : Type 0} (xs : List X) (n : ℕ) {x : X} → slice_get xs n ≡ Some x → take (n + 1) xs ≡ take n xs ++ x ∷ []
one_more xs n {x} at = take_more xs n x (slice_get_within xs n x at) ∙ ap (λ y. take n xs ++ y ∷ []) (get_or_from_slice_get xs n x x at)

module _ (r : ListRules) (tests : List TestId) (n : ℕ) where
  pub turns_marked : {id : TestId} (after : TurnMarks) → slice_get tests n ≡ Some id → TurnAdded r (take n tests) id after true → AreTurnMarks r (take (n + 1) tests) after
  turns_marked after at added = subst (λ l. AreTurnMarks r l after) (sym (one_more tests n at)) added.1

  pub turns_each : {id : TestId} (after : TurnMarks) → EachTo (IsTurn (chip_ruled r) (limits_ruled r)) tests n → slice_get tests n ≡ Some id →
      TurnAdded r (take n tests) id after true → EachTo (IsTurn (chip_ruled r) (limits_ruled r)) tests (n + 1)
  turns_each {id} after each at added = each_more (IsTurn (chip_ruled r) (limits_ruled r)) tests n id each at added.0

  pub turns_all : {m : TurnMarks} → length tests ≤ n → EachTo (IsTurn (chip_ruled r) (limits_ruled r)) tests n → AreTurnMarks r (take n tests) m →
      TurnsMarked r tests (Some m)
  turns_all {m} past each are = (each_all (IsTurn (chip_ruled r) (limits_ruled r)) tests n past each, subst (λ l. AreTurnMarks r l m) (take_all n tests past) are)

  pub members_marked : {id : TestId} (after : CrowdMarks) → slice_get tests n ≡ Some id → MemberAdded r (take n tests) id after true →
      AreCrowdMarks r (take (n + 1) tests) after
  members_marked after at added = subst (λ l. AreCrowdMarks r l after) (sym (one_more tests n at)) added.1

  pub members_each : {id : TestId} (after : CrowdMarks) → EachTo (IsCrowdItem (chip_ruled r)) tests n → slice_get tests n ≡ Some id →
      MemberAdded r (take n tests) id after true → EachTo (IsCrowdItem (chip_ruled r)) tests (n + 1)
  members_each {id} after each at added = each_more (IsCrowdItem (chip_ruled r)) tests n id each at added.0

  pub members_all : {m : CrowdMarks} → length tests ≤ n → EachTo (IsCrowdItem (chip_ruled r)) tests n → AreCrowdMarks r (take n tests) m → MembersMarked r tests (Some m)
  members_all {m} past each are = (each_all (IsCrowdItem (chip_ruled r)) tests n past each, subst (λ l. AreCrowdMarks r l m) (take_all n tests past) are)

-- ---- roles

pub drawing_more : {X : Type 0} (start : List X) {old new : List X} (one : X) (tams : List Bool) (i : ℕ) → i < length tams →
    old ≡ start ++ map (λ (tam : Bool). one) (take i tams) → new ≡ old ++ one ∷ [] → new ≡ start ++ map (λ (tam : Bool). one) (take (i + 1) tams)
drawing_more start one tams i less was is =
    is ∙ ap (λ l. l ++ one ∷ []) was ∙ append_assoc start (map (λ (tam : Bool). one) (take i tams)) (one ∷ [])
    ∙ ap (λ l. start ++ l) (sym (map-append (λ (tam : Bool). one) (take i tams) (get_or tams i false ∷ [])) ∙ ap (λ l. map (λ (tam : Bool). one) l) (sym (take_more tams i false less)))

-- ---- no test yet

pub none_among : (ls : List LiveTest) {n : ℕ} → n ≡ length ls → replicate n false ≡ map (is_among []) ls
none_among ls is = rw is (go ls)
  where
    go : (ls : List LiveTest) → replicate (length ls) false ≡ map (is_among []) ls
    go [] = refl
    go (l ∷ ls) = ap (λ b. false ∷ b) (go ls)

pub all_apart : (soc : SocValue) (limits : LimitsValue) (ls : List LiveTest) {n : ℕ} → n ≡ length ls → replicate n true ≡ map (excludes_all soc limits []) ls
all_apart soc limits ls is = rw is (go ls)
  where
    go : (ls : List LiveTest) → replicate (length ls) true ≡ map (excludes_all soc limits []) ls
    go [] = refl
    go (l ∷ ls) = ap (λ b. true ∷ b) (go ls)

-- ==== rows of one length one behind the other, and how live tests are in lists, list by list

-- ---- rows of one length

module _ {X Y : Type 0} (f : X → List Y) where
  pub rows_long : (xs : List X) (w : ℕ) → ((x : X) → length (f x) ≡ w) → length (flat_map f xs) ≡ length xs * w
  rows_long [] w every = omega arith
  rows_long (x ∷ xs) w every =
      let more : suc (length xs) * w ≡ length xs * w + w = omega arith in
      omega (arith, length-append (f x) (flat_map f xs), every x, rows_long xs w every, more)

  pub row_at : (xs : List X) (w : ℕ) → ((x : X) → length (f x) ≡ w) → (d : Y) (n i : ℕ) {x : X} → slice_get xs n ≡ Some x → i < w →
      get_or (flat_map f xs) (n * w + i) d ≡ get_or (f x) i d
  row_at [] w every d n i at within = absurd cc
  row_at (y ∷ xs) w every d zero i {x} at within =
      let same : y ≡ x = cc in
      let here : 0 * w + i ≡ i = omega arith in
      rw (here, same) (get_or_append_left (f x) (flat_map f xs) d i (omega (arith, every x, within)))
  row_at (y ∷ xs) w every d (suc n) i at within =
      let more : suc n * w ≡ n * w + w = omega arith in
      let behind : suc n * w + i ≡ length (f y) + (n * w + i) = omega (arith, every y, more) in
      ap (λ k. get_or (f y ++ flat_map f xs) k d) behind ∙ get_or-append-add (f y) (flat_map f xs) (n * w + i) d ∙ row_at xs w every d n i at within

  -- ---- one item more

  pub flat_more : (xs : List X) (i : ℕ) {x : X} → slice_get xs i ≡ Some x → flat_map f (take (suc i) xs) ≡ flat_map f (take i xs) ++ f x
  flat_more [] i at = absurd cc
  flat_more (y ∷ xs) zero {x} at = let same : y ≡ x = cc in rw same (append-nil (f x))
  flat_more (y ∷ xs) (suc i) {x} at = ap (λ l. f y ++ l) (flat_more xs i at) ∙ sym (append_assoc (f y) (flat_map f (take i xs)) (f x))

module _ {X Y : Type 0} where
  map_more : (f : X → Y) (xs : List X) (i : ℕ) {x : X} → slice_get xs i ≡ Some x → map f (take (suc i) xs) ≡ map f (take i xs) ++ f x ∷ []
  map_more f [] i at = absurd cc
  map_more f (y ∷ xs) zero {x} at = let same : y ≡ x = cc in rw same refl
  map_more f (y ∷ xs) (suc i) at = ap (λ l. f y ∷ l) (map_more f xs i at)

  -- what stands in front, and one row more
  pub row_more : (f : X → List Y) (xs : List X) (i : ℕ) {x : X} (start : List Y) {old new : List Y} → slice_get xs i ≡ Some x → old ≡ start ++ flat_map f (take i xs) →
      new ≡ old ++ f x → new ≡ start ++ flat_map f (take (i + 1) xs)
  row_more f xs i {x} start at was is =
      rw add-one (is ∙ ap (λ l. l ++ f x) was ∙ append_assoc start (flat_map f (take i xs)) (f x) ∙ ap (λ l. start ++ l) (sym (flat_more f xs i at)))

  pub item_more : (f : X → Y) (xs : List X) (i : ℕ) {x : X} (start : List Y) {old new : List Y} {y : Y} → slice_get xs i ≡ Some x → y ≡ f x →
      old ≡ start ++ map f (take i xs) → new ≡ old ++ y ∷ [] → new ≡ start ++ map f (take (i + 1) xs)
  item_more f xs i start {y} at one was is =
      rw add-one (is ∙ ap (λ l. l ++ y ∷ []) was ∙ append_assoc start (map f (take i xs)) (y ∷ []) ∙ ap (λ z. start ++ (map f (take i xs) ++ z ∷ [])) one ∙ ap (λ l. start ++ l) (sym (map_more f xs i at)))

-- a mark of a live test
pub mark_is : {X : Type 0} (f : X → Bool) (xs : List X) {bits : List Bool} (i : ℕ) {x : X} → bits ≡ map f xs → slice_get xs i ≡ Some x → bit_at bits i ≡ f x
mark_is f xs i {x} are at = ap (λ l. bit_at l i) are ∙ get_or_from_slice_get (map f xs) i (f x) false (slice_get-map f xs i ∙ rw at refl)

-- an item of a list that is made of another one
pub made_at : {X Y : Type 0} (f : X → Y) (xs : List X) (i : ℕ) {x : X} → i < length xs → x ≡ get_or xs i x → slice_get (map f xs) i ≡ Some (f x)
made_at f xs i {x} within is = slice_get-map f xs i ∙ rw (slice_get_read xs (length xs) i x refl within is) refl

-- ---- how live tests are in a list, by their marks

members : (role : LiveTest → Role) (tests : List TestId) → ((l : LiveTest) → role l ≡ member_role (is_among tests l)) → (ls : List LiveTest) → map member_role (map (is_among tests) ls) ≡ map role ls
members role tests same [] = refl
members role tests same (l ∷ ls) = ap (λ y. y ∷ map member_role (map (is_among tests) ls)) (sym (same l)) ∙ ap (λ ys. role l ∷ ys) (members role tests same ls)

pub turns_put : (r : ListRules) (tests : List TestId) {bits : List Bool} (old : List Role) {new : List Role} → bits ≡ among_of (chip_ruled r) tests →
    new ≡ old ++ map member_role bits → new ≡ old ++ roles_in r (OfTurns tests)
turns_put r tests old are is =
    is ∙ ap (λ l. old ++ map member_role l) are ∙ ap (λ l. old ++ l) (members (role_of (chip_ruled r) (limits_ruled r) (OfTurns tests)) tests (λ l. refl) (live_tests (chip_ruled r)))

pub crowd_put : (r : ListRules) (most : ℕ) (tests : List TestId) {bits : List Bool} (old : List Role) {new : List Role} → bits ≡ among_of (chip_ruled r) tests →
    new ≡ old ++ map member_role bits → new ≡ old ++ roles_in r (OfCrowd most tests)
crowd_put r most tests old are is =
    is ∙ ap (λ l. old ++ map member_role l) are ∙ ap (λ l. old ++ l) (members (role_of (chip_ruled r) (limits_ruled r) (OfCrowd most tests)) tests (λ l. refl) (live_tests (chip_ruled r)))

drawing : (role : LiveTest → Role) → ((l : LiveTest) → role l ≡ Drawing) → (ls : List LiveTest) → map (λ (tam : Bool). Drawing) (map (λ (l : LiveTest). l.test.tam) ls) ≡ map role ls
drawing role same [] = refl
drawing role same (l ∷ ls) = ap (λ y. y ∷ map (λ (tam : Bool). Drawing) (map (λ (x : LiveTest). x.test.tam) ls)) (sym (same l)) ∙ ap (λ ys. role l ∷ ys) (drawing role same ls)

pub power_put : {r : ListRules} (near : ℕ) {tams : List Bool} (old : List Role) {new : List Role} → IsListRules r → tams ≡ r.tams.items →
    new ≡ old ++ map (λ (tam : Bool). Drawing) tams → new ≡ old ++ roles_in r (OfPower near)
power_put {r} near old are same is =
    is ∙ ap (λ l. old ++ map (λ (tam : Bool). Drawing) l) (same ∙ are.tams) ∙ ap (λ l. old ++ l) (drawing (role_of (chip_ruled r) (limits_ruled r) (OfPower near)) (λ l. refl) (live_tests (chip_ruled r)))

pub crowd_is : {r : ListRules} (most : ℕ) {tests : List TestId} {m : CrowdMarks} {powers : List ℕ} → Each (IsCrowdItem (chip_ruled r)) tests → AreCrowdMarks r tests m →
    powers ≡ m.powers.items → AreHeavy (limits_ruled r).power most powers → IsCrowd (chip_ruled r) (limits_ruled r) most tests
crowd_is {r} most {tests} items are same heavy =
    let h = subst (AreHeavy (limits_ruled r).power most) (same ∙ are.powers) heavy in
    record { some = h.0; items = items; many = omega (arith, h.1, length-map tests (least_power_of (chip_ruled r) (limits_ruled r))); heavy = h.2 }

-- one live test more of a list of turns on a bus
pub turns_on_more : {r : ListRules} (rank : ℕ) {tests : List TestId} {m : TurnMarks} (start : List Role) {old new : List Role} (i : ℕ) {among tam apart : Bool} {role : Role} →
    IsListRules r → AreTurnMarks r tests m → i < length r.tams.items → among ≡ bit_at m.among.items i → tam ≡ bit_at r.tams.items i → apart ≡ bit_at m.apart.items i →
    role ≡ turn_role among tam apart → old ≡ start ++ map (role_of (chip_ruled r) (limits_ruled r) (OfTurnsOn rank tests)) (take i (live_tests (chip_ruled r))) →
    new ≡ old ++ role ∷ [] → new ≡ start ++ map (role_of (chip_ruled r) (limits_ruled r) (OfTurnsOn rank tests)) (take (i + 1) (live_tests (chip_ruled r)))
turns_on_more {r} rank {tests} start i {among} {tam} {apart} {role} are marks within a t p is was more =
    let l = some_item (live_tests (chip_ruled r)) i (omega (arith, within, ap length are.tams ∙ length-map (live_tests (chip_ruled r)) (λ (l : LiveTest). l.test.tam))) in
    let a' = a ∙ mark_is (is_among tests) (live_tests (chip_ruled r)) i marks.among l.1 in
    let t' = t ∙ mark_is (λ (l : LiveTest). l.test.tam) (live_tests (chip_ruled r)) i are.tams l.1 in
    let p' = p ∙ mark_is (excludes_all (chip_ruled r) (limits_ruled r) tests) (live_tests (chip_ruled r)) i marks.apart l.1 in
    let one = is ∙ ap (λ b. turn_role b tam apart) a' ∙ ap (λ b. turn_role (is_among tests l.0) b apart) t' ∙ ap (λ b. turn_role (is_among tests l.0) l.0.test.tam b) p' in
    item_more (role_of (chip_ruled r) (limits_ruled r) (OfTurnsOn rank tests)) (live_tests (chip_ruled r)) i start l.1 one was more

-- what is so for any rank is so for one
pub for_rank : (result : Result Bool NoMemory) (P : ℕ → Bool → Type 0) (rank : ℕ) → IfOk result (λ kept. (n : ℕ) → P n kept) → IfOk result (P rank)
for_rank (Ok kept) P rank h = h rank
for_rank (Err e) P rank h = h

-- ---- the table

module _ (soc : SocValue) (limits : LimitsValue) (lists : List ListValue) where
  kept_within : (kept : ℕ) → KeepFirst soc limits lists kept → kept ≤ length lists
  kept_within kept (inl all) = omega (arith, all.0)
  kept_within kept (inr first) = omega (arith, slice_get_within lists kept first.0 first.1.there)

  pub is_list_table : (table : ListTable) → table.tests ≡ length (live_tests soc) → KeepFirst soc limits lists table.kept →
      table.roles.items ≡ flat_map (λ (list : ListValue). map (role_of soc limits list) (live_tests soc)) (take table.kept lists) → IsListTable soc limits lists table
  is_list_table table tests first roles = record {
    tests = tests;
    first = first;
    long = ap length roles ∙ rows_long rows (take table.kept lists) table.tests every ∙ ap (λ n. n * table.tests) (length-take-le table.kept lists (kept_within table.kept first));
    roles = λ n i list l less at at-l.
        ap (λ r. get_or r (n * table.tests + i) Out) roles
        ∙ row_at rows (take table.kept lists) table.tests every Out n i (in_take lists table.kept n list less at) (omega (arith, tests, slice_get_within (live_tests soc) i l at-l))
        ∙ get_or_from_slice_get (rows list) i (role_of soc limits list l) Out (slice_get-map (role_of soc limits list) (live_tests soc) i ∙ rw at-l refl);
  }
    where
      rows : ListValue → List Role
      rows list = map (role_of soc limits list) (live_tests soc)

      every : (list : ListValue) → length (rows list) ≡ table.tests
      every list = length-map (live_tests soc) (role_of soc limits list) ∙ sym tests

pub table_of_rules : (r : ListRules) (soc : SocValue) (limits : LimitsValue) (lists : List ListValue) (table : ListTable) → IsListRules r → chip_ruled r ≡ soc → limits_ruled r ≡ limits → table.tests ≡ length r.tams.items →
    KeepFirst (chip_ruled r) (limits_ruled r) lists table.kept → table.roles.items ≡ flat_map (roles_in r) (take table.kept lists) → IsListTable soc limits lists table
table_of_rules r soc limits lists table are chip bound tests first roles =
    let count = tests ∙ ap length are.tams ∙ length-map (live_tests (chip_ruled r)) (λ (l : LiveTest). l.test.tam) in
    let own = is_list_table (chip_ruled r) (limits_ruled r) lists table count first roles in
    subst (λ c. IsListTable c limits lists table) chip (subst (λ b. IsListTable (chip_ruled r) b lists table) bound own)
