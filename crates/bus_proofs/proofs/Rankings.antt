-- No case of an accepted tree has a plan, and every plan has a ranking of its buses.
use Rattle.std.proofs.Common.{◌≡◌, ℕ, suc, ◌+◌, ◌<◌, true, Some, List, ◌∷◌, ◌++◌, refl, ap, ◌∙◌, sym, subst, arith, inl, inr, ◌⊎◌, take, zero, ◌≤◌, false, Option, None, [], length, slice_get, nat_eq, slice_index, nat_le, if◌then◌else◌, All, sum_by, Contains}
use Rattle.std.specs.List.{list_any, range_with_len}
use Rattle.std.proofs.lemmas.Bool.{cases_lt, cases_Bool, cases_eq, eqb-true, eq-eqb, ne_eqb, or_from, leb-true, leb-false}
use Rattle.std.proofs.lemmas.List.Elements.{All-head, All-tail, All-contains}
use Rattle.soc_model.specs.Chips.{ModuleValue, SocValue}
use Rattle.soc_model.specs.Modes.{has_tam}
use Rattle.plan_model.specs.Plans.{PlanValue, LimitsValue, bus_place, BusValue, widths, has_module}
use Rattle.plan_model.specs.Certificates.{has_tam_at, on, passes}
use Rattle.plan_model.proofs.CertificatesAreBounds.{place_or, some_place}
use Rattle.plan_model.proofs.Lists.{at_contains, in_append_right, from_flat_map, any_from}
use Rattle.plan_model.proofs.PowerAndAreaBounds.{bus_width, widths_fit}
use Rattle.plan_model.specs.Proofs.{ListValue, LeafValue, SplitValue, OfWide, OfPlace, OfSplit, OfLeaf, CaseTree, Leaf, Branches}
use Rattle.leaf_bounds.specs.Cases.{Case, known_ranks, tightened, narrow, wide, placed_on, placed_off, root_case}
use Rattle.bus_proofs.specs.Cases.{with_rank, case_by, first_case, second_case, NodeCase, in_case, cases_of, AreTwins, KeepsSplit}
use Rattle.leaf_bounds.specs.AnyLeaves.{AnyLeafHolds, KeepsLeaf}
use Rattle.bus_proofs.specs.Bounds.{AreEnough, IsEnough, work_of_all}
use Rattle.bus_proofs.proofs.Intervals.{Falls, IsIn, Fits, tightened_in, with_rank_in, narrow_in, wide_in, placed_on_in, placed_off_in, exchanged, exchanged_in, exchanged_at, exchanged_back}
use Rattle.leaf_bounds.proofs.PackSteps.{sum_below-first}
use Rattle.common_lemmas.proofs.Lists.{any_at, at_left, contains_at}
use Rattle.std.specs.List.Sorted.{IsPermutation}
use Rattle.std.proofs.lemmas.List.{length-map}
use Rattle.std.proofs.lemmas.List.FromFn.{length-range_with_len, get_or-range_with_len}
use Rattle.std.proofs.lemmas.List.Sorted.{IsPermutation-refl, IsPermutation-trans, IsPermutation-cons, IsPermutation-middle, Contains-permutation, sum_by-IsPermutation}
use Rattle.std.proofs.lemmas.List.Sums.{sum_by-cons}
use Rattle.std.proofs.lemmas.Option.{slice_get_within}
use Rattle.plan_model.specs.Rules.{IsGood, Places, listed}
use Rattle.plan_model.specs.Bounds.{sum_below}
use Rattle.plan_model.proofs.LowerTimes.{sum_places}
use Rattle.bus_proofs.specs.Rankings.{rank_width, IsRanking, IsOnRank, IsInCase}
use Rattle.bus_proofs.specs.Laws.{PlansHaveRankings}

-- ==== by induction on the tree: where every leaf of an accepted tree is without a plan, so is the case at its root

module _ (soc : SocValue) (plan : PlanValue) (w : ℕ) where
  -- The buses of a plan by ranks: `f` is the width of each rank, `rank` of a module's place the rank of its bus, below `top`.
  pub record IsRanked (f rank : ℕ → ℕ) (top : ℕ) : Type 0 where
    pub falls : Falls f
    pub fits : Fits f w
    pub below : (p : ℕ) (m : ModuleValue) → slice_get soc.modules p ≡ Some m → has_tam m ≡ true → rank p < top
    pub own : (p : ℕ) (m : ModuleValue) → slice_get soc.modules p ≡ Some m → has_tam m ≡ true → f (rank p) ≡ bus_width plan m
    pub one_bus : (p q : ℕ) (m n : ModuleValue) → slice_get soc.modules p ≡ Some m → slice_get soc.modules q ≡ Some n → has_tam m ≡ true → has_tam n ≡ true → rank p ≡ rank q →
        bus_place m.number 0 plan.buses ≡ bus_place n.number 0 plan.buses

  -- buses of one width can be exchanged
  exchanged_ranked : {f rank : ℕ → ℕ} {top : ℕ} (k j : ℕ) → IsRanked f rank top → f k ≡ f j → IsRanked f (λ p. exchanged k j (rank p)) (top + (k + j + 1))
  exchanged_ranked {f} {rank} {top} k j is same = record {
    falls = is.falls;
    fits = is.fits;
    below = λ p m at tam. few (rank p) (is.below p m at tam) (cases_eq (rank p) k) (cases_eq (rank p) j);
    own = λ p m at tam. wide (rank p) (cases_eq (rank p) k) (cases_eq (rank p) j) ∙ is.own p m at tam;
    one_bus = λ p q m n at at' tam tam' e. is.one_bus p q m n at at' tam tam' (exchanged_back k j (rank p) (rank q) e);
  }
    where
      few : (q : ℕ) → q < top → (q ≡ k) ⊎ (q ≡ k → ⊥) → (q ≡ j) ⊎ (q ≡ j → ⊥) → exchanged k j q < top + (k + j + 1)
      few q less (inl a) _ = rw (eq-eqb q k a) (omega arith)
      few q less (inr a) (inl b) = rw (ne_eqb q k a, eq-eqb q j b) (omega arith)
      few q less (inr a) (inr b) = rw (ne_eqb q k a, ne_eqb q j b) (omega arith)

      wide : (q : ℕ) → (q ≡ k) ⊎ (q ≡ k → ⊥) → (q ≡ j) ⊎ (q ≡ j → ⊥) → f (exchanged k j q) ≡ f q
      wide q (inl a) _ = rw (eq-eqb q k a) (sym same ∙ ap f (sym a))
      wide q (inr a) (inl b) = rw (ne_eqb q k a, eq-eqb q j b) (same ∙ ap f (sym b))
      wide q (inr a) (inr b) = rw (ne_eqb q k a, ne_eqb q j b) refl

  -- ---- the branches of a split

  -- ranks and widths in the case are none
  abbrev pub NoPlan : Case → Type 0
  NoPlan c = (f rank : ℕ → ℕ) (top : ℕ) → IsRanked f rank top → IsIn f rank (has_tam_at soc) c → ⊥

  wide_none : (c : Case) (k width : ℕ) → NoPlan (narrow (with_rank w c k) k width) → NoPlan (wide (with_rank w c k) k width) → NoPlan c
  wide_none c k width first second f rank top ranked is =
      let is' = with_rank_in k ranked.falls ranked.fits is in
      elim (cases_lt width (f k)) [
        | inl more ↦ second f rank top ranked (wide_in k width ranked.falls is' more)
        | inr few ↦ first f rank top ranked (narrow_in k width ranked.falls is' few)
      ]

-- twins have one width
twin_widths : {soc : SocValue} {c : Case} {k j : ℕ} {f rank : ℕ → ℕ} → AreTwins soc c k j → IsIn f rank (has_tam_at soc) c → k < known_ranks c → j < known_ranks c →
    f k ≡ f j
twin_widths {k} {j} twins is k_within j_within = omega (arith, twins.fixed, twins.low, twins.high, is.low k k_within, is.high k k_within, is.low j j_within, is.high j j_within)

module _ (soc : SocValue) (plan : PlanValue) (w : ℕ) (c : Case) where
  place_none : (p k : ℕ) (twins : List ℕ) → All (λ r. r < known_ranks c) (k ∷ twins) → All (AreTwins soc c k) twins → NoPlan soc plan w (placed_on c k p) →
      NoPlan soc plan w (placed_off c (k ∷ twins) p) → NoPlan soc plan w c
  place_none p k twins known alike first second f rank top ranked is = elim (cases_eq (rank p) k) [
    | inl here ↦ first f rank top ranked (placed_on_in k p is k_within (λ wired. here))
    | inr other ↦ elim (cases_Bool (list_any (nat_eq (rank p)) twins)) [
      | inr none ↦ second f rank top ranked (placed_off_in (k ∷ twins) p is (or_from (nat_eq (rank p) k) (list_any (nat_eq (rank p)) twins) (ne_eqb (rank p) k other) none))
      | inl some ↦
          let n = any_at (nat_eq (rank p)) twins some in
          let j = eqb-true (rank p) n.1 n.3 in
          on_twin n.1 j (All-contains (λ r. r < known_ranks c) twins n.1 (All-tail (λ r. r < known_ranks c) k twins known) (at_contains twins n.0 n.1 n.2)) (All-contains (AreTwins soc c k) twins n.1 alike (at_contains twins n.0 n.1 n.2))
    ]
  ]
    where
      k_within : k < known_ranks c
      k_within = All-head (λ r. r < known_ranks c) k twins known

      on_twin : (j : ℕ) → rank p ≡ j → j < known_ranks c → AreTwins soc c k j → ⊥
      on_twin j here j_within are =
          first f (λ p. exchanged k j (rank p)) (top + (k + j + 1)) (exchanged_ranked soc plan w k j ranked (twin_widths are is k_within j_within))
          (placed_on_in k p (exchanged_in k j is k_within j_within are.alike) k_within (λ wired. exchanged_at k here))

  split_none : (split : SplitValue) → KeepsSplit soc w c split → NoPlan soc plan w (first_case soc w c split) → NoPlan soc plan w (second_case soc w c split) →
      NoPlan soc plan w c
  split_none (OfWide k width) rule first second = wide_none soc plan w c k width first second
  split_none (OfPlace m k twins) rule first second =
      let found = some_place soc (has_tam_at soc) m rule.tam in
      place_none (place_or soc m) k twins rule.known rule.alike (subst (NoPlan soc plan w) (ap (case_by c (placed_on c k)) found) first) (subst (NoPlan soc plan w) (ap (case_by c (placed_off c (k ∷ twins))) found) second)

-- ---- whole trees

module _ (soc : SocValue) (limits : LimitsValue) (lists : List ListValue) (claim : ℕ) where
  -- a leaf that keeps its rule and holds has no plan
  abbrev pub LeavesHaveNone : PlanValue → Type 0
  LeavesHaveNone plan =
      (done : ℕ) (c : Case) (leaf : LeafValue) → KeepsLeaf soc limits lists claim done c leaf → AnyLeafHolds soc limits lists claim c leaf → NoPlan soc plan limits.wires c

  -- each node is as it should be, whatever work is before it
  abbrev pub AreEnoughAlone : List NodeCase → Type 0
  AreEnoughAlone nodes = (k : ℕ) (x : NodeCase) → slice_get nodes k ≡ Some x → (done : ℕ) × IsEnough soc limits lists claim done x

  first_enough : (n : NodeCase) (xs ys : List NodeCase) → AreEnoughAlone (n ∷ (xs ++ ys)) → AreEnoughAlone xs
  first_enough n xs ys enough k x at = enough (suc k) x (at_left xs ys k x at)

  second_enough : (n : NodeCase) (xs ys : List NodeCase) → AreEnoughAlone (n ∷ (xs ++ ys)) → AreEnoughAlone ys
  second_enough n xs ys enough k x at = let r = in_append_right xs ys k x at in enough (suc r.0) x r.1

  alone_none : (plan : PlanValue) → LeavesHaveNone plan → (tree : CaseTree) (c : Case) → AreEnoughAlone (cases_of soc limits.wires c tree) → NoPlan soc plan limits.wires c
  unfolding cases_of
  alone_none plan leaves (Leaf leaf) c enough f rank top ranked is =
      let own = enough 0 (in_case (tightened limits.wires c) (OfLeaf leaf)) refl in
      let here = own.1 in
      leaves own.0 (tightened limits.wires c) leaf here.rule here.holds f rank top ranked (tightened_in ranked.falls ranked.fits is)
  alone_none plan leaves (Branches split a b) c enough f rank top ranked is =
      let first = first_enough (in_case (tightened limits.wires c) (OfSplit split)) (cases_of soc limits.wires (first_case soc limits.wires (tightened limits.wires c) split) a) (cases_of soc limits.wires (second_case soc limits.wires (tightened limits.wires c) split) b) enough in
      let second = second_enough (in_case (tightened limits.wires c) (OfSplit split)) (cases_of soc limits.wires (first_case soc limits.wires (tightened limits.wires c) split) a) (cases_of soc limits.wires (second_case soc limits.wires (tightened limits.wires c) split) b) enough in
      split_none soc plan limits.wires (tightened limits.wires c) split (enough 0 (in_case (tightened limits.wires c) (OfSplit split)) refl).1.rule
      (alone_none plan leaves a (first_case soc limits.wires (tightened limits.wires c) split) first)
      (alone_none plan leaves b (second_case soc limits.wires (tightened limits.wires c) split) second)
      f rank top ranked (tightened_in ranked.falls ranked.fits is)

  pub tree_none : (plan : PlanValue) → LeavesHaveNone plan → (tree : CaseTree) (c : Case) → AreEnough soc limits lists claim (cases_of soc limits.wires c tree) →
      NoPlan soc plan limits.wires c
  tree_none plan leaves tree c enough =
      alone_none plan leaves tree c (λ k x at. (work_of_all limits.wires claim (take k (cases_of soc limits.wires c tree)), enough k x at))

-- ==== every plan has a ranking of its buses, and a ranking tells the widths of ranks and the ranks of modules

-- ---- numbers in falling order of what `g` gives

module _ (g : ℕ → ℕ) where
  put_in : ℕ → List ℕ → List ℕ
  put_in b [] = b ∷ []
  put_in b (x ∷ xs) = if nat_le (g x) (g b) then b ∷ x ∷ xs else x ∷ put_in b xs

  falling : List ℕ → List ℕ
  falling [] = []
  falling (x ∷ xs) = put_in x (falling xs)

  put_in_moves : (b : ℕ) (xs : List ℕ) → IsPermutation (b ∷ xs) (put_in b xs)
  unfolding put_in
  put_in_moves b [] = IsPermutation-refl (b ∷ [])
  put_in_moves b (x ∷ xs) = elim (cases_Bool (nat_le (g x) (g b))) [
    | inl yes' ↦ rw yes' (IsPermutation-refl (b ∷ x ∷ xs))
    | inr no' ↦
        let rest = IsPermutation-cons x (b ∷ xs) (put_in b xs) (put_in_moves b xs) in
        rw no' (IsPermutation-trans (b ∷ x ∷ xs) (x ∷ b ∷ xs) (x ∷ put_in b xs) (IsPermutation-middle (b ∷ []) x xs) rest)
  ]

  falling_moves : (xs : List ℕ) → IsPermutation xs (falling xs)
  unfolding falling
  falling_moves [] = IsPermutation-refl []
  falling_moves (x ∷ xs) =
      IsPermutation-trans (x ∷ xs) (x ∷ falling xs) (put_in x (falling xs)) (IsPermutation-cons x xs (falling xs) (falling_moves xs)) (put_in_moves x (falling xs))

  abbrev AllAtMost : ℕ → List ℕ → Type 0
  AllAtMost v [] = Unit {0}
  AllAtMost v (y ∷ ys) = (g y ≤ v) × AllAtMost v ys

  abbrev IsFalling : List ℕ → Type 0
  IsFalling [] = Unit {0}
  IsFalling (x ∷ xs) = AllAtMost (g x) xs × IsFalling xs

  at_most_more : (v u : ℕ) (ys : List ℕ) → v ≤ u → AllAtMost v ys → AllAtMost u ys
  at_most_more v u [] h a = tt
  at_most_more v u (y ∷ ys) h a = (omega (arith, a.0), at_most_more v u ys h a.1)

  at_most_put : (v b : ℕ) (ys : List ℕ) → g b ≤ v → AllAtMost v ys → AllAtMost v (put_in b ys)
  unfolding put_in
  at_most_put v b [] h a = (h, tt)
  at_most_put v b (y ∷ ys) h a = elim (cases_Bool (nat_le (g y) (g b))) [
    | inl yes' ↦ rw yes' (h, (a.0, a.1))
    | inr no' ↦ rw no' (a.0, at_most_put v b ys h a.1)
  ]

  falling_put : (b : ℕ) (xs : List ℕ) → IsFalling xs → IsFalling (put_in b xs)
  unfolding put_in
  falling_put b [] r = (tt, tt)
  falling_put b (x ∷ xs) r = elim (cases_Bool (nat_le (g x) (g b))) [
    | inl yes' ↦ rw yes' ((leb-true (g x) (g b) yes', at_most_more (g x) (g b) xs (leb-true (g x) (g b) yes') r.0), (r.0, r.1))
    | inr no' ↦ rw no' (at_most_put (g x) b xs (omega (arith, leb-false (g x) (g b) no')) r.0, falling_put b xs r.1)
  ]

  falling_falls : (xs : List ℕ) → IsFalling (falling xs)
  unfolding falling
  falling_falls [] = tt
  falling_falls (x ∷ xs) = falling_put x (falling xs) (falling_falls xs)

  -- by its places
  next-le : (xs : List ℕ) → IsFalling xs → (k : ℕ) → on (slice_get xs (suc k)) g ≤ on (slice_get xs k) g
  next-le [] r k = omega arith
  next-le (x ∷ []) r k = omega arith
  next-le (x ∷ y ∷ xs) r zero = (r.0).0
  next-le (x ∷ y ∷ xs) r (suc k) = next-le (y ∷ xs) r.1 k

pub plans_have_rankings : PlansHaveRankings
plans_have_rankings plan =
    let g = slice_index (widths plan) in (
      falling (slice_index (widths plan)) (range_with_len 0 (length plan.buses)),
      record {
        all = falling_moves (slice_index (widths plan)) (range_with_len 0 (length plan.buses));
        falls = λ k.
            let next : k + 1 ≡ suc k = omega arith in
            rw next (next-le (slice_index (widths plan)) (falling (slice_index (widths plan)) (range_with_len 0 (length plan.buses))) (falling_falls (slice_index (widths plan)) (range_with_len 0 (length plan.buses))) k);
      },
    )

-- ---- the widths of ranks

sum_of_ranks : (g : ℕ → ℕ) (xs : List ℕ) (n : ℕ) → sum_below (λ k. on (slice_get xs k) g) n ≤ sum_by g xs
unfolding sum_below
sum_of_ranks g xs zero = omega arith
sum_of_ranks g [] (suc n) = omega (arith, sum_of_ranks g [] n)
sum_of_ranks g (x ∷ xs) (suc n) = omega (arith, sum_below-first (λ k. on (slice_get (x ∷ xs) k) g) n, sum_of_ranks g xs n, sum_by-cons g x xs)

pub ranks_fit : (soc : SocValue) (limits : LimitsValue) {plan : PlanValue} {ranking : List ℕ} → IsGood soc limits plan → IsRanking plan ranking →
    Fits (rank_width plan ranking) limits.wires
ranks_fit soc limits {plan} {ranking} good is n =
    let moved = sum_by-IsPermutation (slice_index (widths plan)) (range_with_len 0 (length plan.buses)) ranking is.all in
    let same = ap (λ m. sum_by (slice_index (widths plan)) (range_with_len 0 m)) (length-map plan.buses (λ (b : BusValue). b.width)) in
    omega (arith, sum_of_ranks (slice_index (widths plan)) ranking n, moved, sum_places [] (widths plan), same, widths_fit soc limits plan good)

pub ranks_fall : {plan : PlanValue} {ranking : List ℕ} → IsRanking plan ranking → Falls (rank_width plan ranking)
ranks_fall {plan} {ranking} is k =
    let next : k + 1 ≡ suc k = omega arith in
    subst (λ n. rank_width plan ranking n ≤ rank_width plan ranking k) next (is.falls k)

-- ---- the ranks of modules

module _ (soc : SocValue) where
  -- the rank of the bus of the module at a place, as the case has it
  record HasRank (plan : PlanValue) (ranking : List ℕ) (c : Case) (p : ℕ) : Type 0 where
    rank : ℕ
    there : (m : ModuleValue) → slice_get soc.modules p ≡ Some m → has_tam m ≡ true → slice_get ranking rank ≡ Some (bus_place m.number 0 plan.buses)
    may : has_tam_at soc p ≡ true → rank < known_ranks c → c.may p rank ≡ true
    rest : has_tam_at soc p ≡ true → known_ranks c ≤ rank → c.may_rest p ≡ true

  has_rank : {plan : PlanValue} {ranking : List ℕ} {c : Case} → IsInCase soc plan ranking c → (p : ℕ) → HasRank plan ranking c p
  has_rank {plan} {ranking} {c} is p = go (slice_get soc.modules p) refl
    where
      without : (o : Option ModuleValue) → slice_get soc.modules p ≡ o → passes has_tam o ≡ false → HasRank plan ranking c p
      without o e none = record {
        rank = 0;
        there = λ m at tam. let e' = rw (sym e ∙ at) at none in absurd cc;
        may = λ tam. let e' = rw e at tam in absurd cc;
        rest = λ tam. let e' = rw e at tam in absurd cc;
      }

      with_tam : (m : ModuleValue) → slice_get soc.modules p ≡ Some m → has_tam m ≡ true → IsOnRank plan ranking c p m → HasRank plan ranking c p
      with_tam m e tam on' = record {
        rank = on'.rank;
        there = λ n at tam'.
            let same : m ≡ n = cc in
            subst (λ (n : ModuleValue). slice_get ranking on'.rank ≡ Some (bus_place n.number 0 plan.buses)) same on'.there;
        may = λ tam. on'.may;
        rest = λ tam. on'.rest;
      }

      go : (o : Option ModuleValue) → slice_get soc.modules p ≡ o → HasRank plan ranking c p
      go None e = without None e refl
      go (Some m) e = elim (cases_Bool (has_tam m)) [
        | inl yes' ↦ with_tam m e yes' (is.modules p m e yes')
        | inr no' ↦ without (Some m) e no'
      ]

  -- a plan with a ranking, by ranks and widths
  pub record ByRanks (plan : PlanValue) (w : ℕ) (c : Case) : Type 0 where
    pub width : ℕ → ℕ
    pub rank : ℕ → ℕ
    pub top : ℕ
    pub ranked : IsRanked soc plan w width rank top
    pub is_in : IsIn width rank (has_tam_at soc) c

  pub by_ranks : (limits : LimitsValue) {plan : PlanValue} {ranking : List ℕ} {c : Case} → IsGood soc limits plan → IsRanking plan ranking → IsInCase soc plan ranking c →
      ByRanks plan limits.wires c
  by_ranks limits {plan} {ranking} good ranking' is = record {
    width = rank_width plan ranking;
    rank = λ p. (has_rank is p).rank;
    top = length ranking;
    ranked = record {
      falls = ranks_fall ranking';
      fits = ranks_fit soc limits good ranking';
      below = λ p m at tam. slice_get_within ranking (has_rank is p).rank (bus_place m.number 0 plan.buses) ((has_rank is p).there m at tam);
      own = λ p m at tam. ap (λ o. on o (slice_index (widths plan))) ((has_rank is p).there m at tam);
      one_bus = λ p q m n at at' tam tam' same.
          let a : slice_get ranking (has_rank is p).rank ≡ Some (bus_place m.number 0 plan.buses) = (has_rank is p).there m at tam in
          let b : slice_get ranking (has_rank is q).rank ≡ Some (bus_place n.number 0 plan.buses) = (has_rank is q).there n at' tam' in
          let a' = rw same at a in
          cc;
    };
    is_in = record {
      low = is.low;
      high = is.high;
      may = λ p tam less. (has_rank is p).may tam less;
      rest = λ p tam more. (has_rank is p).rest tam more;
    };
  }

-- ---- at the root

bus_within : (m place : ℕ) (bs : List BusValue) (i : ℕ) {b : BusValue} → slice_get bs i ≡ Some b → has_module m b ≡ true → bus_place m place bs < place + length bs
bus_within m place [] i at has = absurd cc
bus_within m place (x ∷ bs) i {b} at has = elim (cases_Bool (has_module m x)) [
  | inl yes' ↦ rw yes' (omega arith)
  | inr no' ↦ rw no' (later i at (λ j at'. bus_within m (place + 1) bs j at' has) no')
]
  where
    later : (i : ℕ) → slice_get (x ∷ bs) i ≡ Some b → ((j : ℕ) → slice_get bs j ≡ Some b → bus_place m (place + 1) bs < place + 1 + length bs) → has_module m x ≡ false → bus_place m (place + 1) bs < place + length (x ∷ bs)
    later zero at ih no' = let same : x ≡ b = cc in let no2 = rw same at no' in absurd cc
    later (suc j) at ih no' = omega (arith, ih j at)

module _ (soc : SocValue) (limits : LimitsValue) (plan : PlanValue) where
  pub bus_known : IsGood soc limits plan → (p : ℕ) {m : ModuleValue} → slice_get soc.modules p ≡ Some m → has_tam m ≡ true →
      bus_place m.number 0 plan.buses < length plan.buses
  bus_known good p {m} at tam =
      let k = contains_at (listed plan) m.number ((good Places).1 p m at tam) in
      let r = from_flat_map (λ (b : BusValue). b.modules) plan.buses k.0 m.number k.1 in
      let has : has_module m.number r.1 ≡ true = any_from (nat_eq m.number) (r.1).modules r.2 m.number r.4 (eq-eqb m.number m.number refl) in
      omega (arith, bus_within m.number 0 plan.buses r.0 r.3 has)

  pub root_in : {ranking : List ℕ} → IsGood soc limits plan → IsRanking plan ranking → IsInCase soc plan ranking root_case
  root_in {ranking} good is = record {
    low = λ k h. absurd (omega arith);
    high = λ k h. absurd (omega arith);
    modules = λ p m at tam.
        let within = bus_known good p at tam in
        let here : Contains (range_with_len 0 (length plan.buses)) (bus_place m.number 0 plan.buses) = (bus_place m.number 0 plan.buses, omega (arith, length-range_with_len 0 (length plan.buses)), get_or-range_with_len 0 (length plan.buses) (bus_place m.number 0 plan.buses) (bus_place m.number 0 plan.buses) within ∙ omega arith) in
        let k = contains_at ranking (bus_place m.number 0 plan.buses) (Contains-permutation (range_with_len 0 (length plan.buses)) ranking (bus_place m.number 0 plan.buses) is.all here) in
        record { rank = k.0; there = k.1; may = λ less. absurd (omega arith); rest = λ more. refl };
  }
