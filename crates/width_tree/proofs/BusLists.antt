-- One more module of a list whose modules all need one bus.
use Rattle.std.proofs.Common.{◌≡◌, ◌≢◌, ℕ, ◌+◌, ◌≤◌, ◌<◌, true, false, Some, List, [], ◌∷◌, ◌++◌, length, get_or, take, sym, ap, ◌∙◌, subst, arith, inl, inr, ◌⊎◌, slice_get, slice_set, slice_index, min, nat_lt, Contains}
use Rattle.std.proofs.lemmas.Bool.{cases_lt, cases_eq, lt-ltb, ltb-true}
use Rattle.std.proofs.lemmas.List.{length-take, get_or-take, get_or-set_same, get_or-set_other, take_more, take_all, get_or_past, length-set}
use Rattle.std.proofs.lemmas.Option.{slice_get_within, get_or_from_slice_get}
use Rattle.soc_model.specs.Chips.{SocValue}
use Rattle.soc_model.specs.Lookups.{module_place}
use Rattle.soc_model.proofs.Places.{slice_get-from_position}
use Rattle.plan_model.specs.Certificates.{HasTamTest, on}
use Rattle.width_tree.specs.declared.lists.Least.{Least}
use Rattle.width_tree.specs.Cases.{Case, interval_at, low_of, high_of, IsBusItem, least_high}
use Rattle.width_tree.specs.Findings.{IsBusSoFar, AreOlder}
use Rattle.common_lemmas.proofs.Lists.{is_before, is_last, before_or_last}

pub stamped_older : (marks : List ℕ) (p stamp : ℕ) → AreOlder (stamp + 1) marks → AreOlder (stamp + 1) (slice_set marks p stamp)
stamped_older marks p stamp older q = elim (cases_eq q p) [
  | inl same ↦ elim (cases_lt p (length marks)) [
    | inl within ↦ rw (same, get_or-set_same marks p stamp 0 within) (omega arith)
    | inr past ↦ outside past same
  ]
  | inr other ↦ rw (get_or-set_other marks p q stamp 0 other) (older q)
]
  where
    outside : length marks ≤ p → q ≡ p → slice_index (slice_set marks p stamp) q < stamp + 1
    outside past same = rw (get_or_past (slice_set marks p stamp) q 0 (omega (arith, length-set marks p stamp))) (omega arith)

module _ (soc : SocValue) where
  same_number : (m n p : ℕ) → module_place soc m ≡ Some p → module_place soc n ≡ Some p → m ≡ n
  same_number m n p a b =
      let one = slice_get-from_position soc.keys m p a in
      let two = slice_get-from_position soc.keys n p b in
      cc

  module _ (c : Case) (m p : ℕ) (at : module_place soc m ≡ Some p) where
    pub low_at : low_of soc c m ≡ (interval_at c p).low
    low_at = ap (λ o. on o (λ place. (interval_at c place).low)) at

    pub high_at : high_of soc c m ≡ (interval_at c p).high
    high_at = ap (λ o. on o (λ place. (interval_at c place).high)) at

  module _ (w : ℕ) (c : Case) where
    least_high-push : (ms : List ℕ) (m : ℕ) → least_high soc w c (ms ++ m ∷ []) ≡ min (least_high soc w c ms) (high_of soc c m)
    least_high-push [] m = omega arith
    least_high-push (x ∷ ms) m = let ih = least_high-push ms m in omega arith

    module _ (ms : List ℕ) (i m p : ℕ) (marks : List ℕ) (stamp : ℕ) (least : Least) where
      pub bus_kept : slice_get ms i ≡ Some m → IsBusSoFar soc w c (take i ms) marks stamp least →
          module_place soc m ≡ Some p → HasTamTest soc m → slice_index marks p ≢ stamp → w < least.low + (interval_at c p).low → IsBusItem soc w c (take i ms) m
      bus_kept at so_far place tam free much = record {
        tam = tam;
        new = λ earlier. free (so_far.marked m p earlier place);
        too_wide = λ a earlier. omega (arith, so_far.low_le a earlier, low_at c m p place);
      }

      pub bus_taken : (next : Least) → slice_get ms i ≡ Some m → IsBusSoFar soc w c (take i ms) marks stamp least →
          module_place soc m ≡ Some p → p < length marks → next.low ≡ min least.low (interval_at c p).low →
          next.high ≡ min least.high (interval_at c p).high → IsBusSoFar soc w c (take (i + 1) ms) (slice_set marks p stamp) stamp next
      bus_taken next at so_far place room low_is high_is = record {
        marked = λ n q here there. elim (before_or_last ms i m n at here) [
          | inl before ↦ still q (cases_eq q p) (so_far.marked n q before there)
          | inr this ↦
              let there' = rw this at there in
              let same : p ≡ q = cc in
              rw (← same) (get_or-set_same marks p stamp 0 room)
        ];
        only = λ q marked. elim (cases_eq q p) [
          | inl same ↦ (m, is_last ms i m at, place ∙ ap Some (sym same))
          | inr other ↦
              let before = so_far.only q (sym (get_or-set_other marks p q stamp 0 other) ∙ marked) in
              (before.0, is_before ms i m before.0 at before.1, before.2)
        ];
        low_le = λ n here. elim (before_or_last ms i m n at here) [
          | inl before ↦ omega (arith, so_far.low_le n before)
          | inr this ↦ rw this (omega (arith, low_at c m p place))
        ];
        low_is = elim (cases_lt (interval_at c p).low least.low) [
          | inl less ↦ inr (m, is_last ms i m at, omega (arith, low_at c m p place))
          | inr more ↦ kept more so_far.low_is
        ];
        high =
            let pushed = take_more ms i m (slice_get_within ms i m at) ∙ ap (λ x. take i ms ++ x ∷ []) (get_or_from_slice_get ms i m m at) in
            let more = least_high-push (take i ms) m in
            rw pushed (omega (arith, high_at c m p place));
      }
        where
          still : (q : ℕ) → (q ≡ p) ⊎ (q ≢ p) → slice_index marks q ≡ stamp → slice_index (slice_set marks p stamp) q ≡ stamp
          still q (inl same) marked = rw same (get_or-set_same marks p stamp 0 room)
          still q (inr other) marked = get_or-set_other marks p q stamp 0 other ∙ marked

          kept : least.low ≤ (interval_at c p).low → (least.low ≡ w + 1) ⊎ ((n : ℕ) × Contains (take i ms) n × (low_of soc c n ≡ least.low)) → (next.low ≡ w + 1) ⊎ ((n : ℕ) × Contains (take (i + 1) ms) n × (low_of soc c n ≡ next.low))
          kept more (inl none) = inl (omega arith)
          kept more (inr one) = inr (one.0, is_before ms i m one.0 at one.1, omega arith)

      -- what a module breaks
      pub marked_breaks : IsBusSoFar soc w c (take i ms) marks stamp least → module_place soc m ≡ Some p → slice_index marks p ≡ stamp →
          IsBusItem soc w c (take i ms) m → ⊥
      marked_breaks so_far place marked keeps =
          let one = so_far.only p marked in
          keeps.new (rw (same_number one.0 m p one.2 place) at one.1)

      pub few_breaks : IsBusSoFar soc w c (take i ms) marks stamp least → module_place soc m ≡ Some p → least.low + (interval_at c p).low ≤ w →
          IsBusItem soc w c (take i ms) m → ⊥
      few_breaks so_far place few keeps = elim so_far.low_is [
        | inl none ↦ omega arith
        | inr one ↦ omega (arith, keeps.too_wide one.0 one.1, low_at c m p place)
      ]

    module _ (ms : List ℕ) where
      pub none_taken : (marks : List ℕ) (stamp : ℕ) (least : Least) → AreOlder stamp marks → least.low ≡ w + 1 → least.high ≡ w →
          IsBusSoFar soc w c (take 0 ms) marks stamp least
      none_taken marks stamp least older low high = record {
        marked = λ m p earlier place. absurd (omega (arith, length-take 0 ms));
        only = λ p marked. absurd (omega (arith, older p));
        low_le = λ m earlier. absurd (omega (arith, length-take 0 ms));
        low_is = inl low;
        high = high;
      }

      pub kept_more : (i x : ℕ) → slice_get ms i ≡ Some x → ((n m : ℕ) → n < i → slice_get ms n ≡ Some m → IsBusItem soc w c (take n ms) m) →
          IsBusItem soc w c (take i ms) x → (n m : ℕ) → n < i + 1 → slice_get ms n ≡ Some m → IsBusItem soc w c (take n ms) m
      kept_more i x at kept item n m less here = elim (cases_lt n i) [
        | inl before ↦ kept n m before here
        | inr last ↦ this (let same : i ≡ n = omega arith in same)
      ]
        where
          this : i ≡ n → IsBusItem soc w c (take n ms) m
          this same =
              let at' : slice_get ms n ≡ Some x = rw same at at in
              let one : x ≡ m = cc in
              rw (← same) (rw (← one) item)

      pub all_high : (n : ℕ) (marks : List ℕ) (stamp : ℕ) (least : Least) → IsBusSoFar soc w c (take n ms) marks stamp least → length ms ≤ n →
          least.high ≡ least_high soc w c ms
      all_high n marks stamp least so_far past = so_far.high ∙ ap (least_high soc w c) (take_all n ms past)

module _ (w s : ℕ) where
  pub is_few : false ≡ nat_lt w s → s ≤ w
  is_few test = elim (cases_lt w s) [
    | inl less ↦ let yes' = lt-ltb w s less in absurd cc
    | inr few ↦ few
  ]

  pub is_much : true ≡ nat_lt w s → w < s
  is_much test = ltb-true w s (sym test)
