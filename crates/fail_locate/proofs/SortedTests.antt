-- Tests in the order of their buses and starts, and where one stands among them.
use Rattle.std.proofs.Common.{◌≡◌, ℕ, ◌≤◌, ◌<◌, ◌⊎◌, inl, inr, true, false, Some, List, get_or, refl, sym, subst, ◌∙◌, arith, ltb, leb, ltb-true, leb-true, slice_get, nat_eq, ◌&&◌}
use Rattle.std.specs.Cmp.{IsTotalOrder, nat_cmp_is}
use Rattle.std.specs.List.Sorted.{IsPartitionedBy, IsSortedByKey}
use Rattle.std.specs.Ordering.{nat_cmp, ordering_then, is_lt}
use Rattle.std.specs.declared.cmp.Ordering.{Ordering}
use Rattle.std.specs.declared.cmp.Ordering.TheVariants.{Less, Equal}
use Rattle.std.proofs.lemmas.Bool.{and_parts, or_cases, or_left, or_right, eqb-true, eq-eqb, lt-ltb, le-leb}
use Rattle.std.proofs.lemmas.Cmp.{nat_cmp_total, on_total, then_total}
use Rattle.std.proofs.lemmas.List.Sorted.{sorted_far, ranks_by}
use Rattle.std.proofs.lemmas.Map.Keys.{ge_from_not_lt}
use Rattle.std.proofs.lemmas.Option.{slice_get_within, slice_get-get_or, get_or_from_slice_get}
use Rattle.fail_locate.specs.declared.wired.WiredTest.{WiredTest}
use Rattle.fail_locate.specs.Locating.{comes_by}
use Rattle.fail_locate.specs.Wired.{AreInOrder, NoLater}
use Rattle.common_lemmas.proofs.Numbers.{three_ways}

-- ---- sorted by bus and start

abbrev pub key_of : WiredTest → ℕ × ℕ
key_of t = (t.bus, t.start)

abbrev pub key_cmp : ℕ × ℕ → ℕ × ℕ → Ordering
key_cmp x y = ordering_then (nat_cmp x.0 y.0) (nat_cmp x.1 y.1)

key_cmp-total : IsTotalOrder key_cmp
key_cmp-total = then_total (on_total (λ (k : ℕ × ℕ). k.0) nat_cmp_total) (on_total (λ (k : ℕ × ℕ). k.1) nat_cmp_total)

-- a key that isn't less
not_less : (a b p q : ℕ) → is_lt (ordering_then (nat_cmp a b) (nat_cmp p q)) ≡ false → (b < a) ⊎ ((b ≡ a) × (q ≤ p))
not_less a b p q h = elim (three_ways a b) [
  | inl less ↦
      let e : nat_cmp a b ≡ Less = sym (nat_cmp_is a b Less less) in
      let k : is_lt (ordering_then Less (nat_cmp p q)) ≡ false = subst (λ o. is_lt (ordering_then o (nat_cmp p q)) ≡ false) e h in
      absurd cc
  | inr other ↦ elim other [
    | inl same ↦
        let e : nat_cmp a b ≡ Equal = sym (nat_cmp_is a b Equal same) in
        let k : is_lt (ordering_then Equal (nat_cmp p q)) ≡ false = subst (λ o. is_lt (ordering_then o (nat_cmp p q)) ≡ false) e h in
        inr (sym same, ge_from_not_lt p q k)
    | inr more ↦ inl more
  ]
]

pub sorted_in_order : (tests : List WiredTest) → IsSortedByKey key_of key_cmp tests → AreInOrder tests
sorted_in_order tests up i j t u h at at' =
    let far = sorted_far (λ x y. is_lt (key_cmp (key_of x) (key_of y))) (ranks_by key_cmp-total key_of) tests up i j t h (slice_get_within tests j u at') in
    let here : get_or tests i t ≡ t = get_or_from_slice_get tests i t t at in
    let there : get_or tests j t ≡ u = get_or_from_slice_get tests j u t at' in
    let far' : is_lt (key_cmp (key_of u) (key_of t)) ≡ false = subst (λ y. is_lt (key_cmp (key_of u) (key_of y)) ≡ false) here (subst (λ x. is_lt (key_cmp (key_of x) (key_of (get_or tests i t))) ≡ false) there far) in
    not_less u.bus t.bus u.start t.start far'

-- ---- those that have come

come_is : (bus cycle : ℕ) (t : WiredTest) → comes_by bus cycle t ≡ true → (t.bus < bus) ⊎ ((t.bus ≡ bus) × (t.start ≤ cycle))
come_is bus cycle t h = elim (or_cases (ltb t.bus bus) (nat_eq t.bus bus && leb t.start cycle) h) [
  | inl less ↦ inl (ltb-true t.bus bus less)
  | inr both ↦
      let parts = and_parts (nat_eq t.bus bus) (leb t.start cycle) both in
      inr (eqb-true t.bus bus parts.0, leb-true t.start cycle parts.1)
]

is_come : (bus cycle : ℕ) (t : WiredTest) → (t.bus < bus) ⊎ ((t.bus ≡ bus) × (t.start ≤ cycle)) → comes_by bus cycle t ≡ true
is_come bus cycle t (inl less) = or_left (ltb t.bus bus) (nat_eq t.bus bus && leb t.start cycle) (lt-ltb t.bus bus less)
is_come bus cycle t (inr both) = or_right (ltb t.bus bus) (nat_eq t.bus bus && leb t.start cycle) (rw (eq-eqb t.bus bus both.0, le-leb t.start cycle both.1) refl)

earlier_comes : (bus cycle : ℕ) (t u : WiredTest) → NoLater t u → (u.bus < bus) ⊎ ((u.bus ≡ bus) × (u.start ≤ cycle)) → (t.bus < bus) ⊎ ((t.bus ≡ bus) × (t.start ≤ cycle))
earlier_comes bus cycle t u (inl less) (inl come) = inl (omega arith)
earlier_comes bus cycle t u (inl less) (inr come) = inl (omega (arith, come.0))
earlier_comes bus cycle t u (inr same) (inl come) = inl (omega (arith, same.0))
earlier_comes bus cycle t u (inr same) (inr come) = inr (same.0 ∙ come.0, omega (arith, same.1, come.1))

pub parted : (tests : List WiredTest) (bus cycle : ℕ) → AreInOrder tests → IsPartitionedBy (comes_by bus cycle) tests
parted tests bus cycle order i j d h within come =
    let at : slice_get tests i ≡ Some (get_or tests i d) = slice_get-get_or tests i d (omega arith) in
    let at' : slice_get tests j ≡ Some (get_or tests j d) = slice_get-get_or tests j d within in
    is_come bus cycle (get_or tests i d) (earlier_comes bus cycle (get_or tests i d) (get_or tests j d) (order i j (get_or tests i d) (get_or tests j d) h at at') (come_is bus cycle (get_or tests j d) come))
