-- Tests that are led to from neighbour to neighbour, found with a stack.
use Rattle.std.proofs.Common.{◌≡◌, ◌↔◌, ℕ, zero, suc, ◌<◌, Bool, true, false, List, [], ◌∷◌, ◌++◌, length, get_or, map, replicate, refl, ◌∙◌, sym, arith, inl, inr, ◌⊎◌}
use Rattle.std.proofs.lemmas.List.{length-replicate, length-map, get_or-map}
use Rattle.live_tests.specs.declared.neighbours.Neighbours.{Neighbours}
use Rattle.live_tests.specs.Neighbours.{tests_of}
use Rattle.proof_facts.specs.Marks.{is_marked, is_in, next_of, LedTo, FirstStep, LastStep, AreMarked, AreAmong, IsFlood}
use Rattle.proof_facts.proofs.Marking.{pushed_in, last_in, in_pushed}

only_one : (j x : ℕ) → is_in j (x ∷ []) ≡ true → j ≡ x
only_one j x h = elim (in_pushed j x [] h) [ inl none ↦ absurd cc | inr same ↦ same ]

via : (lists : List (List ℕ)) (from test j : ℕ) → (test ≡ from) ⊎ LedTo lists from test → is_in j (next_of lists test) ≡ true → LedTo lists from j
via lists from test j (inl same) h = FirstStep j (rw same at h)
via lists from test j (inr led) h = LastStep test j led h

pub flood_goes_on : (lists : List (List ℕ)) (from test : ℕ) (tests : List ℕ) (marks new : List Bool) (stack popped rest : List ℕ) → stack ≡ popped ++ test ∷ [] → tests ≡ next_of lists test → ((i j : ℕ) → is_in j (next_of lists i) ≡ true → j < length lists) →
    IsFlood lists from marks stack → AreMarked tests marks new popped rest → IsFlood lists from new rest
flood_goes_on lists from test tests marks new stack popped rest is are among flood am =
    let all = rw is at flood in
    let done = rw are at am in
    go all done
  where
    go : IsFlood lists from marks (popped ++ test ∷ []) → AreMarked (next_of lists test) marks new popped rest → IsFlood lists from new rest
    go all am = record {
      long = am.long ∙ all.long;
      within = λ j h. elim (am.from j h) [
        | inl old ↦ all.within j (pushed_in j test popped old)
        | inr next ↦ among test j next
      ];
      seen = λ j h. elim (am.from j h) [
        | inl old ↦ all.seen j (pushed_in j test popped old)
        | inr next ↦ inr (via lists from test j (all.seen test (last_in test popped)) next)
      ];
      sound = λ j h. elim (am.only j h) [
        | inl old ↦ all.sound j old
        | inr next ↦ via lists from test j (all.seen test (last_in test popped)) next
      ];
      closed = λ i h. elim h [
        | inl same ↦ carried i (all.closed i (inl same))
        | inr there ↦ elim (am.stacked i there) [
          | inl old ↦ carried i (all.closed i (inr old))
          | inr waits ↦ inl waits
        ]
      ];
    }
      where
        carried : (i : ℕ) → (is_in i (popped ++ test ∷ []) ≡ true) ⊎ ((j : ℕ) → is_in j (next_of lists i) ≡ true → is_marked marks j ≡ true) → (is_in i rest ≡ true) ⊎ ((j : ℕ) → is_in j (next_of lists i) ≡ true → is_marked new j ≡ true)
        carried i (inr f) = inr (λ j e. am.kept j (f j e))
        carried i (inl h) = elim (in_pushed i test popped h) [
          | inl waits ↦ inl (am.still i waits)
          | inr same ↦ inr (λ j e. am.all j (rw same at e))
        ]

complete : (lists : List (List ℕ)) (from : ℕ) (marks : List Bool) → IsFlood lists from marks [] → (j : ℕ) → LedTo lists from j → is_marked marks j ≡ true
complete lists from marks flood _ (FirstStep j e) = elim (flood.closed from (inl refl)) [
  | inl none ↦ absurd cc
  | inr f ↦ f j e
]
complete lists from marks flood _ (LastStep k j led e) = elim (flood.closed k (inr (complete lists from marks flood k led))) [
  | inl none ↦ absurd cc
  | inr f ↦ f j e
]

pub flood_ends : (lists : List (List ℕ)) (from : ℕ) (marks : List Bool) (stack : List ℕ) → stack ≡ [] → IsFlood lists from marks stack → (j : ℕ) → (is_marked marks j ≡ true) ↔ LedTo lists from j
flood_ends lists from marks stack none flood j =
    let ended = rw none at flood in
    (ended.sound j, complete lists from marks ended j)

-- ---- what the code has

pub popped_in : (x : ℕ) (stack popped : List ℕ) → stack ≡ popped ++ x ∷ [] → is_in x stack ≡ true
popped_in x stack popped is = rw is (last_in x popped)

pub next_is : (lists : List Neighbours) (test : ℕ) (d : Neighbours) → test < length lists → tests_of (get_or lists test d) ≡ next_of (map tests_of lists) test
next_is lists test d within = sym (get_or-map tests_of lists test d [] within)

pub length-lists : (lists : List Neighbours) → length (map tests_of lists) ≡ length lists
length-lists lists = length-map lists tests_of

pub among_lists : (lists : List Neighbours) → AreAmong lists → (i j : ℕ) → is_in j (next_of (map tests_of lists) i) ≡ true → j < length (map tests_of lists)
among_lists lists among i j h = omega (arith, among i j h, length-lists lists)

pub nothing_left : (n : ℕ) (stack : List ℕ) → length stack ≡ n → (0 < n → false ≡ true) → stack ≡ []
nothing_left n [] long none = refl
nothing_left n (x ∷ stack) long none = let wrong : false ≡ true = none (omega arith) in absurd cc
