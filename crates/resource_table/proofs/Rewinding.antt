-- Notes whose changes are taken back.
use Rattle.std.proofs.Common.{◌≡◌, ℕ, zero, suc, ◌<◌, ◌≤◌, Some, List, [], ◌∷◌, ◌++◌, length, get_or, set, map, drop, arith, refl, sym, ap, ◌∙◌, subst, length-append}
use Rattle.std.{specs.List.All, specs.List.Sorted.IsNonDecreasingBy, proofs.Math.ListN.get_or-append, proofs.Math.Seq.get_or-append_seam}
use Rattle.std.proofs.lemmas.List.{map-append, length-set, set-get_or, drop-append-le, drop_all}
use Rattle.std.proofs.lemmas.List.Elements.{All-same, All-push, All-pop, All-weaker}
use Rattle.resource_table.specs.declared.history.{Note.Note, Change.Change, History.History}
use Rattle.resource_table.specs.Histories.{rewound, at_change, past_of, ArePlaces, IsHistory}

-- the last change is taken back first
pub rewound_push : (changes : List Change) (c : Change) (values : List Note) → rewound (changes ++ c ∷ []) values ≡ rewound changes (set values c.place c.was)
rewound_push [] c values = refl
rewound_push (d ∷ changes) c values = ap (λ v. set v d.place d.was) (rewound_push changes c values)

set_twice : (values : List Note) (place : ℕ) (a b : Note) → set (set values place a) place b ≡ set values place b
set_twice [] place a b = refl
set_twice (v ∷ values) zero a b = refl
set_twice (v ∷ values) (suc place) a b = ap (λ w. v ∷ w) (set_twice values place a b)

-- a change that is noted is taken back
pub raised_back : (log : List Change) (values : List Note) (place : ℕ) (was value : Note) (n : ℕ) (d : Note) → n ≤ length log → was ≡ get_or values place d →
    rewound (drop n (log ++ (let c : Change = record { place = place; was = was } in c) ∷ [])) (set values place value) ≡ rewound (drop n log) values
raised_back log values place was value n d le is =
    let c : Change = record { place = place; was = was } in
    ap (λ v. rewound v (set values place value)) (drop-append-le n log (c ∷ []) le) ∙ rewound_push (drop n log) c (set values place value)
    ∙ ap (rewound (drop n log)) (set_twice values place value was ∙ ap (set values place) is ∙ set-get_or values place d)

module _ (log rest : List Change) (last : Change) (values : List Note) where
  pub taken_back : (n : ℕ) → log ≡ rest ++ last ∷ [] → n < length log → rewound (drop n rest) (set values last.place last.was) ≡ rewound (drop n log) values
  taken_back n is lt =
      sym (ap (λ v. rewound (drop n v) values) is ∙ ap (λ v. rewound v values) (drop-append-le n rest (last ∷ []) (omega (arith, ap length is, length-append rest (last ∷ []), lt))) ∙ rewound_push (drop n rest) last values)

  -- what is left of the changes has its places
  pub places_left : log ≡ rest ++ last ∷ [] → All (λ (c : Change). c.place < length values) log → All (λ (c : Change). c.place < length (set values last.place last.was)) rest
  places_left is places =
      rw (length-set values last.place last.was) (All-pop (λ (c : Change). c.place < length values) log rest (Some last) is places).0

-- marks that are kept see the same numbers
pub same_past : (f g : ℕ → List Note) (marks : List ℕ) (most : ℕ) → ((n : ℕ) → n ≤ most → f n ≡ g n) → ((k d : ℕ) → k < length marks → get_or marks k d ≤ most) → map f marks ≡ map g marks
same_past f g [] most same le = refl
same_past f g (m ∷ marks) most same le =
    let here : f m ≡ g m = same m (le 0 0 (omega arith)) in
    ap (λ (v : List Note). v ∷ map f marks) here ∙ ap (λ (v : List (List Note)). g m ∷ v) (same_past f g marks most same (λ k d lt. le (suc k) d (omega arith)))

-- no mark stands behind the last one
marks_below : (old : History) (marks : List ℕ) (changes : ℕ) → IsHistory old → old.marks.items ≡ marks ++ changes ∷ [] → (k d : ℕ) → k < length marks → get_or marks k d ≤ changes
marks_below old marks changes history is k d lt =
    let rises = rw is at history.rises in
    let first = get_or-append marks (changes ∷ []) d k lt in
    omega (arith, rises k (length marks) d (omega arith) (omega (arith, length-append marks (changes ∷ []))), get_or-append_seam marks changes [] d, first)

front_rises : (marks : List ℕ) (last : ℕ) → IsNonDecreasingBy (λ m. m) (marks ++ last ∷ []) → IsNonDecreasingBy (λ m. m) marks
front_rises marks last rises i j d le lt =
    omega (arith, rises i j d le (omega (arith, lt, length-append marks (last ∷ []))), get_or-append marks (last ∷ []) d i (omega (arith, le, lt)), get_or-append marks (last ∷ []) d j lt)

module _ (old new : History) where
  -- where the changes behind the last mark are taken back, the numbers are those at the mark
  pub back_past : (marks : List ℕ) (changes : ℕ) → IsHistory old → old.marks.items ≡ marks ++ changes ∷ [] → ((n : ℕ) → n ≤ changes → at_change new n ≡ at_change old n) →
      length new.log.items ≤ changes → past_of old ≡ map (at_change new) marks ++ new.values.items ∷ []
  back_past marks changes history is same few =
      ap (map (at_change old)) is ∙ map-append (at_change old) marks (changes ∷ [])
      ∙ ap (λ v. v ++ at_change old changes ∷ []) (same_past (at_change old) (at_change new) marks changes (λ n le. sym (same n le)) (marks_below old marks changes history is))
      ∙ ap (λ v. map (at_change new) marks ++ v ∷ []) (sym (same changes (omega arith)) ∙ ap (λ v. rewound v new.values.items) (drop_all changes new.log.items few))

  -- a change that is noted leaves the marks before it
  pub renewed_history : (c : Change) (value : Note) → IsHistory old → c.place < length old.values.items → new.values.items ≡ set old.values.items c.place value →
      new.log.items ≡ old.log.items ++ c ∷ [] → new.marks.items ≡ old.marks.items → IsHistory new
  renewed_history c value history inside values log marks =
      let long = ap length values ∙ length-set old.values.items c.place value in
      record {
        places = rw long (All-same (λ (d : Change). d.place < length old.values.items) new.log.items (old.log.items ++ c ∷ []) log (All-push (λ (d : Change). d.place < length old.values.items) old.log.items c history.places inside));
        marks = rw marks (All-weaker (λ m. m ≤ length old.log.items) (λ m. m ≤ length new.log.items) (λ m le. omega (arith, le, ap length log, length-append old.log.items (c ∷ []))) old.marks.items history.marks);
        rises = rw marks history.rises;
      }

  -- the marks before the last one stay, where the changes up to it are kept
  pub back_history : (marks : List ℕ) (changes : ℕ) → IsHistory old → old.marks.items ≡ marks ++ changes ∷ [] → new.marks.items ≡ marks → ArePlaces new →
      changes ≤ length new.log.items → IsHistory new
  back_history marks changes history is left places kept = record {
    places = places;
    marks = subst (All (λ m. m ≤ length new.log.items)) (sym left) (λ k d lt. omega (arith, marks_below old marks changes history is k d lt, kept));
    rises = rw left (front_rises marks changes (rw is at history.rises));
  }
