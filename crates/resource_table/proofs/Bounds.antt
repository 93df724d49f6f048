-- What is noted of tests, as tests are placed and taken back.
use Rattle.std.proofs.Common.{◌≡◌, ◌⊎◌, ℕ, zero, suc, replicate, ◌+◌, ◌<◌, ◌≤◌, inl, inr, List, [], ◌∷◌, ◌++◌, length, get_or, set, take, map, arith, refl, sym, ap, ◌∙◌, subst, length-append, vec_capacity}
use Rattle.std.proofs.{Math.ListN.get_or-append, Math.Seq.get_or-append_seam, lemmas.Bool.cases_eq, lemmas.Bool.cases_lt}
use Rattle.std.proofs.lemmas.List.{length-map, length-set, length-replicate, get_or-set_same, get_or-set_other, take_at, take-append-le}
use Rattle.resource_table.{specs.declared.Placement.Placement, specs.declared.history.Note.Note, specs.declared.history.History.History, proofs.Schedules.fits_fewer}
use Rattle.resource_table.specs.Histories.{no_note, at_change, past_of, IsHistory}
use Rattle.resource_table.specs.{Jobs.JobValue, Kept.AreNotes, Kept.IsBounded, Schedules.Fits, Schedules.IsEarliest}
use Rattle.common_lemmas.proofs.Lists.{any_default}

empty_note : (n i : ℕ) → get_or (replicate n no_note) i no_note ≡ no_note
empty_note zero i = refl
empty_note (suc n) zero = refl
empty_note (suc n) (suc i) = empty_note n i

module _ (job : JobValue) (placed : List Placement) where
  notes_none : (notes : List Note) → ((test : ℕ) → get_or notes test no_note ≡ no_note) → AreNotes job placed notes
  notes_none notes empty = record {
    bound = (λ test start inside fits. (let e = ap (λ (n : Note). n.start) (empty test) in omega (arith, e)));
    depth = (λ test. (let e = ap (λ (n : Note). n.depth) (empty test) in omega (arith, e)));
    found = (λ test inside same. absurd (let e = ap (λ (n : Note). n.depth) (empty test) in omega (arith, e, same)));
  }

  -- notes of fewer tests say nothing of the least start
  notes_push : (p : Placement) (notes : List Note) → AreNotes job placed notes → AreNotes job (placed ++ p ∷ []) notes
  notes_push p notes are = record {
    bound = (λ test start inside fits. are.bound test start inside (fits_fewer job placed (p ∷ []) test start fits));
    depth = (λ test. (let d = are.depth test in omega (arith, d, length-append placed (p ∷ []))));
    found = (λ test inside same. absurd (let d = are.depth test in omega (arith, d, same, length-append placed (p ∷ []))));
  }

-- what holds of each note, where one is changed
each_note : (notes : List Note) (test : ℕ) (note : Note) → test < length notes → (P : ℕ → Note → Type 0) → P test note → ((other : ℕ) → P other (get_or notes other no_note)) → (other : ℕ) → P other (get_or (set notes test note) other no_note)
each_note notes test note lt P here there other = elim (cases_eq other test) [
  | inl same ↦ rw same (rw (get_or-set_same notes test note no_note lt) here)
  | inr apart ↦ rw (get_or-set_other notes test other note no_note apart) (there other)
]

module _ (job : JobValue) (placed : List Placement) where
  notes_set : (notes : List Note) (test : ℕ) (note : Note) → test < length notes → IsEarliest job placed test note.start → note.depth ≡ length placed + 1 →
      AreNotes job placed notes → AreNotes job placed (set notes test note)
  notes_set notes test note lt earliest depth are = record {
    bound = each_note notes test note lt (λ other n. (at : ℕ) → other < length job.tests → Fits job placed other at → n.start ≤ at) (λ at inside fits. earliest.least at fits) are.bound;
    depth = each_note notes test note lt (λ other n. n.depth ≤ length placed + 1) (omega (arith, depth)) are.depth;
    found = each_note notes test note lt (λ other n. other < length job.tests → n.depth ≡ length placed + 1 → IsEarliest job placed other n.start) (λ inside same. earliest) are.found;
  }

  pub bounded_new : (bounds : History) (count : ℕ) → placed ≡ [] → count ≡ length job.tests → bounds.values.items ≡ replicate count no_note → bounds.marks.items ≡ [] →
      IsHistory bounds → count ≤ vec_capacity bounds.marks → IsBounded job placed bounds
  bounded_new bounds count none count_is values marks history room = record {
    history = history;
    long = ap length values ∙ length-replicate count no_note ∙ count_is;
    now = notes_none job placed bounds.values.items (λ test. ap (λ v. get_or v test no_note) values ∙ empty_note count test);
    levels = ap (λ v. length (map (at_change bounds) v)) marks ∙ sym (ap length none);
    past = (λ i lt. absurd (omega (arith, lt, ap length none)));
    room = omega arith;
  }

  -- there is room for one mark more
  pub marks_have_room : (bounds : History) → IsBounded job placed bounds → length placed + 1 ≤ length job.tests → length bounds.marks.items < vec_capacity bounds.marks
  marks_have_room bounds is more = omega (arith, is.levels, length-map bounds.marks.items (at_change bounds), is.room, more)

module _ (job : JobValue) (placed all : List Placement) (p : Placement) (old new : History) (all_is : all ≡ placed ++ p ∷ []) where
  pub bounded_push : IsBounded job placed old → IsHistory new → new.values.items ≡ old.values.items → past_of new ≡ past_of old ++ old.values.items ∷ [] →
      vec_capacity new.marks ≡ vec_capacity old.marks → IsBounded job all new
  bounded_push is history values past room = subst (λ v. IsBounded job v new) (sym all_is) (record {
    history = history;
    long = ap length values ∙ is.long;
    now = rw values (notes_push job placed p old.values.items is.now);
    levels = omega (arith, ap length past, length-append (past_of old) (old.values.items ∷ []), is.levels, length-append placed (p ∷ []));
    past = (λ i lt. elim (cases_lt i (length placed)) [
      | inl less ↦ each i (sym (take-append-le i placed (p ∷ []) (omega arith))) (get_or-append (past_of old) (old.values.items ∷ []) [] i (let same = is.levels in omega (arith, less, same))) (is.past i less)
      | inr last ↦
          let at : i ≡ length placed = omega (arith, lt, last, length-append placed (p ∷ [])) in
          let same = at ∙ sym is.levels in
          each i (sym (take_at placed (p ∷ []) i (sym at))) (ap (λ n. get_or (past_of old ++ old.values.items ∷ []) n []) same ∙ get_or-append_seam (past_of old) old.values.items [] []) is.now
    ]);
    room = omega (arith, is.room, room);
  })
    where
      each : (i : ℕ) {before : List Placement} {bounds : List Note} → before ≡ take i (placed ++ p ∷ []) → get_or (past_of old ++ old.values.items ∷ []) i [] ≡ bounds → AreNotes job before bounds → AreNotes job (take i (placed ++ p ∷ [])) (get_or (past_of new) i [])
      each i {before} {bounds} front there are =
          rw front at (rw (← (ap (λ v. get_or v i []) past ∙ there)) at are)

  pub bounded_pop : IsBounded job all old → IsHistory new → length new.values.items ≡ length old.values.items → past_of old ≡ past_of new ++ new.values.items ∷ [] →
      vec_capacity new.marks ≡ vec_capacity old.marks → IsBounded job placed new
  bounded_pop whole history long past room =
      let is = rw all_is at whole in
      let levels : length (past_of new) ≡ length placed = omega (arith, ap length past, length-append (past_of new) (new.values.items ∷ []), is.levels, length-append placed (p ∷ [])) in
      let more = length-append placed (p ∷ []) in
      record {
        history = history;
        long = long ∙ is.long;
        now = rw (take_at placed (p ∷ []) (length placed) refl) at (rw (ap (λ v. get_or v (length placed) []) past ∙ ap (λ n. get_or (past_of new ++ new.values.items ∷ []) n []) (sym levels) ∙ get_or-append_seam (past_of new) new.values.items [] []) at (is.past (length placed) (omega (arith, more))));
        levels = levels;
        past = (λ i lt. rw (take-append-le i placed (p ∷ []) (omega arith)) at (rw (ap (λ v. get_or v i []) past ∙ get_or-append (past_of new) (new.values.items ∷ []) [] i (omega (arith, lt, levels))) at (is.past i (omega (arith, lt, more)))));
        room = omega (arith, is.room, room);
      }

pub bounded_note : (job : JobValue) (placed : List Placement) (old new : History) (test : ℕ) (note : Note) → IsBounded job placed old → IsHistory new → test < length job.tests → IsEarliest job placed test note.start → note.depth ≡ length placed + 1 →
    (new.values.items ≡ old.values.items) ⊎ (new.values.items ≡ set old.values.items test note) → past_of new ≡ past_of old → new.marks ≡ old.marks → IsBounded job placed new
bounded_note job placed old new test note is history inside earliest depth values past marks = record {
  history = history;
  long = elim values [ inl same ↦ ap length same ∙ is.long | inr more ↦ ap length more ∙ length-set old.values.items test note ∙ is.long ];
  now = elim values [
    | inl same ↦ rw same is.now
    | inr more ↦ rw more (notes_set job placed old.values.items test note (let long = is.long in omega arith) earliest depth is.now)
  ];
  levels = ap length past ∙ is.levels;
  past = (λ i lt. rw past (is.past i lt));
  room = (let room = is.room in omega (arith, room, ap vec_capacity marks));
}

module _ (job : JobValue) (placed : List Placement) (bounds : History) (is : IsBounded job placed bounds) (test : ℕ) where
  -- a note that was read
  read_note : (read : Note) → test < length job.tests → read ≡ get_or bounds.values.items test read → read ≡ get_or bounds.values.items test no_note
  read_note read inside at = at ∙ any_default bounds.values.items test read no_note (let long = is.long in omega arith)

  pub noted : (start : ℕ) (read : Note) → test < length job.tests → Fits job placed test start → read ≡ get_or bounds.values.items test read → read.start ≤ start
  noted start read inside fits at =
      omega (arith, ap (λ (n : Note). n.start) (read_note read inside at), is.now.bound test start inside fits)

  pub noted_found : (read : Note) → test < length job.tests → read ≡ get_or bounds.values.items test read → read.depth ≡ length placed + 1 →
      IsEarliest job placed test read.start
  noted_found read inside at =
      rw (read_note read inside at) (is.now.found test inside)
