-- The least of some numbers, from one width to the next.
use Rattle.std.proofs.Common.{◌≡◌, ℕ, zero, suc, ◌+◌, ◌-◌, ◌^◌, ◌≤◌, ◌<◌, Bool, true, false, Option, Some, None, List, [], ◌∷◌, ◌++◌, length, get_or, replicate, refl, ap, ◌∙◌, sym, arith, inl, inr, ◌⊎◌}
use Rattle.std.specs.Prelude.{slice_get, IfSome}
use Rattle.std.proofs.lemmas.Bool.{cases_Bool, cases_lt, cases_eq, lt-ltb, le-ltb}
use Rattle.std.proofs.lemmas.List.{length-append, length_push, length-replicate}
use Rattle.std.proofs.lemmas.Option.{slice_get_within, slice_get-get_or}
use Rattle.soc_model.specs.Chips.{ModuleValue, SocValue}
use Rattle.plan_model.specs.Cells.{ChainValue}
use Rattle.plan_model.specs.Bounds.{least_from_one}
use Rattle.plan_model.proofs.FirstAndLeast.{least-le, least-ge}
use Rattle.wrapper_design.specs.Design.{mode_of, design}
use Rattle.width_table.specs.Times.{IsChosen, mode_tests, mode_time, time, time_in, least_time}
use Rattle.width_table.specs.Choices.{HasPaths, IsChoice, AreChoices, AreTimes, IsRow, AreRows, HasRows, last_of, takes_fewer, with_choice, choices_in}
use Rattle.width_table.specs.declared.choosing.Choice.{Choice}
use Rattle.width_table.specs.declared.rows.ModuleRow.{ModuleRow}
use Rattle.common_lemmas.proofs.Lists.{some_item}
use Rattle.common_lemmas.proofs.Options.{if_some}

pub chosen_first : (f : ℕ → ℕ) → IsChosen f 1 1
chosen_first f = record { some = omega arith; within = omega arith; least = λ u a b. let e : u ≡ 1 = omega arith in let s : f u ≡ f 1 = ap f e in omega arith; first = λ u a b. absurd (omega arith) }

pub chosen_new : (f : ℕ → ℕ) (w v n : ℕ) → n ≡ w + 1 → IsChosen f w v → f n < f v → IsChosen f n n
chosen_new f w v n e h less = record {
  some = omega arith;
  within = omega arith;
  least = λ u a b. elim (cases_eq u n) [
    | inl s ↦ let t : f u ≡ f n = ap f s in omega arith
    | inr ne ↦ let old : f v ≤ f u = h.least u a (omega (arith, ne)) in omega arith
  ];
  first = λ u a b. let old : f v ≤ f u = h.least u a (omega arith) in omega arith;
}

pub chosen_old : (f : ℕ → ℕ) (w v n : ℕ) → n ≡ w + 1 → IsChosen f w v → f v ≤ f n → IsChosen f n v
chosen_old f w v n e h le = record {
  some = h.some;
  within = omega (arith, h.within);
  least = λ u a b. elim (cases_eq u n) [
    | inl s ↦ let t : f u ≡ f n = ap f s in omega arith
    | inr ne ↦ h.least u a (omega (arith, ne))
  ];
  first = h.first;
}

pub chosen_unique : (f : ℕ → ℕ) (w v u : ℕ) → IsChosen f w v → IsChosen f w u → v ≡ u
chosen_unique f w v u a b = elim (cases_lt v u) [
  | inl less ↦ let x : f u < f v = b.first v a.some less in let y : f v ≤ f u = a.least u b.some b.within in absurd (omega arith)
  | inr not_less ↦ elim (cases_lt u v) [
    | inl less ↦ let x : f v < f u = a.first u b.some less in let y : f u ≤ f v = b.least v a.some a.within in absurd (omega arith)
    | inr not_more ↦ omega arith
  ]
]

-- ---- the least value

pub chosen_is_least : (f : ℕ → ℕ) (w v : ℕ) → IsChosen f w v → least_from_one f w ≡ f v
chosen_is_least f w v h =
    let up : least_from_one f w ≤ f v = least-le f w v h.some h.within in
    let down : f v ≤ least_from_one f w = least-ge f (f v) w (omega (arith, h.some, h.within)) h.least in
    omega arith

pub least_falls : (f : ℕ → ℕ) (v w : ℕ) → 1 ≤ v → v ≤ w → least_from_one f w ≤ least_from_one f v
least_falls f v w some le = least-ge f (least_from_one f w) v some (λ u a b. least-le f w u a (omega arith))

-- ---- the list of choices

pub get_push : {X : Type 0} (xs : List X) (x : X) (k : ℕ) (y : X) → slice_get (xs ++ x ∷ []) k ≡ Some y → ((k ≡ length xs) × (x ≡ y)) ⊎ (slice_get xs k ≡ Some y)
get_push [] x zero y at = inl (refl, cc)
get_push [] x (suc k) y at = absurd cc
get_push (z ∷ zs) x zero y at = inr at
get_push (z ∷ zs) x (suc k) y at = elim (get_push zs x k y at) [ inl h ↦ inl (ap suc h.0, h.1) | inr h ↦ inr h ]

get_replicate : {X : Type 0} (n : ℕ) (x : X) (k : ℕ) (y : X) → slice_get (replicate n x) k ≡ Some y → x ≡ y
get_replicate zero x k y at = absurd cc
get_replicate (suc n) x zero y at = cc
get_replicate (suc n) x (suc k) y at = get_replicate n x k y at

-- one choice at each width up to another one, over which the time stays
get_behind : {X : Type 0} (xs ys : List X) (k : ℕ) (y : X) → slice_get (xs ++ ys) k ≡ Some y → ((length xs ≤ k) × (slice_get ys (k - length xs) ≡ Some y)) ⊎ (slice_get xs k ≡ Some y)
get_behind [] ys k y at = let e : k - 0 ≡ k = omega arith in inl (omega arith, rw e at)
get_behind (x ∷ xs) ys zero y at = inr at
get_behind (x ∷ xs) ys (suc k) y at = elim (get_behind xs ys k y at) [
  | inl h ↦ let e : suc k - suc (length xs) ≡ k - length xs = omega arith in inl (omega (arith, h.0), rw e h.1)
  | inr h ↦ inr h
]

-- a choice stays one as long as the time does
pub choice_stays : (m : ModuleValue) (scan : Bool) (w v : ℕ) (c : Choice) → w ≤ v → ((u : ℕ) → w ≤ u → u ≤ v → mode_time m scan u ≡ mode_time m scan w) → IsChoice m scan w c → IsChoice m scan v c
choice_stays m scan w v c le same now =
    let f : ℕ → ℕ = mode_time m scan in
    record {
      chosen = record {
        some = now.chosen.some;
        within = omega (arith, now.chosen.within);
        least = λ u a b. elim (cases_lt u w) [
          | inl less ↦ now.chosen.least u a (omega (arith, less))
          | inr no' ↦
              let here : f u ≡ f w = same u (omega (arith, no')) b in
              let least : f c.width ≤ f w = now.chosen.least w (omega (arith, now.chosen.some, now.chosen.within)) (omega arith) in
              omega (arith, here, least)
        ];
        first = now.chosen.first;
      };
      cycles = now.cycles;
      fits = now.fits;
      paths = now.paths;
    }

pub fill_choices : (m : ModuleValue) (scan : Bool) (before w last n : ℕ) (taken more : List Choice) (places all : List ℕ) (c : Choice) → w ≡ before + 1 → w ≤ last → AreChoices m scan before taken places → ((k : ℕ) (d : Choice) → slice_get taken k ≡ Some d → slice_get more k ≡ Some d) → slice_get more n ≡ Some c → IsChoice m scan w c →
    ((u : ℕ) → w ≤ u → u ≤ last → mode_time m scan u ≡ mode_time m scan w) → all ≡ places ++ replicate (last - before) n → AreChoices m scan last more all
fill_choices m scan before w last n taken more places all c e le h grows newest now same is = rw is (record {
  size = length-append places (replicate (last - before) n) ∙ omega (arith, h.size, length-replicate (last - before) n);
  each = λ k p at. elim (get_behind places (replicate (last - before) n) k p at) [
    | inl new ↦
        let same_place : n ≡ p = get_replicate (last - before) n (k - length places) p new.1 in
        let below : k - length places < last - before = omega (arith, slice_get_within (replicate (last - before) n) (k - length places) p new.1, length-replicate (last - before) n) in
        (c, rw (← same_place) newest, choice_stays m scan w (k + 1) c (omega (arith, new.0, h.size)) (λ u a b. same u a (omega (arith, b, below, new.0, h.size))) now)
    | inr old ↦
        let r = h.each k p old in
        (r.0, grows p r.0 r.1, r.2)
  ];
})

-- where nothing takes any time, the first width is chosen
pub idle_choices : (m : ModuleValue) (scan : Bool) (w : ℕ) → length (mode_tests m scan) ≡ 0 → ((u : ℕ) → mode_time m scan u ≡ 0) → AreChoices m scan w (replicate 1 (record { width = 1; si = 0; so = 0; cycles = 0 })) (replicate w 0)
idle_choices m scan w no_test none = record {
  size = length-replicate w 0;
  each = λ k p at.
      let e : 0 ≡ p = get_replicate w 0 k p at in (
        record { width = 1; si = 0; so = 0; cycles = 0 },
        rw (← e) refl,
        record {
          chosen = record {
            some = omega arith;
            within = omega arith;
            least = λ u a b. omega (arith, none 1, none u);
            first = λ u a b. absurd (omega arith);
          };
          cycles = sym (none 1);
          fits = omega arith;
          paths = λ some. absurd (omega (arith, no_test));
        },
      );
}

-- ---- the choices that are taken

pub newest_at : (taken : List Choice) (c : Choice) (n : ℕ) → last_of taken ≡ Some c → n + 1 ≡ length taken → slice_get taken n ≡ Some c
newest_at taken c n h e = let is : n ≡ length taken - 1 = omega arith in rw is h

last_pushed : (taken : List Choice) (c : Choice) → last_of (taken ++ c ∷ []) ≡ Some c
last_pushed taken c = let e : length (taken ++ c ∷ []) - 1 ≡ length taken = omega (arith, length_push taken c) in rw e (seam taken) where
  seam : (xs : List Choice) → slice_get (xs ++ c ∷ []) (length xs) ≡ Some c
  seam [] = refl
  seam (x ∷ xs) = seam xs

-- what was taken stays at its place
pub taken_stays : (c : Choice) (taken : List Choice) (k : ℕ) (d : Choice) → slice_get taken k ≡ Some d → slice_get (with_choice c taken) k ≡ Some d
taken_stays c taken k d at = elim (cases_Bool (takes_fewer c taken)) [
  | inl yes' ↦ rw yes' (get_front taken (c ∷ []) k d at)
  | inr no' ↦ rw no' at
] where
  get_front : {X : Type 0} (xs ys : List X) (k : ℕ) (x : X) → slice_get xs k ≡ Some x → slice_get (xs ++ ys) k ≡ Some x
  get_front [] ys k x at = absurd cc
  get_front (y ∷ xs) ys zero x at = at
  get_front (y ∷ xs) ys (suc k) x at = get_front xs ys k x at

pub few_taken : (c : Choice) (taken : List Choice) → length (with_choice c taken) ≤ length taken + 1
few_taken c taken = elim (cases_Bool (takes_fewer c taken)) [
  | inl yes' ↦ rw yes' (omega (arith, length_push taken c))
  | inr no' ↦ rw no' (omega arith)
]

-- the last choice that is taken at a width, from the one before it
pub choose : (m : ModuleValue) (scan : Bool) (w : ℕ) (c : Choice) (taken : List Choice) → 1 ≤ w → c.width ≡ w → c.cycles ≡ mode_time m scan w → c.cycles ≤ 10 ^ 18 → HasPaths (mode_of m scan) c →
    (1 < w → (b : Choice) × (last_of taken ≡ Some b) × IsChoice m scan (w - 1) b) → (w ≤ 1 → taken ≡ []) → (b : Choice) × (last_of (with_choice c taken) ≡ Some b) × IsChoice m scan w b
choose m scan w c taken some here is small paths before start = elim (cases_lt 1 w) [
  | inl later ↦
      let r = before later in
      rw r.1 (elim (cases_lt c.cycles (r.0).cycles) [
        | inl less ↦ rw (lt-ltb c.cycles (r.0).cycles less) (
          c,
          last_pushed taken c,
          new (chosen_new (mode_time m scan) (w - 1) (r.0).width w (omega arith) r.2.chosen (omega (arith, r.2.cycles, is, less))),
        )
        | inr no' ↦ rw (le-ltb c.cycles (r.0).cycles no') (
          r.0,
          r.1,
          record {
            chosen = chosen_old (mode_time m scan) (w - 1) (r.0).width w (omega arith) r.2.chosen (omega (arith, r.2.cycles, is, no'));
            cycles = r.2.cycles;
            fits = r.2.fits;
            paths = r.2.paths;
          },
        )
      ])
  | inr first ↦
      let e : w ≡ 1 = omega arith in
      rw (start (omega arith)) (c, refl, new (rw e (chosen_first (mode_time m scan))))
] where
  new : IsChosen (mode_time m scan) w w → IsChoice m scan w c
  new chosen = record {
    chosen = rw here chosen;
    cycles = rw here is;
    fits = small;
    paths = λ any. paths;
  }

-- ---- both modes together

pub time_falls : (m : ModuleValue) (v w : ℕ) → 1 ≤ v → v ≤ w → time m w ≤ time m v
unfolding time
time_falls m v w some le = omega (arith, least_falls (mode_time m true) v w some le, least_falls (mode_time m false) v w some le)

-- any two chosen widths have the time
pub time_of_chosen : (m : ModuleValue) (w v u : ℕ) → IsChosen (mode_time m true) w v → IsChosen (mode_time m false) w u → time m w ≡ mode_time m true v + mode_time m false u
unfolding time
time_of_chosen m w v u a b = omega (arith, chosen_is_least (mode_time m true) w v a, chosen_is_least (mode_time m false) w u b)

pub time_from : (m : ModuleValue) (w : ℕ) (a b : Choice) → IsChoice m true w a → IsChoice m false w b → a.cycles + b.cycles ≡ time m w
time_from m w a b x y = omega (arith, x.cycles, y.cycles, time_of_chosen m w a.width b.width x.chosen y.chosen)

-- ---- the table

-- what holds of the module at a place
pub at_place : {X : Type 0} (xs : List X) (k : ℕ) (P : X → Type 0) → ((x : X) → slice_get xs k ≡ Some x → P x) → IfSome (slice_get xs k) P
at_place xs k P h = if_some (slice_get xs k) P h

pub push_row : (ms : List ModuleValue) (w k : ℕ) (rows : List ModuleRow) (m : ModuleValue) (r : ModuleRow) → length rows ≡ k → slice_get ms k ≡ Some m → AreRows ms w rows → IsRow m w r → AreRows ms w (rows ++ r ∷ [])
push_row ms w k rows m r e here h new = λ p n s at at'. elim (get_push rows r p s at') [
  | inl last ↦ let i : p ≡ k = last.0 ∙ e in let same : m ≡ n = same_at ms k p m n here (sym i) at in rw (← same, ← last.1) new
  | inr old ↦ h p n s at old
] where
  same_at : (ms : List ModuleValue) (k p : ℕ) (m n : ModuleValue) → slice_get ms k ≡ Some m → k ≡ p → slice_get ms p ≡ Some n → m ≡ n
  same_at ms k p m n here i at = let t : slice_get ms k ≡ Some n = ap (slice_get ms) i ∙ at in cc

-- one time more
pub push_time : (m : ModuleValue) (k time' : ℕ) (times : List ℕ) → AreTimes m k times → time' ≡ time m (k + 1) → AreTimes m (k + 1) (times ++ time' ∷ [])
push_time m k time' times h is = record {
  size = length_push times time' ∙ omega (arith, h.size);
  each = λ i t at. elim (get_push times time' i t at) [
    | inl last ↦ let here : i ≡ k = last.0 ∙ h.size in sym last.1 ∙ is ∙ ap (λ (j : ℕ). time m (j + 1)) (sym here)
    | inr old ↦ h.each i t old
  ];
}

pub module_there : (soc : SocValue) (place : ℕ) → place < length soc.modules → (m : ModuleValue) × (slice_get soc.modules place ≡ Some m)
module_there soc place h = some_item soc.modules place h

read_at : {X : Type 0} (xs : List X) (k : ℕ) (x d : X) → x ≡ get_or xs k d → k < length xs → slice_get xs k ≡ Some x
read_at xs k x d e h = slice_get-get_or xs k d h ∙ ap Some (sym e)

-- the row that is read is that of the module at the place
pub row_read : (soc : SocValue) (w : ℕ) (rows : List ModuleRow) (place : ℕ) (r : ModuleRow) (m : ModuleValue) → HasRows soc w rows → slice_get soc.modules place ≡ Some m → r ≡ get_or rows place r → IsRow m w r
row_read soc w rows place r m t at e = t.rows_are place m r at (read_at rows place r r e (omega (arith, t.as_many, slice_get_within soc.modules place m at)))

pub time_read : (m : ModuleValue) (w width k : ℕ) (times : List ℕ) (t d : ℕ) → AreTimes m w times → t ≡ get_or times k d → k + 1 ≡ width → width ≤ w → t ≡ time m width
time_read m w width k times t d h e is le = rw (← is) (h.each k t (read_at times k t d e (omega (arith, h.size))))

pub choices_of_row : (m : ModuleValue) (w : ℕ) (scan : Bool) (r : ModuleRow) → IsRow m w r → AreChoices m scan w (choices_in scan r).taken.items (choices_in scan r).places.items
choices_of_row m w true r h = h.scan
choices_of_row m w false r h = h.terminals

-- what was answered is the choice for the module at the place
pub choice_at : (soc : SocValue) (w : ℕ) (rows : List ModuleRow) (place : ℕ) (scan : Bool) (width : ℕ) (c : Choice) (r : ModuleRow) → HasRows soc w rows → r ≡ get_or rows place r →
    ((m : ModuleValue) (scan' : Bool) (wires : ℕ) → AreChoices m scan' wires (choices_in scan r).taken.items (choices_in scan r).places.items → width ≤ wires → IsChoice m scan' width c) → width ≤ w → (m : ModuleValue) → slice_get soc.modules place ≡ Some m → IsChoice m scan width c
choice_at soc w rows place scan width c r t e is within m at = is m scan w (choices_of_row m w scan r (row_read soc w rows place r m t at e)) within

-- in the design at the chosen width the mode's tests take the least time
pub wrapper_attains : (ms : List ModuleValue) (place : ℕ) (scan : Bool) (width v : ℕ) (own : ModuleValue) (chains : List ChainValue) → slice_get ms place ≡ Some own → IfSome (slice_get ms place) (λ m. IsChosen (mode_time m scan) width v) → chains ≡ design (mode_of own scan) v → IfSome (slice_get ms place) (λ m. time_in m scan chains ≡ least_time m scan width)
unfolding mode_time
wrapper_attains ms place scan width v own chains at chosen is =
    let here : IsChosen (mode_time own scan) width v = rw at at chosen in
    rw at (ap (time_in own scan) is ∙ sym (chosen_is_least (mode_time own scan) width v here))
