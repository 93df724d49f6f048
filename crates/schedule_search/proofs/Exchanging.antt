-- Two neighbours of an order in each other's place.
use Rattle.std.proofs.Common.{◌≡◌, ℕ, zero, suc, ◌+◌, ◌<◌, inl, inr, ◌≤◌, Option, None, Some, List, [], ◌∷◌, ◌++◌, length, get_or, set, take, refl, sym, ◌∙◌, ap, subst, arith, slice_get, IfNone, Contains, swap}
use Rattle.std.proofs.lemmas.Bool.{cases_eq}
use Rattle.std.proofs.lemmas.List.{take-append-le, take_at}
use Rattle.std.proofs.lemmas.List.Edits.{swap_is}
use Rattle.std.proofs.lemmas.Option.{slice_get_within}
use Rattle.plan_model.specs.Rules.{Each}
use Rattle.plan_model.proofs.Lists.{from_append, in_append_right, at_contains}
use Rattle.resource_table.specs.Jobs.{JobValue, Precedes}
use Rattle.resource_table.proofs.Placed.{each_front}
use Rattle.schedule_search.specs.Orders.{IsReady, IsTopological}
use Rattle.schedule_search.specs.Exchanges.{exchanged, NoGainAt}
use Rattle.common_lemmas.proofs.Lists.{at_left, contains_at}

-- ---- an order, taken apart at two neighbours

pub record IsApart (order : List ℕ) (place : ℕ) : Type 0 where
  pub front : List ℕ
  pub rest : List ℕ
  pub place_is : length front ≡ place
  pub whole : order ≡ front ++ (get_or order place 0 ∷ get_or order (place + 1) 0 ∷ rest)

pub apart : (order : List ℕ) (place : ℕ) → place + 1 < length order → IsApart order place
apart [] place within = absurd (omega arith)
apart (a ∷ []) place within = absurd (omega arith)
apart (a ∷ b ∷ order) zero within = record { front = []; rest = order; place_is = refl; whole = refl }
apart (a ∷ b ∷ order) (suc place) within =
    let ih = apart (b ∷ order) place (omega arith) in
    let next : suc (place + 1) ≡ suc place + 1 = omega arith in
    let whole : a ∷ b ∷ order ≡ a ∷ (ih.front ++ (get_or (b ∷ order) place 0 ∷ get_or (b ∷ order) (place + 1) 0 ∷ ih.rest)) = ap (λ (l : List ℕ). a ∷ l) ih.whole in
    record {
      front = a ∷ ih.front;
      rest = ih.rest;
      place_is = ap suc ih.place_is;
      whole = whole ∙ ap (λ (n : ℕ). a ∷ (ih.front ++ (get_or (b ∷ order) place 0 ∷ get_or (a ∷ b ∷ order) n 0 ∷ ih.rest))) next;
    }

first_of : (front rest : List ℕ) (a : ℕ) → get_or (front ++ a ∷ rest) (length front) 0 ≡ a
first_of [] rest a = refl
first_of (x ∷ front) rest a = first_of front rest a

second_of : (front rest : List ℕ) (a b : ℕ) → get_or (front ++ a ∷ b ∷ rest) (suc (length front)) 0 ≡ b
second_of [] rest a b = refl
second_of (x ∷ front) rest a b = second_of front rest a b

both_set : (front rest : List ℕ) (a b : ℕ) → set (set (front ++ a ∷ b ∷ rest) (length front) b) (suc (length front)) a ≡ front ++ b ∷ a ∷ rest
both_set [] rest a b = refl
both_set (x ∷ front) rest a b = ap (λ (l : List ℕ). x ∷ l) (both_set front rest a b)

longer : (front rest : List ℕ) (a b : ℕ) → suc (length front) < length (front ++ a ∷ b ∷ rest)
longer [] rest a b = omega arith
longer (x ∷ front) rest a b = let ih = longer front rest a b in omega arith

pub exchanged_is : (front rest : List ℕ) (a b place : ℕ) → length front ≡ place → exchanged (front ++ a ∷ b ∷ rest) place ≡ front ++ b ∷ a ∷ rest
exchanged_is front rest a b place is = subst (λ (n : ℕ). swap (front ++ a ∷ b ∷ rest) n (n + 1) ≡ front ++ b ∷ a ∷ rest) is at
  where
    next : length front + 1 ≡ suc (length front)
    next = omega arith

    within : suc (length front) < length (front ++ a ∷ b ∷ rest)
    within = longer front rest a b

    at' : swap (front ++ a ∷ b ∷ rest) (length front) (suc (length front)) ≡ front ++ b ∷ a ∷ rest
    at' = sym (swap_is (front ++ a ∷ b ∷ rest) (length front) (suc (length front)) 0 (let long = within in omega arith) within)
        ∙ ap (λ (v : ℕ). set (set (front ++ a ∷ b ∷ rest) (length front) v) (suc (length front)) (get_or (front ++ a ∷ b ∷ rest) (length front) 0)) (second_of front rest a b)
        ∙ ap (λ (v : ℕ). set (set (front ++ a ∷ b ∷ rest) (length front) b) (suc (length front)) v) (first_of front (b ∷ rest) a)
        ∙ both_set front rest a b

    at : swap (front ++ a ∷ b ∷ rest) (length front) (length front + 1) ≡ front ++ b ∷ a ∷ rest
    at = subst (λ (n : ℕ). swap (front ++ a ∷ b ∷ rest) (length front) n ≡ front ++ b ∷ a ∷ rest) (sym next) at'

-- the exchange, and the exchange back
pub exchange_apart : (order : List ℕ) (place : ℕ) (is : IsApart order place) → exchanged order place ≡ is.front ++ (get_or order (place + 1) 0 ∷ get_or order place 0 ∷ is.rest)
exchange_apart order place is =
    ap (λ (l : List ℕ). exchanged l place) is.whole ∙ exchanged_is is.front is.rest (get_or order place 0) (get_or order (place + 1) 0) place is.place_is

pub exchanged_back : (order : List ℕ) (place : ℕ) → place + 1 < length order → exchanged (exchanged order place) place ≡ order
exchanged_back order place within =
    let is = apart order place within in
    ap (λ (l : List ℕ). exchanged l place) (exchange_apart order place is) ∙ exchanged_is is.front is.rest (get_or order (place + 1) 0) (get_or order place 0) place is.place_is ∙ sym is.whole

-- ---- what stands in both

in_exchanged : (front rest : List ℕ) (a b x : ℕ) → Contains (front ++ a ∷ b ∷ rest) x → Contains (front ++ b ∷ a ∷ rest) x
in_exchanged front rest a b x there =
    let at = contains_at (front ++ a ∷ b ∷ rest) x there in
    elim (from_append front (a ∷ b ∷ rest) at.0 x at.1) [
      | inl old ↦ at_contains (front ++ b ∷ a ∷ rest) at.0 x (at_left front (b ∷ a ∷ rest) at.0 x old)
      | inr new ↦ late new.0 new.2
    ]
  where
    late : (j : ℕ) → slice_get (a ∷ b ∷ rest) j ≡ Some x → Contains (front ++ b ∷ a ∷ rest) x
    late zero at = let r = in_append_right front (b ∷ a ∷ rest) 1 x at in at_contains (front ++ b ∷ a ∷ rest) r.0 x r.1
    late (suc zero) at = let r = in_append_right front (b ∷ a ∷ rest) 0 x at in at_contains (front ++ b ∷ a ∷ rest) r.0 x r.1
    late (suc (suc j)) at = let r = in_append_right front (b ∷ a ∷ rest) (suc (suc j)) x at in at_contains (front ++ b ∷ a ∷ rest) r.0 x r.1

in_front : (front rest : List ℕ) (x : ℕ) → Contains front x → Contains (front ++ rest) x
in_front front rest x there = let at = contains_at front x there in at_contains (front ++ rest) at.0 x (at_left front rest at.0 x at.1)

at_end : (front : List ℕ) (a : ℕ) → Contains (front ++ a ∷ []) a
at_end front a = let r = in_append_right front (a ∷ []) 0 a refl in at_contains (front ++ a ∷ []) r.0 a r.1

from_end : (front : List ℕ) (a x : ℕ) → Contains (front ++ a ∷ []) x → (x ≡ a → ⊥) → Contains front x
from_end front a x there other =
    let at = contains_at (front ++ a ∷ []) x there in
    elim (from_append front (a ∷ []) at.0 x at.1) [
      | inl old ↦ at_contains front at.0 x old
      | inr new ↦ absurd (late new.0 new.2)
    ]
  where
    late : (j : ℕ) → slice_get (a ∷ []) j ≡ Some x → ⊥
    late zero at = other (let same : a ≡ x = cc in sym same)
    late (suc j) at = absurd cc

take_past : (front ys : List ℕ) (k n : ℕ) → n ≡ length front + k → take n (front ++ ys) ≡ front ++ take k ys
take_past [] ys k n is = let same : n ≡ k = omega arith in ap (λ (m : ℕ). take m ys) same
take_past (x ∷ front) ys k zero is = absurd (omega arith)
take_past (x ∷ front) ys k (suc n) is = ap (λ (l : List ℕ). x ∷ l) (take_past front ys k n (omega arith))

-- ---- the tests of the exchanged order are ready

ready_first : (job : JobValue) (front rest : List ℕ) (a b : ℕ) → Each (IsReady job) (front ++ a ∷ b ∷ rest) → IsReady job front a
ready_first job front rest a b each =
    let r = each (length front) a (here front) in
    subst (λ (v : List ℕ). IsReady job v a) (take_at front (a ∷ b ∷ rest) (length front) refl) r
  where
    here : (front : List ℕ) → slice_get (front ++ a ∷ b ∷ rest) (length front) ≡ Some a
    here [] = refl
    here (x ∷ front) = here front

ready_second : (job : JobValue) (front rest : List ℕ) (a b : ℕ) → Each (IsReady job) (front ++ a ∷ b ∷ rest) → IsReady job (front ++ a ∷ []) b
ready_second job front rest a b each =
    let r = each (suc (length front)) b (here front) in
    subst (λ (v : List ℕ). IsReady job v b) (take_past front (a ∷ b ∷ rest) 1 (suc (length front)) (omega arith)) r
  where
    here : (front : List ℕ) → slice_get (front ++ a ∷ b ∷ rest) (suc (length front)) ≡ Some b
    here [] = refl
    here (x ∷ front) = here front

exchanged_ready : (job : JobValue) (front rest : List ℕ) (a b : ℕ) → Each (IsReady job) (front ++ a ∷ b ∷ rest) → (Precedes job a b → ⊥) → Each (IsReady job) (front ++ b ∷ a ∷ rest)
exchanged_ready job front rest a b each apart n y at = elim (from_append front (b ∷ a ∷ rest) n y at) [
  | inl old ↦
      let within : n < length front = slice_get_within front n y old in
      let same : take n (front ++ b ∷ a ∷ rest) ≡ take n front = take-append-le n front (b ∷ a ∷ rest) (omega arith) in
      subst (λ (v : List ℕ). IsReady job v y) (sym same) (each_front (IsReady job) front (a ∷ b ∷ rest) each n y old)
  | inr new ↦ late new.0 new.1 new.2
]
  where
    first : IsReady job front a
    first = ready_first job front rest a b each

    second : IsReady job (front ++ a ∷ []) b
    second = ready_second job front rest a b each

    now : IsReady job front b
    now = record {
      in_job = second.in_job;
      new = (λ there. second.new (in_front front (a ∷ []) b there));
      after = (λ earlier before. from_end front a earlier (second.after earlier before) (λ same. apart (subst (λ (v : ℕ). Precedes job v b) same before)));
    }

    then : IsReady job (front ++ b ∷ []) a
    then = record {
      in_job = first.in_job;
      new = (λ there. first.new (from_end front b a there (λ same. second.new (subst (λ (v : ℕ). Contains (front ++ a ∷ []) v) same (at_end front a)))));
      after = (λ earlier before. in_front front (b ∷ []) earlier (first.after earlier before));
    }

    late : (j : ℕ) → n ≡ length front + j → slice_get (b ∷ a ∷ rest) j ≡ Some y → IsReady job (take n (front ++ b ∷ a ∷ rest)) y
    late zero e at' =
        let same : b ≡ y = cc in
        subst (λ (v : List ℕ). IsReady job v y) (sym (take_at front (b ∷ a ∷ rest) n (omega arith))) (subst (IsReady job front) same now)
    late (suc zero) e at' =
        let same : a ≡ y = cc in
        subst (λ (v : List ℕ). IsReady job v y) (sym (take_past front (b ∷ a ∷ rest) 1 n e)) (subst (IsReady job (front ++ b ∷ [])) same then)
    late (suc (suc k)) e at' =
        let there : slice_get (front ++ a ∷ b ∷ rest) n ≡ Some y = past front n e in
        let r : IsReady job (front ++ a ∷ b ∷ take k rest) y = subst (λ (v : List ℕ). IsReady job v y) (take_past front (a ∷ b ∷ rest) (suc (suc k)) n e) (each n y there) in
        subst (λ (v : List ℕ). IsReady job v y) (sym (take_past front (b ∷ a ∷ rest) (suc (suc k)) n e)) (record {
          in_job = r.in_job;
          new = (λ inside. r.new (in_exchanged front (take k rest) b a y inside));
          after = (λ earlier before. in_exchanged front (take k rest) a b earlier (r.after earlier before));
        })
      where
        past : (f : List ℕ) (m : ℕ) → m ≡ length f + suc (suc k) → slice_get (f ++ a ∷ b ∷ rest) m ≡ Some y
        past [] zero e' = absurd (omega arith)
        past [] (suc zero) e' = absurd (omega arith)
        past [] (suc (suc m)) e' = let same : m ≡ k = omega arith in subst (λ (v : ℕ). slice_get rest v ≡ Some y) (sym same) at'
        past (x ∷ f) zero e' = absurd (omega arith)
        past (x ∷ f) (suc m) e' = past f m (omega arith)

-- ---- where an exchange leaves an order topological

pub exchanged_topological : (job : JobValue) (order : List ℕ) (place : ℕ) → place + 1 < length order → IsTopological job order → (Precedes job (get_or order place 0) (get_or order (place + 1) 0) → ⊥) → IsTopological job (exchanged order place)
exchanged_topological job order place within topological none =
    let is = apart order place within in
    let a : ℕ = get_or order place 0 in
    let b : ℕ = get_or order (place + 1) 0 in
    subst (IsTopological job) (sym (exchange_apart order place is)) (record {
      ready = exchanged_ready job is.front is.rest a b (subst (Each (IsReady job)) is.whole topological.ready) none;
      whole = (λ test inside. in_exchanged is.front is.rest a b test (subst (λ (v : List ℕ). Contains v test) is.whole (topological.whole test inside)));
    })

pub not_exchanged : (job : JobValue) (order : List ℕ) (place : ℕ) → place + 1 < length order → IsTopological job order → Precedes job (get_or order place 0) (get_or order (place + 1) 0) → IsTopological job (exchanged order place) → ⊥
not_exchanged job order place within topological before topological' =
    let is = apart order place within in
    let a : ℕ = get_or order place 0 in
    let b : ℕ = get_or order (place + 1) 0 in
    let first = ready_first job is.front is.rest a b (subst (Each (IsReady job)) is.whole topological.ready) in
    let now = ready_first job is.front is.rest b a (subst (Each (IsReady job)) (exchange_apart order place is) topological'.ready) in
    first.new (now.after a before)

-- ---- where no exchange helps

pub if_none : (o : Option ℕ) (A B : Type 0) → (A → B) → IfNone o A → IfNone o B
if_none None A B f a = f a
if_none (Some x) A B f a = tt

-- none at a place, and none behind it
pub none_from : (job : JobValue) (order : List ℕ) (place cycles : ℕ) → NoGainAt job order place cycles → ((later : ℕ) → place + 1 ≤ later → later + 1 < length order → NoGainAt job order later cycles) → (later : ℕ) → place ≤ later → later + 1 < length order → NoGainAt job order later cycles
none_from job order place cycles here behind later from within = elim (cases_eq place later) [
  | inl same ↦ subst (λ (n : ℕ). NoGainAt job order n cycles) same here
  | inr apart ↦ behind later (omega (arith, from, apart)) within
]
