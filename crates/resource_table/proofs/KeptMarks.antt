-- The cycles at which what the placed tests draw may change, and the profile that is kept of them.
use Rattle.std.proofs.Common.{◌≡◌, ℕ, zero, suc, ◌+◌, ◌-◌, ◌<◌, ◌≤◌, inl, inr, Option, None, Some, List, [], ◌∷◌, ◌++◌, length, take, drop, map, arith, refl, sym, ap, ◌∙◌, subst, length-append, slice_get, nat_eq, if◌then◌else◌, ◌⊎◌, vec_capacity, IfSome}
use Rattle.std.{specs.List.sum_by, specs.List.flat_map, specs.Global.Vec, proofs.Math.Seq.drop-append_seam}
use Rattle.smallvec.specs.SmallVec.{SmallVec}
use Rattle.std.proofs.lemmas.{Bool.cases_lt, List.take_at, List.length-map, List.Sums.sum_by-cons, List.Sums.sum_by-append}
use Rattle.plan_model.proofs.Lists.{from_flat_map}
use Rattle.resource_table.specs.{declared.Placement.Placement, Kept.IsProfiled}
use Rattle.busy_times.specs.{declared.power.Draw.Draw, declared.points.Point.Point}
use Rattle.resource_table.specs.Jobs.{TestValue, JobValue, IsSoundJob, test_at, no_test, cycles_of}
use Rattle.resource_table.specs.Schedules.{at_start, MayPlace, IsSoundTable}
use Rattle.busy_times.specs.Draws.{load_of, draws_from, marks_from, step_end}
use Rattle.resource_table.specs.Resources.{draws_of, marks_of}
use Rattle.busy_times.specs.Profiles.{counted, all_uses, ArePoints, AreMarked}
use Rattle.resource_table.proofs.{Steps.step_end-le, Fitting.load_is_power, Schedules.sound_power}
use Rattle.busy_times.proofs.Profiles.{self_counts, last_dropped}
use Rattle.resource_table.proofs.KeptTables.{sound_push, trail_has_room, draws_have_room}
use Rattle.common_lemmas.proofs.Lists.{flat_map_push}

-- ---- a limit that may be there

if_some : {X : Type 0} {P : X → Type 0} (o : Option X) → ((x : X) → o ≡ Some x → P x) → IfSome o P
if_some None h = tt
if_some (Some x) h = h x refl

if_some_more : {X : Type 0} {P Q : X → Type 0} (o : Option X) → ((x : X) → P x → Q x) → IfSome o P → IfSome o Q
if_some_more None h p = tt
if_some_more (Some x) h p = h x p

-- ---- the marks of one test

-- the first step begins at a mark, or past the end
abbrev BeginsAt : (start length' x : ℕ) → List (ℕ × ℕ) → Type 0
BeginsAt start length' x [] = Unit {0}
BeginsAt start length' x (s ∷ steps) = (x ≡ start + s.0) ⊎ (length' ≤ s.0)

module _ (start length' : ℕ) where
  begins_next : (next : List (ℕ × ℕ)) → BeginsAt start length' (start + step_end length' next) next
  begins_next [] = tt
  begins_next (t ∷ next) = elim (cases_lt t.0 length') [
    | inl early ↦ inl (omega (arith, early))
    | inr late ↦ inr late
  ]

  end_counts : (s : ℕ × ℕ) (next : List (ℕ × ℕ)) (cycles : List ℕ) → ((c : ℕ) → counted c (map (λ (d : Draw). d.to) (draws_from start length' (s ∷ next))) ≤ counted c cycles) →
      1 ≤ counted (start + step_end length' next) cycles
  end_counts s next cycles among =
      let end = start + step_end length' next in
      omega (arith, among end, self_counts end, sum_by-cons (λ y. if nat_eq y end then 1 else 0) end (map (λ (d : Draw). d.to) (draws_from start length' next)))

  marked_from : (x : ℕ) (steps : List (ℕ × ℕ)) (cycles : List ℕ) → BeginsAt start length' x steps → 1 ≤ counted x cycles →
      ((c : ℕ) → counted c (map (λ (d : Draw). d.to) (draws_from start length' steps)) ≤ counted c cycles) → (i : ℕ) (d : Draw) →
      slice_get (draws_from start length' steps) i ≡ Some d → (d.to ≤ d.from) ⊎ ((1 ≤ counted d.from cycles) × (1 ≤ counted d.to cycles))
  marked_from x [] cycles begins has among i d at = absurd cc
  marked_from x (s ∷ next) cycles begins has among zero d at = first cc
    where
      first : (let one : Draw = record { from = start + s.0; to = start + step_end length' next; power = s.1 } in one) ≡ d → (d.to ≤ d.from) ⊎ ((1 ≤ counted d.from cycles) × (1 ≤ counted d.to cycles))
      first same = subst (λ (v : Draw). (v.to ≤ v.from) ⊎ ((1 ≤ counted v.from cycles) × (1 ≤ counted v.to cycles))) same (elim begins [
        | inl at_mark ↦ inr (rw at_mark at has, end_counts s next cycles among)
        | inr past ↦ inl (let most = step_end-le length' next in omega (arith, most, past))
      ])
  marked_from x (s ∷ next) cycles begins has among (suc i) d at =
      marked_from (start + step_end length' next) next cycles (begins_next next) (end_counts s next cycles among)
      (λ c. omega (arith, among c, sum_by-cons (λ y. if nat_eq y c then 1 else 0) (start + step_end length' next) (map (λ (d : Draw). d.to) (draws_from start length' next)))) i d at

-- ---- the marks of the placed tests

counted_in : {X : Type 0} (f : X → List ℕ) (xs : List X) (n : ℕ) (x : X) (c : ℕ) → slice_get xs n ≡ Some x → counted c (f x) ≤ counted c (flat_map f xs)
counted_in f [] n x c at = absurd cc
counted_in f (y ∷ xs) zero x c at =
    let same : counted c (f y) ≡ counted c (f x) = ap (λ v. counted c (f v)) cc in
    omega (arith, same, sum_by-append (λ v. if nat_eq v c then 1 else 0) (f y) (flat_map f xs))
counted_in f (y ∷ xs) (suc n) x c at = omega (arith, counted_in f xs n x c at, sum_by-append (λ v. if nat_eq v c then 1 else 0) (f y) (flat_map f xs))

first_begins : (start length' : ℕ) (steps : List (ℕ × ℕ)) → (power : ℕ) × (slice_get steps 0 ≡ Some (0, power)) → BeginsAt start length' start steps
first_begins start length' [] begins = tt
first_begins start length' (s ∷ steps) begins =
    let first : s ≡ (0, begins.0) = let b = begins.1 in cc in
    inl (omega (arith, ap (λ (v : ℕ × ℕ). v.0) first))

pub all_marked : (job : JobValue) (placed : List Placement) → IsSoundJob job → ((i : ℕ) (p : Placement) → slice_get placed i ≡ Some p → p.test < length job.tests) → AreMarked (flat_map (draws_of job) placed) (flat_map (marks_of job) placed)
all_marked job placed sound inside = record {
  each = (λ i d at.
      let r = from_flat_map (draws_of job) placed i d at in
      let p = r.1 in
      let steps = (test_at job p.test).steps in
      let cycles = flat_map (marks_of job) placed in
      let among : (c : ℕ) → counted c (marks_of job p) ≤ counted c cycles = λ c. counted_in (marks_of job) placed r.0 p c r.3 in
      let split : (c : ℕ) → counted c (marks_of job p) ≡ (if nat_eq p.start c then 1 else 0) + counted c (map (λ (d : Draw). d.to) (draws_of job p)) = λ c. sum_by-cons (λ y. if nat_eq y c then 1 else 0) p.start (map (λ (d : Draw). d.to) (draws_of job p)) in
      marked_from p.start (cycles_of job p.test) p.start steps cycles (first_begins p.start (cycles_of job p.test) steps (sound.tests p.test no_test (inside r.0 p r.3)).begins) (omega (arith, among p.start, split p.start, self_counts p.start))
      (λ c. omega (arith, among c, split c)) r.2 d r.4);
}

pub length-all_marks : (job : JobValue) (placed : List Placement) → length (flat_map (marks_of job) placed) ≡ length placed + length (flat_map (draws_of job) placed)
length-all_marks job [] = refl
length-all_marks job (p ∷ placed) =
    omega (arith, length-all_marks job placed, length-append (marks_of job p) (flat_map (marks_of job) placed), length-append (draws_of job p) (flat_map (draws_of job) placed), length-map (draws_of job p) (λ (d : Draw). d.to))

-- ---- the last test beside the others

same_marks : (draws : List Draw) (a b : List ℕ) (points : List Point) → ArePoints draws a points → ((c : ℕ) → counted c a ≡ counted c b) → length a ≡ length b → ArePoints draws b points
same_marks draws a b points are counts long = record {
  ordered = are.ordered;
  loads = are.loads;
  marks = (λ c. are.marks c ∙ counts c);
  count = are.count ∙ long;
}

module _ (job : JobValue) (placed : List Placement) (p : Placement) (draws : List Draw) (count : ℕ) (draws_are : draws ≡ flat_map (draws_of job) placed ++ draws_of job p) (count_is : count ≡ length (flat_map (draws_of job) placed)) where
  front_is : take count draws ≡ flat_map (draws_of job) placed
  front_is = ap (take count) draws_are ∙ take_at (flat_map (draws_of job) placed) (draws_of job p) count (sym count_is)

  back_is : drop count draws ≡ draws_of job p
  back_is = ap (drop count) draws_are ∙ ap (λ n. drop n (flat_map (draws_of job) placed ++ draws_of job p)) count_is ∙ drop-append_seam (flat_map (draws_of job) placed) (draws_of job p)

  marks_are : marks_from p.start (drop count draws) ≡ marks_of job p
  marks_are = ap (marks_from p.start) back_is

  all_draws : draws ≡ flat_map (draws_of job) (placed ++ p ∷ [])
  all_draws = draws_are ∙ sym (flat_map_push (draws_of job) placed p)

  all_marks : flat_map (marks_of job) (placed ++ p ∷ []) ≡ flat_map (marks_of job) placed ++ marks_of job p
  all_marks = flat_map_push (marks_of job) placed p

  -- with it placed the limit is kept
  pub last_within : IsSoundTable (record { job = job; placed = placed }) → MayPlace job placed p.test p.start → p ≡ at_start p.test p.start → IfSome job.power (λ most. (c : ℕ) → load_of draws c ≤ most)
  last_within sound may is = if_some job.power (λ most limit c.
      let next = rw (← is) at (sound_push job placed p.test p.start sound may) in
      let power = rw limit at (sound_power (record { job = job; placed = placed ++ p ∷ [] }) c next) in
      omega (arith, ap (λ v. load_of v c) all_draws ∙ load_is_power job (placed ++ p ∷ []) next.job (λ i q at. (next.placed i q at).in_job) c, power))

  pub last_room : (points : Vec Point) → IsSoundTable (record { job = job; placed = placed }) → MayPlace job placed p.test p.start → length job.tests + sum_by (λ (t : TestValue). length t.steps) job.tests ≤ vec_capacity points →
      length (draws_of job p) ≡ length (test_at job p.test).steps →
      IfSome job.power (λ _. ArePoints (flat_map (draws_of job) placed) (flat_map (marks_of job) placed) points.items) → IfSome job.power (λ _. all_uses points.items + (length draws - count + 1) ≤ vec_capacity points)
  last_room points sound may room long = if_some_more job.power (λ most are.
      let steps = draws_have_room job placed p.test p.start sound may in
      let whole = ap length draws_are ∙ length-append (flat_map (draws_of job) placed) (draws_of job p) in
      omega (arith, trail_has_room job placed p.test p.start sound may, steps, length-all_marks job placed, are.count, whole, long, room, count_is))

  -- the profile without it, and with it
  pub before_last : (points : List Point) → IsSoundTable (record { job = job; placed = placed }) → IfSome job.power (λ _. ArePoints (flat_map (draws_of job) placed) (flat_map (marks_of job) placed) points) →
      IfSome job.power (λ _. (cycles : List ℕ) × AreMarked (take count draws) cycles × ArePoints (take count draws) cycles points)
  before_last points sound = if_some_more job.power (λ most are.
      (flat_map (marks_of job) placed, rw front_is (all_marked job placed sound.job (λ i q at. (sound.placed i q at).in_job)), rw front_is are))

  pub with_last : (points : List Point) → ArePoints draws (flat_map (marks_of job) (placed ++ p ∷ [])) points → ArePoints draws (marks_from p.start (drop count draws) ++ flat_map (marks_of job) placed) points
  with_last points are = subst (λ v. ArePoints draws (v ++ flat_map (marks_of job) placed) points) (sym marks_are)
      (same_marks draws (flat_map (marks_of job) placed ++ marks_of job p) (marks_of job p ++ flat_map (marks_of job) placed) points (subst (λ v. ArePoints draws v points) all_marks are)
      (λ c. omega (arith, sum_by-append (λ v. if nat_eq v c then 1 else 0) (flat_map (marks_of job) placed) (marks_of job p), sum_by-append (λ v. if nat_eq v c then 1 else 0) (marks_of job p) (flat_map (marks_of job) placed)))
      (omega (arith, length-append (flat_map (marks_of job) placed) (marks_of job p), length-append (marks_of job p) (flat_map (marks_of job) placed))))

  pub from_last : (points : List Point) → ArePoints draws (marks_from p.start (drop count draws) ++ flat_map (marks_of job) placed) points → ArePoints draws (flat_map (marks_of job) (placed ++ p ∷ [])) points
  from_last points are = subst (λ v. ArePoints draws v points) (sym all_marks)
      (same_marks draws (marks_of job p ++ flat_map (marks_of job) placed) (flat_map (marks_of job) placed ++ marks_of job p) points (subst (λ v. ArePoints draws (v ++ flat_map (marks_of job) placed) points) marks_are are)
      (λ c. omega (arith, sum_by-append (λ v. if nat_eq v c then 1 else 0) (flat_map (marks_of job) placed) (marks_of job p), sum_by-append (λ v. if nat_eq v c then 1 else 0) (marks_of job p) (flat_map (marks_of job) placed)))
      (omega (arith, length-append (flat_map (marks_of job) placed) (marks_of job p), length-append (marks_of job p) (flat_map (marks_of job) placed))))

  -- once it is added
  pub after_push : (old points : List Point) → IsSoundTable (record { job = job; placed = placed }) → IfSome job.power (λ _. ArePoints (flat_map (draws_of job) placed) (flat_map (marks_of job) placed) old) →
      IfSome job.power (λ _. (cycles : List ℕ) → AreMarked (take count draws) cycles → ArePoints (take count draws) cycles old → ArePoints draws (marks_from p.start (drop count draws) ++ cycles) points) →
      IfSome job.power (λ _. ArePoints draws (flat_map (marks_of job) (placed ++ p ∷ [])) points)
  after_push old points sound = go job.power
    where
      go : (o : Option ℕ) → IfSome o (λ _. ArePoints (flat_map (draws_of job) placed) (flat_map (marks_of job) placed) old) →
          IfSome o (λ _. (cycles : List ℕ) → AreMarked (take count draws) cycles → ArePoints (take count draws) cycles old → ArePoints draws (marks_from p.start (drop count draws) ++ cycles) points) →
          IfSome o (λ _. ArePoints draws (flat_map (marks_of job) (placed ++ p ∷ [])) points)
      go None are h = tt
      go (Some most) are h =
          let marked = all_marked job placed sound.job (λ i q at. (sound.placed i q at).in_job) in
          from_last points (h (flat_map (marks_of job) placed) (rw front_is marked) (rw front_is are))

  -- before it is taken away, and then
  pub before_pop : (points : List Point) → IfSome job.power (λ _. ArePoints draws (flat_map (marks_of job) (placed ++ p ∷ [])) points) → IfSome job.power (λ _. (cycles : List ℕ) × ArePoints draws (marks_from p.start (drop count draws) ++ cycles) points)
  before_pop points = if_some_more job.power (λ most are. (flat_map (marks_of job) placed, with_last points are))

  pub after_pop : (old points : List Point) → IfSome job.power (λ _. ArePoints draws (flat_map (marks_of job) (placed ++ p ∷ [])) old) →
      IfSome job.power (λ _. (cycles : List ℕ) → ArePoints draws (marks_from p.start (drop count draws) ++ cycles) old → ArePoints (take count draws) cycles points) → IfSome job.power (λ _. ArePoints (take count draws) (flat_map (marks_of job) placed) points)
  after_pop old points = go job.power
    where
      go : (o : Option ℕ) → IfSome o (λ _. ArePoints draws (flat_map (marks_of job) (placed ++ p ∷ [])) old) → IfSome o (λ _. (cycles : List ℕ) → ArePoints draws (marks_from p.start (drop count draws) ++ cycles) old → ArePoints (take count draws) cycles points) →
          IfSome o (λ _. ArePoints (take count draws) (flat_map (marks_of job) placed) points)
      go None are h = tt
      go (Some most) are h = h (flat_map (marks_of job) placed) (with_last old are)

-- ---- the points without a mark

-- once those at the end are taken out
pub without_last : (job : JobValue) (trail : SmallVec Placement) (draws : Vec Draw) (old new : Vec Point) → IsProfiled job trail draws old →
    (n : ℕ) × (new.items ≡ take n old.items) × (all_uses (drop n old.items) ≡ 0) → vec_capacity new ≡ vec_capacity old → IsProfiled job trail draws new
without_last job trail draws old new are taken room = record {
  are = if_some_more job.power (λ most points. rw taken.1 (last_dropped draws.items (flat_map (marks_of job) trail.items) old.items taken.0 taken.2 points)) are.are;
  room = (let all = are.room in omega (arith, all, room));
}
