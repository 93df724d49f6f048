-- One live test, chain by chain.
use Rattle.std.proofs.Common.{◌≡◌, ℕ, zero, suc, ◌+◌, ◌-◌, ◌≤◌, ◌<◌, ◌⊎◌, Bool, true, false, Some, List, [], ◌∷◌, ◌++◌, length, get_or, drop, map, option_map, replicate, set, refl, ap, sym, subst, ◌∙◌, arith, inl, inr, slice_get, slice_index, nat_lt, ◌%◌, if◌then◌else◌, zip}
use Rattle.std.specs.Global.{Vec}
use Rattle.std.specs.List.{list_all}
use Rattle.std.specs.Vec.{with_item}
use Rattle.std.proofs.lemmas.List.{length-append, length-map, length-replicate, length-set, get_or-set_same, get_or-set_other}
use Rattle.std.proofs.lemmas.Option.{slice_get-map, get_or_from_slice_get, slice_get_within, same_Some}
use Rattle.std.proofs.lemmas.Bool.{cases_lt, cases_eq, lt-ltb, le-ltb}
use Rattle.plan_model.specs.Cells.{Cell, in_length}
use Rattle.plan_model.specs.Plans.{PlannedTest}
use Rattle.plan_model.specs.Runs.{Content, chain_at, next_bits, wanted}
use Rattle.plan_model.proofs.Lists.{from_append}
use Rattle.bit_machine.specs.Chips.{chain_holds, holds}
use Rattle.bit_machine.specs.Packed.{is_set, IsLineWord}
use Rattle.vector_lines.specs.Made.{made_from}
use Rattle.bit_machine.specs.Lanes.{path_stimulus, path_response, lane_bits, lane_on, loaded_bit, resting_bits, AreAtRest, IsAtRest, IsPageWord, ArePages, AreRings, IsReady, IsSound, IsSteppable, IsNow, IsSameTest, IsLane}
use Rattle.vector_lines.specs.Paths.{is_answered, IsPath}
use Rattle.plan_model.specs.Moments.{moment_operation, moment_ahead, moment_behind, wanted_by}
use Rattle.vector_lines.specs.Numbers.{line_bit}
use Rattle.vector_lines.specs.declared.made.Line.{Line}
use Rattle.vector_lines.specs.declared.path.Path.{Path}
use Rattle.vector_lines.specs.declared.lane.Lane.{Lane}
use Rattle.bit_machine.specs.declared.stepped.Page.{Page}
use Rattle.bit_machine.specs.declared.stepped.SteppedLane.{SteppedLane}
use Rattle.common_lemmas.proofs.Tests.{and_false}
use Rattle.common_lemmas.proofs.Lists.{some_item, slice_at}
use Rattle.common_lemmas.proofs.Options.{none_some}

-- ---- an item of a list

pub from_set : {X : Type 0} (xs : List X) (i j : ℕ) (y : X) {z : X} → slice_get (set xs i y) j ≡ Some z →
    ((j ≡ i) × (z ≡ y)) ⊎ (slice_get xs j ≡ Some z)
from_set [] i j y e = absurd cc
from_set (x ∷ xs) zero zero y {z} e = let same : y ≡ z = cc in inl (refl, sym same)
from_set (x ∷ xs) zero (suc j) y e = inr e
from_set (x ∷ xs) (suc i) zero y e = inr e
from_set (x ∷ xs) (suc i) (suc j) y e = elim (from_set xs i j y e) [
  | inl a ↦ inl (ap suc a.0, a.1)
  | inr a ↦ inr a
]

-- ---- a path in its lane

pub sound_path : {inputs : ℕ} {lengths : List ℕ} {cells : List Cell} {p : Path} → IsPath inputs lengths cells p → IsSound p
sound_path is = record {
  loads = let a = is.loads_long in let b = is.long in let d = is.chain.in_fit in omega arith;
  answers = let a = is.answers_long in let b = is.long in let d = is.chain.out_fit in omega arith;
}

-- there is a bit for each cell of a chain
pub ring_long : {s : SteppedLane} (j : ℕ) {p : Path} {bits : List Bool} → AreRings s → slice_get s.lane.paths.items j ≡ Some p →
    bits ≡ get_or s.rings.items j bits → length bits ≡ p.cells
ring_long {s} j {p} {bits} are at is =
    let within : j < length s.rings.items = omega (arith, are.many, slice_get_within s.lane.paths.items j p at) in
    are.each j p bits at (slice_at s.rings.items j bits within is)

-- ---- what the test does now

module _ {content : Content} {t : PlannedTest} {s : SteppedLane} {cycle : ℕ} (tam : t.tam ≡ true) (is : IsLane content t s.lane) (now : IsNow s cycle) where
  pub op_now : slice_get t.operations (cycle - t.start) ≡ Some (moment_operation s.moment)
  op_now = let w = is.wired tam in rw (w.operations, ← is.start) now.is.operation

  wanted_now : (j : ℕ) →
      wanted (content.stimulus t.id) (chain_at t j) (drop (cycle - t.start) t.operations) ≡ wanted_by (content.stimulus t.id) (chain_at t j) (moment_ahead s.moment)
  wanted_now j =
      let w = is.wired tam in
      rw (w.operations, ← is.start) (now.is.wants (content.stimulus t.id) (chain_at t j))

  -- a bit of the page is what is wanted
  pub wanted_bit : (j n k : ℕ) → ArePages s → moment_ahead s.moment ≡ Some (n, k) → j < length s.pages.items →
      is_set (slice_index s.pages.items j) (n % 64) ≡ wanted (content.stimulus t.id) (chain_at t j) (drop (cycle - t.start) t.operations)
  wanted_bit j n k pages ahead h =
      let w = is.wired tam in
      let p = some_item s.lane.paths.items j (omega (arith, pages.many)) in
      let path = w.path j p.0 p.1 in
      let low : n % 64 < 64 = omega arith in
      let there : n - n % 64 + n % 64 ≡ n = omega arith in
      let word = pages.each (record { pattern = k; first = n - n % 64 }) (now.page n k ahead) j p.0 p.1 (n % 64) low in
      word ∙ ap (loaded_bit s.lane.key k (p.0).loads) there ∙ by p.0 path (cases_lt n (in_length (chain_at t j)))
      ∙ sym (wanted_now j ∙ ap (wanted_by (content.stimulus t.id) (chain_at t j)) ahead ∙ ap (λ f. wanted_by f (chain_at t j) (Some (n, k))) w.stimulus)
    where
      by : (p : Path) → IsPath (is.wired tam).inputs (is.wired tam).lengths (chain_at t j) p → (n < in_length (chain_at t j)) ⊎ (in_length (chain_at t j) ≤ n) →
          loaded_bit s.lane.key k p.loads n ≡ wanted_by (path_stimulus s.lane.key (is.wired tam).inputs (is.wired tam).lengths) (chain_at t j) (Some (n, k))
      by p path (inl less) =
          rw (lt-ltb n (length p.loads) (omega (arith, path.loads_long)), lt-ltb n (in_length (chain_at t j)) less) (ap (λ i. made_from s.lane.key k i 0) (path.load n less))
      by p path (inr past) = rw (le-ltb n (length p.loads) (omega (arith, path.loads_long)), le-ltb n (in_length (chain_at t j)) past) refl

-- ---- what is read

pub read_within : {content : Content} {t : PlannedTest} (lane : SteppedLane) (j s k : ℕ) {p : Path} → t.tam ≡ true → IsLane content t lane.lane →
    slice_get lane.lane.paths.items j ≡ Some p → moment_behind lane.moment ≡ Some (s, k) →
    nat_lt s (length p.answers) ≡ is_answered (chain_at t j) (moment_behind lane.moment)
read_within {t} lane j s k {p} tam is at behind =
    let w = is.wired tam in
    ap (nat_lt s) (w.path j p at).answers_long ∙ sym (ap (is_answered (chain_at t j)) behind)

-- ---- what is held

module _ {X Y : Type 0} (P : X × Y → Bool) (d : X) (e : Y) where
  pub all_zip : (xs : List X) (ys : List Y) → length ys ≡ length xs → ((j : ℕ) → j < length xs → P (get_or xs j d, get_or ys j e) ≡ true) →
      list_all P (zip xs ys) ≡ true
  all_zip [] ys long each = refl
  all_zip (x ∷ xs) [] long each = absurd (omega arith)
  all_zip (x ∷ xs) (y ∷ ys) long each = rw (each 0 (omega arith), all_zip xs ys (omega arith) (λ j h. each (suc j) (omega arith))) refl

  pub one_zip : (xs : List X) (ys : List Y) (j : ℕ) → length ys ≡ length xs → j < length xs → P (get_or xs j d, get_or ys j e) ≡ false →
      list_all P (zip xs ys) ≡ false
  one_zip [] ys j long h fails = absurd (omega arith)
  one_zip (x ∷ xs) [] j long h fails = absurd (omega arith)
  one_zip (x ∷ xs) (y ∷ ys) zero long h fails = rw fails refl
  one_zip (x ∷ xs) (y ∷ ys) (suc j) long h fails = rw (one_zip xs ys j (omega arith) (omega arith) fails) (and_false (P (x, y)))

-- a chain of the lane holds a pattern
pub PathHolds : Content → PlannedTest → SteppedLane → ℕ → ℕ → Bool → Type 0
PathHolds content t s k j b = chain_holds (content.stimulus t.id k) (chain_at t j) (get_or (lane_bits s) j []) ≡ b

module _ {content : Content} {t : PlannedTest} {s : SteppedLane} (tam : t.tam ≡ true) (is : IsLane content t s.lane) (rings : AreRings s) where
  pub path_holds_in : (k j : ℕ) {p : Path} {bits : List Bool} (b : Bool) → slice_get s.lane.paths.items j ≡ Some p →
      bits ≡ get_or s.rings.items j bits →
      ((inputs : ℕ) (lengths : List ℕ) (cells : List Cell) → IsPath inputs lengths cells p → length bits ≡ p.cells → b ≡ chain_holds (path_stimulus s.lane.key inputs lengths k) cells bits) →
      PathHolds content t s k j b
  unfolding PathHolds
  path_holds_in k j {p} {bits} b at there held =
      let w = is.wired tam in
      let within : j < length s.rings.items = omega (arith, rings.many, slice_get_within s.lane.paths.items j p at) in
      let own = get_or_from_slice_get s.rings.items j bits [] (slice_at s.rings.items j bits within there) in
      rw (own, w.stimulus) (sym (held w.inputs w.lengths (chain_at t j) (w.path j p at) (ring_long j rings at there)))

  lane_long : length (lane_bits s) ≡ length t.chains
  lane_long = rings.many ∙ (is.wired tam).chains

  pub all_hold : (k n : ℕ) → length s.lane.paths.items ≤ n → ((j : ℕ) → j < n → PathHolds content t s k j true) →
      true ≡ holds (content.stimulus t.id k) t.chains (lane_bits s)
  unfolding PathHolds
  all_hold k n all each =
      let chains : length s.lane.paths.items ≡ length t.chains = (is.wired tam).chains in
      sym (all_zip (λ (p : List Cell × List Bool). chain_holds (content.stimulus t.id k) p.0 p.1) [] [] t.chains (lane_bits s) lane_long (λ j h. each j (omega arith)))

  pub one_differs : (k j : ℕ) → j < length s.lane.paths.items → PathHolds content t s k j false →
      false ≡ holds (content.stimulus t.id k) t.chains (lane_bits s)
  unfolding PathHolds
  one_differs k j h fails =
      let chains : length s.lane.paths.items ≡ length t.chains = (is.wired tam).chains in
      sym (one_zip (λ (p : List Cell × List Bool). chain_holds (content.stimulus t.id k) p.0 p.1) [] [] t.chains (lane_bits s) j lane_long (omega arith) fails)

pub path_holds_next : (content : Content) (t : PlannedTest) (s : SteppedLane) (k n : ℕ) → ((j : ℕ) → j < n → PathHolds content t s k j true) → PathHolds content t s k n true → (j : ℕ) → j < n + 1 → PathHolds content t s k j true
path_holds_next content t s k n each here j h = elim (cases_lt j n) [
  | inl less ↦ each j less
  | inr past ↦ let same : n ≡ j = omega arith in rw (← same) here
]

-- ---- a chain that was stepped

-- the lane with these bits in the place of those of one chain
abbrev pub with_ring : SteppedLane → ℕ → List Bool → SteppedLane
with_ring s j bits = record {
  lane = s.lane;
  rings = with_item s.rings j bits;
  moment = s.moment;
  page = s.page;
  pages = s.pages;
}

module _ {s : SteppedLane} (j : ℕ) {p : Path} {old : List Bool} (new : List Bool) (at : slice_get s.lane.paths.items j ≡ Some p) where
  pub ring_stepped : IsSteppable s → old ≡ get_or s.rings.items j old → length new ≡ length old → IsSteppable (with_ring s j new)
  ring_stepped can is long = record {
    ready = can.ready;
    pages = record { many = can.pages.many; each = can.pages.each };
    rings = record {
      many = length-set s.rings.items j new ∙ can.rings.many;
      each = λ i q bits there own. elim (from_set s.rings.items j i new own) [
        | inl here ↦
            let path = same_Some p q (sym at ∙ rw here.0 at there) in
            ap (λ (b : List Bool). length b) here.1 ∙ long ∙ ring_long j can.rings at is ∙ ap (λ (p : Path). p.cells) path
        | inr other ↦ can.rings.each i q bits there other
      ];
    };
  }

  pub lane_bits_stepped : {content : Content} {t : PlannedTest} {cycle : ℕ} (drive : Bool) → t.tam ≡ true → IsLane content t s.lane → AreRings s →
      IsNow s cycle → old ≡ get_or s.rings.items j old →
      ((inputs : ℕ) (lengths : List ℕ) (cells : List Cell) → IsPath inputs lengths cells p → length old ≡ p.cells → new ≡ next_bits (path_response s.lane.key lengths) cells (Some (moment_operation s.moment)) drive old) →
      lane_bits (with_ring s j new) ≡ set (lane_bits s) j (next_bits (content.response t.id) (chain_at t j) (slice_get t.operations (cycle - t.start)) drive (get_or (lane_bits s) j []))
  lane_bits_stepped {t} drive tam is rings now there bits =
      let w = is.wired tam in
      let op = op_now tam is now in
      let within : j < length s.rings.items = omega (arith, rings.many, slice_get_within s.lane.paths.items j p at) in
      let own = get_or_from_slice_get s.rings.items j old [] (slice_at s.rings.items j old within there) in
      ap (set (lane_bits s) j) (bits w.inputs w.lengths (chain_at t j) (w.path j p at) (ring_long j rings at there) ∙ rw (op, w.response, own) refl)

-- ---- a lane at another moment

module _ {old new : SteppedLane} (s : IsSameTest old new) where
  pub same_steppable : ArePages new → IsSteppable old → IsSteppable new
  same_steppable pages can = record {
    ready = subst IsReady (sym s.lane) can.ready;
    pages = pages;
    rings = record {
      many = ap (λ (v : Vec (List Bool)). length v.items) s.rings ∙ can.rings.many ∙ ap (λ (l : Lane). length l.paths.items) (sym s.lane);
      each = λ j p bits at own.
          can.rings.each j p bits (rw s.lane at at) (subst (λ (v : Vec (List Bool)). slice_get v.items j ≡ Some bits) s.rings own);
    };
  }

  pub same_bits : lane_bits new ≡ lane_bits old
  same_bits = ap (λ (v : Vec (List Bool)). v.items) s.rings

  pub same_on : (c : ℕ) → lane_on new.lane c ≡ lane_on old.lane c
  same_on c = ap (λ (l : Lane). lane_on l c) s.lane

-- ---- a lane before any cycle

module _ {lane : Lane} {s : SteppedLane} (rest : IsAtRest lane s) where
  pub rest_steppable : IsReady lane → IsSteppable s
  rest_steppable ready = record {
    ready = subst IsReady (sym rest.same) ready;
    pages = record { many = rest.pages ∙ ap (λ (l : Lane). length l.paths.items) (sym rest.same); each = λ page own. absurd (none_some (sym rest.page ∙ own)) };
    rings = record {
      many = ap (λ (bits : List (List Bool)). length bits) rest.rings ∙ length-map lane.paths.items _ ∙ ap (λ (l : Lane). length l.paths.items) (sym rest.same);
      each = λ j p bits at own.
          let at' : slice_get lane.paths.items j ≡ Some p = rw rest.same at at in
          let own' : slice_get (resting_bits lane.paths.items) j ≡ Some bits = subst (λ (v : List (List Bool)). slice_get v j ≡ Some bits) rest.rings own in
          let is = same_Some _ _ (sym (slice_get-map (λ (p : Path). replicate p.cells false) lane.paths.items j ∙ ap (option_map (λ (p : Path). replicate p.cells false)) at') ∙ own') in
          ap (λ (b : List Bool). length b) (sym is) ∙ length-replicate p.cells false;
    };
  }

  pub rest_bits : (j : ℕ) {p : Path} → slice_get lane.paths.items j ≡ Some p → get_or (lane_bits s) j [] ≡ replicate p.cells false
  rest_bits j {p} at =
      ap (λ (v : List (List Bool)). get_or v j []) rest.rings
      ∙ get_or_from_slice_get (resting_bits lane.paths.items) j (replicate p.cells false) [] (slice_get-map (λ (p : Path). replicate p.cells false) lane.paths.items j ∙ ap (option_map (λ (p : Path). replicate p.cells false)) at)

pub no_rest : {stepped : List SteppedLane} → stepped ≡ [] → AreAtRest [] stepped
no_rest none = rw none (record { long = refl; each = λ i l s at there. absurd cc })

-- one lane more
pub rest_more : {lanes : List Lane} {stepped new : List SteppedLane} {l : Lane} {s : SteppedLane} → AreAtRest lanes stepped →
    new ≡ stepped ++ s ∷ [] → IsAtRest l s → AreAtRest (lanes ++ l ∷ []) new
rest_more {lanes} {stepped} {l} {s} are pushed is = rw pushed (record {
  long = length-append stepped (s ∷ []) ∙ ap (λ n. n + 1) are.long ∙ sym (length-append lanes (l ∷ []));
  each = λ i k r at there. either i k r (from_append lanes (l ∷ []) i k at) (from_append stepped (s ∷ []) i r there);
})
  where
    long : length stepped ≡ length lanes
    long = are.long

    last : (k : Lane) (r : SteppedLane) (x y : ℕ) → slice_get (l ∷ []) x ≡ Some k → slice_get (s ∷ []) y ≡ Some r → IsAtRest k r
    last k r zero zero e f = let a : l ≡ k = same_Some _ _ e in let b : s ≡ r = same_Some _ _ f in subst (λ k. IsAtRest k r) a (subst (IsAtRest l) b is)
    last k r (suc x) y e f = absurd cc
    last k r zero (suc y) e f = absurd cc

    either : (i : ℕ) (k : Lane) (r : SteppedLane) → (slice_get lanes i ≡ Some k) ⊎ ((j : ℕ) × (i ≡ length lanes + j) × (slice_get (l ∷ []) j ≡ Some k)) →
        (slice_get stepped i ≡ Some r) ⊎ ((j : ℕ) × (i ≡ length stepped + j) × (slice_get (s ∷ []) j ≡ Some r)) → IsAtRest k r
    either i k r (inl a) (inl b) = are.each i k r a b
    either i k r (inl a) (inr b) = absurd (let within = slice_get_within lanes i k a in let past = b.1 in omega (arith, long))
    either i k r (inr a) (inl b) = absurd (let within = slice_get_within stepped i r b in let past = a.1 in omega (arith, long))
    either i k r (inr a) (inr b) = last k r a.0 b.0 a.2 b.2

pub same_items : {X : Type 0} (xs : List X) → map (λ x. x) xs ≡ xs
same_items [] = refl
same_items (x ∷ xs) = ap (λ v. x ∷ v) (same_items xs)

-- ---- the words of a page

-- a word of the line is one of the page
pub page_word : (line : Line) (base : ℕ) (page : Page) (loads : List ℕ) (word : ℕ) → ((n : ℕ) → line_bit line n ≡ made_from base page.pattern n 0) → IsLineWord line loads page.first word → IsPageWord base page loads word
page_word line base page loads word bits is i h = is i h ∙ ap (λ b. if nat_lt (page.first + i) (length loads) then b else false) (bits (slice_index loads (page.first + i)))

-- one word more
pub words_more : (line : Line) (first : ℕ) (paths : List Path) (words : List ℕ) (n : ℕ) (q : Path) (word : ℕ) → n < length words → IsLineWord line (get_or paths n q).loads first word →
    ((j : ℕ) (p : Path) → j < n → slice_get paths j ≡ Some p → IsLineWord line p.loads first (slice_index words j)) → (j : ℕ) (p : Path) → j < n + 1 → slice_get paths j ≡ Some p → IsLineWord line p.loads first (slice_index (set words n word) j)
words_more line first paths words n q word h here before j p less there = elim (cases_eq j n) [
  | inl same ↦
      let own = get_or_from_slice_get paths n p q (rw same at there) in
      rw (same, get_or-set_same words n word 0 h, ← own) here
  | inr other ↦ rw (get_or-set_other words n j word 0 other) (before j p (omega arith) there)
]
