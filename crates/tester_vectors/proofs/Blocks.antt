-- Blocks of lines one after another.
use Rattle.std.proofs.Common.{◌≡◌, ℕ, zero, suc, ◌+◌, ◌-◌, ◌≤◌, Bool, List, ◌∷◌, ◌++◌, length, take, refl, ap, sym, subst, ◌∙◌, arith, Option}
use Rattle.std.specs.List.{flat_map, range_with_len}
use Rattle.std.proofs.Math.Seq.{take-append-add}
use Rattle.std.proofs.lemmas.Grind.{flat_map-append}
use Rattle.std.proofs.lemmas.List.{take-append-le, length-append}
use Rattle.outside.specs.Held.{Appended, AppendedFront}
use Rattle.outside.proofs.PieceLemmas.{Appended-then}
use Rattle.soc_model.specs.Chips.{SocValue}
use Rattle.plan_model.specs.Plans.{PlanValue}
use Rattle.plan_model.specs.Runs.{Content}
use Rattle.vector_lines.specs.Marks.{Keys, Marks}
use Rattle.vector_lines.specs.Placed.{StandFor}
use Rattle.tester_vectors.specs.Lines.{lines_of}
use Rattle.tester_vectors.specs.VectorText.{marked_text}

-- ranges
pub range_split : (a b n m : ℕ) → range_with_len a (n + m) ≡ range_with_len a n ++ range_with_len (a + n) m
range_split a b zero m =
    let e : 0 + m ≡ m = omega arith in
    let f : a + 0 ≡ a = omega arith in
    rw (e, f) refl
range_split a b (suc n) m =
    let e : suc n + m ≡ suc (n + m) = omega arith in
    let f : a + 1 + n ≡ a + suc n = omega arith in
    rw e (ap (λ v. a ∷ v) (range_split (a + 1) b n m ∙ rw f refl))

pub lines_split : (f : ℕ → List ℕ) (a n m : ℕ) → flat_map f (range_with_len a (n + m)) ≡ flat_map f (range_with_len a n) ++ flat_map f (range_with_len (a + n) m)
lines_split f a n m = ap (flat_map f) (range_split a 0 n m) ∙ flat_map-append f (range_with_len a n) (range_with_len (a + n) m)

-- a front of what comes after something that was written
pub front_after : (a b c : Option (List ℕ)) (x y rest whole : List ℕ) → whole ≡ x ++ (y ++ rest) → Appended a x b → AppendedFront b y c → AppendedFront a whole c
front_after a b c x y rest whole is first front =
    let cut : take (length x + front.0) whole ≡ x ++ take front.0 y = ap (take (length x + front.0)) is ∙ take-append-add x (y ++ rest) front.0 ∙ ap (λ v. x ++ v) (take-append-le front.0 y rest front.1) in
    let long : length whole ≡ length x + (length y + length rest) = ap length is ∙ length-append x (y ++ rest) ∙ omega (arith, length-append y rest) in
    (length x + front.0, omega (arith, front.1), rw cut (Appended-then a b c x (take front.0 y) first front.2))

-- the lines before a block, those of the block, and the others
pub lines_rest : (f : ℕ → List ℕ) (done count cycles : ℕ) {block : List ℕ} → done + count ≤ cycles → block ≡ flat_map f (range_with_len done count) →
    flat_map f (range_with_len 0 cycles) ≡ flat_map f (range_with_len 0 done) ++ (block ++ flat_map f (range_with_len (done + count) (cycles - (done + count))))
lines_rest f done count cycles within is =
    let all : done + (count + (cycles - (done + count))) ≡ cycles = omega arith in
    let start : 0 + done ≡ done = omega arith in
    ap (λ n. flat_map f (range_with_len 0 n)) (sym all) ∙ lines_split f 0 done (count + (cycles - (done + count)))
    ∙ ap (λ v. flat_map f (range_with_len 0 done) ++ v) (ap (λ n. flat_map f (range_with_len n (count + (cycles - (done + count))))) start ∙ lines_split f done count (cycles - (done + count))
    ∙ ap (λ v. v ++ flat_map f (range_with_len (done + count) (cycles - (done + count)))) (sym is))

-- a front of a text is one of a longer text
pub front_longer : (a c : Option (List ℕ)) (y rest : List ℕ) → AppendedFront a y c → AppendedFront a (y ++ rest) c
front_longer a c y rest front =
    let cut = take-append-le front.0 y rest front.1 in
    (front.0, omega (arith, front.1, length-append y rest), rw cut front.2)

pub lines_more_split : (f : ℕ → List ℕ) (done count : ℕ) {block : List ℕ} → block ≡ flat_map f (range_with_len done count) →
    flat_map f (range_with_len 0 done) ++ block ≡ flat_map f (range_with_len 0 (done + count))
lines_more_split f done count is =
    let start : done ≡ 0 + done = omega arith in
    ap (λ v. flat_map f (range_with_len 0 done) ++ v) (is ∙ ap (λ n. flat_map f (range_with_len n count)) start) ∙ sym (lines_split f 0 done count)

-- ---- what is written of the same plan

module _ {keys : Keys} {drive : ℕ → ℕ → ℕ → Bool} {mark : ℕ → ℕ → ℕ → ℕ} {soc soc' : SocValue} {plan plan' : PlanValue} {content : Content}
    {marks : Marks} (e : soc ≡ soc') (f : plan ≡ plan') (stand : StandFor keys drive mark soc' content marks) where
  pub same_lines : (from count : ℕ) (text : List ℕ) →
      ((content : Content) (marks : Marks) → StandFor keys drive mark soc content marks → text ≡ lines_of soc plan content marks from count) →
      text ≡ lines_of soc' plan' content marks from count
  same_lines from count text is =
      is content marks (rw (← e) at stand) ∙ ap (λ s. lines_of s plan content marks from count) e ∙ ap (λ p. lines_of soc' p content marks from count) f

  -- what holds of the text of the plan, for all that contents stand for
  pub same_text : (P : List ℕ → Type 0) →
      ((content : Content) (marks : Marks) → StandFor keys drive mark soc content marks → P (marked_text soc plan content marks)) →
      P (marked_text soc' plan' content marks)
  same_text P is =
      subst (λ (p : PlanValue). P (marked_text soc' p content marks)) f (subst (λ (s : SocValue). P (marked_text s plan content marks)) e
      (is content marks (rw (← e) at stand)))
