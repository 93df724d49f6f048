-- Where the characters of a text of vectors stand.
use Rattle.std.proofs.Common.{◌≡◌, ℕ, zero, suc, ◌+◌, ◌*◌, ◌<◌, Some, List, [], ◌∷◌, ◌++◌, length, map, refl, ◌∙◌, arith, slice_get, codes, flat_map}
use Rattle.std.specs.List.{range_with_len}
use Rattle.std.proofs.lemmas.List.{length-append}
use Rattle.std.proofs.lemmas.List.FromFn.{length-map-range_with_len}
use Rattle.soc_model.specs.Chips.{SocValue}
use Rattle.plan_model.specs.Plans.{PlanValue, PlannedTest, planned}
use Rattle.plan_model.specs.Runs.{Content, carried}
use Rattle.vector_lines.specs.Wires.{wires_of}
use Rattle.tester_vectors.specs.Marks.{digit, mark, Marks}
use Rattle.tester_vectors.specs.VectorText.{head_line, driven_text, compared_text, cycle_line, marked_text}
use Rattle.tester_vectors.specs.DrivenRuns.{line_begin}
use Rattle.common_lemmas.proofs.Lists.{in_front}

-- ---- joined lists

pub at_back : {X : Type 0} (xs ys : List X) (i n : ℕ) → n ≡ length xs + i → slice_get (xs ++ ys) n ≡ slice_get ys i
at_back [] ys i n e = let same : n ≡ i = omega arith in rw same refl
at_back (x ∷ xs) ys i zero e = absurd (omega arith)
at_back (x ∷ xs) ys i (suc n) e = at_back xs ys i n (omega arith)

-- pieces of one length
pub in_pieces : {X : Type 0} (f : ℕ → List X) (long : ℕ) → ((n : ℕ) → length (f n) ≡ long) → (a n i j m : ℕ) → i < n → j < long → m ≡ i * long + j → slice_get (flat_map f (range_with_len a n)) m ≡ slice_get (f (a + i)) j
in_pieces f long each a zero i j m h within e = absurd (omega arith)
in_pieces f long each a (suc n) zero j m h within e =
    let size = each a in
    let place : a + 0 ≡ a = omega arith in
    let here : m ≡ j = omega arith in
    rw (place, here) (in_front (f a) (flat_map f (range_with_len (a + 1) n)) j (omega arith))
in_pieces f long each a (suc n) (suc i) j m h within e =
    let size = each a in
    let place : a + suc i ≡ (a + 1) + i = omega arith in
    let more : suc i * long ≡ long + i * long = omega arith in
    rw place (at_back (f a) (flat_map f (range_with_len (a + 1) n)) (i * long + j) m (omega arith) ∙ in_pieces f long each (a + 1) n i j (i * long + j) (omega arith) within refl)

-- an item of a list over a range
pub at_range : {X : Type 0} (f : ℕ → X) (a n i : ℕ) → i < n → slice_get (map f (range_with_len a n)) i ≡ Some (f (a + i))
at_range f a zero i h = absurd (omega arith)
at_range f a (suc n) zero h = let place : a + 0 ≡ a = omega arith in rw place refl
at_range f a (suc n) (suc i) h = let place : a + suc i ≡ (a + 1) + i = omega arith in rw place (at_range f (a + 1) n i (omega arith))

-- ---- the line of a cycle

module _ (tests : List PlannedTest) (wires : ℕ) where
  driven_long : (content : Content) (c : ℕ) → length (driven_text content tests wires c) ≡ wires
  driven_long content c = length-map-range_with_len (λ w. digit (carried content tests c w)) 0 wires

  compared_long : (marks : Marks) (c : ℕ) → length (compared_text marks tests wires c) ≡ wires
  compared_long marks c = length-map-range_with_len (mark marks tests c) 0 wires

  pub line_long : (content : Content) (marks : Marks) (c : ℕ) → length (cycle_line content marks tests wires c) ≡ wires + (wires + 2)
  unfolding cycle_line
  line_long content marks c =
      length-append (driven_text content tests wires c) (codes " " ++ (compared_text marks tests wires c ++ codes "\n"))
      ∙ omega (arith, driven_long content c, length-append (compared_text marks tests wires c) (codes "\n"), compared_long marks c)

module _ (content : Content) (marks : Marks) (tests : List PlannedTest) (wires c : ℕ) where
  pub line_driven : (w : ℕ) → w < wires → slice_get (cycle_line content marks tests wires c) w ≡ Some (digit (carried content tests c w))
  unfolding cycle_line
  line_driven w h =
      let long = driven_long tests wires content c in
      in_front (driven_text content tests wires c) (codes " " ++ (compared_text marks tests wires c ++ codes "\n")) w (omega arith)
      ∙ at_range (λ w. digit (carried content tests c w)) 0 wires w h
      ∙ let place : 0 + w ≡ w = omega arith in rw place refl

  pub line_space : slice_get (cycle_line content marks tests wires c) wires ≡ Some 32
  unfolding cycle_line
  line_space =
      let long = driven_long tests wires content c in
      at_back (driven_text content tests wires c) (codes " " ++ (compared_text marks tests wires c ++ codes "\n")) 0 wires (omega arith)

  pub line_feed : slice_get (cycle_line content marks tests wires c) (wires + 1 + wires) ≡ Some 10
  unfolding cycle_line
  line_feed =
      let long = driven_long tests wires content c in
      let long' = compared_long tests wires marks c in
      at_back (driven_text content tests wires c) (codes " " ++ (compared_text marks tests wires c ++ codes "\n")) (suc wires) (wires + 1 + wires) (omega arith)
      ∙ at_back (compared_text marks tests wires c) (codes "\n") 0 wires (omega arith)

  pub line_compared : (w : ℕ) → w < wires → slice_get (cycle_line content marks tests wires c) (wires + 1 + w) ≡ Some (mark marks tests c w)
  unfolding cycle_line
  line_compared w h =
      let long = driven_long tests wires content c in
      let long' = compared_long tests wires marks c in
      at_back (driven_text content tests wires c) (codes " " ++ (compared_text marks tests wires c ++ codes "\n")) (suc w) (wires + 1 + w) (omega arith)
      ∙ in_front (compared_text marks tests wires c) (codes "\n") w (omega arith)
      ∙ at_range (mark marks tests c) 0 wires w h
      ∙ let place : 0 + w ≡ w = omega arith in rw place refl

-- ---- the whole text

in_line : (soc : SocValue) (plan : PlanValue) (content : Content) (marks : Marks) (c j n : ℕ) → c < plan.cycles → j < wires_of plan + (wires_of plan + 2) → n ≡ line_begin plan c + j →
    slice_get (marked_text soc plan content marks) n ≡ slice_get (cycle_line content marks (planned soc plan) (wires_of plan) c) j
in_line soc plan content marks c j n h within e =
    at_back (head_line (wires_of plan) plan.cycles) (flat_map (cycle_line content marks (planned soc plan) (wires_of plan)) (range_with_len 0 plan.cycles)) (c * (wires_of plan + (wires_of plan + 2)) + j) n (omega arith)
    ∙ in_pieces (cycle_line content marks (planned soc plan) (wires_of plan)) (wires_of plan + (wires_of plan + 2)) (line_long (planned soc plan) (wires_of plan) content marks) 0 plan.cycles c j
    (c * (wires_of plan + (wires_of plan + 2)) + j) h within refl
    ∙ let place : 0 + c ≡ c = omega arith in rw place refl

pub text_driven : (soc : SocValue) (plan : PlanValue) (content : Content) (marks : Marks) (c w : ℕ) → c < plan.cycles → w < wires_of plan →
    slice_get (marked_text soc plan content marks) (line_begin plan c + w) ≡ Some (digit (carried content (planned soc plan) c w))
text_driven soc plan content marks c w h within =
    in_line soc plan content marks c w (line_begin plan c + w) h (omega arith) refl ∙ line_driven content marks (planned soc plan) (wires_of plan) c w within

pub text_compared : (soc : SocValue) (plan : PlanValue) (content : Content) (marks : Marks) (c w : ℕ) → c < plan.cycles → w < wires_of plan →
    slice_get (marked_text soc plan content marks) (line_begin plan c + (wires_of plan + 1 + w)) ≡ Some (mark marks (planned soc plan) c w)
text_compared soc plan content marks c w h within =
    in_line soc plan content marks c (wires_of plan + 1 + w) (line_begin plan c + (wires_of plan + 1 + w)) h (omega arith) refl ∙ line_compared content marks (planned soc plan) (wires_of plan) c w within
