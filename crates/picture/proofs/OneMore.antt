-- What a loop over buses or tests has, one of them on.
use Rattle.std.proofs.Common.{◌≡◌, ◌∙◌, ℕ, ◌+◌, ◌<◌, ◌≤◌, Bool, true, false, cond, List, [], ◌∷◌, ◌++◌, length, get_or, take, drop, ap, sym, append_assoc, filter}
use Rattle.std.proofs.lemmas.List.{append-nil, at_drop_all, drop_more}
use Rattle.std.proofs.lemmas.List.Elements.{filter_more}
use Rattle.live_tests.specs.declared.placed.PlacedTest.{PlacedTest}
use Rattle.picture.specs.declared.panels.Drawn.{Drawn}
use Rattle.picture.specs.declared.panels.Panel.{Panel}
use Rattle.picture.specs.Marks.{bus_text, bus_texts}
use Rattle.picture.specs.Rectangles.{drawn_over, free_lane, lane_ends, laned, with_end}

-- what stands in front of the rest has the next one behind it
in_front : {X : Type 0} (old new : List X) (x : X) (rest whole : List X) → new ≡ old ++ x ∷ [] → old ++ (x ∷ rest) ≡ whole → new ++ rest ≡ whole
in_front old new x rest whole added so_far = ap (λ l. l ++ rest) added ∙ append_assoc old (x ∷ []) rest ∙ so_far

-- and where none is left, it is the whole
pub all_in_front : {X Y : Type 0} (old : List Y) (f : List X → List Y) (xs : List X) (i : ℕ) (whole : List Y) → length xs ≤ i → f [] ≡ [] → old ++ f (drop i xs) ≡ whole → old ≡ whole
all_in_front old f xs i whole past none so_far = sym (ap (λ l. old ++ l) (at_drop_all f xs i past ∙ none) ∙ append-nil old) ∙ so_far

-- ---- buses

-- the texts of the buses that are left
pub texts_more : (p : Panel) (bs : List (ℕ × ℕ)) (i : ℕ) (d : ℕ × ℕ) (old new whole : List ℕ) → i < length bs → new ≡ old ++ bus_text p i (get_or bs i d) → old ++ bus_texts p i (drop i bs) ≡ whole → new ++ bus_texts p (i + 1) (drop (i + 1) bs) ≡ whole
texts_more p bs i d old new whole less added so_far =
    let rest = bus_texts p (i + 1) (drop (i + 1) bs) in
    ap (λ l. l ++ rest) added ∙ append_assoc old (bus_text p i (get_or bs i d)) rest ∙ ap (λ (l : List (ℕ × ℕ)). old ++ bus_texts p i l) (sym (drop_more bs i d less)) ∙ so_far

-- ---- tests

-- one that is kept
pub kept_more : (p : PlacedTest → Bool) (ts : List PlacedTest) (i : ℕ) (d : PlacedTest) (old new : List PlacedTest) → i < length ts → old ≡ filter p (take i ts) → p (get_or ts i d) ≡ true → new ≡ old ++ get_or ts i d ∷ [] → new ≡ filter p (take (i + 1) ts)
kept_more p ts i d old new less so_far kept added =
    let t = get_or ts i d in
    added ∙ ap (λ l. l ++ t ∷ []) so_far ∙ sym (filter_more p ts i d less ∙ ap (λ b. filter p (take i ts) ++ cond b (t ∷ []) []) kept)

-- one that isn't
pub passed_over : (p : PlacedTest → Bool) (ts : List PlacedTest) (i : ℕ) (d : PlacedTest) (old : List PlacedTest) → i < length ts → old ≡ filter p (take i ts) → p (get_or ts i d) ≡ false → old ≡ filter p (take (i + 1) ts)
passed_over p ts i d old less so_far passed =
    let t = get_or ts i d in
    so_far ∙ sym (append-nil (filter p (take i ts))) ∙ sym (filter_more p ts i d less ∙ ap (λ b. filter p (take i ts) ++ cond b (t ∷ []) []) passed)

-- the rectangles of the tests that are left
pub laned_more : (ts : List PlacedTest) (i lane : ℕ) (d : PlacedTest) (ends seen put : List ℕ) (one : Drawn) (old new whole : List Drawn) → i < length ts → seen ≡ ends → lane ≡ free_lane seen (get_or ts i d).start →
    one ≡ drawn_over (get_or ts i d) lane (lane + 1) → put ≡ with_end ends lane (get_or ts i d).end → new ≡ old ++ one ∷ [] → old ++ laned ends (drop i ts) ≡ whole → new ++ laned put (drop (i + 1) ts) ≡ whole
laned_more ts i lane d ends seen put one old new whole less same free is ended added so_far =
    let t = get_or ts i d in
    let rest = drop (i + 1) ts in
    let free_now = free ∙ ap (λ (e : List ℕ). free_lane e t.start) same in
    let next : laned ends (drop i ts) ≡ one ∷ laned put (drop (i + 1) ts) =
    ap (laned ends) (drop_more ts i d less)
    ∙ ap (λ (n : ℕ). drawn_over t n (n + 1) ∷ laned (with_end ends n t.end) rest) (sym free_now)
    ∙ ap (λ (r : Drawn). r ∷ laned (with_end ends lane t.end) rest) (sym is)
    ∙ ap (λ (e : List ℕ). one ∷ laned e rest) (sym ended) in
    in_front old new one (laned put rest) whole added (ap (λ l. old ++ l) (sym next) ∙ so_far)

-- and the ends of all lanes behind them
pub ends_more : (ts : List PlacedTest) (i lane : ℕ) (d : PlacedTest) (ends seen put whole : List ℕ) → i < length ts → seen ≡ ends → lane ≡ free_lane seen (get_or ts i d).start → put ≡ with_end ends lane (get_or ts i d).end →
    lane_ends ends (drop i ts) ≡ whole → lane_ends put (drop (i + 1) ts) ≡ whole
ends_more ts i lane d ends seen put whole less same free ended so_far =
    let t = get_or ts i d in
    let rest = drop (i + 1) ts in
    let free_now = free ∙ ap (λ (e : List ℕ). free_lane e t.start) same in
    let next : lane_ends ends (drop i ts) ≡ lane_ends put (drop (i + 1) ts) =
    ap (lane_ends ends) (drop_more ts i d less)
    ∙ ap (λ (n : ℕ). lane_ends (with_end ends n t.end) rest) (sym free_now)
    ∙ ap (λ (e : List ℕ). lane_ends e rest) (sym ended) in
    sym next ∙ so_far
