-- The lines of tests that held one another.
use Rattle.std.proofs.Common.{◌≡◌, ℕ, zero, suc, Bool, Option, None, Some, List, [], ◌∷◌, ◌++◌, find, refl, sym, ap, ◌∙◌, append_assoc, append-nil, slice_get, option_map, IfSome}
use Rattle.std.specs.List.{position_or_len}
use Rattle.std.proofs.lemmas.List.Folds.{find_at}
use Rattle.soc_model.specs.Chips.{SocValue}
use Rattle.plan_model.specs.Plans.{LimitsValue}
use Rattle.live_tests.specs.declared.placed.PlacedTest.{PlacedTest}
use Rattle.report.specs.declared.holders.Hold.{Hold}
use Rattle.report.specs.Holders.{first_held, held, holder, holds, is_holder, or_else}
use Rattle.report.specs.Chains.{chain_lines, last_line, last_test, test_of}

-- ---- whoever held a test is one of the tests

of_find : {X : Type 0} (P : X → Type 0) (p : X → Bool) (xs : List X) → ((i : ℕ) (x : X) → slice_get xs i ≡ Some x → P x) → (o : Option X) → find p xs ≡ o → IfSome o P
of_find P p xs all None e = tt
of_find P p xs all (Some x) e = all (position_or_len p xs) x (sym (find_at p xs) ∙ e)

pub last_there : (P : PlacedTest → Type 0) (tests : List PlacedTest) (cycles : ℕ) → ((i : ℕ) (t : PlacedTest) → slice_get tests i ≡ Some t → P t) → IfSome (last_test tests cycles) P
last_there P tests cycles all = of_find P _ tests all (last_test tests cycles) refl

holder_there : (P : PlacedTest → Type 0) (soc : SocValue) (limits : LimitsValue) (load : ℕ → ℕ) (tests : List PlacedTest) (kind : Hold) (t : PlacedTest) → ((i : ℕ) (t : PlacedTest) → slice_get tests i ≡ Some t → P t) → IfSome (holder soc limits load tests kind t) P
unfolding holder
holder_there P soc limits load tests kind t all = of_find P (is_holder soc limits load kind t) tests all (find (is_holder soc limits load kind t) tests) refl

first_there : (P : PlacedTest → Type 0) (kind : Hold) (o : Option PlacedTest) (rest : Option (PlacedTest × Hold)) → IfSome o P → IfSome (test_of rest) P → IfSome (test_of (or_else (option_map (λ (u : PlacedTest). (u, kind)) o) rest)) P
first_there P kind None rest here later = later
first_there P kind (Some u) rest here later = here

held_by : (P : PlacedTest → Type 0) (soc : SocValue) (limits : LimitsValue) (load : ℕ → ℕ) (tests : List PlacedTest) (t : PlacedTest) → ((i : ℕ) (t : PlacedTest) → slice_get tests i ≡ Some t → P t) → (kinds : List Hold) → IfSome (test_of (first_held soc limits load tests t kinds)) P
held_by P soc limits load tests t all [] = tt
held_by P soc limits load tests t all (kind ∷ kinds) =
    first_there P kind (holder soc limits load tests kind t) (first_held soc limits load tests t kinds) (holder_there P soc limits load tests kind t all) (held_by P soc limits load tests t all kinds)

pub held_there : (P : PlacedTest → Type 0) (soc : SocValue) (limits : LimitsValue) (load : ℕ → ℕ) (tests : List PlacedTest) (t : PlacedTest) → ((i : ℕ) (t : PlacedTest) → slice_get tests i ≡ Some t → P t) → IfSome (test_of (held soc limits load tests t)) P
unfolding held
held_there P soc limits load tests t all = held_by P soc limits load tests t all holds

-- ---- the lines

pub line_more : (soc : SocValue) (limits : LimitsValue) (load : ℕ → ℕ) (tests : List PlacedTest) (t : PlacedTest) (n m : ℕ) (next : Option PlacedTest) (old new whole : List ℕ) → n ≡ suc m → new ≡ old ++ last_line t (held soc limits load tests t) → next ≡ test_of (held soc limits load tests t) →
    old ++ chain_lines soc limits load tests n (Some t) ≡ whole → new ++ chain_lines soc limits load tests m next ≡ whole
unfolding chain_lines
line_more soc limits load tests t n m next old new whole more line is so_far =
    let rest = chain_lines soc limits load tests m (test_of (held soc limits load tests t)) in
    ap (λ (l : List ℕ). l ++ chain_lines soc limits load tests m next) line
    ∙ ap (λ (o : Option PlacedTest). (old ++ last_line t (held soc limits load tests t)) ++ chain_lines soc limits load tests m o) is
    ∙ append_assoc old (last_line t (held soc limits load tests t)) rest
    ∙ ap (λ (k : ℕ). old ++ chain_lines soc limits load tests k (Some t)) (sym more) ∙ so_far

-- nothing held the last one
pub none_left : (soc : SocValue) (limits : LimitsValue) (load : ℕ → ℕ) (tests : List PlacedTest) (n : ℕ) (text whole : List ℕ) → text ++ chain_lines soc limits load tests n None ≡ whole → text ≡ whole
unfolding chain_lines
none_left soc limits load tests zero text whole so_far = sym (append-nil text) ∙ so_far
none_left soc limits load tests (suc n) text whole so_far = sym (append-nil text) ∙ so_far

-- as many lines as there may be
pub all_lines : (soc : SocValue) (limits : LimitsValue) (load : ℕ → ℕ) (tests : List PlacedTest) (n : ℕ) (o : Option PlacedTest) (text whole : List ℕ) → n ≡ 0 → text ++ chain_lines soc limits load tests n o ≡ whole → text ≡ whole
unfolding chain_lines
all_lines soc limits load tests zero o text whole none so_far = sym (append-nil text) ∙ so_far
all_lines soc limits load tests (suc n) o text whole none so_far = absurd cc
