-- What was read goes on to a whole text, and where reading stops no text begins so.
use Rattle.std.proofs.Common.{◌≡◌, ℕ, zero, suc, ◌<◌, List, [], ◌∷◌, ◌++◌, length, Bool, true, false, ◌||◌, refl, sym, ◌∙◌, ap, arith, length-append, ◌+◌, ◌≤◌, ◌&&◌, Option, None, Some, nat_eq, nat_lt, append_assoc, append-nil, decimal, inl, inr, All, nat_le}
use Rattle.std.specs.List.{list_any}
use Rattle.std.proofs.lemmas.List.Folds.{list_any-append}
use Rattle.std.proofs.lemmas.Bool.{eqb-true, and_parts, cases_Bool}
use Rattle.limits_text.specs.Items.{Item, amount_item, before_item, profile_item, gives_profile, has_profile, number, ArePairs, AreSteps, has_amount}
use Rattle.std.proofs.lemmas.List.Elements.{All-head, All-tail}
use Rattle.std.proofs.lemmas.Bool.Decides.{nat_tests}
use Rattle.std.proofs.lemmas.Option.{same_Some}
use Rattle.outside.proofs.Runs.{run-none, run-append, run-one_more}
use Rattle.soc_model.specs.declared.TestId.{TestId}
use Rattle.soc_model.specs.declared.TheConstants.{POWER_MOST, NUMBER_WORD_MOST}
use Rattle.plan_model.specs.declared.TheConstants.{STEPS_MOST}
use Rattle.plan_model.specs.SoundLimits.{Grow}
use Rattle.limits_text.specs.declared.items.Amount.{Amount}
use Rattle.limits_text.specs.declared.items.Naming.TheVariants.{First, Profiled, Second}
use Rattle.outside.specs.Words.{Word}
use Rattle.outside.specs.Grammars.{Viable, Stops, EndsEarly}
use Rattle.limits_text.specs.Grammar.{AmountComes, BeforeComes, ProfileComes, Comes, AreItems, form_number, IsText, InGrammar}
use Rattle.limits_text.specs.Steps.{Part, title, version, between, wants, module_for, test_for, steps_for, power_for, State, start, at, last_from, may_follow, begin, step_at, step, run, ended_at, ended, whole_if, whole_of, closed}
use Rattle.limits_text.proofs.WordFacts.{key_no_number, word_at, one_word, zero_word, title_word, wires_word, one_is, zero_is, title_is, wires_is, one_in_range, number-decimal}
use Rattle.limits_text.specs.declared.items.Amount.TheVariants.{Wires}
use Rattle.limits_text.specs.declared.items.Naming.{Naming}
use Rattle.limits_text.proofs.Sound.{StateIs, Holds, read_valid, no_more_items, text_of}
use Rattle.common_lemmas.proofs.Options.{never_both}

-- ---- among more numbers than there are elements, one goes to none of them

-- an element that passes, and those before and behind it
record Picked {X : Type 0} (p : X → Bool) (xs : List X) : Type 0 where
  front : List X
  element : X
  behind : List X
  parts : xs ≡ front ++ element ∷ behind
  passes : p element ≡ true

picked : {X : Type 0} (p : X → Bool) (xs : List X) → list_any p xs ≡ true → Picked p xs
picked p [] e = cc
picked p (x ∷ xs) e = elim (cases_Bool (p x)) [
  | inl is ↦ record { front = []; element = x; behind = xs; parts = refl; passes = is }
  | inr is ↦
      let k = picked p xs (rw is at e) in
      record { front = x ∷ k.front; element = k.element; behind = k.behind; parts = ap (λ l. x ∷ l) k.parts; passes = k.passes }
]

or_middle : (a b c : Bool) → b ≡ false → (a || c) ≡ false → (a || (b || c)) ≡ false
or_middle a b c e f = rw e f

misses : {Q : Type 0} (n t : ℕ) → t < n → (b : Bool) → (b ≡ true → Q → t ≡ n) → Q → b ≡ false
misses n t less true same there = absurd (omega (arith, same refl there))
misses n t less false same there = refl

pub fresh : {X : Type 0} (n : ℕ) (p : ℕ → X → Bool) (xs : List X) → ((x : X) (t u : ℕ) → p t x ≡ true → p u x ≡ true → t ≡ u) → length xs < n → (t : ℕ) × (t < n) × (list_any (p t) xs ≡ false)
fresh zero p xs only few = absurd (omega arith)
fresh {X} (suc n) p xs only few = elim (cases_Bool (list_any (p n) xs)) [
  | inl is ↦
      let k = picked (p n) xs is in
      let shorter : length (k.front ++ k.behind) < n = omega (arith, length-append k.front k.behind, length-append k.front (k.element ∷ k.behind), ap length k.parts) in
      let found = fresh n p (k.front ++ k.behind) only shorter in
      let other = misses n found.0 found.1 (p found.0 k.element) (only k.element found.0 n) k.passes in (
        found.0,
        omega arith,
        ap (list_any (p found.0)) k.parts ∙ list_any-append (p found.0) k.front (k.element ∷ k.behind)
            ∙ or_middle (list_any (p found.0) k.front) (p found.0 k.element) (list_any (p found.0) k.behind) other (sym (list_any-append (p found.0) k.front k.behind) ∙ found.2),
      )
  | inr is ↦ (n, omega arith, is)
]

-- an item has a profile of one test alone
one_test : (m : ℕ) (x : Item) (t u : ℕ) → gives_profile (record { «module» = m; test = t }) x ≡ true → gives_profile (record { «module» = m; test = u }) x ≡ true → t ≡ u
one_test m (amount_item a n) t u e f = cc
one_test m (before_item line a b) t u e f = cc
one_test m (profile_item line id steps) t u e f =
    eqb-true t id.test (and_parts _ _ e).1 ∙ sym (eqb-true u id.test (and_parts _ _ f).1)

-- fewer items than numbers leave a test of the module without a profile
pub fresh_test : (m n : ℕ) (items : List Item) → length items < n → (t : ℕ) × (t < n) × (has_profile (record { «module» = m; test = t }) items ≡ false)
fresh_test m n items few = fresh n (λ t x. gives_profile (record { «module» = m; test = t }) x) items (one_test m) few

-- ---- whole texts are read word by word

-- the items that the words are, as the reader has them
pub record IsRead (s : State) (form : Bool) (items : List Item) : Type 0 where
  pub form_is : s.form ≡ form
  pub items_are : ended s ≡ Some items

abbrev pub Read : Option State → Bool → List Item → Type 0
Read None form items = ⊥
Read (Some s) form items = IsRead s form items

-- the first word of an item, also where the item before it ends only here
enters : (form : Bool) (done : List Item) (part : Part) (earlier : List Item) (w : Word) → ended_at done part ≡ Some earlier → number w.0 ≡ None → step_at form done part w ≡ begin form earlier w
enters form done title earlier w e none = cc
enters form done version earlier w e none = cc
enters form done between earlier w e none = ap (λ l. begin form l w) (same_Some done earlier e)
enters form done (wants a) earlier w e none = cc
enters form done (module_for n) earlier w e none = cc
enters form done (test_for n m) earlier w e none = cc
enters form done (steps_for line id []) earlier w e none = cc
enters form done (steps_for line id (s ∷ steps)) earlier w e none = rw none (ap (λ l. begin form l w) (same_Some (profile_item line id (s ∷ steps) ∷ done) earlier e))
enters form done (power_for line id steps from) earlier w e none = cc

-- ---- the steps of a profile

-- the least number from which steps go on
grow_past : (from : ℕ) (s x : ℕ × ℕ) (read rest : List (ℕ × ℕ)) → Grow from (s ∷ (read ++ x ∷ rest)) → last_from s.0 read < x.0
grow_past from s x [] rest g = omega (arith, g.1.0)
grow_past from s x (t ∷ read) rest g = grow_past (s.0 + 1) t x read rest g.1

follows : (read rest : List (ℕ × ℕ)) (x : ℕ × ℕ) → AreSteps (read ++ x ∷ rest) → may_follow read x.0 ≡ true
follows [] rest x are = first x rest are.begins.0 are.begins.1 are.begins.2
  where
    first : (x : ℕ × ℕ) (rest : List (ℕ × ℕ)) (power : ℕ) (more : List (ℕ × ℕ)) → x ∷ rest ≡ (0, power) ∷ more → nat_eq x.0 0 ≡ true
    first x rest power more e = let same : x ≡ (0, power) = cc in rw same refl
follows (s ∷ read) rest x are =
    let past = grow_past 0 s x read rest are.grows in
    let few : length (s ∷ read) < STEPS_MOST = omega (arith, are.few, length-append read (x ∷ rest)) in
    both (last_from s.0 read) x.0 (length (s ∷ read)) STEPS_MOST past few
  where
    both : (a b c d : ℕ) → a < b → c < d → (nat_lt a b && nat_lt c d) ≡ true
    both a b c d e f = grind (arith, nat_tests)

small_at : (read rest : List (ℕ × ℕ)) (x : ℕ × ℕ) → All (λ (s : ℕ × ℕ). s.1 ≤ POWER_MOST) (read ++ x ∷ rest) → nat_le x.1 POWER_MOST ≡ true
small_at [] rest x all = test x.1 (All-head (λ (s : ℕ × ℕ). s.1 ≤ POWER_MOST) x rest all)
  where
    test : (p : ℕ) → p ≤ POWER_MOST → nat_le p POWER_MOST ≡ true
    test p e = grind (arith, nat_tests)
small_at (s ∷ read) rest x all = small_at read rest x (All-tail (λ (s : ℕ × ℕ). s.1 ≤ POWER_MOST) s (read ++ x ∷ rest) all)

run_steps : (form : Bool) (done : List Item) (line : ℕ) (id : TestId) (ws : List Word) (read rest : List (ℕ × ℕ)) → ArePairs ws rest → AreSteps (read ++ rest) → run (at form done (steps_for line id read)) ws ≡ at form done (steps_for line id (read ++ rest))
run_steps form done line id ws read [] are steps = rw (are, append-nil) refl
run_steps form done line id ws read (x ∷ rest) are steps =
    let again : AreSteps ((read ++ x ∷ []) ++ rest) = rw (append_assoc read (x ∷ []) rest) steps in
    rw are.3 (rw are.4 (rw (follows read rest x steps) (rw are.5 (rw (small_at read rest x steps.small)
    (run_steps form done line id are.2 (read ++ x ∷ []) rest are.6 again ∙ ap (λ l. at form done (steps_for line id l)) (append_assoc read (x ∷ []) rest))))))

-- ---- items

module _ (o : State) (form : Bool) (earlier : List Item) where
  amount_read : (a : Amount) (n : ℕ) (own : List Word) → IsRead o form earlier → AmountComes earlier a n own → Read (run (Some o) own) form (amount_item a n ∷ earlier)
  amount_read a n own is c =
      let into : step o c.first ≡ at form earlier (wants a) = enters o.form o.done o.part earlier c.first is.items_are (key_no_number c.first.0 _ c.keyword) ∙ rw c.keyword (rw c.once (rw is.form_is refl)) in
      rw c.words (rw into (rw c.value (rw c.range (record { form_is = refl; items_are = refl }))))

  before_read : (line : ℕ) (a b : TestId) (own : List Word) → IsRead o form earlier → BeforeComes line a b own → Read (run (Some o) own) form (before_item line a b ∷ earlier)
  before_read line a b own is c =
      let into : step o c.first ≡ at form earlier (module_for (First line)) = enters o.form o.done o.part earlier c.first is.items_are (key_no_number c.first.0 _ c.keyword) ∙ rw c.keyword (rw (is.form_is, c.here) refl) in
      rw c.words (rw into (rw c.names_a.0 (rw c.names_a.1 (rw c.names_b.0 (rw c.names_b.1 (record { form_is = refl; items_are = refl }))))))

nonempty_ended : (form : Bool) (done : List Item) (line : ℕ) (id : TestId) (steps : List (ℕ × ℕ)) → AreSteps steps → Read (at form done (steps_for line id steps)) form (profile_item line id steps ∷ done)
nonempty_ended form done line id [] are = let e = are.begins.2 in absurd (cc)
nonempty_ended form done line id (s ∷ steps) are = record { form_is = refl; items_are = refl }

module _ (o : State) (form : Bool) (earlier : List Item) where
  profile_read : (line : ℕ) (id : TestId) (steps : List (ℕ × ℕ)) (own : List Word) → IsRead o form earlier → ProfileComes form earlier line id steps own
      → Read (run (Some o) own) form (profile_item line id steps ∷ earlier)
  profile_read line id steps own is c =
      let into : step o c.first ≡ at form earlier (module_for (Profiled line)) = enters o.form o.done o.part earlier c.first is.items_are (key_no_number c.first.0 _ c.keyword) ∙ rw c.keyword (rw (is.form_is, c.here) (rw c.has_form refl)) in
      rw c.words (rw into (rw c.names.0 (rw c.names.1 (rw c.once (rw (run_steps form earlier line id c.pairs [] steps c.are c.steps_are) (nonempty_ended form earlier line id steps c.steps_are))))))

  item_read : (x : Item) (own : List Word) → IsRead o form earlier → Comes form earlier x own → Read (run (Some o) own) form (x ∷ earlier)
  item_read (amount_item a n) own is c = amount_read o form earlier a n own is c
  item_read (before_item line a b) own is c = before_read o form earlier line a b own is c
  item_read (profile_item line id steps) own is c = profile_read line id steps own is c

next_read : (o : Option State) (form : Bool) (earlier : List Item) (x : Item) (own : List Word) → Read o form earlier → Comes form earlier x own → Read (run o own) form (x ∷ earlier)
next_read None form earlier x own is c = absurd is
next_read (Some o) form earlier x own is c = item_read o form earlier x own is c

-- a list of items is read
items_read : (form : Bool) (items : List Item) (ws : List Word) → AreItems form items ws → Read (run (at form [] between) ws) form items
items_read form [] ws is = rw is (record { form_is = refl; items_are = refl })
items_read form (x ∷ earlier) ws is =
    rw (is.2, run-append) (next_read (run (at form [] between) is.0) form earlier x is.1 (items_read form earlier is.0 is.3) is.4)

begins_at : (form : Bool) (t v : Word) (rest : List Word) → step_at false [] title t ≡ at false [] version → number v.0 ≡ Some (form_number form) → run (Some start) (t ∷ v ∷ rest) ≡ run (at form [] between) rest
begins_at true t v rest into is = rw into (rw is refl)
begins_at false t v rest into is = rw into (rw is refl)

-- a text is read
pub text_read : (form : Bool) (items : List Item) (ws : List Word) → IsText form items ws → Read (run (Some start) ws) form items
text_read form items ws is =
    let into : step_at false [] title is.title ≡ at false [] version = rw is.title_is refl in
    rw is.words (rw (begins_at form is.title is.version is.rest into is.version_is) (items_read form items is.rest is.are))

-- a front of what is read is read
pub front_read : (o : Option State) (a b : List Word) (form : Bool) (items : List Item) → Read (run o (a ++ b)) form items → (s : State) × (run o a ≡ Some s)
front_read o a b form items is = by_cases (run o a) refl
  where
    by_cases : (r : Option State) → run o a ≡ r → (s : State) × (run o a ≡ Some s)
    by_cases (Some s) e = (s, e)
    by_cases None e =
        let none : run o (a ++ b) ≡ None = run-append step o a b ∙ ap (λ r. run r b) e ∙ run-none step b in
        absurd (rw none at is)

-- what is viable is read so far
pub viable_read : (ws : List Word) → Viable InGrammar ws → (s : State) × (run (Some start) ws ≡ Some s)
viable_read ws v = front_read (Some start) ws v.0 v.1.0 v.1.1 (text_read v.1.0 v.1.1 (ws ++ v.0) v.1.2)

-- ---- what is read word by word goes on to a whole text

-- words with which a text is whole
record Completes (form : Bool) (done : List Item) (part : Part) : Type 0 where
  more : List Word
  end : State
  items : List Item
  runs : run (at form done part) more ≡ Some end
  whole : closed end ≡ Some items

-- one word more
then : (form other : Bool) (done items : List Item) (part next : Part) (w : Word) → step_at form done part w ≡ at other items next → Completes other items next → Completes form done part
then form other done items part next w e c =
    record { more = w ∷ c.more; end = c.end; items = c.items; runs = ap (λ o. run o c.more) e ∙ c.runs; whole = c.whole }

module _ (form : Bool) (done : List Item) where
  wires_more : (earlier : List Item) (part : Part) → ended_at done part ≡ Some earlier → step_at form done part wires_word ≡ step_at form earlier between wires_word → Completes form done part
  wires_more earlier part ended into = elim (cases_Bool (has_amount Wires earlier)) [
    | inl is ↦ record { more = []; end = record { form = form; done = done; part = part }; items = earlier; runs = refl; whole = rw ended (rw is refl) }
    | inr is ↦ record {
      more = wires_word ∷ one_word ∷ [];
      end = record { form = form; done = amount_item Wires 1 ∷ earlier; part = between };
      items = amount_item Wires 1 ∷ earlier;
      runs = ap (λ o. run o (one_word ∷ [])) into ∙ rw wires_is (rw is (rw one_is refl));
      whole = refl;
    }
  ]

  from_between : Completes form done between
  from_between = wires_more done between refl refl

module _ (form : Bool) (done : List Item) (line : ℕ) (id : TestId) where
  from_steps : (s : ℕ × ℕ) (steps : List (ℕ × ℕ)) → Completes form done (steps_for line id (s ∷ steps))
  from_steps s steps =
      wires_more form done (profile_item line id (s ∷ steps) ∷ done) (steps_for line id (s ∷ steps)) refl (rw (key_no_number wires_word.0 _ wires_is) refl)

  from_pushed : (steps : List (ℕ × ℕ)) (x : ℕ × ℕ) → Completes form done (steps_for line id (steps ++ x ∷ []))
  from_pushed [] x = from_steps x []
  from_pushed (s ∷ steps) x = from_steps s (steps ++ x ∷ [])

  from_power : (steps : List (ℕ × ℕ)) (from : ℕ) → Completes form done (power_for line id steps from)
  from_power steps from =
      then form form done done (power_for line id steps from) (steps_for line id (steps ++ (from, 1) ∷ [])) one_word (rw one_is refl) (from_pushed steps (from, 1))

  from_no_steps : Completes form done (steps_for line id [])
  from_no_steps =
      then form form done done (steps_for line id []) (power_for line id [] 0) zero_word (rw zero_is refl) (from_power [] 0)

from_wants : (form : Bool) (done : List Item) (a : Amount) → Completes form done (wants a)
from_wants form done a =
    then form form done (amount_item a 1 ∷ done) (wants a) between one_word (rw one_is (rw (one_in_range a) refl)) (from_between form (amount_item a 1 ∷ done))

-- few enough items to leave a test without a profile
abbrev HasRoom : List Item → Type 0
HasRoom done = length done ≤ NUMBER_WORD_MOST

module _ (form : Bool) (done : List Item) where
  from_second : (line m : ℕ) (a : TestId) → Completes form done (test_for (Second line a) m)
  from_second line m a =
      then form form done (before_item line a (record { «module» = m; test = 1 }) ∷ done) (test_for (Second line a) m) between one_word (rw one_is refl) (from_between form (before_item line a (record { «module» = m; test = 1 }) ∷ done))

  from_second_module : (line : ℕ) (a : TestId) → Completes form done (module_for (Second line a))
  from_second_module line a =
      then form form done done (module_for (Second line a)) (test_for (Second line a) 1) one_word (rw one_is refl) (from_second line 1 a)

  from_test : (n : Naming) (m : ℕ) → HasRoom done → Completes form done (test_for n m)
  from_test (First line) m room =
      then form form done done (test_for (First line) m) (module_for (Second line (record { «module» = m; test = 1 }))) one_word (rw one_is refl) (from_second_module line (record { «module» = m; test = 1 }))
  from_test (Second line a) m room = from_second line m a
  from_test (Profiled line) m room =
      let t = fresh_test m (NUMBER_WORD_MOST + 1) done (omega (arith, room)) in
      let small : t.0 ≤ NUMBER_WORD_MOST = omega (arith, t.1) in
      then form form done done (test_for (Profiled line) m) (steps_for line (record { «module» = m; test = t.0 }) []) (word_at (decimal t.0)) (rw (number-decimal t.0 small) (rw t.2 refl)) (from_no_steps form done line (record { «module» = m; test = t.0 }))

  from_module : (n : Naming) → HasRoom done → Completes form done (module_for n)
  from_module n room =
      then form form done done (module_for n) (test_for n 1) one_word (rw one_is refl) (from_test n 1 room)

  from_version : Completes form done version
  from_version = then form false done done version between one_word (rw one_is refl) (from_between false done)

  from_title : Completes form done title
  from_title = then form form done done title version title_word (rw title_is refl) from_version

  completes : (part : Part) → HasRoom done → Completes form done part
  completes title room = from_title
  completes version room = from_version
  completes between room = from_between form done
  completes (wants a) room = from_wants form done a
  completes (module_for n) room = from_module n room
  completes (test_for n m) room = from_test n m room
  completes (steps_for line id []) room = from_no_steps form done line id
  completes (steps_for line id (s ∷ steps)) room = from_steps form done line id s steps
  completes (power_for line id steps from) room = from_power form done line id steps from

-- ---- texts

holds_at : (o : Option State) (s : State) (ws : List Word) → Holds o ws → o ≡ Some s → StateIs s.form s.done s.part ws
holds_at o s ws h e = (rw e at h)

whole_has : (o : Option (List Item)) (items : List Item) → whole_of o ≡ Some items → (o ≡ Some items) × (has_amount Wires items ≡ true)
whole_has None items e = cc
whole_has (Some found) items e = by (has_amount Wires found) refl e
  where
    by : (b : Bool) → has_amount Wires found ≡ b → whole_if b found ≡ Some items → (Some found ≡ Some items) × (has_amount Wires items ≡ true)
    by false is e = cc
    by true is e = (e, ap (has_amount Wires) (sym (same_Some found items e)) ∙ is)

-- words that are read to the end are a text
pub read_text : (ws : List Word) (s : State) (items : List Item) → run (Some start) ws ≡ Some s → closed s ≡ Some items → IsText s.form items ws
read_text ws s items e is =
    let parts = whole_has (ended s) items is in
    text_of s.form s.done s.part items ws (holds_at (run (Some start) ws) s ws (read_valid ws) e) parts.0 parts.1

-- words that are read so far are viable
pub read_viable : (ws : List Word) (s : State) → length ws ≤ NUMBER_WORD_MOST → run (Some start) ws ≡ Some s → Viable InGrammar ws
read_viable ws s few e =
    let room : HasRoom s.done = omega (arith, few, no_more_items s.form s.done s.part ws (holds_at (run (Some start) ws) s ws (read_valid ws) e)) in
    let c = completes s.form s.done s.part room in
    let runs : run (Some start) (ws ++ c.more) ≡ Some c.end = run-append step (Some start) ws c.more ∙ ap (λ o. run o c.more) e ∙ c.runs in
    (c.more, (c.end.form, c.items, read_text (ws ++ c.more) c.end c.items runs c.whole))

-- words that the reader doesn't read begin no text
pub stuck : (ws : List Word) → run (Some start) ws ≡ None → Viable InGrammar ws → ⊥
stuck ws none v = let r = viable_read ws v in never_both (run (Some start) ws) r.0 none r.1

-- the word at which the reader stops
pub stops_here : (front : List Word) (w : Word) (s : State) → length front ≤ NUMBER_WORD_MOST → run (Some start) front ≡ Some s → step s w ≡ None → Stops InGrammar front w
stops_here front w s few e stop = record { before = read_viable front s few e; refused = stuck (front ++ w ∷ []) (run-one_more step (Some start) front w s e ∙ stop) }

closed_state : (form : Bool) (s : State) (items : List Item) (o : Option State) → o ≡ Some s → Read o form items → ended s ≡ Some items
closed_state form s items o e r = is (rw e at r)
  where
    is : IsRead s form items → ended s ≡ Some items
    is k = k.items_are

module _ (ws : List Word) (s : State) where
  -- words that are read, but not to an end, are no text
  pub no_text : run (Some start) ws ≡ Some s → closed s ≡ None → InGrammar ws → ⊥
  no_text e open_end g =
      never_both (closed s) g.1 open_end (ap whole_of (closed_state g.0 s g.1 (run (Some start) ws) e (text_read g.0 g.1 ws g.2)) ∙ ap (λ b. whole_if b g.1) g.2.wires)

  -- the text that ends too early
  pub ends_here : length ws ≤ NUMBER_WORD_MOST → run (Some start) ws ≡ Some s → closed s ≡ None → EndsEarly InGrammar ws
  ends_here few e open_end = record { viable = read_viable ws s few e; refused = no_text e open_end }

-- a list of words is at most one list of items
pub one_text : (ws : List Word) (form other : Bool) (a b : List Item) → IsText form a ws → IsText other b ws → (form ≡ other) × (a ≡ b)
one_text ws form other a b is_a is_b = by_state (run (Some start) ws) (text_read form a ws is_a) (text_read other b ws is_b)
  where
    by_state : (o : Option State) → Read o form a → Read o other b → (form ≡ other) × (a ≡ b)
    by_state None r t = absurd r
    by_state (Some s) r t = (sym r.form_is ∙ t.form_is, same_Some a b (sym r.items_are ∙ t.items_are))
