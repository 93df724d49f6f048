-- What is read word by word stands for items and an unfinished item.
use Rattle.std.proofs.Common.{◌≡◌, ℕ, ◌+◌, ◌<◌, ◌≤◌, List, [], ◌∷◌, ◌++◌, length, Bool, true, false, ◌&&◌, not, Option, None, Some, nat_eq, nat_lt, refl, sym, ◌∙◌, ap, subst, arith, append_assoc, append-nil, length-append, inl, inr, nat_le}
use Rattle.std.proofs.lemmas.List.Elements.{All-nil, All-push}
use Rattle.std.proofs.lemmas.Bool.Decides.{nat_tests}
use Rattle.std.proofs.lemmas.Bool.{eqb-true, and_parts, cases_Bool}
use Rattle.std.proofs.lemmas.Option.{same_Some}
use Rattle.soc_model.specs.declared.TestId.{TestId}
use Rattle.soc_model.specs.declared.TheConstants.{POWER_MOST}
use Rattle.plan_model.specs.declared.TheConstants.{STEPS_MOST}
use Rattle.plan_model.specs.SoundLimits.{Grow}
use Rattle.limits_text.specs.declared.items.Amount.{Amount}
use Rattle.limits_text.specs.declared.items.Amount.TheVariants.{Wires}
use Rattle.limits_text.specs.declared.items.Key.{Key}
use Rattle.limits_text.specs.declared.items.Key.TheVariants.{One, Before, Profile}
use Rattle.limits_text.specs.declared.items.Naming.{Naming}
use Rattle.limits_text.specs.declared.items.Naming.TheVariants.{First, Second, Profiled}
use Rattle.outside.specs.Words.{Word}
use Rattle.limits_text.specs.Items.{number, is_title, key_of, is_in_range, Item, amount_item, before_item, profile_item, has_amount, has_profile, NamesTest, ArePairs, AreSteps}
use Rattle.limits_text.specs.Grammar.{Comes, AreItems, form_number, IsText}
use Rattle.limits_text.specs.Steps.{ended_at, Part, title, version, between, wants, module_for, test_for, steps_for, power_for, State, start, at, at_if, last_from, may_follow, begin_by, after_title, after_version, after_amount, after_module, after_test, end_profile, after_step, after_power, step_at, step_from, run}
use Rattle.common_lemmas.proofs.Tests.{le_from_true, less_from_true}

-- ---- what was read of an unfinished item

pub record AmountKey (done : List Item) (a : Amount) (ws : List Word) : Type 0 where
  pub key : Word
  pub words : ws ≡ key ∷ []
  pub keyword : key_of key.0 ≡ Some (One a)
  pub once : has_amount a done ≡ false

pub record BeforeKey (line : ℕ) (ws : List Word) : Type 0 where
  pub key : Word
  pub words : ws ≡ key ∷ []
  pub keyword : key_of key.0 ≡ Some Before
  pub here : line ≡ key.1

pub record BeforeOne (line : ℕ) (a : TestId) (ws : List Word) : Type 0 where
  pub key : Word
  pub module_word : Word
  pub test_word : Word
  pub words : ws ≡ key ∷ module_word ∷ test_word ∷ []
  pub keyword : key_of key.0 ≡ Some Before
  pub here : line ≡ key.1
  pub names : NamesTest a module_word test_word

pub record ProfileKey (form : Bool) (line : ℕ) (ws : List Word) : Type 0 where
  pub key : Word
  pub words : ws ≡ key ∷ []
  pub keyword : key_of key.0 ≡ Some Profile
  pub here : line ≡ key.1
  pub has_form : form ≡ true

abbrev pub NamingIs : Bool → Naming → List Word → Type 0
NamingIs form (First line) ws = BeforeKey line ws
NamingIs form (Second line a) ws = BeforeOne line a ws
NamingIs form (Profiled line) ws = ProfileKey form line ws

pub record ModuleNamed (form : Bool) (n : Naming) (m : ℕ) (ws : List Word) : Type 0 where
  pub front : List Word
  pub last : Word
  pub words : ws ≡ front ++ last ∷ []
  pub naming : NamingIs form n front
  pub value : number last.0 ≡ Some m

-- steps that may go on
abbrev pub SoFar : List (ℕ × ℕ) → Type 0
SoFar [] = Unit {0}
SoFar (s ∷ steps) = AreSteps (s ∷ steps)

pub record StepsRead (form : Bool) (done : List Item) (line : ℕ) (id : TestId) (steps : List (ℕ × ℕ)) (ws : List Word) : Type 0 where
  pub key : Word
  pub module_word : Word
  pub test_word : Word
  pub pairs : List Word
  pub words : ws ≡ key ∷ module_word ∷ test_word ∷ pairs
  pub keyword : key_of key.0 ≡ Some Profile
  pub here : line ≡ key.1
  pub has_form : form ≡ true
  pub names : NamesTest id module_word test_word
  pub once : has_profile id done ≡ false
  pub are : ArePairs pairs steps
  pub so_far : SoFar steps

pub record StepBegun (form : Bool) (done : List Item) (line : ℕ) (id : TestId) (steps : List (ℕ × ℕ)) (from : ℕ) (ws : List Word) : Type 0 where
  pub front : List Word
  pub last : Word
  pub words : ws ≡ front ++ last ∷ []
  pub read : StepsRead form done line id steps front
  pub value : number last.0 ≡ Some from
  pub may : may_follow steps from ≡ true

abbrev pub PartIs : Bool → List Item → Part → List Word → Type 0
PartIs form done title ws = ⊥
PartIs form done version ws = ⊥
PartIs form done between ws = ws ≡ []
PartIs form done (wants a) ws = AmountKey done a ws
PartIs form done (module_for n) ws = NamingIs form n ws
PartIs form done (test_for n m) ws = ModuleNamed form n m ws
PartIs form done (steps_for line id steps) ws = StepsRead form done line id steps ws
PartIs form done (power_for line id steps from) ws = StepBegun form done line id steps from ws

-- the words are a title, items, and an unfinished item
pub record Valid (form : Bool) (done : List Item) (part : Part) (ws : List Word) : Type 0 where
  pub first : Word
  pub second : Word
  pub front : List Word
  pub own : List Word
  pub words : ws ≡ first ∷ second ∷ (front ++ own)
  pub title_is : is_title first.0 ≡ true
  pub version_is : number second.0 ≡ Some (form_number form)
  pub before : AreItems form done front
  pub unfinished : PartIs form done part own

pub record TitleRead (done : List Item) (ws : List Word) : Type 0 where
  pub first : Word
  pub words : ws ≡ first ∷ []
  pub title_is : is_title first.0 ≡ true
  pub none : done ≡ []

pub record NothingRead (done : List Item) (ws : List Word) : Type 0 where
  pub words : ws ≡ []
  pub none : done ≡ []

abbrev pub StateIs : Bool → List Item → Part → List Word → Type 0
StateIs form done title ws = NothingRead done ws
StateIs form done version ws = TitleRead done ws
StateIs form done part ws = Valid form done part ws

abbrev pub Holds : Option State → List Word → Type 0
Holds None ws = Unit {0}
Holds (Some s) ws = StateIs s.form s.done s.part ws

-- ---- one more word

module _ {form : Bool} {done : List Item} {part : Part} {ws : List Word} (v : Valid form done part ws) where
  longer : (w : Word) → ws ++ w ∷ [] ≡ v.first ∷ v.second ∷ (v.front ++ (v.own ++ w ∷ []))
  longer w = ap (λ l. l ++ w ∷ []) v.words ∙ ap (λ l. v.first ∷ v.second ∷ l) (append_assoc v.front v.own (w ∷ []))

  -- the unfinished item goes on
  goes : (next : Part) (w : Word) → PartIs form done next (v.own ++ w ∷ []) → Valid form done next (ws ++ w ∷ [])
  goes next w is = record {
    first = v.first;
    second = v.second;
    front = v.front;
    own = v.own ++ w ∷ [];
    words = longer w;
    title_is = v.title_is;
    version_is = v.version_is;
    before = v.before;
    unfinished = is;
  }

  -- it is a whole one
  given : (x : Item) (all own : List Word) → all ≡ v.first ∷ v.second ∷ (v.front ++ own) → Comes form done x own → Valid form (x ∷ done) between all
  given x all own words comes = record {
    first = v.first;
    second = v.second;
    front = v.front ++ own;
    own = [];
    words = words ∙ ap (λ l. v.first ∷ v.second ∷ l) (sym (append-nil (v.front ++ own)));
    title_is = v.title_is;
    version_is = v.version_is;
    before = (v.front, own, refl, v.before, comes);
    unfinished = refl;
  }

  adds : (x : Item) (w : Word) → Comes form done x (v.own ++ w ∷ []) → Valid form (x ∷ done) between (ws ++ w ∷ [])
  adds x w comes = given x (ws ++ w ∷ []) (v.own ++ w ∷ []) (longer w) comes

-- two words of a test, after the words of its naming
two_words : (own front before : List Word) (m w : Word) → own ≡ front ++ m ∷ [] → front ≡ before → own ++ w ∷ [] ≡ before ++ m ∷ w ∷ []
two_words own front before m w e f = ap (λ l. l ++ w ∷ []) (e ∙ ap (λ l. l ++ m ∷ []) f) ∙ append_assoc before (m ∷ []) (w ∷ [])

-- the form's number
version_valid : {done : List Item} {ws : List Word} (w : Word) (o : Option ℕ) → number w.0 ≡ o → TitleRead done ws → Holds (after_version done o) (ws ++ w ∷ [])
version_valid w None e r = tt
version_valid {done} {ws} w (Some n) e r = by (nat_le 1 n && nat_le n 2) (nat_eq n 2) refl refl
  where
    one_or_two : (n : ℕ) (b : Bool) → (nat_le 1 n && nat_le n 2) ≡ true → nat_eq n 2 ≡ b → n ≡ form_number b
    one_or_two n true e f = eqb-true n 2 f
    one_or_two n false e f = grind (arith, nat_tests)

    by : (b form : Bool) → (nat_le 1 n && nat_le n 2) ≡ b → nat_eq n 2 ≡ form → Holds (at_if b (at form done between)) (ws ++ w ∷ [])
    by false form f is = tt
    by true form f is = record {
      first = r.first;
      second = w;
      front = [];
      own = [];
      words = ap (λ l. l ++ w ∷ []) r.words;
      title_is = r.title_is;
      version_is = e ∙ ap Some (one_or_two n form f is);
      before = subst (λ l. AreItems form l []) (sym r.none) refl;
      unfinished = refl;
    }

title_valid : (form : Bool) {done : List Item} {ws : List Word} (w : Word) (b : Bool) → is_title w.0 ≡ b → NothingRead done ws → Holds (after_title form done b) (ws ++ w ∷ [])
title_valid form w false e r = tt
title_valid form w true e r = record { first = w; words = ap (λ l. l ++ w ∷ []) r.words; title_is = e; none = r.none }

module _ {form : Bool} {done : List Item} {ws : List Word} (w : Word) where
  -- a keyword
  begin_valid : (k : Option Key) → key_of w.0 ≡ k → Valid form done between ws → Holds (begin_by form done w.1 k) (ws ++ w ∷ [])
  begin_valid None e v = tt
  begin_valid (Some (One a)) e v = elim (cases_Bool (has_amount a done)) [
    | inl is ↦ rw is tt
    | inr is ↦ rw is (goes v (wants a) w (record { key = w; words = ap (λ l. l ++ w ∷ []) v.unfinished; keyword = e; once = is }))
  ]
  begin_valid (Some Before) e v = goes v (module_for (First w.1)) w (record { key = w; words = ap (λ l. l ++ w ∷ []) v.unfinished; keyword = e; here = refl })
  begin_valid (Some Profile) e v = by form refl
    where
      by : (b : Bool) → form ≡ b → Holds (at_if b (at form done (module_for (Profiled w.1)))) (ws ++ w ∷ [])
      by false is = tt
      by true is = goes v (module_for (Profiled w.1)) w (record { key = w; words = ap (λ l. l ++ w ∷ []) v.unfinished; keyword = e; here = refl; has_form = is })

  amount_valid : (a : Amount) (o : Option ℕ) → number w.0 ≡ o → Valid form done (wants a) ws → Holds (after_amount form done a o) (ws ++ w ∷ [])
  amount_valid a None e v = tt
  amount_valid a (Some n) e v = elim (cases_Bool (is_in_range a n)) [
    | inl is ↦
        let u = v.unfinished in
        rw is (adds v (amount_item a n) w (record { first = u.key; second = w; words = ap (λ l. l ++ w ∷ []) u.words; keyword = u.keyword; value = e; range = is; once = u.once }))
    | inr is ↦ rw is tt
  ]

  module_valid : (n : Naming) (o : Option ℕ) → number w.0 ≡ o → Valid form done (module_for n) ws → Holds (after_module form done n o) (ws ++ w ∷ [])
  module_valid n None e v = tt
  module_valid n (Some m) e v = goes v (test_for n m) w (record { front = v.own; last = w; words = refl; naming = v.unfinished; value = e })

  -- the second word of a test
  test_valid : (n : Naming) (m : ℕ) (o : Option ℕ) → number w.0 ≡ o → Valid form done (test_for n m) ws → Holds (after_test form done n m o) (ws ++ w ∷ [])
  test_valid n m None e v = tt
  test_valid (First line) m (Some t) e v =
      let u = v.unfinished in
      goes v (module_for (Second line (record { «module» = m; test = t }))) w (record {
        key = u.naming.key;
        module_word = u.last;
        test_word = w;
        words = two_words v.own u.front (u.naming.key ∷ []) u.last w u.words u.naming.words;
        keyword = u.naming.keyword;
        here = u.naming.here;
        names = (u.value, e);
      })
  test_valid (Second line a) m (Some t) e v =
      let u = v.unfinished in
      adds v (before_item line a (record { «module» = m; test = t })) w (record {
        first = u.naming.key;
        module_a = u.naming.module_word;
        test_a = u.naming.test_word;
        module_b = u.last;
        test_b = w;
        words = two_words v.own u.front (u.naming.key ∷ u.naming.module_word ∷ u.naming.test_word ∷ []) u.last w u.words u.naming.words;
        keyword = u.naming.keyword;
        here = u.naming.here;
        names_a = u.naming.names;
        names_b = (u.value, e);
      })
  test_valid (Profiled line) m (Some t) e v = by (has_profile id done) refl
    where
      id : TestId
      id = record { «module» = m; test = t }

      by : (b : Bool) → has_profile id done ≡ b → Holds (at_if (not b) (at form done (steps_for line id []))) (ws ++ w ∷ [])
      by true is = tt
      by false is =
          let u = v.unfinished in
          goes v (steps_for line id []) w (record {
            key = u.naming.key;
            module_word = u.last;
            test_word = w;
            pairs = [];
            words = two_words v.own u.front (u.naming.key ∷ []) u.last w u.words u.naming.words;
            keyword = u.naming.keyword;
            here = u.naming.here;
            has_form = u.naming.has_form;
            names = (u.value, e);
            once = is;
            are = refl;
            so_far = tt;
          })

-- ---- steps of a profile

module _ {form : Bool} {done : List Item} {line : ℕ} {id : TestId} {s : ℕ × ℕ} {steps : List (ℕ × ℕ)} {ws : List Word} (v : Valid form done (steps_for line id (s ∷ steps)) ws) where
  profile_ended : Valid form (profile_item line id (s ∷ steps) ∷ done) between ws
  profile_ended =
      let u = v.unfinished in
      given v (profile_item line id (s ∷ steps)) ws v.own v.words (record {
        first = u.key;
        module_word = u.module_word;
        test_word = u.test_word;
        pairs = u.pairs;
        words = u.words;
        keyword = u.keyword;
        here = u.here;
        has_form = u.has_form;
        names = u.names;
        once = u.once;
        are = u.are;
        steps_are = u.so_far;
      })

-- one more step
pairs_more : (ws : List Word) (steps : List (ℕ × ℕ)) (x y : Word) (from power : ℕ) → ArePairs ws steps → number x.0 ≡ Some from → number y.0 ≡ Some power → ArePairs (ws ++ x ∷ y ∷ []) (steps ++ (from, power) ∷ [])
pairs_more ws [] x y from power are e f = (x, y, [], ap (λ l. l ++ x ∷ y ∷ []) are, e, f, refl)
pairs_more ws (s ∷ steps) x y from power are e f =
    (are.0, are.1, are.2 ++ x ∷ y ∷ [], ap (λ l. l ++ x ∷ y ∷ []) are.3, are.4, are.5, pairs_more are.2 steps x y from power are.6 e f)

grow_more : (bound : ℕ) (s : ℕ × ℕ) (steps : List (ℕ × ℕ)) (from power : ℕ) → Grow bound (s ∷ steps) → last_from s.0 steps < from → Grow bound (s ∷ (steps ++ (from, power) ∷ []))
grow_more bound s [] from power g past = (g.0, (omega arith, tt))
grow_more bound s (t ∷ steps) from power g past = (g.0, grow_more (s.0 + 1) t steps from power g.1 past)

so_far_more : (steps : List (ℕ × ℕ)) (from power : ℕ) → SoFar steps → may_follow steps from ≡ true → nat_le power POWER_MOST ≡ true → SoFar (steps ++ (from, power) ∷ [])
so_far_more [] from power so may small =
    let zero_is = eqb-true from 0 may in
    let last : power ≤ POWER_MOST = le_from_true power POWER_MOST small in
    record { begins = (power, [], ap (λ n. (n, power) ∷ []) zero_is); few = omega arith; grows = (omega arith, tt); small = All-push (λ (s : ℕ × ℕ). s.1 ≤ POWER_MOST) [] (from, power) (All-nil (λ (s : ℕ × ℕ). s.1 ≤ POWER_MOST)) last }
so_far_more (s ∷ steps) from power so may small =
    let parts = and_parts (nat_lt (last_from s.0 steps) from) (nat_lt (length (s ∷ steps)) STEPS_MOST) may in
    let few : length (s ∷ steps) < STEPS_MOST = less_from_true (length (s ∷ steps)) STEPS_MOST parts.1 in
    record {
      begins = (so.begins.0, so.begins.1 ++ (from, power) ∷ [], ap (λ l. l ++ (from, power) ∷ []) so.begins.2);
      few = omega (arith, few, length-append steps ((from, power) ∷ []));
      grows = grow_more 0 s steps from power so.grows (less_from_true (last_from s.0 steps) from parts.0);
      small = All-push (λ (s : ℕ × ℕ). s.1 ≤ POWER_MOST) (s ∷ steps) (from, power) so.small (le_from_true power POWER_MOST small);
    }

module _ {form : Bool} {done : List Item} {line : ℕ} {id : TestId} (steps : List (ℕ × ℕ)) {ws : List Word} (w : Word) where
  end_valid : Valid form done (steps_for line id steps) ws → Holds (end_profile form done line id steps w) (ws ++ w ∷ [])
  end_valid v = by steps v
    where
      by : (steps : List (ℕ × ℕ)) → Valid form done (steps_for line id steps) ws → Holds (end_profile form done line id steps w) (ws ++ w ∷ [])
      by [] v = tt
      by (s ∷ steps) v = begin_valid w (key_of w.0) refl (profile_ended v)

  step_valid_steps : (o : Option ℕ) → number w.0 ≡ o → Valid form done (steps_for line id steps) ws → Holds (after_step form done line id steps w o) (ws ++ w ∷ [])
  step_valid_steps None e v = end_valid v
  step_valid_steps (Some n) e v = elim (cases_Bool (may_follow steps n)) [
    | inl is ↦ rw is (goes v (power_for line id steps n) w (record { front = v.own; last = w; words = refl; read = v.unfinished; value = e; may = is }))
    | inr is ↦ rw is tt
  ]

  power_valid : (from : ℕ) (o : Option ℕ) → number w.0 ≡ o → Valid form done (power_for line id steps from) ws → Holds (after_power form done line id steps from o) (ws ++ w ∷ [])
  power_valid from None e v = tt
  power_valid from (Some p) e v = elim (cases_Bool (nat_le p POWER_MOST)) [
    | inl is ↦
        let u = v.unfinished in
        let r = u.read in
        rw is (goes v (steps_for line id (steps ++ (from, p) ∷ [])) w (record {
          key = r.key;
          module_word = r.module_word;
          test_word = r.test_word;
          pairs = r.pairs ++ u.last ∷ w ∷ [];
          words = two_words v.own u.front (r.key ∷ r.module_word ∷ r.test_word ∷ r.pairs) u.last w u.words r.words;
          keyword = r.keyword;
          here = r.here;
          has_form = r.has_form;
          names = r.names;
          once = r.once;
          are = pairs_more r.pairs steps u.last w from p r.are u.value e;
          so_far = so_far_more steps from p r.so_far u.may is;
        }))
    | inr is ↦ rw is tt
  ]

step_valid : (form : Bool) (done : List Item) (part : Part) (ws : List Word) (w : Word) → StateIs form done part ws → Holds (step_at form done part w) (ws ++ w ∷ [])
step_valid form done title ws w v = title_valid form w (is_title w.0) refl v
step_valid form done version ws w v = version_valid w (number w.0) refl v
step_valid form done between ws w v = begin_valid w (key_of w.0) refl v
step_valid form done (wants a) ws w v = amount_valid w a (number w.0) refl v
step_valid form done (module_for n) ws w v = module_valid w n (number w.0) refl v
step_valid form done (test_for n m) ws w v = test_valid w n m (number w.0) refl v
step_valid form done (steps_for line id steps) ws w v = step_valid_steps steps w (number w.0) refl v
step_valid form done (power_for line id steps from) ws w v = power_valid steps w from (number w.0) refl v

next_valid : (o : Option State) (ws : List Word) (w : Word) → Holds o ws → Holds (step_from o w) (ws ++ w ∷ [])
next_valid None ws w h = tt
next_valid (Some s) ws w h = step_valid s.form s.done s.part ws w h

run_valid : (o : Option State) (before ws : List Word) → Holds o before → Holds (run o ws) (before ++ ws)
run_valid o before [] h = rw append-nil h
run_valid o before (w ∷ ws) h =
    subst (λ l. Holds (run (step_from o w) ws) l) (append_assoc before (w ∷ []) ws) (run_valid (step_from o w) (before ++ w ∷ []) ws (next_valid o before w h))

-- what is read word by word is so
pub read_valid : (ws : List Word) → Holds (run (Some start) ws) ws
read_valid ws = run_valid (Some start) [] ws (record { words = refl; none = refl })

-- ---- the end of the words

whole : {form : Bool} {done items : List Item} {ws : List Word} → Valid form done between ws → done ≡ items → has_amount Wires items ≡ true → IsText form items ws
whole {form} v same wires = record {
  title = v.first;
  version = v.second;
  rest = v.front ++ v.own;
  words = v.words;
  title_is = v.title_is;
  version_is = v.version_is;
  are = subst (λ l. AreItems form l (v.front ++ v.own)) same (rw v.unfinished (rw append-nil v.before));
  wires = wires;
}

-- the words of a state that may end are a text, where wires are given
pub text_of : (form : Bool) (done : List Item) (part : Part) (items : List Item) (ws : List Word) → StateIs form done part ws → ended_at done part ≡ Some items → has_amount Wires items ≡ true → IsText form items ws
text_of form done between items ws v e wires = whole v (same_Some done items e) wires
text_of form done (steps_for line id (s ∷ steps)) items ws v e wires = whole (profile_ended v) (same_Some (profile_item line id (s ∷ steps) ∷ done) items e) wires
text_of form done part items ws v e wires = absurd cc

-- each item has a word
comes_long : (form : Bool) (earlier : List Item) (x : Item) (ws : List Word) → Comes form earlier x ws → 1 ≤ length ws
comes_long form earlier (amount_item a n) ws c = omega (arith, ap length c.words)
comes_long form earlier (before_item line a b) ws c = omega (arith, ap length c.words)
comes_long form earlier (profile_item line id steps) ws c = omega (arith, ap length c.words)

items_long : (form : Bool) (items : List Item) (ws : List Word) → AreItems form items ws → length items ≤ length ws
items_long form [] ws is = omega arith
items_long form (x ∷ earlier) ws is =
    omega (arith, comes_long form earlier x is.1 is.4, items_long form earlier is.0 is.3, ap length is.2, length-append is.0 is.1)

valid_long : {form : Bool} {done : List Item} {part : Part} {ws : List Word} → Valid form done part ws → length done ≤ length ws
valid_long {form} {done} v = omega (arith, items_long form done v.front v.before, ap length v.words, length-append v.front v.own)

-- no more items than words
pub no_more_items : (form : Bool) (done : List Item) (part : Part) (ws : List Word) → StateIs form done part ws → length done ≤ length ws
no_more_items form done title ws v = omega (arith, ap length v.none)
no_more_items form done version ws v = omega (arith, ap length v.none)
no_more_items form done part ws v = valid_long v
