-- What is known of items goes along with the items.
use Rattle.std.proofs.Common.{◌≡◌, ℕ, zero, suc, List, [], ◌∷◌, ◌++◌, Bool, true, false, ◌&&◌, ◌||◌, Option, None, Some, option_map, refl, sym, ◌∙◌, ap, not, filter}
use Rattle.std.specs.List.{list_any}
use Rattle.soc_reader.specs.declared.keys.Key.{Key}
use Rattle.soc_reader.specs.declared.keys.Key.TheVariants.{TotalModules, TotalTests}
use Rattle.soc_reader.specs.declared.keys.Subject.{Subject}
use Rattle.soc_reader.specs.declared.keys.Subject.TheVariants.{Chip, OfModule, OfTest}
use Rattle.soc_reader.specs.declared.keys.Shape.{Shape}
use Rattle.soc_reader.specs.declared.keys.Shape.TheVariants.{NoWord, OneWord, OneNumber, OneFlag, ManyNumbers}
use Rattle.soc_reader.specs.declared.keys.After.{After}
use Rattle.soc_reader.specs.declared.keys.After.TheVariants.{AfterOptions, AfterNumber, AfterData, Elsewhere}
use Rattle.outside.specs.Words.{Word}
use Rattle.soc_model.specs.Chips.{SocValue}
use Rattle.soc_reader.specs.Keywords.{key_of, is_lengths_word, is_free_word, is_coordinate, number}
use Rattle.soc_reader.specs.Table.{Value, nothing, count, lengths, Item, entry, name, place_data, coordinate, owner, shape_of, word_value, may_repeat}
use Rattle.soc_reader.specs.Grammar.{after, is_options, open_after, is_given, may_give, may_name}
use Rattle.soc_reader.specs.Meaning.{first_wrong, or_else, wrong_total}
use Rattle.soc_reader.specs.ItemsValue.{ItemsValue, known_by, add, is_total, of_known, may_give as known_may_give}
use Rattle.soc_reader.specs.Steps.{Part, between, wants, counted, listing, wants_coordinate, name_or_data, StateOf, State, start, of_list, at, begun, begin_if, begin_entry, begin_name, begin_data, is_data_word, begin_free, begin_word, is_data, begin_by, begin, after_value, list_from, after_many, after_length, step_value, step_counted, step_listing, step_name, step_at, step, run, closed_if, closed_at}
use Rattle.soc_reader.specs.Reads.{nothing_known}
use Rattle.soc_reader.proofs.TotalFacts.{or_else-none}

abbrev pub state_by : State → StateOf ItemsValue
state_by s = record { done = known_by s.done; part = s.part }

abbrev pub by_state : Option State → Option (StateOf ItemsValue)
by_state None = None
by_state (Some s) = Some (state_by s)

-- ---- what is asked

add-known : (x : Item) (done : List Item) → add x (known_by done) ≡ known_by (x ∷ done)
unfolding add known_by
add-known x done = refl

added : (x : Item) (done : List Item) (part : Part) → at (add x (known_by done)) part ≡ by_state (at (x ∷ done) part)
added x done part = ap (λ d. at d part) (add-known x done)

give-known : (s : Subject) (k : Key) (done : List Item) → known_may_give s k (known_by done) ≡ may_give s k done
unfolding known_by
give-known s k done = by (may_repeat k)
  where
    by : (b : Bool) → (b || not (list_any (λ x. not b && is_given s k x) done)) ≡ (b || not (list_any (is_given s k) done))
    by true = refl
    by false = refl

-- ---- each step

if-known : (b : Bool) (o : Option State) (p : Option (StateOf ItemsValue)) → p ≡ by_state o → begin_if b p ≡ by_state (begin_if b o)
if-known true o p e = e
if-known false o p e = refl

begun-known : (done : List Item) (s : Subject) (k : Key) (shape : Shape) → begun of_known (known_by done) s k shape ≡ by_state (begun of_list done s k shape)
begun-known done s k NoWord = added (entry s k nothing) done between
begun-known done s k OneWord = refl
begun-known done s k OneNumber = refl
begun-known done s k OneFlag = refl
begun-known done s k ManyNumbers = refl

entry-known : (done : List Item) (k : Key) (o : Option Subject) → begin_entry of_known (known_by done) k o ≡ by_state (begin_entry of_list done k o)
entry-known done k None = refl
entry-known done k (Some s) =
    ap (λ b. begin_if b (begun of_known (known_by done) s k (shape_of k))) (give-known s k done)
    ∙ if-known (may_give s k done) (begun of_list done s k (shape_of k)) (begun of_known (known_by done) s k (shape_of k)) (begun-known done s k (shape_of k))

name-known : (done : List Item) (m : ℕ) (w : List ℕ) (b : Bool) → begin_name of_known (known_by done) m w b ≡ by_state (begin_name of_list done m w b)
unfolding known_by
name-known done m w true = refl
name-known done m w false = if-known (may_name m w done) (at (name m w ∷ done) between) (at (add (name m w) (known_by done)) between) (added (name m w) done between)

data-known : (done : List Item) (b : Bool) (s : Subject) → begin_data (known_by done) b s ≡ by_state (begin_data done b s)
data-known done b Chip = refl
data-known done b (OfModule m) = if-known b (at done wants_coordinate) (at (known_by done) wants_coordinate) refl
data-known done b (OfTest m t) = if-known b (at done wants_coordinate) (at (known_by done) wants_coordinate) refl

free-known : (done : List Item) (w : List ℕ) (a : After) (s : Subject) → begin_free of_known (known_by done) w a s ≡ by_state (begin_free of_list done w a s)
unfolding known_by
free-known done w AfterNumber (OfModule m) = name-known done m w (is_data_word of_list done w)
free-known done w AfterNumber Chip = data-known done (is_data_word of_list done w) Chip
free-known done w AfterNumber (OfTest m t) = data-known done (is_data_word of_list done w) (OfTest m t)
free-known done w AfterOptions s = data-known done (is_data_word of_list done w) s
free-known done w AfterData s = data-known done (is_data_word of_list done w) s
free-known done w Elsewhere s = data-known done (is_data_word of_list done w) s

word-known : (done : List Item) (w : List ℕ) (b : Bool) → begin_word of_known (known_by done) w b ≡ by_state (begin_word of_list done w b)
unfolding known_by
word-known done w true = added coordinate done between
word-known done w false =
    if-known (is_free_word w) (begin_free of_list done w (after done) (open_after done)) (begin_free of_known (known_by done) w (after done) (open_after done)) (free-known done w (after done) (open_after done))

key-known : (done : List Item) (w : List ℕ) (o : Option Key) → begin_by of_known (known_by done) w o ≡ by_state (begin_by of_list done w o)
unfolding known_by
key-known done w (Some k) = entry-known done k (owner k (open_after done))
key-known done w None = word-known done w (is_data (after done) && is_coordinate w)

begin-known : (done : List Item) (w : List ℕ) → begin of_known (known_by done) w ≡ by_state (begin of_list done w)
unfolding known_by
begin-known done w = key-known done w (key_of (is_options (after done)) w)

-- the first word of an item behind one more
behind : (x : Item) (done : List Item) (w : List ℕ) → begin of_known (add x (known_by done)) w ≡ by_state (begin of_list (x ∷ done) w)
behind x done w = ap (λ d. begin of_known d w) (add-known x done) ∙ begin-known (x ∷ done) w

value-known : (done : List Item) (s : Subject) (k : Key) (o : Option Value) → after_value of_known (known_by done) s k o ≡ by_state (after_value of_list done s k o)
value-known done s k None = refl
value-known done s k (Some v) = added (entry s k v) done between

list-known : (done : List Item) (s : Subject) (k : Key) (read : List ℕ) (left : ℕ) → list_from of_known (known_by done) s k read left ≡ by_state (list_from of_list done s k read left)
list-known done s k read zero = added (entry s k (lengths read)) done between
list-known done s k read (suc left) = refl

many-known : (done : List Item) (s : Subject) (k : Key) (o : Option ℕ) → after_many (known_by done) s k o ≡ by_state (after_many done s k o)
many-known done s k None = refl
many-known done s k (Some n) = refl

length-known : (done : List Item) (s : Subject) (k : Key) (read : List ℕ) (left : ℕ) (o : Option ℕ) → after_length of_known (known_by done) s k read left o ≡ by_state (after_length of_list done s k read left o)
length-known done s k read left None = refl
length-known done s k read left (Some n) = list-known done s k (read ++ n ∷ []) left

shape-known : (done : List Item) (s : Subject) (k : Key) (shape : Shape) (w : Word) → step_value of_known (known_by done) s k shape w ≡ by_state (step_value of_list done s k shape w)
shape-known done s k ManyNumbers w = many-known done s k (number w.0)
shape-known done s k NoWord w = refl
shape-known done s k OneWord w = value-known done s k (word_value OneWord w)
shape-known done s k OneNumber w = value-known done s k (word_value OneNumber w)
shape-known done s k OneFlag w = value-known done s k (word_value OneFlag w)

counted-known : (done : List Item) (s : Subject) (k : Key) (n : ℕ) (w : List ℕ) (b : Bool) → step_counted of_known (known_by done) s k n w b ≡ by_state (step_counted of_list done s k n w b)
counted-known done s k n w true = list-known done s k [] n
counted-known done s k zero w false = behind (entry s k (lengths [])) done w
counted-known done s k (suc n) w false = length-known done s k [] n (number w)

listing-known : (done : List Item) (s : Subject) (k : Key) (read : List ℕ) (left : ℕ) (w : List ℕ) → step_listing of_known (known_by done) s k read left w ≡ by_state (step_listing of_list done s k read left w)
listing-known done s k read zero w = refl
listing-known done s k read (suc left) w = length-known done s k read left (number w)

name_or_data-known : (done : List Item) (m : ℕ) (v w : List ℕ) (b : Bool) → step_name of_known (known_by done) m v w b ≡ by_state (step_name of_list done m v w b)
unfolding known_by
name_or_data-known done m v w true = added place_data done between
name_or_data-known done m v w false = if-known (may_name m v done) (begin of_list (name m v ∷ done) w) (begin of_known (add (name m v) (known_by done)) w) (behind (name m v) done w)

part-known : (done : List Item) (part : Part) (w : Word) → step_at of_known (known_by done) part w ≡ by_state (step_at of_list done part w)
part-known done between w = begin-known done w.0
part-known done (wants s k shape) w = shape-known done s k shape w
part-known done (counted s k n) w = counted-known done s k n w.0 (is_lengths_word w.0)
part-known done (listing s k read left) w = listing-known done s k read left w.0
part-known done wants_coordinate w = if-known (is_coordinate w.0) (at (place_data ∷ done) between) (at (add place_data (known_by done)) between) (added place_data done between)
part-known done (name_or_data m v) w = name_or_data-known done m v w.0 (is_coordinate w.0)

run-known : (o : Option State) (ws : List Word) → run of_known (by_state o) ws ≡ by_state (run of_list o ws)
run-known o [] = refl
run-known None (w ∷ ws) = run-known None ws
run-known (Some s) (w ∷ ws) = ap (λ p. run of_known p ws) (part-known s.done s.part w) ∙ run-known (step of_list s w) ws

-- ---- the end

closed_if-known : (b : Bool) (done : List Item) (d : ItemsValue) → d ≡ known_by done → closed_if b d ≡ option_map known_by (closed_if b done)
closed_if-known true done d e = ap Some e
closed_if-known false done d e = refl

closed-known : (done : List Item) (part : Part) → closed_at of_known (known_by done) part ≡ option_map known_by (closed_at of_list done part)
unfolding known_by
closed-known done between = refl
closed-known done (wants s k shape) = refl
closed-known done (counted s k zero) = ap Some (add-known (entry s k (lengths [])) done)
closed-known done (counted s k (suc n)) = refl
closed-known done (listing s k read left) = refl
closed-known done wants_coordinate = refl
closed-known done (name_or_data m v) = closed_if-known (may_name m v done) (name m v ∷ done) (add (name m v) (known_by done)) (add-known (name m v) done)

-- ---- from what is known to the items

pub record Behind (ws : List Word) (d : StateOf ItemsValue) : Type 0 where
  pub state : State
  pub run_is : run of_list (Some start) ws ≡ Some state
  pub known : state_by state ≡ d

some_of : (o : Option State) (d : StateOf ItemsValue) → by_state o ≡ Some d → (s : State) × (o ≡ Some s) × (state_by s ≡ d)
some_of None d e = cc
some_of (Some s) d e = (s, refl, same (state_by s) d e)
  where
    same : (a b : StateOf ItemsValue) → Some a ≡ Some b → a ≡ b
    same a b e = cc

-- what is known of words is known of items
pub items_behind : (ws : List Word) (d : StateOf ItemsValue) → run of_known (Some nothing_known) ws ≡ Some d → Behind ws d
items_behind ws d is =
    let s = some_of (run of_list (Some start) ws) d (sym (run-known (Some start) ws) ∙ is) in
    record { state = s.0; run_is = s.1; known = s.2 }

none_of : (o : Option State) → by_state o ≡ None → o ≡ None
none_of None e = refl
none_of (Some s) e = cc

-- a word that what is known refuses
pub step_refused : (s : State) (d : StateOf ItemsValue) (w : Word) → state_by s ≡ d → step of_known d w ≡ None → step of_list s w ≡ None
step_refused s d w same is = none_of (step of_list s w) (sym (part-known s.done s.part w) ∙ ap (λ e. step of_known e w) same ∙ is)

-- an end that what is known refuses
pub end_refused : (s : State) (d : StateOf ItemsValue) → state_by s ≡ d → closed_at of_known d.done d.part ≡ None → closed_at of_list s.done s.part ≡ None
end_refused s d same is = none (closed_at of_list s.done s.part) (sym (closed-known s.done s.part) ∙ ap (λ (e : StateOf ItemsValue). closed_at of_known e.done e.part) same ∙ is)
  where
    none : (o : Option (List Item)) → option_map known_by o ≡ None → o ≡ None
    none None e = refl
    none (Some items) e = cc

-- the items of an end
pub end_items : (s : State) (d : StateOf ItemsValue) (whole : ItemsValue) → state_by s ≡ d → closed_at of_known d.done d.part ≡ Some whole → (items : List Item) × (closed_at of_list s.done s.part ≡ Some items) × (known_by items ≡ whole)
end_items s d whole same is = some (closed_at of_list s.done s.part) (sym (closed-known s.done s.part) ∙ ap (λ (e : StateOf ItemsValue). closed_at of_known e.done e.part) same ∙ is)
  where
    inner : (a b : ItemsValue) → Some a ≡ Some b → a ≡ b
    inner a b e = cc

    some : (o : Option (List Item)) → option_map known_by o ≡ Some whole → (items : List Item) × (o ≡ Some items) × (known_by items ≡ whole)
    some None e = cc
    some (Some items) e = (items, refl, inner (known_by items) whole e)

-- ---- what is known of whole items

-- an item that is no total is wrong nowhere
no_total : (c : SocValue) (x : Item) → is_total x ≡ false → wrong_total c x ≡ None
no_total c (entry Chip TotalModules (count n line)) e = cc
no_total c (entry (OfModule m) TotalTests (count n line)) e = cc
no_total c x e = refl

wrong_more : (c : SocValue) (x : Item) (items : List Item) (b : Bool) → is_total x ≡ b → first_wrong c (filter is_total items) ≡ first_wrong c items → first_wrong c (filter is_total (x ∷ items)) ≡ first_wrong c (x ∷ items)
wrong_more c x items true e rest = rw e (ap (λ o. or_else o (wrong_total c x)) rest)
wrong_more c x items false e rest = rw (e, no_total c x e) (rest ∙ sym (or_else-none (first_wrong c items)))

-- the first wrong total is among the totals
pub first_of_totals : (c : SocValue) (items : List Item) → first_wrong c (filter is_total items) ≡ first_wrong c items
first_of_totals c [] = refl
first_of_totals c (x ∷ items) = wrong_more c x items (is_total x) refl (first_of_totals c items)
