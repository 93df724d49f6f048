-- The places of the tests of a chip, and of the precedences that items say.
use Rattle.std.proofs.Common.{◌≡◌, ◌≢◌, ℕ, suc, add-one, zero-add, ◌+◌, ◌<◌, ◌⊎◌, inl, inr, Bool, true, false, ◌&&◌, ◌||◌, not, cond, List, [], ◌∷◌, ◌++◌, length, get_or, map, set, replicate, take, drop, reverse, option_map, Option, None, Some, is_some, nat_eq, nat_lt, position, slice_get, refl, sym, ap, ◌∙◌, subst, arith, if◌then◌else◌, flat_map, Contains, Err}
use Rattle.std.specs.List.{list_any, position_or_len, range_with_len}
use Rattle.std.proofs.Math.Seq.{drop-cons}
use Rattle.std.proofs.lemmas.Bool.{cases_eq, cases_Bool, eqb-true}
use Rattle.std.proofs.lemmas.Bool.Decides.{nat_tests}
use Rattle.std.proofs.lemmas.Grind.{flat_map-append}
use Rattle.std.proofs.lemmas.List.{take_more, map-append, append-nil, nil_from_length, reverse-append, reverse-reverse, length-replicate, length-set, get_or-replicate, get_or-set_same, get_or-set_other, same_lists}
use Rattle.std.proofs.lemmas.List.Folds.{list_any-append}
use Rattle.std.proofs.lemmas.List.FromFn.{get_or-map-range_with_len, length-map-range_with_len}
use Rattle.std.proofs.lemmas.Option.{slice_get-map, get_or_from_slice_get, same_Some}
use Rattle.soc_model.specs.declared.Module.{Module}
use Rattle.soc_model.specs.declared.Soc.{Soc}
use Rattle.soc_model.specs.declared.Test.{Test}
use Rattle.soc_model.specs.declared.TestId.{TestId}
use Rattle.soc_model.specs.Chips.{SocValue, module_value, soc_value, same_test}
use Rattle.soc_model.specs.Lookups.{test_places, module_place}
use Rattle.soc_model.proofs.Places.{slice_get-from_position, test_places-at}
use Rattle.plan_model.specs.Plans.{LimitsValue}
use Rattle.plan_model.specs.Rules.{live_ids}
use Rattle.plan_model.specs.SoundLimits.{IsAcyclic}
use Rattle.live_tests.specs.Names.{places_of, both_places, precedences}
use Rattle.limits_text.specs.declared.places.Row.{Row}
use Rattle.limits_text.specs.declared.items.Amount.{Amount}
use Rattle.limits_text.specs.declared.items.Amount.TheVariants.{Wires, Power, Budget}
use Rattle.limits_text.specs.Items.{Item, amount_item, before_item, profile_item}
use Rattle.limits_text.proofs.FirstLoops.{acyclic}
use Rattle.limits_text.specs.Meaning.{limits_of, is_known, line_if, unknown_line, or_first, first_line}
use Rattle.limits_text.specs.Places.{entry_of, row_of, entries_in, AreRows, named, pair_of, names_test, Notes, StopsAt}
use Rattle.limits_text.specs.Views.{item_of}
use Rattle.limits_text.specs.Answers.{LimitsRead}
use Rattle.limits_text.specs.Grammar.{IsText}
use Rattle.limits_text.specs.declared.LimFault.{LimFault}
use Rattle.limits_text.specs.declared.items.Item.{Item as ReadItem}
use Rattle.limits_text.proofs.OneAnswer.{unknown_said}
use Rattle.outside.specs.Words.{words_of}
use Rattle.common_lemmas.proofs.Tests.{same_number}
use Rattle.common_lemmas.proofs.Lists.{from_map, contains_at}
use Rattle.limits_text.specs.declared.LimFault.TheVariants as fault

-- one item more of a list that is mapped
pub map_more : {X Y : Type 0} (f : X → Y) (xs : List X) (k : ℕ) (d x : X) (ys : List Y) → ys ≡ map f (take k xs) → k < length xs → x ≡ get_or xs k d → ys ++ f x ∷ [] ≡ map f (take (k + 1) xs)
map_more f xs k d x ys so_far within is =
    ap (λ l. l ++ f x ∷ []) so_far ∙ ap (λ z. map f (take k xs) ++ f z ∷ []) is ∙ sym (map-append f (take k xs) (get_or xs k d ∷ [])) ∙ ap (map f) (sym (take_more xs k d within))

-- ---- what is noted of a module's numbers

none_less : (n : ℕ) → nat_lt 0 (suc n) ≡ true
none_less n = grind (arith, nat_tests)

one_less : (m n : ℕ) → nat_lt (1 + m) (suc n) ≡ nat_lt m n
one_less m n = grind (arith, nat_tests)

found_within : {X : Type 0} (p : X → Bool) (xs : List X) → nat_lt (position_or_len p xs) (length xs) ≡ list_any p xs
found_within p [] = refl
found_within p (x ∷ xs) = elim (cases_Bool (p x)) [
  | inl e ↦ rw e (none_less (length xs))
  | inr e ↦ rw e (one_less (position_or_len p xs) (length xs) ∙ (found_within p xs))
]

said_if : {X Y : Type 0} (b : Bool) (x : X) (y : Y) → option_map (λ (x : X). y) (cond b (Some x) None) ≡ (if b then Some y else None)
said_if true x y = refl
said_if false x y = refl

-- what is said of a found item but not of its place
said_found : {X Y : Type 0} (p : X → Bool) (xs : List X) (y : Y) → option_map (λ (n : ℕ). y) (position p xs) ≡ (if list_any p xs then Some y else None)
said_found p xs y = said_if (nat_lt (position_or_len p xs) (length xs)) (position_or_len p xs) y ∙ ap (λ b. if b then Some y else None) (found_within p xs)

said_twice : {X Y Z : Type 0} (f : X → Y) (z : Z) (o : Option X) → option_map (λ (y : Y). z) (option_map f o) ≡ option_map (λ (x : X). z) o
said_twice f z None = refl
said_twice f z (Some x) = refl

other_eq : (a b : ℕ) → a ≢ b → nat_eq a b ≡ false
other_eq a b other = grind (arith, nat_tests)

-- a list that is known place by place
filled : {X : Type 0} (f : ℕ → X) (xs : List X) (n : ℕ) → length xs ≡ n → ((k : ℕ) (d : X) → k < n → get_or xs k d ≡ f k) → xs ≡ map f (range_with_len 0 n)
filled f xs n long each =
    same_lists xs (map f (range_with_len 0 n)) (long ∙ sym (length-map-range_with_len f 0 n))
    (λ k d h. let less : k < n = omega (arith, h, long) in each k d less ∙ sym (get_or-map-range_with_len f 0 n k k d less (zero-add k)))

-- before the first test
pub none_noted : (ids : List TestId) (number n : ℕ) → replicate n None ≡ map (entry_of ids number []) (range_with_len 0 n)
none_noted ids number n = filled (entry_of ids number []) (replicate n None) n (length-replicate n None) (λ k d h. get_or-replicate n k None d h)

same_entry : {Y : Type 0} (a b : Bool) (y : Y) → (if a || (b || false) then Some y else None) ≡ (if b then Some y else (if a then Some y else None))
same_entry true true y = refl
same_entry true false y = refl
same_entry false true y = refl
same_entry false false y = refl

module _ (ids : List TestId) (number : ℕ) where
  -- one test more says of its number alone
  entry_more : (tests : List Test) (t : Test) (n : ℕ)
      → entry_of ids number (tests ++ t ∷ []) n ≡ (if nat_eq n t.number then Some (position (same_test (record { «module» = number; test = n })) ids) else entry_of ids number tests n)
  entry_more tests t n =
      ap (λ b. if b then Some (position (same_test (record { «module» = number; test = n })) ids) else None) (list_any-append (λ (t : Test). nat_eq n t.number) tests (t ∷ []))
      ∙ same_entry (list_any (λ (t : Test). nat_eq n t.number) tests) (nat_eq n t.number) (position (same_test (record { «module» = number; test = n })) ids)

  -- what is noted after one test more
  noted_more : (count : ℕ) (tests : List Test) (t : Test) (entries : List (Option (Option ℕ)))
      → entries ≡ map (entry_of ids number tests) (range_with_len 0 count)
      → set entries t.number (Some (position (same_test (record { «module» = number; test = t.number })) ids)) ≡ map (entry_of ids number (tests ++ t ∷ [])) (range_with_len 0 count)
  noted_more count tests t entries so_far = filled (entry_of ids number (tests ++ t ∷ [])) (set entries t.number y) count (length-set entries t.number y ∙ long) each
    where
      y : Option (Option ℕ)
      y = Some (position (same_test (record { «module» = number; test = t.number })) ids)

      long : length entries ≡ count
      long = ap length so_far ∙ length-map-range_with_len (entry_of ids number tests) 0 count

      by : (k : ℕ) (d : Option (Option ℕ)) → k < count → (k ≡ t.number) ⊎ (k ≢ t.number) → get_or (set entries t.number y) k d ≡ entry_of ids number (tests ++ t ∷ []) k
      by k d h (inl same) =
          ap (λ j. get_or (set entries t.number y) j d) same ∙ get_or-set_same entries t.number y d (omega (arith, h, same, long))
          ∙ ap (λ b. if b then y else entry_of ids number tests t.number) (sym (same_number t.number)) ∙ sym (entry_more tests t t.number) ∙ ap (entry_of ids number (tests ++ t ∷ [])) (sym same)
      by k d h (inr other) =
          get_or-set_other entries t.number k y d other ∙ ap (λ l. get_or l k d) so_far ∙ get_or-map-range_with_len (entry_of ids number tests) 0 count k k d h (zero-add k)
          ∙ ap (λ b. if b then Some (position (same_test (record { «module» = number; test = k })) ids) else entry_of ids number tests k) (sym (other_eq k t.number other)) ∙ sym (entry_more tests t k)

      each : (k : ℕ) (d : Option (Option ℕ)) → k < count → get_or (set entries t.number y) k d ≡ entry_of ids number (tests ++ t ∷ []) k
      each k d h = by k d h (cases_eq k t.number)

  pub noted_next : (count : ℕ) (tests : List Test) (i : ℕ) (d : Test) (entries new : List (Option (Option ℕ)))
      → entries ≡ map (entry_of ids number (take i tests)) (range_with_len 0 count) → i < length tests
      → new ≡ set entries (get_or tests i d).number (Some (position (same_test (record { «module» = number; test = (get_or tests i d).number })) ids))
      → new ≡ map (entry_of ids number (take (i + 1) tests)) (range_with_len 0 count)
  noted_next count tests i d entries new so_far within is =
      is ∙ noted_more count (take i tests) (get_or tests i d) entries so_far ∙ ap (λ l. map (entry_of ids number l) (range_with_len 0 count)) (sym (take_more tests i d within))

-- the row of a module that is found
pub record IsRowOf (ids : List TestId) (soc : Soc) (rows : List Row) (number p : ℕ) : Type 0 where
  pub row : Row
  pub row_at : slice_get rows p ≡ Some row
  pub «module» : Module
  pub module_at : slice_get (soc_value soc).modules p ≡ Some (module_value «module»)
  pub entries : row.by_number.items ≡ row_of ids (number, «module»)

module _ (ids : List TestId) (soc : Soc) (rows : List Row) where
  row_found : (number p : ℕ) → AreRows ids soc rows → module_place (soc_value soc) number ≡ Some p → IsRowOf ids soc rows number p
  row_found number p are at =
      let es = soc.modules.entries in
      let entry = from_map (λ (e : ℕ × Module). e.0) es p number (slice_get-from_position (soc_value soc).keys number p at) in
      let row = from_map entries_in rows p (row_of ids entry.0) (ap (λ l. slice_get l p) are ∙ slice_get-map (row_of ids) es p ∙ ap (option_map (row_of ids)) entry.1) in
      record {
        row = row.0;
        row_at = row.1;
        «module» = (entry.0).1;
        module_at = slice_get-map (λ (e : ℕ × Module). module_value e.1) es p ∙ ap (option_map (λ (e : ℕ × Module). module_value e.1)) entry.1;
        entries = row.2 ∙ ap (λ n. row_of ids (n, (entry.0).1)) entry.2;
      }

  -- what the row of a test's module has of its number
  pub noted_of : (id : TestId) (p : ℕ) (row : Row) (entries : List (Option (Option ℕ))) (noted : Option (Option ℕ)) → AreRows ids soc rows
      → module_place (soc_value soc) id.«module» ≡ Some p → row ≡ get_or rows p row → entries ≡ row.by_number.items → id.test < length entries
      → noted ≡ get_or entries id.test noted → noted ≡ option_map (λ (p : ℕ × ℕ). position (same_test id) ids) (test_places (soc_value soc) id)
  noted_of id p row entries noted are at is are_its within there =
      let found = row_found id.«module» p are at in
      let tests = found.«module».tests.items in
      let f = entry_of ids id.«module» tests in
      let known : entries ≡ map f (range_with_len 0 (length tests + 1)) = are_its ∙ ap (λ (r : Row). r.by_number.items) (is ∙ get_or_from_slice_get rows p found.row row found.row_at) ∙ found.entries in
      let less : id.test < length tests + 1 = subst (λ (n : ℕ). id.test < n) (ap length known ∙ length-map-range_with_len f 0 (length tests + 1)) within in
      there ∙ ap (λ l. get_or l id.test noted) known ∙ get_or-map-range_with_len f 0 (length tests + 1) id.test id.test noted less (zero-add id.test)
      ∙ sym (said_found (λ (t : Test). nat_eq id.test t.number) tests (position (same_test id) ids))
      ∙ sym (said_twice (λ (n : ℕ). (p, n)) (position (same_test id) ids) (position (λ (t : Test). nat_eq id.test t.number) tests))
      ∙ ap (option_map (λ (p : ℕ × ℕ). position (same_test id) ids)) (sym (test_places-at (soc_value soc) id p (module_value found.«module») at found.module_at))

-- ---- the precedences of items

amount_before : (earlier : List Item) (a : Amount) (n : ℕ) → (limits_of (amount_item a n ∷ earlier)).before ≡ (limits_of earlier).before
amount_before earlier Wires n = refl
amount_before earlier Power n = refl
amount_before earlier Budget n = refl

module _ (soc : SocValue) where
  -- one item more
  told_more : (earlier : List Item) (x : Item) → flat_map (places_of (live_ids soc)) (limits_of (x ∷ earlier)).before ≡ flat_map (places_of (live_ids soc)) (limits_of earlier).before ++ pair_of soc x
  told_more earlier (amount_item a n) = ap (flat_map (places_of (live_ids soc))) (amount_before earlier a n) ∙ sym (append-nil (flat_map (places_of (live_ids soc)) (limits_of earlier).before))
  told_more earlier (before_item line a b) =
      flat_map-append (places_of (live_ids soc)) (limits_of earlier).before ((a, b) ∷ []) ∙ ap (λ l. flat_map (places_of (live_ids soc)) (limits_of earlier).before ++ l) (append-nil (places_of (live_ids soc) (a, b)))
  told_more earlier (profile_item line id steps) = sym (append-nil (flat_map (places_of (live_ids soc)) (limits_of earlier).before))

  told_by : (earlier : List Item) → flat_map (places_of (live_ids soc)) (limits_of earlier).before ≡ flat_map (pair_of soc) (reverse earlier)
  told_by [] = refl
  told_by (x ∷ earlier) =
      told_more earlier x ∙ ap (λ l. l ++ pair_of soc x) (told_by earlier) ∙ ap (λ l. flat_map (pair_of soc) (reverse earlier) ++ l) (sym (append-nil (pair_of soc x)))
      ∙ sym (flat_map-append (pair_of soc) (reverse earlier) (x ∷ [])) ∙ ap (flat_map (pair_of soc)) (sym (reverse-append (x ∷ []) earlier))

  -- the places that are noted of items are the precedences of the limits that they say
  pub noted_told : (items : List Item) (limits : LimitsValue) (pairs : List (ℕ × ℕ)) → limits ≡ limits_of (reverse items) → pairs ≡ flat_map (pair_of soc) items → pairs ≡ precedences soc limits
  noted_told items limits pairs is noted =
      noted ∙ ap (flat_map (pair_of soc)) (sym (reverse-reverse items)) ∙ sym (told_by (reverse items)) ∙ ap (λ (l : LimitsValue). flat_map (places_of (live_ids soc)) l.before) (sym is)

-- ---- what is noted of an item

-- what a look-up says of the chip
unknown_if : {X Y : Type 0} (f : X → Y) (o : Option X) → option_map f o ≡ None → is_some o ≡ false
unknown_if f None e = refl
unknown_if f (Some x) e = cc

known_if : {X Y : Type 0} (y z : Y) (o : Option X) → option_map (λ x. y) o ≡ Some z → (is_some o ≡ true) × (z ≡ y)
known_if y z None e = cc
known_if y z (Some x) e = (refl, sym (same_Some y z e))

-- the line of an item, by whether its tests are known
line_first : (x y : Bool) (line : ℕ) → x ≡ false → line_if (not (x && y)) line ≡ Some line
line_first x y line e = rw e refl

line_second : (x y : Bool) (line : ℕ) → y ≡ false → line_if (not (x && y)) line ≡ Some line
line_second true y line e = rw e refl
line_second false y line e = refl

line_none : (x y : Bool) (line : ℕ) → x ≡ true → y ≡ true → line_if (not (x && y)) line ≡ None
line_none x y line e f = rw (e, f) refl

line_one : (x b : Bool) (line : ℕ) → x ≡ b → line_if (not x) line ≡ line_if (not b) line
line_one x b line e = ap (λ (v : Bool). line_if (not v) line) e

module _ (soc : SocValue) (line : ℕ) (a b : TestId) (o : Option (Option ℕ)) where
  pub first_unknown_of : o ≡ named soc a → o ≡ None → unknown_line soc (before_item line a b) ≡ Some line
  first_unknown_of is none = line_first (is_known soc a) (is_known soc b) line (unknown_if (λ (p : ℕ × ℕ). position (same_test a) (live_ids soc)) (test_places soc a) (sym is ∙ none))

  pub second_unknown_of : o ≡ named soc b → o ≡ None → unknown_line soc (before_item line a b) ≡ Some line
  second_unknown_of is none = line_second (is_known soc a) (is_known soc b) line (unknown_if (λ (p : ℕ × ℕ). position (same_test b) (live_ids soc)) (test_places soc b) (sym is ∙ none))

  pub both_known : (p : Option (Option ℕ)) (i j : Option ℕ) → o ≡ named soc a → p ≡ named soc b → o ≡ Some i → p ≡ Some j
      → (unknown_line soc (before_item line a b) ≡ None) × (pair_of soc (before_item line a b) ≡ both_places i j)
  both_known p i j is_a is_b at_a at_b =
      let x = known_if (position (same_test a) (live_ids soc)) i (test_places soc a) (sym is_a ∙ at_a) in
      let y = known_if (position (same_test b) (live_ids soc)) j (test_places soc b) (sym is_b ∙ at_b) in
      (line_none (is_known soc a) (is_known soc b) line x.0 y.0, sym (ap (λ m. both_places m j) x.1 ∙ ap (both_places (position (same_test a) (live_ids soc))) y.1))

same_some : {X Y : Type 0} (f : X → Y) (o : Option X) → is_some o ≡ is_some (option_map f o)
same_some f None = refl
same_some f (Some x) = refl

same_known : (soc : SocValue) (id : TestId) (o : Option (Option ℕ)) → o ≡ named soc id → is_known soc id ≡ is_some o
same_known soc id o is = same_some (λ (p : ℕ × ℕ). position (same_test id) (live_ids soc)) (test_places soc id) ∙ ap is_some (sym is)

module _ (soc : SocValue) (line : ℕ) (id : TestId) (steps : List (ℕ × ℕ)) (o : Option (Option ℕ)) where
  pub profile_unknown : o ≡ named soc id → o ≡ None → unknown_line soc (profile_item line id steps) ≡ Some line
  profile_unknown is none = line_one (is_known soc id) false line (same_known soc id o is ∙ ap is_some none)

  pub profile_known : (p : Option ℕ) → o ≡ named soc id → o ≡ Some p → unknown_line soc (profile_item line id steps) ≡ None
  profile_known p is some = line_one (is_known soc id) true line (same_known soc id o is ∙ ap is_some some)

module _ (soc : SocValue) (line : ℕ) (a b : TestId) (o p : Option (Option ℕ)) (i j : Option ℕ) where
  -- a precedence of tests of the chip, of which one isn't live, or both are
  pub known_first : (old : List (ℕ × ℕ)) → o ≡ named soc a → p ≡ named soc b → o ≡ Some i → p ≡ Some j → i ≡ None
      → (unknown_line soc (before_item line a b) ≡ None) × (old ≡ old ++ pair_of soc (before_item line a b))
  known_first old is_a is_b at_a at_b none =
      let both = both_known soc line a b o p i j is_a is_b at_a at_b in
      (both.0, sym (ap (λ l. old ++ l) (both.1 ∙ ap (λ m. both_places m j) none) ∙ append-nil old))

  pub known_second : (m : ℕ) (old : List (ℕ × ℕ)) → o ≡ named soc a → p ≡ named soc b → o ≡ Some i → p ≡ Some j → i ≡ Some m → j ≡ None
      → (unknown_line soc (before_item line a b) ≡ None) × (old ≡ old ++ pair_of soc (before_item line a b))
  known_second m old is_a is_b at_a at_b some none =
      let both = both_known soc line a b o p i j is_a is_b at_a at_b in
      (both.0, sym (ap (λ l. old ++ l) (both.1 ∙ ap (λ m. both_places m j) some ∙ ap (both_places (Some m)) none) ∙ append-nil old))

  pub known_both : (m n : ℕ) (old new : List (ℕ × ℕ)) → o ≡ named soc a → p ≡ named soc b → o ≡ Some i → p ≡ Some j → i ≡ Some m → j ≡ Some n
      → new ≡ old ++ (m, n) ∷ [] → (unknown_line soc (before_item line a b) ≡ None) × (new ≡ old ++ pair_of soc (before_item line a b))
  known_both m n old new is_a is_b at_a at_b first second pushed =
      let both = both_known soc line a b o p i j is_a is_b at_a at_b in
      (both.0, pushed ∙ sym (ap (λ l. old ++ l) (both.1 ∙ ap (λ m. both_places m j) first ∙ ap (both_places (Some m)) second)))

-- ---- what is noted of items

module _ (soc : SocValue) (items rest : List Item) (x : Item) where
  pub note_goes : first_line soc items ≡ first_line soc (x ∷ rest) → unknown_line soc x ≡ None → first_line soc items ≡ first_line soc rest
  note_goes so_far known = so_far ∙ ap (λ o. or_first o (first_line soc rest)) known

  pub note_stops : (old new : List (ℕ × ℕ)) (f : LimFault) → first_line soc items ≡ first_line soc (x ∷ rest) → Notes soc x old new (Err f) → StopsAt soc items f
  note_stops old new (fault.Text line) so_far notes = notes
  note_stops old new (fault.UnknownTest line) so_far notes = so_far ∙ ap (λ o. or_first o (first_line soc rest)) notes
  note_stops old new (fault.Cycle tests) so_far notes = notes
  note_stops old new (fault.TestPower test power) so_far notes = notes
  note_stops old new fault.NoMemory so_far notes = tt

-- the items from one on
pub items_step : (items : List ReadItem) (k : ℕ) (x : ReadItem) → k < length items → x ≡ get_or items k x → map item_of (drop k items) ≡ item_of x ∷ map item_of (drop (k + 1) items)
items_step items k x within is =
    ap (map item_of) (drop-cons items k x within) ∙ ap (λ (z : ReadItem). item_of z ∷ map item_of (drop (suc k) items)) (sym is) ∙ ap (λ n. item_of x ∷ map item_of (drop n items)) (sym (add-one k))

module _ (soc : SocValue) where
  -- the pairs of one item more
  pub pairs_more : (items : List ReadItem) (k : ℕ) (d x : ReadItem) (old new : List (ℕ × ℕ)) → old ≡ flat_map (pair_of soc) (map item_of (take k items))
      → k < length items → x ≡ get_or items k d → new ≡ old ++ pair_of soc (item_of x) → new ≡ flat_map (pair_of soc) (map item_of (take (k + 1) items))
  pairs_more items k d x old new so_far within is added =
      added ∙ ap (λ l. l ++ pair_of soc (item_of x)) so_far ∙ ap (λ l. flat_map (pair_of soc) (map item_of (take k items)) ++ l) (sym (append-nil (pair_of soc (item_of x))))
      ∙ sym (flat_map-append (pair_of soc) (map item_of (take k items)) (item_of x ∷ [])) ∙ ap (flat_map (pair_of soc)) (map_more item_of items k d x (map item_of (take k items)) refl within is)

  -- where no item names a test
  pub none_named : (items : List Item) → list_any names_test items ≡ false → (first_line soc items ≡ None) × (flat_map (pair_of soc) items ≡ [])
  none_named [] e = (refl, refl)
  none_named (amount_item a n ∷ items) e = none_named items e
  none_named (before_item line a b ∷ items) e = absurd cc
  none_named (profile_item line id steps ∷ items) e = absurd cc

  -- without a precedence there is no loop
  pub no_loop : (limits : LimitsValue) (pairs : List (ℕ × ℕ)) → nat_eq (length pairs) 0 ≡ true → pairs ≡ precedences soc limits → IsAcyclic soc limits
  no_loop limits pairs none is =
      let empty : precedences soc limits ≡ [] = sym is ∙ nil_from_length pairs (eqb-true (length pairs) 0 none) in
      acyclic soc limits ((λ i. 0), λ i j there. absurd (nothing i j (contains_at {X = ℕ × ℕ} [] (i, j) (subst (λ (ps : List (ℕ × ℕ)). Contains ps (i, j)) empty there))))
    where
      nothing : (i j : ℕ) → (k : ℕ) × (slice_get {X = ℕ × ℕ} [] k ≡ Some (i, j)) → ⊥
      nothing i j at = cc

-- what is answered of a text of which a test isn't in the chip
pub noted_said : (bytes : List ℕ) (soc : SocValue) (form : Bool) (items : List Item) (f : LimFault) → IsText form (reverse items) (words_of bytes) → StopsAt soc items f → LimitsRead bytes soc (Err f)
noted_said bytes soc form items (fault.Text line) text noted = absurd noted
noted_said bytes soc form items (fault.UnknownTest line) text noted = unknown_said bytes soc form items line text noted
noted_said bytes soc form items (fault.Cycle tests) text noted = absurd noted
noted_said bytes soc form items (fault.TestPower test power) text noted = absurd noted
noted_said bytes soc form items fault.NoMemory text noted = tt
