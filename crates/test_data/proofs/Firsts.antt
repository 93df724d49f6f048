-- The first of a list that has a misfit, as a loop finds it.
use Rattle.std.proofs.Common.{◌≡◌, inl, inr, ℕ, suc, ◌+◌, ◌<◌, Bool, true, false, ◌&&◌, List, [], ◌∷◌, ◌++◌, length, map, take, drop, get_or, position, not, Option, None, Some, is_some, refl, sym, ◌∙◌, ap, subst, add-one, drop-cons, find, filter, flat_map}
use Rattle.std.specs.List.{list_any, position_or_len}
use Rattle.std.proofs.lemmas.Bool.{cases_Bool}
use Rattle.std.proofs.lemmas.List.{length-map, map-append, take_more}
use Rattle.soc_model.specs.declared.Test.{Test}
use Rattle.soc_model.specs.declared.TestId.{TestId}
use Rattle.soc_model.specs.declared.Module.{Module}
use Rattle.soc_model.specs.Chips.{ModuleValue, SocValue, module_value, same_test}
use Rattle.soc_model.specs.Modes.{is_tam}
use Rattle.soc_model.proofs.Sums.{find_first, find_later}
use Rattle.test_data.specs.declared.Misfit.{Misfit}
use Rattle.test_data.specs.declared.places.TestEntry.{TestEntry}
use Rattle.test_data.specs.DataWords.{EntryValue}
use Rattle.test_data.specs.DataPlaces.{entry_in, entries_in, kept_names}
use Rattle.test_data.specs.Suiting.{wanted_by, name_in, tam_names_in, entry_names, has_name, misnamed_after, first_misnamed, first_missing, wrong_patterns, wrong_bits, first_of, or_else, misfit_of}
use Rattle.test_data.specs.declared.Misfit.TheVariants as misfit

-- the item at a place is the first of the rest
pub item_at : {X : Type 0} (xs : List X) (i : ℕ) (x : X) → i < length xs → x ≡ get_or xs i x → drop i xs ≡ x ∷ drop (i + 1) xs
item_at xs i x h is = rw add-one (drop-cons xs i x h ∙ ap (λ y. y ∷ drop (suc i) xs) (sym is))

-- ---- entries

-- the names of entries are those of their values
pub same_names : (bytes : List ℕ) (es : List TestEntry) → entry_names (entries_in bytes es) ≡ kept_names es
same_names bytes [] = refl
same_names bytes (e ∷ es) = ap (λ ns. e.test ∷ ns) (same_names bytes es)

pub named_among : (es : List TestEntry) (id : TestId) → list_any (λ (e : TestEntry). same_test id e.test) es ≡ has_name (kept_names es) id
named_among [] id = refl
named_among (e ∷ es) id = elim (cases_Bool (same_test id e.test)) [ inl yes' ↦ rw yes' refl | inr no' ↦ rw no' (named_among es id) ]

-- an entry of a name stands at the same place among the values
place_of_name : (bytes : List ℕ) (es : List TestEntry) (id : TestId) → position_or_len (λ (e : EntryValue). same_test id e.test) (entries_in bytes es) ≡ position_or_len (λ (e : TestEntry). same_test id e.test) es
place_of_name bytes [] id = refl
place_of_name bytes (e ∷ es) id = elim (cases_Bool (same_test id e.test)) [ inl yes' ↦ rw yes' refl | inr no' ↦ rw no' (ap (λ v. 1 + v) (place_of_name bytes es id)) ]

pub same_place : (bytes : List ℕ) (es : List TestEntry) (id : TestId) → position (λ (e : TestEntry). same_test id e.test) es ≡ position (λ (e : EntryValue). same_test id e.test) (entries_in bytes es)
same_place bytes es id = rw (place_of_name bytes es id, length-map es (entry_in bytes)) refl

-- ---- names

and_not : (a b : Bool) → b ≡ true → (a && not b) ≡ false
and_not true b e = rw e refl
and_not false b e = refl

name_again : (soc : SocValue) (before ids : List TestId) (id : TestId) → has_name before id ≡ true → Some id ≡ misnamed_after soc before (id ∷ ids)
name_again soc before ids id again = rw (and_not (is_some (wanted_by soc id)) (has_name before id) again) refl

name_right : (soc : SocValue) (before ids : List TestId) (id : TestId) → is_some (wanted_by soc id) ≡ true → has_name before id ≡ false → misnamed_after soc before (id ∷ ids) ≡ misnamed_after soc (before ++ id ∷ []) ids
name_right soc before ids id some new = rw (some, new) refl

rest_of_names : (es : List TestEntry) (i : ℕ) (e : TestEntry) → i < length es → e ≡ get_or es i e → kept_names (drop i es) ≡ e.test ∷ kept_names (drop (i + 1) es)
rest_of_names es i e h is = ap kept_names (item_at es i e h is)

pub again_at : (soc : SocValue) (es : List TestEntry) (i : ℕ) (e : TestEntry) (whole : Option TestId) → i < length es → e ≡ get_or es i e → whole ≡ misnamed_after soc (kept_names (take i es)) (kept_names (drop i es)) →
    has_name (kept_names (take i es)) e.test ≡ true → Some e.test ≡ whole
again_at soc es i e whole h is so_far again =
    name_again soc (kept_names (take i es)) (kept_names (drop (i + 1) es)) e.test again
    ∙ ap (misnamed_after soc (kept_names (take i es))) (sym (rest_of_names es i e h is)) ∙ sym so_far

pub right_at : (soc : SocValue) (es : List TestEntry) (i : ℕ) (e : TestEntry) (whole : Option TestId) → i < length es → e ≡ get_or es i e → whole ≡ misnamed_after soc (kept_names (take i es)) (kept_names (drop i es)) →
    is_some (wanted_by soc e.test) ≡ true → has_name (kept_names (take i es)) e.test ≡ false → whole ≡ misnamed_after soc (kept_names (take (i + 1) es)) (kept_names (drop (i + 1) es))
right_at soc es i e whole h is so_far some new =
    so_far ∙ ap (misnamed_after soc (kept_names (take i es))) (rest_of_names es i e h is)
    ∙ name_right soc (kept_names (take i es)) (kept_names (drop (i + 1) es)) e.test some new
    ∙ ap (λ ns. misnamed_after soc ns (kept_names (drop (i + 1) es)))
    (sym (ap kept_names (take_more es i e h ∙ ap (λ y. take i es ++ y ∷ []) (sym is)) ∙ map-append (λ (e : TestEntry). e.test) (take i es) (e ∷ [])))

-- ---- missing tests

rest_at : {X : Type 0} (xs : List X) (i : ℕ) (d : X) → i < length xs → drop i xs ≡ get_or xs i d ∷ drop (i + 1) xs
rest_at xs i d h = rw add-one (drop-cons xs i d h)

has_entry_at : (p : TestId → Bool) (m : ModuleValue) (ts : List Test) (i : ℕ) (d : Test) → i < length ts → is_tam (get_or ts i d) ≡ true → p (name_in m (get_or ts i d)) ≡ false →
    find p (map (name_in m) (filter is_tam (drop i ts))) ≡ find p (map (name_in m) (filter is_tam (drop (i + 1) ts)))
has_entry_at p m ts i d h tam no' = rw (rest_at ts i d h, tam) (rw no' refl)

has_none_at : (p : TestId → Bool) (m : ModuleValue) (ts : List Test) (i : ℕ) (d : Test) → i < length ts → is_tam (get_or ts i d) ≡ true → p (name_in m (get_or ts i d)) ≡ true →
    Some (name_in m (get_or ts i d)) ≡ find p (map (name_in m) (filter is_tam (drop i ts)))
has_none_at p m ts i d h tam yes' = rw (rest_at ts i d h, tam) (rw yes' refl)

-- where the tests are read from a list that is the same
pub has_entry : (p : TestId → Bool) (m : ModuleValue) (ts us : List Test) (i : ℕ) (d : Test) → us ≡ ts → i < length us → is_tam (get_or us i d) ≡ true → p (name_in m (get_or us i d)) ≡ false →
    find p (map (name_in m) (filter is_tam (drop i ts))) ≡ find p (map (name_in m) (filter is_tam (drop (i + 1) ts)))
has_entry p m ts us i d same h tam no' =
    subst (λ (xs : List Test). find p (map (name_in m) (filter is_tam (drop i xs))) ≡ find p (map (name_in m) (filter is_tam (drop (i + 1) xs)))) same (has_entry_at p m us i d h tam no')

pub has_none : (p : TestId → Bool) (m : ModuleValue) (ts us : List Test) (i : ℕ) (d : Test) → us ≡ ts → i < length us → is_tam (get_or us i d) ≡ true → p (name_in m (get_or us i d)) ≡ true →
    Some (name_in m (get_or us i d)) ≡ find p (map (name_in m) (filter is_tam (drop i ts)))
has_none p m ts us i d same h tam yes' =
    has_none_at p m us i d h tam yes' ∙ ap (λ (xs : List Test). find p (map (name_in m) (filter is_tam (drop i xs)))) same

pub missing_here : (p : TestId → Bool) (it rest : List Module) (m : Module) (id : TestId) → it ≡ m ∷ rest → Some id ≡ find p (tam_names_in (module_value m)) → Some id ≡ find p (flat_map tam_names_in (map module_value it))
missing_here p it rest m id next here = rw next (find_first p (tam_names_in (module_value m)) (flat_map tam_names_in (map module_value rest)) id here)

pub missing_later : (p : TestId → Bool) (it rest : List Module) (m : Module) → it ≡ m ∷ rest → find p (tam_names_in (module_value m)) ≡ None →
    find p (flat_map tam_names_in (map module_value it)) ≡ find p (flat_map tam_names_in (map module_value rest))
missing_later p it rest m next none = rw next (find_later p (tam_names_in (module_value m)) (flat_map tam_names_in (map module_value rest)) none)

-- ---- the first rule that fails

pub by_names : (soc : SocValue) (bytes : List ℕ) (es : List TestEntry) (given : List EntryValue) (id : TestId) → given ≡ entries_in bytes es → Some id ≡ first_misnamed soc (kept_names es) → Some (misfit.Test id) ≡ misfit_of soc given
by_names soc bytes es given id is named = rw (is, same_names bytes es, ← named) refl

pub by_missing : (soc : SocValue) (bytes : List ℕ) (es : List TestEntry) (given : List EntryValue) (id : TestId) → given ≡ entries_in bytes es → first_misnamed soc (kept_names es) ≡ None → Some id ≡ first_missing soc (kept_names es) →
    Some (misfit.Test id) ≡ misfit_of soc given
by_missing soc bytes es given id is named missing = rw (is, same_names bytes es, named, ← missing) refl

pub by_others : (soc : SocValue) (bytes : List ℕ) (es : List TestEntry) (given : List EntryValue) → given ≡ entries_in bytes es → first_misnamed soc (kept_names es) ≡ None → first_missing soc (kept_names es) ≡ None →
    or_else (first_of (wrong_patterns soc) (entries_in bytes es)) (first_of (wrong_bits soc) (entries_in bytes es)) ≡ misfit_of soc given
by_others soc bytes es given is named missing = rw (is, same_names bytes es, named, missing) refl

pub first_is : (a b : Option Misfit) (m : Misfit) → a ≡ Some m → Some m ≡ or_else a b
first_is a b m e = rw e refl

pub other_is : (a b : Option Misfit) → a ≡ None → b ≡ or_else a b
other_is a b e = rw e refl
