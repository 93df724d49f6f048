-- The rows of a table of packed times.
use Rattle.std.proofs.Common.{◌≡◌, ℕ, ◌+◌, ◌-◌, ◌≤◌, ◌<◌, ◌^◌, Bool, true, false, None, Some, List, [], ◌∷◌, ◌++◌, length, get_or, map, take, refl, ap, ◌∙◌, sym, subst, arith, inl, inr, ◌⊎◌}
use Rattle.std.specs.Prelude.{slice_get, slice_index, nat_eq, not, ◌&&◌, if◌then◌else◌}
use Rattle.std.specs.List.{sum, range_with_len}
use Rattle.std.proofs.lemmas.Bool.{eq-eqb, ne_eqb}
use Rattle.std.proofs.lemmas.List.{length-map, get_or-map, get_or_default, map-append, take_more}
use Rattle.std.proofs.lemmas.List.FromFn.{length-map-range_with_len, get_or-range_with_len, length-range_with_len}
use Rattle.std.proofs.lemmas.Option.{slice_get_cases, slice_get-get_or, slice_get-map, slice_get_within, get_or_from_slice_get}
use Rattle.soc_model.specs.declared.Test.{Test}
use Rattle.soc_model.specs.Chips.{ModuleValue, SocValue, LiveTest, is_live}
use Rattle.soc_model.specs.Modes.{is_tam}
use Rattle.soc_model.specs.Sizes.{test_work}
use Rattle.soc_model.specs.SoundChips.{IsSoundChip}
use Rattle.plan_model.specs.Bounds.{is_of}
use Rattle.plan_model.proofs.SoundChips.{module_size-le}
use Rattle.bound_rules.specs.Sizes.{sizes_of, work_by, works_by}
use Rattle.bound_rules.proofs.Modules.{the_live, only_module, work_by_sizes}
use Rattle.bound_rules.proofs.SoundWork.{module_work-le}
use Rattle.proof_facts.specs.declared.table.ModuleTimes.{ModuleTimes}
use Rattle.proof_facts.specs.Packed.{packed, packed_time, packed_tam_time, self_test_time}
use Rattle.proof_facts.specs.Times.{is_self, tam_times_of, self_times_of, works_of, IsPackingOf}
use Rattle.proof_facts.specs.Tables.{TableValue, RowValue, row_value, row_of, IsTable, IsNextChange, HasChanges}
use Rattle.proof_facts.proofs.TestTimes.{tam_times-le, self_times-le}
use Rattle.common_lemmas.proofs.Lists.{sums_agree}

-- ---- sums over the live tests of one module

elsewhere : (p : ℕ) (l : LiveTest) (n : ℕ) (over : Bool) → (l.place ≡ p → ⊥) → (if over && is_of p l then n else 0) ≡ 0
elsewhere p l n true other = rw (ne_eqb l.place p other) refl
elsewhere p l n false other = refl

pub tam_time_is : (soc : SocValue) (w p : ℕ) (m : ModuleValue) → slice_get soc.modules p ≡ Some m → packed_tam_time soc p w ≡ tam_times_of m w m.tests
tam_time_is soc w p m at =
    only_module (λ l. if l.test.tam && is_of p l then packed_time l.core l.test w else 0) soc p m (λ l other. elsewhere p l (packed_time l.core l.test w) l.test.tam other) at
    ∙ sums_agree (λ t. if is_live t then (if t.tam && is_of p (the_live p m t) then packed_time m t w else 0) else 0) (λ t. if is_tam t then packed_time m t w else 0) m.tests (λ t. each t (is_live t) t.tam)
  where
    each : (t : Test) (live tam : Bool) → (if live then (if tam && nat_eq p p then packed_time m t w else 0) else 0) ≡ (if live && tam then packed_time m t w else 0)
    each t false tam = refl
    each t true true = rw (eq-eqb p p refl) refl
    each t true false = refl

pub self_time_is : (soc : SocValue) (p : ℕ) (m : ModuleValue) → slice_get soc.modules p ≡ Some m → self_test_time soc p ≡ self_times_of m.tests
self_time_is soc p m at =
    only_module (λ l. if not l.test.tam && is_of p l then l.test.patterns else 0) soc p m (λ l other. elsewhere p l l.test.patterns (not l.test.tam) other) at
    ∙ sums_agree (λ t. if is_live t then (if not t.tam && is_of p (the_live p m t) then t.patterns else 0) else 0) (λ t. if is_self t then t.patterns else 0) m.tests (λ t. each t (is_live t) t.tam)
  where
    each : (t : Test) (live tam : Bool) → (if live then (if not tam && nat_eq p p then t.patterns else 0) else 0) ≡ (if live && not tam then t.patterns else 0)
    each t false tam = refl
    each t true false = rw (eq-eqb p p refl) refl
    each t true true = refl

pub works-le : (soc : SocValue) → IsSoundChip soc → (p : ℕ) (m : ModuleValue) → slice_get soc.modules p ≡ Some m → works_of m m.tests ≤ 10 ^ 18
works-le soc sound p m at =
    let same : works_of m m.tests ≡ works_by (sizes_of m) m.tests = sums_agree (λ t. if is_live t then test_work m t else 0) (λ t. if is_live t then work_by (sizes_of m) t else 0) m.tests (λ t. each t (is_live t)) in
    omega (arith, module_work-le soc sound p m at)
  where
    each : (t : Test) (live : Bool) → (if live then test_work m t else 0) ≡ (if live then work_by (sizes_of m) t else 0)
    each t true = sym (work_by_sizes m t)
    each t false = refl

-- ---- the row of a module

-- the module at a place, with its row
pub record HasRow (t : TableValue) (place : ℕ) (row : ModuleTimes) : Type 0 where
  pub m : ModuleValue
  pub at : slice_get t.chip.modules place ≡ Some m
  pub is : row_value row ≡ row_of t.wires m

pub row_at : (t : TableValue) (rows : List ModuleTimes) (place : ℕ) (d : ModuleTimes) → IsTable t rows → place < length t.chip.modules → HasRow t place (get_or rows place d)
row_at t rows place d table within = by (slice_get_cases t.chip.modules place).1
  where
    some_is : (x y : RowValue) → Some x ≡ Some y → x ≡ y
    some_is x y e = cc

    by : ((x : ModuleValue) × (place < length t.chip.modules) × (slice_get t.chip.modules place ≡ Some x) × (get_or t.chip.modules place x ≡ x)) ⊎ ((length t.chip.modules ≤ place) × (slice_get t.chip.modules place ≡ None)) → HasRow t place (get_or rows place d)
    by (inr past) = absurd (omega (arith, past.0))
    by (inl m) =
        let long : length rows ≡ length t.chip.modules = sym (length-map rows row_value) ∙ ap length table.rows_are ∙ length-map t.chip.modules (row_of t.wires) in
        let mine : slice_get (map row_value rows) place ≡ Some (row_value (get_or rows place d)) = slice_get-map row_value rows place ∙ rw (slice_get-get_or rows place d (omega arith)) refl in
        let its : slice_get (map (row_of t.wires) t.chip.modules) place ≡ Some (row_of t.wires m.0) = slice_get-map (row_of t.wires) t.chip.modules place ∙ rw m.2 refl in
        record { m = m.0; at = m.2; is = some_is (row_value (get_or rows place d)) (row_of t.wires m.0) (sym mine ∙ ap (λ l. slice_get l place) table.rows_are ∙ its) }

-- the number for a width in a row from width 1 on
pub in_row : (f : ℕ → ℕ) (wires place d : ℕ) → place < wires → get_or (map f (range_with_len 1 wires)) place d ≡ f (place + 1)
in_row f wires place d few =
    let long : length (range_with_len 1 wires) ≡ wires = length-range_with_len 1 wires in
    let number : get_or (range_with_len 1 wires) place d ≡ place + 1 = get_or-range_with_len 1 wires place d few ∙ omega arith in
    get_or-map f (range_with_len 1 wires) place d d (omega arith) ∙ ap f number

-- the row that a table has at a place
pub row_found : (t v : TableValue) (rows : List ModuleTimes) (place : ℕ) (row : ModuleTimes) → v ≡ t → IsTable v rows → row ≡ get_or rows place row → place < length t.chip.modules → HasRow t place row
row_found t v rows place row same table at within =
    subst (HasRow t place) (sym at) (row_at t rows place row (subst (λ (v : TableValue). IsTable v rows) same table) within)

pub own_is : (t : TableValue) (place : ℕ) (row : ModuleTimes) → HasRow t place row → row.own ≡ self_test_time t.chip place
own_is t place row h = ap (λ (r : RowValue). r.own) h.is ∙ sym (self_time_is t.chip place h.m h.at)

pub own_small : (t : TableValue) (place : ℕ) (row : ModuleTimes) → IsSoundChip t.chip → HasRow t place row → row.own ≤ 10 ^ 18
own_small t place row sound h = omega (arith, ap (λ (r : RowValue). r.own) h.is, self_times-le h.m h.m.tests, works-le t.chip sound place h.m h.at)

pub tam_long : (t : TableValue) (place : ℕ) (row : ModuleTimes) → HasRow t place row → length row.tam.items ≡ t.wires
tam_long t place row h = ap (λ (r : RowValue). length r.tam) h.is ∙ length-map-range_with_len (λ w. tam_times_of h.m w h.m.tests) 1 t.wires

pub packed_long : (t : TableValue) (place : ℕ) (row : ModuleTimes) → HasRow t place row → length row.packed.items ≡ t.wires
packed_long t place row h = ap (λ (r : RowValue). length r.packed) h.is ∙ length-map-range_with_len (packed h.m.chains) 1 t.wires

before : (width : ℕ) → 1 ≤ width → width - 1 + 1 ≡ width
before width some = omega arith

tam_in : (t : TableValue) (place : ℕ) (row : ModuleTimes) → (h : HasRow t place row) → (width n : ℕ) → 1 ≤ width → width ≤ t.wires → n ≡ get_or row.tam.items (width - 1) n → n ≡ tam_times_of h.m width h.m.tests
tam_in t place row h width n some few at =
    at ∙ ap (λ (r : RowValue). get_or r.tam (width - 1) n) h.is ∙ in_row (λ w. tam_times_of h.m w h.m.tests) t.wires (width - 1) n (omega arith) ∙ ap (λ w. tam_times_of h.m w h.m.tests) (before width some)

pub tam_is : (t : TableValue) (place : ℕ) (row : ModuleTimes) → HasRow t place row → (width n : ℕ) → 1 ≤ width → width ≤ t.wires → n ≡ get_or row.tam.items (width - 1) n → n ≡ packed_tam_time t.chip place width
tam_is t place row h width n some few at = tam_in t place row h width n some few at ∙ sym (tam_time_is t.chip width place h.m h.at)

pub tam_small : (t : TableValue) (place : ℕ) (row : ModuleTimes) → IsSoundChip t.chip → HasRow t place row → (width n : ℕ) → 1 ≤ width → width ≤ t.wires → n ≡ get_or row.tam.items (width - 1) n → n ≤ 10 ^ 18
tam_small t place row sound h width n some few at = omega (arith, tam_in t place row h width n some few at, tam_times-le h.m width h.m.tests some, works-le t.chip sound place h.m h.at)

-- ---- the next width with another time

pub changes_found : (t v : TableValue) (rows : List ModuleTimes) (place : ℕ) (row : ModuleTimes) → v ≡ t → IsTable v rows → row ≡ get_or rows place row → place < length t.chip.modules → HasChanges row
changes_found t v rows place row same table at within =
    let table' : IsTable t rows = subst (λ (v : TableValue). IsTable v rows) same table in
    let long : length rows ≡ length t.chip.modules = sym (length-map rows row_value) ∙ ap length table'.rows_are ∙ length-map t.chip.modules (row_of t.wires) in
    subst HasChanges (sym at) (table'.changes place row (omega (arith, within, long)))

tam_at : (t : TableValue) (place : ℕ) (row : ModuleTimes) → HasRow t place row → (n : ℕ) → n < t.wires → slice_index row.tam.items n ≡ packed_tam_time t.chip place (n + 1)
tam_at t place row h n few =
    let long : length row.tam.items ≡ t.wires = tam_long t place row h in
    let there : get_or row.tam.items n 0 ≡ get_or row.tam.items n (get_or row.tam.items n 0) = get_or_default row.tam.items n 0 (get_or row.tam.items n 0) (omega (arith, few, long)) in
    tam_is t place row h (n + 1) (get_or row.tam.items n 0) (omega arith) (omega (arith, few)) (there ∙ ap (λ k. get_or row.tam.items k (get_or row.tam.items n 0)) (back n))
  where
    back : (n : ℕ) → n ≡ n + 1 - 1
    back n = omega arith

-- from one width up to the next with another time the time is the same, and there it isn't
pub record IsNextWidth (t : TableValue) (place width next : ℕ) : Type 0 where
  pub wider : width < next
  pub within : next ≤ t.wires + 1
  pub same : (w : ℕ) → width ≤ w → w < next → packed_tam_time t.chip place w ≡ packed_tam_time t.chip place width
  pub other : next ≤ t.wires → packed_tam_time t.chip place next ≡ packed_tam_time t.chip place width → ⊥

pub next_is : (t : TableValue) (place : ℕ) (row : ModuleTimes) → HasRow t place row → HasChanges row → (width n : ℕ) → 1 ≤ width → width ≤ t.wires → n ≡ get_or row.next.items (width - 1) n → IsNextWidth t place width (n + 1)
next_is t place row h changes width n some few at =
    let long : length row.tam.items ≡ t.wires = tam_long t place row h in
    let found : slice_index row.next.items (width - 1) ≡ n = get_or_default row.next.items (width - 1) 0 n (omega (arith, changes.long, long, some, few)) ∙ sym at in
    let is : IsNextChange row.tam.items (width - 1) n = subst (IsNextChange row.tam.items (width - 1)) found (changes.each (width - 1) (omega (arith, long, some, few))) in
    let here : slice_index row.tam.items (width - 1) ≡ packed_tam_time t.chip place width = tam_at t place row h (width - 1) (omega (arith, some, few)) ∙ ap (packed_tam_time t.chip place) (before width some) in
    record {
      wider = omega (arith, is.after, some);
      within = omega (arith, is.within, long);
      same = λ w from to.
          let some' : 1 ≤ w = omega (arith, some, from) in
          let there : slice_index row.tam.items (w - 1) ≡ packed_tam_time t.chip place w = tam_at t place row h (w - 1) (omega (arith, some', to, is.within, long)) ∙ ap (packed_tam_time t.chip place) (before w some') in
          sym there ∙ is.same (w - 1) (omega (arith, from, some)) (omega (arith, to, some')) ∙ here;
      other = λ less e.
          let there : slice_index row.tam.items n ≡ packed_tam_time t.chip place (n + 1) = tam_at t place row h n (omega (arith, less)) in
          is.other (omega (arith, less, long)) (there ∙ e ∙ sym here);
    }

-- what a test of the module is packed to
pub packing_is : (t : TableValue) (place : ℕ) (row : ModuleTimes) (m : ModuleValue) → HasRow t place row → slice_get t.chip.modules place ≡ Some m → (width n : ℕ) → 1 ≤ width → width ≤ t.wires → n ≡ get_or row.packed.items (width - 1) n →
    IsPackingOf m (record { width = width; packed = n; flops = row.flops })
packing_is t place row m h at width n some few is =
    let found : Some h.m ≡ Some m = sym h.at ∙ at in
    let same : h.m ≡ m = cc in
    record {
      some_wire = some;
      packed_is = is ∙ ap (λ (r : RowValue). get_or r.packed (width - 1) n) h.is ∙ in_row (packed h.m.chains) t.wires (width - 1) n (omega arith) ∙ ap (packed h.m.chains) (before width some) ∙ ap (λ (m : ModuleValue). packed m.chains width) same;
      flops_are = ap (λ (r : RowValue). r.flops) h.is ∙ ap (λ (m : ModuleValue). sum m.chains) same;
    }

pub sound_of : (t v : TableValue) (rows : List ModuleTimes) → v ≡ t → IsTable v rows → IsSoundChip t.chip
sound_of t v rows same table = (subst (λ (v : TableValue). IsTable v rows) same table).sound

pub wires_few : (t v : TableValue) (rows : List ModuleTimes) → v ≡ t → IsTable v rows → t.wires ≤ 256
wires_few t v rows same table = (subst (λ (v : TableValue). IsTable v rows) same table).few_wires

-- ---- how rows are made

pub own_length : (f : ℕ → ℕ) (wires : ℕ) (xs : List ℕ) → xs ≡ map f (range_with_len 1 wires) → length xs ≡ wires
own_length f wires xs is = ap length is ∙ length-map-range_with_len f 1 wires

pub by_own_length : (f : ℕ → ℕ) (wires : ℕ) (xs : List ℕ) → xs ≡ map f (range_with_len 1 wires) → xs ≡ map f (range_with_len 1 (length xs))
by_own_length f wires xs is = is ∙ ap (λ n. map f (range_with_len 1 n)) (sym (own_length f wires xs is))

pub row_made : (wires : ℕ) (m : ModuleValue) (lengths times : List ℕ) (flops own : ℕ) → lengths ≡ map (packed m.chains) (range_with_len 1 wires) → times ≡ map (λ w. tam_times_of m w m.tests) (range_with_len 1 wires) → flops ≡ sum m.chains → own ≡ self_times_of m.tests →
    record { packed = lengths; tam = times; flops = flops; own = own } ≡ row_of wires m
row_made wires m lengths times flops own a b c d = rw (a, b, c, d) refl

pub rows_more : (wires : ℕ) (modules : List ModuleValue) (place : ℕ) (m : ModuleValue) (row : ModuleTimes) (old new : List ModuleTimes) → slice_get modules place ≡ Some m → row_value row ≡ row_of wires m → new ≡ old ++ row ∷ [] → map row_value old ≡ map (row_of wires) (take place modules) →
    map row_value new ≡ map (row_of wires) (take (place + 1) modules)
rows_more wires modules place m row old new at is pushed so_far =
    let within : place < length modules = slice_get_within modules place m at in
    let here : get_or modules place m ≡ m = get_or_from_slice_get modules place m m at in
    ap (map row_value) pushed ∙ map-append row_value old (row ∷ []) ∙ rw (so_far, is) (sym (ap (map (row_of wires)) (take_more modules place m within) ∙ map-append (row_of wires) (take place modules) (get_or modules place m ∷ []) ∙ ap (λ (v : ModuleValue). map (row_of wires) (take place modules) ++ row_of wires v ∷ []) here))

pub flops-fit : (soc : SocValue) → IsSoundChip soc → (p : ℕ) (m : ModuleValue) → slice_get soc.modules p ≡ Some m → sum m.chains < 2 ^ 63
flops-fit soc sound p m at = omega (arith, module_size-le soc sound p m at)
