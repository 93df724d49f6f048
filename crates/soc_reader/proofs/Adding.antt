-- What is known after one item more is put in.
use Rattle.std.proofs.Common.{◌≡◌, ◌∙◌, sym, ap, subst, ℕ, List, ◌&&◌, ◌||◌, Bool, true, false, nat_eq, refl, not}
use Rattle.soc_model.specs.Chips.{soc_value}
use Rattle.soc_reader.specs.declared.kept.ItemsSoFar.{ItemsSoFar}
use Rattle.soc_reader.specs.declared.keys.Key.{Key}
use Rattle.soc_reader.specs.declared.keys.Key.TheVariants.{SocName, TotalModules, Options, PowerFlag, XyFlag, Module, TotalTests, Test, ScanUse, TamUse, Patterns, Power}
use Rattle.soc_reader.specs.declared.keys.Subject.{Subject}
use Rattle.soc_reader.specs.declared.keys.Subject.TheVariants.{Chip, OfModule, OfTest}
use Rattle.soc_reader.specs.declared.keys.After.TheVariants.{Elsewhere}
use Rattle.soc_reader.specs.Table.{Value, nothing, lengths, Item, entry, may_repeat}
use Rattle.soc_reader.specs.Grammar.{opens, opens_item, after_entry, after_item, gives_xy, row, same_subject, renames}
use Rattle.soc_reader.specs.Marks.{is_marked}
use Rattle.soc_reader.specs.Meaning.{says}
use Rattle.soc_reader.specs.declared.build.Draft.{Draft}
use Rattle.soc_reader.specs.Drafts.{IsIndexed}
use Rattle.soc_reader.specs.Names.{name_in, is_other_name}
use Rattle.soc_reader.specs.ItemsValue.{ItemsValue, add, is_given_once, is_of_test, is_total, with_total}
use Rattle.soc_reader.specs.Views.{known_of, totals_of, WentOn}

pub known-same : (a b : ItemsValue) → a.opened ≡ b.opened → a.place ≡ b.place → a.xy ≡ b.xy → ((s : Subject) (k : Key) → a.given s k ≡ b.given s k) → ((m : ℕ) (w : List ℕ) → a.renamed m w ≡ b.renamed m w) → a.chip ≡ b.chip → a.totals ≡ b.totals → a ≡ b
known-same a b opened place xy given renamed chip totals =
    λ i. record {
      opened = opened i;
      place = place i;
      xy = xy i;
      given = λ s k. given s k i;
      renamed = λ m w. renamed m w i;
      chip = chip i;
      totals = totals i;
    }

-- each part is that with the item
pub kept-added : (x : Item) (old new : ItemsSoFar) → new.opened ≡ opens_item x old.opened → new.after ≡ after_item x → new.xy ≡ (gives_xy x || old.xy)
    → ((s : Subject) (k : Key) → (not (may_repeat k) && is_marked s k new.given) ≡ (is_given_once s k x || (not (may_repeat k) && is_marked s k old.given)))
    → ((m : ℕ) (w : List ℕ) → is_other_name (name_in new.names m) w ≡ (renames m w x || is_other_name (name_in old.names m) w))
    → soc_value new.draft.soc ≡ says x (soc_value old.draft.soc) → totals_of new.totals.items ≡ with_total x (totals_of old.totals.items) → known_of new ≡ add x (known_of old)
unfolding known_of add
kept-added x old new opened place xy given renamed chip totals = known-same (known_of new) (add x (known_of old)) opened place xy given renamed chip totals

-- each part goes on behind the item
pub went-added : (x : Item) (old mid new : ItemsSoFar) → WentOn x mid new → mid.opened ≡ old.opened → mid.xy ≡ old.xy → mid.totals ≡ old.totals → mid.names ≡ old.names → mid.given ≡ old.given
    → ((m : ℕ) (w : List ℕ) → false ≡ renames m w x)
    → soc_value mid.draft.soc ≡ says x (soc_value old.draft.soc) → known_of new ≡ add x (known_of old)
went-added x old mid new went opened xy totals names given unnamed chip =
    kept-added x old new
    (went.opened ∙ ap (opens_item x) opened)
    went.place
    (went.xy ∙ ap (λ b. gives_xy x || b) xy)
    (λ s k. went.given s k ∙ ap (λ g. is_given_once s k x || (not (may_repeat k) && is_marked s k g)) given)
    (λ m w. ap (λ n. is_other_name (name_in n m) w) (went.names ∙ names) ∙ ap (λ b. b || is_other_name (name_in old.names m) w) (unnamed m w))
    (ap (λ (d : Draft). soc_value d.soc) went.draft ∙ chip)
    (went.totals ∙ ap (λ ts. with_total x (totals_of ts.items)) totals)

pub went-indexed : (x : Item) (mid new : ItemsSoFar) → WentOn x mid new → IsIndexed mid.draft → IsIndexed new.draft
went-indexed x mid new went indexed = let P : Draft → Type 0 = λ d. IsIndexed d in subst P (sym went.draft) indexed

opens-alike : (s : Subject) (k : Key) (ns : List ℕ) (o : Subject) → opens s k nothing o ≡ opens s k (lengths ns) o
opens-alike s SocName ns o = refl
opens-alike s TotalModules ns o = refl
opens-alike s Options ns o = refl
opens-alike s PowerFlag ns o = refl
opens-alike s XyFlag ns o = refl
opens-alike s Module ns o = refl
opens-alike Chip Test ns o = refl
opens-alike (OfModule m) Test ns o = refl
opens-alike (OfTest m t) Test ns o = refl
opens-alike s k ns o = refl

xy-alike : (s : Subject) (k : Key) (ns : List ℕ) → gives_xy (entry s k nothing) ≡ gives_xy (entry s k (lengths ns))
xy-alike s XyFlag ns = refl
xy-alike s k ns = refl

bare-no_total : (s : Subject) (k : Key) → is_total (entry s k nothing) ≡ false
bare-no_total Chip TotalModules = refl
bare-no_total (OfModule m) TotalTests = refl
bare-no_total s k = refl

list-no_total : (s : Subject) (k : Key) (ns : List ℕ) → is_total (entry s k (lengths ns)) ≡ false
list-no_total Chip TotalModules ns = refl
list-no_total (OfModule m) TotalTests ns = refl
list-no_total s k ns = refl

no_total-more : (x : Item) (totals : List Item) → is_total x ≡ false → with_total x totals ≡ totals
no_total-more x totals e = rw e refl

-- a list goes on as nothing does
pub list-went : (s : Subject) (k : Key) (ns : List ℕ) (old new : ItemsSoFar) → WentOn (entry s k nothing) old new → WentOn (entry s k (lengths ns)) old new
list-went s k ns old new went = record {
  draft = went.draft;
  given = went.given;
  names = went.names;
  opened = went.opened ∙ opens-alike s k ns old.opened;
  place = went.place;
  xy = went.xy ∙ ap (λ b. b || old.xy) (xy-alike s k ns);
  totals = went.totals ∙ no_total-more (entry s k nothing) (totals_of old.totals.items) (bare-no_total s k) ∙ sym (no_total-more (entry s k (lengths ns)) (totals_of old.totals.items) (list-no_total s k ns));
}

-- the subject by another name
pub added-of : (s u : Subject) (k : Key) (v : Value) (old new : ItemsValue) → s ≡ u → new ≡ add (entry u k v) old → new ≡ add (entry s k v) old
added-of s u k v old new same is = is ∙ ap (λ (w : Subject). add (entry w k v) old) (sym same)

-- what may be given once was given now, or before
pub once_more : (s u : Subject) (k j : Key) (v : Value) (before now : Bool) → now ≡ ((same_subject s u && nat_eq (row k) (row j)) || before) → (not (may_repeat k) && now) ≡ (is_given_once s k (entry u j v) || (not (may_repeat k) && before))
once_more s u k j v before now e = by (may_repeat k)
  where
    by : (b : Bool) → (not b && now) ≡ ((not b && (same_subject s u && nat_eq (row k) (row j))) || (not b && before))
    by true = refl
    by false = e

-- an item that gives nothing
pub none_more : (once before : Bool) → (once && before) ≡ ((once && false) || (once && before))
none_more true before = refl
none_more false before = refl

-- ---- the keywords that say something of a test

pub test-opens : (k : Key) → is_of_test k ≡ true → (s : Subject) (v : Value) (opened : Subject) → opened ≡ opens s k v opened
test-opens ScanUse e s v opened = refl
test-opens TamUse e s v opened = refl
test-opens Patterns e s v opened = refl
test-opens Power e s v opened = refl
test-opens k e s v opened = cc

pub test-after : (k : Key) → is_of_test k ≡ true → Elsewhere ≡ after_entry k
test-after ScanUse e = refl
test-after TamUse e = refl
test-after Patterns e = refl
test-after Power e = refl
test-after k e = cc

pub test-no_xy : (k : Key) → is_of_test k ≡ true → (s : Subject) (v : Value) (before : Bool) → before ≡ (gives_xy (entry s k v) || before)
test-no_xy ScanUse e s v before = refl
test-no_xy TamUse e s v before = refl
test-no_xy Patterns e s v before = refl
test-no_xy Power e s v before = refl
test-no_xy k e s v before = cc
