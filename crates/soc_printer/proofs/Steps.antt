-- A printed text is read item by item.
use Rattle.std.proofs.Common.{◌≡◌, ℕ, ◌+◌, ◌<◌, ◌≤◌, ◌^◌, List, [], ◌∷◌, ◌++◌, Bool, true, false, nat_eq, codes, decimal, None, Some, option_map, refl, sym, ◌∙◌, ap, append_assoc, arith}
use Rattle.std.specs.List.{list_any}
use Rattle.std.proofs.lemmas.Bool.Decides.{nat_tests}
use Rattle.std.proofs.Math.Bool.{and-false}
use Rattle.soc_model.specs.declared.Test.{Test}
use Rattle.soc_model.specs.Chips.{ModuleValue, SocValue}
use Rattle.soc_reader.specs.declared.keys.Key.{Key}
use Rattle.soc_reader.specs.declared.keys.Key.TheVariants.{Module, Test as TestKey}
use Rattle.soc_reader.specs.declared.keys.Subject.{Subject}
use Rattle.soc_reader.specs.declared.keys.Subject.TheVariants.{Chip, OfModule, OfTest}
use Rattle.soc_reader.specs.declared.keys.Shape.TheVariants.{OneNumber, OneFlag}
use Rattle.soc_reader.specs.declared.keys.After.TheVariants.{AfterNumber}
use Rattle.outside.specs.Words.{Word}
use Rattle.soc_reader.specs.Keywords.{key_of}
use Rattle.soc_reader.specs.Table.{Value, count, flag, Item, entry, owner, shape_of, may_repeat, Follows}
use Rattle.soc_reader.specs.Grammar.{open_after, after, after_entry, is_options, opens, is_given, renames, same_subject, row, may_give, Comes, IsText}
use Rattle.soc_reader.specs.Meaning.{chip_of, says, tells, first_wrong, wrong_total, or_else, new_module, new_test, module_says, test_says}
use Rattle.soc_reader.specs.Drafts.{test_numbers}
use Rattle.soc_printer.proofs.PrintedWords.{module-key, test-key, number-decimal, flag-read}
use Rattle.soc_printer.proofs.LastChanges.{IsAbsent, numbers_of, upto, with_last, absent-front, absent-last, last-changed, last-there, test-changed, test-added}
use Rattle.soc_printer.specs.SocText.{flag_word}

-- ---- what was read so far

-- nothing was said of a module
pub record IsUnsaid (n : ℕ) (items : List Item) : Type 0 where
  pub modules : (k : Key) → list_any (is_given (OfModule n) k) items ≡ false
  pub tests : (t : ℕ) (k : Key) → list_any (is_given (OfTest n t) k) items ≡ false
  pub names : (w : List ℕ) → list_any (renames n w) items ≡ false

-- The words but for those that are left are items; their chip is this, none of their totals is wrong, and only of these
-- modules anything was said.
pub record ReadSoFar (whole : SocValue) (all left : List Word) (chip : SocValue) (seen : List ℕ) : Type 0 where
  pub items : List Item
  pub front : List Word
  pub words : all ≡ front ++ left
  pub text : IsText items front
  pub says_chip : chip_of items ≡ chip
  pub totals : first_wrong whole items ≡ None
  pub unsaid : (n : ℕ) → IsAbsent n seen → IsUnsaid n items

-- one more item
unfoldable pub push : (whole : SocValue) (all left left' : List Word) (chip chip' : SocValue) (seen seen' : List ℕ) (s : ReadSoFar whole all left chip seen) (x : Item) (own : List Word) → left ≡ own ++ left' → Comes s.items x own → wrong_total whole x ≡ None → ((n : ℕ) → IsAbsent n seen' → IsUnsaid n (x ∷ s.items)) → says x chip ≡ chip' → ReadSoFar whole all left' chip' seen'
push whole all left left' chip chip' seen seen' s x own split comes right unsaid e = record {
  items = x ∷ s.items;
  front = s.front ++ own;
  words = s.words ∙ ap (λ l. s.front ++ l) split ∙ sym (append_assoc s.front own left');
  text = (s.front, own, refl, s.text, comes);
  says_chip = ap (says x) s.says_chip ∙ e;
  totals = ap (λ o. or_else o (wrong_total whole x)) s.totals ∙ right;
  unsaid = unsaid;
}

-- the module is not the one that is spoken of
pub record IsOther (n : ℕ) (s : Subject) : Type 0 where
  pub modules : same_subject (OfModule n) s ≡ false
  pub tests : (t : ℕ) → same_subject (OfTest n t) s ≡ false

-- In the module m or a test of it: `s` is open, of it nothing was given in rows from `next` on, and of the tests of the
-- module only these were spoken of.
pub record Reading (whole : SocValue) (all left : List Word) (chip : SocValue) (seen : List ℕ) (m : ℕ) (tested : List ℕ) (s : Subject) (next : ℕ) : Type 0 where
  pub so_far : ReadSoFar whole all left chip seen
  pub opened : open_after so_far.items ≡ s
  pub no_options : is_options (after so_far.items) ≡ false
  pub other : (n : ℕ) → IsAbsent n seen → IsOther n s
  pub other_tests : (t : ℕ) → IsAbsent t tested → same_subject (OfTest m t) s ≡ false
  pub untested : (t : ℕ) → IsAbsent t tested → (k : Key) → list_any (is_given (OfTest m t) k) so_far.items ≡ false
  pub keys : (k : Key) → next ≤ row k → list_any (is_given s k) so_far.items ≡ false
  pub module_seen : (n : ℕ) → IsAbsent n seen → nat_eq n m ≡ false

-- ---- entries

-- an entry that leaves open what is open
pub record IsEntry (s : Subject) (k : Key) (v : Value) (kw : List ℕ) (ws : List Word) : Type 0 where
  pub known : key_of false kw ≡ Some k
  pub stands : owner k s ≡ Some s
  pub once : may_repeat k ≡ false
  pub follows : Follows (shape_of k) ws v
  pub stays : opens s k v s ≡ s
  pub no_options : is_options (after_entry k) ≡ false

later_row : (j k next : ℕ) → next ≡ k + 1 → next ≤ j → nat_eq j k ≡ false
later_row j k next e le = grind (arith, nat_tests)

pub entry-step : (whole : SocValue) (all left left' : List Word) (chip chip' : SocValue) (seen : List ℕ) (m : ℕ) (tested : List ℕ) (s : Subject) (next next' line : ℕ) (k : Key) (v : Value) (kw : List ℕ) (ws : List Word)
    → Reading whole all left chip seen m tested s next → left ≡ ((kw, line) ∷ ws) ++ left' → IsEntry s k v kw ws → next ≤ row k → next' ≡ row k + 1 → wrong_total whole (entry s k v) ≡ None → says (entry s k v) chip ≡ chip'
    → Reading whole all left' chip' seen m tested s next'
unfolding push
entry-step whole all left left' chip chip' seen m tested s next next' line k v kw ws r split is from upon right e =
    let items = r.so_far.items in
    let often : may_give s k items ≡ true = rw (is.once, r.keys k from) refl in
    record {
      so_far = push whole all left left' chip chip' seen seen r.so_far (entry s k v) ((kw, line) ∷ ws) split
          (record { first = (kw, line); rest = ws; words = refl; keyword = ap (λ b. key_of b kw) r.no_options ∙ is.known; stands = ap (owner k) r.opened ∙ is.stands; often = often; value = is.follows })
          right
          (λ n absent.
          let old = r.so_far.unsaid n absent in
          let other = r.other n absent in
          record {
            modules = λ j. rw other.modules (old.modules j);
            tests = λ t j. rw (other.tests t) (old.tests t j);
            names = λ w. old.names w;
          })
          e;
      opened = ap (opens s k v) r.opened ∙ is.stays;
      no_options = is.no_options;
      other = r.other;
      other_tests = r.other_tests;
      untested = λ t absent j. rw (r.other_tests t absent) (r.untested t absent j);
      keys = λ j le.
          let other : nat_eq (row j) (row k) ≡ false = later_row (row j) (row k) next' upon le in
          let before : next ≤ row j = omega arith in
          rw other (rw (and-false (same_subject s s)) (r.keys j before));
      module_seen = r.module_seen;
    }

-- ---- numbers and flags

pub number-follows : (n line : ℕ) → n < 10 ^ 12 → Follows OneNumber ((decimal n, line) ∷ []) (count n line)
number-follows n line small = ((decimal n, line), refl, ap (option_map (λ n. count n line)) (number-decimal n small))

pub flag-follows : (f : Bool) (line : ℕ) → Follows OneFlag ((flag_word f, line) ∷ []) (flag f)
flag-follows f line = ((flag_word f, line), refl, ap (option_map flag) (flag-read f))

-- ---- modules

-- the first mention of a module
pub record Begun (whole : SocValue) (all left : List Word) (chip : SocValue) (seen : List ℕ) (m : ℕ) : Type 0 where
  pub reading : Reading whole all left chip seen m [] (OfModule m) 0
  pub named : after reading.so_far.items ≡ AfterNumber
  pub names : (w : List ℕ) → list_any (renames m w) reading.so_far.items ≡ false

pub module-begun : (whole : SocValue) (all left : List Word) (done : List ModuleValue) (m line : ℕ) → ReadSoFar whole all ((codes "Module", line) ∷ (decimal m, line) ∷ left) (upto whole done) (numbers_of done) → m < 10 ^ 12 → IsAbsent m (numbers_of done)
    → Begun whole all left (with_last whole done m (new_module m)) (numbers_of done ++ m ∷ []) m
unfolding push
module-begun whole all left done m line s small absent =
    let unsaid = s.unsaid m absent in
    let x : Item = entry Chip Module (count m line) in
    let seen : List ℕ = numbers_of done ++ m ∷ [] in
    record {
      reading = record {
        so_far = push whole all ((codes "Module", line) ∷ (decimal m, line) ∷ left) left (upto whole done) (with_last whole done m (new_module m)) (numbers_of done) seen s x ((codes "Module", line) ∷ (decimal m, line) ∷ []) refl
            (record { first = (codes "Module", line); rest = (decimal m, line) ∷ []; words = refl; keyword = module-key (is_options (after s.items)); stands = refl; often = refl; value = number-follows m line small })
            refl
            (λ n gone.
            let old = s.unsaid n (absent-front n (numbers_of done) m gone) in
            record { modules = λ k. old.modules k; tests = λ t k. old.tests t k; names = λ w. old.names w })
            (rw absent refl);
        opened = refl;
        no_options = refl;
        other = λ n gone. record { modules = absent-last n (numbers_of done) m gone; tests = λ t. refl };
        other_tests = λ t gone. refl;
        untested = λ t gone k. unsaid.tests t k;
        keys = λ k le. unsaid.modules k;
        module_seen = λ n gone. absent-last n (numbers_of done) m gone;
      };
      named = refl;
      names = λ w. unsaid.names w;
    }

-- a further mention of it
pub module-again : (whole : SocValue) (all left : List Word) (done : List ModuleValue) (last : ModuleValue) (seen : List ℕ) (m : ℕ) (tested : List ℕ) (s : Subject) (next next' line : ℕ)
    → (r : Reading whole all ((codes "Module", line) ∷ (decimal m, line) ∷ left) (with_last whole done m last) seen m tested s next) → m < 10 ^ 12
    → ((k : Key) → next' ≤ row k → list_any (is_given (OfModule m) k) r.so_far.items ≡ false)
    → Reading whole all left (with_last whole done m last) seen m tested (OfModule m) next'
unfolding push
module-again whole all left done last seen m tested s next next' line r small keys =
    let chip = with_last whole done m last in
    record {
      so_far = push whole all ((codes "Module", line) ∷ (decimal m, line) ∷ left) left chip chip seen seen r.so_far (entry Chip Module (count m line)) ((codes "Module", line) ∷ (decimal m, line) ∷ []) refl
          (record { first = (codes "Module", line); rest = (decimal m, line) ∷ []; words = refl; keyword = module-key (is_options (after r.so_far.items)); stands = refl; often = refl; value = number-follows m line small })
          refl
          (λ n gone.
          let old = r.so_far.unsaid n gone in
          record { modules = λ k. old.modules k; tests = λ t k. old.tests t k; names = λ w. old.names w })
          (last-there whole done m last);
      opened = refl;
      no_options = refl;
      other = λ n gone. record { modules = r.module_seen n gone; tests = λ t. refl };
      other_tests = λ t gone. refl;
      untested = λ t gone k. r.untested t gone k;
      keys = λ k le. keys k le;
      module_seen = r.module_seen;
    }

-- an entry of a module
pub module-step : (whole : SocValue) (all left left' : List Word) (done : List ModuleValue) (last : ModuleValue) (seen : List ℕ) (m : ℕ) (tested : List ℕ) (next next' line : ℕ) (k : Key) (v : Value) (kw : List ℕ) (ws : List Word)
    → IsAbsent m (numbers_of done) → Reading whole all left (with_last whole done m last) seen m tested (OfModule m) next → left ≡ ((kw, line) ∷ ws) ++ left' → IsEntry (OfModule m) k v kw ws → next ≤ row k → next' ≡ row k + 1 → wrong_total whole (entry (OfModule m) k v) ≡ None
    → Reading whole all left' (with_last whole done m (module_says k v last)) seen m tested (OfModule m) next'
module-step whole all left left' done last seen m tested next next' line k v kw ws absent r split is from upon right =
    entry-step whole all left left' (with_last whole done m last) (with_last whole done m (module_says k v last)) seen m tested (OfModule m) next next' line k v kw ws r split is from upon right
    (last-changed whole done m (tells (entry (OfModule m) k v)) last absent)

-- ---- tests

-- a test that is new
pub test-begun : (whole : SocValue) (all left : List Word) (done : List ModuleValue) (last : ModuleValue) (seen : List ℕ) (m : ℕ) (next t line : ℕ)
    → IsAbsent m (numbers_of done) → IsAbsent t (test_numbers last.tests) → t < 10 ^ 12
    → Reading whole all ((codes "Test", line) ∷ (decimal t, line) ∷ left) (with_last whole done m last) seen m (test_numbers last.tests) (OfModule m) next
    → Reading whole all left (with_last whole done m (record last { tests = last.tests ++ new_test t ∷ [] })) seen m (test_numbers last.tests ++ t ∷ []) (OfTest m t) 0
unfolding push
test-begun whole all left done last seen m next t line absent new small r =
    let x : Item = entry (OfModule m) TestKey (count t line) in
    let both : says x (with_last whole done m last) ≡ with_last whole done m (record last { tests = last.tests ++ new_test t ∷ [] }) = last-changed whole done m (tells x) last absent ∙ ap (λ ts. with_last whole done m (record last { tests = ts })) (test-added t last.tests new) in
    record {
      so_far = push whole all ((codes "Test", line) ∷ (decimal t, line) ∷ left) left (with_last whole done m last) (with_last whole done m (record last { tests = last.tests ++ new_test t ∷ [] })) seen seen r.so_far x ((codes "Test", line) ∷ (decimal t, line) ∷ []) refl
          (record { first = (codes "Test", line); rest = (decimal t, line) ∷ []; words = refl; keyword = ap (λ b. key_of b (codes "Test")) r.no_options ∙ test-key; stands = ap (owner TestKey) r.opened; often = refl; value = number-follows t line small })
          refl
          (λ n gone.
          let old = r.so_far.unsaid n gone in
          let other = r.module_seen n gone in
          record { modules = λ k. rw other (old.modules k); tests = λ u k. old.tests u k; names = λ w. old.names w })
          both;
      opened = refl;
      no_options = refl;
      other = λ n gone. record { modules = refl; tests = λ u. rw (r.module_seen n gone) refl };
      other_tests = λ u gone. rw (absent-last u (test_numbers last.tests) t gone) (and-false (nat_eq m m));
      untested = λ u gone k. r.untested u (absent-front u (test_numbers last.tests) t gone) k;
      keys = λ k le. r.untested t new k;
      module_seen = r.module_seen;
    }

-- an entry of the last test
pub test-step : (whole : SocValue) (all left left' : List Word) (done : List ModuleValue) (last : ModuleValue) (ts : List Test) (x : Test) (seen : List ℕ) (m : ℕ) (tested : List ℕ) (t next next' line : ℕ) (k : Key) (v : Value) (kw : List ℕ) (ws : List Word)
    → IsAbsent m (numbers_of done) → IsAbsent t (test_numbers ts) → x.number ≡ t
    → Reading whole all left (with_last whole done m (record last { tests = ts ++ x ∷ [] })) seen m tested (OfTest m t) next → left ≡ ((kw, line) ∷ ws) ++ left' → IsEntry (OfTest m t) k v kw ws → next ≤ row k → next' ≡ row k + 1
    → Reading whole all left' (with_last whole done m (record last { tests = ts ++ test_says k v x ∷ [] })) seen m tested (OfTest m t) next'
test-step whole all left left' done last ts x seen m tested t next next' line k v kw ws absent new same r split is from upon =
    let y : Item = entry (OfTest m t) k v in
    entry-step whole all left left' (with_last whole done m (record last { tests = ts ++ x ∷ [] })) (with_last whole done m (record last { tests = ts ++ test_says k v x ∷ [] })) seen m tested (OfTest m t) next next' line k v kw ws r split is from upon refl
    (last-changed whole done m (tells y) (record last { tests = ts ++ x ∷ [] }) absent ∙ ap (λ us. with_last whole done m (record last { tests = us })) (test-changed t (test_says k v) ts x new same))
