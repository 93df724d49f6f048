-- What a chain holds, and what a capture leaves in it, cell by cell.
use Rattle.std.proofs.Common.{◌≡◌, ℕ, zero, suc, ◌+◌, ◌-◌, ◌≤◌, ◌<◌, ◌⊎◌, Bool, true, false, true≢false, not, List, [], ◌∷◌, length, get_or, refl, ap, sym, ◌∙◌, arith, inl, inr, ◌||◌, slice_index}
use Rattle.std.proofs.lemmas.List.{same_lists}
use Rattle.std.proofs.lemmas.Bool.{cases_lt}
use Rattle.plan_model.specs.Cells.{Cell, In, is_loaded, is_read, in_length}
use Rattle.plan_model.specs.Runs.{captured}
use Rattle.plan_model.proofs.ChainShifts.{get_or-captured, length-captured}
use Rattle.bit_machine.specs.Chips.{same_bit, chain_holds}
use Rattle.vector_lines.specs.declared.path.Path.{Path}
use Rattle.vector_lines.specs.Paths.{IsPath}
use Rattle.bit_machine.specs.Lanes.{path_stimulus, path_response}
use Rattle.vector_lines.specs.Made.{made_from}
use Rattle.common_lemmas.proofs.Lists.{any_default}
use Rattle.common_lemmas.proofs.Tests.{and_false}
use mathlib.Core.Bool.{beq}

-- ---- what a chain holds

same_bit_itself : (b : Bool) → same_bit b b ≡ true
same_bit_itself true = refl
same_bit_itself false = refl

same_bit_differs : (a b : Bool) → (a ≡ b → ⊥) → same_bit a b ≡ false
same_bit_differs true true e = absurd (e refl)
same_bit_differs true false e = refl
same_bit_differs false true e = refl
same_bit_differs false false e = absurd (e refl)

module _ (f : Cell → Bool) where
  pub holds_true : (cells : List Cell) (bits : List Bool) → length bits ≡ length cells →
      ((r : ℕ) → r < length cells → is_loaded (get_or cells r (In 0)) ≡ true → get_or bits r false ≡ f (get_or cells r (In 0))) →
      chain_holds f cells bits ≡ true
  holds_true [] bits long each = refl
  holds_true (x ∷ cells) [] long each = absurd (omega arith)
  holds_true (x ∷ cells) (b ∷ bits) long each = rw (here (is_loaded x) refl) (holds_true cells bits (omega arith) (λ r h loaded. each (suc r) (omega arith) loaded)) where
    here : (l : Bool) → is_loaded x ≡ l → (not (is_loaded x) || same_bit b (f x)) ≡ true
    here true e = let same = each 0 (omega arith) e in rw (e, same) (same_bit_itself (f x))
    here false e = rw e refl

  holds_false : (cells : List Cell) (bits : List Bool) (r : ℕ) → length bits ≡ length cells → r < length cells →
      is_loaded (get_or cells r (In 0)) ≡ true → (get_or bits r false ≡ f (get_or cells r (In 0)) → ⊥) → chain_holds f cells bits ≡ false
  holds_false [] bits r long h loaded differs = absurd (omega arith)
  holds_false (x ∷ cells) [] r long h loaded differs = absurd (omega arith)
  holds_false (x ∷ cells) (b ∷ bits) zero long h loaded differs = rw (loaded, same_bit_differs b (f x) differs) refl
  holds_false (x ∷ cells) (b ∷ bits) (suc r) long h loaded differs =
      let later = holds_false cells bits r (omega arith) (omega arith) loaded differs in
      rw later (and_false (not (is_loaded x) || same_bit b (f x)))

module _ (base k : ℕ) {inputs : ℕ} {lengths : List ℕ} {cells : List Cell} {p : Path} (bits : List Bool) (is : IsPath inputs lengths cells p)
    (all : length bits ≡ p.cells) where
  pub path_holds : ((r : ℕ) → r < length p.loads → get_or bits r false ≡ made_from base k (slice_index p.loads r) 0) →
      true ≡ chain_holds (path_stimulus base inputs lengths k) cells bits
  path_holds each = sym (holds_true (path_stimulus base inputs lengths k) cells bits (all ∙ is.long) (λ r h loaded. here r h loaded (cases_lt r (in_length cells)))) where
    here : (r : ℕ) → r < length cells → is_loaded (get_or cells r (In 0)) ≡ true → (r < in_length cells) ⊎ (in_length cells ≤ r) → get_or bits r false ≡ path_stimulus base inputs lengths k (get_or cells r (In 0))
    here r h loaded (inl less) = let long = is.loads_long in each r (omega arith) ∙ ap (λ n. made_from base k n 0) (is.load r less)
    here r h loaded (inr past) = absurd (true≢false (sym loaded ∙ is.chain.unloaded r past h))

  pub path_differs : (r : ℕ) → r < length p.loads → (get_or bits r false ≡ made_from base k (slice_index p.loads r) 0 → ⊥) →
      false ≡ chain_holds (path_stimulus base inputs lengths k) cells bits
  path_differs r h differs =
      let less : r < in_length cells = omega arith in
      sym (holds_false (path_stimulus base inputs lengths k) cells bits r (all ∙ is.long) (omega arith) (is.chain.loaded r less) (λ same. differs (same ∙ sym (ap (λ n. made_from base k n 0) (is.load r less)))))

-- ---- what a capture leaves

captured_unread : (f : Cell → Bool) (cells : List Cell) (bits : List Bool) (j : ℕ) → j < length cells → j < length bits → is_read (get_or cells j (In 0)) ≡ false → get_or (captured f cells bits) j false ≡ get_or bits j false
captured_unread f [] bits j h l r = absurd (omega arith)
captured_unread f (x ∷ cells) [] j h l r = absurd (omega arith)
captured_unread f (x ∷ cells) (b ∷ bits) zero h l r = rw r refl
captured_unread f (x ∷ cells) (b ∷ bits) (suc j) h l r = captured_unread f cells bits j (omega arith) (omega arith) r

-- what the loop of a capture has done, up to a number of answers
pub record CaptureDone (base k from q : ℕ) (answers : List ℕ) (old new : List Bool) : Type 0 where
  pub long : length new ≡ length old
  pub done : (j : ℕ) → from ≤ j → j < from + q → get_or new j false ≡ made_from base k (slice_index answers (j - from)) 1
  pub before : (j : ℕ) → j < from → get_or new j false ≡ get_or old j false

pub path_captured : {base k inputs from q : ℕ} {lengths : List ℕ} {cells : List Cell} {p : Path} {bits new : List Bool} →
    IsPath inputs lengths cells p → length bits ≡ p.cells → from ≡ length bits - length p.answers → length p.answers ≤ q →
    CaptureDone base k from q p.answers bits new → new ≡ captured (path_response base lengths k) cells bits
path_captured {base} {k} {from} {lengths} {cells} {bits} {new} is same at all d =
    same_lists new (captured (path_response base lengths k) cells bits) (d.long ∙ sym (length-captured (path_response base lengths k) cells bits))
    (λ j e h. any_default new j e false h ∙ here j h (cases_lt j from) ∙ any_default (captured (path_response base lengths k) cells bits) j false e (within j h))
  where
    within : (j : ℕ) → j < length new → j < length (captured (path_response base lengths k) cells bits)
    within j h = let l = d.long in let m = length-captured (path_response base lengths k) cells bits in omega arith

    here : (j : ℕ) → j < length new → (j < from) ⊎ (from ≤ j) → get_or new j false ≡ get_or (captured (path_response base lengths k) cells bits) j false
    here j h (inl less) =
        let l = d.long in
        let m : length bits ≡ length cells = same ∙ is.long in
        let n = is.answers_long in
        let fit = is.chain.out_fit in
        d.before j less ∙ sym (captured_unread (path_response base lengths k) cells bits j (omega arith) (omega arith) (is.chain.unread j (omega arith)))
    here j h (inr past) =
        let l = d.long in
        let m : length bits ≡ length cells = same ∙ is.long in
        let n = is.answers_long in
        let fit = is.chain.out_fit in
        d.done j past (omega arith) ∙ ap (λ n. made_from base k n 1) (is.answer j (j - from) (omega arith) (omega arith))
        ∙ sym (get_or-captured (path_response base lengths k) cells bits j (omega arith) (omega arith) (is.chain.read j (omega arith) (omega arith)))

pub unequal : (a b : Bool) → not (beq a b) ≡ true → a ≡ b → ⊥
unequal true true e same = cc
unequal true false e same = cc
unequal false true e same = cc
unequal false false e same = cc
