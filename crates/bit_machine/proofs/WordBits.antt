-- The bits of a word that is made of a walk.
use Rattle.std.proofs.Common.{◌≡◌, ℕ, ◌+◌, ◌-◌, ◌%◌, ◌≤◌, ◌<◌, ◌≢◌, Bool, false, List, length, refl, ap, ◌∙◌, arith, inl, inr, slice_index}
use Rattle.std.proofs.lemmas.Bool.{cases_eq, lt-ltb}
use Rattle.vector_lines.specs.Marks.{IsValue}
use Rattle.bit_machine.specs.Packed.{is_set, bit_at_place, IsLineWord}
use Rattle.vector_lines.specs.Numbers.{line_value, line_bit}
use Rattle.vector_lines.specs.declared.made.Line.{Line}

-- a value is a rest
pub value_small : (l : Line) {v : ℕ} → IsValue (line_value l) v → v < 997
value_small l is = let at = is.is in omega arith

-- the bits of a word below a place
pub record IsWordUpTo (line : Line) (numbers : List ℕ) (first place word : ℕ) : Type 0 where
  pub bits : (i : ℕ) → i < place → is_set word i ≡ line_bit line (slice_index numbers (first + i))
  pub rest : (i : ℕ) → place ≤ i → i < 64 → is_set word i ≡ false

pub word_more : {line : Line} {numbers : List ℕ} {first place word : ℕ} (new : ℕ) {b : Bool} → place < 64 →
    b ≡ line_bit line (slice_index numbers (first + place)) → is_set new place ≡ b → ((i : ℕ) → i < 64 → i ≢ place → is_set new i ≡ is_set word i) →
    IsWordUpTo line numbers first place word → IsWordUpTo line numbers first (place + 1) new
word_more {line} {numbers} {first} {place} new low bit here others is = record {
  bits = λ i h. elim (cases_eq i place) [
    | inl same ↦ rw same (here ∙ bit)
    | inr other ↦ others i (omega arith) other ∙ is.bits i (omega arith)
  ];
  rest = λ i h l. others i l (λ e. omega arith) ∙ is.rest i (omega arith) l;
}

-- the bit of a place in the word that it stands in
pub word_has : (line : Line) (numbers : List ℕ) (i word : ℕ) → i < length numbers → IsLineWord line numbers (i - i % 64) word → is_set word (i % 64) ≡ line_bit line (slice_index numbers i)
word_has line numbers i word h is =
    let low : i % 64 < 64 = omega arith in
    let there : i - i % 64 + i % 64 ≡ i = omega arith in
    is (i % 64) low ∙ ap (bit_at_place line numbers) there ∙ rw (lt-ltb i (length numbers) h) refl
