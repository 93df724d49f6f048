-- The bits of a line one after another.
use Rattle.std.proofs.Common.{◌≡◌, Bool, ℕ, zero, suc, ◌+◌, ◌-◌, ◌*◌, ◌%◌, ◌<◌, ◌≤◌, List, [], ◌∷◌, ◌++◌, length, map, set, take, refl, sym, ◌∙◌, ap, arith, append_assoc, flat_map}
use Rattle.std.specs.List.{range_with_len}
use Rattle.std.proofs.Math.Nat.{mod-add-mod}
use Rattle.std.proofs.lemmas.List.{append-nil, take_more_set, map-append}
use Rattle.std.proofs.lemmas.List.FromFn.{map-range_with_len_more}
use Rattle.std.proofs.lemmas.Grind.{flat_map-append}
use Rattle.vector_lines.specs.Numbers.{line_value, line_bit}
use Rattle.vector_lines.specs.declared.made.Line.{Line}
use Rattle.vector_lines.specs.Made.{made_from}
use Rattle.tester_commands.specs.DataText.{bit_byte, bits_word}
use Rattle.tester_commands.specs.ContentEntries.{data_bit}
use Rattle.tester_commands.specs.DataParts.{made_byte, made_bits}
use Rattle.common_lemmas.proofs.Ranges.{range_split}

pub value_next : (l : Line) (n v w : ℕ) → v ≡ line_value l n → w ≡ (v + l.step) % 997 → w ≡ line_value l (n + 1)
value_next l n v w at next =
    let whole : l.first + l.step * n + l.step ≡ l.first + l.step * (n + 1) = omega arith in
    next ∙ ap (λ v. (v + l.step) % 997) at ∙ mod-add-mod (l.first + l.step * n) 997 l.step ∙ ap (λ v. v % 997) whole

pub first_value : (l : Line) → l.first < 997 → l.first ≡ line_value l 0
first_value l small =
    let whole : l.first + l.step * 0 ≡ l.first = omega arith in
    let below : l.first % 997 ≡ l.first = omega (arith, small) in
    sym (ap (λ v. v % 997) whole ∙ below)

-- a byte more behind the bytes of a line
pub byte_more : (f : ℕ → ℕ) (old now new : List ℕ) (from n done byte : ℕ) → from + done < length now → new ≡ set now (from + done) byte → byte ≡ f (n + done) → take (from + done) now ≡ take from old ++ map f (range_with_len n done) →
    take (from + (done + 1)) new ≡ take from old ++ map f (range_with_len n (done + 1))
byte_more f old now new from n done byte inside stored is so_far =
    let place : from + (done + 1) ≡ from + done + 1 = omega arith in
    ap (λ k. take k new) place ∙ ap (take (from + done + 1)) stored ∙ take_more_set now (from + done) byte inside ∙ ap (λ b. take (from + done) now ++ b ∷ []) is ∙ ap (λ t. t ++ f (n + done) ∷ []) so_far
    ∙ append_assoc (take from old) (map f (range_with_len n done)) (f (n + done) ∷ []) ∙ ap (λ t. take from old ++ t) (sym (map-range_with_len_more f n done (n + done) refl))

pub map_split : (f : ℕ → ℕ) (n m : ℕ) → map f (range_with_len 0 n) ++ map f (range_with_len n m) ≡ map f (range_with_len 0 (n + m))
map_split f n m =
    let start : 0 + n ≡ n = omega arith in
    ap (λ k. map f (range_with_len 0 n) ++ map f (range_with_len k m)) (sym start) ∙ sym (map-append f (range_with_len 0 n) (range_with_len (0 + n) m)) ∙ ap (map f) (sym (range_split 0 n m))

pub map_rest : (f : ℕ → ℕ) (n m all : ℕ) → n + m ≤ all → map f (range_with_len 0 n) ++ (map f (range_with_len n m) ++ map f (range_with_len (n + m) (all - (n + m)))) ≡ map f (range_with_len 0 all)
map_rest f n m all within =
    let whole : n + m + (all - (n + m)) ≡ all = omega arith in
    sym (append_assoc (map f (range_with_len 0 n)) (map f (range_with_len n m)) (map f (range_with_len (n + m) (all - (n + m)))))
    ∙ ap (λ t. t ++ map f (range_with_len (n + m) (all - (n + m)))) (map_split f n m) ∙ map_split f (n + m) (all - (n + m)) ∙ ap (λ k. map f (range_with_len 0 k)) whole

pub lines_split : (f : ℕ → List ℕ) (n : ℕ) → flat_map f (range_with_len 1 n) ++ f (n + 1) ≡ flat_map f (range_with_len 1 (n + 1))
lines_split f n =
    let place : 1 + n ≡ n + 1 = omega arith in
    ap (λ t. flat_map f (range_with_len 1 n) ++ t) (sym (append-nil (f (n + 1)))) ∙ ap (λ k. flat_map f (range_with_len 1 n) ++ flat_map f (range_with_len k 1)) (sym place)
    ∙ sym (flat_map-append f (range_with_len 1 n) (range_with_len (1 + n) 1)) ∙ ap (flat_map f) (sym (range_split 1 n 1))

pub lines_rest : (f : ℕ → List ℕ) (n all : ℕ) → n < all → flat_map f (range_with_len 1 n) ++ (f (n + 1) ++ flat_map f (range_with_len (1 + (n + 1)) (all - (n + 1)))) ≡ flat_map f (range_with_len 1 all)
lines_rest f n all less =
    let whole : n + 1 + (all - (n + 1)) ≡ all = omega arith in
    sym (append_assoc (flat_map f (range_with_len 1 n)) (f (n + 1)) (flat_map f (range_with_len (1 + (n + 1)) (all - (n + 1)))))
    ∙ ap (λ t. t ++ flat_map f (range_with_len (1 + (n + 1)) (all - (n + 1)))) (lines_split f n)
    ∙ sym (flat_map-append f (range_with_len 1 (n + 1)) (range_with_len (1 + (n + 1)) (all - (n + 1)))) ∙ ap (flat_map f) (sym (range_split 1 (n + 1) (all - (n + 1)))) ∙ ap (λ k. flat_map f (range_with_len 1 k)) whole

-- ---- the word of a line

same_bytes : (line : Line) (base k side from count : ℕ) → ((n : ℕ) → line_bit line n ≡ made_from base k n side) → map (made_byte line) (range_with_len from count) ≡ map bit_byte (map (λ n. data_bit (made_from base k n side)) (range_with_len from count))
same_bytes line base k side from zero bits = refl
same_bytes line base k side from (suc count) bits =
    ap (λ b. b ∷ map (made_byte line) (range_with_len (from + 1) count)) (ap (λ (b : Bool). bit_byte (data_bit b)) (bits from))
    ∙ ap (λ t. bit_byte (data_bit (made_from base k from side)) ∷ t) (same_bytes line base k side (from + 1) count bits)

pub made_word : (line : Line) (base k side count : ℕ) → ((n : ℕ) → line_bit line n ≡ made_from base k n side) → 0 < count → map (made_byte line) (range_with_len 0 count) ≡ bits_word (made_bits base k side count)
made_word line base k side zero bits some = absurd (omega arith)
made_word line base k side (suc count) bits some = same_bytes line base k side 0 (suc count) bits
