use Rattle.std.proofs.Common.{◌≡◌, true, false, nat_eq, codes, sym, ◌∙◌, ap, List, ℕ}
use Rattle.std.specs.Cmp.Lexicographic.{pointwise}
use Rattle.test_data.specs.DataWords.{is_dash}
use Rattle.test_data.specs.DataPlaces.{word_at}
use Rattle.test_data.proofs.BitWords.{all_bits_word, dash_word, no_bit_word}
use Rattle.test_data.proofs.text.bit_place.Goals as goal

pub returns-then-spot : goal.returns-then-spot
returns-then-spot c = all_bits_word (word_at c.args.bytes.now c.args.spot) (sym c.if-spot.true ∙ c.requires.spot.all_bits)

pub returns-then-eq : goal.returns-then-eq
returns-then-eq c =
    let word = word_at c.args.bytes.now c.args.spot in
    let dash : is_dash word ≡ true =
    ap (λ (x : List ℕ). pointwise nat_eq x (codes "-")) (sym c.word_bytes.ensures) ∙ ap (λ (y : List ℕ). pointwise nat_eq c.word_bytes.result.now y) (sym c.as_slice.ensures) ∙ sym c.eq.ensures ∙ c.if-eq.true in
    dash_word word (sym c.if-spot.false ∙ c.requires.spot.all_bits) dash

pub returns : goal.returns
returns c =
    let word = word_at c.args.bytes.now c.args.spot in
    let other : is_dash word ≡ false =
    ap (λ (x : List ℕ). pointwise nat_eq x (codes "-")) (sym c.word_bytes.ensures) ∙ ap (λ (y : List ℕ). pointwise nat_eq c.word_bytes.result.now y) (sym c.as_slice.ensures) ∙ sym c.eq.ensures ∙ c.if-eq.false in
    no_bit_word word (sym c.if-spot.false ∙ c.requires.spot.all_bits) other
