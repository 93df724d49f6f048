use Rattle.std.proofs.Common.{◌≡◌, true, Some, option_map, codes, sym, ◌∙◌, ap, subst, List, ℕ}
use Rattle.outside.specs.Words.{Word, same_letters}
use Rattle.keyword_text.specs.Reads.{Makes}
use Rattle.test_data.specs.declared.text.DataText.{DataText}
use Rattle.test_data.specs.DataWords.{bit_word}
use Rattle.test_data.specs.DataReads.{after, is_header}
use Rattle.test_data.specs.DataPlaces.{bits_in, kept_entries, patterns_in, state_in, word_at}
use Rattle.test_data.proofs.ReadSteps.{header_step, unload_step}
use Rattle.test_data.proofs.text.next_text.Goals as goal

pub returns-then-same_word-3 : goal.returns-then-same_word-3
returns-then-same_word-3 c =
    let bytes = c.args.bytes.now in
    let w : Word = (word_at bytes c.args.spot, c.args.spot.line) in
    let is : is_header w ≡ true =
    ap (λ (x : List ℕ). same_letters x (codes "Test")) (sym c.word_bytes-in-Within.ensures) ∙ sym c.same_word-in-Within.ensures ∙ c.if-same_word-3.true in
    subst (λ (t : DataText). Makes (state_in bytes) (after (state_in bytes t) w) c.headed.result) (sym c.in-Within.is)
    (header_step bytes (kept_entries bytes c.in-Within.entries) c.in-Within.test (patterns_in bytes c.in-Within.patterns.items) w c.headed.result is (c.headed.ensures bytes))

pub returns-in-Some-bit_place-2 : goal.returns-in-Some-bit_place-2
returns-in-Some-bit_place-2 c =
    let bytes = c.args.bytes.now in
    let w : Word = (word_at bytes c.args.spot, c.args.spot.line) in
    let is : Some (bits_in bytes c.in-Some-bit_place-2.unload) ≡ bit_word (word_at bytes c.args.spot) =
    ap (option_map (bits_in bytes)) (sym c.in-Some-bit_place-2.is) ∙ c.bit_place-in-Loaded.ensures in
    subst (λ (t : DataText). Makes (state_in bytes) (after (state_in bytes t) w) c.with_pattern.result) (sym c.in-Loaded.is)
    (unload_step bytes (kept_entries bytes c.in-Loaded.entries) c.in-Loaded.test (patterns_in bytes c.in-Loaded.patterns.items) (bits_in bytes c.in-Loaded.load) (bits_in bytes c.in-Some-bit_place-2.unload) w
    c.with_pattern.result is (c.with_pattern.ensures bytes))
