-- The printed text of a proof says the proof.
use Rattle.std.proofs.Common.{◌≡◌, ℕ, List, [], ◌∷◌, ◌++◌, map, decimal, Some, refl, sym, ◌∙◌, ap, arith, append_assoc, Result, Ok, Err, OnOk, flat_map}
use Rattle.keyword_text.specs.declared.tokens.Token.{Token}
use Rattle.keyword_text.specs.declared.tokens.Token.TheVariants.{Key, Number}
use Rattle.keyword_text.specs.Tokens.{token_of}
use Rattle.keyword_text.specs.Lines.{spaced, spaced_numbers, text_of}
use Rattle.keyword_text.proofs.Listed.{text_append}
use Rattle.keyword_text.proofs.Printed.{IsPrinted, are_printed, printed_lines}
use Rattle.proof_text.specs.declared.tokens.Keyword.{Keyword}
use Rattle.plan_model.specs.Proofs.{WeightsValue, PricingValue, ProofValue}
use Rattle.proof_text.specs.Tokens.{spelling, proof_lexicon}
use Rattle.proof_text.specs.ProofLines.{list_line, use_tokens, weight_tokens, price_numbers, price_tokens, node_line, head_lines, proof_lines, proof_tokens, proof_text}
use Rattle.proof_text.specs.TextLaws.{PrintedProofsAreRead}
use Rattle.proof_text.specs.declared.tokens.Keyword.TheVariants as key

-- ---- each keyword is a word, and read back

pub key_back : (k : Keyword) → token_of proof_lexicon (spelling k) ≡ Some (Key k)
unfolding token_of
key_back key.Proof = refl
key_back key.Bound = refl
key_back key.Turns = refl
key_back key.TurnsOn = refl
key_back key.Crowd = refl
key_back key.Power = refl
key_back key.Wide = refl
key_back key.Place = refl
key_back key.Sum = refl
key_back key.Pack = refl
key_back key.Of = refl

keys_printed : IsPrinted proof_lexicon spelling
keys_printed = are_printed proof_lexicon spelling key_back refl (omega arith)

pub printed_is_read : PrintedProofsAreRead
unfolding proof_tokens proof_text
printed_is_read proof may range = record { words = printed_lines proof_lexicon spelling keys_printed (proof_lines proof) range; allowed = may }

-- ---- the text by its parts

proof_text_parts : (p : ProofValue) →
    proof_text p ≡ text_of spelling (head_lines p.claimed) ++ (text_of spelling (map list_line p.lists) ++ text_of spelling (map node_line p.nodes))
unfolding proof_text
proof_text_parts p =
    text_append spelling (head_lines p.claimed) (map list_line p.lists ++ map node_line p.nodes)
    ∙ ap (λ x. text_of spelling (head_lines p.claimed) ++ x) (text_append spelling (map list_line p.lists) (map node_line p.nodes))

-- what is written piece by piece
pub proof_written : (p : ProofValue) (x v w : List ℕ) → x ≡ text_of spelling (head_lines p.claimed) → v ≡ x ++ text_of spelling (map list_line p.lists) → w ≡ v ++ text_of spelling (map node_line p.nodes) → w ≡ proof_text p
proof_written p x v w is_x is_v is_w =
    is_w ∙ ap (λ l. l ++ text_of spelling (map node_line p.nodes)) (is_v ∙ ap (λ l. l ++ text_of spelling (map list_line p.lists)) is_x)
    ∙ append_assoc (text_of spelling (head_lines p.claimed)) (text_of spelling (map list_line p.lists)) (text_of spelling (map node_line p.nodes))
    ∙ sym (proof_text_parts p)

-- ---- the weights and the prices of a leaf

spaced_append : (ns : List ℕ) (ts : List (Token Keyword)) → spaced spelling (map Number ns ++ ts) ≡ spaced_numbers ns ++ spaced spelling ts
spaced_append [] ts = refl
spaced_append (n ∷ ns) ts = ap (λ l. (32 ∷ decimal n) ++ l) (spaced_append ns ts) ∙ sym (append_assoc (32 ∷ decimal n) (spaced_numbers ns) (spaced spelling ts))

-- a number, then numbers, then the weights of lists: what is written piece by piece
abbrev leaf_tokens : (first : ℕ) → List ℕ → List (ℕ × ℕ) → List (Token Keyword)
leaf_tokens first numbers lists = Number first ∷ (map Number numbers ++ flat_map use_tokens lists)

leaf_written : (first : ℕ) (numbers : List ℕ) (lists : List (ℕ × ℕ)) (old x v new : List ℕ) → x ≡ old ++ (32 ∷ decimal first) → v ≡ x ++ spaced_numbers numbers → new ≡ v ++ spaced spelling (flat_map use_tokens lists) → new ≡ old ++ spaced spelling (leaf_tokens first numbers lists)
leaf_written first numbers lists old x v new is_x is_v is_new =
    let uses : List ℕ = spaced spelling (flat_map use_tokens lists) in
    is_new ∙ ap (λ l. l ++ uses) (is_v ∙ ap (λ l. l ++ spaced_numbers numbers) is_x)
    ∙ append_assoc (old ++ (32 ∷ decimal first)) (spaced_numbers numbers) uses
    ∙ append_assoc old (32 ∷ decimal first) (spaced_numbers numbers ++ uses)
    ∙ ap (λ l. old ++ ((32 ∷ decimal first) ++ l)) (sym (spaced_append numbers (flat_map use_tokens lists)))

-- so too where the last piece may not be written where memory runs out
leaf_written_if : {E : Type 0} (first : ℕ) (numbers : List ℕ) (lists : List (ℕ × ℕ)) (old x v new : List ℕ) (result : Result (Unit {0}) E) → x ≡ old ++ (32 ∷ decimal first) → v ≡ x ++ spaced_numbers numbers → OnOk result (new ≡ v ++ spaced spelling (flat_map use_tokens lists)) → OnOk result (new ≡ old ++ spaced spelling (leaf_tokens first numbers lists))
leaf_written_if first numbers lists old x v new (Ok done) is_x is_v is_new = leaf_written first numbers lists old x v new is_x is_v is_new
leaf_written_if first numbers lists old x v new (Err fault) is_x is_v is_new = tt

pub weights_written_if : {E : Type 0} (w : WeightsValue) (old x v new : List ℕ) (result : Result (Unit {0}) E) → x ≡ old ++ (32 ∷ decimal w.wire) → v ≡ x ++ spaced_numbers w.ranks → OnOk result (new ≡ v ++ spaced spelling (flat_map use_tokens w.lists)) → OnOk result (new ≡ old ++ spaced spelling (weight_tokens w))
weights_written_if w old x v new result is_x is_v is_new = leaf_written_if w.wire w.ranks w.lists old x v new result is_x is_v is_new

pub prices_written_if : {E : Type 0} (p : PricingValue) (old x v new : List ℕ) (result : Result (Unit {0}) E) → x ≡ old ++ (32 ∷ decimal p.grain) → v ≡ x ++ spaced_numbers (flat_map price_numbers p.prices) → OnOk result (new ≡ v ++ spaced spelling (flat_map use_tokens p.lists)) → OnOk result (new ≡ old ++ spaced spelling (price_tokens p))
prices_written_if p old x v new result is_x is_v is_new = leaf_written_if p.grain (flat_map price_numbers p.prices) p.lists old x v new result is_x is_v is_new
