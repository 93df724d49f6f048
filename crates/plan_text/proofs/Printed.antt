-- The printed text of a plan says the plan.
use Rattle.std.proofs.Common.{◌≡◌, ℕ, List, [], ◌∷◌, ◌++◌, map, Some, refl, ◌∙◌, ap, arith, append_assoc, append-nil}
use Rattle.std.specs.List.{flat_map}
use Rattle.plan_model.specs.Plans.{PlanValue}
use Rattle.keyword_text.specs.declared.tokens.Token.TheVariants.{Key}
use Rattle.keyword_text.specs.Tokens.{token_of}
use Rattle.keyword_text.specs.Lines.{line_text, text_of}
use Rattle.keyword_text.proofs.Listed.{text_append}
use Rattle.keyword_text.proofs.Printed.{IsPrinted, are_printed, printed_lines}
use Rattle.plan_text.specs.declared.tokens.Keyword.{Keyword}
use Rattle.plan_text.specs.declared.tokens.Keyword.TheVariants as key
use Rattle.plan_text.specs.Tokens.{spelling, plan_lexicon}
use Rattle.plan_text.specs.PlanLines.{head_lines, bus_line, wrapper_lines, start_line, bound_line, plan_lines, plan_tokens, plan_text}
use Rattle.plan_text.specs.Laws.{PrintedPlansAreRead}
use Rattle.plan_text.proofs.Ranges.{starts_in_range, plan_small}

-- ---- each keyword is a word, and read back

pub key_back : (k : Keyword) → token_of plan_lexicon (spelling k) ≡ Some (Key k)
unfolding token_of
key_back key.Plan = refl
key_back key.Cycles = refl
key_back key.Bus = refl
key_back key.Wrapper = refl
key_back key.Scan = refl
key_back key.Terminals = refl
key_back key.Chain = refl
key_back key.Start = refl
key_back key.Bound = refl
key_back key.Module = refl
key_back key.Pair = refl
key_back key.Area = refl
key_back key.Power = refl
key_back key.Forced = refl

keys_printed : IsPrinted plan_lexicon spelling
keys_printed = are_printed plan_lexicon spelling key_back refl (omega arith)

pub printed_is_read : PrintedPlansAreRead
unfolding plan_tokens plan_text
printed_is_read plan range =
    record { words = printed_lines plan_lexicon spelling keys_printed (plan_lines plan) (plan_small plan range); allowed = starts_in_range plan.starts range.starts }

-- ---- the text by its parts

pub plan_text_parts : (p : PlanValue) →
    plan_text p ≡ text_of spelling (head_lines p.cycles) ++ (text_of spelling (map bus_line p.buses) ++ (text_of spelling (flat_map wrapper_lines p.wrappers) ++ (text_of spelling (map start_line p.starts) ++ line_text spelling (bound_line p.bound))))
unfolding plan_text
plan_text_parts p =
    let bs = map bus_line p.buses in
    let ws = flat_map wrapper_lines p.wrappers in
    let ss = map start_line p.starts in
    text_append spelling (head_lines p.cycles) (bs ++ (ws ++ (ss ++ bound_line p.bound ∷ [])))
    ∙ ap (λ x. text_of spelling (head_lines p.cycles) ++ x) (text_append spelling bs (ws ++ (ss ++ bound_line p.bound ∷ []))
    ∙ ap (λ x. text_of spelling bs ++ x) (text_append spelling ws (ss ++ bound_line p.bound ∷ [])
    ∙ ap (λ x. text_of spelling ws ++ x) (text_append spelling ss (bound_line p.bound ∷ [])
    ∙ ap (λ x. text_of spelling ss ++ x) (append-nil (line_text spelling (bound_line p.bound))))))

-- five pieces, one behind the other
pub five : (a b c d e x v w y z : List ℕ) → x ≡ a → v ≡ x ++ b → w ≡ v ++ c → y ≡ w ++ d → z ≡ y ++ e → z ≡ a ++ (b ++ (c ++ (d ++ e)))
five a b c d e x v w y z is_x is_v is_w is_y is_z =
    is_z ∙ ap (λ l. l ++ e) (is_y ∙ ap (λ l. l ++ d) (is_w ∙ ap (λ l. l ++ c) (is_v ∙ ap (λ l. l ++ b) is_x)))
    ∙ append_assoc ((a ++ b) ++ c) d e ∙ append_assoc (a ++ b) c (d ++ e) ∙ append_assoc a b (c ++ (d ++ e))
