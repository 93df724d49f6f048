-- The words of a proof's text.
use Rattle.std.specs.Prelude.{ℕ, List, [], ◌∷◌, codes, map}
use Rattle.plan_model.specs.declared.TheConstants.{PLAN_NUMBER_MOST}
use Rattle.keyword_text.specs.Tokens.{Lexicon}
use Rattle.proof_text.specs.declared.tokens.Keyword.{Keyword}
use Rattle.proof_text.specs.declared.tokens.Keyword.TheVariants as key

-- how a keyword is printed; it is read in any case of its letters
abbrev pub spelling : Keyword → List ℕ
spelling key.Proof = codes "Proof"
spelling key.Bound = codes "Bound"
spelling key.Turns = codes "Turns"
spelling key.TurnsOn = codes "TurnsOn"
spelling key.Crowd = codes "Crowd"
spelling key.Power = codes "Power"
spelling key.Wide = codes "Wide"
spelling key.Place = codes "Place"
spelling key.Sum = codes "Sum"
spelling key.Pack = codes "Pack"
spelling key.Of = codes "Of"

abbrev pub keywords : List Keyword
keywords =
    key.Proof ∷ key.Bound ∷ key.Turns ∷ key.TurnsOn ∷ key.Crowd ∷ key.Power ∷ key.Wide ∷ key.Place ∷ key.Sum ∷ key.Pack ∷ key.Of ∷ []

-- the keywords, and the range of a proof's numbers
abbrev pub proof_lexicon : Lexicon Keyword
proof_lexicon = record { table = map (λ (k : Keyword). (k, spelling k)) keywords; most = PLAN_NUMBER_MOST }
