-- The lines of a proof, as what is read and what is printed.
use Rattle.std.specs.Prelude.{ℕ, List, [], ◌∷◌, ◌++◌, false, map}
use Rattle.std.specs.List.{flat_map}
use Rattle.soc_model.specs.declared.TestId.{TestId}
use Rattle.keyword_text.specs.declared.tokens.Token.{Token}
use Rattle.keyword_text.specs.declared.tokens.Token.TheVariants.{Key, Number}
use Rattle.keyword_text.specs.Lines.{Line, line, tokens_of, text_of}
use Rattle.proof_text.specs.declared.tokens.Keyword.{Keyword}
use Rattle.proof_text.specs.declared.tokens.Keyword.TheVariants as key
use Rattle.plan_model.specs.Proofs.{ListValue, OfTurns, OfTurnsOn, OfCrowd, OfPower, WeightsValue, PricingValue, OfSum, OfPack, OfWide, OfPlace, NodeValue, OfSplit, OfLeaf, ProofValue}
use Rattle.proof_text.specs.Tokens.{spelling}

-- a line with a list of numbers at its end
abbrev pub listing : Keyword → List (Token Keyword) → List ℕ → Line Keyword
listing head others listed = record { head = head; others = others; colon = false; listed = listed }

-- the numbers of a test
abbrev pub test_numbers : TestId → List ℕ
test_numbers t = t.«module» ∷ t.test ∷ []

abbrev pub list_line : ListValue → Line Keyword
list_line (OfTurns tests) = listing key.Turns [] (flat_map test_numbers tests)
list_line (OfTurnsOn rank tests) = listing key.TurnsOn (Number rank ∷ []) (flat_map test_numbers tests)
list_line (OfCrowd most tests) = listing key.Crowd (Number most ∷ []) (flat_map test_numbers tests)
list_line (OfPower near) = line key.Power (Number near ∷ [])

-- the words of a list's weight
abbrev pub use_tokens : ℕ × ℕ → List (Token Keyword)
use_tokens o = Key key.Of ∷ Number o.0 ∷ Number o.1 ∷ []

-- the words of weights behind `Sum`
abbrev pub weight_tokens : WeightsValue → List (Token Keyword)
weight_tokens w = Number w.wire ∷ (map Number w.ranks ++ flat_map use_tokens w.lists)

-- the numbers of a price
abbrev pub price_numbers : ℕ × ℕ → List ℕ
price_numbers p = p.0 ∷ p.1 ∷ []

-- the words of prices behind `Pack`
abbrev pub price_tokens : PricingValue → List (Token Keyword)
price_tokens p = Number p.grain ∷ (map Number (flat_map price_numbers p.prices) ++ flat_map use_tokens p.lists)

abbrev pub node_line : NodeValue → Line Keyword
node_line (OfSplit (OfWide rank width)) = line key.Wide (Number rank ∷ Number width ∷ [])
node_line (OfSplit (OfPlace m rank twins)) = listing key.Place (Number m ∷ Number rank ∷ []) twins
node_line (OfLeaf (OfSum w)) = line key.Sum (weight_tokens w)
node_line (OfLeaf (OfPack p)) = line key.Pack (price_tokens p)

-- the form, and the claim
abbrev pub head_lines : ℕ → List (Line Keyword)
head_lines claimed = line key.Proof (Number 1 ∷ []) ∷ line key.Bound (Number claimed ∷ []) ∷ []

abbrev pub proof_lines : ProofValue → List (Line Keyword)
proof_lines p = head_lines p.claimed ++ (map list_line p.lists ++ map node_line p.nodes)

-- what the words of a proof stand for
unfoldable pub proof_tokens : ProofValue → List (Token Keyword)
proof_tokens p = tokens_of (proof_lines p)

-- the text of a proof, as it is printed
unfoldable pub proof_text : ProofValue → List ℕ
proof_text p = text_of spelling (proof_lines p)
