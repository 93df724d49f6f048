-- The text of a proof that is kept, and that of the proof that claims nothing.
use Rattle.std.proofs.Common.{◌≡◌, ℕ, ◌≤◌, List, [], ◌∷◌, Result, Ok, Err, IfOk, length, refl, sym, ap, ◌∙◌, subst, arith}
use Rattle.std.specs.Global.{Vec}
use Rattle.std.proofs.lemmas.List.Elements.{All-cons, All-nil}
use Rattle.std.proofs.lemmas.Fmt.{decimal_digit}
use Rattle.outside.specs.declared.NoMemory.{NoMemory}
use Rattle.plan_model.specs.declared.proof.Proof.{Proof}
use Rattle.plan_model.specs.declared.proof.Weights.{Weights}
use Rattle.plan_model.specs.declared.proof.Node.TheVariants.{Sum}
use Rattle.plan_model.specs.Proofs.{OfSum, OfLeaf, ProofValue, Leaf, proof_value}
use Rattle.proof_text.specs.ProofLines.{proof_text, proof_tokens}
use Rattle.plan_model.specs.Sayable.{NamesTests, IsWeight, IsUse, HasWeights}
use Rattle.proof_text.specs.Grammar.{IsInRange}
use Rattle.proof_text.specs.Answers.{IsReadAgain}
use Rattle.proof_text.proofs.PrintedProofs.{printed_is_read}
use Rattle.soc_model.specs.Chips.{SocValue}
use Rattle.plan_model.specs.Plans.{LimitsValue}
use Rattle.bus_proofs.specs.Bounds.{IsAccepted}
use Rattle.commands.specs.declared.TheConstants.{FILE_MOST}
use Rattle.bound_prover.specs.Proved.{IsPrinted, IsProofText, IsReadable, no_claim}
use Rattle.bound_prover.proofs.Nothing.{one_wire}

-- without where its lists lie in memory
pub nothing_value : (p : Proof) (w : Weights) → p.claimed ≡ 0 → p.lists.items ≡ [] → p.nodes.items ≡ Sum w ∷ [] →
    w.wire ≡ 1 → w.ranks.items ≡ [] → w.lists.items ≡ [] → proof_value p ≡ no_claim
nothing_value p w claimed lists nodes wire ranks uses = rw (claimed, lists, nodes, wire, ranks, uses) refl

nothing_range : IsInRange no_claim
unfolding proof_tokens
nothing_range = (tt, (omega arith, (tt, (omega arith, (tt, (omega arith, tt))))))

-- a text may say it
nothing_readable : IsReadable no_claim
nothing_readable = record {
  said = record {
    few = omega arith;
    lists = All-nil NamesTests;
    one = (Leaf (OfSum one_wire), refl);
    weights = All-cons HasWeights (OfLeaf (OfSum one_wire)) [] (record { wire = omega arith; ranks = All-nil IsWeight; lists = All-nil IsUse }) (All-nil HasWeights);
  };
  range = nothing_range;
}

-- its text is short
nothing_short : length (proof_text no_claim) ≤ FILE_MOST
unfolding proof_text
nothing_short = rw (decimal_digit 1 (omega arith), decimal_digit 0 (omega arith)) (omega arith)

-- what is printed of it is as it should be
pub nothing_printed : (result : Result (Vec ℕ) NoMemory) (value : ProofValue) → value ≡ no_claim →
    IfOk result (λ text. text.items ≡ proof_text value) → IfOk result (λ text. IsReadAgain text.items value) →
    IfOk result (λ text. IsPrinted no_claim text.items)
nothing_printed (Ok text) value is text_is again =
    let printed : text.items ≡ proof_text no_claim = text_is ∙ ap proof_text is in
    record {
      text_is = printed;
      short = subst (λ (t : List ℕ). length t ≤ FILE_MOST) (sym printed) nothing_short;
      said =
          let says : IsReadAgain text.items no_claim = subst (λ (v : ProofValue). IsReadAgain text.items v) is again in
          says nothing_readable.said nothing_readable.range;
    }
nothing_printed (Err fault) value is text_is again = tt

-- the text of a proof that is kept, for a plan of at least one cycle
pub kept_text : (soc : SocValue) (limits : LimitsValue) (cycles nodes : ℕ) (value : ProofValue) (text : List ℕ) → 1 ≤ cycles → text ≡ proof_text value →
    IsReadable value → value.claimed ≤ cycles → length value.nodes ≤ nodes → length text ≤ FILE_MOST → IsAccepted soc limits value →
    IsProofText soc limits cycles nodes (proof_text value)
kept_text soc limits cycles nodes value text some text_is readable at_most few short accepted = (
  value,
  record { accepted = accepted; at_most = at_most; few = few; nothing = λ none. absurd (omega (arith, some, none)) },
  record {
    text_is = refl;
    short = subst (λ (t : List ℕ). length t ≤ FILE_MOST) text_is short;
    said = printed_is_read value readable.said readable.range;
  },
)
