-- Each text says a chip, is refused at a line, or passes a limit.
use Rattle.std.proofs.Common.{◌≡◌, ◌⊎◌, inl, inr, ℕ, ◌<◌, List, length, Option, None, Some, refl, arith}
use Rattle.outside.specs.Words.{words_of}
use Rattle.outside.specs.Grammars.{last_line}
use Rattle.outside.proofs.Refusals.{WholeOrRefused, whole_or_refused}
use Rattle.outside.proofs.Runs.{Fits, run_decides}
use Rattle.soc_model.specs.declared.Which.{Which}
use Rattle.soc_model.specs.declared.Which.TheVariants.{Modules, Tests, Chains, Power, Work}
use Rattle.soc_model.specs.declared.SocLimit.{SocLimit}
use Rattle.soc_model.specs.Chips.{SocValue}
use Rattle.soc_model.specs.Sizes.{passed, rank_of, IsWithinSize, IsFirstPassed}
use Rattle.soc_reader.specs.Table.{Item}
use Rattle.soc_reader.specs.Grammar.{InGrammar}
use Rattle.soc_reader.specs.Steps.{of_list, State, start, step, closed}
use Rattle.soc_reader.specs.Meaning.{chip_of, first_wrong}
use Rattle.soc_reader.specs.ChipForm.{SaysModules}
use Rattle.soc_reader.specs.Refusals.{HasAnswer}
use Rattle.soc_reader.proofs.Viable.{read_viable, read_text, stuck, no_text}

-- ---- the grammar

-- the states of the reader, beside the grammar
fits : (most : ℕ) → Fits InGrammar most State (List Item) (step of_list) (closed of_list) start
fits most = record {
  viable = λ s ws few read. read_viable ws s read;
  stuck = stuck;
  whole_read = λ s items ws read whole. (items, read_text ws s items read whole);
  early = λ s ws read open_end. no_text ws s read open_end;
}

-- ---- the limits on the size

-- a property of each limit before one
by_rank : (P : Which → Type 0) (n : ℕ) → (0 < n → P Modules) → (1 < n → P Tests) → (2 < n → P Chains) → (3 < n → P Power) → (4 < n → P Work) → (which : Which) → rank_of which < n → P which
by_rank P n a b c d e Modules less = a less
by_rank P n a b c d e Tests less = b less
by_rank P n a b c d e Chains less = c less
by_rank P n a b c d e Power less = d less
by_rank P n a b c d e Work less = e less

-- a chip is within the limits, or passes one first
size_or_limit : (soc : SocValue) → IsWithinSize soc ⊎ ((limit : SocLimit) × IsFirstPassed soc limit)
size_or_limit soc = by (passed soc Modules) (passed soc Tests) (passed soc Chains) (passed soc Power) (passed soc Work) refl refl refl refl refl
  where
    none : Which → Type 0
    none which = passed soc which ≡ None

    limit : Which → ℕ → SocLimit
    limit which value = record { which = which; value = value }

    by : (m t c p w : Option ℕ) → passed soc Modules ≡ m → passed soc Tests ≡ t → passed soc Chains ≡ c → passed soc Power ≡ p → passed soc Work ≡ w → IsWithinSize soc ⊎ ((limit : SocLimit) × IsFirstPassed soc limit)
    by (Some n) t c p w em et ec ep ew =
        inr (
          limit Modules n,
          record {
            passes = em;
            earlier = by_rank none 0 (λ less. absurd (omega arith)) (λ less. absurd (omega arith)) (λ less. absurd (omega arith)) (λ less. absurd (omega arith)) (λ less. absurd (omega arith));
          },
        )
    by None (Some n) c p w em et ec ep ew =
        inr (
          limit Tests n,
          record {
            passes = et;
            earlier = by_rank none 1 (λ less. em) (λ less. absurd (omega arith)) (λ less. absurd (omega arith)) (λ less. absurd (omega arith)) (λ less. absurd (omega arith));
          },
        )
    by None None (Some n) p w em et ec ep ew =
        inr (
          limit Chains n,
          record {
            passes = ec;
            earlier = by_rank none 2 (λ less. em) (λ less. et) (λ less. absurd (omega arith)) (λ less. absurd (omega arith)) (λ less. absurd (omega arith));
          },
        )
    by None None None (Some n) w em et ec ep ew =
        inr (
          limit Power n,
          record {
            passes = ep;
            earlier = by_rank none 3 (λ less. em) (λ less. et) (λ less. ec) (λ less. absurd (omega arith)) (λ less. absurd (omega arith));
          },
        )
    by None None None None (Some n) em et ec ep ew =
        inr (
          limit Work n,
          record {
            passes = ew;
            earlier = by_rank none 4 (λ less. em) (λ less. et) (λ less. ec) (λ less. ep) (λ less. absurd (omega arith));
          },
        )
    by None None None None None em et ec ep ew = inl (λ which. each which)
      where
        each : (which : Which) → passed soc which ≡ None
        each Modules = em
        each Tests = et
        each Chains = ec
        each Power = ep
        each Work = ew

-- ---- the chip

said : (bytes : List ℕ) (soc : SocValue) → SaysModules bytes soc → HasAnswer bytes
said bytes soc says = by (size_or_limit soc)
  where
    by : IsWithinSize soc ⊎ ((limit : SocLimit) × IsFirstPassed soc limit) → HasAnswer bytes
    by (inl size) = inl (soc, record { modules = says; size = size })
    by (inr passes) = inr (inr (passes.0, record { soc = soc; modules = says; passed = passes.1 }))

pub each_text : (bytes : List ℕ) → HasAnswer bytes
each_text bytes = by (whole_or_refused InGrammar (length (words_of bytes)) State _ (run_decides InGrammar (length (words_of bytes)) State (List Item) (step of_list) (closed of_list) start (fits (length (words_of bytes)))) (last_line bytes) start (words_of bytes) refl (omega arith))
  where
    totals : (g : InGrammar (words_of bytes)) (o : Option ℕ) → first_wrong (chip_of g.0) g.0 ≡ o → HasAnswer bytes
    totals g None none = said bytes (chip_of g.0) (record { items = g.0; text = g.1; chip = refl; totals = none })
    totals g (Some line) wrong = inr (inl (line, inr (record { items = g.0; text = g.1; first = wrong })))

    by : WholeOrRefused InGrammar (words_of bytes) (last_line bytes) → HasAnswer bytes
    by (inl g) = totals g (first_wrong (chip_of g.0) g.0) refl
    by (inr r) = inr (inl (r.0, inl r.1))
