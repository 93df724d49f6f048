-- The numbers of a plan are in the grammar's range where those of its words are.
use Rattle.std.proofs.Common.{◌≤◌, ℕ, List, [], ◌∷◌, ◌++◌, map, sym, subst, arith}
use Rattle.std.specs.List.{All, flat_map}
use Rattle.std.proofs.lemmas.List.Elements.{All-nil, All-cons, All-head, All-tail}
use Rattle.soc_model.specs.declared.TestId.{TestId}
use Rattle.plan_model.specs.declared.TheConstants.{PLAN_NUMBER_MOST, START_MOST}
use Rattle.plan_model.specs.Cells.{ChainValue}
use Rattle.plan_model.specs.Plans.{BusValue, WrapperValue, WhyValue, OfModule, OfPair, OfChain, OfArea, OfPower, OfForced, PlanValue}
use Rattle.keyword_text.specs.declared.tokens.Token.{Token}
use Rattle.keyword_text.specs.declared.tokens.Token.TheVariants.{Number}
use Rattle.keyword_text.specs.Lines.{Line, line_tokens, tokens_of}
use Rattle.keyword_text.specs.Texts.{AllSmall}
use Rattle.keyword_text.proofs.Listed.{tokens_append}
use Rattle.keyword_text.proofs.Ranges.{small_append, small_split}
use Rattle.plan_text.specs.declared.tokens.Keyword.{Keyword}
use Rattle.plan_text.specs.PlanLines.{bus_line, chain_line, wrapper_lines, start_line, test_numbers, reason_numbers, bound_line, bound_line_by, plan_tokens}
use Rattle.plan_text.specs.Grammar.{AreSmallStarts, IsNumber, AreNumbers, IsBusInRange, IsChainInRange, IsWrapperInRange, IsTestInRange, IsStartInRange, IsReasonInRange, IsInRange}

abbrev Small : List (Token Keyword) → Type 0
Small ts = AllSmall PLAN_NUMBER_MOST ts

-- ---- from words to a plan

small_numbers : (ns : List ℕ) → Small (map Number ns) → AreNumbers ns
small_numbers [] x = All-nil IsNumber
small_numbers (n ∷ ns) x = All-cons IsNumber n ns x.0 (small_numbers ns x.1)

small_bus : (b : BusValue) → Small (line_tokens (bus_line b)) → IsBusInRange b
small_bus b x = record { width = x.1.0; modules = small_numbers b.modules x.1.1 }

small_chain : (c : ChainValue) → Small (line_tokens (chain_line c)) → IsChainInRange c
small_chain c x = record { ins = x.1.0; outs = x.1.1.0; scans = small_numbers c.scans x.1.1.1 }

small_buses : (bs : List BusValue) → Small (tokens_of (map bus_line bs)) → All IsBusInRange bs
small_buses [] x = All-nil IsBusInRange
small_buses (b ∷ bs) x =
    let parts = small_split PLAN_NUMBER_MOST (line_tokens (bus_line b)) (tokens_of (map bus_line bs)) x in
    All-cons IsBusInRange b bs (small_bus b parts.0) (small_buses bs parts.1)

small_chains : (cs : List ChainValue) → Small (tokens_of (map chain_line cs)) → All IsChainInRange cs
small_chains [] x = All-nil IsChainInRange
small_chains (c ∷ cs) x =
    let parts = small_split PLAN_NUMBER_MOST (line_tokens (chain_line c)) (tokens_of (map chain_line cs)) x in
    All-cons IsChainInRange c cs (small_chain c parts.0) (small_chains cs parts.1)

small_wrapper : (w : WrapperValue) → Small (tokens_of (wrapper_lines w)) → IsWrapperInRange w
small_wrapper w x = record { number = x.1.0; chains = small_chains w.chains x.1.1.1 }

small_wrappers : (ws : List WrapperValue) → Small (tokens_of (flat_map wrapper_lines ws)) → All IsWrapperInRange ws
small_wrappers [] x = All-nil IsWrapperInRange
small_wrappers (w ∷ ws) x =
    let parts = small_split PLAN_NUMBER_MOST (tokens_of (wrapper_lines w)) (tokens_of (flat_map wrapper_lines ws)) (subst Small (tokens_append (wrapper_lines w) (flat_map wrapper_lines ws)) x) in
    All-cons IsWrapperInRange w ws (small_wrapper w parts.0) (small_wrappers ws parts.1)

small_starts : (ss : List (TestId × ℕ)) → Small (tokens_of (map start_line ss)) → AreSmallStarts ss → All IsStartInRange ss
small_starts [] x small = All-nil IsStartInRange
small_starts (s ∷ ss) x small =
    let P : TestId × ℕ → Type 0 = λ (s : TestId × ℕ). s.1 ≤ START_MOST in
    let parts = small_split PLAN_NUMBER_MOST (line_tokens (start_line s)) (tokens_of (map start_line ss)) x in
    All-cons IsStartInRange s ss (record { of = record { of = parts.0.1.0; number = parts.0.1.1.0 }; small = All-head P s ss small }) (small_starts ss parts.1 (All-tail P s ss small))

small_tests : (us : List TestId) → Small (map Number (flat_map test_numbers us)) → All IsTestInRange us
small_tests [] x = All-nil IsTestInRange
small_tests (u ∷ us) x = All-cons IsTestInRange u us (record { of = x.0; number = x.1.0 }) (small_tests us x.1.1)

small_reason : (why : WhyValue) (b : ℕ) → Small (line_tokens (bound_line_by b why)) → IsReasonInRange why
small_reason (OfModule m) b x = x.1.1.1.0
small_reason (OfPair m) b x = x.1.1.1.0
small_reason (OfChain tests) b x = small_tests tests x.1.1.1
small_reason OfArea b x = tt
small_reason OfPower b x = tt
small_reason (OfForced ms) b x = small_numbers ms x.1.1.1

small_claimed : (why : WhyValue) (b : ℕ) → Small (line_tokens (bound_line_by b why)) → IsNumber b
small_claimed (OfModule m) b x = x.1.0
small_claimed (OfPair m) b x = x.1.0
small_claimed (OfChain tests) b x = x.1.0
small_claimed OfArea b x = x.1.0
small_claimed OfPower b x = x.1.0
small_claimed (OfForced ms) b x = x.1.0

abbrev tails : PlanValue → List (Line Keyword)
tails p = flat_map wrapper_lines p.wrappers ++ (map start_line p.starts ++ bound_line p.bound ∷ [])

pub range_of : (p : PlanValue) → Small (plan_tokens p) → AreSmallStarts p.starts → IsInRange p
unfolding plan_tokens
range_of p x small =
    let buses = small_split PLAN_NUMBER_MOST (tokens_of (map bus_line p.buses)) (tokens_of (tails p)) (subst Small (tokens_append (map bus_line p.buses) (tails p)) x.1.1.1.1) in
    let wrappers = small_split PLAN_NUMBER_MOST (tokens_of (flat_map wrapper_lines p.wrappers)) _ (subst Small (tokens_append (flat_map wrapper_lines p.wrappers) (map start_line p.starts ++ bound_line p.bound ∷ [])) buses.1) in
    let starts = small_split PLAN_NUMBER_MOST (tokens_of (map start_line p.starts)) _ (subst Small (tokens_append (map start_line p.starts) (bound_line p.bound ∷ [])) wrappers.1) in
    let last = small_split PLAN_NUMBER_MOST (line_tokens (bound_line p.bound)) [] starts.1 in
    record {
      buses = small_buses p.buses buses.0;
      wrappers = small_wrappers p.wrappers wrappers.0;
      starts = small_starts p.starts starts.0 small;
      cycles = x.1.1.1.0;
      claimed = small_claimed p.bound.why p.bound.cycles last.0;
      reason = small_reason p.bound.why p.bound.cycles last.0;
    }

-- ---- from a plan to words

numbers_small : (ns : List ℕ) → AreNumbers ns → Small (map Number ns)
numbers_small [] h = tt
numbers_small (n ∷ ns) h = (All-head IsNumber n ns h, numbers_small ns (All-tail IsNumber n ns h))

bus_small : (b : BusValue) → IsBusInRange b → Small (line_tokens (bus_line b))
bus_small b h = (tt, (h.width, numbers_small b.modules h.modules))

chain_small : (c : ChainValue) → IsChainInRange c → Small (line_tokens (chain_line c))
chain_small c h = (tt, (h.ins, (h.outs, numbers_small c.scans h.scans)))

buses_small : (bs : List BusValue) → All IsBusInRange bs → Small (tokens_of (map bus_line bs))
buses_small [] h = tt
buses_small (b ∷ bs) h =
    small_append PLAN_NUMBER_MOST (line_tokens (bus_line b)) (tokens_of (map bus_line bs)) (bus_small b (All-head IsBusInRange b bs h)) (buses_small bs (All-tail IsBusInRange b bs h))

chains_small : (cs : List ChainValue) → All IsChainInRange cs → Small (tokens_of (map chain_line cs))
chains_small [] h = tt
chains_small (c ∷ cs) h =
    small_append PLAN_NUMBER_MOST (line_tokens (chain_line c)) (tokens_of (map chain_line cs)) (chain_small c (All-head IsChainInRange c cs h)) (chains_small cs (All-tail IsChainInRange c cs h))

wrapper_small : (w : WrapperValue) → IsWrapperInRange w → Small (tokens_of (wrapper_lines w))
wrapper_small w h = (tt, (h.number, (tt, chains_small w.chains h.chains)))

wrappers_small : (ws : List WrapperValue) → All IsWrapperInRange ws → Small (tokens_of (flat_map wrapper_lines ws))
wrappers_small [] h = tt
wrappers_small (w ∷ ws) h =
    subst Small (sym (tokens_append (wrapper_lines w) (flat_map wrapper_lines ws)))
    (small_append PLAN_NUMBER_MOST (tokens_of (wrapper_lines w)) (tokens_of (flat_map wrapper_lines ws)) (wrapper_small w (All-head IsWrapperInRange w ws h)) (wrappers_small ws (All-tail IsWrapperInRange w ws h)))

start_small : (s : TestId × ℕ) → IsStartInRange s → Small (line_tokens (start_line s))
start_small s h = let small = h.small in (tt, (h.of.of, (h.of.number, (omega arith, tt))))

starts_small : (ss : List (TestId × ℕ)) → All IsStartInRange ss → Small (tokens_of (map start_line ss))
starts_small [] h = tt
starts_small (s ∷ ss) h =
    small_append PLAN_NUMBER_MOST (line_tokens (start_line s)) (tokens_of (map start_line ss)) (start_small s (All-head IsStartInRange s ss h)) (starts_small ss (All-tail IsStartInRange s ss h))

tests_small : (us : List TestId) → All IsTestInRange us → Small (map Number (flat_map test_numbers us))
tests_small [] h = tt
tests_small (u ∷ us) h =
    let first = All-head IsTestInRange u us h in
    (first.of, (first.number, tests_small us (All-tail IsTestInRange u us h)))

reason_small : (why : WhyValue) → IsReasonInRange why → Small (map Number (reason_numbers why))
reason_small (OfModule m) h = (h, tt)
reason_small (OfPair m) h = (h, tt)
reason_small (OfChain tests) h = tests_small tests h
reason_small OfArea h = tt
reason_small OfPower h = tt
reason_small (OfForced ms) h = numbers_small ms h

pub starts_in_range : (ss : List (TestId × ℕ)) → All IsStartInRange ss → AreSmallStarts ss
starts_in_range ss h = λ k d within. (h k d within).small

pub plan_small : (p : PlanValue) → IsInRange p → Small (plan_tokens p)
unfolding plan_tokens
plan_small p h =
    let bs = map bus_line p.buses in
    let ws = flat_map wrapper_lines p.wrappers in
    let ss = map start_line p.starts in
    let bound : Small (tokens_of (bound_line p.bound ∷ [])) =
    small_append PLAN_NUMBER_MOST (line_tokens (bound_line p.bound)) [] (tt, (h.claimed, (tt, reason_small p.bound.why h.reason))) tt in
    let starts : Small (tokens_of (ss ++ bound_line p.bound ∷ [])) =
    subst Small (sym (tokens_append ss (bound_line p.bound ∷ []))) (small_append PLAN_NUMBER_MOST (tokens_of ss) _ (starts_small p.starts h.starts) bound) in
    let wrappers : Small (tokens_of (ws ++ (ss ++ bound_line p.bound ∷ []))) =
    subst Small (sym (tokens_append ws (ss ++ bound_line p.bound ∷ []))) (small_append PLAN_NUMBER_MOST (tokens_of ws) _ (wrappers_small p.wrappers h.wrappers) starts) in
    let buses : Small (tokens_of (bs ++ (ws ++ (ss ++ bound_line p.bound ∷ [])))) =
    subst Small (sym (tokens_append bs (ws ++ (ss ++ bound_line p.bound ∷ [])))) (small_append PLAN_NUMBER_MOST (tokens_of bs) _ (buses_small p.buses h.buses) wrappers) in
    (tt, (omega arith, (tt, (h.cycles, buses))))
