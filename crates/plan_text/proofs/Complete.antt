-- The words of a plan are read whole.
use Rattle.std.proofs.Common.{◌≡◌, ◌≤◌, ℕ, List, [], ◌∷◌, ◌++◌, map, Bool, true, false, Option, Some, refl, sym, ◌∙◌, ap, subst, append_assoc, append-nil}
use Rattle.std.specs.Prelude.{option_map}
use Rattle.std.specs.List.{flat_map}
use Rattle.std.proofs.lemmas.List.Elements.{All-head, All-tail}
use Rattle.std.proofs.lemmas.Bool.{le-leb}
use Rattle.outside.specs.Runs.{run_by}
use Rattle.soc_model.specs.declared.TestId.{TestId}
use Rattle.plan_model.specs.declared.TheConstants.{START_MOST}
use Rattle.plan_model.specs.Cells.{ChainValue}
use Rattle.plan_model.specs.Plans.{BusValue, WrapperValue, WhyValue, OfModule, OfPair, OfChain, OfArea, OfPower, OfForced, BoundValue, PlanValue}
use Rattle.keyword_text.specs.declared.tokens.Token.{Token}
use Rattle.keyword_text.specs.declared.tokens.Token.TheVariants.{Key, Number}
use Rattle.keyword_text.specs.Lines.{Line, line_tokens, tokens_of}
use Rattle.keyword_text.specs.Machines.{IsReadWhole}
use Rattle.keyword_text.proofs.Kept.{run_both}
use Rattle.keyword_text.proofs.Listed.{tokens_append}
use Rattle.plan_text.specs.declared.tokens.Keyword.{Keyword}
use Rattle.plan_text.specs.declared.tokens.Keyword.TheVariants as key
use Rattle.plan_text.specs.PlanLines.{bus_line, chain_line, mode_key, wrapper_lines, start_line, test_numbers, bound_line, bound_line_by, plan_tokens}
use Rattle.plan_text.specs.Grammar.{AreSmallStarts}
use Rattle.plan_text.specs.Steps.{DraftValue, PartValue, after_cycles, wants_width, in_bus, wants_module, in_wrapper, in_chain, wants_test_module, after_start, wants_bound, in_tests, in_forced, whole, State, at, with_bus, with_wrapper, with_start, with_chain, is_chain, step_wrapper, next_if, step, plan_with, bound_at, ended, plan_machine}

-- the state after these words
abbrev pub run : Option State → List (Token Keyword) → Option State
run s ts = run_by step s ts

-- ---- what may begin in a state, after these whole parts

record MayStart (s : State) (d : DraftValue) : Type 0 where
  start : step s (Key key.Start) ≡ Some (at d wants_test_module)
  bound : step s (Key key.Bound) ≡ Some (at d wants_bound)

record MayWrap (s : State) (d : DraftValue) : Type 0 where
  wrapper : step s (Key key.Wrapper) ≡ Some (at d wants_module)
  start : step s (Key key.Start) ≡ Some (at d wants_test_module)
  bound : step s (Key key.Bound) ≡ Some (at d wants_bound)

record MayBus (s : State) (d : DraftValue) : Type 0 where
  bus : step s (Key key.Bus) ≡ Some (at d wants_width)
  wrapper : step s (Key key.Wrapper) ≡ Some (at d wants_module)
  start : step s (Key key.Start) ≡ Some (at d wants_test_module)
  bound : step s (Key key.Bound) ≡ Some (at d wants_bound)

-- ---- buses

modules_read : (ns : List ℕ) (d : DraftValue) (b : BusValue) → run (Some (at d (in_bus b))) (map Number ns) ≡ Some (at d (in_bus (record b { modules = b.modules ++ ns })))
modules_read [] d b = ap (λ ms. Some (at d (in_bus (record b { modules = ms })))) (sym (append-nil b.modules))
modules_read (n ∷ ns) d b =
    modules_read ns d (record b { modules = b.modules ++ n ∷ [] })
    ∙ ap (λ ms. Some (at d (in_bus (record b { modules = ms })))) (append_assoc b.modules (n ∷ []) ns)

bus_read : (s : State) (d : DraftValue) (b : BusValue) → MayBus s d → run (Some s) (line_tokens (bus_line b)) ≡ Some (at d (in_bus b))
bus_read s d b may = ap (λ o. run o (Number b.width ∷ map Number b.modules)) may.bus ∙ modules_read b.modules d (record { width = b.width; modules = [] })

abbrev with_buses : DraftValue → List BusValue → DraftValue
with_buses d bs = record d { buses = d.buses ++ bs }

abbrev BusesRead : State → DraftValue → List BusValue → Type 0
BusesRead s d bs = (e : State) × (run (Some s) (tokens_of (map bus_line bs)) ≡ Some e) × MayBus e (with_buses d bs)

buses_read : (bs : List BusValue) (s : State) (d : DraftValue) → MayBus s d → BusesRead s d bs
buses_read [] s d may = (s, refl, subst (λ bs. MayBus s (record d { buses = bs })) (sym (append-nil d.buses)) may)
buses_read (b ∷ bs) s d may =
    let m = at d (in_bus b) in
    let rest = buses_read bs m (with_bus d b) (record { bus = refl; wrapper = refl; start = refl; bound = refl }) in (
      rest.0,
      run_both plan_machine s m rest.0 (line_tokens (bus_line b)) (tokens_of (map bus_line bs)) (bus_read s d b may) rest.1,
      subst (λ x. MayBus rest.0 (record d { buses = x })) (append_assoc d.buses (b ∷ []) bs) rest.2,
    )

-- ---- wrappers

scans_read : (ns : List ℕ) (d : DraftValue) (w : WrapperValue) (c : ChainValue) → run (Some (at d (in_chain w c))) (map Number ns) ≡ Some (at d (in_chain w (record c { scans = c.scans ++ ns })))
scans_read [] d w c = ap (λ ss. Some (at d (in_chain w (record c { scans = ss })))) (sym (append-nil c.scans))
scans_read (n ∷ ns) d w c =
    scans_read ns d w (record c { scans = c.scans ++ n ∷ [] })
    ∙ ap (λ ss. Some (at d (in_chain w (record c { scans = ss })))) (append_assoc c.scans (n ∷ []) ns)

-- in a wrapper, which may go on
abbrev MayChain : State → DraftValue → WrapperValue → Type 0
MayChain s d w = (k : Keyword) → step s (Key k) ≡ step_wrapper d w k (is_chain k)

chain_read : (s : State) (d : DraftValue) (w : WrapperValue) (c : ChainValue) → MayChain s d w → run (Some s) (line_tokens (chain_line c)) ≡ Some (at d (in_chain w c))
chain_read s d w c may =
    ap (λ o. run o (Number c.ins ∷ Number c.outs ∷ map Number c.scans)) (may key.Chain)
    ∙ scans_read c.scans d w (record { ins = c.ins; scans = []; outs = c.outs })

abbrev with_chains : WrapperValue → List ChainValue → WrapperValue
with_chains w cs = record w { chains = w.chains ++ cs }

chains_read : (cs : List ChainValue) (s : State) (d : DraftValue) (w : WrapperValue) → MayChain s d w → (e : State) × (run (Some s) (tokens_of (map chain_line cs)) ≡ Some e) × MayChain e d (with_chains w cs)
chains_read [] s d w may = (s, refl, subst (λ cs. MayChain s d (record w { chains = cs })) (sym (append-nil w.chains)) may)
chains_read (c ∷ cs) s d w may =
    let m = at d (in_chain w c) in
    let rest = chains_read cs m d (with_chain w c) (λ k. refl) in (
      rest.0,
      run_both plan_machine s m rest.0 (line_tokens (chain_line c)) (tokens_of (map chain_line cs)) (chain_read s d w c may) rest.1,
      subst (λ x. MayChain rest.0 d (record w { chains = x })) (append_assoc w.chains (c ∷ []) cs) rest.2,
    )

mode_read : (b : Bool) (d : DraftValue) (m : ℕ) → run (Some (at d wants_module)) (Number m ∷ Key (mode_key b) ∷ []) ≡ Some (at d (in_wrapper (record { «module» = m; scan = b; chains = [] })))
mode_read true d m = refl
mode_read false d m = refl

wrapper_read : (s : State) (d : DraftValue) (w : WrapperValue) → MayWrap s d → (e : State) × (run (Some s) (tokens_of (wrapper_lines w)) ≡ Some e) × MayChain e d w
wrapper_read s d w may =
    let empty : WrapperValue = record { «module» = w.«module»; scan = w.scan; chains = [] } in
    let m = at d (in_wrapper empty) in
    let head : run (Some s) (Key key.Wrapper ∷ Number w.«module» ∷ Key (mode_key w.scan) ∷ []) ≡ Some m =
    ap (λ o. run o (Number w.«module» ∷ Key (mode_key w.scan) ∷ [])) may.wrapper ∙ mode_read w.scan d w.«module» in
    let rest = chains_read w.chains m d empty (λ k. refl) in
    (rest.0, run_both plan_machine s m rest.0 (Key key.Wrapper ∷ Number w.«module» ∷ Key (mode_key w.scan) ∷ []) (tokens_of (map chain_line w.chains)) head rest.1, rest.2)

abbrev with_wrappers : DraftValue → List WrapperValue → DraftValue
with_wrappers d ws = record d { wrappers = d.wrappers ++ ws }

wrap_after : (s : State) (d : DraftValue) (w : WrapperValue) → MayChain s d w → MayWrap s (with_wrapper d w)
wrap_after s d w may = record { wrapper = may key.Wrapper; start = may key.Start; bound = may key.Bound }

wrappers_read : (ws : List WrapperValue) (s : State) (d : DraftValue) → MayWrap s d → (e : State) × (run (Some s) (tokens_of (flat_map wrapper_lines ws)) ≡ Some e) × MayWrap e (with_wrappers d ws)
wrappers_read [] s d may = (s, refl, subst (λ ws. MayWrap s (record d { wrappers = ws })) (sym (append-nil d.wrappers)) may)
wrappers_read (w ∷ ws) s d may =
    let one = wrapper_read s d w may in
    let rest = wrappers_read ws one.0 (with_wrapper d w) (wrap_after one.0 d w one.2) in (
      rest.0,
      ap (run (Some s)) (tokens_append (wrapper_lines w) (flat_map wrapper_lines ws))
          ∙ run_both plan_machine s one.0 rest.0 (tokens_of (wrapper_lines w)) (tokens_of (flat_map wrapper_lines ws)) one.1 rest.1,
      subst (λ x. MayWrap rest.0 (record d { wrappers = x })) (append_assoc d.wrappers (w ∷ []) ws) rest.2,
    )

-- ---- starts

start_read : (s : State) (d : DraftValue) (x : TestId × ℕ) → MayStart s d → x.1 ≤ START_MOST → run (Some s) (line_tokens (start_line x)) ≡ Some (at (with_start d x.0 x.1) after_start)
start_read s d x may small =
    ap (λ o. run o (Number x.0.«module» ∷ Number x.0.test ∷ Number x.1 ∷ [])) may.start
    ∙ ap (λ b. next_if b (at (with_start d x.0 x.1) after_start)) (le-leb x.1 START_MOST small)

abbrev with_starts : DraftValue → List (TestId × ℕ) → DraftValue
with_starts d xs = record d { starts = d.starts ++ xs }

starts_read : (xs : List (TestId × ℕ)) (s : State) (d : DraftValue) → MayStart s d → AreSmallStarts xs → (e : State) × (run (Some s) (tokens_of (map start_line xs)) ≡ Some e) × MayStart e (with_starts d xs)
starts_read [] s d may small = (s, refl, subst (λ xs. MayStart s (record d { starts = xs })) (sym (append-nil d.starts)) may)
starts_read (x ∷ xs) s d may small =
    let m = at (with_start d x.0 x.1) after_start in
    let rest = starts_read xs m (with_start d x.0 x.1) (record { start = refl; bound = refl }) (All-tail (λ (s : TestId × ℕ). s.1 ≤ START_MOST) x xs small) in (
      rest.0,
      run_both plan_machine s m rest.0 (line_tokens (start_line x)) (tokens_of (map start_line xs)) (start_read s d x may (All-head (λ (s : TestId × ℕ). s.1 ≤ START_MOST) x xs small)) rest.1,
      subst (λ l. MayStart rest.0 (record d { starts = l })) (append_assoc d.starts (x ∷ []) xs) rest.2,
    )

-- ---- the bound

tests_read : (us : List TestId) (d : DraftValue) (b : ℕ) (tests : List TestId) → run (Some (at d (in_tests b tests))) (map Number (flat_map test_numbers us)) ≡ Some (at d (in_tests b (tests ++ us)))
tests_read [] d b tests = ap (λ l. Some (at d (in_tests b l))) (sym (append-nil tests))
tests_read (u ∷ us) d b tests = tests_read us d b (tests ++ u ∷ []) ∙ ap (λ l. Some (at d (in_tests b l))) (append_assoc tests (u ∷ []) us)

forced_read : (ns : List ℕ) (d : DraftValue) (b : ℕ) (ms : List ℕ) → run (Some (at d (in_forced b ms))) (map Number ns) ≡ Some (at d (in_forced b (ms ++ ns)))
forced_read [] d b ms = ap (λ l. Some (at d (in_forced b l))) (sym (append-nil ms))
forced_read (n ∷ ns) d b ms = forced_read ns d b (ms ++ n ∷ []) ∙ ap (λ l. Some (at d (in_forced b l))) (append_assoc ms (n ∷ []) ns)

-- read to a whole plan
pub record ReadTo (o : Option State) (d : DraftValue) (b : BoundValue) : Type 0 where
  pub part : PartValue
  pub read : o ≡ Some (at d part)
  pub ends : bound_at part ≡ Some b

why_read : (why : WhyValue) (b : ℕ) (d : DraftValue) (s : State) → MayStart s d → ReadTo (run (Some s) (line_tokens (bound_line_by b why))) d (record { cycles = b; why = why })
why_read (OfModule m) b d s may = record { part = whole (record { cycles = b; why = OfModule m }); read = ap (λ o. run o (Number b ∷ Key key.Module ∷ Number m ∷ [])) may.bound; ends = refl }
why_read (OfPair m) b d s may = record { part = whole (record { cycles = b; why = OfPair m }); read = ap (λ o. run o (Number b ∷ Key key.Pair ∷ Number m ∷ [])) may.bound; ends = refl }
why_read (OfChain tests) b d s may =
    record { part = in_tests b tests; read = ap (λ o. run o (Number b ∷ Key key.Chain ∷ map Number (flat_map test_numbers tests))) may.bound ∙ tests_read tests d b []; ends = refl }
why_read OfArea b d s may = record { part = whole (record { cycles = b; why = OfArea }); read = ap (λ o. run o (Number b ∷ Key key.Area ∷ [])) may.bound; ends = refl }
why_read OfPower b d s may = record { part = whole (record { cycles = b; why = OfPower }); read = ap (λ o. run o (Number b ∷ Key key.Power ∷ [])) may.bound; ends = refl }
why_read (OfForced ms) b d s may =
    record { part = in_forced b ms; read = ap (λ o. run o (Number b ∷ Key key.Forced ∷ map Number ms)) may.bound ∙ forced_read ms d b []; ends = refl }

-- ---- the whole plan

abbrev empty_draft : ℕ → DraftValue
empty_draft cycles = record { cycles = cycles; buses = []; wrappers = []; starts = [] }

abbrev draft_of : PlanValue → DraftValue
draft_of p = record { cycles = p.cycles; buses = p.buses; wrappers = p.wrappers; starts = p.starts }

-- sections that are read one after another
sections_read : (first b w s e : State) (bs ws ss : List (Line Keyword)) (l : Line Keyword) → run (Some first) (tokens_of bs) ≡ Some b → run (Some b) (tokens_of ws) ≡ Some w → run (Some w) (tokens_of ss) ≡ Some s → run (Some s) (line_tokens l) ≡ Some e → run (Some first) (tokens_of (bs ++ (ws ++ (ss ++ l ∷ [])))) ≡ Some e
sections_read first b w s e bs ws ss l buses wrappers starts bound =
    ap (run (Some first)) lines ∙ run_both plan_machine first b e (tokens_of bs) _ buses (run_both plan_machine b w e (tokens_of ws) _ wrappers (run_both plan_machine w s e (tokens_of ss) _ starts bound))
  where
    lines : tokens_of (bs ++ (ws ++ (ss ++ l ∷ []))) ≡ tokens_of bs ++ (tokens_of ws ++ (tokens_of ss ++ line_tokens l))
    lines =
        tokens_append bs (ws ++ (ss ++ l ∷ []))
        ∙ ap (λ x. tokens_of bs ++ x) (tokens_append ws (ss ++ l ∷ [])
        ∙ ap (λ x. tokens_of ws ++ x) (tokens_append ss (l ∷ []) ∙ ap (λ x. tokens_of ss ++ x) (append-nil (line_tokens l))))

-- whole parts and a bound are a plan
pub ended_at : (d : DraftValue) (part : PartValue) (b : BoundValue) → bound_at part ≡ Some b → ended (at d part) ≡ Some (plan_with d b)
ended_at d part b is = ap (option_map (plan_with d)) is

pub plan_read : (p : PlanValue) → AreSmallStarts p.starts → IsReadWhole plan_machine (plan_tokens p) p
unfolding plan_tokens
plan_read p small =
    let first = at (empty_draft p.cycles) after_cycles in
    let buses = buses_read p.buses first (empty_draft p.cycles) (record { bus = refl; wrapper = refl; start = refl; bound = refl }) in
    let wrappers = wrappers_read p.wrappers buses.0 (record (empty_draft p.cycles) { buses = p.buses }) (record { wrapper = buses.2.wrapper; start = buses.2.start; bound = buses.2.bound }) in
    let starts = starts_read p.starts wrappers.0 (record (draft_of p) { starts = [] }) (record { start = wrappers.2.start; bound = wrappers.2.bound }) small in
    let last = why_read p.bound.why p.bound.cycles (draft_of p) starts.0 starts.2 in
    let e = at (draft_of p) last.part in
    record {
      end = e;
      runs = sections_read first buses.0 wrappers.0 starts.0 e (map bus_line p.buses) (flat_map wrapper_lines p.wrappers) (map start_line p.starts) (bound_line p.bound) buses.1 wrappers.1 starts.1 last.read;
      ends = ended_at (draft_of p) last.part p.bound last.ends;
    }
