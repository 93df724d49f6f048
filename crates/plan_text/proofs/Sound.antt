-- What was read so far is the words of the state: of its whole parts, and of the part that comes next.
use Rattle.std.proofs.Common.{◌≡◌, ◌≤◌, ℕ, List, [], ◌∷◌, ◌++◌, map, Bool, true, false, nat_eq, Option, Some, refl, sym, ◌∙◌, ap, subst, arith, append_assoc, append-nil}
use Rattle.std.specs.Prelude.{nat_le}
use Rattle.std.specs.List.{flat_map}
use Rattle.std.proofs.lemmas.List.{map-append}
use Rattle.std.proofs.lemmas.List.Concat.{flat_map-append}
use Rattle.std.proofs.lemmas.List.Elements.{All-push}
use Rattle.std.proofs.lemmas.Bool.{eqb-true, leb-true}
use Rattle.soc_model.specs.declared.TestId.{TestId}
use Rattle.plan_model.specs.declared.TheConstants.{START_MOST}
use Rattle.plan_model.specs.Cells.{ChainValue}
use Rattle.plan_model.specs.Plans.{BusValue, WrapperValue, OfChain, OfForced, BoundValue, PlanValue}
use Rattle.keyword_text.specs.declared.tokens.Token.{Token}
use Rattle.keyword_text.specs.declared.tokens.Token.TheVariants.{Key, Number}
use Rattle.keyword_text.specs.Lines.{Line, line, line_tokens, tokens_of}
use Rattle.keyword_text.specs.Machines.{IsRun, IsSaid}
use Rattle.keyword_text.proofs.Kept as kept
use Rattle.keyword_text.proofs.Kept.{kept_by_words, kept_holds}
use Rattle.keyword_text.proofs.Listed.{tokens_append, tokens_push, numbers_push, word_pushed}
use Rattle.plan_text.specs.declared.tokens.Keyword.{Keyword}
use Rattle.plan_text.specs.declared.tokens.Keyword.TheVariants as key
use Rattle.plan_text.specs.declared.parts.Section.{Section}
use Rattle.plan_text.specs.declared.parts.Section.TheVariants.{Buses, Wrappers, Starts}
use Rattle.plan_text.specs.PlanLines.{bus_line, chain_line, wrapper_lines, start_line, test_numbers, bound_line, bound_line_by, plan_tokens}
use Rattle.plan_text.specs.Grammar.{AreSmallStarts, plan_grammar}
use Rattle.plan_text.specs.Steps.{DraftValue, PartValue, wants_plan, wants_form, wants_cycles_word, wants_cycles, after_cycles, wants_width, in_bus, wants_module, wants_mode, in_wrapper, wants_ins, wants_outs, in_chain, wants_test_module, wants_test, wants_start, after_start, wants_bound, wants_reason, wants_bound_module, wants_pair_module, in_tests, wants_test_of, in_forced, whole, State, at, with_bus, with_wrapper, with_start, with_chain, next_if, step_number, begin, begun, begin_mode, begin_reason, is_chain, step_wrapper, begin_plan, begin_cycles, step_key, plan_with, ended, plan_machine}

-- how far a text has come
data Stage : Type 0 where
  at_head : Stage
  at_buses : Stage
  at_wrappers : Stage
  at_starts : Stage

abbrev stage : PartValue → Stage
stage wants_plan = at_head
stage wants_form = at_head
stage wants_cycles_word = at_head
stage wants_cycles = at_head
stage after_cycles = at_buses
stage wants_width = at_buses
stage (in_bus b) = at_buses
stage wants_module = at_wrappers
stage (wants_mode m) = at_wrappers
stage (in_wrapper w) = at_wrappers
stage (wants_ins w) = at_wrappers
stage (wants_outs w i) = at_wrappers
stage (in_chain w c) = at_wrappers
stage p = at_starts

-- parts that come later were not read
abbrev Ordered : Stage → DraftValue → Type 0
Ordered at_head d = (d.buses ≡ []) × (d.wrappers ≡ []) × (d.starts ≡ [])
Ordered at_buses d = (d.wrappers ≡ []) × (d.starts ≡ [])
Ordered at_wrappers d = d.starts ≡ []
Ordered at_starts d = Unit {0}

abbrev headed : DraftValue → List (Line Keyword) → List (Line Keyword)
headed d lines = line key.Plan (Number 1 ∷ []) ∷ line key.Cycles (Number d.cycles ∷ []) ∷ lines

-- the lines of the whole parts
abbrev front : Stage → DraftValue → List (Line Keyword)
front at_head d = []
front at_buses d = headed d (map bus_line d.buses)
front at_wrappers d = headed d (map bus_line d.buses ++ flat_map wrapper_lines d.wrappers)
front at_starts d = headed d (map bus_line d.buses ++ (flat_map wrapper_lines d.wrappers ++ map start_line d.starts))

-- the words of the part that comes next
abbrev part_tokens : PartValue → List (Token Keyword)
part_tokens wants_plan = []
part_tokens wants_form = Key key.Plan ∷ []
part_tokens wants_cycles_word = Key key.Plan ∷ Number 1 ∷ []
part_tokens wants_cycles = Key key.Plan ∷ Number 1 ∷ Key key.Cycles ∷ []
part_tokens after_cycles = []
part_tokens wants_width = Key key.Bus ∷ []
part_tokens (in_bus b) = line_tokens (bus_line b)
part_tokens wants_module = Key key.Wrapper ∷ []
part_tokens (wants_mode m) = Key key.Wrapper ∷ Number m ∷ []
part_tokens (in_wrapper w) = tokens_of (wrapper_lines w)
part_tokens (wants_ins w) = tokens_of (wrapper_lines w) ++ Key key.Chain ∷ []
part_tokens (wants_outs w i) = tokens_of (wrapper_lines w) ++ Key key.Chain ∷ Number i ∷ []
part_tokens (in_chain w c) = tokens_of (wrapper_lines w) ++ line_tokens (chain_line c)
part_tokens wants_test_module = Key key.Start ∷ []
part_tokens (wants_test m) = Key key.Start ∷ Number m ∷ []
part_tokens (wants_start t) = Key key.Start ∷ Number t.«module» ∷ Number t.test ∷ []
part_tokens after_start = []
part_tokens wants_bound = Key key.Bound ∷ []
part_tokens (wants_reason b) = Key key.Bound ∷ Number b ∷ []
part_tokens (wants_bound_module b) = Key key.Bound ∷ Number b ∷ Key key.Module ∷ []
part_tokens (wants_pair_module b) = Key key.Bound ∷ Number b ∷ Key key.Pair ∷ []
part_tokens (in_tests b tests) = line_tokens (bound_line_by b (OfChain tests))
part_tokens (wants_test_of b tests m) = line_tokens (bound_line_by b (OfChain tests)) ++ Number m ∷ []
part_tokens (in_forced b ms) = line_tokens (bound_line_by b (OfForced ms))
part_tokens (whole b) = line_tokens (bound_line b)

-- the words that were read are those of this draft and this part
record Holds (d : DraftValue) (p : PartValue) (ts : List (Token Keyword)) : Type 0 where
  ordered : Ordered (stage p) d
  read : ts ≡ tokens_of (front (stage p) d) ++ part_tokens p
  small : AreSmallStarts d.starts

abbrev IsRead : List (Token Keyword) → State → Type 0
IsRead ts s = Holds s.draft s.part ts

abbrev HoldsNext : Option State → List (Token Keyword) → Type 0
HoldsNext o ts = kept.HoldsNext IsRead o ts

-- ---- lists of lines

bus_pushed : (d : DraftValue) (b : BusValue) → tokens_of (front at_buses d) ++ line_tokens (bus_line b) ≡ tokens_of (front at_buses (with_bus d b))
bus_pushed d b =
    sym (tokens_push (front at_buses d) (bus_line b)) ∙ ap (λ ls. tokens_of (headed d ls)) (sym (map-append bus_line d.buses (b ∷ [])))

wrapper_pushed : (d : DraftValue) (w : WrapperValue) → tokens_of (front at_wrappers d) ++ tokens_of (wrapper_lines w) ≡ tokens_of (front at_wrappers (with_wrapper d w))
wrapper_pushed d w =
    sym (tokens_append (front at_wrappers d) (wrapper_lines w))
    ∙ ap (λ ls. tokens_of (headed d ls)) (append_assoc (map bus_line d.buses) (flat_map wrapper_lines d.wrappers) (wrapper_lines w))
    ∙ ap (λ ls. tokens_of (headed d (map bus_line d.buses ++ ls)))
    (ap (λ ls. flat_map wrapper_lines d.wrappers ++ ls) (sym (append-nil (wrapper_lines w))) ∙ sym (flat_map-append wrapper_lines d.wrappers (w ∷ [])))

start_pushed : (d : DraftValue) (t : TestId) (n : ℕ) → tokens_of (front at_starts d) ++ line_tokens (start_line (t, n)) ≡ tokens_of (front at_starts (with_start d t n))
start_pushed d t n =
    sym (tokens_push (front at_starts d) (start_line (t, n)))
    ∙ ap (λ ls. tokens_of (headed d ls)) (append_assoc (map bus_line d.buses) (flat_map wrapper_lines d.wrappers ++ map start_line d.starts) (start_line (t, n) ∷ []))
    ∙ ap (λ ls. tokens_of (headed d (map bus_line d.buses ++ ls)))
    (append_assoc (flat_map wrapper_lines d.wrappers) (map start_line d.starts) (start_line (t, n) ∷ [])
    ∙ ap (λ ls. flat_map wrapper_lines d.wrappers ++ ls) (sym (map-append start_line d.starts ((t, n) ∷ []))))

chain_pushed : (w : WrapperValue) (c : ChainValue) → tokens_of (wrapper_lines w) ++ line_tokens (chain_line c) ≡ tokens_of (wrapper_lines (with_chain w c))
chain_pushed w c =
    sym (tokens_push (wrapper_lines w) (chain_line c))
    ∙ ap (λ (ls : List (Line Keyword)). tokens_of (wrapper_lines (record w { chains = [] }) ++ ls)) (sym (map-append chain_line w.chains (c ∷ [])))

to_wrappers : (d : DraftValue) → Ordered at_buses d → front at_buses d ≡ front at_wrappers d
to_wrappers d h = ap (headed d) (sym (append-nil (map bus_line d.buses)) ∙ ap (λ ws. map bus_line d.buses ++ flat_map wrapper_lines ws) (sym h.0))

to_starts : (d : DraftValue) → Ordered at_wrappers d → front at_wrappers d ≡ front at_starts d
to_starts d h =
    ap (λ ls. headed d (map bus_line d.buses ++ ls))
    (sym (append-nil (flat_map wrapper_lines d.wrappers)) ∙ ap (λ ss. flat_map wrapper_lines d.wrappers ++ map start_line ss) (sym h))

-- ---- one more word

-- the words are those of whole parts
record Closed (s : Stage) (d : DraftValue) (ts : List (Token Keyword)) : Type 0 where
  ordered : Ordered s d
  read : ts ≡ tokens_of (front s d)
  small : AreSmallStarts d.starts

abbrev stage_of : Section → Stage
stage_of Buses = at_buses
stage_of Wrappers = at_wrappers
stage_of Starts = at_starts

closed_wrappers : (section : Section) (d : DraftValue) (ts : List (Token Keyword)) → begin key.Wrapper section ≡ Some wants_module → Closed (stage_of section) d ts → Closed at_wrappers d ts
closed_wrappers Buses d ts e c = record { ordered = c.ordered.1; read = c.read ∙ ap tokens_of (to_wrappers d c.ordered); small = c.small }
closed_wrappers Wrappers d ts e c = c
closed_wrappers Starts d ts e c = cc

closed_starts : (section : Section) (d : DraftValue) (ts : List (Token Keyword)) → Closed (stage_of section) d ts → Closed at_starts d ts
closed_starts Buses d ts c = record { ordered = tt; read = c.read ∙ ap tokens_of (to_wrappers d c.ordered ∙ to_starts d c.ordered.1); small = c.small }
closed_starts Wrappers d ts c = record { ordered = tt; read = c.read ∙ ap tokens_of (to_starts d c.ordered); small = c.small }
closed_starts Starts d ts c = c

begin_holds : (k : Keyword) (section : Section) (d : DraftValue) (ts : List (Token Keyword)) → Closed (stage_of section) d ts → HoldsNext (begun d (begin k section)) (ts ++ Key k ∷ [])
begin_holds key.Bus Buses d ts c = record { ordered = c.ordered; read = ap (λ l. l ++ Key key.Bus ∷ []) c.read; small = c.small }
begin_holds key.Bus Wrappers d ts c = tt
begin_holds key.Bus Starts d ts c = tt
begin_holds key.Wrapper Buses d ts c = let w = closed_wrappers Buses d ts refl c in record { ordered = w.ordered; read = ap (λ l. l ++ Key key.Wrapper ∷ []) w.read; small = w.small }
begin_holds key.Wrapper Wrappers d ts c = record { ordered = c.ordered; read = ap (λ l. l ++ Key key.Wrapper ∷ []) c.read; small = c.small }
begin_holds key.Wrapper Starts d ts c = tt
begin_holds key.Start section d ts c = let s = closed_starts section d ts c in record { ordered = tt; read = ap (λ l. l ++ Key key.Start ∷ []) s.read; small = s.small }
begin_holds key.Bound section d ts c = let s = closed_starts section d ts c in record { ordered = tt; read = ap (λ l. l ++ Key key.Bound ∷ []) s.read; small = s.small }
begin_holds key.Plan section d ts c = tt
begin_holds key.Cycles section d ts c = tt
begin_holds key.Scan section d ts c = tt
begin_holds key.Terminals section d ts c = tt
begin_holds key.Chain section d ts c = tt
begin_holds key.Module section d ts c = tt
begin_holds key.Pair section d ts c = tt
begin_holds key.Area section d ts c = tt
begin_holds key.Power section d ts c = tt
begin_holds key.Forced section d ts c = tt

wrapper_holds : (d : DraftValue) (w : WrapperValue) (k : Keyword) (ts : List (Token Keyword)) → Holds d (in_wrapper w) ts → HoldsNext (step_wrapper d w k (is_chain k)) (ts ++ Key k ∷ [])
wrapper_holds d w k ts h = by_kind (is_chain k) refl
  where
    chain_key : (j : Keyword) → is_chain j ≡ true → j ≡ key.Chain
    chain_key key.Chain e = refl
    chain_key j e = cc

    by_kind : (b : Bool) → is_chain k ≡ b → HoldsNext (step_wrapper d w k b) (ts ++ Key k ∷ [])
    by_kind true e =
        record {
          ordered = h.ordered;
          read = word_pushed ts (tokens_of (wrapper_lines w)) _ (tokens_of (front at_wrappers d)) (Key k) h.read (ap (λ j. tokens_of (wrapper_lines w) ++ Key j ∷ []) (sym (chain_key k e)));
          small = h.small;
        }
    by_kind false e =
        begin_holds k Wrappers (with_wrapper d w) ts (record { ordered = h.ordered; read = h.read ∙ wrapper_pushed d w; small = h.small })

mode_holds : (k : Keyword) (d : DraftValue) (m : ℕ) (ts : List (Token Keyword)) → Holds d (wants_mode m) ts → HoldsNext (begun d (begin_mode k m)) (ts ++ Key k ∷ [])
mode_holds key.Scan d m ts h = record { ordered = h.ordered; read = word_pushed ts _ _ (tokens_of (front at_wrappers d)) (Key key.Scan) h.read refl; small = h.small }
mode_holds key.Terminals d m ts h = record { ordered = h.ordered; read = word_pushed ts _ _ (tokens_of (front at_wrappers d)) (Key key.Terminals) h.read refl; small = h.small }
mode_holds k d m ts h = tt

reason_holds : (k : Keyword) (d : DraftValue) (b : ℕ) (ts : List (Token Keyword)) → Holds d (wants_reason b) ts → HoldsNext (begun d (begin_reason k b)) (ts ++ Key k ∷ [])
reason_holds key.Module d b ts h = record { ordered = tt; read = word_pushed ts _ _ (tokens_of (front at_starts d)) (Key key.Module) h.read refl; small = h.small }
reason_holds key.Pair d b ts h = record { ordered = tt; read = word_pushed ts _ _ (tokens_of (front at_starts d)) (Key key.Pair) h.read refl; small = h.small }
reason_holds key.Chain d b ts h = record { ordered = tt; read = word_pushed ts _ _ (tokens_of (front at_starts d)) (Key key.Chain) h.read refl; small = h.small }
reason_holds key.Area d b ts h = record { ordered = tt; read = word_pushed ts _ _ (tokens_of (front at_starts d)) (Key key.Area) h.read refl; small = h.small }
reason_holds key.Power d b ts h = record { ordered = tt; read = word_pushed ts _ _ (tokens_of (front at_starts d)) (Key key.Power) h.read refl; small = h.small }
reason_holds key.Forced d b ts h = record { ordered = tt; read = word_pushed ts _ _ (tokens_of (front at_starts d)) (Key key.Forced) h.read refl; small = h.small }
reason_holds k d b ts h = tt

plan_holds : (k : Keyword) (d : DraftValue) (ts : List (Token Keyword)) → Holds d wants_plan ts → HoldsNext (begun d (begin_plan k)) (ts ++ Key k ∷ [])
plan_holds key.Plan d ts h = record { ordered = h.ordered; read = word_pushed ts _ _ (tokens_of (front at_head d)) (Key key.Plan) h.read refl; small = h.small }
plan_holds k d ts h = tt

cycles_holds : (k : Keyword) (d : DraftValue) (ts : List (Token Keyword)) → Holds d wants_cycles_word ts → HoldsNext (begun d (begin_cycles k)) (ts ++ Key k ∷ [])
cycles_holds key.Cycles d ts h = record { ordered = h.ordered; read = word_pushed ts _ _ (tokens_of (front at_head d)) (Key key.Cycles) h.read refl; small = h.small }
cycles_holds k d ts h = tt

key_holds : (p : PartValue) (d : DraftValue) (k : Keyword) (ts : List (Token Keyword)) → Holds d p ts → HoldsNext (step_key d p k) (ts ++ Key k ∷ [])
key_holds wants_plan d k ts h = plan_holds k d ts h
key_holds wants_cycles_word d k ts h = cycles_holds k d ts h
key_holds after_cycles d k ts h = begin_holds k Buses d ts (record { ordered = h.ordered; read = h.read ∙ append-nil (tokens_of (front at_buses d)); small = h.small })
key_holds (in_bus b) d k ts h = begin_holds k Buses (with_bus d b) ts (record { ordered = h.ordered; read = h.read ∙ bus_pushed d b; small = h.small })
key_holds (wants_mode m) d k ts h = mode_holds k d m ts h
key_holds (in_wrapper w) d k ts h = wrapper_holds d w k ts h
key_holds (in_chain w c) d k ts h =
    wrapper_holds d (with_chain w c) k ts (record { ordered = h.ordered; read = h.read ∙ ap (λ l. tokens_of (front at_wrappers d) ++ l) (chain_pushed w c); small = h.small })
key_holds after_start d k ts h = begin_holds k Starts d ts (record { ordered = tt; read = h.read ∙ append-nil (tokens_of (front at_starts d)); small = h.small })
key_holds (wants_reason b) d k ts h = reason_holds k d b ts h
key_holds p d k ts h = tt

number_holds : (p : PartValue) (d : DraftValue) (n : ℕ) (ts : List (Token Keyword)) → Holds d p ts → HoldsNext (step_number d p n) (ts ++ Number n ∷ [])
number_holds wants_form d n ts h = by_test (nat_eq n 1) refl
  where
    by_test : (b : Bool) → nat_eq n 1 ≡ b → HoldsNext (next_if b (at d wants_cycles_word)) (ts ++ Number n ∷ [])
    by_test true e = record { ordered = h.ordered; read = word_pushed ts _ _ (tokens_of (front at_head d)) (Number n) h.read (ap (λ m. Key key.Plan ∷ Number m ∷ []) (sym (eqb-true n 1 e))); small = h.small }
    by_test false e = tt
number_holds wants_cycles d n ts h =
    record { ordered = (h.ordered.1, h.ordered.2); read = ap (λ l. l ++ Number n ∷ []) h.read ∙ ap (λ bs. tokens_of (headed (record d { cycles = n }) (map bus_line bs)) ++ []) (sym h.ordered.0); small = h.small }
number_holds wants_width d n ts h = record { ordered = h.ordered; read = word_pushed ts _ _ (tokens_of (front at_buses d)) (Number n) h.read refl; small = h.small }
number_holds (in_bus b) d n ts h = record { ordered = h.ordered; read = word_pushed ts _ _ (tokens_of (front at_buses d)) (Number n) h.read (ap (λ l. Key key.Bus ∷ Number b.width ∷ l) (numbers_push b.modules n)); small = h.small }
number_holds wants_module d n ts h = record { ordered = h.ordered; read = word_pushed ts _ _ (tokens_of (front at_wrappers d)) (Number n) h.read refl; small = h.small }
number_holds (wants_ins w) d n ts h = record { ordered = h.ordered; read = word_pushed ts _ _ (tokens_of (front at_wrappers d)) (Number n) h.read (sym (append_assoc (tokens_of (wrapper_lines w)) (Key key.Chain ∷ []) (Number n ∷ []))); small = h.small }
number_holds (wants_outs w i) d n ts h = record { ordered = h.ordered; read = word_pushed ts _ _ (tokens_of (front at_wrappers d)) (Number n) h.read (sym (append_assoc (tokens_of (wrapper_lines w)) (Key key.Chain ∷ Number i ∷ []) (Number n ∷ []))); small = h.small }
number_holds (in_chain w c) d n ts h =
    record {
      ordered = h.ordered;
      read = word_pushed ts _ _ (tokens_of (front at_wrappers d)) (Number n) h.read
          (ap (λ l. tokens_of (wrapper_lines w) ++ (Key key.Chain ∷ Number c.ins ∷ Number c.outs ∷ l)) (numbers_push c.scans n)
          ∙ sym (append_assoc (tokens_of (wrapper_lines w)) (line_tokens (chain_line c)) (Number n ∷ [])));
      small = h.small;
    }
number_holds wants_test_module d n ts h = record { ordered = tt; read = word_pushed ts _ _ (tokens_of (front at_starts d)) (Number n) h.read refl; small = h.small }
number_holds (wants_test m) d n ts h = record { ordered = tt; read = word_pushed ts _ _ (tokens_of (front at_starts d)) (Number n) h.read refl; small = h.small }
number_holds (wants_start t) d n ts h = by_test (nat_le n START_MOST) refl
  where
    by_test : (b : Bool) → nat_le n START_MOST ≡ b → HoldsNext (next_if b (at (with_start d t n) after_start)) (ts ++ Number n ∷ [])
    by_test true e =
        record {
          ordered = tt;
          read = word_pushed ts _ (line_tokens (start_line (t, n))) (tokens_of (front at_starts d)) (Number n) h.read refl ∙ start_pushed d t n ∙ sym (append-nil (tokens_of (front at_starts (with_start d t n))));
          small = All-push (λ (s : TestId × ℕ). s.1 ≤ START_MOST) d.starts (t, n) h.small (leb-true n START_MOST e);
        }
    by_test false e = tt
number_holds wants_bound d n ts h = record { ordered = tt; read = word_pushed ts _ _ (tokens_of (front at_starts d)) (Number n) h.read refl; small = h.small }
number_holds (wants_bound_module b) d n ts h = record { ordered = tt; read = word_pushed ts _ _ (tokens_of (front at_starts d)) (Number n) h.read refl; small = h.small }
number_holds (wants_pair_module b) d n ts h = record { ordered = tt; read = word_pushed ts _ _ (tokens_of (front at_starts d)) (Number n) h.read refl; small = h.small }
number_holds (in_tests b tests) d n ts h = record { ordered = tt; read = word_pushed ts _ _ (tokens_of (front at_starts d)) (Number n) h.read refl; small = h.small }
number_holds (wants_test_of b tests m) d n ts h =
    record {
      ordered = tt;
      read = word_pushed ts _ _ (tokens_of (front at_starts d)) (Number n) h.read
          (ap (λ l. Key key.Bound ∷ Number b ∷ Key key.Chain ∷ map Number l) (flat_map-append test_numbers tests (record { «module» = m; test = n } ∷ []))
          ∙ ap (λ l. Key key.Bound ∷ Number b ∷ Key key.Chain ∷ l) (map-append Number (flat_map test_numbers tests) (m ∷ n ∷ []))
          ∙ sym (append_assoc (line_tokens (bound_line_by b (OfChain tests))) (Number m ∷ []) (Number n ∷ [])));
      small = h.small;
    }
number_holds (in_forced b ms) d n ts h = record { ordered = tt; read = word_pushed ts _ _ (tokens_of (front at_starts d)) (Number n) h.read (ap (λ l. Key key.Bound ∷ Number b ∷ Key key.Forced ∷ l) (numbers_push ms n)); small = h.small }
number_holds p d n ts h = tt

-- words that were read to a state are its words
read_holds : (ts : List (Token Keyword)) (s : State) → IsRun plan_machine ts s → Holds s.draft s.part ts
read_holds ts s runs =
    kept_holds plan_machine IsRead (record { ordered = (refl, refl, refl); read = refl; small = λ k d h. absurd (omega arith) })
    (kept_by_words plan_machine IsRead (λ ts s n h. number_holds s.part s.draft n ts h) (λ ts s k h. key_holds s.part s.draft k ts h)) ts s runs

-- ---- where the words end

whole_lines : (d : DraftValue) (b : BoundValue) → tokens_of (front at_starts d) ++ line_tokens (bound_line b) ≡ plan_tokens (plan_with d b)
unfolding plan_tokens
whole_lines d b =
    sym (tokens_push (front at_starts d) (bound_line b))
    ∙ ap (λ ls. tokens_of (headed d ls))
    (append_assoc (map bus_line d.buses) (flat_map wrapper_lines d.wrappers ++ map start_line d.starts) (bound_line b ∷ [])
    ∙ ap (λ ls. map bus_line d.buses ++ ls) (append_assoc (flat_map wrapper_lines d.wrappers) (map start_line d.starts) (bound_line b ∷ [])))

-- the words of whole parts and a bound are those of the plan with both
bound_said : (d : DraftValue) (ts : List (Token Keyword)) (b : BoundValue) (p : PlanValue) → AreSmallStarts d.starts → ts ≡ tokens_of (front at_starts d) ++ line_tokens (bound_line b) →
    Some (plan_with d b) ≡ Some p → IsSaid plan_grammar ts p
bound_said d ts b p small read e =
    let same : plan_with d b ≡ p = cc in
    subst (IsSaid plan_grammar ts) same (record { words = read ∙ whole_lines d b; allowed = small })

part_said : (part : PartValue) (d : DraftValue) (ts : List (Token Keyword)) (p : PlanValue) → Holds d part ts → ended (at d part) ≡ Some p → IsSaid plan_grammar ts p
part_said (whole b) d ts p h e = bound_said d ts b p h.small h.read e
part_said (in_tests c tests) d ts p h e = bound_said d ts (record { cycles = c; why = OfChain tests }) p h.small h.read e
part_said (in_forced c ms) d ts p h e = bound_said d ts (record { cycles = c; why = OfForced ms }) p h.small h.read e
part_said part d ts p h e = absurd cc

-- words that may end are those of their plan
pub plan_said : (ts : List (Token Keyword)) (s : State) (p : PlanValue) → IsRun plan_machine ts s → ended s ≡ Some p → IsSaid plan_grammar ts p
plan_said ts s p runs ends = part_said s.part s.draft ts p (read_holds ts s runs) ends
