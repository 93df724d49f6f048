-- What one live test puts into the lines of its cycles, and the lines that all tests make together.
use Rattle.std.proofs.Common.{◌≡◌, ℕ, zero, suc, ◌+◌, ◌-◌, ◌*◌, ◌≤◌, ◌<◌, ◌⊎◌, min, Bool, true, false, true≢false, Option, Some, None, List, [], ◌∷◌, length, drop, refl, ap, sym, subst, ◌∙◌, arith, inl, inr, slice_get, option_map}
use Rattle.std.proofs.lemmas.List.{get_or_past}
use Rattle.std.proofs.lemmas.Option.{slice_get_within, same_Some}
use Rattle.std.proofs.lemmas.Bool.{cases_lt, cases_eq, cases_Bool, false_from_ne_true, le-ltb}
use Rattle.plan_model.specs.Cells.{Cell, out_length}
use Rattle.plan_model.specs.OneTest.{from_end}
use Rattle.plan_model.specs.Operations.{Operation, Capture}
use Rattle.plan_model.specs.Plans.{PlannedTest, uses}
use Rattle.plan_model.specs.Right.{IsAt, IsReadAt}
use Rattle.plan_model.specs.Runs.{Content, carried, chain_at, wanted}
use Rattle.plan_model.specs.Moments.{phase_ops, near_capture, wanted_by, moment_ahead, moment_behind, IsMoment}
use Rattle.plan_model.specs.declared.moments.NearCapture.{NearCapture}
use Rattle.plan_model.specs.declared.moments.Moment.{Moment}
use Rattle.plan_model.proofs.ChainsInTheRun.{at_first_user_is, uses_wire}
use Rattle.plan_model.proofs.LoadsAndReads.{begun_at, chain_is}
use Rattle.plan_model.proofs.TestsInGoodPlans.{Uses, uses_is}
use Rattle.vector_lines.specs.Lanes.{IsFilled, IsRouted, AreLanes, AreSomeLanes}
use Rattle.vector_lines.specs.Wires.{AreOnWires}
use Rattle.vector_lines.specs.Marks.{Keys, Marks}
use Rattle.vector_lines.specs.Paths.{is_answered}
use Rattle.vector_lines.specs.Vectors.{digit, byte_at, earlier, later, AreShifts, AreChainsPut, ArePlayed, HasLane, HasSomeLane, IsBlank, IsLineBelow, IsLineOf, IsPlayed}
use Rattle.vector_lines.specs.declared.lane.Lane.{Lane}
use Rattle.vector_lines.proofs.WireReads.{nobody, from_answered, at_end, read_there}
use Rattle.common_lemmas.proofs.Lists.{some_item}
use Rattle.common_lemmas.proofs.Options.{none_some}
use Rattle.plan_model.specs.declared.moments.Moment.TheVariants as moment

-- ---- a lane and its test

pub some_lane_at : {keys : Keys} {lanes : List Lane} {wires : ℕ} (i : ℕ) {l : Lane} → AreSomeLanes keys lanes wires → slice_get lanes i ≡ Some l →
    HasSomeLane keys wires l
some_lane_at {lanes} i {l} s at =
    let within = slice_get_within lanes i l at in
    let t = some_item s.tests i (omega arith) in
    record { tests = s.tests; place = i; test = t.0; has = record { at = t.1; on = s.on; is = s.are.lane i t.0 l t.1 at } }

module _ {keys : Keys} {wires : ℕ} {l : Lane} (s : HasSomeLane keys wires l) (tam : l.tam ≡ true) where
  -- the test of a lane over the wires
  some_routed : (s.test.tam ≡ true) × IsRouted s.has.is.inputs s.has.is.lengths s.test l
  some_routed = let tam' : s.test.tam ≡ true = sym s.has.is.fitted.tam ∙ tam in (tam', s.has.is.fitted.wired tam')

  pub columns_fit : l.first_wire + length l.paths.items ≤ wires
  columns_fit =
      let r = some_routed in
      let fit = s.has.on.fit s.place s.test s.has.at in
      let within = s.has.on.within s.place s.test s.has.at r.0 in
      omega arith

  pub going : (cycle : ℕ) → l.start ≤ cycle → cycle < l.end → cycle - l.start < length (phase_ops l.phases)
  going cycle begun less =
      let w = (some_routed).1 in
      let long : length s.test.operations ≡ length (phase_ops l.phases) = ap length w.operations in
      omega arith

-- ---- a cycle of a test

module _ {content : Content} {marks : Marks} {wires : ℕ} (c row : ℕ) {t : PlannedTest} (old new : List ℕ) where
  -- a test that has no wire at a cycle leaves its line
  pub unused_played : {drive : ℕ → ℕ → ℕ → Bool} {mark : ℕ → ℕ → ℕ → ℕ} {tests : List PlannedTest} {i : ℕ} {l : Lane} →
      HasLane (IsFilled drive mark content marks) tests wires i t l → ((w : ℕ) → uses c w t ≡ true → ⊥) →
      ((column : ℕ) → column < 2 * wires + 2 → byte_at new wires row column ≡ byte_at old wires row column) →
      IsPlayed content marks t wires c row old new
  unused_played {i} h none kept = record {
    driven = λ w used blank. absurd (none w used);
    idle = λ w less unused. kept w (omega arith);
    reads = λ k w x read. absurd (none w (h.on.reads i k c w t x h.at read));
    rest = λ w less. inl (kept (wires + 1 + w) (omega arith));
    space = kept wires (omega arith);
    feed = kept (wires + 1 + wires) (omega arith);
  }

  -- what was put stays between two changes elsewhere
  pub played_between : {now mid : List ℕ} → ((column : ℕ) → column < 2 * wires + 2 → byte_at now wires row column ≡ byte_at old wires row column) →
      ((column : ℕ) → column < 2 * wires + 2 → byte_at new wires row column ≡ byte_at mid wires row column) →
      ((w : ℕ) → uses c w t ≡ true → w < wires) → ((k w : ℕ) (x : Cell) → IsReadAt t k x c w → w < wires) →
      IsPlayed content marks t wires c row now mid → IsPlayed content marks t wires c row old new
  played_between before after narrow narrow' is = record {
    driven = λ w used blank. after w (omega (arith, narrow w used)) ∙ is.driven w used (before w (omega (arith, narrow w used)) ∙ blank);
    idle = λ w less unused. after w (omega arith) ∙ is.idle w less unused ∙ before w (omega arith);
    reads = λ k w x read. after (wires + 1 + w) (omega (arith, narrow' k w x read)) ∙ is.reads k w x read;
    rest = λ w less. elim (is.rest w less) [
      | inl same ↦ inl (after (wires + 1 + w) (omega arith) ∙ same ∙ before (wires + 1 + w) (omega arith))
      | inr read ↦ inr read
    ];
    space = after wires (omega arith) ∙ is.space ∙ before wires (omega arith);
    feed = after (wires + 1 + wires) (omega arith) ∙ is.feed ∙ before (wires + 1 + wires) (omega arith);
  }

module _ {drive : ℕ → ℕ → ℕ → Bool} {mark : ℕ → ℕ → ℕ → ℕ} {content : Content} {marks : Marks} {tests : List PlannedTest} {wires i : ℕ} (c w : ℕ)
    {t : PlannedTest} {l : Lane} (h : HasLane (IsFilled drive mark content marks) tests wires i t l) where
  -- the wires of a test are among all
  pub used_narrow : uses c w t ≡ true → w < wires
  used_narrow used =
      let u = uses_is c w t used in
      let within = h.on.within i t h.at u.tam in
      omega arith

  pub read_narrow : {k : ℕ} {x : Cell} → IsReadAt t k x c w → w < wires
  read_narrow {k} {x} read = used_narrow (h.on.reads i k c w t x h.at read)

wanted_nothing : (f : ℕ → Cell → Bool) (o : Option (ℕ × ℕ)) → wanted_by f [] o ≡ false
wanted_nothing f None = refl
wanted_nothing f (Some a) = rw (le-ltb a.0 0 (omega arith)) refl

module _ (t : PlannedTest) (l : Lane) (c : ℕ) {n : ℕ} {m : Moment} (at : c - t.start ≡ n) (mo : IsMoment l.phases n m) where
  -- what is wanted at a moment
  wanted_at : (content : Content) (cells : List Cell) → t.operations ≡ phase_ops l.phases →
      wanted (content.stimulus t.id) cells (drop (c - t.start) t.operations) ≡ wanted_by (content.stimulus t.id) cells (moment_ahead m)
  wanted_at content cells operations =
      ap (λ (ops : List Operation). wanted (content.stimulus t.id) cells (drop (c - t.start) ops)) operations ∙ ap (λ n. wanted (content.stimulus t.id) cells (drop n (phase_ops l.phases))) at ∙ mo.wants (content.stimulus t.id) cells

  -- what is read at a moment lies behind it
  behind_at : {inputs : ℕ} {lengths : List ℕ} {k w : ℕ} {x : Cell} → IsRouted inputs lengths t l → (r : IsReadAt t k x c w) →
      moment_behind m ≡ Some (r.shifts, k)
  behind_at {k} wired r =
      let begun = begun_at t r.capture (Capture k) r.captures in
      let cells = chain_is t r.chain r.cells r.there in
      let out = wired.out_fits r.chain in
      let within : r.shifts < out_length (chain_at t r.chain) = rw cells r.within in
      mo.every r.shifts k (r.capture - t.start) (rw wired.operations at begun.1) (omega (arith, at)) (omega (arith, within))

module _ {drive : ℕ → ℕ → ℕ → Bool} {mark : ℕ → ℕ → ℕ → ℕ} {content : Content} {marks : Marks} {tests : List PlannedTest} {wires i : ℕ}
    {t : PlannedTest} {l : Lane} (old : List ℕ) (h : HasLane (IsFilled drive mark content marks) tests wires i t l) where
  -- a cycle that is no Shift
  pub still_played : (c row : ℕ) {m : Moment} → t.tam ≡ true → l.start ≤ c → IsMoment l.phases (c - l.start) m → moment_ahead m ≡ None →
      moment_behind m ≡ None → IsPlayed content marks t wires c row old old
  still_played c row tam begun mo no_ahead no_behind = record {
    driven = λ w used blank. blank ∙ ap (λ b. Some (digit b)) (sym (wanted_at t l c at mo content (chain_at t (w - t.first_wire)) wired.operations ∙ ap (wanted_by (content.stimulus t.id) (chain_at t (w - t.first_wire))) no_ahead));
    idle = λ w less unused. refl;
    reads = λ k w x read. absurd (none_some (sym no_behind ∙ behind_at t l c at mo wired read));
    rest = λ w less. inl refl;
    space = refl;
    feed = refl;
  }
    where
      wired : IsRouted h.is.inputs h.is.lengths t l
      wired = h.is.fitted.wired tam

      at : c - t.start ≡ c - l.start
      at = ap (λ n. c - n) (sym h.is.fitted.start)

  -- ---- a stretch

  module _ (cycle : ℕ) {count row : ℕ} {ahead behind : Option NearCapture} {new : List ℕ} (begun : l.start ≤ cycle) (ends : cycle + count ≤ l.end)
      (shifts : AreShifts l.phases (cycle - l.start) ahead behind count) (narrow : l.first_wire + length l.paths.items ≤ wires)
      (put : AreChainsPut (drive l.key) (mark l.key) l.paths.items (length l.paths.items) wires row count l.first_wire ahead behind old new) where
    pub stretch_played : (n : ℕ) → t.tam ≡ true → n < count → IsPlayed content marks t wires (cycle + n) (row + n) old new
    stretch_played n tam less = record {
      driven = λ w used blank. driving w (uses_is (cycle + n) w t used) blank (cases_lt (w - t.first_wire) (length l.paths.items));
      idle = λ w within unused. elim (cases_lt w l.first_wire) [
        | inl before ↦ put.others (row + n) w (omega (arith, within)) (inl (inl before, inl (omega (arith, within))))
        | inr from ↦ elim (cases_lt w (l.first_wire + length l.paths.items)) [
          | inl inside ↦ absurd (true≢false (sym (used w from inside) ∙ unused))
          | inr past ↦ put.others (row + n) w (omega (arith, within)) (inl (inr past, inl (omega (arith, within))))
        ]
      ];
      reads = λ k w x read. marked k w x read;
      rest = λ w within. others w within (cases_lt w l.first_wire) (cases_lt w (l.first_wire + length l.paths.items));
      space = put.others (row + n) wires (omega arith) (inl (inr narrow, inl (omega arith)));
      feed = put.others (row + n) (wires + 1 + wires) (omega arith) (inl (inr (omega arith), inr (omega arith)));
    }
      where
        wired : IsRouted h.is.inputs h.is.lengths t l
        wired = h.is.fitted.wired tam

        first : l.first_wire ≡ t.first_wire
        first = wired.first_wire

        many : length l.paths.items ≡ length t.chains
        many = wired.chains

        at : cycle + n - t.start ≡ cycle - l.start + n
        at = let start = h.is.fitted.start in omega arith

        now : IsMoment l.phases (cycle - l.start + n) (moment.Shift (earlier n ahead) (later n behind))
        now = shifts n less

        driving : (w : ℕ) → Uses (cycle + n) w t → byte_at old wires (row + n) w ≡ Some 48 → (w - t.first_wire < length l.paths.items) ⊎ (length l.paths.items ≤ w - t.first_wire) →
            byte_at new wires (row + n) w ≡ Some (digit (wanted (content.stimulus t.id) (chain_at t (w - t.first_wire)) (drop (cycle + n - t.start) t.operations)))
        driving w u blank (inl there) =
            let p = some_item l.paths.items (w - t.first_wire) there in
            let low = u.low in
            let column : l.first_wire + (w - t.first_wire) ≡ w = omega (arith, first) in
            let byte = put.driven (w - t.first_wire) p.0 there p.1 h.is.inputs h.is.lengths (chain_at t (w - t.first_wire)) (wired.path (w - t.first_wire) p.0 p.1) n less (rw column blank) in
            let byte' = rw column at byte in
            byte' ∙ ap (λ b. Some (digit b)) (ap (λ (f : ℕ → Cell → Bool). wanted_by f (chain_at t (w - t.first_wire)) (option_map near_capture (earlier n ahead))) (sym (h.is.stimulus tam))
            ∙ sym (wanted_at t l (cycle + n) at now content (chain_at t (w - t.first_wire)) wired.operations))
        driving w u blank (inr past) =
            let low = u.low in
            let within = h.on.within i t h.at tam in
            let empty = get_or_past t.chains (w - t.first_wire) [] (omega (arith, many)) in
            let kept = put.others (row + n) w (omega (arith, within)) (inl (inr (omega (arith, first)), inl (omega (arith, within)))) in
            kept ∙ blank ∙ ap (λ b. Some (digit b)) (sym (wanted_at t l (cycle + n) at now content (chain_at t (w - t.first_wire)) wired.operations
            ∙ ap (λ (cells : List Cell). wanted_by (content.stimulus t.id) cells (option_map near_capture (earlier n ahead))) empty ∙ wanted_nothing (content.stimulus t.id) (option_map near_capture (earlier n ahead))))

        -- a wire of a chain is used
        used : (w : ℕ) → l.first_wire ≤ w → w < l.first_wire + length l.paths.items → uses (cycle + n) w t ≡ true
        used w low high =
            let fit = h.on.fit i t h.at in
            let column : t.first_wire + (w - t.first_wire) ≡ w = omega (arith, first) in
            subst (λ w. uses (cycle + n) w t ≡ true) column (uses_wire t (cycle + n) (w - t.first_wire) tam (omega arith) (omega arith) (omega (arith, first, many)))

        marked : (k w : ℕ) (x : Cell) → IsReadAt t k x (cycle + n) w → byte_at new wires (row + n) (wires + 1 + w) ≡ Some (marks t.id k x)
        marked k w x r =
            let cells = chain_is t r.chain r.cells r.there in
            let within : r.shifts < out_length (chain_at t r.chain) = rw cells r.within in
            let there : r.chain < length l.paths.items = let a = slice_get_within t.chains r.chain r.cells r.there in omega (arith, many) in
            let p = some_item l.paths.items r.chain there in
            let behind' = behind_at t l (cycle + n) at now wired r in
            let byte = (put.read r.chain p.0 there p.1).read h.is.inputs h.is.lengths (chain_at t r.chain) (wired.path r.chain p.0 p.1) n r.shifts k less behind' within in
            let column : wires + 1 + (l.first_wire + r.chain) ≡ wires + 1 + w = omega (arith, first) in
            let byte' = rw column at byte in
            let cell = same_Some (from_end (chain_at t r.chain) r.shifts) x (sym (at_end (chain_at t r.chain) r.shifts within) ∙ rw cells r.cell) in
            byte' ∙ ap Some (ap (λ (f : ℕ → Cell → ℕ). f k (from_end (chain_at t r.chain) r.shifts)) (sym (h.is.answers tam)) ∙ ap (marks t.id k) cell)

        others : (w : ℕ) → w < wires → (w < l.first_wire) ⊎ (l.first_wire ≤ w) → (w < l.first_wire + length l.paths.items) ⊎ (l.first_wire + length l.paths.items ≤ w) →
            (byte_at new wires (row + n) (wires + 1 + w) ≡ byte_at old wires (row + n) (wires + 1 + w)) ⊎ ((k : ℕ) × (x : Cell) × IsReadAt t k x (cycle + n) w)
        others w within (inl before) b = inl (put.others (row + n) (wires + 1 + w) (omega (arith, within)) (inl (inr (omega arith), inl (omega arith))))
        others w within (inr from) (inr past) = inl (put.others (row + n) (wires + 1 + w) (omega (arith, within)) (inl (inr (omega arith), inr (omega arith))))
        others w within (inr from) (inl inside) = by (w - t.first_wire) (omega (arith, first)) (omega (arith, first)) (cases_Bool (is_answered (chain_at t (w - t.first_wire)) (option_map near_capture (later n behind)))) where
          by : (j : ℕ) → w ≡ t.first_wire + j → j < length l.paths.items → (is_answered (chain_at t (w - t.first_wire)) (option_map near_capture (later n behind)) ≡ true) ⊎ (is_answered (chain_at t (w - t.first_wire))
              (option_map near_capture (later n behind)) ≡ false) →
              (byte_at new wires (row + n) (wires + 1 + w) ≡ byte_at old wires (row + n) (wires + 1 + w)) ⊎ ((k : ℕ) × (x : Cell) × IsReadAt t k x (cycle + n) w)
          by j wire there (inl yes') =
              let f = from_answered (chain_at t (w - t.first_wire)) (option_map near_capture (later n behind)) yes' in
              let start : t.start ≤ cycle + n = let s : l.start ≡ t.start = h.is.fitted.start in omega arith in
              let number : w - t.first_wire ≡ j = omega arith in
              inr (f.1, from_end (chain_at t (w - t.first_wire)) f.0, read_there t l (cycle + n) w (w - t.first_wire) f.0 f.1 wired.operations start at (omega arith) now f.2 f.3)
          by j wire there (inr no') =
              let p = some_item l.paths.items j there in
              let number : w - t.first_wire ≡ j = omega arith in
              let none : is_answered (chain_at t j) (option_map near_capture (later n behind)) ≡ false = rw number at no' in
              let column : wires + 1 + (l.first_wire + j) ≡ wires + 1 + w = omega (arith, first) in
              let kept = (put.read j p.0 there p.1).unread h.is.inputs h.is.lengths (chain_at t j) (wired.path j p.0 p.1) n less none in
              inl (rw column at kept)

    pub stretch_all : l.tam ≡ true → ArePlayed content marks t wires cycle (cycle + count) row old new
    stretch_all tam = record {
      long = put.long;
      each = λ c low high.
          let place : cycle + (c - cycle) ≡ c = omega arith in
          subst (λ n. IsPlayed content marks t wires n (row + (c - cycle)) old new) place (stretch_played (c - cycle) (sym h.is.fitted.tam ∙ tam) (omega arith));
      others = λ r c less rows. put.others r c less (inr (outer r rows));
    }
      where
        outer : (r : ℕ) → (r < row) ⊎ (row + (cycle + count - cycle) ≤ r) → (r < row) ⊎ (row + count ≤ r)
        outer r (inl above) = inl above
        outer r (inr under) = inr (omega arith)

  pub one_all : (c row : ℕ) {m : Moment} → l.tam ≡ true → l.start ≤ c → IsMoment l.phases (c - l.start) m → moment_ahead m ≡ None →
      moment_behind m ≡ None → ArePlayed content marks t wires c (c + 1) row old old
  one_all c row tam begun mo no_ahead no_behind = record {
    long = refl;
    each = λ c' low high.
        let same : c ≡ c' = omega arith in
        subst (λ n. IsPlayed content marks t wires n (row + (c' - c)) old old) same (still_played c (row + (c' - c)) (sym h.is.fitted.tam ∙ tam) begun mo no_ahead no_behind);
    others = λ r c less rows. refl;
  }

  -- ---- the cycles of a test

  pub played_more : {from cycle until : ℕ} {now new : List ℕ} → from ≤ cycle → cycle ≤ until → ArePlayed content marks t wires from cycle 0 old now →
      ArePlayed content marks t wires cycle until (cycle - from) now new → ArePlayed content marks t wires from until 0 old new
  played_more {from} {cycle} {until} {now} {new} low high before after = record {
    long = after.long ∙ before.long;
    each = λ c a b. elim (cases_lt c cycle) [
      | inl less ↦
          played_between c (0 + (c - from)) old new (λ column narrow. refl) (λ column narrow. after.others (0 + (c - from)) column narrow (inl (omega arith))) (λ w used. used_narrow c w h used) (λ k w x read. read_narrow c w h read)
          (before.each c a less)
      | inr past ↦
          let row : cycle - from + (c - cycle) ≡ 0 + (c - from) = omega arith in
          played_between c (0 + (c - from)) old new (λ column narrow. before.others (0 + (c - from)) column narrow (inr (omega arith))) (λ column narrow. refl) (λ w used. used_narrow c w h used) (λ k w x read. read_narrow c w h read)
          (subst (λ r. IsPlayed content marks t wires c r now new) row (after.each c past b))
    ];
    others = λ r c less rows. after.others r c less (later' r rows) ∙ before.others r c less (sooner r rows);
  }
    where
      later' : (r : ℕ) → (r < 0) ⊎ (0 + (until - from) ≤ r) → (r < cycle - from) ⊎ (cycle - from + (until - cycle) ≤ r)
      later' r (inl none) = inl (omega arith)
      later' r (inr under) = inr (omega arith)

      sooner : (r : ℕ) → (r < 0) ⊎ (0 + (until - from) ≤ r) → (r < 0) ⊎ (0 + (cycle - from) ≤ r)
      sooner r (inl none) = inl none
      sooner r (inr under) = inr (omega arith)

  pub played_all : {from cycle : ℕ} (count : ℕ) {new : List ℕ} → from ≤ cycle → min l.end (from + count) ≤ cycle →
      ArePlayed content marks t wires from cycle 0 old new → (r : ℕ) → r < count → IsPlayed content marks t wires (from + r) r old new
  played_all {from} {cycle} count {new} low over is r less = go (cases_lt (from + r) cycle) where
    go : (from + r < cycle) ⊎ (cycle ≤ from + r) → IsPlayed content marks t wires (from + r) r old new
    go (inl before) = let row : 0 + (from + r - from) ≡ r = omega arith in subst (λ n. IsPlayed content marks t wires (from + r) n old new) row (is.each (from + r) (omega arith) before)
    go (inr past) = unused_played (from + r) r old new h (λ w used. ended (uses_is (from + r) w t used)) (λ column narrow. is.others r column narrow (inr (omega arith))) where
      ended : {w : ℕ} → Uses (from + r) w t → ⊥
      ended u =
          omega arith

  -- a test that isn't over the wires
  pub no_wires : (from : ℕ) → l.tam ≡ false → (r : ℕ) → IsPlayed content marks t wires (from + r) r old old
  no_wires from none r = unused_played (from + r) r old old h (λ w used. true≢false (sym (uses_is (from + r) w t used).tam ∙ sym h.is.fitted.tam ∙ none)) (λ column narrow. refl)

-- ---- the lines of all tests

module _ (content : Content) (marks : Marks) (tests : List PlannedTest) {wires : ℕ} (c : ℕ) {row : ℕ} where
  pub line_first : {text : List ℕ} → IsBlank wires row text → IsLineBelow content marks tests 0 wires c row text
  line_first is = record {
    driven = λ i w t less at used. absurd (omega arith);
    free = λ w h none. is.driven w h;
    reads = λ i k w t x less at read. absurd (omega arith);
    rest = λ w h. inl (is.marks w h);
    space = is.space;
    feed = is.feed;
  }

  pub line_more : {drive : ℕ → ℕ → ℕ → Bool} {mark : ℕ → ℕ → ℕ → ℕ} {n : ℕ} {t : PlannedTest} {l : Lane} {old new : List ℕ} →
      HasLane (IsFilled drive mark content marks) tests wires n t l → IsPlayed content marks t wires c row old new →
      IsLineBelow content marks tests n wires c row old → IsLineBelow content marks tests (n + 1) wires c row new
  line_more {n} {t} {new} h played before = record {
    driven = λ i w u less at used. elim (cases_eq i n) [
      | inl same ↦
          let u' = same_Some t u (sym h.at ∙ rw same at at) in
          let used' : uses c w t ≡ true = rw (← u') at used in
          subst (λ (u : PlannedTest). byte_at new wires row w ≡ Some (digit (wanted (content.stimulus u.id) (chain_at u (w - u.first_wire)) (drop (c - u.start) u.operations)))) u'
          (played.driven w used' (before.free w (used_narrow c w h used') (λ j v less' at' used''. let e = h.on.alone c w n j t v h.at at' used' used'' in omega arith)))
      | inr other ↦
          let unused = false_from_ne_true (uses c w t) (λ used'. other (h.on.alone c w n i t u h.at at used' used)) in
          let u' = uses_is c w u used in
          let within = h.on.within i u at u'.tam in
          played.idle w (omega (arith, within)) unused ∙ before.driven i w u (omega arith) at used
    ];
    free = λ w narrow none. played.idle w narrow (false_from_ne_true (uses c w t) (none n t (omega arith) h.at)) ∙ before.free w narrow (λ i u less. none i u (omega arith));
    reads = λ i k w u x less at read. elim (cases_eq i n) [
      | inl same ↦
          let u' = same_Some t u (sym h.at ∙ rw same at at) in
          subst (λ (u : PlannedTest). byte_at new wires row (wires + 1 + w) ≡ Some (marks u.id k x)) u' (played.reads k w x (rw (← u') at read))
      | inr other ↦
          let used = h.on.reads i k c w u x at read in
          let u' = uses_is c w u used in
          let within = h.on.within i u at u'.tam in
          elim (played.rest w (omega (arith, within))) [
            | inl same ↦ same ∙ before.reads i k w u x (omega arith) at read
            | inr r ↦ absurd (other (h.on.alone c w n i t u h.at at (h.on.reads n r.0 c w t r.1 h.at r.2) used))
          ]
    ];
    rest = λ w narrow. elim (played.rest w narrow) [
      | inl same ↦ elim (before.rest w narrow) [
        | inl dash ↦ inl (same ∙ dash)
        | inr r ↦ inr r
      ]
      | inr r ↦ inr (record { place = n; test = t; pattern = r.0; cell = r.1; at = h.at; read = r.2 })
    ];
    space = played.space ∙ before.space;
    feed = played.feed ∙ before.feed;
  }

-- a wire has a user or none
user_or_none : (tests : List PlannedTest) (c w : ℕ) → ((i : ℕ) × (t : PlannedTest) × IsAt tests i t × (uses c w t ≡ true)) ⊎ ((i : ℕ) (t : PlannedTest) → IsAt tests i t → uses c w t ≡ true → ⊥)
user_or_none [] c w = inr (λ i t at used. cc)
user_or_none (u ∷ tests) c w = go (cases_Bool (uses c w u)) (user_or_none tests c w) where
  go : (uses c w u ≡ true) ⊎ (uses c w u ≡ false) → ((i : ℕ) × (t : PlannedTest) × IsAt tests i t × (uses c w t ≡ true)) ⊎ ((i : ℕ) (t : PlannedTest) → IsAt tests i t → uses c w t ≡ true → ⊥) →
      ((i : ℕ) × (t : PlannedTest) × IsAt (u ∷ tests) i t × (uses c w t ≡ true)) ⊎ ((i : ℕ) (t : PlannedTest) → IsAt (u ∷ tests) i t → uses c w t ≡ true → ⊥)
  go (inl yes') rest = inl (0, u, refl, yes')
  go (inr no') (inl r) = inl (suc r.0, r.1, r.2, r.3)
  go (inr no') (inr none) = inr each where
    each : (i : ℕ) (t : PlannedTest) → IsAt (u ∷ tests) i t → uses c w t ≡ true → ⊥
    each zero t at used = let same = same_Some u t at in true≢false (sym used ∙ ap (uses c w) (sym same) ∙ no')
    each (suc i) t at used = none i t at used

module _ (content : Content) (tests : List PlannedTest) (c : ℕ) where
  carried_is : {wires : ℕ} (w i : ℕ) {t : PlannedTest} → AreOnWires tests wires → IsAt tests i t → uses c w t ≡ true →
      carried content tests c w ≡ wanted (content.stimulus t.id) (chain_at t (w - t.first_wire)) (drop (c - t.start) t.operations)
  unfolding carried
  carried_is w i {t} on at used =
      at_first_user_is (λ i t j. wanted (content.stimulus t.id) (chain_at t j) (drop (c - t.start) t.operations)) c w 0 tests i t at used (λ i' t' at' used'. on.alone c w i i' t t' at at' used used')

  carried_not : (w : ℕ) → ((i : ℕ) (t : PlannedTest) → IsAt tests i t → uses c w t ≡ true → ⊥) → carried content tests c w ≡ false
  unfolding carried
  carried_not w none = nobody (λ i t j. wanted (content.stimulus t.id) (chain_at t j) (drop (c - t.start) t.operations)) c w 0 tests none

  pub line_all : {marks : Marks} {n wires row : ℕ} {text : List ℕ} → AreOnWires tests wires → length tests ≤ n →
      IsLineBelow content marks tests n wires c row text → IsLineOf content marks tests wires c row text
  line_all {n} on all is = record {
    driven = λ w h. elim (user_or_none tests c w) [
      | inl u ↦ is.driven u.0 w u.1 (within u.0 u.1 u.2) u.2 u.3 ∙ ap (λ b. Some (digit b)) (sym (carried_is w u.0 on u.2 u.3))
      | inr none ↦ is.free w h (λ i t less at used. none i t at used) ∙ ap (λ b. Some (digit b)) (sym (carried_not w none))
    ];
    space = is.space;
    reads = λ i k w t x at read. is.reads i k w t x (within i t at) at read;
    rest = λ w h none. elim (is.rest w h) [
      | inl dash ↦ dash
      | inr r ↦ absurd (none r)
    ];
    feed = is.feed;
  }
    where
      within : (i : ℕ) (t : PlannedTest) → IsAt tests i t → i < n
      within i t at = let less = slice_get_within tests i t at in omega arith

-- a lane of these tests
pub lane_has : {Is : PlannedTest → Lane → Type 0} {tests : List PlannedTest} {lanes : List Lane} {wires : ℕ} (i : ℕ) {l : Lane} →
    AreLanes Is tests lanes → AreOnWires tests wires → slice_get lanes i ≡ Some l → (t : PlannedTest) × HasLane Is tests wires i t l
lane_has {tests} {lanes} i {l} are on at =
    let within = slice_get_within lanes i l at in
    let t = some_item tests i (omega arith) in
    (t.0, record { at = t.1; on = on; is = are.lane i t.0 l t.1 at })
