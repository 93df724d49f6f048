-- A plan with a fault isn't good or its certificate isn't accepted, and it has one fault.
use Rattle.std.proofs.Common.{◌≡◌, ℕ, ◌<◌, ◌≤◌, Bool, Some, List, ap, ◌∙◌, sym, subst, arith, inl, inr, ◌⊎◌}
use Rattle.std.specs.Prelude.{slice_get}
use Rattle.std.proofs.lemmas.Bool.{cases_order}
use Rattle.soc_model.specs.declared.TestId.{TestId}
use Rattle.soc_model.specs.Chips.{SocValue}
use Rattle.plan_model.specs.Plans.{PlanValue, LimitsValue, PlannedTest, planned, power_at, WhyValue, OfModule, OfPair, OfChain, OfArea, OfPower, OfForced, BoundValue}
use Rattle.plan_model.specs.Certificates.{KeepsList, IsListBreach, IsAccepted, CertificateFault, BadListFault, LessFault, IsCertificateFault}
use Rattle.plan_model.specs.Faults.{FaultValue, WidthFault, UnknownModuleFault, ModulePlaceFault, WrapperListFault, CellsFault, TestsFault, WireFault, BusyFault, ParentFault, BeforeFault, PowerFault, CyclesFault, BoundFault, FirstOf, Present, Missing, IsFirstClash, IsFault, IsFaultless, Shows, rank_of, fault_rank}
use Rattle.plan_model.specs.Rules.{Each, IsFirstBreach, Clash, Keeps, Rule, Widths, Known, Places, Wrappers, Proper, Starts, Wires, Busy, Parents, Precedences, Power, Cycles, pair_of}

first_breaks : {X : Type 0} (P : List X → X → Type 0) (xs : List X) (n : ℕ) (x : X) → IsFirstBreach P xs n x → Each P xs → ⊥
first_breaks P xs n x f each = f.breaks (each n x f.there)

first_of_breaks : {X Y Z : Type 0} (P : List X → X → Type 0) (xs : List X) (f : X → Z) (Q : List Y → Y → Type 0) (ys : List Y) (g : Y → Z) (z : Z) → FirstOf P xs f Q ys g z → Each P xs → Each Q ys → ⊥
first_of_breaks P xs f Q ys g z (Present n x first is) p q = first_breaks P xs n x first p
first_of_breaks P xs f Q ys g z (Missing all n y first is) p q = first_breaks Q ys n y first q

-- ---- the certificate

breach_breaks : (soc : SocValue) (limits : LimitsValue) (claim : ℕ) (why : WhyValue) (place : ℕ) → IsListBreach soc limits claim why place → KeepsList soc limits claim why → ⊥
breach_breaks soc limits claim (OfModule m) place b k = b.0 k
breach_breaks soc limits claim (OfPair m) place b k = b.0 k
breach_breaks soc limits claim (OfChain tests) place b k = first_breaks _ tests place b.0 b.1 k
breach_breaks soc limits claim OfArea place b k = b
breach_breaks soc limits claim OfPower place b k = b
breach_breaks soc limits claim (OfForced ms) place b k = first_breaks _ ms place b.0 b.1 k

certificate_breaks : (soc : SocValue) (limits : LimitsValue) (bound : BoundValue) (f : CertificateFault) → IsCertificateFault soc limits bound f → IsAccepted soc limits bound → ⊥
certificate_breaks soc limits bound (BadListFault place) b ok = breach_breaks soc limits bound.cycles bound.why place b ok.keeps
certificate_breaks soc limits bound (LessFault claimed shown) b ok = omega (arith, ok.enough, b.1, b.2, b.3)

-- ---- the rules

-- the rule that a fault is of is kept; of the certificate, that it is accepted
abbrev pub KeepsRuleOf : SocValue → LimitsValue → PlanValue → FaultValue → Type 0
KeepsRuleOf soc limits plan (WidthFault bus) = Keeps soc limits plan Widths
KeepsRuleOf soc limits plan (UnknownModuleFault m) = Keeps soc limits plan Known
KeepsRuleOf soc limits plan (ModulePlaceFault m) = Keeps soc limits plan Places
KeepsRuleOf soc limits plan (WrapperListFault m scan) = Keeps soc limits plan Wrappers
KeepsRuleOf soc limits plan (CellsFault m scan) = Keeps soc limits plan Proper
KeepsRuleOf soc limits plan (TestsFault id) = Keeps soc limits plan Starts
KeepsRuleOf soc limits plan (WireFault a b c) = Keeps soc limits plan Wires
KeepsRuleOf soc limits plan (BusyFault a b c) = Keeps soc limits plan Busy
KeepsRuleOf soc limits plan (ParentFault a b c) = Keeps soc limits plan Parents
KeepsRuleOf soc limits plan (BeforeFault a b) = Keeps soc limits plan Precedences
KeepsRuleOf soc limits plan (PowerFault c sum) = Keeps soc limits plan Power
KeepsRuleOf soc limits plan (CyclesFault right) = Keeps soc limits plan Cycles
KeepsRuleOf soc limits plan (BoundFault fault) = IsAccepted soc limits plan.bound

pub shows_breaks : (soc : SocValue) (limits : LimitsValue) (plan : PlanValue) (f : FaultValue) → Shows soc limits plan f → KeepsRuleOf soc limits plan f → ⊥
shows_breaks soc limits plan (WidthFault bus) s k = s.1.breaks (k bus s.0 s.1.there)
shows_breaks soc limits plan (UnknownModuleFault m) s k = s.1.breaks (k s.0 m s.1.there)
shows_breaks soc limits plan (ModulePlaceFault m) s k = first_of_breaks _ _ _ _ _ _ m s k.0 k.1
shows_breaks soc limits plan (WrapperListFault m scan) s k = first_of_breaks _ _ _ _ _ _ (m, scan) s k.0 k.1
shows_breaks soc limits plan (CellsFault m scan) s k = s.2.breaks (k s.0 s.1 s.2.there)
shows_breaks soc limits plan (TestsFault id) s k = first_of_breaks _ _ _ _ _ _ id s k.0 k.1
shows_breaks soc limits plan (WireFault a b c) s k = k s.i s.j c s.t s.u s.clash
shows_breaks soc limits plan (BusyFault a b c) s k = k s.i s.j c s.t s.u s.clash
shows_breaks soc limits plan (ParentFault a b c) s k = k s.i s.j c s.t s.u s.clash
shows_breaks soc limits plan (BeforeFault a b) s k = s.1.breaks (k s.0 (a, b) s.1.there)
shows_breaks soc limits plan (PowerFault c sum) s k = s.passes (k c)
shows_breaks soc limits plan (CyclesFault right) s k = s.0 (k ∙ sym s.1)
shows_breaks soc limits plan (BoundFault fault) s k = certificate_breaks soc limits plan.bound fault s k

-- a faultless plan keeps each rule
kept : (soc : SocValue) (limits : LimitsValue) (plan : PlanValue) (f : FaultValue) → IsFaultless soc limits plan → KeepsRuleOf soc limits plan f
kept soc limits plan (WidthFault bus) ok = ok.0 Widths
kept soc limits plan (UnknownModuleFault m) ok = ok.0 Known
kept soc limits plan (ModulePlaceFault m) ok = ok.0 Places
kept soc limits plan (WrapperListFault m scan) ok = ok.0 Wrappers
kept soc limits plan (CellsFault m scan) ok = ok.0 Proper
kept soc limits plan (TestsFault id) ok = ok.0 Starts
kept soc limits plan (WireFault a b c) ok = ok.0 Wires
kept soc limits plan (BusyFault a b c) ok = ok.0 Busy
kept soc limits plan (ParentFault a b c) ok = ok.0 Parents
kept soc limits plan (BeforeFault a b) ok = ok.0 Precedences
kept soc limits plan (PowerFault c sum) ok = ok.0 Power
kept soc limits plan (CyclesFault right) ok = ok.0 Cycles
kept soc limits plan (BoundFault fault) ok = ok.1

pub faulty_is_not_good : (soc : SocValue) (limits : LimitsValue) (plan : PlanValue) (f : FaultValue) → IsFault soc limits plan f → IsFaultless soc limits plan → ⊥
faulty_is_not_good soc limits plan f is ok = shows_breaks soc limits plan f is.shows (kept soc limits plan f ok)

-- a fault of a lower rank is of a rule that the other one keeps
kept_below : (soc : SocValue) (limits : LimitsValue) (plan : PlanValue) (f : FaultValue) (n : ℕ) → fault_rank f < n → n ≤ 13 → ((r : Rule) → rank_of r < n → Keeps soc limits plan r) → KeepsRuleOf soc limits plan f
kept_below soc limits plan (WidthFault bus) n less few k = k Widths less
kept_below soc limits plan (UnknownModuleFault m) n less few k = k Known less
kept_below soc limits plan (ModulePlaceFault m) n less few k = k Places less
kept_below soc limits plan (WrapperListFault m scan) n less few k = k Wrappers less
kept_below soc limits plan (CellsFault m scan) n less few k = k Proper less
kept_below soc limits plan (TestsFault id) n less few k = k Starts less
kept_below soc limits plan (WireFault a b c) n less few k = k Wires less
kept_below soc limits plan (BusyFault a b c) n less few k = k Busy less
kept_below soc limits plan (ParentFault a b c) n less few k = k Parents less
kept_below soc limits plan (BeforeFault a b) n less few k = k Precedences less
kept_below soc limits plan (PowerFault c sum) n less few k = k Power less
kept_below soc limits plan (CyclesFault right) n less few k = k Cycles less
kept_below soc limits plan (BoundFault fault) n less few k = absurd (omega arith)

rank_few : (f : FaultValue) → fault_rank f ≤ 13
rank_few (WidthFault bus) = omega arith
rank_few (UnknownModuleFault m) = omega arith
rank_few (ModulePlaceFault m) = omega arith
rank_few (WrapperListFault m scan) = omega arith
rank_few (CellsFault m scan) = omega arith
rank_few (TestsFault id) = omega arith
rank_few (WireFault a b c) = omega arith
rank_few (BusyFault a b c) = omega arith
rank_few (ParentFault a b c) = omega arith
rank_few (BeforeFault a b) = omega arith
rank_few (PowerFault c sum) = omega arith
rank_few (CyclesFault right) = omega arith
rank_few (BoundFault fault) = omega arith

-- ---- there is one fault

first_place : {X : Type 0} (P : List X → X → Type 0) (xs : List X) (n m : ℕ) (x y : X) → IsFirstBreach P xs n x → IsFirstBreach P xs m y → (n ≡ m) × (x ≡ y)
first_place P xs n m x y f g = elim (cases_order n m) [
  | inl same ↦
      let here : slice_get xs m ≡ Some x = rw (← same) f.there in
      let there : slice_get xs m ≡ Some y = g.there in
      (same, cc)
  | inr other ↦ elim other [ inl less ↦ absurd (f.breaks (g.earlier n x less f.there)) | inr more ↦ absurd (g.breaks (f.earlier m y more g.there)) ]
]

first_of_one : {X Y Z : Type 0} (P : List X → X → Type 0) (xs : List X) (f : X → Z) (Q : List Y → Y → Type 0) (ys : List Y) (g : Y → Z) (z w : Z) → FirstOf P xs f Q ys g z → FirstOf P xs f Q ys g w → z ≡ w
first_of_one P xs f Q ys g z w (Present n x a e) (Present m y b h) = e ∙ ap f (first_place P xs n m x y a b).1 ∙ sym h
first_of_one P xs f Q ys g z w (Present n x a e) (Missing all m y b h) = absurd (first_breaks P xs n x a all)
first_of_one P xs f Q ys g z w (Missing all n x a e) (Present m y b h) = absurd (first_breaks P xs m y b all)
first_of_one P xs f Q ys g z w (Missing all n x a e) (Missing all' m y b h) = e ∙ ap g (first_place Q ys n m x y a b).1 ∙ sym h

pair_order : (i j i' j' : ℕ) → (i < i') ⊎ ((i ≡ i') × (j ≤ j')) → (i' < i) ⊎ ((i' ≡ i) × (j' ≤ j)) → (i ≡ i') × (j ≡ j')
pair_order i j i' j' (inl a) (inl b) = absurd (omega arith)
pair_order i j i' j' (inl a) (inr b) = absurd (omega (arith, b.0))
pair_order i j i' j' (inr a) (inl b) = absurd (omega (arith, a.0))
pair_order i j i' j' (inr a) (inr b) = (a.0, omega (arith, a.1, b.1))

clash_one : (R : PlannedTest → PlannedTest → Type 0) (tests : List PlannedTest) (a b a' b' : TestId) (c c' : ℕ) → IsFirstClash R tests a b c → IsFirstClash R tests a' b' c' → (a ≡ a') × (b ≡ b') × (c ≡ c')
clash_one R tests a b a' b' c c' f g =
    let less : c ≤ c' = f.least_cycle g.i g.j c' g.t g.u g.clash in
    let more : c' ≤ c = g.least_cycle f.i f.j c f.t f.u f.clash in
    let same : c ≡ c' = omega arith in
    let p = pair_order f.i f.j g.i g.j (f.least_pair g.i g.j g.t g.u (subst (λ v. Clash R tests g.i g.j v g.t g.u) (sym same) g.clash)) (g.least_pair f.i f.j f.t f.u (subst (λ v. Clash R tests f.i f.j v f.t f.u) same f.clash)) in
    (f.a_is ∙ ap (λ (t : PlannedTest). t.id) (one f.i g.i f.t g.t p.0 f.clash.first g.clash.first) ∙ sym g.a_is, f.b_is ∙ ap (λ (t : PlannedTest). t.id) (one f.j g.j f.u g.u p.1 f.clash.second g.clash.second) ∙ sym g.b_is, same)
  where
    one : (i j : ℕ) (t u : PlannedTest) → i ≡ j → slice_get tests i ≡ Some t → slice_get tests j ≡ Some u → t ≡ u
    one i j t u same at at' = let here : slice_get tests j ≡ Some t = rw (← same) at in cc

breach_one : (soc : SocValue) (limits : LimitsValue) (claim : ℕ) (why : WhyValue) (p q : ℕ) → IsListBreach soc limits claim why p → IsListBreach soc limits claim why q → p ≡ q
breach_one soc limits claim (OfModule m) p q a b = a.1 ∙ sym b.1
breach_one soc limits claim (OfPair m) p q a b = a.1 ∙ sym b.1
breach_one soc limits claim (OfChain tests) p q a b = (first_place _ tests p q a.0 b.0 a.1 b.1).0
breach_one soc limits claim OfArea p q a b = absurd a
breach_one soc limits claim OfPower p q a b = absurd a
breach_one soc limits claim (OfForced ms) p q a b = (first_place _ ms p q a.0 b.0 a.1 b.1).0

certificate_one : (soc : SocValue) (limits : LimitsValue) (bound : BoundValue) (f g : CertificateFault) → IsCertificateFault soc limits bound f → IsCertificateFault soc limits bound g → f ≡ g
certificate_one soc limits bound (BadListFault p) (BadListFault q) a b = ap BadListFault (breach_one soc limits bound.cycles bound.why p q a b)
certificate_one soc limits bound (BadListFault p) (LessFault c s) a b = absurd (breach_breaks soc limits bound.cycles bound.why p a b.0)
certificate_one soc limits bound (LessFault c s) (BadListFault p) a b = absurd (breach_breaks soc limits bound.cycles bound.why p b a.0)
certificate_one soc limits bound (LessFault c s) (LessFault c' s') a b =
    let claims : c ≡ c' = a.1 ∙ sym b.1 in
    let values : s ≡ s' = a.2 ∙ sym b.2 in
    cc

same_rank : (soc : SocValue) (limits : LimitsValue) (plan : PlanValue) (f g : FaultValue) → IsFault soc limits plan f → IsFault soc limits plan g → fault_rank f ≡ fault_rank g
same_rank soc limits plan f g a b = elim (cases_order (fault_rank f) (fault_rank g)) [
  | inl same ↦ same
  | inr other ↦ elim other [
    | inl less ↦ absurd (shows_breaks soc limits plan f a.shows (kept_below soc limits plan f (fault_rank g) less (rank_few g) b.keeps_before))
    | inr more ↦ absurd (shows_breaks soc limits plan g b.shows (kept_below soc limits plan g (fault_rank f) more (rank_few f) a.keeps_before))
  ]
]

one_shown : (soc : SocValue) (limits : LimitsValue) (plan : PlanValue) (f g : FaultValue) → fault_rank f ≡ fault_rank g → Shows soc limits plan f → Shows soc limits plan g → f ≡ g
one_shown soc limits plan (WidthFault a) (WidthFault b) e s t = ap WidthFault (first_place _ _ a b _ _ s.1 t.1).0
one_shown soc limits plan (WidthFault a) g e s t = absurd (omega arith)
one_shown soc limits plan (UnknownModuleFault a) (UnknownModuleFault b) e s t = ap UnknownModuleFault (first_place _ _ _ _ a b s.1 t.1).1
one_shown soc limits plan (UnknownModuleFault a) g e s t = absurd (omega arith)
one_shown soc limits plan (ModulePlaceFault a) (ModulePlaceFault b) e s t = ap ModulePlaceFault (first_of_one _ _ _ _ _ _ a b s t)
one_shown soc limits plan (ModulePlaceFault a) g e s t = absurd (omega arith)
one_shown soc limits plan (WrapperListFault a x) (WrapperListFault b y) e s t = ap (λ (p : ℕ × Bool). WrapperListFault p.0 p.1) (first_of_one _ _ _ _ _ _ (a, x) (b, y) s t)
one_shown soc limits plan (WrapperListFault a x) g e s t = absurd (omega arith)
one_shown soc limits plan (CellsFault a x) (CellsFault b y) e s t = ap (λ (p : ℕ × Bool). CellsFault p.0 p.1) (s.3 ∙ ap pair_of (first_place _ _ _ _ _ _ s.2 t.2).1 ∙ sym t.3)
one_shown soc limits plan (CellsFault a x) g e s t = absurd (omega arith)
one_shown soc limits plan (TestsFault a) (TestsFault b) e s t = ap TestsFault (first_of_one _ _ _ _ _ _ a b s t)
one_shown soc limits plan (TestsFault a) g e s t = absurd (omega arith)
one_shown soc limits plan (WireFault a b c) (WireFault a' b' c') e s t = let p = clash_one _ _ a b a' b' c c' s t in cc (p.0, p.1, p.2)
one_shown soc limits plan (WireFault a b c) g e s t = absurd (omega arith)
one_shown soc limits plan (BusyFault a b c) (BusyFault a' b' c') e s t = let p = clash_one _ _ a b a' b' c c' s t in cc (p.0, p.1, p.2)
one_shown soc limits plan (BusyFault a b c) g e s t = absurd (omega arith)
one_shown soc limits plan (ParentFault a b c) (ParentFault a' b' c') e s t = let p = clash_one _ _ a b a' b' c c' s t in cc (p.0, p.1, p.2)
one_shown soc limits plan (ParentFault a b c) g e s t = absurd (omega arith)
one_shown soc limits plan (BeforeFault a b) (BeforeFault a' b') e s t = ap (λ (p : TestId × TestId). BeforeFault p.0 p.1) (first_place _ _ _ _ (a, b) (a', b') s.1 t.1).1
one_shown soc limits plan (BeforeFault a b) g e s t = absurd (omega arith)
one_shown soc limits plan (PowerFault c x) (PowerFault c' x') e s t =
    let same : c ≡ c' = elim (cases_order c c') [
      | inl one ↦ one
      | inr other ↦ elim other [ inl less ↦ absurd (s.passes (t.earlier c less)) | inr more ↦ absurd (t.passes (s.earlier c' more)) ]
    ] in
    let sums : x ≡ x' = s.sum_is ∙ ap (power_at limits (planned soc plan)) same ∙ sym t.sum_is in
    cc
one_shown soc limits plan (PowerFault c x) g e s t = absurd (omega arith)
one_shown soc limits plan (CyclesFault a) (CyclesFault b) e s t = ap CyclesFault (s.1 ∙ sym t.1)
one_shown soc limits plan (CyclesFault a) g e s t = absurd (omega arith)
one_shown soc limits plan (BoundFault a) (BoundFault b) e s t = ap BoundFault (certificate_one soc limits plan.bound a b s t)
one_shown soc limits plan (BoundFault a) g e s t = absurd (omega arith)

-- a plan has at most one fault
pub one_fault : (soc : SocValue) (limits : LimitsValue) (plan : PlanValue) (f g : FaultValue) → IsFault soc limits plan f → IsFault soc limits plan g → f ≡ g
one_fault soc limits plan f g a b = one_shown soc limits plan f g (same_rank soc limits plan f g a b) a.shows b.shows
