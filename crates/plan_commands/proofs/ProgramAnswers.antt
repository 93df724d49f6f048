-- What is answered of a program: a text says one, or is refused in one line.
use Rattle.std.proofs.Common.{◌≡◌, inl, inr, ℕ, ◌≤◌, List, map, get_or, true, Option, None, Some, Result, Ok, Err, IfOk, length, refl, ap, sym, ◌∙◌, subst, arith, IsTrue, slice_get}
use Rattle.std.proofs.lemmas.Bool.{and_parts}
use Rattle.std.proofs.lemmas.Option.{get_or_from_slice_get}
use Rattle.std.specs.Global.{Vec}
use Rattle.outside.specs.declared.NoMemory.{NoMemory as MemoryFault}
use Rattle.soc_model.specs.declared.Test.{Test}
use Rattle.soc_model.specs.Chips.{ModuleValue, SocValue, is_live}
use Rattle.soc_model.specs.Modes.{is_tam}
use Rattle.plan_model.specs.declared.Wrapper.{Wrapper}
use Rattle.plan_model.specs.Operations.{ops_of}
use Rattle.plan_model.specs.Plans.{LimitsValue, PlanValue, WrapperValue, si_of, so_of}
use Rattle.plan_model.specs.Views.{wrapper_value}
use Rattle.plan_model.proofs.FoundWrappers.{IsFound}
use Rattle.shift_program.specs.declared.ProgramFault.{ProgramFault}
use Rattle.shift_program.specs.Programs.{ProgramValue, WrappedTest, wrapped_test, operations}
use Rattle.shift_program.specs.RightPrograms.{AreRight}
use Rattle.shift_program.specs.Faults.{needed_for, IsFault}
use Rattle.shift_program.specs.Answers.{Says, RefusedAt, IsReadProgram, RefusesText}
use Rattle.shift_program.specs.Laws.{RightAreFaultless, OneFault, TextsHaveOneAnswer}
use Rattle.commands.specs.declared.Status.TheVariants.{Done, Refused}
use Rattle.commands.specs.declared.Verdict.{Verdict}
use Rattle.commands.specs.declared.Verdict.TheVariants.{Answered, CannotRead, NoMemory as OutOfMemory}
use Rattle.commands.specs.Texts.{is_line}
use Rattle.plan_commands.specs.Laws.{ProgramLaws}
use Rattle.plan_commands.specs.ShiftPrograms.{named_test, test_cycles, wrapper_for, planned_for, IsRightFor, IsRightProgram, RightIn, SaysRight, RefusedIn, RefusesProgram, program_line, program_fault_line, accepted_program, accepted_with, with_program, Judges}
use Rattle.commands.specs.Decides.{GivesText}
use Rattle.commands.specs.Procedures.{Procedure, done_with}
use Rattle.commands.specs.Settled.{SaysOne, RefusesOne, IsSettled}
use Rattle.commands.proofs.Settled.{done_once}
use Rattle.commands.proofs.Judged.{JudgedLaws, judged_one, judged_refused_one}

-- ---- one answer

-- a program that was read is refused
abbrev RefusedProgram : SocValue → PlanValue → ProgramValue → List ℕ → Type 0
RefusedProgram chip plan program text = RefusedIn plan program (named_test chip program.test) text

same_program : TextsHaveOneAnswer → (bytes : List ℕ) (v w : ProgramValue) → IsReadProgram bytes v → IsReadProgram bytes w → v ≡ w
same_program law bytes v w a b = let same : Says v ≡ Says w = law bytes (Says v) (Says w) a b in cc

-- a refusal of a program that was read is one line
refused_in_one : OneFault → (plan : PlanValue) (program : ProgramValue) (found : Option (ModuleValue × Test)) (t t' : List ℕ) → RefusedIn plan program found t → RefusedIn plan program found t' → t ≡ t'
refused_in_one law plan program None t t' a b = a ∙ sym b
refused_in_one law plan program (Some x) t t' a b = a.2 ∙ ap program_fault_line (law (needed_for (planned_for plan x.0 x.1)) program.entries a.0 b.0 a.1 b.1) ∙ sym b.2

-- and it isn't right
not_both : RightAreFaultless → (plan : PlanValue) (bytes : List ℕ) (program : ProgramValue) (found : Option (ModuleValue × Test)) (t : List ℕ) → IsReadProgram bytes program → RefusedIn plan program found t → RightIn plan program found → ⊥
not_both law plan bytes program None t read a right = right
not_both law plan bytes program (Some x) t read a right = law x.0 x.1 (wrapper_for plan x.0 x.1) program.entries read.said.allowed right.right a.0 a.1.has

judged_programs : ProgramLaws → (chip : SocValue) (plan : PlanValue) → JudgedLaws IsReadProgram RefusesText (IsRightProgram chip plan) (RefusedProgram chip plan)
judged_programs laws chip plan = record {
  one = same_program laws.texts;
  not_refused = λ bytes line v says refused. (let same : RefusedAt line ≡ Says v = laws.texts bytes (RefusedAt line) (Says v) refused says in cc);
  refused_once = λ bytes m n a b. (let same : RefusedAt m ≡ RefusedAt n = laws.texts bytes (RefusedAt m) (RefusedAt n) a b in cc);
  one_line = λ v t t' a b. refused_in_one laws.one_fault plan v (named_test chip v.test) t t' a b;
  not_both = λ bytes v t says right refused. not_both laws.faultless plan bytes v (named_test chip v.test) t says refused right;
}

program_one : ProgramLaws → (chip : SocValue) (plan : PlanValue) → SaysOne (SaysRight chip plan)
program_one laws chip plan = judged_one IsReadProgram RefusesText (IsRightProgram chip plan) (RefusedProgram chip plan) (judged_programs laws chip plan)

program_refused_one : ProgramLaws → (chip : SocValue) (plan : PlanValue) → RefusesOne (SaysRight chip plan) (RefusesProgram chip plan)
program_refused_one laws chip plan = judged_refused_one IsReadProgram RefusesText (IsRightProgram chip plan) (RefusedProgram chip plan) program_line (judged_programs laws chip plan)

-- what comes after an accepted plan: its program, and the line of one that is right
abbrev pub program_after_plan : (program : List ℕ) → SocValue → LimitsValue → PlanValue → Procedure
program_after_plan program chip bounds value = with_program chip value program (λ shifts. done_with (accepted_program chip value shifts))

pub settled_program : ProgramLaws → (program : List ℕ) (chip : SocValue) (bounds : LimitsValue) (value : PlanValue) → IsSettled true (program_after_plan program chip bounds value)
settled_program laws program chip bounds value = (program_one laws chip value, program_refused_one laws chip value, λ shifts. done_once true (accepted_program chip value shifts))

-- ---- from a program that was read

-- a program that is refused in a line
pub judged_refused : (plan : PlanValue) (program : ProgramValue) (found : Option (ModuleValue × Test)) (line : List ℕ) (made : Result (Vec ℕ) MemoryFault) (verdict : Verdict) → RefusedIn plan program found line → IfOk made (λ text. text.items ≡ line) → IfOk made (λ text. IsTrue (is_line text.items)) → GivesText Refused made verdict → Judges plan program found verdict
judged_refused plan program found line (Ok text) (Answered status given) why says is_one d = inr (d.0, subst (RefusedIn plan program found) (sym (d.1 ∙ says)) why, rw d.1 is_one)
judged_refused plan program found line (Ok text) (CannotRead file) why says is_one d = absurd d
judged_refused plan program found line (Ok text) OutOfMemory why says is_one d = tt
judged_refused plan program found line (Err fault) verdict why says is_one d = rw d tt

-- a program that is right
pub judged_right : (plan : PlanValue) (program : ProgramValue) (m : ModuleValue) (t : Test) (did cycles : ℕ) (made : Result (Vec ℕ) MemoryFault) (verdict : Verdict) → IsRightFor plan program m t → IfOk made (λ text. text.items ≡ accepted_with did cycles) → did ≡ length (operations program.entries) → cycles ≡ test_cycles plan m t →
    GivesText Done made verdict → Judges plan program (Some (m, t)) verdict
judged_right plan program m t did cycles (Ok text) (Answered status given) right says same same' d = inl (d.0, right, d.1 ∙ says ∙ ap (λ n. accepted_with n cycles) same ∙ ap (λ n. accepted_with (length (operations program.entries)) n) same')
judged_right plan program m t did cycles (Ok text) (CannotRead file) right says same same' d = absurd d
judged_right plan program m t did cycles (Ok text) OutOfMemory right says same same' d = tt
judged_right plan program m t did cycles (Err fault) verdict right says same same' d = rw d tt

-- ---- the wrapper that is found

-- a test in the wrapper that is found is the test in the plan's
pub same_wrapped : (plan : PlanValue) (m : ModuleValue) (t : Test) (ws : List Wrapper) (k : ℕ) (w : Wrapper) → plan.wrappers ≡ map wrapper_value ws → IsFound m t.scan ws k w → wrapped_test m t (wrapper_value w) ≡ planned_for plan m t
same_wrapped plan m t ws k w are found = rw (are, found.first, found.scan_is) refl

-- what is right in the wrapper that is found is right in the plan's
pub right_for : (plan : PlanValue) (program : ProgramValue) (m : ModuleValue) (t : Test) (w : WrapperValue) (did : ℕ) → wrapped_test m t w ≡ planned_for plan m t → t.tam ≡ true → AreRight (wrapped_test m t w) (operations program.entries) → did ≡ length (operations program.entries) →
    length (ops_of m.setup (si_of (wrapped_test m t w).chains) (so_of (wrapped_test m t w).chains) t.patterns) ≤ did → IsRightFor plan program m t
right_for plan program m t w did same tam right all least =
    let time : test_cycles plan m t ≡ length (ops_of m.setup (si_of (planned_for plan m t).chains) (so_of (planned_for plan m t).chains) t.patterns) = rw tam refl in
    let least' = subst (λ (x : WrappedTest). length (ops_of m.setup (si_of x.chains) (so_of x.chains) t.patterns) ≤ did) same least in
    record { right = subst (λ (x : WrappedTest). AreRight x (operations program.entries)) same right; least = omega (arith, least', all, time) }

-- a fault in the wrapper that is found is one in the plan's
pub fault_for : (plan : PlanValue) (program : ProgramValue) (m : ModuleValue) (t : Test) (w : WrapperValue) (f : ProgramFault) → wrapped_test m t w ≡ planned_for plan m t → IsFault (needed_for (wrapped_test m t w)) program.entries f → RefusedIn plan program (Some (m, t)) (program_fault_line f)
fault_for plan program m t w f same is = (f, subst (λ (x : WrappedTest). IsFault (needed_for x) program.entries f) same is, refl)

-- ---- the test that is found

-- a module and a test that were read at their places are those that stand there
pub found_there : (ms : List ModuleValue) (place at : ℕ) (m read : ModuleValue) (t test : Test) → slice_get ms place ≡ Some m → slice_get m.tests at ≡ Some t → slice_get ms place ≡ Some read → test ≡ get_or read.tests at test → (m ≡ read) × (t ≡ test)
found_there ms place at m read t test here there here' there' =
    let same : m ≡ read = cc in
    (same, sym (get_or_from_slice_get m.tests at t test there) ∙ ap (λ (x : ModuleValue). get_or x.tests at test) same ∙ sym there')

-- it is a live test over the wires, and stands there
pub record IsThere (ms : List ModuleValue) (place at : ℕ) (m : ModuleValue) (t : Test) : Type 0 where
  pub here : slice_get ms place ≡ Some m
  pub there : slice_get m.tests at ≡ Some t
  pub tam : is_tam t ≡ true
  pub live : is_live t ≡ true
  pub wires : t.tam ≡ true

pub read_there : (ms : List ModuleValue) (place at : ℕ) (m read : ModuleValue) (t test : Test) → slice_get ms place ≡ Some m → slice_get m.tests at ≡ Some t → is_tam t ≡ true → slice_get ms place ≡ Some read → test ≡ get_or read.tests at test → IsThere ms place at read test
read_there ms place at m read t test here there tam here' there' =
    let same = found_there ms place at m read t test here there here' there' in
    let tam' : is_tam test ≡ true = subst (λ (x : Test). is_tam x ≡ true) same.1 tam in
    let parts = and_parts (is_live test) test.tam tam' in
    record {
      here = here';
      there = subst (λ (x : ModuleValue). slice_get x.tests at ≡ Some test) same.0 (subst (λ (x : Test). slice_get m.tests at ≡ Some x) same.1 there);
      tam = tam';
      live = parts.0;
      wires = parts.1;
    }

-- a verdict on the test that was read is one on the test of that name
pub judged_there : (chip : SocValue) (plan : PlanValue) (program : ProgramValue) (place at : ℕ) (m read : ModuleValue) (t test : Test) (verdict : Verdict) → slice_get chip.modules place ≡ Some m → slice_get m.tests at ≡ Some t → slice_get chip.modules place ≡ Some read → test ≡ get_or read.tests at test →
    named_test chip program.test ≡ Some (m, t) → Judges plan program (Some (read, test)) verdict → Judges plan program (named_test chip program.test) verdict
judged_there chip plan program place at m read t test verdict here there here' there' named is =
    let same = found_there chip.modules place at m read t test here there here' there' in
    subst (λ o. Judges plan program o verdict) (sym (named ∙ ap (λ (x : ModuleValue). Some (x, t)) same.0 ∙ ap (λ (x : Test). Some (read, x)) same.1)) is
