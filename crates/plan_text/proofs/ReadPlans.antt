-- What reads plans reads their grammar.
use Rattle.std.proofs.Common.{arith}
use Rattle.keyword_text.specs.Machines.{ReadsGrammar}
use Rattle.plan_text.specs.Tokens.{spelling}
use Rattle.plan_text.specs.Grammar.{plan_grammar}
use Rattle.plan_text.specs.Steps.{plan_machine}
use Rattle.plan_text.proofs.Sound.{plan_said}
use Rattle.plan_text.proofs.Complete.{plan_read}
use Rattle.plan_text.proofs.Endable.{finish}
use Rattle.plan_text.proofs.Printed.{key_back}

pub reads_plans : ReadsGrammar plan_grammar plan_machine
reads_plans = record {
  sound = λ ts s p small runs ends. plan_said ts s p runs ends;
  complete = plan_read;
  endable = λ ts s runs. finish s.part s.draft;
  spelled = λ k. record { word = spelling k; is = key_back k };
  fits = omega arith;
}
