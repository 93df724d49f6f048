-- The log of `locate`, loaded behind an accepted plan.
use Rattle.std.proofs.Common.{ℕ, List, sym, ◌∙◌, ap, true}
use Rattle.outside.specs.Words.{words_of}
use Rattle.outside.specs.Grammars.{last_line}
use Rattle.soc_model.specs.Chips.{SocValue}
use Rattle.plan_model.specs.Plans.{LimitsValue, PlanValue}
use Rattle.fail_locate.specs.LogAnswers.{SaysLog}
use Rattle.fail_locate.specs.LogWords.{log_grammar}
use Rattle.fail_locate.specs.LogReads.{log_machine}
use Rattle.fail_locate.proofs.ReadLogs.{reads_logs}
use Rattle.keyword_text.proofs.Viability.{one_value}
use Rattle.keyword_text.proofs.Settled.{not_refused, refused_once}
use Rattle.plan_commands.specs.LocateText.{locate_text}
use Rattle.plan_commands.specs.LogReadings.{RefusesFails, with_log}
use Rattle.plan_commands.specs.Texts.{log_line}
use Rattle.commands.specs.Procedures.{Procedure, done_with}
use Rattle.commands.specs.Settled.{SaysOne, RefusesOne, IsSettled}
use Rattle.commands.proofs.Settled.{done_once}

-- what comes after an accepted plan
abbrev pub log_after_plan : (log : List ℕ) → SocValue → LimitsValue → PlanValue → Procedure
log_after_plan log chip bounds value = with_log log (λ fails. done_with (locate_text chip value fails))

-- ---- a log says one thing

log_one : SaysOne SaysLog
log_one bytes v w a b = one_value log_grammar log_machine reads_logs (words_of bytes) v w a b

log_refused_one : RefusesOne SaysLog RefusesFails
log_refused_one = record {
  one = λ bytes t t' a b. a.2 ∙ ap log_line (refused_once log_grammar (words_of bytes) (last_line bytes) a.0 b.0 a.1 b.1) ∙ sym b.2;
  none = λ bytes t v a says. not_refused log_grammar (words_of bytes) (last_line bytes) a.0 (v, says) a.1;
}

pub settled_log : (log : List ℕ) (chip : SocValue) (bounds : LimitsValue) (value : PlanValue) → IsSettled true (log_after_plan log chip bounds value)
settled_log log chip bounds value = (log_one, log_refused_one, λ fails. done_once true (locate_text chip value fails))
