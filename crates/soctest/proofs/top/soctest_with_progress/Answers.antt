use Rattle.std.proofs.Common.{◌∙◌, map, string_bytes, subst, sym}
use Rattle.outside.specs.Held.{Rose}
use Rattle.commands.specs.Commands.{command_of}
use Rattle.tester_commands.specs.Endings.{ending_value}
use Rattle.soctest.specs.Reports.{IsQuiet, MayReport}
use Rattle.soctest.proofs.Commands.{answered, by_command, headline}
use Rattle.soctest.proofs.top.soctest_with_progress.Goals as goal

pub returns-clause-answers : goal.returns-clause-answers
returns-clause-answers g c =
    answered (record { files = c.files_say_one_thing.ensures; trust = c.plans_are_trustworthy.ensures; plans = c.plans_are_told_right.ensures; bounds = c.bounds_are_trustworthy.ensures; printed = c.printed_plans_are_read.ensures })
    _ (command_of (map string_bytes c.args.words.now)) c.command_of-command.ensures.value c.command_of-command.ensures.in_range (ending_value c.decide-ending.result) c.decide-ending.ensures.closes c.decide-ending.ensures.by_loads c.decide-ending.ensures.untouched
    c.write_ending.ensures.written c.write_ending.ensures.puts

pub returns-clause-by_words : goal.returns-clause-by_words
returns-clause-by_words g c =
    by_command (record { files = c.files_say_one_thing.ensures; trust = c.plans_are_trustworthy.ensures; plans = c.plans_are_told_right.ensures; bounds = c.bounds_are_trustworthy.ensures; printed = c.printed_plans_are_read.ensures })
    (command_of (map string_bytes c.args.words.now)) c.command_of-command.ensures.in_range (Rose (g.K.Sink.faults c.args.out.now) (g.K.Sink.faults c.write_ending.new.out)) c.write_ending.result (returns-clause-answers g c).by_words

pub returns-clause-untouched : goal.returns-clause-untouched
returns-clause-untouched g c = λ none. c.decide-ending.ensures.untouched (c.command_of-command.ensures.value ∙ none)

pub returns-clause-quiet : goal.returns-clause-quiet
returns-clause-quiet g c = λ quiet. c.decide-ending.ensures.quiet (subst IsQuiet (sym c.command_of-command.ensures.value) quiet)

pub returns-clause-reported : goal.returns-clause-reported
returns-clause-reported g c =
    subst (λ command. MayReport command (g.T.Sink.written c.args.progress.now) (g.T.Sink.written c.decide-ending.new.progress)) c.command_of-command.ensures.value c.decide-ending.ensures.reported

pub returns-clause-headline : goal.returns-clause-headline
returns-clause-headline g c =
    headline (record { files = c.files_say_one_thing.ensures; trust = c.plans_are_trustworthy.ensures; plans = c.plans_are_told_right.ensures; bounds = c.bounds_are_trustworthy.ensures; printed = c.printed_plans_are_read.ensures })
    (command_of (map string_bytes c.args.words.now)) c.command_of-command.ensures.in_range (returns-clause-answers g c)
