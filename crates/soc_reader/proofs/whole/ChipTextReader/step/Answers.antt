use Rattle.std.specs.Box.{with_value}
use Rattle.soc_reader.proofs.Progress.{goes_on, stops}
use Rattle.soc_reader.proofs.whole.ChipTextReader.step.Goals as goal

pub returns-in-Ok : goal.returns-in-Ok
returns-in-Ok c = λ front few has.
    goes_on front (c.args.word.bytes.now, c.args.word.line) c.args.self (record { alloc = c.args.self.alloc; read = with_value c.args.self.read (record { kept = c.step_word.new.kept; part = c.step_word.new.part }) }) c.deref_mut-so_far.result.now c.deref_mut-so_far.ensures.value has c.in-Ok.ensures

pub returns : goal.returns
returns c = λ front few has. stops front (c.args.word.bytes.now, c.args.word.line) c.args.self c.deref_mut-so_far.result.now c.step_word.new.part c.step_word.new.kept c.in-Err.stop c.deref_mut-so_far.ensures.value has c.in-Err.ensures
