use Rattle.shift_program.specs.Programs.{program_value}
use Rattle.shift_program.proofs.Texts.{reads_programs, said_in_range, not_read}
use Rattle.shift_program.proofs.reading.read_program.Goals as goal

pub read_by-requires-clause-reads : goal.read_by-requires-clause-reads
read_by-requires-clause-reads c κs = reads_programs

pub returns-in-Ok : goal.returns-in-Ok
returns-in-Ok c = said_in_range c.args.bytes.now (program_value c.in-Ok.program) c.in-Ok.ensures

pub returns-in-Err : goal.returns-in-Err
returns-in-Err c = not_read c.args.bytes.now c.in-Err.fault c.in-Err.ensures
