use Rattle.std.proofs.Common.{◌≡◌, inl, inr, refl, ap}
use Rattle.vector_lines.specs.Made.{made_content}
use Rattle.tester_vectors.specs.VectorText.{wire_cycles, vector_text, too_many}
use Rattle.commands.proofs.LoadsWritten.{puts_refused}
use Rattle.commands.proofs.UnlessRefused.{nothing_written}
use Rattle.commands.specs.Texts.{run_refusal}
use Rattle.tester_commands.proofs.LongVectors.{run_written, long_written, same_cells}
use Rattle.tester_commands.proofs.vectors.write_vectors.Goals as goal

pub returns-in-Written-clause-written : goal.returns-in-Written-clause-written
returns-in-Written-clause-written g c =
    run_written c.args.placed.now.plan (vector_text c.args.placed.now.soc c.args.placed.now.plan (made_content c.args.placed.now.soc c.args.seed)) _ _ _ _ _ (λ long. let wrong = c.in-Written.ensures.too_long long in absurd cc) (inl (refl, c.in-Written.ensures.written refl))

pub returns-in-WriteFault-clause-written : goal.returns-in-WriteFault-clause-written
returns-in-WriteFault-clause-written g c =
    run_written c.args.placed.now.plan (vector_text c.args.placed.now.soc c.args.placed.now.plan (made_content c.args.placed.now.soc c.args.seed)) _ _ _ _ _ (λ long. let wrong = c.in-WriteFault.ensures.too_long long in absurd cc)
    (inr (refl, c.in-WriteFault.ensures.fault refl, c.in-WriteFault.ensures.front refl))

pub returns-in-NoMemory-clause-written : goal.returns-in-NoMemory-clause-written
returns-in-NoMemory-clause-written g c = nothing_written (run_refusal (too_many c.args.placed.now.plan)) _ _ _ _ _ (ap g.K.Sink.written (c.in-NoMemory.ensures.no_memory_writes_nothing refl))

pub returns-in-RunTooLong-clause-written : goal.returns-in-RunTooLong-clause-written
returns-in-RunTooLong-clause-written g c =
    let long = c.in-RunTooLong.ensures.only c.in-RunTooLong.cells refl in
    let same : c.in-RunTooLong.cells ≡ wire_cycles c.args.placed.now.plan = same_cells c.in-RunTooLong.cells (wire_cycles c.args.placed.now.plan) (c.in-RunTooLong.ensures.too_long long) in
    let kept = c.in-RunTooLong.ensures.too_long_writes_nothing c.in-RunTooLong.cells refl in
    let put = rw kept at c.write_verdict.ensures.written in
    long_written c.args.placed.now.plan (vector_text c.args.placed.now.soc c.args.placed.now.plan (made_content c.args.placed.now.soc c.args.seed)) c.in-RunTooLong.cells c.run_line.result c.refused_with-verdict.result
    (g.K.Sink.faults c.args.out.now) (g.K.Sink.faults c.write_verdict.new.out) (g.K.Sink.written c.args.out.now) (g.K.Sink.written c.write_verdict.new.out) c.write_verdict.result long same c.run_line.ensures.text c.run_line.ensures.line c.refused_with-verdict.ensures put

pub returns-in-Written-clause-puts : goal.returns-in-Written-clause-puts
returns-in-Written-clause-puts g c = c.in-Written.ensures.none_failed refl

pub returns-in-WriteFault-clause-puts : goal.returns-in-WriteFault-clause-puts
returns-in-WriteFault-clause-puts g c = c.in-WriteFault.ensures.last_failed refl

pub returns-in-NoMemory-clause-puts : goal.returns-in-NoMemory-clause-puts
returns-in-NoMemory-clause-puts g c = c.in-NoMemory.ensures.no_memory_writes_nothing refl

pub returns-in-RunTooLong-clause-puts : goal.returns-in-RunTooLong-clause-puts
returns-in-RunTooLong-clause-puts g c =
    let kept = c.in-RunTooLong.ensures.too_long_writes_nothing c.in-RunTooLong.cells refl in
    puts_refused g.K.Sink.is_put c.args.out.now c.write_verdict.new.out c.run_line.result c.write_verdict.result c.refused_with-verdict.result c.refused_with-verdict.ensures (rw kept at c.write_verdict.ensures.puts)
