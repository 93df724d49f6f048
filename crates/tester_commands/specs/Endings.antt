-- What a call ends with.
use Rattle.std.proofs.Common.{inl, inr}
use Rattle.std.specs.Prelude.{None}
use Rattle.vector_lines.specs.Made.{made_content}
use Rattle.tester_vectors.specs.VectorText.{vector_text, too_many}
use Rattle.commands.specs.Endings.{EndingValue}
use Rattle.commands.specs.Texts.{run_refusal}
use Rattle.tester_commands.specs.MadeText.{made_text, long_data_refusal}
use Rattle.tester_commands.specs.RunTexts.{run_text}
use Rattle.tester_commands.specs.declared.ending.Ending.{Ending}
use Rattle.tester_commands.specs.declared.ending.Ending.TheVariants as ending

-- a verdict, or a long text: the vectors of a plan unless their run is too long, the made data of a chip unless that is too long, or a
-- plan with test data, whose run was found to be short enough
abbrev pub ending_value : Ending → EndingValue
ending_value (ending.Decided verdict) = inl verdict
ending_value (ending.Vectors all seed) =
    inr (record { refusal = run_refusal (too_many all.plan); text = vector_text all.soc all.plan (made_content all.soc seed) })
ending_value (ending.MadeData request) =
    inr (record { refusal = long_data_refusal (made_text request.soc request.seed); text = made_text request.soc request.seed })
ending_value (ending.DataRun form run) = inr (record { refusal = None; text = run_text form run.all.soc run.all.plan run.entries })
