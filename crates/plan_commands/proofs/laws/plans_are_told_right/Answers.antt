use Rattle.plan_commands.proofs.laws.plans_are_told_right.Goals as goal

pub returns : goal.returns
returns c = record {
  spots = c.spots_are_reads.ensures;
  programs = record { texts = c.program_texts_have_one_answer.ensures; faultless = c.faultless_programs_are_right.ensures.faultless; one_fault = c.program_faults_are_exact.ensures.one };
  reports = record { peak_is = c.good_plans_report_right.ensures.peak; shared = c.good_plans_report_right.ensures.shared; held_by = c.good_plans_report_right.ensures.held; whole = c.good_plans_report_right.ensures.whole };
}
