use Rattle.tester_forms.proofs.Naming.{all_named}
use Rattle.tester_forms.proofs.vcd_laws.controls_have_their_names.Goals as goal

pub returns : goal.returns
returns c = all_named
