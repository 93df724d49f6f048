use Rattle.std.proofs.Common.{inl, inr, refl}
use Rattle.live_tests.proofs.FoundPlaced.{sound_chip}
use Rattle.tester_commands.specs.DataContents.{data_content, data_marks}
use Rattle.tester_commands.proofs.SaidBits.{data_stands}
use Rattle.tester_commands.proofs.programs.write_in_form.Goals as goal

pub returns-in-Written-clause-written : goal.returns-in-Written-clause-written
returns-in-Written-clause-written g c =
    let soc = c.args.placed.now.soc in
    let es = c.args.test_data.now in
    inr (inl (refl, c.in-Written.ensures.written refl (data_content soc es) (data_marks soc es) (data_stands soc es (sound_chip c.placed.invariant c.placed.view_is))))

pub returns-in-WriteFault-clause-written : goal.returns-in-WriteFault-clause-written
returns-in-WriteFault-clause-written g c =
    let soc = c.args.placed.now.soc in
    let es = c.args.test_data.now in
    inr (inr (refl, c.in-WriteFault.ensures.fault refl, c.in-WriteFault.ensures.front refl (data_content soc es) (data_marks soc es) (data_stands soc es (sound_chip c.placed.invariant c.placed.view_is))))
