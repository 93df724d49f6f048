use Rattle.bit_machine.proofs.HeldStimuli.{held_is_stimulus, stimulus_is_held}
use Rattle.bit_machine.proofs.laws.held_stimuli_stand.Goals as goal

pub returns-clause-stands : goal.returns-clause-stands
returns-clause-stands c = held_is_stimulus

pub returns-clause-held : goal.returns-clause-held
returns-clause-held c = stimulus_is_held
