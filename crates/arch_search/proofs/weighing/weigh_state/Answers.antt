use Rattle.arch_search.proofs.weighing.weigh_state.Goals as goal

pub returns-then-not-assign_buses-clause-state : goal.returns-then-not-assign_buses-clause-state
returns-then-not-assign_buses-clause-state g c = c.requires.state

pub returns-then-not-assign_buses-clause-room : goal.returns-then-not-assign_buses-clause-room
returns-then-not-assign_buses-clause-room g c = c.assign_buses.ensures.room

pub could_end-requires-clause-room : goal.could_end-requires-clause-room
could_end-requires-clause-room g c = c.assign_buses.ensures.room

pub returns-then-not-could_end-clause-state : goal.returns-then-not-could_end-clause-state
returns-then-not-could_end-clause-state g c = c.requires.state

pub returns-then-not-could_end-clause-room : goal.returns-then-not-could_end-clause-room
returns-then-not-could_end-clause-room g c = c.could_end.ensures.room

pub place_somehow-requires-clause-state : goal.place_somehow-requires-clause-state
place_somehow-requires-clause-state g c = c.requires.state

pub place_somehow-requires-clause-room : goal.place_somehow-requires-clause-room
place_somehow-requires-clause-room g c = c.could_end.ensures.room

pub returns-clause-state : goal.returns-clause-state
returns-clause-state g c = c.place_somehow.ensures.state

pub returns-clause-room : goal.returns-clause-room
returns-clause-room g c = c.place_somehow.ensures.room
