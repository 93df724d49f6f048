use Rattle.picture.proofs.AllDrawn.{tests_drawn}
use Rattle.picture.proofs.Apart.{rectangles_apart, steps_within, wires_used}
use Rattle.picture.proofs.LanesApart.{lanes_apart}
use Rattle.picture.proofs.Readable.{few_marks, names_plain, names_short}
use Rattle.picture.proofs.SelfTests.{self_tests_laned}
use Rattle.picture.proofs.ToldApart.{lanes_told_apart, wires_told_apart}
use Rattle.picture.proofs.laws.good_plans_draw_right.Goals as goal

pub returns-clause-drawn : goal.returns-clause-drawn
returns-clause-drawn c = tests_drawn

pub returns-clause-apart : goal.returns-clause-apart
returns-clause-apart c = rectangles_apart

pub returns-clause-lanes : goal.returns-clause-lanes
returns-clause-lanes c = lanes_apart

pub returns-clause-within : goal.returns-clause-within
returns-clause-within c = steps_within

pub returns-clause-used : goal.returns-clause-used
returns-clause-used c = wires_used

pub returns-clause-self_drawn : goal.returns-clause-self_drawn
returns-clause-self_drawn c = self_tests_laned

pub returns-clause-told_apart : goal.returns-clause-told_apart
returns-clause-told_apart c = wires_told_apart

pub returns-clause-lanes_told_apart : goal.returns-clause-lanes_told_apart
returns-clause-lanes_told_apart c = lanes_told_apart

pub returns-clause-names : goal.returns-clause-names
returns-clause-names c = names_plain

pub returns-clause-short : goal.returns-clause-short
returns-clause-short c = names_short

pub returns-clause-marks : goal.returns-clause-marks
returns-clause-marks c = few_marks
