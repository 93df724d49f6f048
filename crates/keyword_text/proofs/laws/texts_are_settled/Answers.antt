use Rattle.keyword_text.proofs.Viability.{one_value}
use Rattle.keyword_text.proofs.EachText.{each_text}
use Rattle.keyword_text.proofs.Settled.{not_refused, refused_once, answered}
use Rattle.keyword_text.proofs.laws.texts_are_settled.Goals as goal

pub returns-clause-say_one : goal.returns-clause-say_one
returns-clause-say_one g c = one_value g.F.Format.grammar g.F.Format.machine c.requires

pub returns-clause-not_refused : goal.returns-clause-not_refused
returns-clause-not_refused g c = not_refused g.F.Format.grammar

pub returns-clause-refused_once : goal.returns-clause-refused_once
returns-clause-refused_once g c = refused_once g.F.Format.grammar

pub returns-clause-have_answers : goal.returns-clause-have_answers
returns-clause-have_answers g c = each_text g.F.Format.grammar g.F.Format.machine c.requires

pub returns-clause-are_answered : goal.returns-clause-are_answered
returns-clause-are_answered g c = answered g.F.Format.grammar g.F.Format.machine c.requires g.F.Format.meaning_of g.F.Format.unread_of
