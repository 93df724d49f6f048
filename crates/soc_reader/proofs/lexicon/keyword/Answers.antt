use Rattle.std.proofs.Common.{◌≡◌, length, arith}
use Rattle.soc_reader.proofs.Sizes.{of_length}
use Rattle.soc_reader.proofs.lexicon.keyword.Goals as goal

pub returns-then-length-eq4 : goal.returns-then-length-eq4
returns-then-length-eq4 c = of_length 4 c.args.word.now c.keyword_of_four.result c.keyword_of_four.ensures c.if-length-eq4.true

pub returns-then-length-eq5 : goal.returns-then-length-eq5
returns-then-length-eq5 c = of_length 5 c.args.word.now c.keyword_of_five.result c.keyword_of_five.ensures c.if-length-eq5.true

pub returns-then-length-eq6 : goal.returns-then-length-eq6
returns-then-length-eq6 c = of_length 6 c.args.word.now c.keyword_of_six.result c.keyword_of_six.ensures c.if-length-eq6.true

pub returns : goal.returns
returns c =
    let long : length c.args.word.now ≡ 7 = omega (arith, c.if-length-lt4.false, c.if-length-gt7.false, c.if-length-eq4.false, c.if-length-eq5.false, c.if-length-eq6.false) in
    of_length 7 c.args.word.now c.keyword_of_seven.result c.keyword_of_seven.ensures long
