use Rattle.std.proofs.Common.{◌≡◌, true, false, not, take, Some, is_some, sym, ◌∙◌, ap, slice_index_or}
use Rattle.std.specs.List.{list_any}
use Rattle.soc_model.specs.Chips.{same_test, soc_value}
use Rattle.test_data.specs.declared.places.TestEntry.{TestEntry}
use Rattle.test_data.specs.DataPlaces.{kept_names}
use Rattle.test_data.specs.Suiting.{first_misnamed, has_name, wanted_by}
use Rattle.test_data.proofs.Firsts.{again_at, named_among, right_at}
use Rattle.test_data.proofs.misfits.first_misnamed.Goals as goal

pub returns-then-is_named : goal.returns-then-is_named
returns-then-is_named c =
    let soc = soc_value c.args.soc.now in
    let es = c.args.entries.now in
    let i = c.loop-at.at in
    let e = c.index-entries-at.result in
    let same : slice_index_or es i e ≡ e = sym c.index-entries-at.is in
    let among : c.is_named.result ≡ list_any (λ (x : TestEntry). same_test e.test x.test) (take i es) =
    c.is_named.ensures ∙ ap (λ (y : TestEntry). list_any (λ (x : TestEntry). same_test y.test x.test) c.split_at.result.0.now) same
    ∙ ap (list_any (λ (x : TestEntry). same_test e.test x.test)) c.split_at.ensures.front in
    let again : has_name (kept_names (take i es)) e.test ≡ true = sym (named_among (take i es) e.test) ∙ sym among ∙ c.if-is_named.true in
    ap (λ (y : TestEntry). Some y.test) same ∙ again_at soc es i e (first_misnamed soc (kept_names es)) c.loop-at-test.true c.index-entries-at.is c.loop-at.invariant again

pub loop-at-preserved : goal.loop-at-preserved
loop-at-preserved c =
    let soc = soc_value c.args.soc.now in
    let es = c.args.entries.now in
    let i = c.loop-at.at in
    let e = c.index-entries-at.result in
    let same : slice_index_or es i e ≡ e = sym c.index-entries-at.is in
    let among : c.is_named.result ≡ list_any (λ (x : TestEntry). same_test e.test x.test) (take i es) =
    c.is_named.ensures ∙ ap (λ (y : TestEntry). list_any (λ (x : TestEntry). same_test y.test x.test) c.split_at.result.0.now) same
    ∙ ap (list_any (λ (x : TestEntry). same_test e.test x.test)) c.split_at.ensures.front in
    let new : has_name (kept_names (take i es)) e.test ≡ false = sym (named_among (take i es) e.test) ∙ sym among ∙ c.if-is_named.false in
    let known : is_some (wanted_by soc e.test) ≡ true =
    ap (λ (y : TestEntry). is_some (wanted_by soc y.test)) (sym same) ∙ ap is_some (sym c.wanted_of.ensures) ∙ c.is_none.ensures ∙ ap not c.if-is_none.false in
    right_at soc es i e (first_misnamed soc (kept_names es)) c.loop-at-test.true c.index-entries-at.is c.loop-at.invariant known new
