use Rattle.std.proofs.Common.{◌≡◌, ℕ, ◌*◌, ◌≤◌, ◌∙◌, length, refl, ap, sym, subst, arith}
use Rattle.std.proofs.lemmas.Option.{slice_get_read}
use Rattle.controls.specs.declared.columns.ModuleColumns.{ModuleColumns}
use Rattle.controls.specs.Columns.{ArePut, tells}
use Rattle.controls.proofs.Told.{IsOwn, own_is, row_is, test_told, told_none}
use Rattle.controls.proofs.rows.ControlRows.put_rows.Goals as goal

pub loop-place-init : goal.loop-place-init
loop-place-init c = told_none c.args.self.now c.args.from c.args.count c.put_zeros.new.text c.put_zeros.ensures.zeros

pub own_columns-own-requires : goal.own_columns-own-requires
own_columns-own-requires c =
    let at = slice_get_read c.args.self.now.tests.items (length c.args.self.now.tests.items) c.loop-place.place c.index-test.result.now refl
    (omega (arith, c.loop-place-test.true, c.len-place-end.ensures, c.args.self.now.tests.ok.0)) c.index-test.ensures in
    let own : IsOwn c.args.self.now c.loop-place.place c.index-test.result.now = own_is c.loop-place.place c.requires.room.are at in
    omega (arith, own.small)

pub put_test-requires-clause-test : goal.put_test-requires-clause-test
put_test-requires-clause-test c =
    let at = slice_get_read c.args.self.now.tests.items (length c.args.self.now.tests.items) c.loop-place.place c.index-test.result.now refl
    (omega (arith, c.loop-place-test.true, c.len-place-end.ensures, c.args.self.now.tests.ok.0)) c.index-test.ensures in
    (own_is c.loop-place.place c.requires.room.are at).fit

pub put_test-requires-clause-column : goal.put_test-requires-clause-column
put_test-requires-clause-column c =
    let at = slice_get_read c.args.self.now.tests.items (length c.args.self.now.tests.items) c.loop-place.place c.index-test.result.now refl
    (omega (arith, c.loop-place-test.true, c.len-place-end.ensures, c.args.self.now.tests.ok.0)) c.index-test.ensures in
    (own_is c.loop-place.place c.requires.room.are at).column

pub put_test-requires-clause-shift : goal.put_test-requires-clause-shift
put_test-requires-clause-shift c = λ tam.
    let at = slice_get_read c.args.self.now.tests.items (length c.args.self.now.tests.items) c.loop-place.place c.index-test.result.now refl
    (omega (arith, c.loop-place-test.true, c.len-place-end.ensures, c.args.self.now.tests.ok.0)) c.index-test.ensures in
    omega (arith, (own_is c.loop-place.place c.requires.room.are at).shift tam, ap (λ (o : ModuleColumns). o.shift) c.own_columns-own.ensures)

pub put_test-requires-clause-capture : goal.put_test-requires-clause-capture
put_test-requires-clause-capture c = λ tam.
    let at = slice_get_read c.args.self.now.tests.items (length c.args.self.now.tests.items) c.loop-place.place c.index-test.result.now refl
    (omega (arith, c.loop-place-test.true, c.len-place-end.ensures, c.args.self.now.tests.ok.0)) c.index-test.ensures in
    omega (arith, (own_is c.loop-place.place c.requires.room.are at).capture tam, ap (λ (o : ModuleColumns). o.capture) c.own_columns-own.ensures)

pub loop-place-preserved : goal.loop-place-preserved
loop-place-preserved c =
    let at = slice_get_read c.args.self.now.tests.items (length c.args.self.now.tests.items) c.loop-place.place c.index-test.result.now refl
    (omega (arith, c.loop-place-test.true, c.len-place-end.ensures, c.args.self.now.tests.ok.0)) c.index-test.ensures in
    test_told at c.loop-place.invariant (subst (λ (own : ModuleColumns). ArePut (tells c.loop-place.place own c.index-test.result.now) c.args.self.now.columns c.args.from c.args.count c.loop-place.text c.put_test.new.text) c.own_columns-own.ensures c.put_test.ensures)

same_room : (count : ℕ) {a b m n : ℕ} → a ≡ b → m ≡ n → count * a ≤ m → count * b ≤ n
same_room count e f room = let room' = rw (e, f) at room in room'

pub returns-clause-rows : goal.returns-clause-rows
returns-clause-rows c = λ soc plan are r h.
    let room = same_room c.args.count (sym c.requires.room.are.columns ∙ are.columns) (sym (c.loop-place.auto.text ∙ c.put_zeros.ensures.long)) c.requires.room.room in
    row_is r are (omega (arith, c.loop-place-test.false, c.len-place-end.ensures, c.args.self.now.tests.ok.0)) room h c.loop-place.invariant
