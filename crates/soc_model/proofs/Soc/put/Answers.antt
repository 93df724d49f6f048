use Rattle.std.proofs.Common.{◌∙◌, sym, ap, List, ℕ, ◌∷◌, ◌++◌, [], map}
use Rattle.soc_model.specs.Chips.{SocValue, ModuleValue}
use Rattle.soc_model.proofs.Entries.{found-has, pushed, key_of, value_of, keys-push, values-push}
use Rattle.soc_model.proofs.Soc.put.Goals as goal

pub returns-then-contains_key-clause-known : goal.returns-then-contains_key-clause-known
returns-then-contains_key-clause-known c = sym c.if-contains_key.true ∙ c.contains_key.ensures ∙ found-has _ c.args.self.now.modules.entries

pub returns-in-Ok-clause-ok : goal.returns-in-Ok-clause-ok
returns-in-Ok-clause-ok c =
    let old = c.args.self.now in
    let m = c.args.module in
    let e = c.in-Ok.ensures.entries ∙ pushed old m.number m c.contains_key.result c.contains_key.ensures c.if-contains_key.false in
    let keys = ap (map key_of) e ∙ keys-push old.modules.entries m.number m in
    let modules = ap (map value_of) e ∙ values-push old.modules.entries m.number m in
    let value : List ℕ → List ModuleValue → SocValue = λ ks ms. record { name = old.name.items; power_flag = old.power_flag; xy_flag = old.xy_flag; keys = ks; modules = ms } in
    ap (λ ks. value ks (map value_of c.insert.new.self.entries)) keys ∙ ap (value (map key_of old.modules.entries ++ m.number ∷ [])) modules

pub returns-in-Ok-clause-known : goal.returns-in-Ok-clause-known
returns-in-Ok-clause-known c = sym c.if-contains_key.false ∙ c.contains_key.ensures ∙ found-has _ c.args.self.now.modules.entries

pub returns-clause-known : goal.returns-clause-known
returns-clause-known c = sym c.if-contains_key.false ∙ c.contains_key.ensures ∙ found-has _ c.args.self.now.modules.entries
