use Rattle.std.proofs.Common.{◌≡◌, ◌∙◌, ◌++◌, ◌∷◌, [], ℕ, List, None, ap}
use Rattle.indexmap.proofs.CallerLemmas.{insert_entry-new}
use Rattle.indexmap.specs.IndexMap.{get}
use Rattle.cl_base.specs.contracts.name.NamePartialEq.TheImpl.{eq-value}
use Rattle.cl_base.proofs.NameLemmas.{name_found}
use Rattle.ccr_tables.specs.declared.address.Address.{Address}
use Rattle.ccr_tables.specs.declared.address.Weight.{Weight}
use Rattle.ccr_tables.proofs.addresses.Addresses.create.Goals as goal

pub returns-in-Ok-clause-ok : goal.returns-in-Ok-clause-ok
returns-in-Ok-clause-ok c =
    let made : List Weight → Address = λ ws. record { group = c.args.group; policy = c.args.policy; weights = ws } in
    let free : get eq-value.it c.self.inside.addresses c.args.name ≡ None = name_found c.args.name c.self.inside.addresses.entries ∙ rw c.self.view_is c.requires in
    let last = insert_entry-new eq-value.it c.self.inside.addresses c.args.name (made c.new-2.result) free in
    rw (← c.self.view_is)
    (c.in-Ok.ensures.entries ∙ last ∙ ap (λ (ws : List Weight). c.self.inside.addresses.entries ++ (c.args.name, made ws) ∷ []) (c.new-2.ensures.value ∙ c.new.ensures.items))
