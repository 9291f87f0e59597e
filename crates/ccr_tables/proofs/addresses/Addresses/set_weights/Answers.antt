use Rattle.std.proofs.Common.{◌≡◌, ◌∙◌, ℕ, List, Option, ap, refl}
use Rattle.ccr_tables.specs.declared.address.Address.{Address}
use Rattle.ccr_tables.specs.Changes.{weighted}
use Rattle.ccr_tables.specs.contracts.addresses.Addresses.{the_view}
use Rattle.ccr_tables.proofs.Written.{written, unwritten}
use Rattle.ccr_tables.proofs.addresses.Addresses.set_weights.Goals as goal
use Rattle.ccr_tables.proofs.addresses.Addresses.set_weights.Goals.{in-Some, in_default}

pub returns : goal.returns
returns c =
    let things : List (List ℕ × Address) = c.self.inside.addresses.entries in
    let made : Option Address → List (List ℕ × Address) = λ found. weighted things c.args.name.now c.args.weights found in
    record {
      value = rw (← c.self.view_is)
          (elim c.match-get_mut.branch [
            | in-Some w ↦
                let new : Address = record w.in-Some.address.now { weights = c.args.weights } in
                ap the_view w.self-inside-is ∙ written c.args.name.now things made (c.get_mut.follows.lender new).entries w.in-Some.address.now new
                w.in-Some.ensures.value (c.get_mut.follows.holds new).0 refl
            | in_default w ↦ ap the_view w.self-inside-is ∙ unwritten c.args.name.now things made c.get_mut.follows.lender-at-none.entries
                w.in_default.ensures.value (ap (λ m. m.entries) c.get_mut.follows.holds-at-none) refl
          ]);
    }
