use Rattle.std.proofs.Common.{◌∙◌, List, Option, None, ℕ, ap, set}
use Rattle.cell_pool.proofs.All.{all_set, made_below}
use Rattle.cell_pool.proofs.pool.Pool.give_back.Goals as goal

pub returns : goal.returns
returns c =
    all_set c.self.inside.made c.give_back.new.self c.args.chain None (made_below c.self.inside.made c.args.self.now c.args.chain c.self.view_is c.requires) c.give_back.ensures
    ∙ ap (λ (l : List (Option (List ℕ))). set l c.args.chain None) c.self.view_is
