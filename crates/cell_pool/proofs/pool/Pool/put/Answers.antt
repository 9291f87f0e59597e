use Rattle.std.proofs.Common.{◌∙◌}
use Rattle.cell_pool.proofs.All.{put_all}
use Rattle.cell_pool.proofs.pool.Pool.put.Goals as goal

pub returns-clause-put : goal.returns-clause-put
returns-clause-put c =
    put_all c.make_free.new.made c.put.new.self c.put.result c.args.bytes.now c.args.self.now c.put.ensures.fresh c.put.ensures.put (c.make_free.ensures.same ∙ c.self.view_is)
