use Rattle.std.proofs.Common.{◌<◌, ◌∙◌, List, Option, None, ℕ, arith, length}
use Rattle.std.proofs.lemmas.List.{length_push}
use Rattle.cell_pool.proofs.All.{all_more}
use Rattle.cell_pool.proofs.pool.make_free.Goals as goal

pub loop-made-preserved : goal.loop-made-preserved
loop-made-preserved c =
    let low : length c.loop-made.made.pool < c.loop-made.made.room = omega (arith, c.unmade.ensures.left, c.if-unmade-gt0.true) in
    record {
      within = rw c.make.ensures (omega (arith, length_push c.loop-made.made.pool (let o : Option (List ℕ) = None in o)));
      same = all_more c.loop-made.made c.make.new.self low c.make.ensures ∙ c.loop-made.invariant.same;
    }
