use Rattle.std.proofs.Common.{◌≡◌, ◌+◌, ◌-◌, arith, rules, ◌∙◌, sym, length-set, get_or}
use Rattle.cell_pool.proofs.Walks.{walk_step, after_step, here_inside, rest_inside, first_inside}
use Rattle.cell_pool.proofs.Pieces.{fill_step}
use Rattle.cell_pool.specs.Region.{filled, walk}
use Rattle.cell_pool.proofs.region.fill.Goals as goal

pub loop-left-init : goal.loop-left-init
loop-left-init c = record {
  here_cells = λ some. first_inside _ _ _ c.args.count some c.requires.inside_cells;
  here_links = λ some. first_inside _ _ _ c.args.count some c.requires.inside_links;
  inside_cells = c.requires.inside_cells;
  inside_links = c.requires.inside_links;
  within = search rules;
  same = search rules;
  filled = search rules;
}

pub loop-left-preserved : goal.loop-left-preserved
loop-left-preserved c =
    let size : c.loop-left.done + c.min-part.result - c.loop-left.done ≡ c.min-part.result = omega arith in
    let new = rw size at c.overwrite.ensures in
    let last = rw (walk_step _ _ _ c.loop-left-test.true) at c.loop-left.invariant.filled in
    record {
      here_cells = rw length-set (here_inside _ _ _ c.loop-left.left c.loop-left-test.true c.loop-left.invariant.inside_cells);
      here_links = here_inside _ _ _ c.loop-left.left c.loop-left-test.true c.loop-left.invariant.inside_links;
      inside_cells = rw length-set (rest_inside _ _ _ c.loop-left.left c.loop-left-test.true c.loop-left.invariant.inside_cells);
      inside_links = rest_inside _ _ _ c.loop-left.left c.loop-left-test.true c.loop-left.invariant.inside_links;
      within = search rules;
      same = sym (after_step _ _ _ c.loop-left-test.true) ∙ c.loop-left.invariant.same;
      filled = fill_step c.loop-left.cells c.loop-left.cell (walk c.args.links.now (get_or c.args.links.now c.loop-left.cell 0) (c.loop-left.left - 1)) c.args.bytes.now c.overwrite.new.cell c.loop-left.done c.min-part.result (filled c.args.cells.now (walk c.args.links.now c.args.first c.args.count) c.args.bytes.now)
          c.min-part.ensures new last;
    }
