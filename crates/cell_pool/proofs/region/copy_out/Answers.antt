use Rattle.std.proofs.Common.{◌≡◌, ℕ, ◌-◌, arith, rules, ◌∙◌, length-take, refl, get_or, take, []}
use Rattle.cell_pool.specs.Region.{walk, content}
use Rattle.cell_pool.proofs.Walks.{walk_step, here_inside, rest_inside, first_inside}
use Rattle.cell_pool.proofs.Pieces.{front_step, back_step}
use Rattle.cell_pool.proofs.region.copy_out.Goals as goal

pub loop-left-init : goal.loop-left-init
loop-left-init c =
    let e : c.args.size - 0 ≡ c.args.size = omega arith in
    record {
      here_cells = λ some. first_inside _ _ _ c.args.count some c.requires.inside_cells;
      here_links = λ some. first_inside _ _ _ c.args.count some c.requires.inside_links;
      inside_cells = c.requires.inside_cells;
      inside_links = c.requires.inside_links;
      within = search rules;
      enough = search rules;
      front = rw e refl;
      back = search rules;
    }

pub loop-left-preserved : goal.loop-left-preserved
loop-left-preserved c =
    let full = c.told-cells c.loop-left.cell (c.loop-left.invariant.here_cells c.loop-left-test.true) in
    let last = rw (walk_step _ _ _ c.loop-left-test.true) at c.loop-left.invariant.front in
    record {
      here_cells = here_inside _ _ _ c.loop-left.left c.loop-left-test.true c.loop-left.invariant.inside_cells;
      here_links = here_inside _ _ _ c.loop-left.left c.loop-left-test.true c.loop-left.invariant.inside_links;
      inside_cells = rest_inside _ _ _ c.loop-left.left c.loop-left-test.true c.loop-left.invariant.inside_cells;
      inside_links = rest_inside _ _ _ c.loop-left.left c.loop-left-test.true c.loop-left.invariant.inside_links;
      within = search rules;
      enough = search rules;
      front = front_step c.loop-left.out c.copy_piece.new.out (get_or c.args.cells.now c.loop-left.cell []) (content c.args.cells.now (walk c.args.links.now (get_or c.args.links.now c.loop-left.cell 0) (c.loop-left.left - 1))) (take c.args.size (content c.args.cells.now (walk c.args.links.now c.args.first c.args.count))) c.loop-left.done c.args.size c.min-part.result full c.loop-left.invariant.within
          (omega arith) c.min-part.ensures c.copy_piece.ensures last;
      back = back_step c.loop-left.out c.copy_piece.new.out (take c.min-part.result (get_or c.args.cells.now c.loop-left.cell [])) c.loop-left.done c.args.size (omega (arith, length-take {A = ℕ})) (omega arith) c.copy_piece.ensures
          ∙ c.loop-left.invariant.back;
    }
