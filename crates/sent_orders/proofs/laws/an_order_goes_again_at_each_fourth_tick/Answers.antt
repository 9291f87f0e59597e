use Rattle.sent_orders.proofs.Fourth.{at_the_fourth, at_no_other}
use Rattle.sent_orders.proofs.laws.an_order_goes_again_at_each_fourth_tick.Goals as goal

pub returns-clause-due : goal.returns-clause-due
returns-clause-due c = λ ages n k low high. at_the_fourth ages n low high k

pub returns-clause-early : goal.returns-clause-early
returns-clause-early c = λ ages n k r low high l. at_no_other ages n low high k r l
