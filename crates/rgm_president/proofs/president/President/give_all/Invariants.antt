use Rattle.std.proofs.Common.{◌≡◌, ◌≤◌, ◌+◌, IfSome, take}
use Rattle.rgm_president.specs.Decisions.{outlook_over, turns_of}
use Rattle.sequencer.specs.Shown.{Shows}
use Rattle.rgm_president.proofs.president.President.give_all.Given as goal

abbrev pub invariant-loop-n : goal.invariant-loop-n
invariant-loop-n l = record {
  turn : record { president = l.self; orders = l.orders.items } ≡ turns_of l.c l.resources l.fn.self (take l.n-index l.nodes);
  number : l.self.given ≤ l.fn.self.given + l.n-index;
  holds : IfSome l.outlook (λ o. Shows l.c.groups o (outlook_over l.c l.resources l.self.view));
}
