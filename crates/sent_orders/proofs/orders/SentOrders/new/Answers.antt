use Rattle.std.proofs.Common.{refl, None}
use Rattle.std.proofs.lemmas.List.Elements.{All-replicate}
use Rattle.sent_orders.specs.Ages.{IsYoung}
use Rattle.sent_orders.proofs.orders.SentOrders.new.Goals as goal

pub invariant_of-result : goal.invariant_of-result
invariant_of-result c = (refl, All-replicate IsYoung 32 None tt)
