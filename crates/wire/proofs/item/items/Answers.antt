use Rattle.std.proofs.Common.{◌≡◌, ◌++◌, ◌∷◌, []}
use Rattle.std.proofs.lemmas.Result.{err_from_is_err_and}
use Rattle.wire.specs.Reads.{items_at}
use Rattle.wire.proofs.Loop.{goes_on, ends, is_done}
use Rattle.wire.proofs.item.items.Goals as goal

pub returns-in_err-take : goal.returns-in_err-take
returns-in_err-take g c =
    let p = err_from_is_err_and c.from_residual.result c.from_residual.ensures.1 in
    rw (p.1, p.2) (ends g.T.Item.read_at c.in_err-take.field-0.0 c.loop.items.items c.args.count c.loop.counter c.loop.reader (items_at g.T.Item.read_at c.args.count c.args.reader.now) c.loop-test.true c.in_err-take.ensures c.loop.invariant)

pub loop-preserved : goal.loop-preserved
loop-preserved g c =
    let n = c.in_ok-take.field-0 in
    let e : c.push.new.self.items ≡ c.loop.items.items ++ n ∷ [] = c.in_ok-push.ensures.items in
    rw e (goes_on g.T.Item.read_at c.loop.items.items c.args.count c.loop.counter c.loop.reader n c.take.new.reader (items_at g.T.Item.read_at c.args.count c.args.reader.now) c.loop-test.true c.in_ok-take.ensures c.loop.invariant)

pub returns : goal.returns
returns g c = is_done g.T.Item.read_at c.loop.items.items c.args.count c.loop.counter c.loop.reader (items_at g.T.Item.read_at c.args.count c.args.reader.now) c.loop-test.false c.loop.invariant
