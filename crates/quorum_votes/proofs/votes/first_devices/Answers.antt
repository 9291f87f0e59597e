use Rattle.std.proofs.Common.{◌≡◌, ◌+◌, ◌++◌, None, Some, [], ◌∷◌, length, map, take, sym, ap, ◌∙◌, arith, get_or}
use Rattle.std.proofs.lemmas.List.{length-take-le, length-map, map_more}
use Rattle.quorum_votes.specs.Votes.{first_device}
use Rattle.quorum_votes.proofs.PlaceLemmas.{filled}
use Rattle.quorum_votes.proofs.votes.first_devices.Goals as goal

pub loop-place-preserved : goal.loop-place-preserved
loop-place-preserved c =
    let here : first_device (get_or c.args.listed.now c.loop-place.place c.index-listed-place.result) ≡ Some c.first_device.result = ap first_device (sym c.index-listed-place.is) ∙ c.first_device.ensures in
    let next : map first_device (take (c.loop-place.place + 1) c.args.listed.now) ≡ map first_device (take c.loop-place.place c.args.listed.now) ++ Some c.first_device.result ∷ [] =
    rw (← here) (map_more first_device c.args.listed.now c.loop-place.place c.index-listed-place.result (omega arith)) in
    let size : length (map first_device (take c.loop-place.place c.args.listed.now)) ≡ c.loop-place.place = rw length-map (length-take-le c.loop-place.place c.args.listed.now (omega arith)) in
    filled 16 c.loop-place.place None (Some c.first_device.result) (map first_device (take c.loop-place.place c.args.listed.now)) (map first_device (take (c.loop-place.place + 1) c.args.listed.now))
    c.loop-place.devices (omega arith) size next c.loop-place.invariant
