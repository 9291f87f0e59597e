-- How the fields of a device are seen.
use Rattle.pgr_device.specs.declared.state.State.{State}
use Rattle.pgr_device.specs.Device.{Device}

abbrev pub seen : State → Device
seen s = record { paths = s.paths; registrations = s.registrations.items; reservation = s.reservation; word = s.word; value = s.value }
