-- What a message says of what was read.
use Rattle.std.specs.Prelude.{List, Some, ℕ}
use Rattle.cl_base.specs.declared.header.Header.{Header}
use Rattle.cl_base.specs.declared.seizing.SeizeEnd.TheVariants as end
use Rattle.history.specs.Moment.{Moment}
use Rattle.wire.specs.declared.message.Body.{Body}
use Rattle.wire.specs.declared.message.Body.TheVariants as body
use Rattle.run_devices.specs.readings.Laws.{BroughtIn, SeizedIn}
use Rattle.run_devices.specs.readings.Readings.{StandsSo}

-- what it says is so of what was read
pub says_so : (h : Header) (ms : List Moment) (n : ℕ) (b : Body) → StandsSo h ms n b → SeizedIn h ms n (Some b)
says_so h ms n (body.Seized e d (end.Held keys)) k = k
says_so h ms n (body.Seized e d (end.NotRegistered keys)) k = tt
says_so h ms n (body.Seized e d (end.Greater w)) k = tt
says_so h ms n (body.Seized e d end.Expelled) k = tt
says_so h ms n (body.Seized e d (end.Contended key)) k = tt
says_so h ms n (body.Seized e d end.Fault) k = tt
says_so h ms n (body.Install i) k = tt
says_so h ms n (body.Heartbeat promised session is_one) k = tt
says_so h ms n (body.Collect p members) k = tt
says_so h ms n (body.Promise p newest members valid flagged committed pending) k = tt
says_so h ms n (body.Nack p promised) k = tt
says_so h ms n (body.SeizeQuorum e members d) k = tt
says_so h ms n (body.SeizeData e members d) k = tt
says_so h ms n (body.Ready p joined report) k = tt
says_so h ms n (body.Start p) k = tt
says_so h ms n (body.Prepare p place text) k = tt
says_so h ms n (body.Prepared p place) k = tt
says_so h ms n (body.Commit p place) k = tt
says_so h ms n (body.Order o) k = tt
says_so h ms n (body.Done p number outcome) k = tt
says_so h ms n (body.Request p number text) k = tt
says_so h ms n (body.Answer p number text) k = tt
says_so h ms n (body.Excluded p newest) k = tt

pub brings_so : (h : Header) (ms : List Moment) (n : ℕ) (b : Body) → StandsSo h ms n b → BroughtIn h ms (Some b)
brings_so h ms n (body.Install i) k = k.1
brings_so h ms n (body.Seized e d r) k = tt
brings_so h ms n (body.Heartbeat promised session is_one) k = tt
brings_so h ms n (body.Collect p members) k = tt
brings_so h ms n (body.Promise p newest members valid flagged committed pending) k = tt
brings_so h ms n (body.Nack p promised) k = tt
brings_so h ms n (body.SeizeQuorum e members d) k = tt
brings_so h ms n (body.SeizeData e members d) k = tt
brings_so h ms n (body.Ready p joined report) k = tt
brings_so h ms n (body.Start p) k = tt
brings_so h ms n (body.Prepare p place text) k = tt
brings_so h ms n (body.Prepared p place) k = tt
brings_so h ms n (body.Commit p place) k = tt
brings_so h ms n (body.Order o) k = tt
brings_so h ms n (body.Done p number outcome) k = tt
brings_so h ms n (body.Request p number text) k = tt
brings_so h ms n (body.Answer p number text) k = tt
brings_so h ms n (body.Excluded p newest) k = tt
