-- The names of messages as lines write them.
use Rattle.std.specs.Prelude.{ℕ}
use Rattle.cl_base.specs.declared.packet.MessageName.{MessageName}
use Rattle.history.specs.Names as name
use Rattle.history.specs.Names.{written}

abbrev pub Heartbeat : MessageName
Heartbeat = written name.Heartbeat

abbrev pub Collect : MessageName
Collect = written name.Collect

abbrev pub Promise : MessageName
Promise = written name.Promise

abbrev pub Nack : MessageName
Nack = written name.Nack

abbrev pub SeizeQuorum : ℕ → MessageName
SeizeQuorum d = written (name.SeizeQuorum d)

abbrev pub SeizeData : ℕ → MessageName
SeizeData d = written (name.SeizeData d)

abbrev pub Seized : ℕ → MessageName
Seized d = written (name.Seized d)

abbrev pub Install : MessageName
Install = written name.Install

abbrev pub Ready : MessageName
Ready = written name.Ready

abbrev pub Start : MessageName
Start = written name.Start

abbrev pub Prepare : ℕ → MessageName
Prepare v = written (name.Prepare v)

abbrev pub Prepared : ℕ → MessageName
Prepared v = written (name.Prepared v)

abbrev pub Commit : ℕ → MessageName
Commit v = written (name.Commit v)

abbrev pub Order : ℕ → MessageName
Order k = written (name.Order k)

abbrev pub Done : ℕ → MessageName
Done k = written (name.Done k)

abbrev pub Request : ℕ → MessageName
Request q = written (name.Request q)

abbrev pub Answer : ℕ → MessageName
Answer q = written (name.Answer q)

abbrev pub Excluded : MessageName
Excluded = written name.Excluded
