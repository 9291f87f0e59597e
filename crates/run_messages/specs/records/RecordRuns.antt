-- What is proved of each run of the world, as things that happen: the record of a node is what the trace tells of it.
use Rattle.history.specs.Contents.{InstallsTheBase, NewestBase, NewestInstalled, Records}
use Rattle.run_history.specs.ContactRuns.{OfEachRun}

-- a base has the texts that its coordinator has installed
abbrev pub InstalledBaseOfEachRun : Type 0
InstalledBaseOfEachRun = OfEachRun InstallsTheBase

-- a Promise shows the record of its sender, an Install that of the coordinator, which has installed the attempt
abbrev pub RecordsOfEachRun : Type 0
RecordsOfEachRun = OfEachRun Records

-- what a coordinator installs is the newest of the records in hand
abbrev pub NewestOfEachRun : Type 0
NewestOfEachRun = OfEachRun NewestInstalled

-- a base has the texts of the newest of them
abbrev pub NewestBaseOfEachRun : Type 0
NewestBaseOfEachRun = OfEachRun NewestBase
