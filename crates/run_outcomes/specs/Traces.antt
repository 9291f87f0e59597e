-- What is proved of each run of the world, as the lines of a schedule: its text is that of moments, one after another, in which these lines are said.
use Rattle.std.specs.Prelude.{ℕ, ◌≡◌, ◌<◌, ◌≤◌, ◌^◌, List, [], length, None}
use Rattle.std.specs.List.{AllByRecursion}
use Rattle.cl_base.specs.Limits.{most_devices, most_nodes}
use Rattle.cl_base.specs.declared.header.Header.{Header}
use Rattle.schedule_text.specs.declared.event.Event.{Event}
use Rattle.schedule_text.specs.declared.event.Event.TheVariants as event
use Rattle.history.specs.Contact.{AttemptsDiffer, HasVotes, Held, Installed, Prepared, Ready, ToldMembers}
use Rattle.history.specs.Contents.{Heartbeats, InstallsTheBase, KnownHeld, NewestBase, NewestInstalled, Records, Spelled}
use Rattle.history.specs.DeviceRun.{DeviceRun}
use Rattle.history.specs.DiskRule.{DiskRule}
use Rattle.history.specs.History.{History, Repository}
use Rattle.history.specs.Links.{Links, drop_due}
use Rattle.history.specs.Moment.{Moment, lines_of}
use Rattle.history.specs.Order.{Always}
use Rattle.history.specs.Starts.{StartLines, base_due}
use Rattle.history_setting.specs.Settings.{setting_of}
use Rattle.world_model.specs.Worlds.{Play}
use Rattle.run_attempts.specs.Laws.{BeatsInTick, BringsMembers}
use Rattle.run_attempts.specs.endings.Laws.{HasPromises, HasWaited, NamesMember}
use Rattle.run_commands.specs.Numbered.{CommandsAreNumbered}
use Rattle.run_commands.specs.Own.{OwnAnswersFit}
use Rattle.run_devices.specs.installs.Laws.{TellsAllSeizings}
use Rattle.run_devices.specs.readings.Laws.{BringsWhatWasRead, SaysWhatWasRead}
use Rattle.run_devices.specs.valid.Laws.{OneSeizer}
use Rattle.run_devices.specs.validity.Laws.{ShowsValidity}
use Rattle.run_downs.specs.Laws.{BootIsSaid, SavesInEvent}
use Rattle.run_history.specs.Scenes.{text_of}
use Rattle.run_history.specs.Telling.{IsInHeader, IsTold, lines_upon}
use Rattle.run_history.specs.WorldLines.{AreDisks}
use Rattle.run_outcomes.specs.counts.Laws.{EndsNeeding, NamesLacking}

-- There are moments of which the text is what is printed: exactly these events are said, in this order. They are what
-- can happen in one cluster. Of every trace: the links and the devices do what their lines say, each start has its base,
-- what was acknowledged is kept, no device takes a write of a node that a greater membership left out, a node installs,
-- is ready, is a member and has prepared by the messages that tell of it, and a membership starts with a majority of the
-- votes under its base and with devices that were seized for it, as its coordinator knew. The bytes of each message spell
-- it: a Promise and an Install show the record of their sender, the newest in hand is installed and is the base, and a
-- Heartbeat says who is a member.
-- While there are fewer than 2^63 lines, which number the commands, and fewer than 2^63 moments, which number the packets
-- and the saves of a record, the moments are a whole history (`History` of `history`): with what stands above each line
-- has its entries, or is skipped for its cause; attempts begin, end and start for their causes, and do end; a start
-- accounts for its devices; nodes go down for their causes alone; commands are taken and answered once; messages are
-- answered, and go again; the parts of rounds come in their order, and none is left open.
-- What stands last says more than `History` of its kind: a Heartbeat goes to another node, an Install brings the members
-- of its attempt, an attempt that ends for want of votes has fewer than it needs and names the devices that are lacking in
-- order, a Promise shows the devices that are valid to its sender (where no stop left that open), a Seized and an Install
-- bring what was read by the one node that seized the device, an Install tells no other, and a node comes up and saves in
-- the event that makes it do so. While there are fewer than 2^63 lines each command is numbered, and its answer fits.
pub record IsTrace (h : Header) (events : List Event) (text : List ℕ) : Type 0 where
  pub moments : List Moment
  pub said : lines_of moments ≡ lines_upon [] events
  pub told : text ≡ text_of moments
  pub links : Links 65536 moments
  pub no_drop_due : drop_due 65536 moments ≡ None
  pub devices : DeviceRun h moments
  pub start_lines : StartLines moments
  pub no_base_due : base_due moments ≡ None
  pub repository : Repository moments
  pub disk_rule : DiskRule h moments
  pub attempts_differ : AttemptsDiffer moments
  pub installed : Installed moments
  pub ready : Ready moments
  pub members : ToldMembers moments
  pub prepared : Prepared moments
  pub held : Held h moments
  pub votes : HasVotes (setting_of h) moments
  pub spelled : Spelled moments
  pub records : Records moments
  pub newest : NewestInstalled moments
  pub installed_base : InstallsTheBase moments
  pub newest_base : NewestBase moments
  pub known_held : KnownHeld h moments
  pub heartbeats : Heartbeats moments
  pub history : length (lines_of moments) < 2 ^ 63 → length moments < 2 ^ 63 → History (setting_of h) moments
  pub beats_in_ticks : Always BeatsInTick moments
  pub installs_bring : Always BringsMembers moments
  pub waited : Always HasWaited moments
  pub promised : Always HasPromises moments
  pub names_members : Always NamesMember moments
  pub needed : Always (EndsNeeding (setting_of h)) moments
  pub lacking : Always (NamesLacking (setting_of h)) moments
  pub seizeds : Always (SaysWhatWasRead h) moments
  pub readings : Always (BringsWhatWasRead h) moments
  pub one_seizer : OneSeizer h moments
  pub installs_told : Always (TellsAllSeizings h) moments
  pub valid_shown : Always (ShowsValidity h) moments
  pub numbered : length (lines_of moments) < 2 ^ 63 → CommandsAreNumbered moments
  pub own_answers : length (lines_of moments) < 2 ^ 63 → OwnAnswersFit (setting_of h) moments
  pub boots : Always BootIsSaid moments
  pub saves : Always SavesInEvent moments

-- Lines boot nodes of the header, and arm faults of its nodes and devices; they write to devices by numbers from 1 on, ask for one round at least, and give
-- commands of 4,096 bytes at most.
abbrev pub IsPlain : Header → Event → Type 0
IsPlain h (event.Write n d value) = 1 ≤ d
IsPlain h (event.Rounds count nodes) = 1 ≤ count
IsPlain h (event.Command n words) = length words ≤ 4096
IsPlain h e = IsInHeader h e

-- What plain lines come to in a world of 65,536 cells of links is a trace of them.
abbrev pub TracesOfEachRun : Type 0
TracesOfEachRun = (h : Header) (events : List Event) (p : Play) → h.nodes ≤ most_nodes → length h.devices ≤ most_devices → h.cluster < 2 ^ 32 → AreDisks h
    → AllByRecursion (IsPlain h) events → IsTold h 65536 [] events p → IsTrace h events p.text
