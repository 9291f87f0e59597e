use Rattle.history.proofs.Prefixes.{always}
use Rattle.group_history.proofs.laws.prefixes_hold.Goals as goal

pub returns : goal.returns
returns c S later before h = record {
  reported = always _ later before h.reported;
  adopted = always _ later before h.adopted;
  flagged = always _ later before h.flagged;
  allowed = always _ later before h.allowed;
  called = always _ later before h.called;
  ended = always _ later before h.ended;
  once = always _ later before h.once;
  told = always _ later before h.told;
  given = always _ later before h.given;
  asked = always _ later before h.asked;
  adoption = always _ later before h.adoption;
}
