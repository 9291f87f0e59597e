-- The calls of the samples that may be, condition by condition.
use Rattle.std.proofs.Common.{refl, arith, [], ◌∷◌}
use Rattle.cl_base.specs.Sets.{has}
use Rattle.cl_base.specs.declared.history.FailoverMode.TheVariants as mode
use Rattle.cl_base.specs.declared.method.Method.TheVariants.{Start, Stop}
use Rattle.cl_base.specs.declared.method.Outcome.TheVariants.{Success}
use Rattle.placement.specs.Resources.{has_enabled}
use Rattle.schedule_text.specs.declared.event.Event.TheVariants as event
use Rattle.sequencer_laws.specs.AllowedCall.{IsAllowedCall}
use Rattle.sequencer_laws.specs.Situations.{has_up, has_online}
use Rattle.history.specs.Trace.{ticked}
use Rattle.history_samples.specs.SampleOneNode.{line_of}
use Rattle.group_history.specs.AllowedCalls.{situation_of}
use Rattle.group_history.specs.Doings.{done}
use Rattle.group_samples.specs.SampleAllowed as allowed
use Rattle.group_samples.specs.SampleAllowed.{dependent, apart, b, h}
use Rattle.group_samples.specs.SampleConfigurations.{a, staying, moving, resource_under}
use Rattle.group_samples.specs.SampleFailover as failover
use Rattle.group_samples.specs.SampleFault as fault
use Rattle.group_samples.specs.SampleServing as serving
use Rattle.group_samples.specs.SampleServing.{sticking}
use Rattle.group_samples.specs.SampleStatus.{tick}
use Rattle.group_samples.proofs.Limits.{none_is_there}

pub faulted : IsAllowedCall (situation_of staying 65 fault.ticking) 1 a Start
unfolding has has_up has_online has_enabled
faulted = record {
  member = refl;
  resource = resource_under mode.None;
  there = refl;
  offered = refl;
  may = (
    record {
      listed = refl;
      managed = refl;
      enabled = refl;
      primaries = search arith;
      strong = refl;
      groups = refl;
      close = refl;
      apart = refl;
      avoided = refl;
      within = λ l there. search (none_is_there l there);
    },
    search,
  );
}

pub failed_once : IsAllowedCall (situation_of moving 65 (ticked 1 ∷ line_of (event.Tick 1) ∷ failover.scripted)) 1 a Start
unfolding has has_up has_online has_enabled
failed_once = record {
  member = refl;
  resource = resource_under mode.Soft;
  there = refl;
  offered = refl;
  may = (
    record {
      listed = refl;
      managed = refl;
      enabled = refl;
      primaries = search arith;
      strong = refl;
      groups = refl;
      close = refl;
      apart = refl;
      avoided = refl;
      within = λ l there. search (none_is_there l there);
    },
    search,
  );
}

pub moved : IsAllowedCall (situation_of moving 65 failover.arrived) 2 a Start
unfolding has has_up has_online has_enabled
moved = record {
  member = refl;
  resource = resource_under mode.Soft;
  there = refl;
  offered = refl;
  may = (
    record {
      listed = refl;
      managed = refl;
      enabled = refl;
      primaries = search arith;
      strong = refl;
      groups = refl;
      close = refl;
      apart = refl;
      avoided = refl;
      within = λ l there. search (none_is_there l there);
    },
    search,
  );
}

pub after_its_dependency : IsAllowedCall (situation_of dependent 65 (done 65 1 Start a Success ∷ allowed.empty)) 1 b Start
unfolding has has_up has_online has_enabled
after_its_dependency = record {
  member = refl;
  resource = record (resource_under mode.None) { strong = a ∷ [] };
  there = refl;
  offered = refl;
  may = (
    record {
      listed = refl;
      managed = refl;
      enabled = refl;
      primaries = search arith;
      strong = refl;
      groups = refl;
      close = refl;
      apart = refl;
      avoided = refl;
      within = λ l there. search (none_is_there l there);
    },
    search,
  );
}

pub away : IsAllowedCall (situation_of apart 65 allowed.up) 2 b Start
unfolding has has_up has_online has_enabled
away = record {
  member = refl;
  resource = record (resource_under mode.None) { group = h };
  there = refl;
  offered = refl;
  may = (
    record {
      listed = refl;
      managed = refl;
      enabled = refl;
      primaries = search arith;
      strong = refl;
      groups = refl;
      close = refl;
      apart = refl;
      avoided = refl;
      within = λ l there. search (none_is_there l there);
    },
    search,
  );
}

pub serving_started : IsAllowedCall (situation_of sticking 65 (tick fault.formed)) 1 a Start
unfolding has has_up has_online has_enabled
serving_started = record {
  member = refl;
  resource = resource_under mode.None;
  there = refl;
  offered = refl;
  may = (
    record {
      listed = refl;
      managed = refl;
      enabled = refl;
      primaries = search arith;
      strong = refl;
      groups = refl;
      close = refl;
      apart = refl;
      avoided = refl;
      within = λ l there. search (none_is_there l there);
    },
    search,
  );
}

pub serving_stopped : IsAllowedCall (situation_of sticking 65 (tick serving.evacuating)) 1 a Stop
unfolding has has_up has_online has_enabled
serving_stopped = record {
  member = refl;
  resource = resource_under mode.None;
  there = refl;
  offered = refl;
  may = record { runs = refl; unmonitored = refl; alone = refl; free = refl };
}
