use Rattle.std.proofs.Common.{◌≡◌, ◌∙◌, Option, ap, refl}
use Rattle.indexmap.specs.IndexMap.{IndexMap}
use Rattle.rg_props.specs.declared.group.Resource.{Resource}
use Rattle.rg_props.specs.Lookups.{flag_resource, with_resource}
use Rattle.rg_props.specs.Table.{GroupTable}
use Rattle.rg_props.specs.contracts.groups.Groups.{the_view}
use Rattle.rg_props.proofs.TableLemmas.{resource_written, resource_missing}
use Rattle.rg_props.proofs.groups.Groups.flag_resource.Goals as goal
use Rattle.rg_props.proofs.groups.Groups.flag_resource.Goals.{in-Some, in_default}

pub returns : goal.returns
returns c =
    let t : GroupTable = the_view c.self.inside in
    let made : Option Resource → GroupTable = λ found. flag_resource t c.args.name.now c.args.flag c.args.on found in
    rw (← c.self.view_is)
    (elim c.match-get_mut.branch [
      | in-Some w ↦ ap the_view w.self-inside-is ∙ resource_written t c.args.name.now made w.in-Some.resource.now w.flag.new.self (c.get_mut.follows.lender w.flag.new.self).entries
          w.in-Some.ensures.value (c.get_mut.follows.holds w.flag.new.self).0 (ap (λ (x : Resource). with_resource t c.args.name.now x) w.flag.ensures)
      | in_default w ↦ ap the_view w.self-inside-is ∙ resource_missing t c.args.name.now made c.get_mut.follows.lender-at-none.entries
          w.in_default.ensures.value (ap (λ m. m.entries) c.get_mut.follows.holds-at-none) refl
    ])
