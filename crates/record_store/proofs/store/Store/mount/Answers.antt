use Rattle.std.proofs.Common.{◌≡◌, take, drop, sym, ◌∙◌, ap, subst, arith}
use Rattle.std.proofs.lemmas.List.{with_items_is}
use Rattle.record_store.specs.Images.{selected, text_of, IsMountable}
use Rattle.record_store.proofs.Slots.{text_kept}
use Rattle.record_store.proofs.store.Store.mount.Goals as goal

pub returns-clause-stands : goal.returns-clause-stands
returns-clause-stands g c =
    let old = g.D.LocalDisk.reads c.args.disk.now in
    let text_is : c.truncate.new.self.items ≡ text_of old =
    c.truncate.ensures.items ∙ ap (take c.in_ok-slot.length) (with_items_is c.in_ok-text.text c.read.new.room (omega arith)) ∙ c.in_ok-slot.ensures.text in
    let kept : drop 4 c.spell.new.buffer.items ≡ c.truncate.new.self.items =
    ap (drop 4) c.spell.ensures.spelled ∙ text_kept c.deref.result.now ∙ c.deref.ensures.value in
    record {
      synced = c.in_ok-slot.ensures.synced;
      slot = ap selected c.read.ensures.reads ∙ sym c.in_ok-slot.ensures.slot;
      mounts = record {
        mountable = subst IsMountable (sym c.read.ensures.reads) (c.requires old (g.met.D.LocalDisk.reads_is_left c.args.disk.now));
        gives = ap text_of c.read.ensures.reads ∙ sym (kept ∙ text_is);
      };
    }

pub returns-clause-each : goal.returns-clause-each
returns-clause-each g c = λ image left.
    let old = g.D.LocalDisk.reads c.args.disk.now in
    let text_is : c.truncate.new.self.items ≡ text_of old =
    c.truncate.ensures.items ∙ ap (take c.in_ok-slot.length) (with_items_is c.in_ok-text.text c.read.new.room (omega arith)) ∙ c.in_ok-slot.ensures.text in
    let same : image ≡ old = c.in_ok-slot.ensures.synced image left ∙ c.read.ensures.reads in
    record {
      mountable = subst IsMountable (sym same) (c.requires old (g.met.D.LocalDisk.reads_is_left c.args.disk.now));
      gives = ap text_of same ∙ sym text_is;
    }
