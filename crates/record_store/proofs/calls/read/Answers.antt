use Rattle.std.proofs.Common.{◌≡◌, ◌+◌, ℕ, length, take, drop, sym, ◌∙◌, ap, arith}
use Rattle.std.proofs.lemmas.List.{length-take-le, take_at}
use Rattle.local_disk.specs.LocalDisk.{bytes_at}
use Rattle.record_store.proofs.Slots.{Found, found, text_found}
use Rattle.record_store.proofs.calls.read.Goals as goal

pub slice_bounds-read_at-end-3 : goal.slice_bounds-read_at-end-3
slice_bounds-read_at-end-3 g c =
    let f : Found c.named-slot.result c.from_be_bytes-length.result (g.D.LocalDisk.reads c.args.disk.now) =
    found c.named-slot.result c.place.result c.from_be_bytes-length.result (g.D.LocalDisk.reads c.args.disk.now) (g.D.LocalDisk.reads c.sync.new.self) (g.D.LocalDisk.reads c.read_at.new.self)
    c.read_at.new.buf c.read_at-2.new.buf c.named-slot.ensures c.in_ok-read_at.ensures.bytes c.sync.ensures.reads c.place.ensures.place c.from_be_bytes-length.ensures
    c.in_ok-read_at-2.ensures.bytes (c.read_at.ensures.reads ∙ c.sync.ensures.reads)
    (c.requires.mountable (g.D.LocalDisk.reads c.args.disk.now) (g.met.D.LocalDisk.reads_is_left c.args.disk.now)) in
    omega (arith, f.most, c.requires.room)

pub slice_bounds-read_at-end-4 : goal.slice_bounds-read_at-end-4
slice_bounds-read_at-end-4 g c =
    let f : Found c.named-slot.result c.from_be_bytes-length.result (g.D.LocalDisk.reads c.args.disk.now) =
    found c.named-slot.result c.place.result c.from_be_bytes-length.result (g.D.LocalDisk.reads c.args.disk.now) (g.D.LocalDisk.reads c.sync.new.self) (g.D.LocalDisk.reads c.read_at.new.self)
    c.read_at.new.buf c.read_at-2.new.buf c.named-slot.ensures c.in_ok-read_at.ensures.bytes c.sync.ensures.reads c.place.ensures.place c.from_be_bytes-length.ensures
    c.in_ok-read_at-2.ensures.bytes (c.read_at.ensures.reads ∙ c.sync.ensures.reads)
    (c.requires.mountable (g.D.LocalDisk.reads c.args.disk.now) (g.met.D.LocalDisk.reads_is_left c.args.disk.now)) in
    sym (length-take-le c.from_be_bytes-length.result c.args.room.now (omega (arith, f.most, c.requires.room)))

pub returns-clause-length : goal.returns-clause-length
returns-clause-length g c =
    let f : Found c.named-slot.result c.from_be_bytes-length.result (g.D.LocalDisk.reads c.args.disk.now) =
    found c.named-slot.result c.place.result c.from_be_bytes-length.result (g.D.LocalDisk.reads c.args.disk.now) (g.D.LocalDisk.reads c.sync.new.self) (g.D.LocalDisk.reads c.read_at.new.self)
    c.read_at.new.buf c.read_at-2.new.buf c.named-slot.ensures c.in_ok-read_at.ensures.bytes c.sync.ensures.reads c.place.ensures.place c.from_be_bytes-length.ensures
    c.in_ok-read_at-2.ensures.bytes (c.read_at.ensures.reads ∙ c.sync.ensures.reads)
    (c.requires.mountable (g.D.LocalDisk.reads c.args.disk.now) (g.met.D.LocalDisk.reads_is_left c.args.disk.now)) in
    f.most

pub returns-clause-text : goal.returns-clause-text
returns-clause-text g c =
    let f : Found c.named-slot.result c.from_be_bytes-length.result (g.D.LocalDisk.reads c.args.disk.now) =
    found c.named-slot.result c.place.result c.from_be_bytes-length.result (g.D.LocalDisk.reads c.args.disk.now) (g.D.LocalDisk.reads c.sync.new.self) (g.D.LocalDisk.reads c.read_at.new.self)
    c.read_at.new.buf c.read_at-2.new.buf c.named-slot.ensures c.in_ok-read_at.ensures.bytes c.sync.ensures.reads c.place.ensures.place c.from_be_bytes-length.ensures
    c.in_ok-read_at-2.ensures.bytes (c.read_at.ensures.reads ∙ c.sync.ensures.reads)
    (c.requires.mountable (g.D.LocalDisk.reads c.args.disk.now) (g.met.D.LocalDisk.reads_is_left c.args.disk.now)) in
    let n = c.from_be_bytes-length.result in
    let p = c.place-2.result in
    let long : length (take n c.args.room.now) ≡ n = length-take-le n c.args.room.now (omega (arith, f.most, c.requires.room)) in
    take_at c.read_at-3.new.buf (drop n c.args.room.now) n (omega (arith, long, c.read_at-3.auto.buf))
    ∙ c.in_ok-read_at-3.ensures.bytes
    ∙ ap (λ (m : ℕ). bytes_at (p + 4) m (g.D.LocalDisk.reads c.read_at-2.new.self)) long
    ∙ ap (bytes_at (p + 4) n) (c.read_at-2.ensures.reads ∙ c.read_at.ensures.reads ∙ c.sync.ensures.reads)
    ∙ text_found c.named-slot.result p n (g.D.LocalDisk.reads c.args.disk.now) c.place-2.ensures.place f.names f.told f.most
