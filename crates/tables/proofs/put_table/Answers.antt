-- The count, and behind it the entries.
use Rattle.std.proofs.Common.{◌≡◌, ◌*◌, ℕ, ap, arith, length, take, length-take-le}
use Rattle.tables.proofs.Putting.{count_room, list-room, table-put}
use Rattle.tables.proofs.put_table.Goals as goal

pub put_u32-requires : goal.put_u32-requires
put_u32-requires g c =
    count_room g.E.Entry.written g.E.Entry.SIZE g.met.E.Entry.fixed c.args.count c.args.list.now c.args.at c.args.out.now
    c.requires.room c.requires.bytes_fit

pub put_entries-requires : goal.put_entries-requires
put_entries-requires g c =
    let n : length (take c.held_of.result c.args.list.now) ≡ c.held_of.result =
    length-take-le c.held_of.result c.args.list.now (omega (arith, c.held_of.ensures.bound, c.requires.room)) in
    let m = ap (λ (k : ℕ). g.E.Entry.SIZE * k) n in
    let room =
    list-room g.E.Entry.written g.E.Entry.SIZE g.met.E.Entry.fixed c.args.count c.args.list.now c.args.at c.args.out.now
    c.requires.room c.requires.bytes_fit c.held_of.ensures.answer c.put_u32.ensures.buffer in
    (omega (arith, c.held_of.ensures.bound), omega arith)

pub returns : goal.returns
returns g c =
    record {
      buffer =
          table-put g.E.Entry.written g.E.Entry.SIZE g.met.E.Entry.fixed c.args.count c.args.list.now c.args.at
          c.args.out.now c.requires.room c.requires.bytes_fit c.held_of.ensures.answer c.put_u32.ensures.buffer
          c.put_entries.ensures.buffer;
    }
