use Rattle.std.proofs.Common.{subst, false, Bool, Some, ◌++◌}
use Rattle.plant_wire.specs.declared.reads.End.TheVariants.{WriteFailed}
use Rattle.plant_server_clients.specs.{Events.{reading, writing}, Happens.{Moved}}
use Rattle.plant_server_clients.proofs.{Due.{over_due}, Leading.{lost_write, notes_all, notes_short, turned_all, turned_short}, OneTurn.{short_one, turn_one}}
use Rattle.plant_server_clients.proofs.connections.turn_connection.Goals as goal

pub returns-then-not-read_if-clause-turned : goal.returns-then-not-read_if-clause-turned
returns-then-not-read_if-clause-turned g c =
    let s = g.P.Ports.seen c.args.ports.now in
    let t = g.P.Ports.seen c.read_if.new.ports in
    let l = c.args.connection.now in
    let m = c.read_if.new.connection in
    let asked = c.args.asked in
    let lost = subst (λ (b : Bool). Moved s t l m asked.reads reading b) c.if-not-read_if.true c.read_if.ensures.moved in
    let one = short_one s t l m asked.reads asked.serves false lost (c.read_if.ensures.failed c.if-not-read_if.true) in (
      turned_short g.B.Books c.args.office.now.books s t l m asked lost one,
      notes_short g.B.Books c.args.office.now.books c.args.office.now.faults s t l m asked lost one,
    )

pub returns-then-not-write_connection-clause-turned : goal.returns-then-not-write_connection-clause-turned
returns-then-not-write_connection-clause-turned g c =
    let b = g.B.Books in
    let x = c.args.office.now.books in
    let y = c.serve_if.new.office.books in
    let f = c.args.office.now.faults in
    let f' = c.serve_if.new.office.faults in
    let s = g.P.Ports.seen c.args.ports.now in
    let t = g.P.Ports.seen c.read_if.new.ports in
    let u = g.P.Ports.seen c.write_connection.new.ports in
    let l = c.args.connection.now in
    let m = c.read_if.new.connection in
    let n = c.serve_if.new.connection in
    let o = c.write_connection.new.connection in
    let asked = c.args.asked in
    let reads = asked.reads in
    let serves = asked.serves in
    let lost = subst (λ (goes_on : Bool). Moved t u n o false writing goes_on) c.if-not-write_connection.true c.write_connection.ensures.moved in
    let read = c.read_if.ensures.moved in
    let made = c.serve_if.ensures.made in
    let one = turn_one b x y f f' s t u l m n o reads serves c.read_if.result false read made lost in
    let why = lost_write b x y f f' s t u l m n o reads serves c.read_if.result read made lost in (
      turned_all b x y f f' s t u l m n o asked c.read_if.result false (Some WriteFailed) read made lost one why,
      notes_all b x y f f' s t u l m n o asked c.read_if.result false (Some WriteFailed) read made lost one why,
    )

pub returns-clause-turned : goal.returns-clause-turned
returns-clause-turned g c =
    let b = g.B.Books in
    let x = c.args.office.now.books in
    let y = c.serve_if.new.office.books in
    let f = c.args.office.now.faults in
    let f' = c.serve_if.new.office.faults in
    let s = g.P.Ports.seen c.args.ports.now in
    let t = g.P.Ports.seen c.read_if.new.ports in
    let u = g.P.Ports.seen c.write_connection.new.ports in
    let l = c.args.connection.now in
    let m = c.read_if.new.connection in
    let n = c.serve_if.new.connection in
    let o = c.write_connection.new.connection in
    let asked = c.args.asked in
    let here = c.read_if.result in
    let goes_on = c.write_connection.result in
    let read = c.read_if.ensures.moved in
    let made = c.serve_if.ensures.made in
    let wrote = c.write_connection.ensures.moved in
    let one = turn_one b x y f f' s t u l m n o asked.reads asked.serves here goes_on read made wrote in
    let why = over_due o (read.events ++ (made.events ++ wrote.events)) c.over.result c.over.ensures.named in (
      turned_all b x y f f' s t u l m n o asked here goes_on c.over.result read made wrote one why,
      notes_all b x y f f' s t u l m n o asked here goes_on c.over.result read made wrote one why,
    )
