use Rattle.std.proofs.Common.{ap}
use Rattle.plant_books.proofs.MadeLaws.{if_made}
use Rattle.plant_books.proofs.changes.put_row.Goals as goal

pub returns-in-Grant-clause-ok : goal.returns-in-Grant-clause-ok
returns-in-Grant-clause-ok c =
    rw c.in-Grant.is (if_made c.put.result (λ is. ap (λ rows. record c.args.rows.now { grants = rows }) is) c.put.ensures.ok)

pub returns-in-Alarm-clause-ok : goal.returns-in-Alarm-clause-ok
returns-in-Alarm-clause-ok c =
    rw c.in-Alarm.is (if_made c.put-in-Alarm.result (λ is. ap (λ rows. record c.args.rows.now { alarms = rows }) is) c.put-in-Alarm.ensures.ok)

pub returns-in-Shelf-clause-ok : goal.returns-in-Shelf-clause-ok
returns-in-Shelf-clause-ok c =
    rw c.in-Shelf.is (if_made c.put-in-Shelf.result (λ is. ap (λ rows. record c.args.rows.now { shelves = rows }) is) c.put-in-Shelf.ensures.ok)

pub returns-in-Event-clause-ok : goal.returns-in-Event-clause-ok
returns-in-Event-clause-ok c =
    rw c.in-Event.is (if_made c.put-in-Event.result (λ is. ap (λ rows. record c.args.rows.now { events = rows }) is) c.put-in-Event.ensures.ok)

pub returns-in-Band-clause-ok : goal.returns-in-Band-clause-ok
returns-in-Band-clause-ok c =
    rw c.in-Band.is (if_made c.put-in-Band.result (λ is. ap (λ rows. record c.args.rows.now { bands = rows }) is) c.put-in-Band.ensures.ok)

pub returns-in-Cell-clause-ok : goal.returns-in-Cell-clause-ok
returns-in-Cell-clause-ok c =
    rw c.in-Cell.is (if_made c.put-in-Cell.result (λ is. ap (λ rows. record c.args.rows.now { cells = rows }) is) c.put-in-Cell.ensures.ok)

pub returns-in-Record-clause-ok : goal.returns-in-Record-clause-ok
returns-in-Record-clause-ok c =
    rw c.in-Record.is (if_made c.put-in-Record.result (λ is. ap (λ rows. record c.args.rows.now { records = rows }) is) c.put-in-Record.ensures.ok)

pub returns-in-Change-clause-ok : goal.returns-in-Change-clause-ok
returns-in-Change-clause-ok c =
    rw c.in-Change.is (if_made c.put-in-Change.result (λ is. ap (λ rows. record c.args.rows.now { changes = rows }) is) c.put-in-Change.ensures.ok)
