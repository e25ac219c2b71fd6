use Rattle.std.proofs.{Common.{◌≡◌, ap, refl, length, slice_get, slice_set, subst, sym, Some, ℕ, ◌∙◌}, lemmas.Option.{slice_get_read}}
use Rattle.plant_wire_call.specs.Cut.{WaitsBelow}
use Rattle.plant_server_clients.specs.{Faults.{reporting}, Happens.{connection_state}, Service.{IsConsistent, service_state}, Paces.{AreRising, numbers}}
use Rattle.plant_server_clients.specs.{Prompt.{IsPrompt}, Stages.{AreOpenConnections, MayClose}}
use Rattle.plant_server_clients.specs.declared.{connections.Connection.{Connection}, serving.Service.{Service}}
use Rattle.plant_server_clients.proofs.Aligned.{aligned_set, own}
use Rattle.plant_server_clients.proofs.{Numbers.{prompt_closed, prompt_set, read_one, set_got, set_connections, waits_at}, Leading.{turned_reported}}
use Rattle.plant_server_clients.proofs.{Paced.{numbers_set}, Telling.{closes_told, stays_told}, Told.{stay_removed, tells_reported}, Waits.{none_left, on_true}}
use Rattle.plant_server_clients.proofs.Handled.{turned_at}
use Rattle.plant_server_clients.proofs.serving.turn_at.Goals as goal

-- the connection after its turn, once its faults were reported
waits_reported : (m m' : Connection) → m' ≡ reporting m m'.faults → WaitsBelow m.unread.items m.wanted → WaitsBelow m'.unread.items m'.wanted
waits_reported m m' is waits = subst (λ (n : Connection). WaitsBelow n.unread.items n.wanted) (sym is) waits

number_reported : (l m m' : Connection) → m' ≡ reporting m m'.faults → m.number ≡ l.number → m'.number ≡ l.number
number_reported l m m' is same = ap (λ (n : Connection). n.number) is ∙ same

-- the connections, with it in its place
open_reported : {C : Type 0} (number_of : C → ℕ) (service : Service C) (at : ℕ) (l m m' : Connection) → IsConsistent number_of service → slice_get service.connections.items at ≡ Some l → m' ≡ reporting m m'.faults
    → m.number ≡ l.number → WaitsBelow m.unread.items m.wanted
    → AreOpenConnections service.count (slice_set service.connections.items at m') × AreRising (numbers (slice_set service.connections.items at m'))
open_reported number_of service at l m m' ok at_it is same waits =
    let number = number_reported l m m' is same in
    let ls = service.connections.items in (
      set_connections service.count ls at l m' ok.connections at_it number (waits_reported m m' is waits),
      subst AreRising (sym (numbers_set ls at l m' at_it number)) ok.rising,
    )

pub turn_connection-over-requires : goal.turn_connection-over-requires
turn_connection-over-requires g c =
    let ls = c.args.service.now.connections.items in
    let at = c.args.turn.at in
    let l = c.index_mut-connection.result.now in
    let is = slice_get_read ls (length ls) at l refl c.requires.within c.index_mut-connection.ensures.value in
    record {
      own = own g.P.Ports.number_of c.args.service.now.clients.items ls at c.index_mut-client.result.now l c.requires.consistent.clients is
          c.index_mut-client.ensures.value;
      waits = waits_at c.args.service.now.count ls at l c.requires.consistent.connections is;
    }

pub close_connection-requires-clause-consistent : goal.close_connection-requires-clause-consistent
close_connection-requires-clause-consistent g c =
    let ls = c.args.service.now.connections.items in
    let at = c.args.turn.at in
    let l = c.index_mut-connection.result.now in
    let is = slice_get_read ls (length ls) at l refl c.requires.within c.index_mut-connection.ensures.value in
    let are = open_reported g.P.Ports.number_of c.args.service.now at l c.turn_connection-over.new.connection c.report_if.new.connection c.requires.consistent is c.report_if.ensures.same
    c.turn_connection-over.ensures.turned.0.went.same c.turn_connection-over.ensures.waits in
    record {
      connections = are.0;
      few = c.requires.consistent.few;
      rising = are.1;
      clients = aligned_set g.P.Ports.number_of c.args.service.now.clients.items ls at c.index_mut-client.result.now c.turn_connection-over.new.client l
          c.report_if.new.connection c.requires.consistent.clients is c.index_mut-client.ensures.value c.turn_connection-over.ensures.same
          (number_reported l c.turn_connection-over.new.connection c.report_if.new.connection c.report_if.ensures.same
          c.turn_connection-over.ensures.turned.0.went.same);
    }

pub close_connection-requires-clause-may : goal.close_connection-requires-clause-may
close_connection-requires-clause-may g c connection is_it =
    let ls = c.args.service.now.connections.items in
    let at = c.args.turn.at in
    let l = c.index_mut-connection.result.now in
    let l' = c.report_if.new.connection in
    let is = slice_get_read ls (length ls) at l refl c.requires.within c.index_mut-connection.ensures.value in
    let got = set_got ls at l l' is in
    let same : l' ≡ connection = cc in
    subst (λ (m : Connection). MayClose m c.in-Some.end) same
    (subst (λ (m : Connection). MayClose m c.in-Some.end) (sym c.report_if.ensures.same) c.in-Some.ensures.may)

pub returns-in-Some-clause-turned : goal.returns-in-Some-clause-turned
unfolding turned_reported
returns-in-Some-clause-turned g c =
    let s = service_state (g.P.Ports.seen c.args.ports.now) (g.W.Write.contents c.args.log.now) c.args.service.now in
    let u = service_state (g.P.Ports.seen c.close_connection.new.ports) (g.W.Write.contents c.close_connection.new.log) c.close_connection.new.service in
    let at = c.args.turn.at in
    let l = c.index_mut-connection.result.now in
    let m = c.turn_connection-over.new.connection in
    let l' = c.report_if.new.connection in
    let is = slice_get_read s.connections (length s.connections) at l refl c.requires.within c.index_mut-connection.ensures.value in
    let turned = turned_reported g.B.Books c.args.office.now.books c.turn_connection-over.new.office.books c.report_if.new.office.books
    (connection_state s.seen.ports l) (g.P.Ports.seen c.turn_connection-over.new.ports) m l' c.args.turn.asked
    c.turn_connection-over.result c.report_if.ensures.books c.report_if.ensures.same c.turn_connection-over.ensures.turned.0 in
    let told = tells_reported c.args.service.now.plan.while_open s at c.turn_connection-over.new.connection c.args.office.now.faults
    c.turn_connection-over.new.office.faults (g.E.Write.contents c.args.errors.now) (g.E.Write.contents c.report_if.new.errors)
    c.requires.consistent.connections is turned c.requires.clear c.turn_connection-over.ensures.turned.1 c.turn_connection-over.ensures.faults
    c.report_if.ensures.noted c.report_if.ensures.told c.report_if.ensures.quiet in
    closes_told s at c.requires.consistent.connections is turned told c.requires.consistent.rising
    (waits_reported m l' c.report_if.ensures.same c.turn_connection-over.ensures.waits)
    c.in-Some.end c.in-Some.is u c.close_connection.ensures.passed c.close_connection.ensures.count c.close_connection.ensures.others
    (stay_removed (turned_at s at (connection_state (g.P.Ports.seen c.turn_connection-over.new.ports) l')) u at l'
    (open_reported g.P.Ports.number_of c.args.service.now at l m l' c.requires.consistent is c.report_if.ensures.same c.turn_connection-over.ensures.turned.0.went.same
    c.turn_connection-over.ensures.waits).0 (set_got s.connections at l l' is) c.close_connection.ensures.count c.close_connection.ensures.others)

pub returns-in-Some-clause-prompt : goal.returns-in-Some-clause-prompt
returns-in-Some-clause-prompt g c may free =
    let ls = c.args.service.now.connections.items in
    rw c.close_connection.ensures.others
    (prompt_closed ls c.args.turn.at c.report_if.new.connection (may (rw c.close_connection.ensures.busy at free)))

pub returns-clause-turned : goal.returns-clause-turned
unfolding turned_reported
returns-clause-turned g c =
    let s = service_state (g.P.Ports.seen c.args.ports.now) (g.W.Write.contents c.args.log.now) c.args.service.now in
    let at = c.args.turn.at in
    let l = c.index_mut-connection.result.now in
    let is = slice_get_read s.connections (length s.connections) at l refl c.requires.within c.index_mut-connection.ensures.value in
    let turned = turned_reported g.B.Books c.args.office.now.books c.turn_connection-over.new.office.books c.report_if.new.office.books
    (connection_state s.seen.ports l) (g.P.Ports.seen c.turn_connection-over.new.ports) c.turn_connection-over.new.connection
    c.report_if.new.connection c.args.turn.asked c.turn_connection-over.result c.report_if.ensures.books c.report_if.ensures.same
    c.turn_connection-over.ensures.turned.0 in
    let told = tells_reported c.args.service.now.plan.while_open s at c.turn_connection-over.new.connection c.args.office.now.faults
    c.turn_connection-over.new.office.faults (g.E.Write.contents c.args.errors.now) (g.E.Write.contents c.report_if.new.errors)
    c.requires.consistent.connections is turned c.requires.clear c.turn_connection-over.ensures.turned.1 c.turn_connection-over.ensures.faults
    c.report_if.ensures.noted c.report_if.ensures.told c.report_if.ensures.quiet in
    stays_told s at c.requires.consistent.connections is turned told c.requires.consistent.rising

pub returns-clause-consistent : goal.returns-clause-consistent
returns-clause-consistent g c =
    let ls = c.args.service.now.connections.items in
    let at = c.args.turn.at in
    let l = c.index_mut-connection.result.now in
    let is = slice_get_read ls (length ls) at l refl c.requires.within c.index_mut-connection.ensures.value in
    let are = open_reported g.P.Ports.number_of c.args.service.now at l c.turn_connection-over.new.connection c.report_if.new.connection c.requires.consistent is c.report_if.ensures.same
    c.turn_connection-over.ensures.turned.0.went.same c.turn_connection-over.ensures.waits in
    record {
      connections = are.0;
      few = c.requires.consistent.few;
      rising = are.1;
      clients = aligned_set g.P.Ports.number_of c.args.service.now.clients.items ls at c.index_mut-client.result.now c.turn_connection-over.new.client l
          c.report_if.new.connection c.requires.consistent.clients is c.index_mut-client.ensures.value c.turn_connection-over.ensures.same
          (number_reported l c.turn_connection-over.new.connection c.report_if.new.connection c.report_if.ensures.same
          c.turn_connection-over.ensures.turned.0.went.same);
    }

pub returns-clause-prompt : goal.returns-clause-prompt
returns-clause-prompt g c may free =
    let ls = c.args.service.now.connections.items in
    let at = c.args.turn.at in
    let l = c.index_mut-connection.result.now in
    let l' = c.report_if.new.connection in
    let is = slice_get_read ls (length ls) at l refl c.requires.within c.index_mut-connection.ensures.value in
    let waits = waits_reported c.turn_connection-over.new.connection l' c.report_if.ensures.same c.turn_connection-over.ensures.waits in
    let same = read_one (slice_set ls at l') at c.index.result.now l' (set_got ls at l l' is) c.index.ensures in
    let none = none_left c.args.service.now.busy c.is_prompt.result free in
    prompt_set ls at l' (may none.0)
    (subst IsPrompt same
    (on_true c.is_prompt.result _
    (c.is_prompt.ensures.prompt (subst (λ (t : Connection). WaitsBelow t.unread.items t.wanted) (sym same) waits)) none.1))
