use Rattle.std.proofs.Common.{refl}
use Rattle.plant_wire.specs.Over.{RanOn, RanWith}
use Rattle.plant_server.{specs.{Nets.{nets_of}, Streams.{streams_of}}, proofs.Streamed.{streamed}}
use Rattle.plant_server.proofs.services.serve_streams.Goals as goal

pub returns : goal.returns
returns g c net =
    streamed (RanWith g.B.Books c.args.office.now c.session-end.new.office)
    (RanOn g.B.Books c.args.office.now.books c.session-end.new.office.books) (λ calls answers ran. ran.0) (Unit {0}) (Unit {0}) (λ t. t)
    (streams_of (nets_of net net) g.I.Inlet g.O.Outlet g.O.Write g.E.Write (c.args.inlet.now, c.args.outlet.now, c.args.errors.now)
    (c.session-end.new.inlet, c.session-end.new.outlet, c.report_end.new.errors)) c.report_end.result
    (record {
      end = c.session-end.result;
      ended = g.I.Inlet.ended c.session-end.new.inlet;
      session = c.session-end.ensures.does;
      said = c.report_end.ensures.said;
      status = c.report_end.ensures.status;
      stops = c.session-end.ensures.stops;
      still = refl;
    })
