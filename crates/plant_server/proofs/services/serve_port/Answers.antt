use Rattle.std.proofs.{Common.{Bool, le-ltb, lt-ltb, subst, sym}, KnownBytes.{Appends-nil}}
use Rattle.plant_wire.specs.Over.{RanOn}
use Rattle.plant_server.specs.{Nets.{nets_of}, Services.{AreOfPort}, Streams.{lines_of}}
use Rattle.plant_server.proofs.services.serve_port.Goals as goal

pub returns-then-service-gt1 : goal.returns-then-service-gt1
returns-then-service-gt1 g c =
    let were = c.serve_at_once-outcome.ensures.sent in
    subst (λ (many : Bool). AreOfPort many (RanOn g.B.Books c.args.office.now.books c.serve_at_once-outcome.new.office.books)
    (¬ g.B.Books.is_honest c.serve_at_once-outcome.new.office.books) c.args.service
    (nets_of (g.P.Net.state c.args.net.now) (g.P.Net.state c.serve_at_once-outcome.new.net))
    (lines_of g.W.Write g.E.Write (c.args.output.now, c.args.errors.now) (c.serve_at_once-outcome.new.output, c.report_halted.new.errors))
    c.report_halted.result)
    (sym (lt-ltb 1 c.args.service.clients c.if-service-gt1.true))
    (record {
      result = c.serve_at_once-outcome.result;
      sent = were.0;
      status = c.report_halted.ensures.status;
      said = record {
        first = were.1;
        listening = were.2;
        logged = were.3;
        noted = were.4;
        told = g.E.Write.contents c.serve_at_once-outcome.new.errors;
        said = were.5;
        faults = were.6;
        ended = c.report_halted.ensures.said;
      };
      shut = c.serve_at_once-outcome.ensures.shut;
      listened = c.serve_at_once-outcome.ensures.listened;
      shown = were.7;
      halts = were.8;
    })

pub returns : goal.returns
returns g c =
    let were = c.serve_in_turn-outcome.ensures.served in
    subst (λ (many : Bool). AreOfPort many (RanOn g.B.Books c.args.office.now.books c.serve_in_turn-outcome.new.office.books)
    (¬ g.B.Books.is_honest c.serve_in_turn-outcome.new.office.books) c.args.service
    (nets_of (g.P.Net.state c.args.net.now) (g.P.Net.state c.serve_in_turn-outcome.new.net))
    (lines_of g.W.Write g.E.Write (c.args.output.now, c.args.errors.now) (c.serve_in_turn-outcome.new.output, c.report_stopped.new.errors))
    c.report_stopped.result)
    (sym (le-ltb 1 c.args.service.clients c.if-service-gt1.false))
    (record {
      exchanges = were.0;
      each = were.1;
      made = were.2;
      result = c.serve_in_turn-outcome.result;
      many = were.3;
      status = c.report_stopped.ensures.status;
      said = record {
        first = were.4;
        listening = were.5;
        logged = were.6;
        noted = g.E.Write.contents c.args.errors.now;
        told = g.E.Write.contents c.serve_in_turn-outcome.new.errors;
        said = (0, Appends-nil (g.E.Write.contents c.args.errors.now));
        faults = were.7;
        ended = c.report_stopped.ensures.said;
      };
      shut = c.serve_in_turn-outcome.ensures.shut;
      listened = c.serve_in_turn-outcome.ensures.listened;
      over = were.8;
      failed = c.serve_in_turn-outcome.ensures.failed;
    })
