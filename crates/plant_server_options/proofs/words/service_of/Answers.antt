use Rattle.std.proofs.Common.{refl, sym, ◌∙◌}
use Rattle.plant_server_options.proofs.words.service_of.Goals as goal

pub returns-then-is_forever_wrong-clause-refused : goal.returns-then-is_forever_wrong-clause-refused
returns-then-is_forever_wrong-clause-refused c = (
  refl,
  record {
    values = record {
      port = c.get_one-port.result;
      connections = c.get_one-connections.result;
      clients = c.get_one-clients.result;
      forever = c.get_flag-forever.result;
      idle = c.get_one-idle.result;
      port_is = record { missing = c.get_one-port.ensures.none; given = c.get_one-port.ensures.value };
      connections_are = record { missing = c.get_one-connections.ensures.none; given = c.get_one-connections.ensures.value };
      clients_are = record { missing = c.get_one-clients.ensures.none; given = c.get_one-clients.ensures.value };
      forever_is = record {
        missing = c.get_flag-forever.ensures.none;
        given = c.get_flag-forever.ensures.value;
        denied = c.get_flag-forever.ensures.other;
      };
      idle_is = record { missing = c.get_one-idle.ensures.none; given = c.get_one-idle.ensures.value };
    };
    wrong = sym c.is_forever_wrong.ensures ∙ c.if-is_forever_wrong.true;
  },
)

pub returns-clause-service : goal.returns-clause-service
returns-clause-service c = record {
  values = record {
    port = c.get_one-port.result;
    connections = c.get_one-connections.result;
    clients = c.get_one-clients.result;
    forever = c.get_flag-forever.result;
    idle = c.get_one-idle.result;
    port_is = record { missing = c.get_one-port.ensures.none; given = c.get_one-port.ensures.value };
    connections_are = record { missing = c.get_one-connections.ensures.none; given = c.get_one-connections.ensures.value };
    clients_are = record { missing = c.get_one-clients.ensures.none; given = c.get_one-clients.ensures.value };
    forever_is = record {
      missing = c.get_flag-forever.ensures.none;
      given = c.get_flag-forever.ensures.value;
      denied = c.get_flag-forever.ensures.other;
    };
    idle_is = record { missing = c.get_one-idle.ensures.none; given = c.get_one-idle.ensures.value };
  };
  allowed = sym c.is_forever_wrong.ensures ∙ c.if-is_forever_wrong.false;
  service_is = c.service_from.ensures;
}
