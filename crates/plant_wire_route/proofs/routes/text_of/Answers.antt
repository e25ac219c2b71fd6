use Rattle.plant_wire_route.proofs.Ascii.{path_text}
use Rattle.plant_wire_route.proofs.routes.text_of.Goals as goal

pub unreachable-requires : goal.unreachable-requires
unreachable-requires c = c.in-Err.ensures.cases.0 (path_text c.args.target.now c.requires)
