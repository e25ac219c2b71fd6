use Rattle.plant_wire_call.{specs.Front.{body_length, item_of}, proofs.public.Cuts.{front_unique}}
use Rattle.plant_wire_call.proofs.cut.one_reading.Goals as goal

pub returns : goal.returns
returns c = front_unique body_length item_of
