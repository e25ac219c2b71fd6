use Rattle.plant_wire_call.{specs.Front.{body_length, item_of}, proofs.public.Cuts.{front-stays}}
use Rattle.plant_wire_call.proofs.cut.cuts_agree.Goals as goal

pub returns : goal.returns
returns c = front-stays body_length item_of
