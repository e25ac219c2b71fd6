use Rattle.plant_wire_call.{specs.Front.{body_length, item_of}, proofs.Streams.{stream_unique}}
use Rattle.plant_wire_call.proofs.cut.one_stream.Goals as goal

pub returns : goal.returns
returns c = λ bytes xs ys r q a b. stream_unique body_length item_of bytes xs ys r q a.0 a.1 b.0 b.1
