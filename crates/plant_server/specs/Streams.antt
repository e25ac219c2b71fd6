-- What the program's streams held, before and after, if that is known.
use Rattle.std.specs.{Io.KnownBytes.{Appends}, Prelude.{List, Option, ℕ, take}}
use Rattle.std.specs.declared.io.Write as write
use Rattle.plant_server.specs.Nets.{Nets}
use Rattle.plant_wire.specs.{Over.{reader_of}, Session.{Reader}}
use Rattle.plant_wire.specs.declared.streams.Inlet as inlet
use Rattle.plant_wire.specs.declared.streams.Outlet as outlet

-- what is known to be left to read, or to have been written
abbrev pub Bytes : Type 0
Bytes = Option (List ℕ)

-- The program's own lines, on the output and on standard error.
pub record Lines : Type 0 where
  pub printed : Bytes
  pub printed_after : Bytes
  pub reported : Bytes
  pub reported_after : Bytes

-- The bytes left in the input, the answers in the output, the program's own lines, and what the net shows. `reader` counts
-- the reads and those that failed, `lost` the writes of answers that failed.
pub record Streams : Type 0 where
  pub unread : Bytes
  pub unread_after : Bytes
  pub written : Bytes
  pub written_after : Bytes
  pub reader : Reader
  pub reader_after : Reader
  pub lost : ℕ
  pub lost_after : ℕ
  pub lines : Lines
  pub nets : Nets

-- of an output and standard error, before and after
abbrev pub lines_of : {O E : Type 0} → write.Ghosts O → write.Ghosts E → O × E → O × E → Lines
lines_of o e before after = record {
  printed = o.contents before.0;
  printed_after = o.contents after.0;
  reported = e.contents before.1;
  reported_after = e.contents after.1;
}

-- of a net, an input, an output and standard error, before and after
abbrev pub streams_of : {I O E : Type 0} → Nets → inlet.Ghosts I → outlet.Ghosts O → write.Ghosts O → write.Ghosts E
    → I × O × E → I × O × E → Streams
streams_of nets i o p e before after = record {
  unread = i.remaining before.0;
  unread_after = i.remaining after.0;
  written = o.written before.1;
  written_after = o.written after.1;
  reader = reader_of i before.0;
  reader_after = reader_of i after.0;
  lost = o.failures before.1;
  lost_after = o.failures after.1;
  lines = lines_of p e (before.1, before.2) (after.1, after.2);
  nets = nets;
}

-- the streams, and of standard error only what came between these two moments
abbrev pub within : Streams → Bytes → Bytes → Streams
within s from to = record s { lines = record s.lines { reported = from; reported_after = to } }

-- the text was written, or as much of it as could be
abbrev pub IsPrintedOrCut : Bytes → Bytes → List ℕ → Type 0
IsPrintedOrCut before after text = (part : ℕ) × Appends before after (take part text)
