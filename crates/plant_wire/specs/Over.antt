-- The definitions of a session, applied to a reader, a writer and an office's books before and after.
use Rattle.std.specs.Prelude.{◌≡◌, List, ℕ}
use Rattle.plant_model.specs.declared.{call.Call.{Call}, reply.Answer.{Answer}}
use Rattle.plant_wire.specs.{Ran.{Ran}, Session.{IsRead, IsSession, Reader, StopsAs}, declared.reads.{End.{End}, Read.{Read}}}
use Rattle.plant_office.specs.{Enduring.{books_state}, Faults.{noted}, declared.office.{Faults.{Faults}, Office.{Office}}}
use Rattle.plant_books.specs.declared.books.Books as books
use Rattle.plant_wire.specs.declared.streams.Inlet as inlet
use Rattle.plant_wire.specs.declared.streams.Outlet as outlet

-- the office ran these calls, with these answers, on its books
abbrev pub RanOn : {B : Type 0} → books.Ghosts B → B → B → List Call → List Answer → Type 0
RanOn b before after = Ran (books_state b before) (books_state b after) (b.stores before) (b.stores after)

-- and it noted which kinds of fault they got, beside those noted before
abbrev pub RanNoting : {B : Type 0} → books.Ghosts B → B → B → Faults → Faults → List Call → List Answer → Type 0
RanNoting b before after faults faults_after calls answers =
    RanOn b before after calls answers × (faults_after ≡ noted faults answers)

abbrev pub RanWith : {B : Type 0} → books.Ghosts B → Office B → Office B → List Call → List Answer → Type 0
RanWith b before after = RanNoting b before.books after.books before.faults after.faults

abbrev pub reader_of : {I : Type 0} → inlet.Ghosts I → I → Reader
reader_of i x = record { unread = i.remaining x; ended = i.ended x; failures = i.failures x; reads = i.reads x }

-- one read, and the unread bytes before and after it
abbrev pub ReadsOn : {I : Type 0} → inlet.Ghosts I → I → I → List ℕ → List ℕ → Read → Type 0
ReadsOn i from to before after read = IsRead (reader_of i from) (reader_of i to) before after read

-- a session from a reader to a writer
abbrev pub IsSessionOn : {I O : Type 0} → inlet.Ghosts I → outlet.Ghosts O → I → I → O → O
    → (List Call → List Answer → Type 0) → End → Type 0
IsSessionOn i o from to before after ran end =
    IsSession (i.remaining from) (i.remaining to) (i.ended to) (o.written before) (o.written after) ran end

-- which of its reads and writes failed, by its end
abbrev pub StopsOn : {I O : Type 0} → inlet.Ghosts I → outlet.Ghosts O → I → I → O → O → End → Type 0
StopsOn i o from to before after end =
    StopsAs (reader_of i from) (reader_of i to) (o.failures before) (o.failures after) end
