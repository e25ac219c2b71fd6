-- What the log and the program write: how connections ended, and faults. Lists of ends have the latest first.
use Rattle.std.specs.Io.KnownBytes.{Appends}
use Rattle.std.specs.Prelude.{Option, Bool, false, true, ℕ, ◌≡◌, ◌+◌, List, [], ◌∷◌, ◌++◌, codes, decimal, length, take}
use Rattle.plant_office.specs.declared.office.Faults.{Faults}
use Rattle.plant_wire.specs.declared.reads.End.{End, TheVariants.{BrokenInput, Closed, Fault, ReadFailed, WriteFailed}}

abbrev pub end_name : End → List ℕ
end_name Closed = codes "Closed"
end_name BrokenInput = codes "BrokenInput"
end_name ReadFailed = codes "ReadFailed"
end_name WriteFailed = codes "WriteFailed"
end_name Fault = codes "Fault"

-- a line for each of these kinds of fault
abbrev pub lines_of_kinds : Bool → Bool → List ℕ
lines_of_kinds false false = []
lines_of_kinds true false = codes "fault: Memory\n"
lines_of_kinds false true = codes "fault: Store\n"
lines_of_kinds true true = codes "fault: Memory\nfault: Store\n"

abbrev pub fault_lines : Faults → List ℕ
fault_lines faults = lines_of_kinds faults.memory faults.store

-- the line that says how a connection ended
unfoldable pub line_of : ℕ → End → List ℕ
line_of count end = codes "connection " ++ decimal count ++ codes " " ++ end_name end ++ codes "\n"

-- the log got a line for each connection, with its number and its end, whole or, if the write failed, a part from the
-- front
abbrev pub AreLines : List End → List ℕ → Type 0
AreLines [] text = text ≡ []
AreLines (end ∷ earlier) text = (before : List ℕ) × (part : ℕ) × AreLines earlier before
    × (text ≡ before ++ take part (line_of (length earlier + 1) end))

abbrev pub Tells : Option (List ℕ) → List End → Option (List ℕ) → Type 0
Tells written ends written_after = (text : List ℕ) × AreLines ends text × Appends written written_after text

-- Each time, a line for each of these kinds of fault, whole or, if the write failed, a part from the front. The latest
-- come first.
abbrev pub AreFaultLines : List Faults → List ℕ → Type 0
AreFaultLines [] text = text ≡ []
AreFaultLines (faults ∷ earlier) text = (before : List ℕ) × (part : ℕ) × AreFaultLines earlier before
    × (text ≡ before ++ take part (fault_lines faults))

-- these lines were written, and nothing else
abbrev pub TellsFaults : Option (List ℕ) → List Faults → Option (List ℕ) → Type 0
TellsFaults written faults written_after = (text : List ℕ) × AreFaultLines faults text × Appends written written_after text
