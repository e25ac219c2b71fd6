-- The exit statuses of the program, and the lines that it prints about them.
use Rattle.std.specs.Prelude.{if◌then◌else◌, true, false, codes, decimal, string_bytes, List, [], ◌++◌, ℕ, Err, Ok, Result}
use Rattle.plant_wire.specs.declared.reads.End.{End}
use Rattle.plant_wire.specs.declared.reads.End.TheVariants.{BrokenInput, Closed, Fault, ReadFailed, WriteFailed}
use Rattle.plant_server_listener.specs.declared.while_open.Stopped.{Stopped}
use Rattle.plant_server_listener.specs.declared.while_open.Stopped.TheVariants as stopped
use Rattle.plant_server_options.specs.declared.words.CommandLineError.{CommandLineError}
use Rattle.plant_server_options.specs.declared.words.CommandLineError.TheVariants.{Forever, Memory, NoDb, NotAPerson, Text}
use Rattle.plant_server_clients.specs.Accounts.{Outcome}
use Rattle.plant_server_clients.specs.declared.serving.Halted.TheVariants as halted
use Rattle.plant_server.specs.declared.nets.Standing.{Standing}
use Rattle.plant_server.specs.declared.nets.Standing.TheVariants as standing
use Rattle.plant_server.specs.declared.statuses.ExitStatus.{ExitStatus}
use Rattle.plant_store.specs.declared.tables.StoreFault.{StoreFault, TheVariants.{NotThisStore, Fault as StoreFailed}}
use Rattle.plant_server.specs.declared.statuses.ExitStatus.TheVariants as statuses

-- the number that the program exits with
abbrev pub code : ExitStatus → ℕ
code statuses.Done = 0
code statuses.WrongCommandLine = 2
code statuses.NoBooks = 3
code statuses.BrokenInput = 4
code statuses.ReadFailed = 5
code statuses.WriteFailed = 6
code statuses.NoMemory = 7
code statuses.NetFailed = 8

-- for the end of a session: done if all was answered
abbrev pub exit_status_of : End → ExitStatus
exit_status_of Closed = statuses.Done
exit_status_of BrokenInput = statuses.BrokenInput
exit_status_of ReadFailed = statuses.ReadFailed
exit_status_of WriteFailed = statuses.WriteFailed
exit_status_of Fault = statuses.NoMemory

-- for a command line that is refused: done if it asks for help or the version
abbrev pub status_of_command_line : CommandLineError → ExitStatus
status_of_command_line (Text text is_error) = if is_error then statuses.WrongCommandLine else statuses.Done
status_of_command_line NotAPerson = statuses.WrongCommandLine
status_of_command_line NoDb = statuses.WrongCommandLine
status_of_command_line Forever = statuses.WrongCommandLine
status_of_command_line Memory = statuses.NoMemory

-- for connections one after the other: all were served, or listening or accepting failed, or a failure shut the store
abbrev pub served : Result (Unit {0}) Stopped → ExitStatus
served (Ok u) = statuses.Done
served (Err stopped.Failed) = statuses.NetFailed
served (Err stopped.Shut) = statuses.NoBooks

-- for many connections at once: all were served, or memory ran out before any, or the port failed, or a failure shut
-- the store
abbrev pub served_at_once : Outcome → ExitStatus
served_at_once (Ok u) = statuses.Done
served_at_once (Err halted.Memory) = statuses.NoMemory
served_at_once (Err halted.Ports) = statuses.NetFailed
served_at_once (Err halted.Shut) = statuses.NoBooks

-- for a migration: the older file was migrated, or not
abbrev pub status_of_migration : {A : Type 0} → Result A StoreFault → ExitStatus
status_of_migration (Ok made) = statuses.Done
status_of_migration (Err e) = statuses.NoBooks

-- ---- what is printed about it

-- on the output: the help, or the version, that the words ask for
abbrev pub help_text : CommandLineError → List ℕ
help_text (Text text false) = string_bytes text
help_text (Text text true) = []
help_text NotAPerson = []
help_text NoDb = []
help_text Forever = []
help_text Memory = []

-- on standard error: why the words are refused
abbrev pub refusal_text : CommandLineError → List ℕ
refusal_text (Text text true) = string_bytes text
refusal_text (Text text false) = []
refusal_text NotAPerson = codes "admin: not a person name\n"
refusal_text NoDb = codes "migrate: no db\n"
refusal_text Forever = codes "forever: no port, or connections\n"
refusal_text Memory = []

-- why no books were opened, or an older file was not migrated
abbrev pub unopened_text : StoreFault → List ℕ
unopened_text NotThisStore = codes "store: not this store\n"
unopened_text (StoreFailed fault) = codes "store: fault\n"

-- how a session ended
abbrev pub end_text : End → List ℕ
end_text Closed = codes "end: Closed\n"
end_text BrokenInput = codes "end: BrokenInput\n"
end_text ReadFailed = codes "end: ReadFailed\n"
end_text WriteFailed = codes "end: WriteFailed\n"
end_text Fault = codes "end: Fault\n"

-- on the output: the address on which a net listens, if it does
abbrev pub listening_text : ℕ → List ℕ
listening_text number = codes "listening on 127.0.0.1:" ++ decimal number ++ codes "\n"

abbrev pub announced : Standing → List ℕ
announced standing.Nowhere = []
announced standing.Refused = []
announced (standing.Listens service number) = listening_text number

-- on standard error: that a port of many connections may want for file descriptors
abbrev pub few_descriptors_text : List ℕ
few_descriptors_text = codes "net: few file descriptors\n"

-- on standard error: why a port is served no longer, one connection after the other, and many at once
abbrev pub stopped_text : Result (Unit {0}) Stopped → List ℕ
stopped_text (Ok u) = []
stopped_text (Err stopped.Failed) = codes "net: failed\n"
stopped_text (Err stopped.Shut) = codes "store: fault\n"

abbrev pub halted_text : Outcome → List ℕ
halted_text (Ok u) = []
halted_text (Err halted.Memory) = []
halted_text (Err halted.Ports) = codes "net: failed\n"
halted_text (Err halted.Shut) = codes "store: fault\n"

-- of a migration: on the output, and on standard error
abbrev pub migrated_text : {A : Type 0} → Result A StoreFault → List ℕ
migrated_text (Ok made) = codes "migrated\n"
migrated_text (Err e) = []

abbrev pub unmigrated_text : {A : Type 0} → Result A StoreFault → List ℕ
unmigrated_text (Ok made) = []
unmigrated_text (Err e) = unopened_text e

-- that there was no memory for cached rows; and that the log stays beside the file
abbrev pub no_rows_text : List ℕ
no_rows_text = codes "memory: no rows at hand\n"

abbrev pub not_copied_text : List ℕ
not_copied_text = codes "store: log not copied\n"
