-- What the options of the program's command line ask for.
use Rattle.std.specs.Prelude.{Bool, true, false, not, codes, List, [], ℕ, None, Err, Ok, Option, Result, Some, ◌≡◌, ◌-◌, ◌^◌, ◌&&◌, ◌||◌}
use Rattle.std.specs.Prelude.{IsSome, is_some, option_map, string_bytes, unwrap_or}
use Rattle.clap.specs.Matches.{ReadsOne, first_value, found_of, one_text}
use Rattle.clap.specs.declared.builder.action.ArgAction.TheVariants.{Set, SetTrue}
use Rattle.clap.specs.declared.builder.value_parser.ValueParser.TheVariants.{Unsigned}
use Rattle.clap.specs.declared.error.Error.{Error}
use Rattle.clap.specs.declared.error.kind.ErrorKind.{ErrorKind}
use Rattle.clap.specs.declared.error.kind.ErrorKind.TheVariants.{DisplayHelp, DisplayVersion, OutOfMemory}
use Rattle.clap.specs.declared.parser.matches.ArgMatches.{ArgMatches}
use Rattle.clap.specs.{Faults.{fault_of}, Kinds.{IsAmong, Kinds}, Simple.{App, matches_of, new_app, new_rule, on_top, with_rule}, Values.{kind_of}, Walk.{Rule, rows_of}}
use Rattle.plant_types.specs.Text.{person_of}
use Rattle.plant_server_options.specs.declared.words.CommandLineError.TheVariants.{Forever, Memory, NoDb, NotAPerson, Text}
use Rattle.plant_server_options.specs.declared.words.{CommandLine.{CommandLine}, CommandLineError.{CommandLineError}, Service.{Service}, Task.{Task, TheVariants.{Migrate, Serve}}}

-- How a port is served: how many connections in all (1 if not given), how many of them at once (1), and after how many
-- silent seconds each is given up (never). With `forever` there are 2^64 - 1 in all, more than any machine serves, but
-- only while the store is open, and what is not given is 256 at once and 30 seconds. Without a port none is served.
abbrev pub service_from : Option ℕ → Option ℕ → Option ℕ → Bool → Option ℕ → Option Service
service_from None connections clients forever idle = None
service_from (Some port) connections clients false idle =
    Some (record {
      port = port;
      connections = unwrap_or connections 1;
      clients = unwrap_or clients 1;
      idle = idle;
      while_open = false;
    })
service_from (Some port) connections clients true idle =
    let all = 2 ^ 64 - 1 in
    Some (record {
      port = port;
      connections = all;
      clients = unwrap_or clients 256;
      idle = Some (unwrap_or idle 30);
      while_open = true;
    })

-- The task for an older file, a file of the tables and a port, each if named: the older file is migrated to the file of
-- the tables; or, if no older file is named, the office is served over that file, or in memory, and over the port, or
-- the streams.
abbrev pub IsTaskOf : Option (List ℕ) → Option (List ℕ) → Option Service → Task → Type 0
IsTaskOf old db service (Serve kept served) = (old ≡ None) × (option_map string_bytes kept ≡ db) × (served ≡ service)
IsTaskOf old db service (Migrate from to) = (old ≡ Some (string_bytes from)) × (db ≡ Some (string_bytes to))

-- the text of the option with this name, if it was given
abbrev pub said : ArgMatches → List ℕ → Option (List ℕ)
said options name = first_value (found_of options) name

-- the value of the option with this name, as `gives` reads its text; `None` if it was not given
pub record IsValueOf {A E : Type 0} (gives : List ℕ → Result A E → Type 0) (options : ArgMatches) (name : List ℕ)
    (value : Option A) : Type 0 where
  pub missing : one_text (found_of options) name ≡ None → value ≡ None
  pub given : (text : List ℕ) → one_text (found_of options) name ≡ Some text → ReadsOne gives text value

-- whether the flag with this name was given
pub record IsFlagOf (options : ArgMatches) (name : List ℕ) (is_set : Bool) : Type 0 where
  pub missing : one_text (found_of options) name ≡ None → is_set ≡ false
  pub given : one_text (found_of options) name ≡ Some (codes "true") → is_set ≡ true
  pub denied : one_text (found_of options) name ≡ Some (codes "false") → is_set ≡ false

-- whether `--forever` stands where it may not: without a port, or beside a number of connections
abbrev pub is_forever_wrong : Option ℕ → Option ℕ → Bool → Bool
is_forever_wrong port connections forever = forever && (not (is_some port) || is_some connections)

-- the values of the options `--port`, `--connections`, `--clients`, `--forever` and `--idle`; `gives_port` and `gives`
-- read their numbers
pub record AreValuesOf {E : Type 0} (gives_port gives : List ℕ → Result ℕ E → Type 0) (options : ArgMatches)
    : Type 0 where
  pub port : Option ℕ
  pub connections : Option ℕ
  pub clients : Option ℕ
  pub forever : Bool
  pub idle : Option ℕ
  pub port_is : IsValueOf gives_port options (codes "port") port
  pub connections_are : IsValueOf gives options (codes "connections") connections
  pub clients_are : IsValueOf gives options (codes "clients") clients
  pub forever_is : IsFlagOf options (codes "forever") forever
  pub idle_is : IsValueOf gives options (codes "idle") idle

-- how a port is served, by these options, of which `--forever` stands where it may
pub record IsServiceOf {E : Type 0} (gives_port gives : List ℕ → Result ℕ E → Type 0) (options : ArgMatches)
    (service : Option Service) : Type 0 where
  pub values : AreValuesOf gives_port gives options
  pub allowed : is_forever_wrong values.port values.connections values.forever ≡ false
  pub service_is : service ≡ service_from values.port values.connections values.clients values.forever values.idle

-- `--forever` stands where it may not
pub record IsForeverWrong {E : Type 0} (gives_port gives : List ℕ → Result ℕ E → Type 0) (options : ArgMatches)
    : Type 0 where
  pub values : AreValuesOf gives_port gives options
  pub wrong : is_forever_wrong values.port values.connections values.forever ≡ true

-- the line that the options ask for: `--admin` names the administrator, `--migrate` the older file, `--db` the file of
-- the tables
pub record IsCommandLineOf {E : Type 0} (gives_port gives : List ℕ → Result ℕ E → Type 0) (options : ArgMatches)
    (line : CommandLine) : Type 0 where
  pub admin : person_of (unwrap_or (said options (codes "admin")) []) ≡ Some line.admin
  pub service : Option Service
  pub service_is : IsServiceOf gives_port gives options service
  pub task : IsTaskOf (said options (codes "migrate")) (said options (codes "db")) service line.task

-- ---- the options as they are declared

-- the option of this name, which takes one text
abbrev pub text_rule : List ℕ → Rule
text_rule name = record (new_rule name) { long = Some name; action = Some Set; value_names = 1 }

-- the same with a number from 1 to `most`
abbrev pub number_rule : List ℕ → ℕ → Rule
number_rule name most = record (text_rule name) { parser = Some (Unsigned 1 most) }

-- `--forever`, a flag
abbrev pub forever_rule : Rule
forever_rule = record (new_rule (codes "forever")) { long = Some (codes "forever"); action = Some SetTrue }

abbrev pub with_files : App → App
with_files app =
    with_rule (with_rule (with_rule app (record (text_rule (codes "admin")) { required = true })) (text_rule (codes "db")))
    (text_rule (codes "migrate"))

abbrev pub with_service : App → App
with_service app =
    with_rule (with_rule (with_rule (with_rule (with_rule app (number_rule (codes "port") 65535))
    (number_rule (codes "connections") 1000)) (number_rule (codes "clients") 1000)) forever_rule)
    (number_rule (codes "idle") 3600)

abbrev pub with_version : App → App
with_version app = on_top (λ s. record s { has_version = true }) app

-- the program's command, for clap
abbrev pub office : App
office = with_service (with_files (with_version (new_app (codes "shelfoffice"))))

-- these are the options that clap finds in the command line
abbrev pub AreOptionsIn : List (List ℕ) → ArgMatches → Type 0
AreOptionsIn words options = rows_of (found_of options) ≡ matches_of office words

-- Why these options are refused: the administrator's name is not a person's, or an older file is named but no file of
-- the tables; or memory ran out. (`--forever` is looked at apart.)
abbrev pub IsNoCommandLineOf : List ℕ → Option (List ℕ) → Option (List ℕ) → CommandLineError → Type 0
IsNoCommandLineOf name old db NotAPerson = person_of name ≡ None
IsNoCommandLineOf name old db NoDb = IsSome old × (db ≡ None)
IsNoCommandLineOf name old db Memory = Unit {0}
IsNoCommandLineOf name old db Forever = ⊥
IsNoCommandLineOf name old db (Text text is_error) = ⊥

-- or `--forever` stands where it may not
abbrev pub IsNoCommandLine : {E : Type 0} → (List ℕ → Result ℕ E → Type 0) → (List ℕ → Result ℕ E → Type 0) → ArgMatches
    → CommandLineError → Type 0
IsNoCommandLine gives_port gives options Forever = IsForeverWrong gives_port gives options
IsNoCommandLine gives_port gives options NotAPerson = person_of (unwrap_or (said options (codes "admin")) []) ≡ None
IsNoCommandLine gives_port gives options NoDb =
    IsSome (said options (codes "migrate")) × (said options (codes "db") ≡ None)
IsNoCommandLine gives_port gives options Memory = Unit {0}
IsNoCommandLine gives_port gives options (Text text is_error) = ⊥

-- What is wrong with the words, as clap's definitions compute it from them: nothing, if they are of the documented form;
-- and asking for help or the version counts as wrong.
abbrev pub faults_at : List (List ℕ) → Kinds
faults_at words = fault_of office words

-- whether help or the version is asked for
abbrev pub asks_help : ErrorKind → Bool
asks_help DisplayHelp = true
asks_help DisplayVersion = true
asks_help _ = false

-- By clap, for something that is wrong with the words; it is an error unless help or the version is asked for. So words
-- with which nothing is wrong are not refused.
pub record IsRefusedByClap (words : List (List ℕ)) (is_error : Bool) : Type 0 where
  pub kind : ErrorKind
  pub at : IsAmong kind (faults_at words)
  pub told : is_error ≡ not (asks_help kind)

-- The command line is refused with this error.
abbrev pub IsRefusedAs : {E : Type 0} → (List ℕ → Result ℕ E → Type 0) → (List ℕ → Result ℕ E → Type 0) → List (List ℕ)
    → CommandLineError → Type 0
IsRefusedAs gives_port gives words (Text text is_error) = IsRefusedByClap words is_error
IsRefusedAs gives_port gives words Memory = Unit {0}
IsRefusedAs gives_port gives words error = (faults_at words ≡ [])
    × ((options : ArgMatches) × AreOptionsIn words options × IsNoCommandLine gives_port gives options error)

-- the command line is read as this line, and then nothing is wrong with its words; or it is refused
abbrev pub IsReadAs : {E : Type 0} → (List ℕ → Result ℕ E → Type 0) → (List ℕ → Result ℕ E → Type 0) → List (List ℕ)
    → Result CommandLine CommandLineError → Type 0
IsReadAs gives_port gives words (Ok line) = (faults_at words ≡ [])
    × ((options : ArgMatches) × AreOptionsIn words options × IsCommandLineOf gives_port gives options line)
IsReadAs gives_port gives words (Err error) = IsRefusedAs gives_port gives words error

-- an error of clap is reported by its text, unless memory ran out
abbrev pub IsTold : Error → CommandLineError → Type 0
IsTold error (Text text is_error) = (¬ (kind_of error ≡ OutOfMemory)) × (is_error ≡ not (asks_help (kind_of error)))
IsTold error NotAPerson = ⊥
IsTold error NoDb = ⊥
IsTold error Forever = ⊥
IsTold error Memory = Unit {0}
