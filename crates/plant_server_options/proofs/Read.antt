-- What the words are read as.
use Rattle.std.proofs.Common.{Bool, Err, IfErr, IfOk, List, Ok, Option, Result, [], refl, ℕ, ◌≡◌, ◌⊎◌, inl, inr, codes, unwrap_or}
use Rattle.clap.specs.{Kinds.{HasKind, IsAmong}, Values.{kind_of}}
use Rattle.clap.specs.declared.error.{Error.{Error}, kind.ErrorKind.TheVariants.{OutOfMemory}}
use Rattle.clap.specs.declared.parser.matches.ArgMatches.{ArgMatches}
use Rattle.plant_server_options.specs.CommandLines.{AreOptionsIn, IsCommandLineOf, IsNoCommandLine, IsNoCommandLineOf, IsReadAs, IsRefusedAs, IsTold, faults_at, said}
use Rattle.plant_server_options.specs.declared.words.{CommandLine.{CommandLine}, CommandLineError.{CommandLineError}}
use Rattle.plant_server_options.specs.declared.words.CommandLineError.TheVariants.{Forever, Memory, NoDb, NotAPerson, Text}

module _ {E : Type 0} (gives_port gives : List ℕ → Result ℕ E → Type 0) where
  pub refused_without : (options : ArgMatches) (error : CommandLineError)
      → IsNoCommandLineOf (unwrap_or (said options (codes "admin")) []) (said options (codes "migrate"))
      (said options (codes "db")) error
      → IsNoCommandLine gives_port gives options error
  refused_without options (Text text is_error) not = absurd not
  refused_without options NotAPerson not = not
  refused_without options NoDb not = not
  refused_without options Forever not = absurd not
  refused_without options Memory not = tt

  pub read_as : (words : List (List ℕ)) → faults_at words ≡ [] → (options : ArgMatches) → AreOptionsIn words options
      → (line : Result CommandLine CommandLineError) → IfOk line (IsCommandLineOf gives_port gives options)
      → IfErr line (IsNoCommandLine gives_port gives options) → IsReadAs gives_port gives words line
  read_as words none options found (Ok line) is not = (none, (options, found, is))
  read_as words none options found (Err (Text text is_error)) is not = absurd not
  read_as words none options found (Err NotAPerson) is not = (none, (options, found, not))
  read_as words none options found (Err NoDb) is not = (none, (options, found, not))
  read_as words none options found (Err Forever) is not = (none, (options, found, not))
  read_as words none options found (Err Memory) is not = tt

  at_kind : (words : List (List ℕ)) (error : Error) → HasKind (faults_at words) error → ¬ (kind_of error ≡ OutOfMemory)
      → IsAmong (kind_of error) (faults_at words)
  at_kind words error (inl memory) not = absurd (not memory)
  at_kind words error (inr among) not = among

  pub told_as : (words : List (List ℕ)) (error : Error) (told : CommandLineError) → IsTold error told
      → HasKind (faults_at words) error → IsRefusedAs gives_port gives words told
  told_as words error (Text text is_error) is fails = record {
    kind = kind_of error;
    at = at_kind words error fails is.0;
    told = is.1;
  }
  told_as words error NotAPerson is fails = absurd is
  told_as words error NoDb is fails = absurd is
  told_as words error Forever is fails = absurd is
  told_as words error Memory is fails = tt
