-- A plant's line can be read in one way.
use Rattle.std.proofs.Common.{ℕ, List, [], ◌∷◌, ◌≡◌, ◌≢◌, ◌⊎◌, ◌∙◌, ap, inl, inr, refl, sym, subst, codes, true, false, Bool, None, Some, Option, Ok, Err, Result, string_bytes, option_map, IsSome, unwrap_or, ◌^◌, ◌-◌}
use Rattle.clap.specs.{Matches.{found_of}, Simple.{matches_of}, Walk.{first_of, one_of, rows_of}}
use Rattle.clap.proofs.{OnLiterals.{clap_on_literals}, WalkLemmas.{first_value-rows, one_text-rows}}
use Rattle.clap.specs.Matches.{ReadsOne, one_text}
use Rattle.clap.specs.declared.parser.matches.ArgMatches.{ArgMatches}
use Rattle.plant_types.specs.Text.{person_of}
use Rattle.plant_server_options.specs.CommandLines.{AreOptionsIn, AreValuesOf, IsCommandLineOf, IsReadAs, IsServiceOf, IsTaskOf, faults_at, is_forever_wrong, office, said, service_from}
use Rattle.plant_server_options.specs.declared.words.{CommandLine.{CommandLine}, CommandLineError.{CommandLineError}, Service.{Service}, Task.{Task, TheVariants.{Migrate, Serve}}}
use Rattle.plant_server_options.specs.declared.words.CommandLineError.TheVariants.{Forever, Memory, NoDb, NotAPerson, Text}
use Rattle.plant_server_options.proofs.Lines.{not_refused, plant, plant_is_right}

admin_in : first_of (codes "admin") (matches_of office plant) ≡ Some (codes "root")
unfolding clap_on_literals
admin_in = refl

db_in : first_of (codes "db") (matches_of office plant) ≡ Some (codes "plant.db")
unfolding clap_on_literals
db_in = refl

old_in : first_of (codes "migrate") (matches_of office plant) ≡ None
unfolding clap_on_literals
old_in = refl

port_in : one_of (codes "port") (matches_of office plant) ≡ Some (codes "8080")
unfolding clap_on_literals
port_in = refl

connections_in : one_of (codes "connections") (matches_of office plant) ≡ None
unfolding clap_on_literals
connections_in = refl

clients_in : one_of (codes "clients") (matches_of office plant) ≡ None
unfolding clap_on_literals
clients_in = refl

forever_in : one_of (codes "forever") (matches_of office plant) ≡ Some (codes "true")
unfolding clap_on_literals
forever_in = refl

idle_in : one_of (codes "idle") (matches_of office plant) ≡ None
unfolding clap_on_literals
idle_in = refl

-- the file plant.db is served for root, over the port, to 256 connections at once, for ever
pub record IsPlantLine (line : CommandLine) : Type 0 where
  pub admin : person_of (codes "root") ≡ Some line.admin
  pub path : _
  pub named : string_bytes path ≡ codes "plant.db"
  pub port : ℕ
  pub task : line.task ≡ Serve (Some path) (service_from (Some port) None None true None)

same_service : (port connections clients : Option ℕ) (forever : Bool) (idle : Option ℕ) (n : ℕ) → port ≡ Some n → connections ≡ None
    → clients ≡ None → forever ≡ true → idle ≡ None
    → service_from port connections clients forever idle ≡ service_from (Some n) None None true None
same_service port connections clients forever idle n a b c d e = rw (a, b, c, d, e) refl

module _ {E : Type 0} (gives_port gives : List ℕ → Result ℕ E → Type 0) (options : ArgMatches) (found : AreOptionsIn plant options) where
  said_is : (name : List ℕ) → said options name ≡ first_of name (matches_of office plant)
  said_is name = first_value-rows (found_of options) name ∙ ap (first_of name) found

  one_is : (name : List ℕ) → one_text (found_of options) name ≡ one_of name (matches_of office plant)
  one_is name = one_text-rows (found_of options) name ∙ ap (one_of name) found

  of_port : (reads : (e : E) → ¬ gives_port (codes "8080") (Err e)) (port : Option ℕ) → ReadsOne gives_port (codes "8080") port
      → (n : ℕ) × (port ≡ Some n)
  of_port reads (Some n) is = (n, refl)
  of_port reads None (e, failed) = absurd (reads e failed)

  values_are : (reads : (e : E) → ¬ gives_port (codes "8080") (Err e)) (v : AreValuesOf gives_port gives options)
      → (n : ℕ) × (v.port ≡ Some n) × (v.connections ≡ None) × (v.clients ≡ None) × (v.forever ≡ true) × (v.idle ≡ None)
  values_are reads v =
      let port = of_port reads v.port (v.port_is.given (codes "8080") (one_is (codes "port") ∙ port_in)) in (
        port.0,
        port.1,
        v.connections_are.missing (one_is (codes "connections") ∙ connections_in),
        v.clients_are.missing (one_is (codes "clients") ∙ clients_in),
        v.forever_is.given (one_is (codes "forever") ∙ forever_in),
        v.idle_is.missing (one_is (codes "idle") ∙ idle_in),
      )

  task_is : (old db : Option (List ℕ)) → old ≡ None → db ≡ Some (codes "plant.db") → (service : Option Service) (task : Task)
      → IsTaskOf old db service task → (path : _) × (string_bytes path ≡ codes "plant.db") × (task ≡ Serve (Some path) service)
  task_is old db none some service (Serve (Some path) served) (older, kept, same) =
      let named : Some (string_bytes path) ≡ Some (codes "plant.db") = kept ∙ some in
      (path, cc, rw same refl)
  task_is old db none some service (Serve None served) (older, kept, same) =
      let named : None ≡ Some (codes "plant.db") = kept ∙ some in absurd cc
  task_is old db none some service (Migrate from to) (is, to_is) =
      let both : Some (string_bytes from) ≡ None = sym is ∙ none in absurd cc

  line_is : (reads : (e : E) → ¬ gives_port (codes "8080") (Err e)) (line : CommandLine) → IsCommandLineOf gives_port gives options line → IsPlantLine line
  line_is reads line it =
      let v = it.service_is.values in
      let are = values_are reads v in
      let task = task_is _ _ (said_is (codes "migrate") ∙ old_in) (said_is (codes "db") ∙ db_in) it.service line.task it.task in
      record {
        admin = subst (λ (n : Option (List ℕ)). person_of (unwrap_or n []) ≡ Some line.admin) (said_is (codes "admin") ∙ admin_in) it.admin;
        path = task.0;
        named = task.1;
        port = are.0;
        task = task.2 ∙ ap (λ (s : Option Service). Serve (Some task.0) s) (it.service_is.service_is ∙ same_service _ _ _ _ _ _ are.1 are.2 are.3 are.4 are.5);
      }

  forever_is_right : (reads : (e : E) → ¬ gives_port (codes "8080") (Err e)) (v : AreValuesOf gives_port gives options)
      → is_forever_wrong v.port v.connections v.forever ≡ true → ⊥
  forever_is_right reads v wrong =
      let are = values_are reads v in
      let right : is_forever_wrong (Some are.0) None true ≡ true = rw (are.1, are.2, are.4) at wrong in cc

none_is_some : (it : Option (List ℕ)) → it ≡ None → IsSome it → ⊥
none_is_some None same is = cc
none_is_some (Some x) same is = cc

root_is_a_person : person_of (codes "root") ≡ None → ⊥
root_is_a_person is = cc

-- so it is read as this line, unless memory runs out; `reads` says that 8080 is read as a number
pub plant_is_read : {E : Type 0} (gives_port gives : List ℕ → Result ℕ E → Type 0) → ((e : E) → ¬ gives_port (codes "8080") (Err e))
    → (read : Result CommandLine CommandLineError) → IsReadAs gives_port gives plant read
    → (read ≡ Err Memory) ⊎ ((line : CommandLine) × (read ≡ Ok line) × IsPlantLine line)
plant_is_read gives_port gives reads (Ok line) (none, (options, found, is)) = inr (line, refl, line_is gives_port gives options found reads line is)
plant_is_read gives_port gives reads (Err Memory) it = inl refl
plant_is_read gives_port gives reads (Err (Text text is_error)) it = absurd (not_refused plant is_error plant_is_right it)
plant_is_read gives_port gives reads (Err NotAPerson) (none, (options, found, is)) =
    absurd (root_is_a_person (subst (λ (n : Option (List ℕ)). person_of (unwrap_or n []) ≡ None) (said_is gives_port gives options found (codes "admin") ∙ admin_in) is))
plant_is_read gives_port gives reads (Err NoDb) (none, (options, found, is)) =
    absurd (none_is_some _ (said_is gives_port gives options found (codes "migrate") ∙ old_in) is.0)
plant_is_read gives_port gives reads (Err Forever) (none, (options, found, is)) =
    absurd (forever_is_right gives_port gives options found reads is.values is.wrong)
