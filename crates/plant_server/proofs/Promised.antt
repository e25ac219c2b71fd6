-- The promises of the README follow from that of the command.
use Rattle.std.proofs.Common.{◌≡◌, ◌⊎◌, ◌++◌, ◌∷◌, [], ap, inl, inr, refl, subst, sym, ◌∙◌, true, false, Bool, if◌then◌else◌, List, ℕ, None, Ok, Option, Result, Some, string_bytes}
use Rattle.sqlite_disk.specs.declared.Disk.{Ghosts}
use Rattle.plant_model.specs.{Splits.{PartsAnswerTheirCalls, only}, Views.{names_in}, Worlds.{World, answer, next, unit_named}, declared.{call.Call.{Call}, reply.Answer.{Answer}}}
use Rattle.plant_model.specs.declared.reply.Answer.TheVariants.{Fault as Faulted, Refused as WasRefused, Reply as Replied}
use Rattle.plant_office.specs.{Outcomes.{AreMade, IsInDoubt, confirmed, confirms}, Runs.{AreAnswers, after_answer}}
use Rattle.plant_server_clients.specs.Events.{all_answers, all_calls}
use Rattle.plant_server_options.specs.declared.words.{CommandLine.{CommandLine}, CommandLineError.{CommandLineError}, Service.{Service}, Task.{TheVariants.{Serve}}}
use Rattle.plant_server.specs.{OverFiles.{WereServed, Place, RanOnFiles, Begins, IsHonestAfter}, Promise.{FilesServed, IsEndOnFile, IsKept, IsEndOfLine}}
use Rattle.plant_server.specs.{Promises.{AllPromises, AreMadeFor, AreOn, CallPromises, IsMadeFor, KeepsPromises, PortPromises, StreamPromises}, Services.{AreAtOnce, AreOfPort, is_at_once}, Streams.{Streams, within}}
use Rattle.plant_server.specs.declared.{remains.Left.{Left}, statuses.ExitStatus.{ExitStatus}}
use Rattle.plant_server.specs.declared.remains.Left.TheVariants as left
use Rattle.plant_types.specs.Names.{Name}
use Rattle.sqlite_store.specs.declared.store.FileStore.{FileStore}
use Rattle.plant_server.proofs.Streamed.{streamed}

-- ---- 3

further : (c : Call) (a : Answer) (calls : List Call) (answers : List Answer) (made : List Call) → AreMadeFor made calls answers
    → AreMadeFor made (c ∷ calls) (a ∷ answers)
further c a calls answers [] are = tt
further c a calls answers (d ∷ made) are = (inr are.0, further c a calls answers made are.1)

if_confirmed : (c : Call) (a : Answer) (calls : List Call) (answers : List Answer) (is : Bool) → confirms c a ≡ is
    → AreMadeFor (confirmed calls answers) (c ∷ calls) (a ∷ answers)
    → AreMadeFor (if is then c ∷ confirmed calls answers else confirmed calls answers) (c ∷ calls) (a ∷ answers)
if_confirmed c a calls answers true is later = (inl (refl, inl is), later)
if_confirmed c a calls answers false is later = later

all_confirmed : (calls : List Call) (answers : List Answer) → AreMadeFor (confirmed calls answers) calls answers
all_confirmed [] answers = tt
all_confirmed (c ∷ calls) [] = tt
all_confirmed (c ∷ calls) (a ∷ answers) =
    let later = further c a calls answers (confirmed calls answers) (all_confirmed calls answers) in
    if_confirmed c a calls answers (confirms c a) refl later

doubted : (c : Call) (calls : List Call) (answers : List Answer) → IsInDoubt c calls answers → IsMadeFor c calls answers
doubted c (d ∷ calls) (a ∷ answers) (inl it) = inl (it.0, inr it.1)
doubted c (d ∷ calls) (a ∷ answers) (inr it) = inr (doubted c calls answers it)
doubted c (d ∷ calls) [] it = absurd it
doubted c [] answers it = absurd it

with_one : (calls : List Call) (answers : List Answer) (c : Call) (made : List Call) → AreMadeFor made calls answers → IsMadeFor c calls answers
    → AreMadeFor (made ++ c ∷ []) calls answers
with_one calls answers c [] are is = (is, tt)
with_one calls answers c (d ∷ made) are is = (are.0, with_one calls answers c made are.1 is)

unchanged : (calls : List Call) (answers : List Answer) (made : List Call) → AreMade calls answers made → AreMadeFor made calls answers
unchanged calls answers made (inl is) = subst (λ m. AreMadeFor m calls answers) (sym is) (all_confirmed calls answers)
unchanged calls answers made (inr (c, doubt, is)) = subst (λ m. AreMadeFor m calls answers) (sym is)
    (with_one calls answers c (confirmed calls answers) (all_confirmed calls answers) (doubted c calls answers doubt))

-- ---- 6

module _ (parts : PartsAnswerTheirCalls) (units : Name → Bool) where
  after_part : (v : World) (c : Call) (a : Answer) → names_in units (unit_named c.request) ≡ true
      → after_answer (only units v) c a ≡ only units (after_answer v c a)
  after_part v c (Replied r) on = (parts units v c on).1
  after_part v c (WasRefused r) on = (parts units v c on).1
  after_part v c (Faulted f) on = refl

  pub split : (v w : World) → w ≡ only units v → (calls : List Call) (answers : List Answer) → AreOn units calls → AreAnswers w calls answers
      → AreAnswers v calls answers
  split v w same [] [] on are = tt
  split v w same [] (a ∷ answers) on are = absurd are
  split v w same (c ∷ calls) [] on are = absurd are
  split v w same (c ∷ calls) (Replied r ∷ answers) on are = (
    are.0 ∙ ap (λ x. answer x c) same ∙ (parts units v c on.0).0,
    split (next v c) (next w c) (ap (λ x. next x c) same ∙ (parts units v c on.0).1) calls answers on.1 are.1,
  )
  split v w same (c ∷ calls) (WasRefused r ∷ answers) on are = (
    are.0 ∙ ap (λ x. answer x c) same ∙ (parts units v c on.0).0,
    split (next v c) (next w c) (ap (λ x. next x c) same ∙ (parts units v c on.0).1) calls answers on.1 are.1,
  )
  split v w same (c ∷ calls) (Faulted f ∷ answers) on are = (tt, split v w same calls answers on.1 are.1)

-- ---- the command

module _ {D N F : Type 0} {g : Ghosts D} (h : Ghosts N) (parts : PartsAnswerTheirCalls) where
  files_of : (place : Place D) (path : List ℕ) (admin : Name) (service : Option Service) (s : Streams) (n : ExitStatus) (after : Left D N F g)
      → WereServed after → IsEndOnFile place path admin service s n after → FilesServed place path admin service s n after
  files_of place path admin service s n (left.Closed files) were (inl it) = absurd it.2
  files_of place path admin service s n (left.Closed files) were (inr it) = it
  files_of place path admin service s n (left.Unclosed store) were (inl it) = absurd it.2
  files_of place path admin service s n (left.Unclosed store) were (inr it) = it
  files_of place path admin service s n (left.Nothing start) were it = absurd were
  files_of place path admin service s n (left.Empty start found) were it = absurd were
  files_of place path admin service s n (left.Unreached it) were done = absurd were
  files_of place path admin service s n (left.Unopened rest) were it = absurd were
  files_of place path admin service s n (left.Refused conn) were it = absurd were
  files_of place path admin service s n (left.InMemory start store) were it = absurd were
  files_of place path admin service s n (left.Migrated old made) were it = absurd were

  -- the calls that were served over files
  of_calls : (place : Place D) (path : List ℕ) (admin : Name) (after : Left D N F g) (store : FileStore D g) (calls : List Call) (answers : List Answer)
      → RanOnFiles (Begins place path) admin store after calls answers → CallPromises place path admin after store calls answers
  of_calls place path admin after store calls answers ran = record {
    answered = λ w begins clean. (ran.answered w begins clean).answered;
    apart = λ w begins clean. (ran.answered w begins clean).isolated;
    unchanged = unchanged calls answers;
    lasting = λ w begins own clean. (ran.meanwhile w begins own clean, ran.afterwards w begins own clean);
    split = λ units v begins clean on.
        split parts units v (only units v) refl calls answers on (ran.answered (only units v) begins clean).answered;
  }

  -- over a port, to many connections at once
  of_port : (place : Place D) (path : List ℕ) (admin : Name) (service : Service) (s : Streams) (n : ExitStatus) (after : Left D N F g)
      → FilesServed place path admin (Some service) s n after → is_at_once service ≡ true → PortPromises place path admin service s.nets after
  of_port place path admin service s n after it many =
      let at : AreAtOnce (RanOnFiles (Begins place path) admin it.store after) (¬ IsHonestAfter after) service (within s it.first it.last).nets (within s it.first it.last).lines n =
      subst (λ b. AreOfPort b (RanOnFiles (Begins place path) admin it.store after) (¬ IsHonestAfter after) service (within s it.first it.last).nets (within s it.first it.last).lines n) many it.served in
      record {
        events = at.sent.events;
        listened = at.listened;
        shown = at.shown;
        store = it.store;
        calls = of_calls place path admin after it.store (all_calls at.sent.events) (all_answers at.sent.events) at.sent.made;
        sent = at.sent.answered;
        fair = (at.sent.fair, at.sent.bounded, at.sent.steady, at.sent.soon);
        heeded = at.sent.heeded;
        caused = at.sent.caused;
        in_order = at.sent.in_order;
      }

  -- over the streams
  of_streams : (place : Place D) (path : List ℕ) (admin : Name) (s : Streams) (n : ExitStatus) (after : Left D N F g)
      → FilesServed place path admin None s n after → StreamPromises place path admin s n after
  of_streams place path admin s n after it = record {
    first = it.first;
    last = it.last;
    store = it.store;
    session = streamed (RanOnFiles (Begins place path) admin it.store after) (CallPromises place path admin after it.store)
        (of_calls place path admin after it.store) (¬ IsHonestAfter after) (¬ IsHonestAfter after) (λ lost. lost)
        (within s it.first it.last) n it.served;
  }

  of_files : (place : Place D) (path : List ℕ) (admin : Name) (service : Option Service) (s : Streams) (n : ExitStatus) (after : Left D N F g)
      → FilesServed place path admin service s n after → AllPromises place path admin service s n after
  of_files place path admin None s n after it = of_streams place path admin s n after it
  of_files place path admin (Some service) s n after it = of_port place path admin service s n after it

  -- the six promises, of a command whose words were read as: serve this file for this administrator, in this way
  pub promised : {E : Type 0} (gives_port gives : List ℕ → Result ℕ E → Type 0) (place : Place D) → KeepsPromises F g h place gives_port gives
  promised gives_port gives place words s number after kept admin path service line were =
      let done = subst (λ (l : Result CommandLine CommandLineError). IsEndOfLine h place l s kept.status after) line kept.ended in
      of_files place (string_bytes path) admin service s kept.status after
      (files_of place (string_bytes path) admin service s kept.status after were done)
