-- What was served, from what the books held when it began.
use Rattle.std.proofs.Common.{ℕ, ◌≡◌, IsTrue, List, Option, []}
use Rattle.sqlite.specs.Effect.{Database}
use Rattle.sqlite_disk.specs.declared.Disk.{Ghosts}
use Rattle.plant_server_options.specs.declared.words.Service.{Service}
use Rattle.sqlite_store.specs.{FileStore.{view}, declared.store.FileStore.{FileStore}}
use Rattle.sqlite_trees.specs.View.{IsClean}
use Rattle.plant_books.specs.Contents.{Content}
use Rattle.plant_model.specs.{Worlds.{World}, declared.{call.Call.{Call}, reply.Answer.{Answer}}}
use Rattle.plant_office.specs.{Enduring.{BooksState}, Outcomes.{IsOutcome}}
use Rattle.plant_server.specs.{Crashes.{LeavesOutcomes}, Files.{AreOfDatabase}, Parts.{BooksServed, IsAtHand}}
use Rattle.plant_server.specs.OverFiles.{Begins, IsClosing, IsHonestAfter, Place, RanOnFiles, closing_text}
use Rattle.plant_server.specs.{Promise.{FilesServed}, Services.{HasServed}, Statuses.{no_rows_text}, Streams.{Bytes, IsPrintedOrCut, Streams, within}}
use Rattle.plant_server.specs.declared.{remains.Left.{Left}, statuses.ExitStatus.{ExitStatus}}
use Rattle.plant_store.specs.Opening.{IsThisOffice}
use Rattle.plant_types.specs.Names.{Name}
use Rattle.plant_wire.specs.Ran.{Ran}
use Rattle.plant_server.proofs.Streamed.{made, served}

module _ {D N F : Type 0} {g : Ghosts D} where
  -- books that hold the rows of each world that begins in files
  pub files_served : (books : BooksState) (admin : Name) (place : Place D) (path : List ℕ)
      → ((w : World) → Begins place path w → IsAtHand books admin w)
      → (path ≡ place.path → (db : Database) → AreOfDatabase place.files db → books.clean → IsThisOffice admin db)
      → (service : Option Service) (s : Streams) (n : ExitStatus) (after : Left D N F g) → BooksServed books admin service s n after
      → FilesServed place path admin service s n after
  files_served books admin place path follows own service s n after it = record {
    were = it.were;
    own = λ here db held clean. own here db held (it.clean clean);
    store = it.store;
    closing = it.closing;
    first = it.first;
    last = it.last;
    said = it.said;
    served = served _ _ (λ calls answers is. record {
      answered = λ w at. is.answered w (follows w at);
      meanwhile = λ w at. is.meanwhile w (follows w at);
      afterwards = λ w at. is.afterwards w (follows w at);
    }) _ _ (λ not. not) _ service n it.served;
  }

-- serving leaves a store, of which this is left
module _ {D N F : Type 0} {g : Ghosts D} (before end : BooksState) (admin : Name) (count counted_to : ℕ) (store : FileStore D g)
    (after : Left D N F g) (closing : IsClosing store after)
    (tidy : IsClean (view store) → end.clean)
    (sure : IsClean (view store) → IsTrue (view store).is_open → end.honest)
    (leaves : (w : World) (calls : List Call) (answers : List Answer) → IsClean (view store) → end.sound
    → ((x : Content) → end.leaves x → IsOutcome w calls answers x) → LeavesOutcomes store w calls answers) where
  tells : IsHonestAfter after → end.honest
  tells honest = let up = closing.honest honest in sure up.0 up.1

  outcomes : (calls : List Call) (answers : List Answer) → Ran before end count counted_to calls answers → (w : World) → IsAtHand before admin w
      → w.admin ≡ admin → IsClean (view store) → LeavesOutcomes store w calls answers
  outcomes calls answers is w at own clean =
      let k = is.endures.goes_on w [] [] (tidy clean) (at.after own (is.endures.clean (tidy clean))) in
      leaves w calls answers clean k.sound k.outcomes

  pub ran_on_files : (calls : List Call) (answers : List Answer) → Ran before end count counted_to calls answers
      → RanOnFiles (IsAtHand before admin) admin store after calls answers
  ran_on_files calls answers is = record {
    answered = λ w at clean.
        let end = tidy (closing.clean clean) in
        let now = at.now (is.endures.clean end) in
        let run = is.run now.content now.represents w now.legal now.holds end in
        record { answered = run.answered; isolated = run.isolated };
    meanwhile = λ w at own clean. outcomes calls answers is w at own (closing.clean clean);
    afterwards = λ w at own clean. closing.leaves w calls answers (outcomes calls answers is w at own (closing.clean clean)) clean;
  }

  pub served_files : (service : Option Service) (s : Streams) (n : ExitStatus) (first last : Bytes)
      → IsPrintedOrCut s.lines.reported first no_rows_text → IsPrintedOrCut last s.lines.reported_after (closing_text after)
      → HasServed (Ran before end count counted_to) (¬ end.honest) service (within s first last) n → BooksServed before admin service s n after
  served_files service s n first last said closed it = record {
    were = closing.were;
    clean = λ clean. let ran = made _ _ _ service n it in ran.2.endures.clean (tidy (closing.clean clean));
    store = store;
    closing = closing;
    first = first;
    last = last;
    said = (said, closed);
    served = served _ _ ran_on_files _ _ (λ not honest. not (tells honest)) _ service n it;
  }
