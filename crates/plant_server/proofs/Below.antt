-- What an office over one keeper did, carried over to another keeper: it holds what the first one holds, and a crash
-- leaves no more of it.
use Rattle.std.proofs.Common.{List, sym, subst, ℕ, ◌+◌, ◌<◌, ◌^◌, ◌≡◌}
use Rattle.plant_books.specs.Contents.{Content}
use Rattle.plant_model.specs.declared.{call.Call.{Call}, reply.Answer.{Answer}}
use Rattle.plant_model.specs.Worlds.{World}
use Rattle.plant_office.specs.{Enduring.{AreAfter, BooksState}, Runs.{stores_in}}
use Rattle.plant_wire.specs.Ran.{Ran}

-- the lower books hold whatever the upper ones hold, and a crash leaves no more of them
pub record Hands (upper lower : BooksState) : Type 0 where
  pub represents : (m : Content) → upper.represents m → lower.represents m
  pub leaves : (x : Content) → lower.leaves x → upper.leaves x
  pub sound : upper.sound → lower.sound

handed : (upper lower : BooksState) → Hands upper lower → (w : World) (calls : List Call) (answers : List Answer) → AreAfter w calls answers upper
    → AreAfter w calls answers lower
handed upper lower it w calls answers k = record {
  long = k.long;
  now = record { content = k.now.content; represents = it.represents k.now.content k.now.represents; holds = k.now.holds; legal = k.now.legal };
  sound = it.sound k.sound;
  outcomes = λ x l. k.outcomes x (it.leaves x l);
}

pub ran_below : (before after before_below after_below : BooksState) (count counted_to count_below counted_below : ℕ)
    → Hands before_below before → Hands after after_below → (after_below.clean → after.clean)
    → (before.clean → before_below.clean)
    → count ≡ count_below → counted_below ≡ counted_to
    → (calls : List Call) (answers : List Answer) → Ran before after count counted_to calls answers
    → Ran before_below after_below count_below counted_below calls answers
ran_below before after before_below after_below count counted_to count_below counted_below down up clean_after clean_before first last calls
    answers is =
    record {
      run = λ m h w legal rows told.
          let run = is.run m (down.represents m h) w legal rows (clean_after told) in
          record {
            answered = run.answered;
            isolated = run.isolated;
            after = run.after;
            left_it = up.represents run.after run.left_it;
            holds = run.holds;
            legal = run.legal;
          };
      counted =
          λ room. subst (λ n. counted_below
          ≡ n + stores_in answers) first (subst (λ n. n ≡ count + stores_in answers) (sym last)
          (is.counted (subst (λ n. n + stores_in answers < 2 ^ 64) (sym first) room)));
      endures = record {
        clean = λ h. clean_before (is.endures.clean (clean_after h));
        goes_on =
            λ w earlier said tidy k. handed after after_below up w _ _
            (is.endures.goes_on w earlier said (clean_after tidy) (handed before_below before down w earlier said k));
      };
    }
