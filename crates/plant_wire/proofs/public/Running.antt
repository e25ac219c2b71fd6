-- What the office did in one step after another.
use Rattle.std.proofs.{Common.{◌≡◌, ◌<◌, ◌+◌, ℕ, List, [], ◌∷◌, ◌++◌, cond, refl, arith, ◌-◌, ◌^◌}, lemmas.List.Sums.{sum_by-append}}
use Rattle.plant_model.specs.{Worlds.{World, IsLegalWorld}, declared.{call.Call.{Call}, reply.Answer.{Answer}}}
use Rattle.plant_model.specs.declared.reply.Answer.TheVariants.{Fault as Faulted, Refused as WasRefused, Reply as Replied}
use Rattle.plant_books.specs.Contents.{Content}
use Rattle.plant_types.specs.declared.fault.Fault.TheVariants.{Memory, Store}
use Rattle.plant_office.specs.Answers.{CountsAnswer, IfSaid, OnFault}
use Rattle.plant_office.specs.{Runs.{is_store, stores_in, world_after}, Served.{Holds, IsServed}}
use Rattle.plant_office.proofs.public.Running.{run-append, run_more, run_none}
use Rattle.plant_office.{specs.Enduring.{EnduresSettled, BooksState}, proofs.public.Enduring.{all_none, all_one, all_then}}
use Rattle.plant_wire.specs.Ran.{Ran}

-- the count of answers Store
stores-append : (xs ys : List Answer) → stores_in (xs ++ ys) ≡ stores_in xs + stores_in ys
stores-append xs ys = sum_by-append (λ x. cond (is_store x) 1 0) xs ys

counted_one : (before after : ℕ) (answer : Answer) → CountsAnswer before after answer
    → before + stores_in (answer ∷ []) < 2 ^ 64 → after ≡ before + stores_in (answer ∷ [])
counted_one before after (Replied r) counts room = let none : stores_in (Replied r ∷ []) ≡ 0 = refl in omega (arith, none, counts)
counted_one before after (WasRefused r) counts room = let none : stores_in (WasRefused r ∷ []) ≡ 0 = refl in omega (arith, none, counts)
counted_one before after (Faulted Memory) counts room = let none : stores_in (Faulted Memory ∷ []) ≡ 0 = refl in omega (arith, none, counts)
counted_one before after (Faulted Store) counts room =
    let one : stores_in (Faulted Store ∷ []) ≡ 1 = refl in
    let less : before < 2 ^ 64 - 1 = omega (arith, one, room) in
    let more = counts less in
    omega (arith, one, more)

counted_both : (before between after : ℕ) (xs ys : List Answer)
    → (before + stores_in xs < 2 ^ 64 → between ≡ before + stores_in xs)
    → (between + stores_in ys < 2 ^ 64 → after ≡ between + stores_in ys)
    → before + stores_in (xs ++ ys) < 2 ^ 64 → after ≡ before + stores_in (xs ++ ys)
counted_both before between after xs ys first second room =
    let both = stores-append xs ys in
    let early : before + stores_in xs < 2 ^ 64 = omega (arith, both, room) in
    let mid = first early in
    let late : between + stores_in ys < 2 ^ 64 = omega (arith, both, room, mid) in
    let end = second late in
    omega (arith, both, mid, end)

-- no call was made
pub ran_none : (books : BooksState) (count : ℕ) → Ran books books count count [] []
ran_none books count = record {
  run = λ m h w legal holds t. run_none w m books.represents h holds legal;
  counted = λ room. let none : stores_in [] ≡ 0 = refl in omega (arith, none);
  endures = all_none books;
}

-- one call was made
pub ran_one : (before after : BooksState) (count counted_to : ℕ) (call : Call) (answer : Answer)
    → ((m : Content) → before.represents m → (w : World) → IsLegalWorld w → Holds m w → after.clean → IfSaid answer (λ a. IsServed w call a after.represents))
    → ((m : Content) → before.represents m → OnFault answer (after.represents m)) → CountsAnswer count counted_to answer → EnduresSettled call answer before after
    → Ran before after count counted_to (call ∷ []) (answer ∷ [])
ran_one before after count counted_to call answer served fault counts endured =
    record {
      run = λ m h w legal holds t.
          run_more w [] [] call answer before.represents after.represents (run_none w m before.represents h holds legal)
          (λ m' h' w' legal' holds'. served m' h' w' legal' holds' t) fault;
      counted = counted_one count counted_to answer counts;
      endures = all_one before after call answer endured;
    }

-- what two steps did, one after the other
pub record Joins (first second both : List Call → List Answer → Type 0) : Type 0 where
  pub join : (cs ds : List Call) (xs bs : List Answer) → first cs xs → second ds bs → both (cs ++ ds) (xs ++ bs)

pub ran_joins : (before mid after : BooksState) (count between counted_to : ℕ)
    → Joins (Ran before mid count between) (Ran mid after between counted_to) (Ran before after count counted_to)
ran_joins before mid after count between counted_to = record {
  join = λ cs ds xs bs first second. record {
    run = λ m h w legal holds t.
        let a = first.run m h w legal holds (second.endures.clean t) in
        run-append w cs ds xs bs mid.represents after.represents a (second.run a.after a.left_it (world_after w cs xs) a.legal a.holds t);
    counted = counted_both count between counted_to xs bs first.counted second.counted;
    endures = all_then before mid after cs ds xs bs first.endures second.endures;
  };
}
