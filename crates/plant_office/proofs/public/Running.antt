-- A run with one more call.
use Rattle.std.proofs.Common.{ap, arith, refl, subst, ◌∙◌, List, [], cond, count_by, false, if◌then◌else◌, length, true, ℕ, ◌++◌, ◌+◌, ◌-◌, ◌<◌, ◌^◌, ◌∷◌, ◌≡◌, ◌≤◌}
use Rattle.std.proofs.lemmas.List.Sums.{count_by-le-length, sum_by-append}
use Rattle.plant_model.specs.{Verdicts.{changes_history}, Worlds.{IsLegalWorld, World, answer, answers}, declared.{call.Call.{Call}, reply.Answer.{Answer}}}
use Rattle.plant_model.specs.declared.reply.Answer.TheVariants.{Fault as Faulted, Refused as WasRefused, Reply as Replied}
use Rattle.plant_types.{specs.declared.fault.Fault.TheVariants.{Memory, Store}, proofs.public.Halves.{left}}
use Rattle.plant_books.specs.Contents.{Content}
use Rattle.plant_office.specs.Answers.{CountsAnswer, IfSaid, OnFault}
use Rattle.plant_office.specs.Runs.{AllChangeNothing, AreAnswers, AreIsolated, ChangesNothing, EachKeepsUnchanged, IsRun, KeepsUnchanged, after_answer, is_store, stores_in, world_after}
use Rattle.plant_office.{specs.Served.{Holds, IsServed}, proofs.Serving.{alike_if}}

-- two runs, one after the other
pub joined : (w : World) (cs ds : List Call) (xs ys : List Answer) → AreAnswers w cs xs → AreIsolated w cs xs → AreAnswers (world_after w cs xs) ds ys
    → AreIsolated (world_after w cs xs) ds ys
    → AreAnswers w (cs ++ ds) (xs ++ ys) × AreIsolated w (cs ++ ds) (xs ++ ys)
    × (world_after (world_after w cs xs) ds ys ≡ world_after w (cs ++ ds) (xs ++ ys))
joined w [] ds [] ys h i k l = (k, l, refl)
joined w (c ∷ cs) ds (a ∷ xs) ys h i k l = let rest = joined (after_answer w c a) cs ds xs ys h.1 i.1 k l in ((h.0, rest.0), (i.0, rest.1), rest.2)
joined w [] ds (a ∷ xs) ys h i k l = absurd h
joined w (c ∷ cs) ds [] ys h i k l = absurd h

pub run-append : (w : World) (cs ds : List Call) (xs ys : List Answer) (mid left : Content → Type 0) → IsRun w cs xs mid
    → IsRun (world_after w cs xs) ds ys left → IsRun w (cs ++ ds) (xs ++ ys) left
run-append w cs ds xs ys mid left first second =
    let both = joined w cs ds xs ys first.answered first.isolated second.answered second.isolated in
    record {
      answered = both.0;
      isolated = both.1;
      after = second.after;
      left_it = second.left_it;
      holds = subst (Holds second.after) both.2 second.holds;
      legal = subst IsLegalWorld both.2 second.legal;
    }

-- what a served call returns and leaves
pub said_as : (v : World) (c : Call) (a : Answer) (new : Content → Type 0) → IfSaid a (λ x. IsServed v c x new) → IfSaid a (λ x. x ≡ answer v c)
said_as v c (Replied r) new s = s.answered
said_as v c (WasRefused r) new s = s.answered
said_as v c (Faulted f) new s = tt

record Leaves (v : World) (new : Content → Type 0) : Type 0 where
  pub after : Content
  pub left_it : new after
  pub holds : Holds after v
  pub legal : IsLegalWorld v

left_as : (v : World) (c : Call) (a : Answer) (m : Content) (new : Content → Type 0) → IsLegalWorld v → Holds m v → IfSaid a (λ x. IsServed v c x new)
    → OnFault a (new m) → Leaves (after_answer v c a) new
left_as v c (Replied r) m new legal h s f = record { after = s.after; left_it = s.left_it; holds = s.holds; legal = s.legal }
left_as v c (WasRefused r) m new legal h s f = record { after = s.after; left_it = s.left_it; holds = s.holds; legal = s.legal }
left_as v c (Faulted x) m new legal h s f = record { after = m; left_it = f; holds = h; legal = legal }

pub run_more : (w : World) (calls : List Call) (answers : List Answer) (c : Call) (a : Answer) (old new : Content → Type 0)
    → IsRun w calls answers old → ((m : Content) → old m → (v : World) → IsLegalWorld v → Holds m v → IfSaid a (λ x. IsServed v c x new))
    → ((m : Content) → old m → OnFault a (new m)) → IsRun w (calls ++ c ∷ []) (answers ++ a ∷ []) new
run_more w calls answers c a old new s served fault =
    let v = world_after w calls answers in
    let now = served s.after s.left_it v s.legal s.holds in
    let said = said_as v c a new now in
    let left = left_as v c a s.after new s.legal s.holds now (fault s.after s.left_it) in
    run-append w calls (c ∷ []) answers (a ∷ []) old new s
    (record {
      answered = (said, tt);
      isolated = (alike_if v c a said, tt);
      after = left.after;
      left_it = left.left_it;
      holds = left.holds;
      legal = left.legal;
    })

pub run_none : (w : World) (m : Content) (left : Content → Type 0) → left m → Holds m w → IsLegalWorld w → IsRun w [] [] left
run_none w m left l h legal = record { answered = tt; isolated = tt; after = m; left_it = l; holds = h; legal = legal }

-- the count of answers Store
one_store : (a : Answer) → count_by is_store (a ∷ []) ≡ (if is_store a then 1 else 0)
one_store a = elim (is_store a) as (λ b. 0 + cond b 1 0 ≡ (if b then 1 else 0)) [ true ↦ refl | false ↦ refl ]

stores-push : (answers : List Answer) (a : Answer) → stores_in (answers ++ a ∷ []) ≡ stores_in answers + (if is_store a then 1 else 0)
stores-push answers a = sum_by-append (λ x. cond (is_store x) 1 0) answers (a ∷ []) ∙ ap (λ n. stores_in answers + n) (one_store a)

pub stores_more : (first old new n i : ℕ) (answers : List Answer) (a : Answer) → i ≡ length answers → i < n → first + n < 2 ^ 64
    → old ≡ first + stores_in answers → stores_in answers ≤ length answers → CountsAnswer old new a → new ≡ first + stores_in (answers ++ a ∷ [])
stores_more first old new n i answers (Replied r) il lt room e le counts = let p = stores-push answers (Replied r) in omega (arith, p, e, counts)
stores_more first old new n i answers (WasRefused r) il lt room e le counts = let p = stores-push answers (WasRefused r) in
    omega (arith, p, e, counts)
stores_more first old new n i answers (Faulted Memory) il lt room e le counts = let p = stores-push answers (Faulted Memory) in
    omega (arith, p, e, counts)
stores_more first old new n i answers (Faulted Store) il lt room e le counts =
    let p = stores-push answers (Faulted Store) in
    let less : old < 2 ^ 64 - 1 = omega (arith, il, lt, room, e, le) in
    let more = counts less in
    omega (arith, p, e, more)

pub few_stores : (answers : List Answer) → stores_in answers ≤ length answers
few_stores answers = count_by-le-length is_store answers

-- all change nothing: the first ones, and the last
pub nothing_split : (cs : List Call) (xs : List Answer) (c : Call) (a : Answer) → AllChangeNothing (cs ++ c ∷ []) (xs ++ a ∷ [])
    → AllChangeNothing cs xs × ChangesNothing c a
nothing_split [] [] c a h = (tt, h.0)
nothing_split [] (x ∷ []) c a h = absurd h.1
nothing_split [] (x ∷ y ∷ ys) c a h = absurd h.1
nothing_split (d ∷ []) [] c a h = absurd h.1
nothing_split (d ∷ e ∷ ds) [] c a h = absurd h.1
nothing_split (d ∷ ds) (x ∷ xs) c a h = let rest = nothing_split ds xs c a h.1 in ((h.0, rest.0), rest.1)

-- what holds after a fault, and after an answer that changes nothing
pub left_by : (c : Call) (a : Answer) (P : Type 0) → IfSaid a (λ x. changes_history x c ≡ false → P) → OnFault a P → ChangesNothing c a → P
left_by c (Replied r) P said fault is = said is
left_by c (WasRefused r) P said fault is = said is
left_by c (Faulted f) P said fault is = fault

-- one call more, after calls that each kept what their answers leave
pub keeps_more : {B : Type 0} (represents : B → Content → Type 0) (cs : List Call) (xs : List Answer) (c : Call) (a : Answer) (first old new : B)
    → EachKeepsUnchanged represents cs xs first old → KeepsUnchanged represents c a old new
    → EachKeepsUnchanged represents (cs ++ c ∷ []) (xs ++ a ∷ []) first new
keeps_more represents [] [] c a first old new h k = (new, subst (λ b. KeepsUnchanged represents c a b new) h k, refl)
keeps_more represents [] (x ∷ xs) c a first old new h k = absurd h
keeps_more represents (d ∷ cs) [] c a first old new h k = absurd h
keeps_more represents (d ∷ cs) (x ∷ xs) c a first old new h k = (h.0, h.1, keeps_more represents cs xs c a h.0 old new h.2 k)
