use Rattle.std.proofs.{Common.{◌≡◌, ◌+◌, ◌∙◌, ◌++◌, ◌∷◌, [], ap, arith, length, length-append, refl, subst, sym, take, List}, Math.Seq.{take-length}}
use Rattle.std.proofs.lemmas.List.{take_more}
use Rattle.plant_model.specs.declared.{call.Call.{Call}, reply.Answer.{Answer}}
use Rattle.plant_office.{specs.{Enduring.{EnduresAll, books_state}, Runs.{AllChangeNothing, EachKeepsUnchanged, IsRun, stores_in}}, proofs.public.{Enduring.{all_none, all_one, all_then}, Running.{few_stores, keeps_more, left_by, nothing_split, run_more, run_none, stores_more}}}
use Rattle.plant_office.proofs.office.Office.run.Goals as goal

pub loop-call-init : goal.loop-call-init
loop-call-init g c =
    let none = c.in_ok-answers.ensures.items in
    let start = books_state g.B.Books c.args.self.now.books in
    record {
      honest = λ t. t;
      ran = λ m k w legal h tidy. subst (λ (xs : List Answer). IsRun w [] xs (g.B.Books.represents c.args.self.now.books)) (sym none)
          (run_none w m (g.B.Books.represents c.args.self.now.books) k h legal);
      unchanged = λ m k quiet. k;
      kept = subst (λ (xs : List Answer). EachKeepsUnchanged g.B.Books.represents [] xs c.args.self.now.books c.args.self.now.books) (sym none) refl;
      endures = subst (λ (xs : List Answer). EnduresAll start start [] xs) (sym none) (all_none start);
      long = ap length none;
      room = c.in_ok-answers.ensures.capacity;
      count = λ room. let e : stores_in [] ≡ 0 = refl in
          let z : g.B.Books.stores c.args.self.now.books ≡ g.B.Books.stores c.args.self.now.books + stores_in [] = omega (arith, e) in z
          ∙ ap (λ xs. g.B.Books.stores c.args.self.now.books + stores_in xs) (sym none);
    }

pub loop-call-preserved : goal.loop-call-preserved
loop-call-preserved g c =
    let calls = c.args.calls.now in
    let i = c.loop-call.call-index in
    let call = c.call-item.result in
    let represents = g.B.Books.represents in
    let said = c.serve-answer.ensures in
    let before = c.loop-call.invariant in
    let more : take (i + 1) calls ≡ take i calls ++ call ∷ [] = take_more calls i call c.loop-call-test.true
    ∙ ap (λ (x : Call). take i calls ++ x ∷ []) (sym c.call-item.is) in
    record {
      honest = λ t. before.honest (said.honest t);
      ran = λ m k w legal h tidy.
          subst (λ (xs : List Call). IsRun w xs c.push_answer.new.answers.items (represents c.serve-answer.new.self.books)) (sym more)
          (subst (λ (xs : List Answer). IsRun w (take i calls ++ call
          ∷ []) xs (represents c.serve-answer.new.self.books)) (sym c.push_answer.ensures.items)
          (run_more w (take i calls) c.loop-call.answers.items call c.serve-answer.result (represents c.loop-call.self.books)
          (represents c.serve-answer.new.self.books)
          (before.ran m k w legal h (said.endures.endures.clean tidy)) (λ n l v lv hv. said.served n l v lv hv tidy) (λ n l. said.fault n l)));
      unchanged = λ m k quiet.
          let all = subst (λ (xs : List Call). AllChangeNothing xs c.push_answer.new.answers.items) more quiet in
          let both = subst (λ (xs : List Answer). AllChangeNothing (take i calls ++ call ∷ []) xs) c.push_answer.ensures.items all in
          let split = nothing_split (take i calls) c.loop-call.answers.items call c.serve-answer.result both in
          let h = before.unchanged m k split.0 in
          left_by call c.serve-answer.result (represents c.serve-answer.new.self.books m) (said.unchanged m h) (said.fault m h) split.1;
      kept =
          let first = c.args.self.now.books in
          let now = c.serve-answer.new.self.books in
          subst (λ (xs : List Call). EachKeepsUnchanged represents xs c.push_answer.new.answers.items first now) (sym more)
          (subst (λ (xs : List Answer). EachKeepsUnchanged represents (take i calls ++ call ∷ []) xs first now) (sym c.push_answer.ensures.items)
          (keeps_more represents (take i calls) c.loop-call.answers.items call c.serve-answer.result first c.loop-call.self.books now before.kept
          (λ m h is. left_by call c.serve-answer.result (represents now m) (said.unchanged m h) (said.fault m h) is)));
      endures =
          let start = books_state g.B.Books c.args.self.now.books in
          let now = books_state g.B.Books c.serve-answer.new.self.books in
          subst (λ (xs : List Call). EnduresAll start now xs c.push_answer.new.answers.items) (sym more)
          (subst (λ (xs : List Answer). EnduresAll start now (take i calls ++ call ∷ []) xs) (sym c.push_answer.ensures.items)
          (all_then start (books_state g.B.Books c.loop-call.self.books) now (take i calls) (call
          ∷ []) c.loop-call.answers.items (c.serve-answer.result ∷ []) before.endures
          (all_one (books_state g.B.Books c.loop-call.self.books) now call c.serve-answer.result said.endures)));
      long = ap length c.push_answer.ensures.items
          ∙ (let p = length-append c.loop-call.answers.items (c.serve-answer.result ∷ []) in
          let e : length (c.loop-call.answers.items ++ c.serve-answer.result ∷ []) ≡ i + 1 = omega (arith, p, before.long) in e);
      room = omega (arith, before.room, c.push_answer.ensures.room);
      count = λ room.
          stores_more _ _ _ (length calls) i c.loop-call.answers.items c.serve-answer.result (sym before.long) c.loop-call-test.true room
          (before.count room) (few_stores c.loop-call.answers.items) said.count
          ∙ ap (λ xs. g.B.Books.stores c.args.self.now.books + stores_in xs) (sym c.push_answer.ensures.items);
    }

pub returns-clause-ran : goal.returns-clause-ran
returns-clause-ran g c = λ m k w legal h honest.
    let all : length c.args.calls.now ≡ c.loop-call.call-index = omega (arith, c.loop-call-test.false, c.loop-call.auto.call-index-end) in
    let whole : take c.loop-call.call-index c.args.calls.now ≡ c.args.calls.now = ap (λ n. take n c.args.calls.now) (sym all)
    ∙ take-length c.args.calls.now in
    subst (λ (xs : List Call). IsRun w xs c.loop-call.answers.items (g.B.Books.represents c.loop-call.self.books)) whole
    (c.loop-call.invariant.ran m k w legal h honest)

pub returns-clause-unchanged : goal.returns-clause-unchanged
returns-clause-unchanged g c = λ m k quiet.
    let all : length c.args.calls.now ≡ c.loop-call.call-index = omega (arith, c.loop-call-test.false, c.loop-call.auto.call-index-end) in
    let whole : take c.loop-call.call-index c.args.calls.now ≡ c.args.calls.now = ap (λ n. take n c.args.calls.now) (sym all)
    ∙ take-length c.args.calls.now in
    c.loop-call.invariant.unchanged m k (subst (λ (xs : List Call). AllChangeNothing xs c.loop-call.answers.items) (sym whole) quiet)

pub returns-clause-kept : goal.returns-clause-kept
returns-clause-kept g c =
    let all : length c.args.calls.now ≡ c.loop-call.call-index = omega (arith, c.loop-call-test.false, c.loop-call.auto.call-index-end) in
    let whole : take c.loop-call.call-index c.args.calls.now ≡ c.args.calls.now = ap (λ n. take n c.args.calls.now) (sym all)
    ∙ take-length c.args.calls.now in
    subst (λ (xs : List Call). EachKeepsUnchanged g.B.Books.represents xs c.loop-call.answers.items c.args.self.now.books c.loop-call.self.books)
    whole c.loop-call.invariant.kept

pub returns-clause-endures : goal.returns-clause-endures
returns-clause-endures g c =
    let all : length c.args.calls.now ≡ c.loop-call.call-index = omega (arith, c.loop-call-test.false, c.loop-call.auto.call-index-end) in
    let whole : take c.loop-call.call-index c.args.calls.now ≡ c.args.calls.now = ap (λ n. take n c.args.calls.now) (sym all)
    ∙ take-length c.args.calls.now in
    subst (λ (xs : List Call). EnduresAll (books_state g.B.Books c.args.self.now.books) (books_state g.B.Books c.loop-call.self.books) xs
    c.loop-call.answers.items) whole c.loop-call.invariant.endures
