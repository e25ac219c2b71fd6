-- Whether a text has RETURNING is read from the text alone, whatever the schema is.
use Rattle.std.proofs.Common.{◌≡◌, inl, inr, ℕ, ◌==◌, List, length, true, false, None, Some, Ok, Err, Option, Result, Bool, if◌then◌else◌, refl, sym, ap, subst, ◌∙◌, true≢false}
use Rattle.std.proofs.lemmas.Bool.{cases_Bool}
use Rattle.sqlite_ast.specs.declared.Statement.{Statement}
use Rattle.sqlite_ast.specs.declared.Statement.TheVariants as written
use Rattle.sqlite_syntax.specs.declared.statement.Parsed.{Parsed}
use Rattle.sqlite_value.specs.Order.{Row}
use Rattle.sqlite_trees.specs.Tree.{Trees}
use Rattle.sqlite_schema.specs.declared.schema.Schema.{Schema}
use Rattle.sqlite_schema.specs.declared.command.Returning.{Returning}
use Rattle.sqlite_resolve.specs.declared.compiled.Compiled.{Compiled}
use Rattle.sqlite_resolve.specs.declared.error.CompileError.{CompileError, TheVariants.{NoSuchTable}}
use Rattle.sqlite_ast.specs.declared.Shown.{Shown}
use Rattle.sqlite_resolve.specs.Body.{table_at}
use Rattle.sqlite_resolve.specs.Given.{returned}
use Rattle.sqlite_resolve.specs.Compile.{command, compiled, first, meaning, planned, returning, shows, source_of, target, with_command}
use Rattle.sqlite_schema.specs.declared.command.Command.{Command}
use Rattle.sqlite_resolve.specs.Lowering.{Checked, and_then}
use Rattle.sqlite.specs.Given.{IsPlain}
use Rattle.sqlite.specs.Listing.{if_select, is_select, listing_schema, reads_listing, understood}
use Rattle.sqlite.specs.State.{CommitsShowing, State}

same_ok : {A : Type 0} (x y : A) → ◌≡◌ {A = Checked A} (Ok x) (Ok y) → x ≡ y
same_ok x y h = cc

some_none : {A : Type 0} (x : A) → ◌≡◌ {A = Option A} (Some x) None → ⊥
some_none x h = cc

-- it does not give nothing
abbrev NeverNone : Checked (Option Returning) → Type 0
NeverNone r = (o : Option Returning) → r ≡ Ok o → o ≡ None → ⊥

never_then : {A : Type 0} (r : Checked A) (f : A → Checked (Option Returning)) → ((y : A) → NeverNone (f y)) → NeverNone (and_then r f)
never_then (Ok y) f never = never y
never_then (Err e) f never = λ o h is. absurd cc

never_some : (x : Returning) → NeverNone (Ok (Some x))
never_some x o h is = some_none x (same_ok (Some x) o h ∙ is)

some_shown : (schema : Schema) (base : ℕ) (name : List ℕ) (list : List Shown) → NeverNone
    (and_then (target schema name)
    (λ at. and_then (table_at schema at)
    (λ table. and_then (returned schema table base list)
    (λ r. and_then (source_of schema (length r.0) r.1) (λ s. Ok (Some (record { names = r.0; row = s })))))))
some_shown schema base name list =
    never_then (target schema name)
    (λ at. and_then (table_at schema at)
    (λ table. and_then (returned schema table base list)
    (λ r. and_then (source_of schema (length r.0) r.1) (λ s. Ok (Some (record { names = r.0; row = s })))))) (λ at.
    never_then (table_at schema at)
    (λ table. and_then (returned schema table base list)
    (λ r. and_then (source_of schema (length r.0) r.1) (λ s. Ok (Some (record { names = r.0; row = s }))))) (λ table.
    never_then (returned schema table base list)
    (λ r. and_then (source_of schema (length r.0) r.1) (λ s. Ok (Some (record { names = r.0; row = s })))) (λ r.
    never_then (source_of schema (length r.0) r.1) (λ s. Ok (Some (record { names = r.0; row = s })))
    (λ s. never_some (record { names = r.0; row = s })))))

-- nothing is shown only where nothing is asked for
shows_some : (schema : Schema) (base : ℕ) (name : List ℕ) (list : List Shown) (o : Option Returning) → (length list == 0) ≡ false
    → shows schema base name list ≡ Ok o → o ≡ None → ⊥
unfolding shows
shows_some schema base name list o none h is = some_shown schema base name list o (rw none at h) is

shows_none : (schema : Schema) (base : ℕ) (name : List ℕ) (list : List Shown) (o : Option Returning) → (length list == 0) ≡ true
    → shows schema base name list ≡ Ok o → o ≡ None
unfolding shows
shows_none schema base name list o none h = sym (same_ok None o (rw none at h))

shows_both : (a b : Schema) (m n : ℕ) (name other : List ℕ) (list : List Shown) (o p : Option Returning) → shows a m name list ≡ Ok o → o ≡ None
    → shows b n other list ≡ Ok p → p ≡ None
shows_both a b m n name other list o p h is k = elim (cases_Bool (length list == 0)) [
  | inl none ↦ shows_none b n other list p none k
  | inr some ↦ absurd (shows_some a m name list o some h is)
]

returning_both : (a b : Schema) (m n : ℕ) (st : Statement) (o p : Option Returning) → returning a m st ≡ Ok o → o ≡ None → returning b n st ≡ Ok p
    → p ≡ None
unfolding returning
returning_both a b m n (written.Insert how name columns rows clauses list) o p h is k = shows_both a b m n name name list o p h is k
returning_both a b m n (written.Update name sets test list) o p h is k = shows_both a b m n name name list o p h is k
returning_both a b m n (written.Delete name test list) o p h is k = shows_both a b m n name name list o p h is k
returning_both a b m n _ o p h is k = sym (same_ok None p k)

-- what a compiled text shows is what its statement asks for
pub record Asks (sql : List ℕ) (shown : Option Returning) : Type 0 where
  pub schema : Schema
  pub parsed : Parsed
  pub is : first sql ≡ Ok parsed
  pub base : ℕ
  pub asked : returning schema base parsed.statement ≡ Ok shown

meant : (schema : Schema) (p : Parsed) (base : ℕ) (k : Command) (shown : Option Returning) → meaning schema p base ≡ Ok (k, shown)
    → returning schema base p.statement ≡ Ok shown
unfolding meaning
meant schema p base k shown h = go (returning schema base p.statement) (command schema p.formats base p.statement) h
  where
    go : (r : Checked (Option Returning)) (c : Checked Command)
        → and_then {B = Command × Option Returning} r (λ s. and_then {B = Command × Option Returning} c (λ x. Ok (x, s))) ≡ Ok (k, shown)
        → r ≡ Ok shown
    go (Ok s) (Ok x) e = ap (λ (q : Command × Option Returning). Ok q.1) (same_ok (x, s) (k, shown) e)
    go (Ok s) (Err f) e = absurd cc
    go (Err f) c e = absurd cc

asks_compiled : (schema : Schema) (sql : List ℕ) (c : Compiled) → compiled schema sql ≡ Ok c → Asks sql c.returning
unfolding compiled planned
asks_compiled schema sql c h = go (first sql) refl h
  where
    from : (p : Parsed) (base : ℕ) (formats : List (List ℕ)) (r : Checked (Command × Option Returning)) → meaning schema p base ≡ r
        → and_then (and_then r (λ found. Ok (formats, found))) (λ plan. Ok (with_command p plan)) ≡ Ok c → first sql ≡ Ok p → Asks sql c.returning
    from p base formats (Ok found) is e parsed = record {
      schema = schema;
      parsed = p;
      is = parsed;
      base = base;
      asked = meant schema p base found.0 found.1 is ∙ ap (λ (x : Compiled). Ok x.returning) (same_ok (with_command p (formats, found)) c e);
    }
    from p base formats (Err f) is e parsed = absurd cc

    go : (r : Checked Parsed) → first sql ≡ r → and_then r (λ p. and_then (planned schema p) (λ plan. Ok (with_command p plan))) ≡ Ok c
        → Asks sql c.returning
    go (Ok p) is e = from p _ _ (meaning schema p _) refl e is
    go (Err f) is e = absurd cc

selected : (r : Result Compiled CompileError) (c : Compiled) → if_select r ≡ Ok c → r ≡ Ok c
selected (Ok x) c h = go (is_select x.command) h
  where
    go : (b : Bool) → ◌≡◌ {A = Result Compiled CompileError} (if b then Ok x else Err NoSuchTable) (Ok c)
        → ◌≡◌ {A = Result Compiled CompileError} (Ok x) (Ok c)
    go true e = e
    go false e = absurd cc
selected (Err e) c h = absurd cc

asks_understood : (schema : Schema) (sql : List ℕ) (c : Compiled) → understood schema sql ≡ Ok c → Asks sql c.returning
unfolding understood
asks_understood schema sql c h = elim (cases_Bool (reads_listing schema sql)) [
  | inl lists ↦ asks_compiled listing_schema sql c (selected (compiled listing_schema sql) c (rw lists at h))
  | inr plain ↦ asks_compiled schema sql c (rw plain at h)
]

same_parsed : (sql : List ℕ) (o p : Option Returning) → Asks sql o → Asks sql p → o ≡ None → p ≡ None
same_parsed sql o p a b is =
    let same : a.parsed ≡ b.parsed = same_ok a.parsed b.parsed (sym a.is ∙ b.is) in
    returning_both a.schema b.schema a.base b.base b.parsed.statement o p (subst (λ (x : Parsed). returning a.schema a.base x.statement
    ≡ Ok o) same a.asked) is b.asked

plain_returning : (r : Result Compiled CompileError) → IsPlain r → (c : Compiled) × (r ≡ Ok c) × (c.returning ≡ None)
plain_returning (Ok c) h = (c, refl, h.0)
plain_returning (Err e) h = absurd h

-- a text that is plain under one schema has no RETURNING under any
pub never_returns : (schema other : Schema) (sql : List ℕ) → IsPlain (understood schema sql) → (c : Compiled) → understood other sql ≡ Ok c
    → c.returning ≡ None
never_returns schema other sql plain c is =
    let one = plain_returning (understood schema sql) plain in
    same_parsed sql one.0.returning c.returning (asks_understood schema sql one.0 one.1) (asks_understood other sql c is) one.2

-- so as a query it commits nothing, whatever the schema is
pub never_commits_anywhere : (schema : Schema) (sql : List ℕ) → IsPlain (understood schema sql) → (params : Row) (s : State) (db : Trees)
    → ¬ CommitsShowing sql params s db
unfolding CommitsShowing
never_commits_anywhere schema sql plain params s db h =
    let none = never_returns schema s.now.schema sql plain h.0 h.1.is in
    let some = rw none at h.2 in
    true≢false (sym some)
