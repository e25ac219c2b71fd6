-- What a query means that shows three columns of one table, under any schema that has the table with these columns.
use Rattle.std.proofs.Common.{◌≡◌, refl, ◌∙◌, ℕ, List, [], ◌∷◌, ◌++◌, Bool, cond, false, true, Some, None, Ok, Err, slice_get, pos, negsuc, ◌-◌, nat_lt}
use Rattle.sqlite_ast.specs.declared.{Core.{out-Core}, Expr.{Expr}, Select.{Select}}
use Rattle.sqlite_draft.specs.{Query.{query_of}, declared.{join.Step.TheVariants.{Inner}, query.Draft.{Draft}}}
use Rattle.sqlite_schema.specs.{Names.{table_named, column_named, place_of}, declared.{program.Program.{Program}, schema.Column.{Column}}}
use Rattle.sqlite_schema.specs.declared.schema.{Schema.{Schema}, Table.{Table}}
use Rattle.sqlite_sql.specs.{Query.{inner, end}, Term.{Term, col, lit}}
use Rattle.sqlite_resolve.specs.{Expr.{node, opened, lower_to, lower}, Lowering.{Lowering, fresh, nothing, max_budget}, Program.{query_to, query}}
use Rattle.sqlite_resolve.specs.Scope.{Name, Context, column_in, hit, only, in_level, find, declared, column_at, term_of, column}
use Rattle.sqlite_resolve.specs.{Select.{parts, named, outermost, assembled, ungrouped, paging, constant_or}, Terms.{number}}
use Rattle.sqlite_resolve.specs.declared.{error.CompileError.TheVariants.{Mismatch}, scope.{Bound.{Bound}, Level.{Level}, Output.{Output}}}
use Rattle.sqlite_resolve.{specs.declared.{select.Clauses.{Clauses}, state.{Carried.{Carried}, State.{State}}}, proofs.ProgramLemmas.{single_named}}
use Rattle.sqlite_typing.specs.Types.{accepts_program}
use Rattle.plant_store.proofs.OfficeAsked.{Asks, IsShownColumn}
use Rattle.sqlite_value.specs.declared.value.Value.TheVariants.{Int}
use Rattle.sqlite_ast.specs.declared.Shown as written
use Rattle.sqlite_ast.specs.declared.Origin.TheVariants as origin
use Rattle.sqlite_resolve.specs.declared.scope.Found.TheVariants as found
use Rattle.sqlite_resolve.specs.Body as body
use Rattle.sqlite_resolve.specs.Program as program
use Rattle.sqlite_resolve.specs.Compile as compile
use Rattle.sqlite_schema.specs.declared.command.Command.TheVariants as command

-- a column of a table
pub record IsColumn (t : Table) (n : Name) : Type 0 where
  pub at : ℕ
  pub column : Column
  pub has : column_named t n ≡ Some at
  pub it : slice_get t.columns at ≡ Some column

module _ (schema : Schema) (name : Name) (k : ℕ) (t : Table) (is_named : table_named schema name ≡ Some k)
    (is : slice_get schema.tables k ≡ Some t) where
  -- the one table of FROM, and the state and the context in which the columns are read
  abbrev table_bound : Bound
  table_bound = record { name = name; table = k; slot = 1; shared = [] }

  abbrev state_with : ℕ → Carried → State
  state_with b l = record { next = 2; steps = []; aggregates = []; budget = b; written = None; last = l }

  abbrev tables_level : Level
  tables_level = record { tables = table_bound ∷ []; shown = [] }

  abbrev showing : Context
  showing = record { schema = schema; levels = tables_level ∷ []; may_aggregate = true; may_alias = true }

  -- ---- the table, and one column of it

  found_table : body.table_in schema 1 (origin.Table name) ≡ Ok (name, k)
  unfolding body.table_in
  found_table = rw is_named

  module _ (n : Name) (c : IsColumn t n) where
    abbrev carried : Carried
    carried = declared t c.at c.column

    abbrev term : Term
    term = col 1 (place_of t c.at)

    abbrev output : Output
    output = record { name = c.column.name; is_alias = false; is_column = true; term = term; carried = carried }

    in_table : column_in schema n table_bound ≡ Some (found.Column 1 k c.at)
    unfolding column_in
    in_table = rw (is, c.has)

    is_hit : hit schema None n false table_bound ≡ Some (found.Column 1 k c.at)
    unfolding hit Rattle.sqlite_resolve.specs.Scope.is_among
    is_hit = in_table

    is_only : only schema None n false (table_bound ∷ []) ≡ Ok (Some (found.Column 1 k c.at))
    unfolding only
    is_only = rw is_hit

    is_in : in_level schema None n 0 tables_level ≡ Ok (Some (found.Column 1 k c.at))
    unfolding in_level
    is_in = rw is_only

    is_found : find showing None n ≡ Ok (found.Column 1 k c.at)
    unfolding find
    is_found = rw is_in

    at_place : column_at schema 1 k c.at ≡ Ok (term, carried)
    unfolding column_at
    at_place = rw (is, c.it)

    is_term : (s : State) → term_of showing (found.Column 1 k c.at) s ≡ Ok (term, record s { last = carried })
    unfolding term_of
    is_term s = rw at_place

    is_column : (s : State) → column showing None n s ≡ Ok (term, record s { last = carried })
    unfolding column
    is_column s = rw (is_found, is_term s)

    module _ (s : written.Shown) (w : IsShownColumn s n) where
      is_opened : (s' : State) (deeper : Context → Expr → Lowering Term) → opened deeper showing w.e s' ≡ Ok (term, record s' { last = carried })
      unfolding opened
      is_opened s' deeper = rw (w.out, is_column s')

      is_node : (b : ℕ) → nat_lt 1 b ≡ true → (l : Carried) (deeper : Context → Expr → Lowering Term)
          → node deeper showing w.e (state_with b l) ≡ Ok (term, state_with (b - 1) carried)
      unfolding node Rattle.sqlite_resolve.specs.Lowering.spend Rattle.sqlite_resolve.specs.Lowering.begin Rattle.sqlite_resolve.specs.Lowering.finish
          Rattle.sqlite_resolve.specs.Expr.passes
      is_node b many l deeper = rw (many, is_opened (state_with (b - 1) nothing) deeper, w.out)

      is_lowered : (b : ℕ) → nat_lt 1 b ≡ true → (l : Carried) → lower showing w.e (state_with b l) ≡ Ok (term, state_with (b - 1) carried)
      unfolding lower_to
      is_lowered b many l = is_node b many l (lower_to 699)

      is_headed : body.heading showing w.e w.text ≡ c.column.name
      unfolding body.heading body.declared
      is_headed = rw (w.out, is_found, is, c.it)

      is_plain : body.is_column w.e ≡ true
      unfolding body.is_column
      is_plain = rw w.out

      is_shown : (b : ℕ) → nat_lt 1 b ≡ true → (l : Carried) (done : List Output)
          → body.shown lower showing (table_bound ∷ []) done s (state_with b l) ≡ Ok (done ++ output ∷ [], state_with (b - 1) carried)
      unfolding body.shown
      is_shown b many l done = rw (w.one, is_lowered b many l, is_headed, is_plain)

  -- ---- FROM, the columns that are shown, and the query

  module _ (n₁ n₂ n₃ : Name) (s : Select) (w : Asks s name n₁ n₂ n₃) where
    is_bound : body.bound schema w.src (fresh 1 max_budget) ≡ Ok (table_bound, state_with max_budget nothing)
    unfolding body.bound Rattle.sqlite_resolve.specs.Lowering.take_slot
    is_bound = rw (w.from, w.alias, w.using, found_table)

    are_bound : body.bounds schema (w.src ∷ []) (fresh 1 max_budget) ≡ Ok (table_bound ∷ [], state_with max_budget nothing)
    unfolding body.bounds
    are_bound = rw is_bound

    is_joined : (x : Context) → x.schema ≡ schema → (s' : State)
        → body.join lower x (table_bound ∷ [])
        (record { steps = []; filter = [] }) table_bound w.src s' ≡ Ok (record { steps = Inner t.tree ∷ []; filter = [] }, s')
    unfolding body.join body.shared body.inner_join body.tests
    is_joined x under s' = rw (under, is, w.left, w.on)

    are_joined : (x : Context) → x.schema ≡ schema → (s' : State)
        → body.joins lower x (table_bound ∷ []) (w.src ∷ []) s' ≡ Ok (record { steps = Inner t.tree ∷ []; filter = [] }, s')
    unfolding body.joins
    are_joined x under s' = rw (w.on, w.using, is_joined x under s')

    module _ (c₁ : IsColumn t n₁) (c₂ : IsColumn t n₂) (c₃ : IsColumn t n₃) where
      abbrev all : List Output
      all = output n₁ c₁ ∷ output n₂ c₂ ∷ output n₃ c₃ ∷ []

      abbrev after : State
      after = state_with 99997 (carried n₃ c₃)

      are_shown : body.outputs lower showing (table_bound ∷ []) (w.s₁ ∷ w.s₂ ∷ w.s₃ ∷ []) (state_with max_budget nothing) ≡ Ok (all, after)
      unfolding body.outputs
      are_shown =
          rw (
            is_shown n₁ c₁ w.s₁ w.w₁ max_budget refl nothing [],
            is_shown n₂ c₂ w.s₂ w.w₂ 99999 refl (carried n₁ c₁) (output n₁ c₁
                ∷ []),
            is_shown n₃ c₃ w.s₃ w.w₃ 99998 refl (carried n₂ c₂) (output n₁ c₁ ∷ output n₂ c₂ ∷ []),
          )

      is_result : body.result lower (outermost schema) tables_level w.core (state_with max_budget nothing) ≡ Ok (all, after)
      unfolding body.result
      is_result = rw (w.shown, are_shown)

      abbrev shown_level : Level
      shown_level = record { tables = table_bound ∷ []; shown = all }

      is_matching : body.matching lower (outermost schema) shown_level w.core after ≡ Ok (record { steps = Inner t.tree ∷ []; filter = [] }, after)
      unfolding body.matching body.tests
      is_matching = rw (w.froms, w.filter, are_joined (body.within (outermost schema) shown_level false) refl after)

      is_body : body.body lower (outermost schema) w.core (fresh 1 max_budget)
          ≡ Ok (record { level = shown_level; steps = Inner t.tree ∷ []; filter = [] }, after)
      unfolding body.body
      is_body = rw (w.froms, are_bound, is_result, is_matching)

      abbrev clauses : Clauses
      clauses =
          record {
            body = record { level = shown_level; steps = Inner t.tree ∷ []; filter = [] };
            is_grouped = false;
            keys = [];
            collations = [];
            having = [];
            order = [];
          }

      are_parts : parts schema w.core [] (fresh 1 max_budget) ≡ Ok (clauses, after)
      unfolding parts Rattle.sqlite_resolve.specs.Order.keys Rattle.sqlite_resolve.specs.Order.sorts Rattle.sqlite_resolve.specs.Select.having
          body.tests
      are_parts = rw (w.group, w.having, is_body)

      abbrev page : Term × Term
      page = (lit (Int (negsuc 0)), number 0)

      abbrev pub draft : Draft
      draft = record {
        from = inner t.tree end;
        filter = [];
        group = None;
        project = term n₁ c₁ ∷ term n₂ c₂ ∷ term n₃ c₃ ∷ [];
        distinct = false;
        collations = [];
        order = [];
        limit = lit (Int (negsuc 0));
        offset = lit (Int (pos 0));
      }

      abbrev pub headings : List Name
      headings = c₁.column.name ∷ c₂.column.name ∷ c₃.column.name ∷ []

      abbrev shown_so : program.Shown
      shown_so = (draft, headings, (carried n₁ c₁).collation ∷ (carried n₂ c₂).collation ∷ (carried n₃ c₃).collation ∷ [])

      is_drafted : named schema w.core [] page ≡ Ok shown_so
      unfolding named assembled ungrouped
      is_drafted = rw (are_parts, w.distinct)

      is_paged : paging schema s ≡ Ok page
      unfolding paging constant_or
      is_paged = rw (w.limit, w.offset)

      sources_named : program.are_named (out-Core w.core).from ≡ true
      sources_named = rw (w.froms, w.from)

      is_single : (deeper : Schema → Select → program.Building program.Shown)
          → program.single deeper schema w.core [] page [] ≡ Ok ((shown_so, schema), [])
      is_single deeper = single_named deeper schema w.core [] page [] sources_named ∙ rw is_drafted

      is_whole : (deeper : Schema → Select → program.Building program.Shown) → program.whole deeper schema s [] ≡ Ok (shown_so, [])
      unfolding program.whole program.alone
      is_whole deeper = rw (is_paged, w.others, w.first_is, w.order, is_single deeper)

      is_queried : query schema s ≡ Ok (shown_so, [])
      unfolding query query_to program.level program.with
      is_queried = rw (w.with, is_whole (query_to 15))

      abbrev pub body_of : Program
      body_of = record { lets = []; body = query_of draft }

      -- it is read where its types fit, and else refused
      pub is_read : (b : Bool) → accepts_program schema [] (query_of draft) [] ≡ b
          → compile.read schema s ≡ cond b (Ok (command.Select body_of headings)) (Err Mismatch)
      unfolding compile.read program.program
      is_read true accepted = rw (is_queried, accepted)
      is_read false refused = rw (is_queried, refused)
