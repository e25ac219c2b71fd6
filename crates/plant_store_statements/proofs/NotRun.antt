-- What a statement leaves that was not run.
use Rattle.std.proofs.Common.{◌≡◌, inl, inr, IsTrue, List, ℕ, sym, ◌∙◌}
use Rattle.sqlite_value.specs.Order.{Row}
use Rattle.sqlite.specs.{State.{HasCause, IsNotRun, State, store_error}, declared.error.Error.{Error, TheVariants.{SqliteFailure}}}
use Rattle.sqlite.specs.declared.error.ErrorCode.TheVariants as code
use Rattle.sqlite_trees.specs.declared.error.StoreError.{StoreError, TheVariants.{Broken, Corrupt, Full, Io, OutOfMemory, Unstorable}}

-- outside a transaction the database is as it was, and the store was open if it is
pub left_alone : (old new : State) → (IsTrue old.is_open → old.now ≡ old.committed) → (sql : List ℕ) (params : Row) (e : Error)
    → IsNotRun old new sql params e → IsTrue new.is_open
    → (new.now ≡ old.now) × IsTrue old.is_open
unfolding IsNotRun
left_alone old new settled sql params e (inl h) up = (h.1.0.now_is, h.1.0.was_open)
left_alone old new settled sql params e (inr h) up =
    let back = h.3 in
    let was = back.was_open up in
    ((back.undone up).0 ∙ sym (settled was), was)

-- the error Closed occurs only if the store is closed
broken : (old new : State) (cause : StoreError) → SqliteFailure code.Closed ≡ store_error cause → HasCause old new ⊥ cause → IsTrue old.is_open → ⊥
broken old new OutOfMemory e h up = cc
broken old new Io e h up = cc
broken old new Corrupt e h up = cc
broken old new Full e h up = cc
broken old new Broken e h up = cc
broken old new Unstorable e h up = cc

pub never_open : (old new : State) (sql : List ℕ) (params : Row) → IsNotRun old new sql params (SqliteFailure code.Closed) → IsTrue new.is_open → ⊥
unfolding IsNotRun
never_open old new sql params (inl (inl (fault, is, e), same)) up = cc
never_open old new sql params (inl (inr (c, is, inl (long, e)), same)) up = cc
never_open old new sql params (inl (inr (c, is, inr (inl (given, e))), same)) up = cc
never_open old new sql params (inl (inr (c, is, inr (inr (clock, e))), same)) up = cc
never_open old new sql params (inr h) up = broken old new h.0 h.1 h.2 (h.3.was_open up)
