-- An `insert` that succeeded put the route into its place.
use Rattle.std.proofs.Common.{◌≡◌, ℕ, List, Result, Ok, Err, OnOk}
use Rattle.matchit.specs.{Route.{Scan, parse_route}, Router.{InsertsRead}, declared.error.InsertError.{InsertError}}
use Rattle.plant_model.specs.declared.kinds.CallKind.{CallKind}
use Rattle.plant_wire_route.specs.Routes.{Rows, with_route, insert}

pub inserted_read : (read : Result Scan InsertError) (value : CallKind) (old new : Rows)
    → InsertsRead read value old new (Ok tt) → new ≡ with_route read value old
inserted_read (Ok s) value old new h = h.1
inserted_read (Err e) value old new h = h.0

pub inserted : (path : List ℕ) (value : CallKind) (old new : Rows) (r : Result (Unit {0}) InsertError)
    → InsertsRead (parse_route path) value old new r → OnOk r (new ≡ insert old path value)
inserted path value old new (Ok u) h = inserted_read (parse_route path) value old new h
inserted path value old new (Err e) h = tt
