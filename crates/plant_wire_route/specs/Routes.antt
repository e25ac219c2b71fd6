-- Which route a method and a target select: a definition over the bytes. `insert` puts a path into the rows of a router
-- as matchit does, and `first` is matchit's search.
use Rattle.std.specs.List.{list_all}
use Rattle.std.specs.Prelude.{ℕ, List, [], ◌∷◌, codes, Result, Ok, Err, Option, None, option_map, Bool, ◌&&◌, ◌||◌, not, nat_le, ◌==◌, if◌then◌else◌, slice_index, bytes_eq}
use Rattle.matchit.specs.{Order.{placed}, Route.{Scan, parse_route}, Router.{RouteOf, route_from}, Rows.{RowsOf}, Seek.{first}}
use Rattle.matchit.specs.declared.error.InsertError.{InsertError}
use Rattle.plant_model.specs.declared.kinds.CallKind.{CallKind}
use Rattle.plant_model.specs.declared.kinds.CallKind.TheVariants.{OpenUnit, Grant, Withdraw, Register, Import, TimedShelve, OneShotShelve, Unshelve, RemoveFromService, PlaceInService, Propose, WithdrawChange, Approve, Reject, Status, RecordOf, ChangeOf, Alarms, Shelves, Standing, Floods, MyUnits, MyShelves}

abbrev pub Rows : Type 0
Rows = RowsOf (RouteOf CallKind)

-- the rows with one more route
abbrev pub with_route : Result Scan InsertError → CallKind → Rows → Rows
with_route (Ok s) value rows = placed (s.pattern, route_from s value) rows
with_route (Err e) value rows = rows

abbrev pub insert : Rows → List ℕ → CallKind → Rows
insert rows path value = with_route (parse_route path) value rows

-- the rows with more routes, each with its path, put in one after another
abbrev pub with_routes : List (List ℕ × CallKind) → Rows → Rows
with_routes [] rows = rows
with_routes (r ∷ rs) rows = with_routes rs (insert rows r.0 r.1)

-- POST: a unit, its grants, its alarms and its events
unfoldable pub unit_posts : List (List ℕ × CallKind)
unit_posts =
    (codes "/units/{unit}", OpenUnit)
    ∷ (codes "/units/{unit}/grants", Grant)
    ∷ (codes "/units/{unit}/withdrawals", Withdraw)
    ∷ (codes "/units/{unit}/alarms", Register)
    ∷ (codes "/units/{unit}/imports", Import)
    ∷ []

-- POST: an alarm's shelf
unfoldable pub alarm_posts : List (List ℕ × CallKind)
alarm_posts =
    (codes "/units/{unit}/alarms/{tag}/timed-shelve", TimedShelve)
    ∷ (codes "/units/{unit}/alarms/{tag}/one-shot-shelve", OneShotShelve)
    ∷ (codes "/units/{unit}/alarms/{tag}/unshelve", Unshelve)
    ∷ []

-- POST: an alarm's service
unfoldable pub service_posts : List (List ℕ × CallKind)
service_posts =
    (codes "/units/{unit}/alarms/{tag}/remove-from-service", RemoveFromService)
    ∷ (codes "/units/{unit}/alarms/{tag}/place-in-service", PlaceInService)
    ∷ []

-- POST: a change, and the decisions on it
unfoldable pub change_posts : List (List ℕ × CallKind)
change_posts =
    (codes "/units/{unit}/changes", Propose)
    ∷ (codes "/units/{unit}/changes/{n}/withdraw", WithdrawChange)
    ∷ (codes "/units/{unit}/changes/{n}/approve", Approve)
    ∷ (codes "/units/{unit}/changes/{n}/reject", Reject)
    ∷ []

-- GET: an alarm, its record, and a change
unfoldable pub alarm_gets : List (List ℕ × CallKind)
alarm_gets =
    (codes "/units/{unit}/alarms/{tag}", Status)
    ∷ (codes "/units/{unit}/alarms/{tag}/record", RecordOf)
    ∷ (codes "/units/{unit}/changes/{n}", ChangeOf)
    ∷ []

-- GET: the lists of a unit
unfoldable pub unit_gets : List (List ℕ × CallKind)
unit_gets =
    (codes "/units/{unit}/alarms", Alarms)
    ∷ (codes "/units/{unit}/shelves", Shelves)
    ∷ (codes "/units/{unit}/standing", Standing)
    ∷ (codes "/units/{unit}/floods/{begin}/{until}", Floods)
    ∷ []

-- GET: the caller's units, and their shelves
unfoldable pub own_gets : List (List ℕ × CallKind)
own_gets =
    (codes "/units", MyUnits)
    ∷ (codes "/shelves", MyShelves)
    ∷ []

-- the routes of POST
unfoldable pub post_rows : Rows
post_rows = with_routes change_posts (with_routes service_posts (with_routes alarm_posts (with_routes unit_posts [])))

-- the routes of GET
unfoldable pub get_rows : Rows
get_rows = with_routes own_gets (with_routes unit_gets (with_routes alarm_gets []))

abbrev pub route_in : Rows → List ℕ → Option CallKind
route_in rows path = option_map (λ found. found.value) (first rows path)

-- a byte of a target that may have a route: none above 126, no question mark and no number sign
abbrev pub is_path_byte : ℕ → Bool
is_path_byte b = nat_le b 126 && not (b == 63 || b == 35)

abbrev pub is_path : List ℕ → Bool
is_path target = slice_index target 0 == 47 && list_all is_path_byte target

-- the route of a method and a target
abbrev pub route_of : List ℕ → List ℕ → Option CallKind
route_of method target =
    if is_path target
    then (if bytes_eq method (codes "POST") then
    route_in post_rows target else (if bytes_eq method (codes "GET") then route_in get_rows target else None))
    else None
