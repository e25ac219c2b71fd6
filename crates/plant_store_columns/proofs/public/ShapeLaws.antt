-- The shape of each table is a shape, and the schema lists each.
use Rattle.std.specs.{Cmp.Lexicographic.{nat_list_cmp_total}, Ordering.{ordering_then}}
use Rattle.std.proofs.Common.{◌≡◌, ℕ, pos, Bool, true, false, ◌&&◌, ◌||◌, List, [], ◌∷◌, Option, None, Some, cond, find, nat_eq, unwrap_or, refl, ap₂}
use Rattle.std.proofs.Common.{sym, ◌∙◌, nat_cmp, Ordering, Equal}
use Rattle.std.proofs.lemmas.Cmp.{nat_cmp_total}
use Rattle.sqlite.specs.{Cast.{cast}, Collation.TheVariants.{Binary}, Kind.TheVariants.{Integer, Text as TextKind}, Tree.{rowid}}
use Rattle.sqlite_rules.specs.Keys.{conflicts}
use Rattle.sqlite_schema.specs.Rules.{equal, agree}
use Rattle.sqlite_sql.specs.Ops.{unary}
use Rattle.sqlite_value.specs.{Keys.{plain, first_key}, Order.{Row, value_cmp}, declared.value.Value.{Value, TheVariants.{Text}}}
use Rattle.sqlite_value.proofs.OrderLemmas.{value_cmp-Int, value_cmp-Text, then-Equal}
use Rattle.plant_alarm.specs.declared.{event.EventKind.{EventKind, TheVariants.{Act}}, summary.AlarmState.{AlarmState, TheVariants.{Normal}}}
use Rattle.plant_ration.specs.declared.{cell.Cell.{Cell, TheVariants.{N}}, change.ChangeState.{ChangeState, TheVariants.{Proposed}}}
use Rattle.plant_types.{specs.{Roles.{role_no}, declared.role.Role.{Role, TheVariants.{Viewer}}}, proofs.public.Orders.{pair_total}}
use Rattle.plant_model.specs.declared.rows.ChangeTopic.{ChangeTopic, TheVariants.{Record as RecordTopic}}
use Rattle.plant_model.proofs.public.PlaceOrders.{band_total, cell_total}
use Rattle.plant_import.specs.Merging.{kind_no}
use Rattle.plant_store_columns.specs.Codes.{cell_no, cell_numbered, decision_no, decision_numbered, flag, flag_in, kind_numbered, number, open_number, open_number_in, open_text, open_text_in, role_numbered, state_no, state_numbered, topic_no, topic_numbered}
use Rattle.plant_store_columns.specs.Shape.{table_in}
use Rattle.plant_store_columns.specs.declared.tables.TableKind.{TableKind, TheVariants.{Units, Grants, Alarms, Shelves, Bands, Cells, Events, Records, Changes}}
use Rattle.plant_store_columns.specs.Tables.{RowOf, KeyOf, all_tables, books_schema, shape, unit_shape}
use Rattle.plant_store_columns.proofs.public.{Bridge.{int_cmp-pos}, Family.{AreListed}, Laws.{cast_int, cast_null}, Shapes.{IsListed, IsShape}}

-- ---- what is written is read back

pub role_back : (r : Role) → role_numbered (role_no r) ≡ r
role_back Viewer = refl
role_back r = refl

pub state_back : (s : AlarmState) → state_numbered (state_no s) ≡ s
state_back Normal = refl
state_back s = refl

pub kind_back : (k : EventKind) → kind_numbered (kind_no k) ≡ k
kind_back Act = refl
kind_back k = refl

pub topic_back : (t : ChangeTopic) → topic_numbered (topic_no t) ≡ t
topic_back RecordTopic = refl
topic_back t = refl

pub decision_back : (s : ChangeState) → decision_numbered (decision_no s) ≡ s
decision_back Proposed = refl
decision_back s = refl

pub cell_back : (c : Cell) → cell_numbered (cell_no c) ≡ c
cell_back N = refl
cell_back c = refl

pub flag_back : (b : Bool) → flag_in (flag b) ≡ b
flag_back true = refl
flag_back false = refl

pub open_number_back : (o : Option ℕ) → open_number_in (open_number o) ≡ o
open_number_back None = refl
open_number_back (Some n) = refl

pub open_text_back : (o : Option (List ℕ)) → open_text_in (open_text o) ≡ o
open_text_back None = refl
open_text_back (Some t) = refl

-- ---- no cell is cast

pub cast_number : (n : ℕ) → cast Integer (number n) ≡ number n
cast_number n = cast_int (pos n)

cast_open_number : (o : Option ℕ) → cast Integer (open_number o) ≡ open_number o
cast_open_number None = cast_null
cast_open_number (Some n) = cast_int (pos n)

cast_open_text : (o : Option (List ℕ)) → cast TextKind (open_text o) ≡ open_text o
unfolding unary
cast_open_text None = refl
cast_open_text (Some t) = refl

-- ---- the order of values is that of what they hold

pub numbers : (m n : ℕ) → value_cmp (number m) (number n) ≡ nat_cmp m n
numbers m n = value_cmp-Int (pos m) (pos n) ∙ int_cmp-pos m n

pub one : {a b : Ordering} → a ≡ b → ordering_then a Equal ≡ b
one {a} {b} h = then-Equal a ∙ h

-- ---- table by table

pub good : (i : TableKind) → IsShape (shape i)
good Units = record {
  total = nat_cmp_total;
  back = λ id u x. refl;
  agrees = λ id jd u v x y. refl;
  keyed = λ id u x. (refl, tt);
  fits = λ u x i. Text u ∷ cast_number x.last_s i ∷ cast_number x.matrix_no i ∷ cast_number x.matrix_rev i ∷ cast_number x.quota i ∷ [];
}
good Grants = record {
  total = pair_total;
  back = λ id u x i. record { person = x.person; role_no = role_back x.role_no i; end_s = open_number_back x.end_s i };
  agrees = λ id jd u v x y. sym (ap₂ ordering_then (value_cmp-Text x.person y.person) (one (numbers (role_no x.role_no) (role_no y.role_no))));
  keyed = λ id u x. (refl, (refl, (refl, tt)));
  fits = λ u x i. Text u ∷ Text x.person ∷ cast_number (role_no x.role_no) i ∷ cast_open_number x.end_s i ∷ [];
}
good Alarms = record {
  total = nat_list_cmp_total;
  back = λ id u x i. record {
    tag = x.tag;
    latching = flag_back x.latching i;
    max_s = x.max_s;
    max_rev = x.max_rev;
    state_no = state_back x.state_no i;
    suppressed = flag_back x.suppressed i;
    active_s = open_number_back x.active_s i;
    return_s = open_number_back x.return_s i;
    out_s = open_number_back x.out_s i;
    out_by = open_text_back x.out_by i;
    out_words = open_text_back x.out_words i;
  };
  agrees = λ id jd u v x y. sym (one (value_cmp-Text x.tag y.tag));
  keyed = λ id u x. (refl, (refl, tt));
  fits = λ u x i. Text u ∷ Text x.tag ∷ cast_int (pos (cond x.latching 1 0)) i ∷ cast_number x.max_s i ∷ cast_number x.max_rev i
      ∷ cast_number (state_no x.state_no) i ∷ cast_int (pos (cond x.suppressed 1 0)) i
      ∷ cast_open_number x.active_s i ∷ cast_open_number x.return_s i ∷ cast_open_number x.out_s i ∷ cast_open_text x.out_by i
      ∷ cast_open_text x.out_words i ∷ [];
}
good Shelves = record {
  total = nat_list_cmp_total;
  back = λ id u x i. record {
    tag = x.tag;
    one_shot = flag_back x.one_shot i;
    start_s = x.start_s;
    until_s = x.until_s;
    person = x.person;
    words = x.words;
  };
  agrees = λ id jd u v x y. sym (one (value_cmp-Text x.tag y.tag));
  keyed = λ id u x. (refl, (refl, tt));
  fits = λ u x i. Text u ∷ Text x.tag ∷ cast_int (pos (cond x.one_shot 1 0)) i ∷ cast_number x.start_s i ∷ cast_number x.until_s i ∷ Text x.person
      ∷ Text x.words ∷ [];
}
good Bands = record {
  total = band_total;
  back = λ id u x. refl;
  agrees = λ id jd u v x y. sym (ap₂ ordering_then (numbers x.matrix_no y.matrix_no) (one (numbers x.band_no y.band_no)));
  keyed = λ id u x. (refl, (refl, (refl, tt)));
  fits = λ u x i. Text u ∷ cast_number x.matrix_no i ∷ cast_number x.band_no i ∷ cast_number x.limit_s i ∷ [];
}
good Cells = record {
  total = cell_total;
  back = λ id u x i. record { matrix_no = x.matrix_no; severity = x.severity; band_no = x.band_no; cell_no = cell_back x.cell_no i };
  agrees = λ id jd u v x y. sym
      (ap₂ ordering_then (numbers x.matrix_no y.matrix_no) (ap₂ ordering_then (numbers x.severity y.severity) (one (numbers x.band_no y.band_no))));
  keyed = λ id u x. (refl, (refl, (refl, (refl, tt))));
  fits = λ u x i. Text u ∷ cast_number x.matrix_no i ∷ cast_number x.severity i ∷ cast_number x.band_no i ∷ cast_number (cell_no x.cell_no) i ∷ [];
}
good Events = record {
  total = nat_cmp_total;
  back = λ id u x i. record { seq = x.seq; moment = x.moment; tag = x.tag; kind = kind_back x.kind i };
  agrees = λ id jd u v x y. sym (one (numbers x.seq y.seq));
  keyed = λ id u x. (refl, (refl, tt));
  fits = λ u x i. Text u ∷ cast_number x.seq i ∷ cast_number x.moment i ∷ Text x.tag ∷ cast_number (kind_no x.kind) i ∷ [];
}
good Records = record {
  total = nat_list_cmp_total;
  back = λ id u x i. record { tag = x.tag; change_no = x.change_no; rev = x.rev; cell_no = cell_back x.cell_no i };
  agrees = λ id jd u v x y. sym (one (value_cmp-Text x.tag y.tag));
  keyed = λ id u x. (refl, (refl, tt));
  fits = λ u x i. Text u ∷ Text x.tag ∷ cast_number x.change_no i ∷ cast_number x.rev i ∷ cast_number (cell_no x.cell_no) i ∷ [];
}
good Changes = record {
  total = nat_cmp_total;
  back = λ id u x i. record {
    number = x.number;
    proposer = x.proposer;
    proposed_s = x.proposed_s;
    kind_no = topic_back x.kind_no i;
    tag = open_text_back x.tag i;
    base = x.base;
    cause = open_text_back x.cause i;
    consequence = open_text_back x.consequence i;
    remedy = open_text_back x.remedy i;
    severity = open_number_back x.severity i;
    response_s = open_number_back x.response_s i;
    max_s = open_number_back x.max_s i;
    state_no = decision_back x.state_no i;
    decider = open_text_back x.decider i;
    decided_s = open_number_back x.decided_s i;
  };
  agrees = λ id jd u v x y. sym (one (numbers x.number y.number));
  keyed = λ id u x. (refl, (refl, tt));
  fits = λ u x i. Text u ∷ cast_number x.number i ∷ Text x.proposer ∷ cast_number x.proposed_s i ∷ cast_number (topic_no x.kind_no) i
      ∷ cast_open_text x.tag i ∷ cast_number x.base i
      ∷ cast_open_text x.cause i ∷ cast_open_text x.consequence i ∷ cast_open_text x.remedy i ∷ cast_open_number x.severity i
      ∷ cast_open_number x.response_s i ∷ cast_open_number x.max_s i
      ∷ cast_number (decision_no x.state_no) i ∷ cast_open_text x.decider i ∷ cast_open_number x.decided_s i ∷ [];
}

-- ---- the schema lists each, and only its key is unique

lone : (e a : Bool) → e ≡ false → ((e && true) || (a || false)) ≡ a
lone e true h = rw h refl
lone e false h = rw h refl

alone : (i : TableKind) (cells r : Row) (id : Value) → equal Binary (rowid r) id ≡ false
    → conflicts None books_schema.indexes (table_in (shape i)) (id ∷ cells) r ≡ agree plain (1 ∷ (shape i).keys) r (1 ∷ (shape i).keys) (id ∷ cells)
unfolding first_key
alone Units cells r id free = lone (equal Binary (rowid r) id) (agree plain (1 ∷ unit_shape.keys) r (1 ∷ unit_shape.keys) (id ∷ cells)) free
alone i cells r id free = lone (equal Binary (rowid r) id) (agree plain (1 ∷ (shape i).keys) r (1 ∷ (shape i).keys) (id ∷ cells)) free

pub listed : (i : TableKind) → IsListed books_schema (shape i)
listed Units = record { at = refl; alone = alone Units }
listed i = record { at = refl; alone = alone i }

which : ℕ → TableKind
which n = unwrap_or (find (λ i. nat_eq n (shape i).tree) all_tables) Changes

placed : (i : TableKind) → which (shape i).tree ≡ i
unfolding which
placed Units = refl
placed i = refl

pub all_listed : AreListed RowOf KeyOf shape books_schema
all_listed = record { which = which; placed = placed; at = λ i. (listed i).at }
