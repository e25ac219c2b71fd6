-- If a file is ordered by number, its new rows so far have smaller numbers than each row that follows.
use Rattle.std.{specs.{Borrow.{Bor}, List.{list_all}}, proofs.lemmas.{Bool.{lt-ltb}, List.{append-nil, drop_more}}}
use Rattle.std.proofs.Common.{List, [], ap, drop, get_or, length, refl, subst, sym, ◌++◌, ◌+◌, ◌<◌, ◌∙◌, ◌∷◌, ◌≡◌, ℕ, false, BTreeMap, IsTrue, MatchOption, None, Option, Some, nat_lt, not, true, ◌&&◌}
use Rattle.plant_alarm.specs.declared.event.Event.{Event}
use Rattle.plant_import.specs.declared.relation.Nearest.{Nearest}
use Rattle.plant_import.specs.{Numbers.{AreByNumber, AreNumbered, event_number}, Relation.{AreNearest, IsLast, from}}
use Rattle.plant_import.proofs.{ByNumber.{put_in}, public.EachLaws.{each_from_all, each_weaker, filter_all, filter_none}}
use Rattle.plant_import.proofs.public.Placed.{AllBelow, EachBehind, Rises, behind_end, put_after, rises_of}

-- where all are below a number, the last is the nearest, and there is none from the number on
pub nearest_below : (n : ℕ) (es : List Event) (last : Option (Bor Event)) → list_all (λ e. nat_lt e.seq n) es ≡ true → IsLast es last
    → AreNearest es n (record { below = last; from = None })
nearest_below n es last h is =
    let low = each_from_all (λ e. nat_lt e.seq n) es h in
    let none : from n es ≡ [] =
    filter_none (λ e. not (nat_lt e.seq n)) es (each_weaker (λ e. nat_lt e.seq n ≡ true) (λ e. not (nat_lt e.seq n)
    ≡ false) (λ e t. ap not t) es low) in
    (subst (λ (l : List Event). IsLast l last) (sym (filter_all (λ e. nat_lt e.seq n) es low)) is, rw none refl)

all_told : (n : ℕ) (es : List Event) → AllBelow event_number n es → list_all (λ e. nat_lt e.seq n) es ≡ true
all_told n [] h = refl
all_told n (x ∷ xs) h = ap (λ b. b && list_all (λ e. nat_lt e.seq n) xs) (lt-ltb x.seq n h.0) ∙ all_told n xs h.1

-- the new rows so far are in the tree; or there is none, and they stand below the rows that follow, which rise
abbrev pub StandSo : Option (BTreeMap ℕ Event) → List Event → List Event → List Event → Type 0
StandSo rising new rest seen =
    MatchOption rising ((new ≡ seen) × EachBehind event_number seen rest × Rises event_number rest) (λ m. AreByNumber m seen)

nothing_behind : (rest : List Event) → EachBehind event_number [] rest
nothing_behind [] = tt
nothing_behind (r ∷ rest) = (tt, nothing_behind rest)

pub stand_none : (rising : Option (BTreeMap ℕ Event)) (file : List Event) → MatchOption rising (AreNumbered file) (λ m. AreByNumber m [])
    → StandSo rising [] file []
stand_none None file h = (refl, nothing_behind file, rises_of event_number file h)
stand_none (Some m) file h = h

less_behind : (new file seen : List Event) (i : ℕ) (e : Event) → i < length file → e ≡ get_or file i e → StandSo None new (drop i file) seen
    → StandSo None new (e ∷ drop (i + 1) file) seen
less_behind new file seen i e lt is h =
    subst (λ (l : List Event). StandSo None new l seen) (drop_more file i e lt ∙ ap (λ x. x ∷ drop (i + 1) file) (sym is)) h

-- the nearest of the new rows so far, by the tree or by the list
pub stand_nearest : (rising : Option (BTreeMap ℕ Event)) (new file seen : List Event) (i : ℕ) (e : Event) (nearest : Nearest) → i < length file
    → e ≡ get_or file i e → StandSo rising new (drop i file) seen
    → ((m : BTreeMap ℕ Event) (es : List Event) → rising ≡ Some m → AreByNumber m es → AreNearest es e.seq nearest)
    → (rising ≡ None → IsTrue (list_all (λ x. nat_lt x.seq e.seq) new) → AreNearest new e.seq nearest)
    → AreNearest seen e.seq nearest
stand_nearest (Some m) new file seen i e nearest lt is h tree none = tree m seen refl h
stand_nearest None new file seen i e nearest lt is h tree none =
    let at = less_behind new file seen i e lt is h in
    subst (λ (l : List Event). AreNearest l e.seq nearest) at.0 (none refl (ap (list_all (λ x. nat_lt x.seq e.seq)) at.0
    ∙ all_told e.seq seen at.1.0))

-- a row that isn't new
pub stand_known : (rising : Option (BTreeMap ℕ Event)) (new file seen : List Event) (i : ℕ) (e : Event) → i < length file → e ≡ get_or file i e
    → StandSo rising new (drop i file) seen → StandSo rising new (drop (i + 1) file) seen
stand_known (Some m) new file seen i e lt is h = h
stand_known None new file seen i e lt is h = let at = less_behind new file seen i e lt is h in (at.0, at.1.1, at.2.1)

-- a row that is new
pub stand_new : (old rising : Option (BTreeMap ℕ Event)) (new file seen : List Event) (i : ℕ) (e : Event) → i < length file → e ≡ get_or file i e
    → StandSo old new (drop i file) seen
    → (old ≡ None → rising ≡ None)
    → ((m : BTreeMap ℕ Event) → old ≡ Some m → AreByNumber m seen → MatchOption rising ⊥ (λ m. AreByNumber m (put_in e seen)))
    → StandSo rising (new ++ e ∷ []) (drop (i + 1) file) (put_in e seen)
stand_new None rising new file seen i e lt is h none some =
    let at = less_behind new file seen i e lt is h in
    let end : put_in e seen ≡ seen ++ e ∷ [] = ap (put_in e) (sym (append-nil seen)) ∙ put_after event_number e seen [] at.1.0 in
    subst (λ (o : Option (BTreeMap ℕ Event)). StandSo o (new ++ e ∷ []) (drop (i + 1) file) (put_in e seen)) (sym (none refl))
    (subst (λ (l : List Event). StandSo None (new ++ e ∷ []) (drop (i + 1) file) l) (sym end) (
      ap (λ l. l ++ e
          ∷ []) at.0,
      behind_end event_number e seen (drop (i + 1) file) at.1.0 at.2.0,
      at.2.1,
    ))
stand_new (Some m) rising new file seen i e lt is h none some = by rising (some m refl h)
  where
    by : (o : Option (BTreeMap ℕ Event)) → MatchOption o ⊥ (λ m. AreByNumber m (put_in e seen))
        → StandSo o (new ++ e ∷ []) (drop (i + 1) file) (put_in e seen)
    by None f = absurd f
    by (Some n) f = f
