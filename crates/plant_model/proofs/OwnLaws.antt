-- Each unit's history is its own: opened by the administrator, with values of their sets.
use Rattle.std.specs.FinMap.{get, get-empty, get-insert}
use Rattle.std.proofs.Common.{List, None, Option, Some, [], cond, false, not, refl, subst, sym, true, Bool, ◌∙◌, ◌∷◌, ◌≡◌, if◌then◌else◌, is_some, unwrap_or}
use Rattle.std.proofs.lemmas.Bool.{and_parts}
use Rattle.plant_model.specs.Openings.{HasItsHistories, HistoriesAreOwn, IsEntryOf, IsHistoryOf, has_values}
use Rattle.plant_model.specs.Verdicts.{changes_history, is_opening, verdict}
use Rattle.plant_model.specs.Worlds.{World, answer_at, by_admin, history, next_at, opening, unit_answer, unit_named, with_call}
use Rattle.plant_model.{specs.declared.call.Call.{Call}, proofs.public.{LegalLaws.{first_entry, later_entry}, WorldLaws.{opening_changes}}}
use Rattle.plant_types.{specs.Names.{Name, name_cmp, same_name}, proofs.public.{KeyedRowLaws.{tied}, Orders.{name_total, same_names}}}

follow : (admin u : Name) (h : List Call) (c : Call) → IsHistoryOf admin u h → IsEntryOf u c → not (is_opening c.request) ≡ true
    → IsHistoryOf admin u (c ∷ h)
follow admin u [] c own entry plain = absurd own
follow admin u (d ∷ before) c own entry plain = (entry, plain, own)

-- an opening that is accepted is the administrator's
opened_by : (admin taken opens : Bool) (c : Call) → is_opening c.request ≡ opens → opens ≡ true
    → changes_history (if opens then opening admin taken else verdict [] c) c ≡ true → admin ≡ true
opened_by admin taken true c is opens e = (opening_changes admin taken c e).0
opened_by admin taken false c is opens e = cc

module _ (w : World) (c : Call) (u : Name) (own : HasItsHistories w) (entry : IsEntryOf u c) where
  entered : (o : Option (List Call)) → get w.units u ≡ o → changes_history (unit_answer (by_admin w c) (is_some o) (unwrap_or o []) c) c ≡ true
      → IsHistoryOf w.admin u (c ∷ unwrap_or o [])
  entered None is changing =
      let opens : is_opening c.request ≡ true = first_entry (by_admin w c) false (is_opening c.request) c refl changing in
      (entry, opens, same_names c.person w.admin (tied _ true (opened_by (by_admin w c) false (is_opening c.request) c refl opens changing) refl))
  entered (Some h) is changing =
      follow w.admin u h c (own u h is) entry (and_parts _ _ (later_entry (by_admin w c) (is_opening c.request) h c refl changing)).0

  at_code : (q : Name) (h : List Call) (b : Bool) → same_name q u ≡ b → IsHistoryOf w.admin u (c ∷ history w u)
      → cond b (Some (c ∷ history w u)) (get w.units q) ≡ Some h → IsHistoryOf w.admin q h
  at_code q h true same now is =
      subst (IsHistoryOf w.admin q) (let it : c ∷ history w u ≡ h = cc in it)
      (subst (λ (x : Name). IsHistoryOf w.admin x (c ∷ history w u)) (sym (same_names q u (tied _ true same refl))) now)
  at_code q h false other now is = own q h is

  next_own : HasItsHistories (next_at w c (Some u))
  next_own =
      elim (changes_history (answer_at w c (Some u)) c) as (λ b. changes_history (answer_at w c (Some u)) c ≡ b
      → HasItsHistories (if b then with_call w c u else w)) [
        | true ↦ λ changing q h is. at_code q h (same_name q u) refl (entered (get w.units u) refl changing)
            (sym (get-insert name_total w.units u (c ∷ history w u) q) ∙ is)
        | false ↦ λ _. own
      ] refl

pub histories_are_own : HistoriesAreOwn
histories_are_own =
    record {
      at_first = λ admin u h is. absurd (let no : None ≡ Some h = sym (get-empty name_cmp u) ∙ is in cc);
      afterwards = λ w c own values. after w c own values (unit_named c.request) refl;
    } where
      after : (w : World) (c : Call) → HasItsHistories w → has_values c.request ≡ true → (o : Option Name) → unit_named c.request ≡ o
          → HasItsHistories (next_at w c o)
      after w c own values None is = own
      after w c own values (Some u) is = next_own w c u own (record { own = is; values = values })
