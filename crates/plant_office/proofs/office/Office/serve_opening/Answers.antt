use Rattle.std.proofs.Common.{Err, OnOk, Result, refl, subst, sym, ◌∙◌}
use Rattle.plant_books.specs.{Books.{CountsBy, KeepsOnErr, Makes}, Contents.{after_changes}}
use Rattle.plant_model.proofs.public.LegalLaws.{next_legal}
use Rattle.plant_model.specs.declared.reply.{Refused.{Refused}, Reply.{Reply}}
use Rattle.plant_unit.specs.Judged.{IsOpening}
use Rattle.plant_office.specs.Serves.{Serves}
use Rattle.plant_office.proofs.Serving.{accepted_opening, by_outcome, holds_opened, known_opening, leaves, opening_changes, opening_of, refused_opening, serves_changing, serves_fault, serves_same}
use Rattle.plant_types.specs.declared.fault.Fault.{Fault}
use Rattle.plant_office.proofs.office.Office.serve_opening.Goals as goal

pub returns-in-Refused : goal.returns-in-Refused
returns-in-Refused g c =
    let call = c.args.call.now in
    let u = c.args.unit.now in
    record {
      serves = serves_same (λ m k w legal h honest.
          let mid = c.in_ok-taken.ensures.unchanged.same m k in
          let v = opening_of m w call u _ _ _ h (c.administrator.ensures m mid) (c.in_ok-taken.ensures.found m k honest)
          (subst (IsOpening _ _ _) c.in-Refused.is c.in_ok-refused.ensures.value) in
          leaves w call _ m (g.B.Books.represents c.taken.new.self) legal c.note_matrix.ensures
          (refused_opening m w call u c.in-Refused.refused h c.requires.named c.requires.opening v) mid)
          c.in_ok-taken.ensures.unchanged tt;
    }

pub returns-in-Accepted : goal.returns-in-Accepted
returns-in-Accepted g c =
    let call = c.args.call.now in
    let u = c.args.unit.now in
    let first = c.args.self.now.books in
    let mid = c.taken.new.self in
    let last = c.carry_out.new.self in
    record {
      serves = subst (λ (said : Result (Result Reply Refused) Fault). Serves g.B.Books call said first last) (sym c.reply_if_made.ensures)
          (by_outcome c.carry_out.result c.in-Accepted.reply (λ said. Serves g.B.Books call said first last)
          (λ made. Makes g.B.Books.represents mid last u c.in-Accepted.changes made × KeepsOnErr g.B.Books.represents mid last made
          × CountsBy g.B.Books.stores mid last made × OnOk made (g.B.Books.is_clean last → g.B.Books.is_honest last))
          (c.carry_out.ensures.made, c.carry_out.ensures.unchanged, c.carry_out.ensures.count, c.carry_out.ensures.kept)
          (λ _ it. serves_changing (λ m k w legal h honest.
          let told = c.in_ok-taken.ensures.unchanged.same m k in
          let early = c.carry_out.ensures.honest honest in
          let v = opening_of m w call u _ _ _ h (c.administrator.ensures m told) (c.in_ok-taken.ensures.found m k early)
          (subst (IsOpening _ _ _) c.in-Accepted.is c.in_ok-refused.ensures.value) in
          leaves w call _ (after_changes m u c.in-Accepted.changes)
          (g.B.Books.represents last) legal c.note_matrix.ensures
          (accepted_opening m w call u c.in-Accepted.reply _ h c.requires.named c.requires.opening v)
          (it.0 m told (known_opening m w call u c.in-Accepted.reply _ v)))
          (λ honest. c.in_ok-taken.ensures.unchanged.honest (c.carry_out.ensures.honest honest)) (opening_changes call.request c.requires.opening)
          (it.2 ∙ c.in_ok-taken.ensures.unchanged.count)
          (record {
            read = c.in_ok-taken.ensures.unchanged.crash;
            same = c.in_ok-taken.ensures.unchanged.same;
            writes = c.carry_out.ensures.crash;
            known = λ m k w legal h honest.
                let v = opening_of m w call u _ _ _ h (c.administrator.ensures m (c.in_ok-taken.ensures.unchanged.same m k)) (c.in_ok-taken.ensures.found m k honest)
                (subst (IsOpening _ _ _) c.in-Accepted.is c.in_ok-refused.ensures.value) in
                known_opening m w call u c.in-Accepted.reply _ v;
            meant = λ m k w legal h honest.
                let v = opening_of m w call u _ _ _ h (c.administrator.ensures m (c.in_ok-taken.ensures.unchanged.same m k)) (c.in_ok-taken.ensures.found m k honest)
                (subst (IsOpening _ _ _) c.in-Accepted.is c.in_ok-refused.ensures.value) in
                holds_opened m w call u c.in-Accepted.reply _ legal h c.note_matrix.ensures c.requires.named c.requires.opening v;
            legal = λ w legal. next_legal w call legal c.note_matrix.ensures;
          }) it.3)
          (λ e it. serves_fault (Err e) e refl (λ honest. c.in_ok-taken.ensures.unchanged.honest (c.carry_out.ensures.honest honest))
          (λ m k. it.1 m (c.in_ok-taken.ensures.unchanged.same m k)) c.in_ok-taken.ensures.unchanged.count it.2
          (record {
            read = c.in_ok-taken.ensures.unchanged.crash;
            same = c.in_ok-taken.ensures.unchanged.same;
            writes = c.carry_out.ensures.crash;
            known = λ m k w legal h honest.
                let v = opening_of m w call u _ _ _ h (c.administrator.ensures m (c.in_ok-taken.ensures.unchanged.same m k)) (c.in_ok-taken.ensures.found m k honest)
                (subst (IsOpening _ _ _) c.in-Accepted.is c.in_ok-refused.ensures.value) in
                known_opening m w call u c.in-Accepted.reply _ v;
            meant = λ m k w legal h honest.
                let v = opening_of m w call u _ _ _ h (c.administrator.ensures m (c.in_ok-taken.ensures.unchanged.same m k)) (c.in_ok-taken.ensures.found m k honest)
                (subst (IsOpening _ _ _) c.in-Accepted.is c.in_ok-refused.ensures.value) in
                holds_opened m w call u c.in-Accepted.reply _ legal h c.note_matrix.ensures c.requires.named c.requires.opening v;
            legal = λ w legal. next_legal w call legal c.note_matrix.ensures;
          })));
    }
