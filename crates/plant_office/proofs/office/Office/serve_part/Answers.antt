use Rattle.std.proofs.Common.{Err, IfSome, OnOk, Option, Result, refl, subst, sym, ◌∙◌, ◌≡◌}
use Rattle.plant_books.specs.{Books.{CountsBy, KeepsOnErr, Makes}, Contents.{after_changes}}
use Rattle.plant_model.proofs.public.LegalLaws.{next_legal}
use Rattle.plant_model.specs.declared.{reply.{Refused.{Refused}, Reply.{Reply}}, rows.{UnitPart.{UnitPart}, UnitRows.{UnitRows}}}
use Rattle.plant_model.specs.steps.RowChanges.{changed_by}
use Rattle.plant_office.specs.Serves.{Serves}
use Rattle.plant_office.proofs.Serving.{by_outcome, changing_call, holds_meant, known_call, leaves, on_history, read_call, refused_call, same_changes, serves_changing, serves_fault, serves_same}
use Rattle.plant_types.specs.declared.fault.Fault.{Fault}
use Rattle.plant_office.proofs.office.Office.serve_part.Goals as goal

pub returns-in-Refused : goal.returns-in-Refused
returns-in-Refused g c =
    let call = c.args.call.now in
    let u = c.args.unit.now in
    record {
      serves = λ before read. serves_same (λ m k w legal h honest.
          let found = read.found m k honest u c.requires.named in
          let v = on_history m w call u _ _ _ _ legal h found refl c.in_ok-refused.ensures.value c.in-Refused.is in
          leaves w call _ m (g.B.Books.represents c.args.self.now.books) legal c.note_matrix.ensures
          (refused_call m w call u c.in-Refused.refused h c.requires.named c.requires.plain v) (read.unchanged.same m k))
          read.unchanged tt;
    }

pub returns-then-is_read : goal.returns-then-is_read
returns-then-is_read g c =
    let call = c.args.call.now in
    let u = c.args.unit.now in
    record {
      serves = λ before read. serves_same (λ m k w legal h honest.
          let found = read.found m k honest u c.requires.named in
          let v = on_history m w call u _ _ _ _ legal h found refl c.in_ok-refused.ensures.value c.in-Accepted.is in
          leaves w call _ m (g.B.Books.represents c.args.self.now.books) legal c.note_matrix.ensures
          (read_call m w call u c.in-Accepted.reply _ h c.requires.named c.requires.plain (sym c.if-is_read.ensures) v) (read.unchanged.same m k))
          read.unchanged (sym c.if-is_read.ensures);
    }

pub returns-else-is_read : goal.returns-else-is_read
returns-else-is_read g c =
    let call = c.args.call.now in
    let u = c.args.unit.now in
    let changes = sym c.if-is_read.ensures in
    let left = c.leave_out_same.new.changes in
    let mid = c.args.self.now.books in
    let last = c.carry_out.new.self in
    let seen = subst (λ (p : Option UnitPart). (rows : UnitRows) → IfSome p (λ part. rows.units ≡ part.rows.units)
    → changed_by left rows ≡ changed_by c.in-Accepted.changes rows) (c.in_ok-refused.ensures.part changes) c.leave_out_same.ensures in
    record {
      serves = λ before read. subst (λ (said : Result (Result Reply Refused) Fault). Serves g.B.Books call said before last) (sym c.reply_if_made.ensures)
          (by_outcome c.carry_out.result c.in-Accepted.reply (λ said. Serves g.B.Books call said before last)
          (λ made. Makes g.B.Books.represents mid last u left made × KeepsOnErr g.B.Books.represents mid last made
          × CountsBy g.B.Books.stores mid last made × OnOk made (g.B.Books.is_clean last → g.B.Books.is_honest last))
          (c.carry_out.ensures.made, c.carry_out.ensures.unchanged, c.carry_out.ensures.count, c.carry_out.ensures.kept)
          (λ _ it. serves_changing (λ m k w legal h honest.
          let found = read.found m k (c.carry_out.ensures.honest honest) u c.requires.named in
          let v = on_history m w call u _ _ _ _ legal h found refl c.in_ok-refused.ensures.value c.in-Accepted.is in
          let known = known_call m w call u c.in-Accepted.reply _ left h changes v in
          let same = same_changes m call u c.args.part.now c.in-Accepted.changes left found seen in
          leaves w call _ (after_changes m u c.in-Accepted.changes)
          (g.B.Books.represents last) legal c.note_matrix.ensures
          (changing_call m w call u c.in-Accepted.reply _ h c.requires.named c.requires.plain changes v)
          (subst (g.B.Books.represents last) same (it.0 m (read.unchanged.same m k) known)))
          (λ honest. read.unchanged.honest (c.carry_out.ensures.honest honest)) changes (it.2 ∙ read.unchanged.count)
          (record {
            read = read.unchanged.crash;
            same = read.unchanged.same;
            writes = c.carry_out.ensures.crash;
            known = λ m k w legal h honest.
                let v = on_history m w call u _ _ _ _ legal h (read.found m k honest u c.requires.named) refl
                c.in_ok-refused.ensures.value c.in-Accepted.is in
                known_call m w call u c.in-Accepted.reply _ left h changes v;
            meant = λ m k w legal h honest.
                let found = read.found m k honest u c.requires.named in
                let v = on_history m w call u _ _ _ _ legal h found refl c.in_ok-refused.ensures.value c.in-Accepted.is in
                holds_meant m w call u c.in-Accepted.reply _ left legal h c.note_matrix.ensures c.requires.named c.requires.plain changes v
                (same_changes m call u c.args.part.now c.in-Accepted.changes left found seen);
            legal = λ w legal. next_legal w call legal c.note_matrix.ensures;
          }) it.3)
          (λ e it. serves_fault (Err e) e refl (λ honest. read.unchanged.honest (c.carry_out.ensures.honest honest))
          (λ m k. it.1 m (read.unchanged.same m k)) read.unchanged.count it.2
          (record {
            read = read.unchanged.crash;
            same = read.unchanged.same;
            writes = c.carry_out.ensures.crash;
            known = λ m k w legal h honest.
                let v = on_history m w call u _ _ _ _ legal h (read.found m k honest u c.requires.named) refl
                c.in_ok-refused.ensures.value c.in-Accepted.is in
                known_call m w call u c.in-Accepted.reply _ left h changes v;
            meant = λ m k w legal h honest.
                let found = read.found m k honest u c.requires.named in
                let v = on_history m w call u _ _ _ _ legal h found refl c.in_ok-refused.ensures.value c.in-Accepted.is in
                holds_meant m w call u c.in-Accepted.reply _ left legal h c.note_matrix.ensures c.requires.named c.requires.plain changes v
                (same_changes m call u c.args.part.now c.in-Accepted.changes left found seen);
            legal = λ w legal. next_legal w call legal c.note_matrix.ensures;
          })));
    }
