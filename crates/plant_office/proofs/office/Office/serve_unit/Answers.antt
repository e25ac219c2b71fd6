use Rattle.plant_office.proofs.office.Office.serve_unit.Goals as goal

pub returns : goal.returns
returns g c = record {
  serves = c.serve_part.ensures.serves c.args.self.now.books (record {
    found = c.in_ok-part.ensures.found;
    unchanged = c.in_ok-part.ensures.unchanged;
  });
}
