use Rattle.plant_report.proofs.Written.{only_text}
use Rattle.plant_report.proofs.moments.write.Goals as goal

pub returns : goal.returns
returns c = only_text c.write.result c.args.moment c.write.ensures.read c.write.ensures.only
