use Rattle.plant_import.proofs.public.FileLaws.{files_agree}
use Rattle.plant_import.proofs.laws.files_agree.Goals as goal

pub returns : goal.returns
returns c = files_agree
