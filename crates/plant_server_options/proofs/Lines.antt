-- Lines of the documented form, and others: what is wrong with them, computed on the definitions.
use Rattle.std.proofs.Common.{ℕ, List, [], ◌∷◌, ◌≡◌, refl, codes}
use Rattle.clap.specs.{Faults.{defaults_fault, walk_fault}, Walk.{walked}}
use Rattle.clap.specs.declared.error.kind.ErrorKind.TheVariants.{DisplayHelp, MissingRequiredArgument, UnknownArgument}
use Rattle.plant_server_options.specs.CommandLines.{IsRefusedByClap, faults_at}

abbrev pub root : List (List ℕ)
root = codes "shelfoffice" ∷ codes "--admin" ∷ codes "root" ∷ []

abbrev pub plant : List (List ℕ)
plant = codes "shelfoffice" ∷ codes "--admin" ∷ codes "root" ∷ codes "--db" ∷ codes "plant.db" ∷ codes "--port" ∷ codes "8080"
    ∷ codes "--forever" ∷ []

pub root_is_right : faults_at root ≡ []
unfolding walk_fault walked defaults_fault
root_is_right = refl

pub plant_is_right : faults_at plant ≡ []
unfolding walk_fault walked defaults_fault
plant_is_right = refl

pub help_is_asked : faults_at (codes "shelfoffice" ∷ codes "--help" ∷ []) ≡ DisplayHelp ∷ []
unfolding walk_fault walked defaults_fault
help_is_asked = refl

pub nothing_is_wrong : faults_at (codes "shelfoffice" ∷ []) ≡ MissingRequiredArgument ∷ []
unfolding walk_fault walked defaults_fault
nothing_is_wrong = refl

pub unknown_is_wrong : faults_at (codes "shelfoffice" ∷ codes "--admin" ∷ codes "root" ∷ codes "--vip" ∷ []) ≡ UnknownArgument ∷ []
unfolding walk_fault walked defaults_fault
unknown_is_wrong = refl

-- words with which nothing is wrong are not refused by clap
pub not_refused : (words : List (List ℕ)) (is_error : _) → faults_at words ≡ [] → IsRefusedByClap words is_error → ⊥
not_refused words is_error none it = rw none at it.at
