use Rattle.loaded_sites.proofs.Meanings.{floors_mean_their_files, tapes_mean_their_files}
use Rattle.loaded_sites.proofs.loaded_sites_are_what_their_files_describe.Goals as goal

pub returns : goal.returns
returns c = record { floors = floors_mean_their_files; tapes = tapes_mean_their_files }
