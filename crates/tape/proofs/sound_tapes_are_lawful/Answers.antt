use Rattle.tape.proofs.Parts.{sound_lawful}
use Rattle.tape.proofs.sound_tapes_are_lawful.Goals as goal

pub returns : goal.returns
returns c = sound_lawful
