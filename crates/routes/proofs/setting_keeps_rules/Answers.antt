use Rattle.routes.proofs.Settings.{set_lawful}
use Rattle.routes.proofs.setting_keeps_rules.Goals as goal

pub returns : goal.returns
returns g c = λ m lawful f x ok. set_lawful g.met.C.Cost.lawful m f x ok lawful
