use Rattle.std.proofs.Common.{sym, ◌∙◌}
use Rattle.tape.proofs.Parts.{fitting_parts, whole_sound}
use Rattle.tape.proofs.rules.verdict.Goals as goal

pub returns-then-are_lanes_sound : goal.returns-then-are_lanes_sound
returns-then-are_lanes_sound c =
    let f = fitting_parts c.args.head _ _ (sym c.fits.ensures ∙ c.if-not-fits.false) in
    whole_sound c.args.head c.args.places.now c.args.lanes.now f.places_there f.lanes_there f.some_place f.few_places f.few_lanes
    (c.are_places_sound.ensures.0 c.if-are_places_sound.true) (c.are_lanes_sound.ensures.0 c.if-are_lanes_sound.true)
