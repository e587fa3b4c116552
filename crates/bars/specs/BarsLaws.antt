-- Bars keep the rules of sites, since they close segments and change no way. Assumes nothing.
use Rattle.std.specs.Prelude.{◌≡◌, ℕ, Bool, true, false, cond, List}
use Rattle.cost.specs.Costs.{Kind}
use Rattle.cost.specs.declared.lengths.Length.{Length}
use Rattle.cost.specs.declared.lengths.Length.TheVariants.{Finite, Infinite}
use Rattle.routes.specs.Sites.{Meaning, Lawful}
use Rattle.site.specs.Directories.{Directory, Indexed}
use Rattle.bars.specs.Barred.{among, barred_site}

-- a segment that has a cost, barred where b says so, is not barred
unbarred_cost : {C : Type 0} (b : Bool) (s : Length C) (c : C) → cond b Infinite s ≡ Finite c → s ≡ Finite c
unbarred_cost true s c h = cc
unbarred_cost false s c h = h

pub bars_lawful : {C : Type 0} {K : Kind C} {m : Meaning C} (bars : List ℕ) → Lawful K m → Lawful K (barred_site m bars)
bars_lawful {K = K} {m = m} bars l = record {
  places_some = l.places_some;
  places_few = l.places_few;
  segments_few = l.segments_few;
  ways_few = l.ways_few;
  way_place = l.way_place;
  way_segment = l.way_segment;
  floor_segment = l.floor_segment;
  state_segment = λ f c h o. l.state_segment f c h (unbarred_cost (among bars f) (m.state f) c o);
  state_floor = λ f c h o. l.state_floor f c h (unbarred_cost (among bars f) (m.state f) c o);
  hint_within = l.hint_within;
  hint_self = l.hint_self;
  hint_way = l.hint_way;
}

-- the ways are those below, so the directory below serves
pub bars_indexed : {C : Type 0} {m : Meaning C} {d : Directory} (bars : List ℕ) → Indexed m d → Indexed (barred_site m bars) d
bars_indexed bars i = record {
  sources_few = i.sources_few;
  users_few = i.users_few;
  sources_places = i.sources_places;
  users_places = i.users_places;
  source_found = i.source_found;
  user_found = i.user_found;
}
