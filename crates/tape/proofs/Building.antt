-- Tables that were looked through and noted are the site that the head describes. Assumes nothing.
use Rattle.std.proofs.Common.{◌≡◌, ℕ, ◌<◌, max, nat_lt, List, [], map, length, take, sym, ap, refl, ◌∙◌, arith}
use mathlib.Core.Path.{fun_ext}
use Rattle.std.proofs.Math.Seq.{take-length}
use Rattle.std.specs.List.{range_with_len}
use Rattle.cost.specs.CrossingsFirst.{pair}
use Rattle.tables.specs.Tapes.{is_lane_state, leaving, place_at, lane_at, SoundTape}
use Rattle.tables.specs.declared.tape.TapeHead.{TapeHead}
use Rattle.tables.specs.declared.tape.Place.{Place}
use Rattle.tables.specs.declared.tape.Lane.{Lane}
use Rattle.tape_notes.specs.Noting.{into, below, Ordered, Built}
use Rattle.tape_notes.proofs.Entries.{entries_few, into_all}
use Rattle.tape.specs.TapeSites.{cost_of, length_of, tape_site, SiteOver}
use Rattle.tape.specs.TapeTables.{SoundTables, NotedTables, tables_site}
use Rattle.tape.proofs.Sameness.{SameCourse, same_leaving, same_sound, same_difference}
use Rattle.tape.proofs.Parts.{part_sound, described}

ordered : (ps : List Place) (ls : List Lane) → SoundTables ps ls → Ordered (length ps) ls
ordered ps ls s = record {
  few_places = s.few_places;
  few_lanes = s.few_lanes;
  from_place = λ f h. (s.lanes_sound.each_sound f h).from_place;
  to_place = λ f h. (s.lanes_sound.each_sound f h).to_place;
  in_order = s.lanes_sound.in_order;
}

module _ (ps vs : List Place) (ls xs : List Lane) (s : SoundTables ps ls) (b : Built ps vs ls xs) where
  course : (f : ℕ) → SameCourse (lane_at ls f) (lane_at xs f)
  course f = let k = b.lanes_kept f in record { from_same = k.from_same; to_same = k.to_same; floor_same = k.floor_same }

  built_sound : SoundTables vs xs
  built_sound =
      same_sound ps vs ls xs b.places_long b.lanes_long b.coordinates_kept course
      (λ f h. let k = b.lanes_kept f in (λ i. is_lane_state (k.floor_same i) (k.state_same i)) ∙ (s.lanes_sound.each_sound f h).state_ranged)
      s

  built_noted : NotedTables vs xs
  built_noted = record {
    each_place = λ p h.
        let block = b.blocks p h in
        record {
          lists = same_leaving p 0 ls xs b.lanes_long course ∙ ap (leaving p 0) (sym (take-length ls)) ∙ block.lists ∙ (λ i. map (λ f. (sym (b.lanes_kept f).to_same i, f)) (range_with_len (place_at vs p).first (place_at vs p).ways));
          ways_there = λ some. omega (arith, block.inside some, b.lanes_long);
          entries_there = omega (arith, b.starts p h, b.counts p h, entries_few p ls, b.lanes_long);
          entered = λ i few. omega (arith, b.entered p i h few, b.lanes_long);
        };
    each_lane = λ f h.
        let low : f < length ls = omega (arith, b.lanes_long) in
        let t = (lane_at ls f).to in
        let inside : t < length vs = omega (arith, (s.lanes_sound.each_sound f low).to_place, b.places_long) in
        let slotted = b.slots f low in
        let end = ap (place_at vs) (b.lanes_kept f).to_same in
        let first : (place_at vs (lane_at xs f).to).entry_first ≡ below t ls = ap (λ (v : Place). v.entry_first) end ∙ b.starts t inside in
        let count : (place_at vs (lane_at xs f).to).entries ≡ into t ls = ap (λ (v : Place). v.entries) end ∙ b.counts t inside in
        record {
          low = omega (arith, first, slotted.low);
          high = omega (arith, first, count, into_all t ls, slotted.high);
          stands = slotted.stands;
        };
  }

  built_site : tables_site vs xs ≡ tables_site ps ls
  built_site = λ i. record {
    places = max (b.places_long i) 1;
    segments = b.lanes_long i;
    ways = fun_ext (λ p. same_leaving p 0 ls xs b.lanes_long course) i;
    floor = λ f. cost_of ((b.lanes_kept f).floor_same i);
    state = λ f. length_of ((b.lanes_kept f).state_same i);
    settable = λ _. nat_lt 0 (b.places_long i);
    hint = λ p q. pair 0 (same_difference _ _ _ _ (b.coordinates_kept p) (b.coordinates_kept q) i);
  }

-- what is known of the tables that a tape keeps
pub record Kept (head : TapeHead) (ps : List Place) (ls : List Lane) (vs : List Place) (xs : List Lane) : Type 0 where
  pub sound : SoundTables vs xs
  pub noted : NotedTables vs xs
  pub over : SiteOver head ps ls (tables_site vs xs)

module _ (head : TapeHead) (ps : List Place) (ls : List Lane) where
  module _ (s : SoundTape head ps ls) where
    part : SoundTables (take head.places ps) (take head.lanes ls)
    part = part_sound head ps ls s.places_there s.lanes_there s

    pub part_ordered : Ordered (length (take head.places ps)) (take head.lanes ls)
    part_ordered = ordered _ _ part

    module _ (vs : List Place) (xs : List Lane) (b : Built (take head.places ps) vs (take head.lanes ls) xs) where
      same_site : tables_site vs xs ≡ tape_site head ps ls
      same_site = built_site _ _ _ _ part b ∙ sym (described head ps ls s.places_there s.lanes_there s.some_place)

      pub kept_built : Kept head ps ls vs xs
      kept_built = record { sound = built_sound _ _ _ _ part b; noted = built_noted _ _ _ _ part b; over = record { sound = λ _. same_site; faulty = λ none. absurd (none s) } }

  pub kept_none : (SoundTape head ps ls → ⊥) → Kept head ps ls [] []
  kept_none none = record {
    sound = record {
      few_places = omega arith;
      few_lanes = omega arith;
      places_sound = λ p h. absurd (omega arith);
      lanes_sound = record { each_sound = λ f h. absurd (omega arith); in_order = λ f h. absurd (omega arith); few_leave = λ p. omega arith };
    };
    noted = record { each_place = λ p h. absurd (omega arith); each_lane = λ f h. absurd (omega arith) };
    over = record { sound = λ s. absurd (none s); faulty = λ _. refl };
  }
