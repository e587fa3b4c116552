-- What tables answer of a place: its ways, and where the ways into it come from. Assumes nothing.
use Rattle.std.proofs.Common.{◌≡◌, ℕ, ◌+◌, ◌<◌, ◌≤◌, max, List, length, get_or, Some, None, sym, refl, ap, ◌∙◌, subst, arith}
use Rattle.std.proofs.lemmas.List.FromFn.{length-map-range_with_len, get_or-map-range_with_len}
use Rattle.std.proofs.lemmas.Bool.{lt-ltb, cond-true}
use Rattle.site.specs.Questions.{WayAt}
use Rattle.site.specs.Directories.{source_of}
use Rattle.tables.specs.Tapes.{leaving, place_at, lane_at}
use Rattle.tables.specs.declared.tape.Place.{Place}
use Rattle.tables.specs.declared.tape.Lane.{Lane}
use Rattle.tape_notes.specs.Noting.{over}
use Rattle.tape_notes.proofs.LaneRuns.{blank, lane_read}
use Rattle.tape.specs.TapeTables.{NotedTables, tables_site, tables_directory}
use Rattle.tape.specs.Counting.{counted_past, counted_at}

module _ (ps : List Place) (ls : List Lane) (n : NotedTables ps ls) (p i : ℕ) (low : p < length ps) (here : Place) (is : here ≡ place_at ps p) where
  way_to : ℕ → (ℕ × ℕ)
  way_to f = over (lane_at ls f) f

  count : length (leaving p 0 ls) ≡ here.ways
  unfolding way_to
  count = ap length (n.each_place p low).lists ∙ length-map-range_with_len way_to (place_at ps p).first (place_at ps p).ways ∙ ap (λ (v : Place). v.ways) (sym is)

  pub way_none : here.ways ≤ i → WayAt (tables_site ps ls) p i None
  way_none h = λ _. omega (arith, count)

  pub way_some : i < here.ways → WayAt (tables_site ps ls) p i (Some (record { end = (get_or ls (here.first + i) blank).to; segment = here.first + i }))
  unfolding way_to
  way_some h =
      let k = n.each_place p low in
      let few : i < (place_at ps p).ways = subst (λ v. i < v.ways) is h in
      let room = k.ways_there (omega arith) in
      let first : (place_at ps p).first ≡ here.first = ap (λ (v : Place). v.first) (sym is) in
      let there : here.first + i < length ls = omega arith in (
        omega arith,
        omega (arith, count),
        ap (λ ws. get_or ws i (0, 0)) k.lists ∙ get_or-map-range_with_len way_to (place_at ps p).first (place_at ps p).ways i ((place_at ps p).first + i) (0, 0) few refl
            ∙ (λ j. ((lane_at ls (first j + i)).to, first j + i)) ∙ (λ j. ((sym (lane_read ls (here.first + i) there) j).to, here.first + i)),
      )

  entered : ℕ → ℕ
  entered j = (lane_at ls (lane_at ls j).entering).from

  inside : p < max (length ps) 1
  inside = omega arith

  pub source_none : here.entries ≤ i → None ≡ source_of (tables_site ps ls) (tables_directory ps ls) p i
  unfolding entered
  source_none h =
      let past : (place_at ps p).entries ≤ i = subst (λ v. v.entries ≤ i) is h in
      sym (cond-true _ _ _ (lt-ltb p _ inside) ∙ counted_past entered (place_at ps p).entry_first (place_at ps p).entries i past)

  module _ (h : i < here.entries) where
    few : i < (place_at ps p).entries
    few = subst (λ v. i < v.entries) is h

    first : (place_at ps p).entry_first ≡ here.entry_first
    first = ap (λ (v : Place). v.entry_first) (sym is)

    entry_there : here.entry_first + i < length ls
    entry_there = omega (arith, (n.each_place p low).entries_there, few, first)

    lane : (lane_at ls ((place_at ps p).entry_first + i)).entering ≡ (get_or ls (here.entry_first + i) blank).entering
    lane = (λ j. (lane_at ls (first j + i)).entering) ∙ ap (λ (l : Lane). l.entering) (sym (lane_read ls (here.entry_first + i) entry_there))

    pub entered_there : (get_or ls (here.entry_first + i) blank).entering < length ls
    entered_there = omega (arith, lane, (n.each_place p low).entered i few)

    pub source_some : Some (get_or ls (get_or ls (here.entry_first + i) blank).entering blank).from ≡ source_of (tables_site ps ls) (tables_directory ps ls) p i
    unfolding entered
    source_some =
        let at = (get_or ls (here.entry_first + i) blank).entering in
        ap (λ (l : Lane). Some l.from) (lane_read ls at entered_there) ∙ ap (λ f. Some (lane_at ls f).from) (sym lane)
        ∙ sym (cond-true _ _ _ (lt-ltb p _ inside) ∙ counted_at entered (place_at ps p).entry_first (place_at ps p).entries i few)
