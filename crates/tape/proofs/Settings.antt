-- A lane that gets another state, and all else kept. Assumes nothing.
use Rattle.std.proofs.Common.{◌≡◌, ℕ, ◌+◌, ◌<◌, true, cond, eqb, List, [], ◌∷◌, map, length, get_or, set, sym, refl, ap, ◌∙◌, subst, ⊎_elim, arith}
use mathlib.Core.Path.{fun_ext}
use Rattle.std.specs.List.{range_with_len}
use Rattle.std.proofs.lemmas.List.{get_or-set_same, get_or-set_other, length-set}
use Rattle.std.proofs.lemmas.Bool.{cases_eq, eq-eqb, ne_eqb, cond-true, cond-false, lt-ltb, and_from}
use Rattle.cost.specs.CrossingsFirst.{crossings_first}
use Rattle.cost.specs.declared.crossings_first.CrossingsFirst.{CrossingsFirst}
use Rattle.cost.specs.declared.lengths.Length.{Length}
use Rattle.tables.specs.Tapes.{is_lane_state, leaving, no_lane, place_at, lane_at}
use Rattle.tables.specs.States.{LaneState}
use Rattle.tables.specs.declared.tape.Place.{Place}
use Rattle.tables.specs.declared.tape.Lane.{Lane}
use Rattle.tape_notes.proofs.LaneRuns.{blank, lane_read}
use Rattle.routes.specs.Sites.{set_segment, allowed}
use Rattle.site.specs.Questions.{can_set, after_set}
use Rattle.tape.specs.TapeSites.{cost_of, length_of}
use Rattle.tape.specs.TapeTables.{SoundTables, NotedTables, tables_site, tables_directory}
use Rattle.tape.specs.TapeLaws.{state_allowed}
use Rattle.tape.proofs.Sameness.{same_leaving, same_sound}

abbrev pub in_state : Lane → LaneState → Lane
in_state l x = record { from = l.from; to = l.to; floor = l.floor; state = x; entering = l.entering; slot = l.slot }

module _ (ps : List Place) (ls : List Lane) (f : ℕ) (x : LaneState) (there : f < length ls) where
  abbrev pub after : List Lane
  after = set ls f (in_state (get_or ls f blank) x)

  long : length after ≡ length ls
  long = length-set ls f (in_state (get_or ls f blank) x)

  here : lane_at after f ≡ in_state (lane_at ls f) x
  here = get_or-set_same ls f (in_state (get_or ls f blank) x) no_lane there ∙ ap (λ l. in_state l x) (lane_read ls f there)

  other : (k : ℕ) → (k ≡ f → ⊥) → lane_at after k ≡ lane_at ls k
  other k h = get_or-set_other ls f k (in_state (get_or ls f blank) x) no_lane h

  -- what does not look at the state is kept
  kept : {X : Type 0} (π : Lane → X) → ((l : Lane) → π (in_state l x) ≡ π l) → (k : ℕ) → π (lane_at after k) ≡ π (lane_at ls k)
  kept π same k =
      ⊎_elim
      (λ is. ap (λ j. π (lane_at after j)) is ∙ ap π here ∙ same (lane_at ls f) ∙ ap (λ j. π (lane_at ls j)) (sym is))
      (λ h. ap π (other k h))
      (cases_eq k f)

  ways_kept : (p : ℕ) → leaving p 0 after ≡ leaving p 0 ls
  ways_kept p = same_leaving p 0 ls after long (λ k. record { from_same = kept (λ l. l.from) (λ _. refl) k; to_same = kept (λ l. l.to) (λ _. refl) k; floor_same = kept (λ l. l.floor) (λ _. refl) k })

  set_sound : SoundTables ps ls → allowed crossings_first (cost_of (get_or ls f blank).floor) (length_of x) ≡ true → SoundTables ps after
  set_sound s ok =
      same_sound ps ps ls after refl long (λ p. record { x_same = refl; y_same = refl })
      (λ k. record { from_same = kept (λ l. l.from) (λ _. refl) k; to_same = kept (λ l. l.to) (λ _. refl) k; floor_same = kept (λ l. l.floor) (λ _. refl) k })
      (λ k h. ⊎_elim
      (λ is. ap (λ j. is_lane_state (lane_at after j).floor (lane_at after j).state) is ∙ ap (λ (l : Lane). is_lane_state l.floor l.state) here ∙ ap (λ (l : Lane). is_lane_state l.floor x) (sym (lane_read ls f there)) ∙ sym (state_allowed (get_or ls f blank).floor x) ∙ ok)
      (λ o. ap (λ (l : Lane). is_lane_state l.floor l.state) (other k o) ∙ (s.lanes_sound.each_sound k h).state_ranged)
      (cases_eq k f))
      s

  set_noted : NotedTables ps ls → NotedTables ps after
  set_noted n = record {
    each_place = λ p h.
        let v = place_at ps p in
        let k = n.each_place p h in
        record {
          lists = ways_kept p ∙ k.lists ∙ (λ i. map (λ g. (sym (kept (λ l. l.to) (λ _. refl) g) i, g)) (range_with_len v.first v.ways));
          ways_there = λ some. omega (arith, k.ways_there some, long);
          entries_there = omega (arith, k.entries_there, long);
          entered = λ i few. omega (arith, kept (λ l. l.entering) (λ _. refl) (v.entry_first + i), k.entered i few, long);
        };
    each_lane = λ g h.
        let k = n.each_lane g (omega (arith, long)) in
        let to = kept (λ l. l.to) (λ _. refl) g in
        let slot = kept (λ l. l.slot) (λ _. refl) g in
        let end = ap (place_at ps) to in
        record {
          low = omega (arith, slot, ap (λ (v : Place). v.entry_first) end, k.low);
          high = omega (arith, slot, ap (λ (v : Place). v.entry_first) end, ap (λ (v : Place). v.entries) end, k.high);
          stands = kept (λ l. l.entering) (λ _. refl) (lane_at after g).slot ∙ ap (λ j. (lane_at ls j).entering) slot ∙ k.stands;
        };
  }

  state_set : (k : ℕ) → length_of (lane_at after k).state ≡ cond (eqb k f) (length_of x) (length_of (lane_at ls k).state)
  state_set k =
      ⊎_elim
      (λ is. ap (λ j. length_of (lane_at after j).state) is ∙ ap (λ (l : Lane). length_of l.state) here ∙ sym (cond-true _ _ _ (eq-eqb k f is)))
      (λ o. ap (λ (l : Lane). length_of l.state) (other k o) ∙ sym (cond-false _ _ _ (ne_eqb k f o)))
      (cases_eq k f)

  set_site : tables_site ps after ≡ set_segment (tables_site ps ls) f (length_of x)
  set_site = λ i. record {
    places = (tables_site ps ls).places;
    segments = long i;
    ways = fun_ext ways_kept i;
    floor = λ k. cost_of (kept (λ l. l.floor) (λ _. refl) k i);
    state = fun_ext state_set i;
    settable = (tables_site ps ls).settable;
    hint = (tables_site ps ls).hint;
  }

  -- a setting that is allowed is granted
  granted : SoundTables ps ls → allowed crossings_first (cost_of (get_or ls f blank).floor) (length_of x) ≡ true → can_set crossings_first (tables_site ps ls) f (length_of x) ≡ true
  granted s ok =
      and_from _ _ (and_from _ _ (lt-ltb f _ there) (lt-ltb 0 _ (omega (arith, (s.lanes_sound.each_sound f there).from_place))))
      (ap (λ (l : Lane). allowed crossings_first (cost_of l.floor) (length_of x)) (sym (lane_read ls f there)) ∙ ok)

  -- the places to look at are read off what is kept
  entered_kept : (j : ℕ) → (lane_at after (lane_at after j).entering).from ≡ (lane_at ls (lane_at ls j).entering).from
  entered_kept j = kept (λ l. l.from) (λ _. refl) (lane_at after j).entering ∙ ap (λ g. (lane_at ls g).from) (kept (λ l. l.entering) (λ _. refl) j)

  set_directory : tables_directory ps after ≡ tables_directory ps ls
  set_directory = λ i. record {
    sources = λ u. map (fun_ext entered_kept i) (range_with_len (place_at ps u).entry_first (place_at ps u).entries);
    users = λ g. kept (λ l. l.from) (λ _. refl) g i ∷ [];
  }

  -- what holds once lane f has the state x, which is allowed
  pub record Set (state : Length CrossingsFirst) : Type 0 where
    pub sound : SoundTables ps after
    pub noted : NotedTables ps after
    pub answer : true ≡ can_set crossings_first (tables_site ps ls) f state
    pub site : tables_site ps after ≡ after_set crossings_first (tables_site ps ls) f state
    pub directory : tables_directory ps after ≡ tables_directory ps ls

  pub set_lane : SoundTables ps ls → NotedTables ps ls → (state : Length CrossingsFirst) → length_of x ≡ state → allowed crossings_first (cost_of (get_or ls f blank).floor) state ≡ true → Set state
  set_lane s n state is ok =
      let fine : allowed crossings_first (cost_of (get_or ls f blank).floor) (length_of x) ≡ true = ap (allowed crossings_first (cost_of (get_or ls f blank).floor)) is ∙ ok in
      subst Set is (record {
        sound = set_sound s fine;
        noted = set_noted n;
        answer = sym (granted s fine);
        site = set_site ∙ sym (cond-true _ _ _ (granted s fine));
        directory = set_directory;
      })
