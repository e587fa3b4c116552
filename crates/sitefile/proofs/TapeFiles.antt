-- The file of a tape after its first byte. Assumes nothing.
use Rattle.std.proofs.Common.{◌≡◌, ℕ, zero, suc, ◌+◌, ◌<◌, ◌≤◌, true, eqb, List, [], ◌∷◌, ◌++◌, length, drop, Ok, sym, refl, ap, ◌∙◌, subst, ⊎_elim, append_assoc, append-nil, arith, length-append}
use Rattle.std.specs.List.{AllByRecursion}
use Rattle.std.proofs.lemmas.List.{get_or_append_left, get_or_at, take_all, length_push}
use Rattle.std.proofs.lemmas.Bool.{and_from, and_parts, leb-true, ltb-true, lt-ltb, le-leb, cases_lt, cases_eq, eq-eqb, ne_eqb, cond-true, cond-false}
use Rattle.tables.specs.declared.tape.TapeHead.{TapeHead}
use Rattle.tables.specs.declared.tape.Place.{Place}
use Rattle.tables.specs.declared.tape.Lane.{Lane}
use Rattle.tables.specs.declared.tape.LaneCost.{LaneCost}
use Rattle.tables.specs.States.{LaneState}
use Rattle.tables.specs.declared.State.TheVariants.{Closed, Open}
use Rattle.tables.specs.Tapes.{most_places, most_lanes, most_leaving, is_place, is_lane_state, is_state_not_under, no_lane, place_at, lane_at, leaving, SoundLane, SoundLanes}
use Rattle.sitefile.specs.declared.fault.Fault.{Fault}
use Rattle.sitefile.specs.declared.reader.Reader.{Reader}
use Rattle.sitefile.specs.Readers.{ahead, size}
use Rattle.sitefile.specs.Numbers.{encode}
use Rattle.sitefile.specs.Formats.{ended, FirstFault, later}
use Rattle.sitefile.specs.Records.{Records, encode_all, AllAllowed, many, ReadAll, Walked, StopsAmong}
use Rattle.sitefile.specs.Tapes.{no_notes_at, places, no_notes_on, is_state_ranged, lane_numbers, last_from, lanes, TapeDescription, KeepsTapeRules, tape_bytes, tape_format, CountsRead, LoadsTape}
use Rattle.sitefile.proofs.Forms.{encode_same}
use Rattle.sitefile.proofs.Fields.{at_least, at_most, is_between, field_read, check_passed, Holds, to_the_end, with_check, with_field}
use Rattle.sitefile.proofs.TapeRecords.{ranged, places_laws, lane_numbers_laws, lanes_laws}
use Rattle.sitefile.proofs.Rules.{rules_kept, all_kept, leaving_same, leaving_other}
use Rattle.sitefile.proofs.Runs.{records_hold, records_same, no_second_fault}

-- a fault after the counts
pub after_counts : {size pe le : ℕ} {bytes rest : List ℕ} {head : TapeHead} {f : Fault} →
    CountsRead pe le bytes head rest → FirstFault size (many places head.places [] (λ ps. many (lanes head.places ps) head.lanes [] (λ _. ended))) rest f → FirstFault size (tape_format pe le) bytes f
after_counts {rest = rest} {head = head} h x =
    let few = at_most 1 most_places head.places h.places_ranged in
    let short = at_most 0 most_lanes head.lanes h.lanes_ranged in
    later head.places (encode head.lanes ++ rest) (field_read h.places_ranged (omega arith) h.form)
    (later head.lanes rest (field_read h.lanes_ranged (omega arith) refl)
    (check_passed h.roomy x))

-- Places

places_sound : (before ps : List Place) → AllAllowed places before ps → (i : ℕ) → i < length ps → is_place (place_at ps i) ≡ true
places_sound before [] all i h = absurd (omega arith)
places_sound before (p ∷ ps) all zero h = (and_parts _ _ all.0).0
places_sound before (p ∷ ps) all (suc i) h = places_sound (before ++ p ∷ []) ps all.1 i (omega arith)

places_unnoted : (before ps : List Place) → AllAllowed places before ps → AllByRecursion (λ p. no_notes_at p ≡ true) ps
places_unnoted before [] all = tt
places_unnoted before (p ∷ ps) all = ((and_parts _ _ all.0).1, places_unnoted (before ++ p ∷ []) ps all.1)

places_allowed : (before ps : List Place) → ((i : ℕ) → i < length ps → is_place (place_at ps i) ≡ true) → AllByRecursion (λ p. no_notes_at p ≡ true) ps → AllAllowed places before ps
places_allowed before [] sound none = tt
places_allowed before (p ∷ ps) sound none =
    (and_from _ _ (sound 0 (omega arith)) none.0, places_allowed (before ++ p ∷ []) ps (λ i h. sound (suc i) (omega arith)) none.1)

-- Lanes

numbers_allowed : (count : ℕ) (ps : List Place) (before ls : List Lane) → AllAllowed (lanes count ps) before ls → AllAllowed (lane_numbers count) before ls
numbers_allowed count ps before [] all = tt
numbers_allowed count ps before (l ∷ ls) all = ((and_parts _ _ all.0).0, numbers_allowed count ps (before ++ l ∷ []) ls all.1)

lanes_unnoted : (count : ℕ) (before ls : List Lane) → AllAllowed (lane_numbers count) before ls → AllByRecursion (λ l. no_notes_on l ≡ true) ls
lanes_unnoted count before [] all = tt
lanes_unnoted count before (l ∷ ls) all = ((ranged count l all.0).no_notes, lanes_unnoted count (before ++ l ∷ []) ls all.1)

state_sound : (floor : LaneCost) (state : LaneState) → is_state_ranged state ≡ true → is_state_not_under floor state ≡ true → is_lane_state floor state ≡ true
state_sound floor Closed a b = refl
state_sound floor (Open c) a b = and_from _ _ a b

state_parts : (floor : LaneCost) (state : LaneState) → is_lane_state floor state ≡ true → (is_state_ranged state ≡ true) × (is_state_not_under floor state ≡ true)
state_parts floor Closed e = (refl, refl)
state_parts floor (Open c) e = let both = and_parts _ _ e in (both.0, both.1)

-- The rules of the first lanes of a list, as a reader meets them
record SoundSoFar (count : ℕ) (ps : List Place) (ls : List Lane) : Type 0 where
  each : (f : ℕ) → f < length ls → SoundLane count ps (lane_at ls f)
  order : (f : ℕ) → f + 1 < length ls → (lane_at ls f).from ≤ (lane_at ls (f + 1)).from
  few : (p : ℕ) → length (leaving p 0 ls) ≤ most_leaving

last_at : (ls : List Lane) (f : ℕ) → f + 1 ≡ length ls → (lane_at ls f).from ≡ last_from ls
last_at [] f e = absurd (omega arith)
last_at (l ∷ []) zero e = refl
last_at (l ∷ []) (suc f) e = absurd (omega arith)
last_at (l ∷ (k ∷ ls)) zero e = absurd (omega arith)
last_at (l ∷ (k ∷ ls)) (suc f) e = last_at (k ∷ ls) f (omega arith)

module _ (count : ℕ) (ps : List Place) where
  lane_sound : (before : List Lane) (l : Lane) → (lanes count ps).allowed before l ≡ true → SoundLane count ps l
  lane_sound before l ok =
      let both = and_parts _ _ ok in
      let a = ranged count l both.0 in
      let k = rules_kept ps before l both.1 in
      record {
        from_place = ltb-true _ _ a.from_place;
        to_place = ltb-true _ _ a.to_place;
        floor_ranged = a.floor_ranged;
        floor_time = k.slow;
        state_ranged = state_sound l.floor l.state a.state_ranged k.over_floor;
      }

  sound_more : (before : List Lane) (l : Lane) → SoundSoFar count ps before → (lanes count ps).allowed before l ≡ true → SoundSoFar count ps (before ++ l ∷ [])
  sound_more before l s ok =
      let k = rules_kept ps before l (and_parts _ _ ok).1 in
      let long = length_push before l in
      record {
        each = λ f h. ⊎_elim
            (λ (low : f < length before). subst (SoundLane count ps) (sym (get_or_append_left before (l ∷ []) no_lane f low)) (s.each f low))
            (λ (high : length before ≤ f). subst (SoundLane count ps) (sym (get_or_at before l [] no_lane f (omega arith))) (lane_sound before l ok))
            (cases_lt f (length before));
        order = λ f h.
            let first = get_or_append_left before (l ∷ []) no_lane f (omega arith) in
            ⊎_elim
            (λ (low : f + 1 < length before).
            let second = get_or_append_left before (l ∷ []) no_lane (f + 1) low in
            let old = s.order f low in
            subst (λ x. x.from ≤ (lane_at (before ++ l ∷ []) (f + 1)).from) (sym first) (subst (λ x. (lane_at before f).from ≤ x.from) (sym second) old))
            (λ (high : length before ≤ f + 1).
            let second = get_or_at before l [] no_lane (f + 1) (omega arith) in
            let up = k.in_order in
            let last = last_at before f (omega arith) in
            subst (λ x. x.from ≤ (lane_at (before ++ l ∷ []) (f + 1)).from) (sym first) (subst (λ x. (lane_at before f).from ≤ x.from) (sym second) (omega arith)))
            (cases_lt (f + 1) (length before));
        few = λ p. ⊎_elim
            (λ (e : l.from ≡ p).
            let one = leaving_same p 0 before l e in
            let less = k.few_before in
            let same = ap (λ q. length (leaving q 0 before)) e in
            omega arith)
            (λ (e : l.from ≡ p → ⊥). let one = leaving_other p 0 before l e in let old = s.few p in omega arith)
            (cases_eq l.from p);
      }

  sound_all : (before ls : List Lane) → SoundSoFar count ps before → AllAllowed (lanes count ps) before ls → SoundSoFar count ps (before ++ ls)
  sound_all before [] s all = subst (SoundSoFar count ps) (sym (append-nil before)) s
  sound_all before (l ∷ ls) s all = subst (SoundSoFar count ps) (append_assoc before (l ∷ []) ls) (sound_all (before ++ l ∷ []) ls (sound_more before l s all.0) all.1)

  nothing_sound : SoundSoFar count ps []
  nothing_sound = record { each = λ f h. absurd (omega arith); order = λ f h. absurd (omega arith); few = λ p. omega arith }

  lanes_sound : (ls : List Lane) → AllAllowed (lanes count ps) [] ls → SoundLanes count (length ls) ps ls
  lanes_sound ls all =
      let s = sound_all [] ls nothing_sound all in
      record { each_sound = s.each; in_order = s.order; few_leave = λ p. subst (λ xs. length (leaving p 0 xs) ≤ most_leaving) (sym (take_all (length ls) ls (omega arith))) (s.few p) }

-- The other way round: lanes that keep the rules are allowed one after another

leaving_mono : (p k : ℕ) (xs ys : List Lane) → length (leaving p k xs) ≤ length (leaving p k (xs ++ ys))
leaving_mono p k [] ys = omega arith
leaving_mono p k (x ∷ xs) ys = ⊎_elim
    (λ (h : x.from ≡ p). let t = eq-eqb x.from p h in
    let rest = leaving_mono p (k + 1) xs ys in
    let a = ap length (cond-true (eqb x.from p) ((x.to, k) ∷ leaving p (k + 1) (xs ++ ys)) (leaving p (k + 1) (xs ++ ys)) t) in
    let b = ap length (cond-true (eqb x.from p) ((x.to, k) ∷ leaving p (k + 1) xs) (leaving p (k + 1) xs) t) in
    omega arith)
    (λ (h : x.from ≡ p → ⊥). let t = ne_eqb x.from p h in
    let rest = leaving_mono p (k + 1) xs ys in
    let a = ap length (cond-false (eqb x.from p) ((x.to, k) ∷ leaving p (k + 1) (xs ++ ys)) (leaving p (k + 1) (xs ++ ys)) t) in
    let b = ap length (cond-false (eqb x.from p) ((x.to, k) ∷ leaving p (k + 1) xs) (leaving p (k + 1) xs) t) in
    omega arith)
    (cases_eq x.from p)

module _ (count : ℕ) (ps : List Place) where
  last_below : (before : List Lane) (l : Lane) (ls : List Lane) → SoundSoFar count ps (before ++ l ∷ ls) → last_from before ≤ l.from
  last_below [] l ls s = omega arith
  last_below (k ∷ before) l ls s =
      let f = length before in
      let order = s.order f (omega (arith, length-append before (l ∷ ls))) in
      let first : lane_at ((k ∷ before) ++ l ∷ ls) f ≡ lane_at (k ∷ before) f = get_or_append_left (k ∷ before) (l ∷ ls) no_lane f (omega arith) in
      let second : lane_at ((k ∷ before) ++ l ∷ ls) (f + 1) ≡ l = get_or_at (k ∷ before) l ls no_lane (f + 1) (omega arith) in
      let last = last_at (k ∷ before) f (omega arith) in
      let up : (lane_at (k ∷ before) f).from ≤ l.from = subst (λ x. x.from ≤ l.from) first (subst (λ x. (lane_at ((k ∷ before) ++ l ∷ ls) f).from ≤ x.from) second order) in
      omega arith

  lane_allowed : (before : List Lane) (l : Lane) (ls : List Lane) → SoundSoFar count ps (before ++ l ∷ ls) → no_notes_on l ≡ true → (lanes count ps).allowed before l ≡ true
  lane_allowed before l ls s none =
      let here : lane_at (before ++ l ∷ ls) (length before) ≡ l = get_or_at before l ls no_lane (length before) refl in
      let sound = subst (SoundLane count ps) here (s.each (length before) (omega (arith, length-append before (l ∷ ls)))) in
      let state = state_parts l.floor l.state sound.state_ranged in
      let total = s.few l.from in
      let part : length (leaving l.from 0 (before ++ l ∷ [])) ≤ length (leaving l.from 0 (before ++ l ∷ ls)) = subst (λ xs. length (leaving l.from 0 (before ++ l ∷ [])) ≤ length (leaving l.from 0 xs)) (append_assoc before (l ∷ []) ls) (leaving_mono l.from 0 (before ++ l ∷ []) ls) in
      let one = leaving_same l.from 0 before l refl in
      and_from _ _
      (and_from _ _ (and_from _ _ (and_from _ _ (and_from _ _ (lt-ltb _ _ sound.from_place) (lt-ltb _ _ sound.to_place)) sound.floor_ranged) state.0) none)
      (all_kept ps before l (last_below before l ls s) (omega arith) sound.floor_time state.1)

  lanes_allowed : (before ls : List Lane) → SoundSoFar count ps (before ++ ls) → AllByRecursion (λ l. no_notes_on l ≡ true) ls → AllAllowed (lanes count ps) before ls
  lanes_allowed before [] s none = tt
  lanes_allowed before (l ∷ ls) s none =
      (lane_allowed before l ls s none.0, lanes_allowed (before ++ l ∷ []) ls (subst (SoundSoFar count ps) (sym (append_assoc before (l ∷ []) ls)) s) none.1)

so_far : {count : ℕ} {ps : List Place} {ls : List Lane} → SoundLanes count (length ls) ps ls → SoundSoFar count ps ls
so_far {ls = ls} s = record { each = s.each_sound; order = s.in_order; few = λ p. subst (λ xs. length (leaving p 0 xs) ≤ most_leaving) (take_all (length ls) ls (omega arith)) (s.few_leave p) }

-- The whole tape

-- two readers with the same bytes ahead
moved_walk : {X : Type 0} {R : Records X} {count : ℕ} (from from' : Reader) {to : Reader} → ahead from' ≡ ahead from → size from' ≡ size from → Walked R count from to → Walked R count from' to
moved_walk from from' e same w = record { values = w.values; counted = w.counted; read = record { form = e ∙ w.read.form; all_allowed = w.read.all_allowed }; same_size = w.same_size ∙ sym same }

numbers_walk : (count : ℕ) (ps : List Place) {m : ℕ} {from to : Reader} → Walked (lanes count ps) m from to → Walked (lane_numbers count) m from to
numbers_walk count ps {to = to} w = record {
  values = w.values;
  counted = w.counted;
  read = record { form = w.read.form ∙ same_bytes w.values; all_allowed = numbers_allowed count ps [] w.values w.read.all_allowed };
  same_size = w.same_size;
}
  where
    same_bytes : (ls : List Lane) → encode_all (lanes count ps) ls (ahead to) ≡ encode_all (lane_numbers count) ls (ahead to)
    same_bytes [] = refl
    same_bytes (l ∷ ls) = ap (λ b. (lane_numbers count).encode l b) (same_bytes ls)

-- the walk that fills the lanes goes over what was checked
pub no_lane_fault : (count : ℕ) (ps : List Place) {m : ℕ} {filled : List Place} {start mid end : Reader} (from : Reader) (again : ℕ) {f : Fault} → count ≤ most_places → (w : Walked places count start mid) → Walked (lanes count ps) m mid end → ReadAll places (ahead start) filled (ahead from) → length filled ≡ count → size from ≡ size mid → again ≡ m → StopsAmong (lane_numbers count) again from f → ⊥
no_lane_fault count ps {mid = mid} from again few w ls read long same e x =
    let one = records_same places places_laws w.values _ (ahead mid) (ahead from) (w.counted ∙ sym long) w.read.all_allowed read.all_allowed (sym w.read.form ∙ read.form) in
    no_second_fault (lane_numbers count) (lane_numbers_laws count few) again e (moved_walk mid from (sym one.1) same (numbers_walk count ps ls)) x

pub tape_loaded : (whole : ℕ) {head : TapeHead} {bytes last : List ℕ} {start mid end : Reader} (from : Reader) {pt fp : List Place} {lt fl : List Lane} →
    CountsRead (length pt) (length lt) bytes head (ahead start) → (w : Walked places head.places start mid) → Walked (lanes head.places w.values) head.lanes mid end → ahead end ≡ [] →
    length fp ≡ head.places → ReadAll places (ahead start) fp (ahead from) → length fl ≡ head.lanes → ReadAll (lane_numbers head.places) (ahead from) fl last →
    LoadsTape whole bytes pt (fp ++ drop head.places pt) lt (fl ++ drop head.lanes lt) (Ok head)
unfolding numbers_walk
tape_loaded whole {head} {bytes} {last} {start} {mid} {end} from {pt} {fp} {lt} {fl} h w ls none long_p read_p long_l read_l =
    let few = at_most 1 most_places head.places h.places_ranged in
    let one = records_same places places_laws fp w.values (ahead from) (ahead mid) (long_p ∙ sym w.counted) read_p.all_allowed w.read.all_allowed (sym read_p.form ∙ w.read.form) in
    let nw = numbers_walk head.places w.values ls in
    let two = records_same (lane_numbers head.places) (lane_numbers_laws head.places few) fl ls.values last (ahead end) (long_l ∙ sym ls.counted) read_l.all_allowed nw.read.all_allowed (sym read_l.form ∙ one.1 ∙ nw.read.form) in
    let room = and_parts _ _ h.roomy in
    let counts : head ≡ record { places = length fp; lanes = length fl } = (λ i. record { places = sym long_p i; lanes = sym long_l i }) in
    let sound_ls : SoundLanes head.places (length fl) fp fl = subst (λ xs. SoundLanes head.places (length xs) fp xs) (sym two.0) (subst (λ ps. SoundLanes head.places (length ls.values) ps ls.values) (sym one.0) (lanes_sound head.places w.values ls.values ls.read.all_allowed)) in
    let all : ahead start ≡ encode_all places fp (encode_all (lane_numbers head.places) fl []) = read_p.form ∙ ap (encode_all places fp) (read_l.form ∙ ap (encode_all (lane_numbers head.places) fl) (two.1 ∙ none)) in (
      record { places_told = fp; lanes_told = fl },
      record {
        sound = record {
          some_place = subst (λ n. 1 ≤ n) (sym long_p) (at_least 1 most_places head.places h.places_ranged);
          few_places = subst (λ n. n ≤ most_places) (sym long_p) few;
          few_lanes = subst (λ n. n ≤ most_lanes) (sym long_l) (at_most 0 most_lanes head.lanes h.lanes_ranged);
          places_there = omega arith;
          lanes_there = omega arith;
          places_sound = places_sound [] fp read_p.all_allowed;
          lanes_sound = subst (λ n. SoundLanes n (length fl) fp fl) (sym long_p) sound_ls;
        };
        places_unnoted = places_unnoted [] fp read_p.all_allowed;
        lanes_unnoted = lanes_unnoted head.places [] fl read_l.all_allowed;
      },
      h.form ∙ (λ i. encode (counts i).places ++ (encode (counts i).lanes ++ all i)) ∙ ap (λ n. encode (length fp) ++ (encode (length fl) ++ encode_all places fp (encode_all (lane_numbers n) fl []))) (sym long_p),
      subst (λ n. n ≤ length pt) (sym long_p) (leb-true _ _ room.0),
      subst (λ n. n ≤ length lt) (sym long_l) (leb-true _ _ room.1),
      counts,
      ap (λ n. fp ++ drop n pt) (sym long_p),
      ap (λ n. fl ++ drop n lt) (sym long_l),
    )

-- the layout of a tape has no fault
pub tape_holds : (whole pe le : ℕ) (d : TapeDescription) → KeepsTapeRules d → length d.places_told ≤ pe → length d.lanes_told ≤ le → Holds whole (tape_format pe le) (tape_bytes d)
tape_holds whole pe le d k room_p room_l =
    let n = length d.places_told in
    let m = length d.lanes_told in
    let s = k.sound in
    let all_p = places_allowed [] d.places_told s.places_sound k.places_unnoted in
    let all_l = lanes_allowed n d.places_told [] d.lanes_told (so_far s.lanes_sound) k.lanes_unnoted in
    let lane_bytes = encode_all (lane_numbers n) d.lanes_told [] in
    let bytes = encode_all places d.places_told lane_bytes in
    let inner : Holds whole (many (lanes n d.places_told) m [] (λ _. ended)) lane_bytes = subst (Holds whole (many (lanes n d.places_told) m [] (λ _. ended))) (same_bytes n d.lanes_told) (records_hold (lanes n d.places_told) (lanes_laws n d.places_told s.few_places) whole d.lanes_told m (λ _. ended) [] refl all_l to_the_end) in
    with_field n (encode m ++ bytes) (field_read (is_between 1 most_places n s.some_place s.few_places) (let few = s.few_places in omega arith) refl)
    (with_field m bytes (field_read (is_between 0 most_lanes m (omega arith) s.few_lanes) (let few = s.few_lanes in omega arith) refl)
    (with_check (and_from _ _ (le-leb n pe room_p) (le-leb m le room_l))
    (records_hold places places_laws whole d.places_told n (λ ps. many (lanes n ps) m [] (λ _. ended)) lane_bytes refl all_p inner)))
  where
    same_bytes : (n : ℕ) (ls : List Lane) → encode_all (lanes n d.places_told) ls [] ≡ encode_all (lane_numbers n) ls []
    same_bytes n [] = refl
    same_bytes n (l ∷ ls) = ap (λ b. (lane_numbers n).encode l b) (same_bytes n ls)

-- no bytes describe two tapes
pub tape_same : (d e : TapeDescription) → KeepsTapeRules d → KeepsTapeRules e → tape_bytes d ≡ tape_bytes e → d ≡ e
tape_same d e a b same =
    let n = encode_same 4 (length d.places_told) (length e.places_told) _ _ same in
    let m = encode_same 4 (length d.lanes_told) (length e.lanes_told) _ _ n.1 in
    let ps = records_same places places_laws d.places_told e.places_told _ _ n.0 (places_allowed [] d.places_told a.sound.places_sound a.places_unnoted) (places_allowed [] e.places_told b.sound.places_sound b.places_unnoted) m.1 in
    let count = length d.places_told in
    let all = numbers_allowed count d.places_told [] d.lanes_told (lanes_allowed count d.places_told [] d.lanes_told (so_far a.sound.lanes_sound) a.lanes_unnoted) in
    let other = numbers_allowed (length e.places_told) e.places_told [] e.lanes_told (lanes_allowed (length e.places_told) e.places_told [] e.lanes_told (so_far b.sound.lanes_sound) b.lanes_unnoted) in
    let ls = records_same (lane_numbers count) (lane_numbers_laws count a.sound.few_places) d.lanes_told e.lanes_told [] [] m.0 all (subst (λ k. AllAllowed (lane_numbers k) [] e.lanes_told) (sym n.0) other) (ps.1 ∙ ap (λ k. encode_all (lane_numbers k) e.lanes_told []) (sym n.0)) in
    (λ i. record { places_told = ps.0 i; lanes_told = ls.0 i })
