-- The rules of lanes, one lane after another. Assumes nothing.
use Rattle.std.proofs.Common.{◌≡◌, ℕ, ◌+◌, ◌<◌, ◌≤◌, true, false, eqb, List, [], ◌∷◌, ◌++◌, length, Option, None, Some, MatchOption, Ok, sym, refl, ap, ◌∙◌, ⊎_elim, arith}
use Rattle.std.proofs.lemmas.Bool.{cases_eq, eq-eqb, ne_eqb, cond-true, cond-false, lt-leb, le-leb, lt-ltb, le-ltb, leb-true, ltb-true, and_from, and_left, and_right, and_parts}
use Rattle.tables.specs.declared.tape.Place.{Place}
use Rattle.tables.specs.declared.tape.Lane.{Lane}
use Rattle.tables.specs.Tapes.{most_leaving, larger_difference, place_at, leaving, is_state_not_under}
use Rattle.sitefile.specs.declared.lane_run.LaneRun.{LaneRun}
use Rattle.sitefile.specs.declared.reader.Reader.{Reader}
use Rattle.sitefile.specs.Records.{Reads}
use Rattle.sitefile.specs.Tapes.{lane_numbers, lanes, last_from, keeps_rules}
use Rattle.sitefile.specs.TapeParts.{LastRun, RunOf, NextRun, LanesWalked}
use Rattle.sitefile.proofs.Runs.{stands, walked_more}

-- the last of some lanes and one more
last_push : (ls : List Lane) (l : Lane) → last_from (ls ++ l ∷ []) ≡ l.from
last_push [] l = refl
last_push (k ∷ []) l = refl
last_push (k ∷ (j ∷ ls)) l = last_push (j ∷ ls) l

-- how many leave a place, with one lane more
pub leaving_same : (p k : ℕ) (ls : List Lane) (l : Lane) → l.from ≡ p → length (leaving p k (ls ++ l ∷ [])) ≡ length (leaving p k ls) + 1
leaving_same p k [] l e = ap length (cond-true (eqb l.from p) _ _ (eq-eqb l.from p e))
leaving_same p k (x ∷ ls) l e = ⊎_elim
    (λ (h : x.from ≡ p). let t = eq-eqb x.from p h in
    let rest = leaving_same p (k + 1) ls l e in
    let a = ap length (cond-true (eqb x.from p) ((x.to, k) ∷ leaving p (k + 1) (ls ++ l ∷ [])) (leaving p (k + 1) (ls ++ l ∷ [])) t) in
    let b = ap length (cond-true (eqb x.from p) ((x.to, k) ∷ leaving p (k + 1) ls) (leaving p (k + 1) ls) t) in
    omega arith)
    (λ (h : x.from ≡ p → ⊥). let t = ne_eqb x.from p h in
    let rest = leaving_same p (k + 1) ls l e in
    let a = ap length (cond-false (eqb x.from p) ((x.to, k) ∷ leaving p (k + 1) (ls ++ l ∷ [])) (leaving p (k + 1) (ls ++ l ∷ [])) t) in
    let b = ap length (cond-false (eqb x.from p) ((x.to, k) ∷ leaving p (k + 1) ls) (leaving p (k + 1) ls) t) in
    omega arith)
    (cases_eq x.from p)

pub leaving_other : (p k : ℕ) (ls : List Lane) (l : Lane) → (l.from ≡ p → ⊥) → length (leaving p k (ls ++ l ∷ [])) ≡ length (leaving p k ls)
leaving_other p k [] l e = ap length (cond-false (eqb l.from p) _ _ (ne_eqb l.from p e))
leaving_other p k (x ∷ ls) l e = ⊎_elim
    (λ (h : x.from ≡ p). let t = eq-eqb x.from p h in
    let rest = leaving_other p (k + 1) ls l e in
    let a = ap length (cond-true (eqb x.from p) ((x.to, k) ∷ leaving p (k + 1) (ls ++ l ∷ [])) (leaving p (k + 1) (ls ++ l ∷ [])) t) in
    let b = ap length (cond-true (eqb x.from p) ((x.to, k) ∷ leaving p (k + 1) ls) (leaving p (k + 1) ls) t) in
    omega arith)
    (λ (h : x.from ≡ p → ⊥). let t = ne_eqb x.from p h in
    let rest = leaving_other p (k + 1) ls l e in
    let a = ap length (cond-false (eqb x.from p) ((x.to, k) ∷ leaving p (k + 1) (ls ++ l ∷ [])) (leaving p (k + 1) (ls ++ l ∷ [])) t) in
    let b = ap length (cond-false (eqb x.from p) ((x.to, k) ∷ leaving p (k + 1) ls) (leaving p (k + 1) ls) t) in
    omega arith)
    (cases_eq x.from p)

-- The run of lanes

-- a lane more from the same place
pub run_longer : {ps : List Place} {before : List Lane} {run : LaneRun} (r : LastRun ps before run) (l : Lane) (next : LaneRun) → l.from ≡ run.from → next.from ≡ run.from → next.place ≡ run.place → next.count ≡ run.count + 1 → LastRun ps (before ++ l ∷ []) next
run_longer {ps} {before} {run} r l next same from place count = record {
  last = from ∙ sym same ∙ sym (last_push before l);
  counted = count ∙ ap (λ n. n + 1) r.counted ∙ sym (leaving_same run.from 0 before l same) ∙ ap (λ p. length (leaving p 0 (before ++ l ∷ []))) (sym from);
  located = place ∙ r.located ∙ ap (place_at ps) (sym from);
  sorted = λ p above. leaving_other p 0 before l (λ e. omega arith) ∙ r.sorted p (omega arith);
}

-- a lane that no lane before leaves the same place as, and none a later one
pub run_begins : {ps : List Place} (before : List Lane) (l : Lane) (next : LaneRun) → ((p : ℕ) → l.from ≤ p → length (leaving p 0 before) ≡ 0) → next.from ≡ l.from → next.place ≡ place_at ps l.from → next.count ≡ 1 → LastRun ps (before ++ l ∷ []) next
run_begins {ps} before l next fresh from place count = record {
  last = from ∙ sym (last_push before l);
  counted = count ∙ sym (leaving_same l.from 0 before l refl ∙ ap (λ n. n + 1) (fresh l.from (omega arith))) ∙ ap (λ p. length (leaving p 0 (before ++ l ∷ []))) (sym from);
  located = place ∙ ap (place_at ps) (sym from);
  sorted = λ p above. leaving_other p 0 before l (λ e. omega arith) ∙ fresh p (omega arith);
}

-- The rules

module _ (ps : List Place) (before : List Lane) (l : Lane) where
  pub too_many : most_leaving ≤ length (leaving l.from 0 before) → keeps_rules ps before l ≡ false
  too_many h = and_left _ _ (and_left _ _ (and_right _ _ (le-ltb (length (leaving l.from 0 before)) most_leaving h)))

  pub too_fast : l.floor.milliseconds < larger_difference (place_at ps l.from) (place_at ps l.to) → keeps_rules ps before l ≡ false
  too_fast h = and_left _ _ (and_right _ _ (lt-leb (larger_difference (place_at ps l.from) (place_at ps l.to)) l.floor.milliseconds h))

  pub all_kept : last_from before ≤ l.from → length (leaving l.from 0 before) < most_leaving → larger_difference (place_at ps l.from) (place_at ps l.to) ≤ l.floor.milliseconds → is_state_not_under l.floor l.state ≡ true → keeps_rules ps before l ≡ true
  all_kept a b c d = and_from _ _ (and_from _ _ (and_from _ _ (le-leb (last_from before) l.from a) (lt-ltb (length (leaving l.from 0 before)) most_leaving b)) (le-leb (larger_difference (place_at ps l.from) (place_at ps l.to)) l.floor.milliseconds c)) d

-- The next run

-- a lane from the last one's place
pub goes_on : {ps : List Place} {before : List Lane} {run : LaneRun} → LastRun ps before run → (l : Lane) (next : Option LaneRun) → l.from ≡ run.from → MatchOption next (run.count ≡ 64) (λ n. (n.from ≡ run.from) × (n.place ≡ run.place) × (n.count ≡ run.count + 1)) → MatchOption next (keeps_rules ps before l ≡ false) (NextRun ps before l)
goes_on {ps} {before} r l None same full =
    let counted = r.counted ∙ ap (λ p. length (leaving p 0 before)) (sym same) in
    too_many ps before l (omega arith)
goes_on {ps} {before} r l (Some n) same more =
    let last = r.last in
    let counted = r.counted ∙ ap (λ p. length (leaving p 0 before)) (sym same) in
    let few = n.few in
    record { in_order = omega arith; few_before = omega (arith, more.2); last_run = run_longer r l n same more.0 more.1 more.2 }

-- a lane from another place
pub begins : {ps : List Place} {before : List Lane} (run : Option LaneRun) (l : Lane) (next : LaneRun) → RunOf ps before run → ((r : LaneRun) → run ≡ Some r → r.from < l.from) → next.from ≡ l.from → next.place ≡ place_at ps l.from → next.count ≡ 1 → NextRun ps before l next
begins {before = before} None l next r later from place count =
    let last = ap last_from r in
    let fresh : (p : ℕ) → l.from ≤ p → length (leaving p 0 before) ≡ 0 = λ p h. ap (λ b. length (leaving p 0 b)) r in
    record { in_order = omega arith; few_before = omega (arith, fresh l.from (omega arith)); last_run = run_begins before l next fresh from place count }
begins {before = before} (Some q) l next r later from place count =
    let last = r.last in
    let above = later q refl in
    let fresh : (p : ℕ) → l.from ≤ p → length (leaving p 0 before) ≡ 0 = λ p h. r.sorted p (omega arith) in
    record { in_order = omega arith; few_before = omega (arith, fresh l.from (omega arith)); last_run = run_begins before l next fresh from place count }

-- where the lane begins
pub next_place : {ps : List Place} {before : List Lane} {l : Lane} {next : LaneRun} → NextRun ps before l next → next.place ≡ place_at ps l.from
next_place {ps} {before} {l} n = n.last_run.located ∙ ap (place_at ps) (n.last_run.last ∙ last_push before l)

-- One lane after another

pub lanes_none : (count : ℕ) (ps : List Place) (r : Reader) → LanesWalked count ps 0 r r None
unfolding stands
lanes_none count ps r = record { walk = stands (lanes count ps) r; run_of = refl }

pub lanes_more : {count done : ℕ} {ps : List Place} {from mid to : Reader} {run : Option LaneRun} {next : LaneRun} {l : Lane} (w : LanesWalked count ps done from mid run) → Reads (lane_numbers count) mid to (Ok l) → keeps_rules ps w.walk.values l ≡ true → LastRun ps (w.walk.values ++ l ∷ []) next → LanesWalked count ps (done + 1) from to (Some next)
unfolding walked_more
lanes_more {count} {ps = ps} {to = to} {l = l} w r rules run =
    let read = r.read w.walk.values in
    record { walk = walked_more (lanes count ps) {to = to} {x = l} w.walk (and_from _ _ read.0 rules) read.1 r.same_size; run_of = run }

-- the rules of a lane, one by one
pub record Kept (ps : List Place) (before : List Lane) (l : Lane) : Type 0 where
  pub in_order : last_from before ≤ l.from
  pub few_before : length (leaving l.from 0 before) < most_leaving
  pub slow : larger_difference (place_at ps l.from) (place_at ps l.to) ≤ l.floor.milliseconds
  pub over_floor : is_state_not_under l.floor l.state ≡ true

pub rules_kept : (ps : List Place) (before : List Lane) (l : Lane) → keeps_rules ps before l ≡ true → Kept ps before l
rules_kept ps before l ok =
    let a = and_parts _ _ ok in
    let b = and_parts _ _ a.0 in
    let c = and_parts _ _ b.0 in
    record { in_order = leb-true _ _ c.0; few_before = ltb-true _ _ c.1; slow = leb-true _ _ b.1; over_floor = a.1 }
