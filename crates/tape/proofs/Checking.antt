-- The check of the lanes, one after another. Assumes nothing.
use Rattle.std.proofs.Common.{◌≡◌, ℕ, ◌+◌, ◌-◌, ◌<◌, ◌≤◌, false, cond, eqb, List, length, get_or, take, ◌↔◌, IsTrue, sym, ap, ◌∙◌, subst, ⊎_elim, arith}
use Rattle.std.proofs.lemmas.Bool.{cases_eq, eq-eqb, ne_eqb, cond-true, cond-false, true≢false}
use Rattle.tables.specs.Tapes.{leaving, lane_at, SoundLane, SoundLanes}
use Rattle.tables.specs.declared.tape.Place.{Place}
use Rattle.tables.specs.declared.tape.Lane.{Lane}
use Rattle.tape_notes.proofs.LaneRuns.{blank, lane_read, count_here, count_other, count_upto}

-- the first k lanes keep the rules; `run` of them leave the place that the last one leaves
pub record Checked (n : ℕ) (ps : List Place) (ls : List Lane) (k previous run : ℕ) : Type 0 where
  pub each_sound : (f : ℕ) → f < k → SoundLane n ps (lane_at ls f)
  pub in_order : (f : ℕ) → f + 1 < k → (lane_at ls f).from ≤ (lane_at ls (f + 1)).from
  pub at_start : k ≡ 0 → previous ≡ 0
  pub last : (f : ℕ) → f + 1 ≡ k → (lane_at ls f).from ≡ previous
  pub run_is : run ≡ length (leaving previous 0 (take k ls))
  pub beyond : (p : ℕ) → previous < p → length (leaving p 0 (take k ls)) ≡ 0
  pub few_leave : (p : ℕ) → length (leaving p 0 (take k ls)) ≤ 64

-- a test that failed tells that what it asks is not so
pub refuted : {P : Type 0} → (P → ⊥) → IsTrue false ↔ P
refuted none = (λ e. absurd (true≢false (sym e)), λ p. absurd (none p))

module _ (n : ℕ) (ps : List Place) (ls : List Lane) (k previous run : ℕ) (w : Checked n ps ls k previous run) (there : k < length ls) where
  -- the next lane, as the code reads it
  abbrev pub lane : Lane
  lane = get_or ls k blank

  same : (lane_at ls k).from ≡ lane.from
  same = ap (λ (l : Lane). l.from) (sym (lane_read ls k there))

  -- the run with one lane more
  run_more : previous ≤ lane.from → cond (eqb lane.from previous) (run + 1) 1 ≡ length (leaving lane.from 0 (take (k + 1) ls))
  run_more up =
      ⊎_elim
      (λ e. cond-true _ _ _ (eq-eqb lane.from previous e) ∙ (let here : run ≡ length (leaving lane.from 0 (take k ls)) = w.run_is ∙ ap (λ p. length (leaving p 0 (take k ls))) (sym e) in omega (arith, count_here ls k there lane.from same)))
      (λ e. cond-false _ _ _ (ne_eqb lane.from previous e) ∙ (let none = w.beyond lane.from (omega arith) in omega (arith, count_here ls k there lane.from same)))
      (cases_eq lane.from previous)

  pub checked_more : (from' run' : ℕ) → SoundLane n ps lane → previous ≤ lane.from → from' ≡ lane.from → run' ≡ cond (eqb lane.from previous) (run + 1) 1 → run' ≤ 64 → Checked n ps ls (k + 1) from' run'
  checked_more from' run' sound up from_is is few =
      let run_is = is ∙ run_more up in
      subst (λ v. Checked n ps ls (k + 1) v run') (sym from_is) (record {
        each_sound = λ f h. ⊎_elim (λ e. subst (λ j. SoundLane n ps (lane_at ls j)) (sym e) (subst (SoundLane n ps) (lane_read ls k there) sound)) (λ e. w.each_sound f (omega arith)) (cases_eq f k);
        in_order = λ f h. ⊎_elim (λ e. let l = w.last f e in let next : (lane_at ls (f + 1)).from ≡ lane.from = ap (λ j. (lane_at ls j).from) e ∙ same in omega arith) (λ e. w.in_order f (omega arith)) (cases_eq (f + 1) k);
        at_start = λ e. absurd (omega arith);
        last = λ f e. ap (λ j. (lane_at ls j).from) (let s : f ≡ k = omega arith in s) ∙ same;
        run_is = run_is;
        beyond = λ p h. count_other ls k there p (λ e. omega (arith, same)) ∙ w.beyond p (omega arith);
        few_leave = λ p. ⊎_elim
            (λ e. subst (λ q. length (leaving q 0 (take (k + 1) ls)) ≤ 64) e (omega arith))
            (λ e. let f = w.few_leave p in omega (arith, count_other ls k there p (λ h. e (sym same ∙ h))))
            (cases_eq lane.from p);
      })

  -- where the check stops before the end, the lanes break the rules

  pub not_sound : (SoundLane n ps lane → ⊥) → SoundLanes n (length ls) ps ls → ⊥
  not_sound none s = none (subst (SoundLane n ps) (sym (lane_read ls k there)) (s.each_sound k there))

  pub not_in_order : lane.from < previous → SoundLanes n (length ls) ps ls → ⊥
  not_in_order down s =
      ⊎_elim
      (λ e. let z = w.at_start e in omega arith)
      (λ e. let b : (k - 1) + 1 ≡ k = omega arith in
      let up = s.in_order (k - 1) (omega arith) in
      let next : (lane_at ls ((k - 1) + 1)).from ≡ lane.from = ap (λ j. (lane_at ls j).from) b ∙ same in
      let l = w.last (k - 1) b in omega arith)
      (cases_eq k 0)

  pub too_many : previous ≤ lane.from → 64 < cond (eqb lane.from previous) (run + 1) 1 → SoundLanes n (length ls) ps ls → ⊥
  too_many up h s = let few = s.few_leave lane.from in omega (arith, run_more up, count_upto ls lane.from (k + 1) (length ls) (omega arith) (omega arith))
