-- The walk back by the links, and the list of its places. Assumes nothing.
use Rattle.std.proofs.Common.{◌≡◌, ℕ, zero, suc, ◌+◌, ◌-◌, ◌<◌, ◌≤◌, true, false, not, List, [], ◌∷◌, ◌++◌, length, get_or, drop, set, sym, refl, ap, ◌∙◌, subst, ⊎_elim, true≢false, add-one, arith}
use mathlib.Core.Bool.{false≢true}
use Rattle.std.proofs.lemmas.List.{get_or_read, drop-set}
use Rattle.std.proofs.lemmas.Bool.{cases_lt}
use Rattle.cost.specs.Costs.{Kind, Laws}
use Rattle.cost.specs.Lengths.{AtMost, length_le}
use Rattle.cost.specs.declared.lengths.Length.{Length}
use Rattle.cost.proofs.LengthLemmas.{at_most_trans, at_most_refl, at_most_of_not, tested}
use Rattle.routes.proofs.Counts.{count_strict, count_all}
use Rattle.routes.proofs.Links.{nearer, rank}
use Rattle.sheet.specs.declared.Entry.{Entry}
use Rattle.sheet.specs.Sheets.{blank, distance_of, link_of}
use Rattle.search.specs.Trails.{walk, trail, Led, LinksBack, Walked}

pub read_link : {C : Type 0} (sheet : List (Entry C)) (p : ℕ) (old : Entry C) → p < length sheet → old ≡ get_or sheet p old → (get_or sheet p old).link ≡ link_of sheet p
read_link sheet p old listed is = ap (λ e. e.link) (sym is ∙ get_or_read sheet p old listed is blank)

module _ (link : ℕ → ℕ) where
  pub walk_suc : (k s : ℕ) → walk link (suc k) s ≡ link (walk link k s)
  unfolding walk
  walk_suc zero s = refl
  walk_suc (suc k) s = walk_suc k (link s)

  pub walk_more : (k s : ℕ) → walk link (k + 1) s ≡ link (walk link k s)
  walk_more k s = ap (λ j. walk link j s) (add-one k) ∙ walk_suc k s

  pub walk_zero : (s : ℕ) → walk link 0 s ≡ s
  unfolding walk
  walk_zero s = refl

  pub trail_front : (k s : ℕ) → trail link (suc k) s ≡ walk link k s ∷ trail link k s
  unfolding walk trail
  trail_front zero s = refl
  trail_front (suc k) s = ap (λ ps. ps ++ (s ∷ [])) (trail_front k (link s))

  pub trail_zero : (s : ℕ) → trail link 0 s ≡ []
  unfolding trail
  trail_zero s = refl

module _ {C : Type 0} {K : Kind C} (laws : Laws K) (n : ℕ) (g : ℕ → Length C) where
  nearer_of : (s y : ℕ) → nearer K g s y ≡ true → length_le K (g s) (g y) ≡ false
  nearer_of s y h = ⊎_elim (λ e. absurd (false≢true ((rw e at h)))) (λ e. e) (tested (length_le K (g s) (g y)))

  pub nearer_rank : (s p : ℕ) → p < n → length_le K (g s) (g p) ≡ false → rank K n g p < rank K n g s
  unfolding rank
  nearer_rank s p h near = count_strict (nearer K g p) (nearer K g s) n p h
      (λ y m. ⊎_elim
      (λ e.
      let further : AtMost K (g s) (g y) = record { holds = e } in
      let near' : AtMost K (g y) (g p) = at_most_of_not laws (nearer_of p y m) in
      absurd (true≢false (sym (at_most_trans laws further near').holds ∙ near)))
      (λ e. ap not e)
      (tested (length_le K (g s) (g y))))
      (ap not (at_most_refl laws (g p)).holds)
      (ap not near)

  pub rank_below : (s : ℕ) → s < n → rank K n g s < n
  unfolding rank
  rank_below s h = omega (arith, count_strict (nearer K g s) (λ _. true) n s h (λ _ _. refl) (ap not (at_most_refl laws (g s)).holds) refl, count_all n)

module _ {C : Type 0} {K : Kind C} (laws : Laws K) (sheet : List (Entry C)) (start target : ℕ) where
  pub walked_none : Led sheet target → Walked sheet start target target 0
  walked_none led = record {
    led = led;
    short = omega (arith, led.0);
    here = walk_zero (link_of sheet) target;
    others = λ j l. absurd (omega arith);
    places = λ j l. let z : j ≡ 0 = omega arith in subst (λ i. walk (link_of sheet) i target < length sheet) (sym z) (subst (λ p. p < length sheet) (sym (walk_zero (link_of sheet) target)) led.0);
  }

  module _ (place k : ℕ) (walked : Walked sheet start target place k) (leads : LinksBack K sheet start) (away : place ≡ start → ⊥) where
    next : walk (link_of sheet) (k + 1) target ≡ link_of sheet place
    next = walk_more (link_of sheet) k target ∙ ap (link_of sheet) walked.here

    pub walked_rank : rank K (length sheet) (distance_of sheet) (link_of sheet place) < rank K (length sheet) (distance_of sheet) place
    walked_rank = nearer_rank laws (length sheet) (distance_of sheet) place (link_of sheet place) (leads place walked.led away).0.0 (leads place walked.led away).1

    pub walked_more : k + 1 < length sheet → Walked sheet start target (link_of sheet place) (k + 1)
    walked_more short = record {
      led = (leads place walked.led away).0;
      short = short;
      here = next;
      others = λ j l same. ⊎_elim (λ below. walked.others j below same) (λ past. let z : j ≡ k = omega arith in away (sym walked.here ∙ ap (λ i. walk (link_of sheet) i target) (sym z) ∙ same)) (cases_lt j k);
      places = λ j l. ⊎_elim
          (λ below. walked.places j (omega arith))
          (λ past. let z : j ≡ k + 1 = omega arith in subst (λ i. walk (link_of sheet) i target < length sheet) (sym z) (subst (λ p. p < length sheet) (sym next) (leads place walked.led away).0.0))
          (cases_lt j (k + 1));
    }

-- one place more is written, from the back
module _ (link : ℕ → ℕ) (target count left : ℕ) (some : 0 < left) (fits : left ≤ count) where
  pub less_left : count - (left - 1) ≡ suc (count - left)
  less_left = omega arith

  pub walk_back : (place : ℕ) → place ≡ walk link (count - left) target → link place ≡ walk link (count - (left - 1)) target
  walk_back place is = ap link is ∙ sym (walk_suc link (count - left) target) ∙ ap (λ k. walk link k target) (sym less_left)

  pub write_back : (list rest : List ℕ) (place : ℕ) → left ≤ length list → place ≡ walk link (count - left) target → drop left list ≡ trail link (count - left) target ++ rest → drop (left - 1) (set list (left - 1) place) ≡ trail link (count - (left - 1)) target ++ rest
  write_back list rest place room is written =
      let same : left - 1 + 1 ≡ left = omega arith in
      drop-set list (left - 1) place (omega arith)
      ∙ ap (λ i. place ∷ drop i list) same
      ∙ ap (λ ps. place ∷ ps) written
      ∙ ap (λ p. p ∷ (trail link (count - left) target ++ rest)) is
      ∙ ap (λ ps. ps ++ rest) (sym (trail_front link (count - left) target) ∙ ap (λ k. trail link k target) (sym less_left))
