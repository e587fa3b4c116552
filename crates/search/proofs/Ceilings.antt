-- A distance found is the sum of at most 4,095 segment costs, so within the ceiling. Assumes nothing.
use Rattle.std.proofs.Common.{◌≡◌, ℕ, ◌+◌, ◌<◌, Bool, true, false, not, eqb, ◌∷◌, sym, refl, ap, ◌∙◌, subst, ⊎_elim, true≢false, arith}
use mathlib.Core.Bool.{false≢true}
use Rattle.std.proofs.lemmas.Bool.{cases_eq, eq-eqb, ne_eqb}
use Rattle.cost.specs.Costs.{Kind, Laws, Positive}
use Rattle.cost.specs.Lengths.{AtMost, Within, length_le, sum}
use Rattle.routes.specs.Sites.{Meaning, Way, Lawful}
use Rattle.routes.specs.Loops.{Searching, Linked}
use Rattle.cost.specs.declared.lengths.Length.{Length}
use Rattle.cost.proofs.LengthLemmas.{at_most_trans, at_most_refl, at_most_of_not, at_most_sum_left}
use Rattle.cost.proofs.LengthLemmas.{sum_finite}
use Rattle.routes.proofs.Distances.{cost_segments}
use Rattle.routes.proofs.Counts.{count_strict, count_all}
use Rattle.routes.proofs.Links.{nearer, rank, back}

module _ {C : Type 0} {K : Kind C} (laws : Laws K) (positive : Positive K) {m : Meaning C} (lawful : Lawful K m) (start : ℕ) (first : start < m.places)
    (g : ℕ → Length C) (closed : ℕ → Bool) (link : ℕ → ℕ) (inv : Searching K m start g closed) (links : Linked K m start g closed link)
    (x : ℕ) (place : x < m.places) (u f : ℕ) (way : Way m x u f) (above : length_le K (g u) (sum K (g x) (m.state f)) ≡ false) where
  end : u < m.places
  end = lawful.way_place x u f way

  apart : x ≡ u → ⊥
  apart same = true≢false (sym (subst (λ v. AtMost K (g v) (sum K (g x) (m.state f))) same (at_most_sum_left laws (g x) (m.state f))).holds ∙ above)

  -- u is not nearer than x
  further : length_le K (g x) (g u) ≡ true
  further = let low : AtMost K (sum K (g x) (m.state f)) (g u) = at_most_of_not laws above in (at_most_trans laws (at_most_sum_left laws (g x) (m.state f)) low).holds

  other : ℕ → Bool
  other y = not (eqb y u)

  nearer_other : (y : ℕ) → nearer K g x y ≡ true → other y ≡ true
  unfolding other
  nearer_other y near = ⊎_elim
      (λ (e : y ≡ u). absurd (false≢true (sym (ap not further) ∙ subst (λ z. nearer K g x z ≡ true) e near)))
      (λ (e : y ≡ u → ⊥). ap not (ne_eqb y u e)) (cases_eq y u)

  -- neither x nor u is nearer than x
  rank_low : rank K m.places g x + 1 < m.places
  unfolding rank other
  rank_low =
      let a = count_strict (nearer K g x) other m.places x place nearer_other (ap not (at_most_refl laws (g x)).holds) (ap not (ne_eqb x u apart)) in
      let b = count_strict other (λ _. true) m.places u end (λ _ _. refl) (ap not (eq-eqb u u refl)) refl in
      omega (arith, a, b, count_all m.places)

  pub found_within : Within K (sum K (g x) (m.state f))
  found_within = record {
    fits = λ c e.
        let parts = sum_finite K (g x) (m.state f) c e in
        let a = parts.0 in
        let b = parts.1 in
        let found = back laws positive lawful start g closed link inv.at_start links (rank K m.places g x) x a (omega arith) place parts.2 in
        let segments = cost_segments laws lawful start found.0 a (found.3 ∙ parts.2) in
        let one : K.segment b ≡ true = lawful.state_segment f b (lawful.way_segment x u f way) parts.3 in
        let all = laws.segments_within (b ∷ segments.0) (one, segments.1) (omega (arith, segments.2, found.1, rank_low, lawful.places_few)) in
        subst (λ v. K.within v ≡ true) (ap (K.add b) (sym segments.3) ∙ laws.sum_commutative b a ∙ parts.4) all;
  }
