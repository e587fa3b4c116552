-- What the answers about ways tell. Assumes nothing.
use Rattle.std.proofs.Common.{◌≡◌, ℕ, zero, suc, ◌<◌, ◌≤◌, true, List, [], ◌∷◌, length, get_or, Some, sym, refl, ◌∙◌, subst, ⊎_elim, not-suc-le-zero, arith}
use mathlib.Core.List.{Memᴰ}
use Rattle.cost.specs.declared.lengths.Length.TheVariants.{Finite}
use Rattle.cost.specs.Costs.{Kind, Laws}
use Rattle.cost.specs.Lengths.{Within}
use Rattle.cost.proofs.LengthLemmas.{within_finite, within_infinite, length_cases}
use Rattle.routes.specs.Sites.{Meaning, Way, Lawful}
use Rattle.site.specs.declared.Way.{Way as WayOut}
use Rattle.site.specs.Questions.{WayAt}

mem_at : {X : Type 0} (xs : List X) (i : ℕ) (d : X) → i < length xs → Memᴰ (get_or xs i d) xs
mem_at [] i d h = absurd (not-suc-le-zero h)
mem_at (x ∷ xs) zero d h = Memᴰ.head refl
mem_at (x ∷ xs) (suc i) d h = Memᴰ.tail (mem_at xs i d (omega arith))

at_mem : {X : Type 0} {x : X} {xs : List X} (d : X) → Memᴰ x xs → (i : ℕ) × (i < length xs) × (get_or xs i d ≡ x)
at_mem d (Memᴰ.head e) = (0, omega arith, sym e)
at_mem d (Memᴰ.tail h) = let r = at_mem d h in let l = r.1 in (suc r.0, omega arith, r.2)

pub way_found : {C : Type 0} (m : Meaning C) (p i : ℕ) (w : WayOut) → WayAt m p i (Some w) → Way m p w.end w.segment
way_found m p i w at = subst (λ x. Memᴰ x (m.ways p)) at.2 (mem_at (m.ways p) i (0, 0) at.1)

-- what holds of the ways at each index holds of each way
pub ways_each : {C : Type 0} (m : Meaning C) (P : ℕ × ℕ → Type 0) (p i : ℕ) → length (m.ways p) ≤ i → ((j : ℕ) → j < i → P (get_or (m.ways p) j (0, 0))) → (u f : ℕ) → Way m p u f → P (u, f)
ways_each m P p i all h u f way =
    let found = at_mem (0, 0) way in
    let l = found.1 in
    subst P found.2 (h found.0 (omega arith))

-- the present cost of a segment lies within the ceiling
module _ {C : Type 0} {K : Kind C} (laws : Laws K) (m : Meaning C) (lawful : Lawful K m) where
  segment_within : (c : C) → K.segment c ≡ true → Within K (Finite c)
  segment_within c h = within_finite laws (subst (λ x. K.within x ≡ true) (laws.sum_commutative c K.zero ∙ laws.zero_neutral c) (laws.segments_within (c ∷ []) (h, tt) (omega arith)))

  pub state_within : (f : ℕ) → f < m.segments → Within K (m.state f)
  state_within f h = ⊎_elim
      (λ i. subst (Within K) (sym i) (within_infinite laws))
      (λ c. subst (Within K) (sym c.1) (segment_within c.0 (lawful.state_segment f c.0 h c.1)))
      (length_cases (m.state f))
