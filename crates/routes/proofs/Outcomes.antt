-- What a search leaves at its end.
use mathlib.Core.Path.{◌≡◌, sym, ap, subst, ◌∙◌}
use mathlib.Core.Bool.{Bool, false, true≢false, false≢true}
use mathlib.Core.Logic.{⊎_elim}
use Prim.Native.Nat.{ℕ, ◌<◌}
use Rattle.cost.specs.declared.lengths.Length.{Length}
use Rattle.cost.specs.declared.lengths.Length.TheVariants.{Finite, Infinite}
use Rattle.cost.specs.Costs.{Kind, Laws, Positive}
use Rattle.cost.specs.Lengths.{AtMost, sum, remainder, greater}
use Rattle.routes.specs.Sites.{Meaning, Lawful}
use Rattle.routes.specs.Routes.{step, distance}
use Rattle.routes.specs.Estimates.{searched, Sound}
use Rattle.routes.specs.Loops.{Searching, Least, Expands, Linked, Opening, Outcome}
use Rattle.cost.proofs.LengthLemmas.{tested, at_most_infinite, sum_origin, sum_finite}
use Rattle.routes.proofs.Search.{least_final, target_final, none_left, least_answer, unmarked_answer, unmarked_kept}
use Rattle.routes.proofs.Links.{link_route}

module _ {C : Type 0} {K : Kind C} (laws : Laws K) {m : Meaning C} (lawful : Lawful K m) (start target : ℕ) (first : start < m.places) (end : target < m.places) (e : ℕ → Length C) (sound : Sound K m target e) where
  -- x is marked: a least sum, which is a cost, and not the target
  pub opening_turn : (g h : ℕ → Length C) (marked marked' : ℕ → Bool) (x : ℕ) (c : C) → Searching K m start g marked → Least K m e g marked x → sum K (g x) (e x) ≡ Finite c → (x ≡ target → ⊥) → Expands K m x g h marked marked' → Opening K m start target e marked → Opening K m start target e marked'
  opening_turn g h marked marked' x c inv least finite other turn opening = record {
    target_unmarked = ⊎_elim (λ d. absurd (⊎_elim (λ same. other (sym same)) (λ old. false≢true (sym opening.target_unmarked ∙ old)) (turn.marks target end d))) (λ h. h) (tested (marked' target));
    at_most_answer = λ s l d. ⊎_elim (λ same. subst (λ y. AtMost K (sum K (distance K m start y) (e y)) (distance K m start target)) (sym same) here) (λ old. opening.at_most_answer s l old) (turn.marks s l d);
    finite = λ s l d. ⊎_elim (λ same. subst (λ y. (c : C) × (sum K (distance K m start y) (e y) ≡ Finite c)) (sym same) (c, sum_x ∙ finite)) (λ old. opening.finite s l old) (turn.marks s l d);
  }
    where
      final : g x ≡ distance K m start x
      final = least_final laws lawful start first e sound.consistent g marked inv x c least finite

      sum_x : sum K (distance K m start x) (e x) ≡ sum K (g x) (e x)
      sum_x = ap (λ d. sum K d (e x)) (sym final)

      here : AtMost K (sum K (distance K m start x) (e x)) (distance K m start target)
      here = rw sum_x (least_answer laws lawful start first e sound.consistent g marked inv x target sound.target_zero least end opening.target_unmarked)

searched_at : {C : Type 0} (K : Kind C) (m : Meaning C) (start target : ℕ) (e : ℕ → Length C) (s : ℕ) (d : Length C) → d ≡ distance K m start s → searched K m start target e s ≡ greater K (e s) (remainder K (distance K m start target) d)
unfolding searched
searched_at K m start target e s d same = ap (λ x. greater K (e s) (remainder K (distance K m start target) x)) (sym same)

-- Every segment costs more than zero, so that the links give a route.
module _ {C : Type 0} {K : Kind C} (laws : Laws K) (positive : Positive K) {m : Meaning C} (lawful : Lawful K m) (start target : ℕ) (first : start < m.places) (end : target < m.places) (e : ℕ → Length C) (sound : Sound K m target e) where
  -- at the end no unmarked place has a sum below the answer, and the target has its distance if that is a cost
  pub outcome : (g : ℕ → Length C) (marked : ℕ → Bool) (link : ℕ → ℕ) → Searching K m start g marked → Linked K m start g marked link → Opening K m start target e marked → g target ≡ distance K m start target → ((y : ℕ) → y < m.places → marked y ≡ false → AtMost K (distance K m start target) (sum K (g y) (e y))) → Outcome K m start target e g marked link
  outcome g marked link inv links opening answer none = record {
    opens_below = λ s l below. ⊎_elim (λ h. h) (λ h. absurd (true≢false (sym (unmarked_answer laws lawful start first e sound.consistent g marked inv (distance K m start target) none s l h).holds ∙ below))) (tested (marked s));
    opens_none_above = opening.at_most_answer;
    opens_finite = opening.finite;
    target_unmarked = opening.target_unmarked;
    distances = inv.final;
    links = λ s l d other.
        let f = opening.finite s l d in
        let parts = sum_finite K (distance K m start s) (e s) f.0 f.1 in
        let known : g s ≡ Finite parts.0 = inv.final s l d ∙ parts.2 in
        let hp = links.place s parts.0 l other known in
        let cp = links.from_marked s parts.0 l other known in
        (hp, sym (inv.final s l d) ∙ links.cost s parts.0 l other known ∙ ap (λ d. sum K d (step K m (link s) s)) (inv.final (link s) hp cp));
    route = λ c finite.
        let r = link_route laws positive lawful start g marked link inv.at_start links target c end (answer ∙ finite) in
        (r.0, r.1, r.2, r.3 ∙ answer, r.4);
    raised = λ s l d. searched_at K m start target e s (g s) (inv.final s l d);
    kept = λ s l o. unmarked_kept laws lawful start first e sound.consistent g marked inv target none s l o;
  }

  -- it ends when the target has the least sum
  pub outcome_found : (g : ℕ → Length C) (marked : ℕ → Bool) (link : ℕ → ℕ) → Searching K m start g marked → Linked K m start g marked link → Opening K m start target e marked → Least K m e g marked target → Outcome K m start target e g marked link
  outcome_found g marked link inv links opening least =
      let answer = target_final laws lawful start first e sound.consistent g marked inv target sound.target_zero least in
      outcome g marked link inv links opening answer (λ y l o. subst (λ d. AtMost K d (sum K (g y) (e y))) (ap (sum K (g target)) sound.target_zero ∙ sum_origin laws (g target) ∙ answer) (least.minimal y l o))

  -- or when no unmarked place has a sum
  pub outcome_none : (g : ℕ → Length C) (marked : ℕ → Bool) (link : ℕ → ℕ) → Searching K m start g marked → Linked K m start g marked link → Opening K m start target e marked → ((y : ℕ) → y < m.places → marked y ≡ false → sum K (g y) (e y) ≡ Infinite) → Outcome K m start target e g marked link
  outcome_none g marked link inv links opening none =
      let far = none_left laws lawful start first e sound.consistent g marked inv target sound.target_zero end opening.target_unmarked none in
      let reached : g target ≡ Infinite = sym (ap (sum K (g target)) sound.target_zero ∙ sum_origin laws (g target)) ∙ none target end opening.target_unmarked in
      outcome g marked link inv links opening (reached ∙ sym far) (λ y l o. rw (none y l o) (at_most_infinite laws (distance K m start target)))
