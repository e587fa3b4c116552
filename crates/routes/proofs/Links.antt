-- The links of a search lead back to the start, along a route of the cost found.
use mathlib.Core.Path.{◌≡◌, refl, sym, ap, ap₂, subst, ◌∙◌}
use mathlib.Core.Bool.{Bool, true, false, not, true≢false, false≢true}
use mathlib.Core.Logic.{⊎_elim}
use mathlib.Core.List.{List, [], ◌∷◌, ◌++◌}
use Prim.Native.Nat.{ℕ, zero, suc, ◌≤◌, ◌<◌}
use native.Mathlib.Omega.{arith}
use native.Mathlib.Decide.{ℕ_discrete}
use lib.ListN.{length, length-append}
use Rattle.cost.specs.declared.lengths.Length.{Length}
use Rattle.cost.specs.declared.lengths.Length.TheVariants.{Finite}
use Rattle.cost.specs.Costs.{Kind, Laws, Positive}
use Rattle.cost.specs.Lengths.{AtMost, length_le, sum, origin}
use Rattle.routes.specs.Sites.{Meaning, Lawful}
use Rattle.routes.specs.Routes.{step, route_cost, distance, Route}
use Rattle.routes.specs.Counts.{count}
use Rattle.routes.specs.Loops.{Searching, Expands, Linked, Relinks, Along}
use Rattle.cost.proofs.LengthLemmas.{tested, at_most_refl, at_most_trans, at_most_of_not, sum_finite}
use Rattle.routes.proofs.Distances.{last, finite_route, step_segment, last_append, cost_push}
use Rattle.routes.proofs.Counts.{count_strict, count_all}
use Rattle.routes.proofs.Search.{searching_turn}

pub along_append : (marked : ℕ → Bool) (s : ℕ) (ps : List ℕ) (u : ℕ) → Along marked s ps → marked (last s ps) ≡ true → Along marked s (ps ++ (u ∷ []))
along_append marked s [] u a h = (h, tt)
along_append marked s (v ∷ ps) u a h = (a.0, along_append marked v ps u a.1 h)

-- y is strictly nearer than s
abbrev pub nearer : {C : Type 0} → Kind C → (ℕ → Length C) → ℕ → ℕ → Bool
nearer K g s y = not (length_le K (g s) (g y))

-- how many of n places are strictly nearer than s
unfoldable pub rank : {C : Type 0} → Kind C → ℕ → (ℕ → Length C) → ℕ → ℕ
rank K n g s = count (nearer K g s) n

module _ {C : Type 0} {K : Kind C} (laws : Laws K) {m : Meaning C} (lawful : Lawful K m) where
  nearer_of : (g : ℕ → Length C) (s y : ℕ) → nearer K g s y ≡ true → length_le K (g s) (g y) ≡ false
  nearer_of g s y h = ⊎_elim (λ e. absurd (false≢true ((rw e at h)))) (λ e. e) (tested (length_le K (g s) (g y)))

  pub rank_falls : (g : ℕ → Length C) (s p : ℕ) → p < m.places → length_le K (g s) (g p) ≡ false → rank K m.places g p < rank K m.places g s
  unfolding rank
  rank_falls g s p h near = count_strict (nearer K g p) (nearer K g s) m.places p h
      (λ y n. ⊎_elim
      (λ e.
      let further : AtMost K (g s) (g y) = record { holds = e } in
      let near' : AtMost K (g y) (g p) = at_most_of_not laws (nearer_of g p y n) in
      absurd (true≢false (sym (at_most_trans laws further near').holds ∙ near)))
      (λ e. ap not e)
      (tested (length_le K (g s) (g y))))
      (ap not (at_most_refl laws (g p)).holds)
      (ap not near)

  rank_below : (g : ℕ → Length C) (s : ℕ) → s < m.places → rank K m.places g s < m.places
  unfolding rank
  rank_below g s h = omega (arith, count_strict (nearer K g s) (λ _. true) m.places s h (λ _ _. refl) (ap not (at_most_refl laws (g s)).holds) refl, count_all m.places)

  -- a turn keeps the links
  pub links_turn : (start : ℕ) (first : start < m.places) (g h : ℕ → Length C) (marked marked' : ℕ → Bool) (link link' : ℕ → ℕ) (x : ℕ) → x < m.places → g x ≡ distance K m start x → Searching K m start g marked → Expands K m x g h marked marked' → Linked K m start g marked link → Relinks K m x g h link link' → Linked K m start h marked' link'
  links_turn start first g h marked marked' link link' x hx final inv turn links relinks = record {
    place = λ s c l other e. (all s c l other e).0;
    from_marked = λ s c l other e. (all s c l other e).1;
    cost = λ s c l other e. (all s c l other e).2;
  }
    where
      after : Searching K m start h marked'
      after = searching_turn laws lawful start first g h marked marked' x hx final inv turn

      From : ℕ → ℕ → Type 0
      From s p = (p < m.places) × (marked' p ≡ true) × (h s ≡ sum K (h p) (step K m p s))

      all : (s : ℕ) (c : C) → s < m.places → (s ≡ start → ⊥) → h s ≡ Finite c → From s (link' s)
      all s c l other e = ⊎_elim
          (λ old.
          let e' : g s ≡ Finite c = sym old.0 ∙ e in
          let p = link s in
          let hp = links.place s c l other e' in
          let cp = links.from_marked s c l other e' in
          let same : h p ≡ g p = after.final p hp (turn.stays p hp cp) ∙ sym (inv.final p hp cp) in
          subst (From s) (sym old.1) (hp, turn.stays p hp cp, old.0 ∙ links.cost s c l other e' ∙ ap (λ d. sum K d (step K m p s)) (sym same)))
          (λ now.
          let same : h x ≡ g x = after.final x hx turn.marked_now ∙ sym final in
          subst (From s) (sym now.1) (hx, turn.marked_now, now.0 ∙ ap (λ d. sum K d (step K m x s)) (sym same)))
          (relinks.either s l)

-- a route of at most k steps from the start to s, of the cost found, each place of it marked but the last
abbrev pub Found : {C : Type 0} → Kind C → Meaning C → ℕ → (ℕ → Length C) → (ℕ → Bool) → ℕ → ℕ → Type 0
Found K m start g marked k s = (ps : List ℕ) × (length ps ≤ k) × (last start ps ≡ s) × (route_cost K m start ps ≡ g s) × Along marked start ps

-- the cost of a route with one step more
pub push_found : {C : Type 0} {K : Kind C} (laws : Laws K) (m : Meaning C) (start : ℕ) (g : ℕ → Length C) (p s : ℕ) (ps : List ℕ) → last start ps ≡ p → route_cost K m start ps ≡ g p → g s ≡ sum K (g p) (step K m p s) → route_cost K m start (ps ++ (s ∷ [])) ≡ g s
push_found {K = K} laws m start g p s ps ends costs through = cost_push laws m start ps s ∙ ap₂ (λ d y. sum K d (step K m y s)) costs ends ∙ sym through

-- Every segment costs more than zero.
module _ {C : Type 0} {K : Kind C} (laws : Laws K) (positive : Positive K) {m : Meaning C} (lawful : Lawful K m) where
  positive_greater : (d w : Length C) (x y : C) → d ≡ Finite x → w ≡ Finite y → K.segment y ≡ true → length_le K (sum K d w) d ≡ false
  positive_greater d w x y e f segment =
      let greater : K.le (K.add y x) (K.add K.zero x) ≡ false = laws.sum_strict K.zero y x (positive.segment_above_zero y segment) in
      rw (e, f, laws.sum_commutative x y) (rw (laws.zero_neutral x) at greater)

  -- a step makes a length strictly greater
  pub step_greater : (d : Length C) (p s : ℕ) (c : C) → sum K d (step K m p s) ≡ Finite c → length_le K (sum K d (step K m p s)) d ≡ false
  step_greater d p s c e =
      let parts = sum_finite K d (step K m p s) c e in
      positive_greater d (step K m p s) parts.0 parts.1 parts.2 parts.3 (step_segment laws lawful p s parts.1 parts.3)

  module _ (start : ℕ) where
    -- by a link the rank falls
    pub link_falls : (g : ℕ → Length C) (marked : ℕ → Bool) (link : ℕ → ℕ) → Linked K m start g marked link → (s : ℕ) (c : C) → s < m.places → (s ≡ start → ⊥) → g s ≡ Finite c → rank K m.places g (link s) < rank K m.places g s
    link_falls g marked link links s c h other e =
        let through = links.cost s c h other e in
        let greater = step_greater (g (link s)) (link s) s c (sym through ∙ e) in
        rank_falls laws lawful g s (link s) (links.place s c h other e) (subst (λ d. length_le K d (g (link s)) ≡ false) (sym through) greater)

    -- so the links lead back to the start, along a route of the cost found
    pub back : (g : ℕ → Length C) (marked : ℕ → Bool) (link : ℕ → ℕ) → g start ≡ origin K → Linked K m start g marked link → (k s : ℕ) (c : C) → rank K m.places g s ≤ k → s < m.places → g s ≡ Finite c → Found K m start g marked k s
    back g marked link z links zero s c r h e = elim (ℕ_discrete s start) [ yes same ↦ ([], (omega arith), sym same, sym (ap g same ∙ z), tt) | no other ↦ absurd (let f = link_falls g marked link links s c h other e in omega arith) ]
    back g marked link z links (suc k) s c r h e = go (ℕ_discrete s start) (λ c l. back g marked link z links k (link s) c l)
      where
        go : Dec (s ≡ start) → ((c : C) → rank K m.places g (link s) ≤ k → link s < m.places → g (link s) ≡ Finite c → Found K m start g marked k (link s)) → Found K m start g marked (suc k) s
        go (yes same) ih = ([], (omega arith), sym same, sym (ap g same ∙ z), tt)
        go (no other) ih =
            let falls = link_falls g marked link links s c h other e in
            let through = links.cost s c h other e in
            let parts = sum_finite K (g (link s)) (step K m (link s) s) c (sym through ∙ e) in
            let q = ih parts.0 (omega arith) (links.place s c h other e) parts.2 in
            let joined = push_found laws m start g (link s) s q.0 q.2 q.3 through in
            (q.0 ++ (s ∷ []), (omega (arith, length-append q.0 (s ∷ []), q.1)), last_append laws m start q.0 (s ∷ []), joined, along_append marked start q.0 s q.4 (subst (λ p. marked p ≡ true) (sym q.2) (links.from_marked s c h other e)))

    pub link_route : (g : ℕ → Length C) (marked : ℕ → Bool) (link : ℕ → ℕ) → g start ≡ origin K → Linked K m start g marked link → (s : ℕ) (c : C) → s < m.places → g s ≡ Finite c → (ps : List ℕ) × Route m start s ps × (length ps < m.places) × (route_cost K m start ps ≡ g s) × Along marked start ps
    link_route g marked link z links s c h e =
        let q = back g marked link z links (rank K m.places g s) s c (omega arith) h e in
        (q.0, subst (λ t. Route m start t q.0) q.2 (finite_route laws m start q.0 c (q.3 ∙ e)), (omega (arith, q.1, rank_below laws lawful g s h)), q.3, q.4)
