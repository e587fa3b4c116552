-- The lanes that leave a place, one lane after another. Assumes nothing.
use Rattle.std.proofs.Common.{◌≡◌, ℕ, zero, suc, ◌+◌, ◌-◌, ◌<◌, ◌≤◌, cond, eqb, List, [], ◌∷◌, ◌++◌, length, get_or, take, sym, ap, ◌∙◌, subst, inl, inr, ⊎_elim, arith}
use Rattle.std.proofs.lemmas.List.{get_or_default, take_more, length-append, length-take-le, append-nil}
use Rattle.std.proofs.lemmas.Bool.{cases_eq, eq-eqb, ne_eqb, cond-true, cond-false}
use Rattle.tables.specs.Tapes.{leaving, lane_at, no_lane}
use Rattle.tape_notes.specs.Noting.{over}
use Rattle.tables.specs.declared.tape.Lane.{Lane}
use Rattle.tables.specs.declared.State.TheVariants.{Closed}

-- what the code reads past the end of the lanes; within them the default does not matter
abbrev pub blank : Lane
blank = record { from = 0; to = 0; floor = record { crossings = 0; milliseconds = 0 }; state = Closed; entering = 0; slot = 0 }

pub lane_read : (ls : List Lane) (k : ℕ) → k < length ls → get_or ls k blank ≡ lane_at ls k
lane_read ls k there = get_or_default ls k blank no_lane there

-- what one lane adds
abbrev pub adds : ℕ → Lane → ℕ → List (ℕ × ℕ)
adds p l f = cond (eqb l.from p) (over l f ∷ []) []

leaving_push : (p a : ℕ) (xs : List Lane) (l : Lane) → leaving p a (xs ++ l ∷ []) ≡ leaving p a xs ++ adds p l (a + length xs)
leaving_push p a [] l = ap (λ k. adds p l k) (let e : a ≡ a + 0 = omega arith in e)
leaving_push p a (x ∷ xs) l =
    let more = leaving_push p (a + 1) xs l ∙ ap (λ k. leaving p (a + 1) xs ++ adds p l k) (let e : (a + 1) + length xs ≡ a + suc (length xs) = omega arith in e) in
    ⊎_elim
    (λ e. cond-true _ _ _ e ∙ ap (λ ws. over x a ∷ ws) more ∙ ap (λ ws. ws ++ adds p l (a + suc (length xs))) (sym (cond-true _ (over x a ∷ leaving p (a + 1) xs) (leaving p (a + 1) xs) e)))
    (λ e. cond-false _ _ _ e ∙ more ∙ ap (λ ws. ws ++ adds p l (a + suc (length xs))) (sym (cond-false _ (over x a ∷ leaving p (a + 1) xs) (leaving p (a + 1) xs) e)))
    (⊎_elim (λ e. inl (eq-eqb x.from p e)) (λ e. inr (ne_eqb x.from p e)) (cases_eq x.from p))

module _ (ls : List Lane) (k : ℕ) (there : k < length ls) (p : ℕ) where
  pub leaving_more : leaving p 0 (take (k + 1) ls) ≡ leaving p 0 (take k ls) ++ adds p (lane_at ls k) k
  leaving_more =
      ap (leaving p 0) (take_more ls k no_lane there)
      ∙ leaving_push p 0 (take k ls) (lane_at ls k)
      ∙ ap (λ j. leaving p 0 (take k ls) ++ adds p (lane_at ls k) j) (let e : 0 + length (take k ls) ≡ k = omega (arith, length-take-le k ls (omega arith)) in e)

  pub leaving_here : (lane_at ls k).from ≡ p → leaving p 0 (take (k + 1) ls) ≡ leaving p 0 (take k ls) ++ (over (lane_at ls k) k ∷ [])
  leaving_here e = leaving_more ∙ ap (λ ws. leaving p 0 (take k ls) ++ ws) (cond-true _ _ _ (eq-eqb _ _ e))

  pub leaving_other : ((lane_at ls k).from ≡ p → ⊥) → leaving p 0 (take (k + 1) ls) ≡ leaving p 0 (take k ls)
  leaving_other e = leaving_more ∙ ap (λ ws. leaving p 0 (take k ls) ++ ws) (cond-false _ _ _ (ne_eqb _ _ e)) ∙ append-nil _

  pub count_here : (lane_at ls k).from ≡ p → length (leaving p 0 (take (k + 1) ls)) ≡ length (leaving p 0 (take k ls)) + 1
  count_here e = ap length (leaving_here e) ∙ length-append (leaving p 0 (take k ls)) (over (lane_at ls k) k ∷ [])

  pub count_other : ((lane_at ls k).from ≡ p → ⊥) → length (leaving p 0 (take (k + 1) ls)) ≡ length (leaving p 0 (take k ls))
  count_other e = ap length (leaving_other e)

  pub count_grows : length (leaving p 0 (take k ls)) ≤ length (leaving p 0 (take (k + 1) ls))
  count_grows = ⊎_elim (λ e. omega (arith, count_here e)) (λ e. omega (arith, count_other e)) (cases_eq (lane_at ls k).from p)

-- more lanes, no fewer that leave
pub count_mono : (ls : List Lane) (p k d : ℕ) → k + d ≤ length ls → length (leaving p 0 (take k ls)) ≤ length (leaving p 0 (take (k + d) ls))
count_mono ls p k zero h = let e : k + 0 ≡ k = omega arith in subst (λ j. length (leaving p 0 (take k ls)) ≤ length (leaving p 0 (take j ls))) (sym e) (omega arith)
count_mono ls p k (suc d) h =
    let e : (k + d) + 1 ≡ k + suc d = omega arith in
    subst (λ j. length (leaving p 0 (take k ls)) ≤ length (leaving p 0 (take j ls))) e
    (omega (arith, count_mono ls p k d (omega arith), count_grows ls (k + d) (omega arith) p))

pub count_upto : (ls : List Lane) (p k m : ℕ) → k ≤ m → m ≤ length ls → length (leaving p 0 (take k ls)) ≤ length (leaving p 0 (take m ls))
count_upto ls p k m low h =
    let e : k + (m - k) ≡ m = omega arith in
    subst (λ j. length (leaving p 0 (take k ls)) ≤ length (leaving p 0 (take j ls))) e (count_mono ls p k (m - k) (omega arith))
