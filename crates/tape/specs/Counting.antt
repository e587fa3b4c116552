-- Lists made by counting. Assumes nothing.
use Rattle.std.proofs.Common.{◌≡◌, ℕ, zero, suc, ◌+◌, ◌<◌, ◌≤◌, map, Some, None, refl, ap, ◌∙◌, ⊎_elim, arith}
use mathlib.Core.List.Memᴰ
use mathlib.Core.List.{Memᴰ}
use Rattle.std.specs.List.{slice_get, range_with_len}
use Rattle.std.proofs.lemmas.List.FromFn.{length-map-range_with_len, get_or-map-range_with_len}
use Rattle.std.proofs.lemmas.Option.{slice_get-get_or, slice_get_past}

module _ {X : Type 0} (f : ℕ → X) where
  -- what such a list has at an index
  pub counted_past : (a c i : ℕ) → c ≤ i → slice_get (map f (range_with_len a c)) i ≡ None
  counted_past a c i h = slice_get_past _ i (omega (arith, length-map-range_with_len f a c))

  pub counted_at : (a c i : ℕ) → i < c → slice_get (map f (range_with_len a c)) i ≡ Some (f (a + i))
  counted_at a c i h = slice_get-get_or (map f (range_with_len a c)) i (f 0) (omega (arith, length-map-range_with_len f a c)) ∙ ap Some (get_or-map-range_with_len f a c i (a + i) (f 0) h refl)

  -- its members come from the numbers counted
  pub counted_from : (a c : ℕ) (x : X) → Memᴰ x (map f (range_with_len a c)) → (i : ℕ) × (i < c) × (x ≡ f (a + i))
  counted_from a zero x h = absurd (Memᴰ.not-nil h)
  counted_from a (suc c) x h =
      ⊎_elim
      (λ e. (0, omega arith, e ∙ ap f (let z : a ≡ a + 0 = omega arith in z)))
      (λ more. let r = counted_from (a + 1) c x more in (r.0 + 1, omega (arith, r.1), r.2 ∙ ap f (let z : (a + 1) + r.0 ≡ a + (r.0 + 1) = omega arith in z)))
      (Memᴰ.cases_cons h)

  pub counted_member : (a c i : ℕ) → i < c → Memᴰ (f (a + i)) (map f (range_with_len a c))
  counted_member a zero i h = absurd (omega arith)
  counted_member a (suc c) zero h = Memᴰ.head (ap f (let z : a + 0 ≡ a = omega arith in z))
  counted_member a (suc c) (suc i) h = Memᴰ.tail (Memᴰ.cast (ap f (let z : a + suc i ≡ (a + 1) + i = omega arith in z)) (counted_member (a + 1) c i (omega arith)))
