-- Setting a segment keeps the rules, and where no cost falls it changes no sound estimate.
use mathlib.Core.Path.{◌≡◌, refl, sym, subst}
use mathlib.Core.Bool.{Bool, true, false, ◌&&◌, false≢true}
use mathlib.Core.Logic.{⊎_elim}
use Prim.Native.Nat.{ℕ, ◌<◌}
use lib.Dec.{eqb}
use borrow.Author.Tests.{eqb-true}
use Rattle.cost.specs.declared.lengths.Length.{Length}
use Rattle.cost.specs.declared.lengths.Length.TheVariants.{Finite, Infinite}
use Rattle.cost.specs.Costs.{Kind, Laws}
use Rattle.cost.specs.Lengths.{AtMost}
use Rattle.routes.specs.Sites.{Meaning, Lawful, set_segment, allowed}
use Rattle.routes.specs.Estimates.{Consistent, altered, Sound}
use Rattle.cost.proofs.LengthLemmas.{tested, finite_inj, infinite_not_finite, at_most_refl, at_most_trans, sum_left}
use Rattle.routes.proofs.Estimates.{consistent_way}
use Rattle.routes.proofs.Relaxation.{altered_same}

and_true : (a b : Bool) → (a && b) ≡ true → (a ≡ true) × (b ≡ true)
and_true true b e = (refl, e)
and_true false b e = absurd (false≢true e)

module _ {C : Type 0} {K : Kind C} (laws : Laws K) where
  allowed_cost : (floor : C) (x : Length C) (c : C) → allowed K floor x ≡ true → x ≡ Finite c → (K.segment c ≡ true) × (K.le floor c ≡ true)
  allowed_cost floor (Finite d) c ok e = subst (λ y. (K.segment y ≡ true) × (K.le floor y ≡ true)) (finite_inj e) (and_true (K.segment d) (K.le floor d) ok)
  allowed_cost floor Infinite c ok e = absurd (infinite_not_finite e)

  -- the state of a segment after one is set
  set_state : (m : Meaning C) (f : ℕ) (x : Length C) (g : ℕ) (c : C) → g < m.segments → allowed K (m.floor f) x ≡ true → Lawful K m → (set_segment m f x).state g ≡ Finite c → (K.segment c ≡ true) × (K.le (m.floor g) c ≡ true)
  set_state m f x g c l ok lawful e = ⊎_elim
      (λ h. subst (λ y. (K.segment c ≡ true) × (K.le (m.floor y) c ≡ true)) (sym (eqb-true g f h)) (allowed_cost (m.floor f) x c ok (rw h at e)))
      (λ h. let old : m.state g ≡ Finite c = rw h at e in (lawful.state_segment g c l old, lawful.state_floor g c l old))
      (tested (eqb g f))

  pub set_lawful : (m : Meaning C) (f : ℕ) (x : Length C) → allowed K (m.floor f) x ≡ true → Lawful K m → Lawful K (set_segment m f x)
  set_lawful m f x ok lawful = record {
    places_some = lawful.places_some;
    places_few = lawful.places_few;
    segments_few = lawful.segments_few;
    ways_few = lawful.ways_few;
    way_place = lawful.way_place;
    way_segment = lawful.way_segment;
    floor_segment = lawful.floor_segment;
    state_segment = λ g c l e. (set_state m f x g c l ok lawful e).0;
    state_floor = λ g c l e. (set_state m f x g c l ok lawful e).1;
    hint_within = lawful.hint_within;
    hint_self = lawful.hint_self;
    hint_way = lawful.hint_way;
  }

  -- no state falls where the new state is not under the old
  set_raises : (m : Meaning C) (f : ℕ) (x : Length C) → AtMost K (m.state f) x → (g : ℕ) → AtMost K (m.state g) ((set_segment m f x).state g)
  set_raises m f x up g = ⊎_elim
      (λ h. rw h (subst (λ y. AtMost K (m.state y) x) (sym (eqb-true g f h)) up))
      (λ h. rw h (at_most_refl laws (m.state g)))
      (tested (eqb g f))

  -- so consistent estimates stay consistent
  pub set_consistent : (m : Meaning C) (f : ℕ) (x : Length C) → AtMost K (m.state f) x → (e : ℕ → Length C) → Consistent K m e → Consistent K (set_segment m f x) e
  set_consistent m f x up e consistent s u g c h w o =
      at_most_trans laws (consistent_way laws m e consistent s u g h w) (sum_left laws (e u) (subst (λ y. AtMost K (m.state g) y) o (set_raises m f x up g)))

  pub altered_unchanged : (m : Meaning C) (f : ℕ) (x : Length C) → Lawful K (set_segment m f x) → (target : ℕ) (e : ℕ → Length C) → Sound K m target e → AtMost K (m.state f) x → (s : ℕ) → s < m.places → altered K (set_segment m f x) e s ≡ e s
  altered_unchanged m f x lawful target e sound up = altered_same laws lawful e (set_consistent m f x up e sound.consistent) sound.within
