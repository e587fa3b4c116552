-- What a site has to answer, by whether a number is in range and a setting is granted. Assumes nothing.
use Rattle.std.proofs.Common.{◌≡◌, ℕ, ◌<◌, ◌≤◌, false, Some, sym, ◌∙◌, arith}
use Rattle.std.proofs.lemmas.Bool.{lt-ltb, cond-true, cond-false}
use Rattle.std.proofs.lemmas.Bool.Decides.{nat_tests}
use Rattle.cost.specs.declared.lengths.Length.{Length}
use Rattle.cost.specs.Costs.{Kind}
use Rattle.routes.specs.Sites.{Meaning, allowed}
use Rattle.site.specs.Questions.{in_range, hint_of, can_set, after_set}

-- an answer for a number that is in range
pub there : {X : Type 0} (i n : ℕ) (x : X) → i < n → in_range i n x ≡ Some x
there i n x h = cond-true _ _ _ (lt-ltb i n h)

pub hint_there : {C : Type 0} (m : Meaning C) (s t : ℕ) → s < m.places → t < m.places → hint_of m s t ≡ Some (m.hint s t)
hint_there m s t a b = cond-true _ _ _ (lt-ltb s m.places a) ∙ cond-true _ _ _ (lt-ltb t m.places b)

-- a setting that is refused
module _ {C : Type 0} (K : Kind C) (m : Meaning C) (f : ℕ) (x : Length C) where
  pub past_refused : m.segments ≤ f → can_set K m f x ≡ false
  past_refused h = grind (arith, nat_tests)

  pub not_allowed_refused : allowed K (m.floor f) x ≡ false → can_set K m f x ≡ false
  not_allowed_refused h = grind (arith, nat_tests)

  pub refused_kept : can_set K m f x ≡ false → m ≡ after_set K m f x
  refused_kept h = sym (cond-false _ _ _ h)
