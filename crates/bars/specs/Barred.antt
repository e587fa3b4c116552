-- Bars over a site: the site below, with some segments closed and not settable. Assumes nothing.
use Rattle.std.specs.Prelude.{ℕ, Bool, false, cond, ◌||◌, List, [], ◌∷◌, ◌++◌, length, Result, ◌==◌, nat_lt}
use Rattle.std.specs.List.{list_any}
use Rattle.routes.specs.Sites.{Meaning}
use Rattle.refusals.specs.Refusals.{first_no}
use Rattle.refusals.specs.declared.Refusal.{Refusal}
use Rattle.refusals.specs.declared.Refusal.TheVariants.{UnknownSegment, BarsFull}
use Rattle.cost.specs.declared.lengths.Length.TheVariants.{Infinite}
use Rattle.bars.specs.declared.Bars.{Bars}

-- how many segments may be barred
abbrev pub most_bars : ℕ
most_bars = 64

-- the site that the bars lie over
abbrev pub below : {S : Type 0} → Bars S → S
below b = b.site

-- the barred segments, in the order in which they were named
abbrev pub barred : {S : Type 0} → Bars S → List ℕ
barred b = b.barred.items

-- is f one of these numbers?
abbrev pub among : List ℕ → ℕ → Bool
among xs f = list_any (λ x. x == f) xs

-- a site with these segments barred: closed, and not settable
abbrev pub barred_site : {C : Type 0} → Meaning C → List ℕ → Meaning C
barred_site m bars = record {
  places = m.places;
  segments = m.segments;
  ways = m.ways;
  floor = m.floor;
  state = λ f. cond (among bars f) Infinite (m.state f);
  settable = λ f. cond (among bars f) false (m.settable f);
  hint = m.hint;
}

-- what bars mean, by what the site below means
abbrev pub bars_meaning : {S C : Type 0} → (S → Meaning C) → Bars S → Meaning C
bars_meaning meaning b = barred_site (meaning (below b)) (barred b)

-- the barred segments with one more, unless it is among them
abbrev pub with_bar : List ℕ → ℕ → List ℕ
with_bar bars f = cond (among bars f) bars (bars ++ f ∷ [])

-- What barring segment f answers: it is a segment of the site, and it is barred already or fewer than 64 are.
abbrev pub bar_answer : {C : Type 0} → Meaning C → List ℕ → ℕ → Result (Unit {0}) Refusal
bar_answer m bars f = first_no ((nat_lt f m.segments, UnknownSegment) ∷ (among bars f || nat_lt (length bars) most_bars, BarsFull) ∷ [])
