-- What a sheet keeps for each place, and the orders of places by it. Assumes nothing.
use Rattle.std.specs.Prelude.{◌≡◌, ℕ, ◌<◌, ◌≤◌, Bool, false, ◌⊎◌, List, length, slice_index_or, ◌≢◌}
use Rattle.cost.specs.declared.lengths.Length.{Length}
use Rattle.cost.specs.declared.lengths.Length.TheVariants.{Infinite}
use Rattle.cost.specs.Costs.{Kind, Laws}
use Rattle.cost.specs.Lengths.{AtMost, Within, length_le, sum, lesser}
use Rattle.cost.proofs.LengthLemmas.{at_most_trans, at_most_of_not}
use Rattle.queue.specs.declared.Queue.{Queue}
use Rattle.queue.specs.Order.{Ranks}
use Rattle.queue.specs.Queues.{Queued, Ordered, Same}
use Rattle.sheet.specs.declared.Entry.{Entry}

module _ {C : Type 0} where
  -- what stands for an entry past the end of a sheet
  abbrev pub blank : Entry C
  blank = record { estimate = Infinite; distance = Infinite; link = 0; mark = false }

  abbrev pub estimate_of : List (Entry C) → ℕ → Length C
  estimate_of sheet p = (slice_index_or sheet p blank).estimate

  abbrev pub distance_of : List (Entry C) → ℕ → Length C
  distance_of sheet p = (slice_index_or sheet p blank).distance

  abbrev pub link_of : List (Entry C) → ℕ → ℕ
  link_of sheet p = (slice_index_or sheet p blank).link

  abbrev pub mark_of : List (Entry C) → ℕ → Bool
  mark_of sheet p = (slice_index_or sheet p blank).mark

  abbrev pub with_estimate : Entry C → Length C → Entry C
  with_estimate e v = record { estimate = v; distance = e.distance; link = e.link; mark = e.mark }

  -- only the estimates of the first n entries may differ
  pub record Kept (n : ℕ) (before after : List (Entry C)) : Type 0 where
    pub long : length after ≡ length before
    pub others : (k : ℕ) → slice_index_or after k blank ≡ with_estimate (slice_index_or before k blank) (estimate_of after k)
    pub beyond : (k : ℕ) → n ≤ k → slice_index_or after k blank ≡ slice_index_or before k blank

  -- the first n estimates are those given, and all else is kept
  pub record Filled (e : ℕ → Length C) (n : ℕ) (before after : List (Entry C)) : Type 0 where
    pub estimates : (s : ℕ) → s < n → estimate_of after s ≡ e s
    pub kept : Kept n before after

  -- the place has an entry, from which a key can be worked out
  pub record Keyed (reads : Entry C → Type 0) (sheet : List (Entry C)) (p : ℕ) : Type 0 where
    pub listed : p < length sheet
    pub readable : reads (slice_index_or sheet p blank)

  -- places compared by a key of their entries
  abbrev pub by : Kind C → (Entry C → Length C) → List (Entry C) → ℕ → ℕ → Bool
  by K key sheet a b = length_le K (key (slice_index_or sheet a blank)) (key (slice_index_or sheet b blank))

  -- the keys: the estimate, which every entry has, and the sum
  abbrev pub HasEstimate : Kind C → Entry C → Type 0
  HasEstimate K e = Unit {0}

  abbrev pub estimate_key : Kind C → Entry C → Length C
  estimate_key K e = e.estimate

  pub record HasSum (K : Kind C) (e : Entry C) : Type 0 where
    pub distance : Within K e.distance
    pub estimate : Within K e.estimate

  abbrev pub sum_key : Kind C → Entry C → Length C
  sum_key K e = sum K e.distance e.estimate

module _ {C : Type 0} (K : Kind C) (sheet : List (Entry C)) where
  abbrev pub sum_of : ℕ → Length C
  sum_of p = sum K (distance_of sheet p) (estimate_of sheet p)

  abbrev pub by_sum : ℕ → ℕ → Bool
  by_sum = by K (sum_key K) sheet

  abbrev pub by_estimate : ℕ → ℕ → Bool
  by_estimate = by K (estimate_key K) sheet

  -- the places that have an entry
  abbrev pub IsListed : ℕ → Type 0
  IsListed = Keyed (HasEstimate K) sheet

  -- the places whose sum can be worked out
  abbrev pub Summable : ℕ → Type 0
  Summable = Keyed (HasSum K) sheet

-- places compared by any length that is kept for each
pub ranks_by : {C : Type 0} {K : Kind C} → Laws K → (key : ℕ → Length C) → Ranks (λ a b. length_le K (key a) (key b))
ranks_by {K = K} laws key = record {
  total = λ a b h. let p : AtMost K (key b) (key a) = at_most_of_not laws h in p.holds;
  chain = λ a b c h k. let p : AtMost K (key a) (key b) = record { holds = h } in let q : AtMost K (key b) (key c) = record { holds = k } in (at_most_trans laws p q).holds;
}

-- places compared by any key of their entries
pub ranks_by_key : {C : Type 0} {K : Kind C} → Laws K → (key : Entry C → Length C) (sheet : List (Entry C)) → Ranks (by K key sheet)
ranks_by_key laws key sheet = ranks_by laws (λ p. key (slice_index_or sheet p blank))

-- the entry with a distance by way of another place
abbrev pub reached : {C : Type 0} → Entry C → Length C → ℕ → Entry C
reached e d from = record { estimate = e.estimate; distance = d; link = from; mark = e.mark }

-- A place is offered a distance by way of another, and takes it if it is less than its own; it is queued then unless its estimate is infinite.
pub record Relaxed {C : Type 0} (K : Kind C) (sheet after : List (Entry C)) (q r : Queue) (from place : ℕ) (d : Length C) : Type 0 where
  pub others : (y : ℕ) → (y ≢ place) → slice_index_or after y blank ≡ slice_index_or sheet y blank
  pub estimate : estimate_of after place ≡ estimate_of sheet place
  pub mark : mark_of after place ≡ mark_of sheet place
  pub distance : distance_of after place ≡ lesser K (distance_of sheet place) d
  pub link : (slice_index_or after place blank ≡ slice_index_or sheet place blank) ⊎ ((distance_of after place ≡ d) × (link_of after place ≡ from))
  pub same : Same q r
  pub ordered : Ordered (Summable K after) (by_sum K after) r
  pub old : (y : ℕ) → Queued q y → Queued r y
  pub only : (y : ℕ) → Queued r y → Queued q y ⊎ ((y ≡ place) × (length_le K (distance_of sheet place) (distance_of after place) ≡ false))
  pub new : (slice_index_or after place blank ≡ slice_index_or sheet place blank) ⊎ ((estimate_of after place ≡ Infinite) ⊎ Queued r place)
