-- Costs that are compared by crossings first, and by milliseconds where those are equal.
use Rattle.std.specs.Prelude.{ℕ, ◌+◌, ◌-◌, cond, ◌&&◌, ◌||◌, ◌==◌, nat_le, nat_lt}
use Rattle.cost.specs.Costs.{Kind}
use Rattle.cost.specs.Milliseconds.{ms, milliseconds}
use Rattle.cost.specs.declared.crossings_first.CrossingsFirst.{CrossingsFirst}
use Rattle.cost.specs.declared.milliseconds.Milliseconds.{Milliseconds}

-- so many crossings, and a time
abbrev with_time : ℕ → Milliseconds → CrossingsFirst
with_time n t = record { crossings = n; time = t }

-- (crossings, milliseconds)
abbrev pub pair : ℕ → ℕ → CrossingsFirst
pair n t = with_time n (ms t)

-- the greatest number of crossings on one segment
abbrev pub most_on_segment : ℕ
most_on_segment = 100

-- the ceiling of crossings: the most on a segment, as often as a cheapest route has steps
abbrev pub most_crossings : ℕ
most_crossings = 409_500

-- the kind: compared by crossings first, summed part by part
abbrev pub crossings_first : Kind CrossingsFirst
crossings_first = record {
  le = λ a b. nat_lt a.crossings b.crossings || (a.crossings == b.crossings && milliseconds.le a.time b.time);
  add = λ a b. with_time (a.crossings + b.crossings) (milliseconds.add a.time b.time);
  zero = with_time 0 milliseconds.zero;
  -- (0, 0) where g has more crossings, however long f takes
  less = λ f g. cond (nat_lt f.crossings g.crossings) (with_time 0 milliseconds.zero) (with_time (f.crossings - g.crossings) (milliseconds.less f.time g.time));
  ceiling = with_time most_crossings milliseconds.ceiling;
  -- part by part, so a cost below the ceiling need not lie within it
  within = λ a. nat_le a.crossings most_crossings && milliseconds.within a.time;
  segment = λ a. nat_le a.crossings most_on_segment && milliseconds.segment a.time;
  -- a cost with too many crossings is above the ceiling
  cut = λ a. cond (nat_le a.crossings most_crossings) (with_time a.crossings (milliseconds.cut a.time)) (with_time most_crossings milliseconds.ceiling);
}
