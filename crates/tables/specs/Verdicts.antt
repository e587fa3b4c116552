-- The number of a verdict on a head and its tables. Assumes nothing.
use Rattle.std.specs.Prelude.{ℕ}
use Rattle.tables.specs.declared.Verdict.{Verdict}
use Rattle.tables.specs.declared.Verdict.TheVariants.{Sound, Faulty}

abbrev pub verdict_number : Verdict → ℕ
verdict_number Sound = 0
verdict_number Faulty = 28

-- a verdict tells whether the rules are kept
abbrev pub Judges : Verdict → Type 0 → Type 0
Judges Sound P = P
Judges Faulty P = P → ⊥
