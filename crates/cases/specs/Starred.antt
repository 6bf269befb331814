-- All cases as one list, and the claim about them.
-- Assumes nothing.
use Rattle.std.specs.Prelude.{◌≡◌, List, ◌++◌, map}
use Rattle.cases.specs.Case.{outcome_of, Case}
use Rattle.cases.specs.Cases.{cases}
use Rattle.cases.specs.Forecasts.{forecasts}
use Rattle.cases.specs.Leftovers.{leftovers}

abbrev pub all : List Case
all = cases ++ (forecasts ++ leftovers)

-- each input has its outcome
abbrev pub Starred : Type 0
Starred = map (λ (c : Case). outcome_of c.input) all ≡ map (λ (c : Case). c.outcome) all
