-- A table of answers: the first row that holds (RULES 5). Assumes nothing.
use Rattle.std.specs.Prelude.{Bool, cond, List, [], ◌∷◌}

-- each row is an answer and when it is given; none of them: the last
abbrev pub first : {A : Type 0} → List (A × Bool) → A → A
first [] last = last
first (r ∷ rows) last = cond r.1 r.0 (first rows last)
